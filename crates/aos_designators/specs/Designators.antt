-- Designators: what a name, or a name behind that of a module, stands for, and what is known of it.
use Rattle.std.specs.Prelude.{ℕ, List, [], ◌++◌, Bool, true, false, not, ◌==◌, ◌&&◌, ◌||◌, Option, Some, None, is_some, option_and_then, if◌then◌else◌, slice_get, fold}
use Rattle.aos_base.specs.declared.text.Pos.{Pos}
use Rattle.aos_tree.specs.declared.name.Name.{Name}
use Rattle.aos_tree.specs.declared.decl.Export.{Export}
use Rattle.aos_tree.specs.declared.decl.Export.TheVariants.{ReadWrite, ReadOnly as OnlyRead}
use Rattle.aos_types.specs.declared.row.TypeId.{TypeId}
use Rattle.aos_types.specs.declared.row.TypeRow.{TypeRow}
use Rattle.aos_types.specs.declared.row.TypeRow.TheVariants as row
use Rattle.aos_types.specs.declared.signature.Parameter.{Parameter}
use Rattle.aos_types.specs.declared.signature.Signature.{Signature}
use Rattle.aos_typed.specs.declared.tree.Literal.{Literal}
use Rattle.aos_typed.specs.declared.tree.Literal.TheVariants as literal
use Rattle.aos_typed.specs.Program.{Place, ModuleVar, Local, Passed, Index, Of, Deref, Guarded, Opened, Row, Spread, Expr, SelfRef, Guard, ProcedureOf, Field as FieldOf}
use Rattle.aos_typed.specs.Open.{open_dimensions, open_element}
use Rattle.aos_symbols.specs.declared.breach.Breach.{Breach}
use Rattle.aos_symbols.specs.declared.scope.Meaning.{Meaning}
use Rattle.aos_symbols.specs.declared.scope.Meaning.TheVariants as means
use Rattle.aos_symbols.specs.declared.env.Open.{Open}
use Rattle.aos_symbols.specs.declared.env.Symbol.{Symbol}
use Rattle.aos_members.specs.declared.fields.Field.{Field}
use Rattle.aos_symbols.specs.declared.env.Narrowed.{Narrowed}
use Rattle.aos_symbols.specs.declared.env.Lookup.{Lookup}
use Rattle.aos_symbols.specs.declared.env.Lookup.TheVariants.{Unknown as NoName, NotExported, Found}
use Rattle.aos_symbols.specs.declared.env.Env.{Env}
use Rattle.aos_symbols.specs.Breaches.{breach, breach_unless}
use Rattle.aos_symbols.specs.Judged.{Judged, judged, kept, bind}
use Rattle.aos_symbols.specs.Spelling.{word, is_among, procedures_of_out}
use Rattle.aos_members.specs.Members as members
use Rattle.aos_symbols.specs.Env as env
use Rattle.aos_known.specs.declared.known.Class.{Class}
use Rattle.aos_known.specs.declared.known.Class.TheVariants.{Unknown, Constant, Variable, ReadOnly, Computed, Procedure}
use Rattle.aos_known.specs.Known.{Answer, Entity, Held, Stands, Value, passes, is_basic, is_number, object_number, type_as, unknown, constant_answer, answered, nothing, entity_of, read_from, known_as, value_class, lost}
pub use Rattle.aos_known.specs.Known.{refused, refused_value, refused_variable}
pub use Rattle.aos_known.specs.Kinds.{has_parts, is_opened, is_record_type, is_pointer_type, is_object_type, is_reference, is_procedural, is_value, is_built, pointed_in, pointed, made_as, made_number, has_dynamic_type, is_extension, may_test}
pub use Rattle.aos_known.specs.Places.{place_of, place_in, is_passed, rows_of}
use Rattle.aos_designators.specs.declared.designators.Head.{Head}

-- A head is what is found of a name, the name, and where the designator begins.

abbrev pub plain : Env → Name → Head
plain e n = record { found = env.lookup e n; name = n; first = n.pos }

abbrev pub is_module_meaning : Meaning → Bool
is_module_meaning (means.Module m) = true
is_module_meaning means.Out = true
is_module_meaning (means.Constant k) = false
is_module_meaning (means.Type of) = false
is_module_meaning (means.Variable k) = false
is_module_meaning (means.Procedure k) = false
is_module_meaning (means.Truth b) = false
is_module_meaning (means.Function f) = false
is_module_meaning (means.Routine r) = false
is_module_meaning means.Proper = false
is_module_meaning means.Itself = false
is_module_meaning means.Other = false

abbrev pub is_module : Lookup → Bool
is_module NoName = false
is_module NotExported = false
is_module (Found x) = is_module_meaning x.means

-- the procedures of Out are proper ones
abbrev pub member_of_out : Env → Name → Lookup
member_of_out e n =
    if is_among procedures_of_out (word e.here.text n)
    then Found (record { at = env.own e.number; mark = None; means = means.Proper })
    else NoName

abbrev pub member_of : Env → Meaning → Name → Lookup
member_of e (means.Module m) n = env.member e m n
member_of e means.Out n = member_of_out e n
member_of e m n = NoName

abbrev pub member_in : Env → Lookup → Name → Lookup
member_in e NoName n = NoName
member_in e NotExported n = NotExported
member_in e (Found x) n = member_of e x.means n

-- a name behind that of a module
abbrev pub member : Env → Name → Name → Head
member e m n = record { found = member_in e (env.lookup e m) n; name = n; first = m.pos }

-- the same, where what is found of the module's name is known
abbrev pub member_behind : Env → Head → Name → Head
member_behind e h n = record { found = member_in e h.found n; name = n; first = h.first }

-- a name marked `-` may only be read in other modules
abbrev pub access : Bool → Option Export → Class
access here None = Variable
access here (Some ReadWrite) = Variable
access here (Some OnlyRead) = if here then Variable else ReadOnly

abbrev pub denoted : Pos → Judged Answer → Judged Entity
denoted at j = bind j (λ a. kept (entity_of at a))

-- a constant that is declared later has no value here
abbrev pub constant_of : Option (Option Literal) → Pos → Judged Answer
constant_of None at = judged (lost (Constant None) at) (answered (Constant None) None nothing)
constant_of (Some None) at = kept unknown
constant_of (Some (Some v)) at = kept (constant_answer v)

-- Parts of variables.

-- a selector that a type hasn't; what types that aren't built have isn't built either. No part is a constant, whatever it breaks
abbrev pub lacking : Env → TypeId → Pos → Judged Entity
lacking e t at = denoted at (refused_variable (if is_built e t then 42 else 99) at)

-- a part of a variable is one, and may be written where that may
abbrev pub part_class : Bool → Class → Class
part_class may Variable = if may then Variable else ReadOnly
part_class may Unknown = Unknown
part_class may (Constant v) = Constant v
part_class may ReadOnly = ReadOnly
part_class may Computed = Computed
part_class may (Procedure m n) = Procedure m n

abbrev pub part_held : (Place → Place) → Held → Held
part_held part (Stands p) = Stands (part p)
part_held part (Value x) = Value x

abbrev pub part_entity : Bool → Option TypeId → (Place → Place) → Pos → Entity → Entity
part_entity may of part at a = record { known = known_as (part_class may a.known.class) of; held = part_held part a.held; at = at }

-- a part of what may be anything may be anything, as a variable where the whole is one, and breaks no rule of its own
abbrev pub unknown_part : Pos → Entity → Entity
unknown_part at a = record { known = known_as a.known.class None; held = a.held; at = at }

-- What a pointer leads to is a variable, whatever the pointer is.

abbrev pub followed_class : Class → Class
followed_class Unknown = Unknown
followed_class c = Variable

abbrev pub followed_place : Env → TypeId → Expr → Place
followed_place e u x = if is_opened e u then Of (Spread x (open_dimensions e.types u)) else Deref x (type_as u)

abbrev pub followed_entity : Env → TypeId → Entity → Entity
followed_entity e u a =
    record {
      known = known_as (followed_class a.known.class) (Some u);
      held = Stands (followed_place e u (read_from a.known.of a.held));
      at = a.at;
    }

-- `x^`
abbrev pub followed_type : Env → Entity → Pos → TypeId → Option TypeId → Judged Entity
followed_type e a p t None = lacking e t p
followed_type e a p t (Some u) = kept (followed_entity e u a)

abbrev pub followed : Env → Entity → Pos → Judged Entity
followed e a p = by a.known.of
  where
    by : Option TypeId → Judged Entity
    by None = kept (unknown_part a.at a)
    by (Some t) = followed_type e a p t (pointed e t)

-- `.f` and `[i]` behind a pointer are those of what it leads to
abbrev pub through : Env → Entity → Entity
through e a = by a.known.of
  where
    lead : Option TypeId → Entity
    lead None = a
    lead (Some u) = followed_entity e u a

    by : Option TypeId → Entity
    by None = a
    by (Some t) = lead (pointed e t)

-- Guards, of an object, or of the record that a VAR parameter stands for.

-- a guarded object is no variable; a guarded record is one where the record was
abbrev pub guarded_object : Env → TypeId → Entity → Entity
guarded_object e t a =
    record {
      known = known_as (value_class a.known.class) (Some t);
      held = Value (Guard (read_from a.known.of a.held) (made_number e t));
      at = a.at;
    }

abbrev pub guarded_record : TypeId → Entity → Entity
guarded_record t a =
    record {
      known = known_as a.known.class (Some t);
      held = part_held (λ p. Guarded p (object_number t)) a.held;
      at = a.at;
    }

abbrev pub guarded_entity : Env → TypeId → Entity → Entity
guarded_entity e t a = by a.known.of
  where
    by : Option TypeId → Entity
    by None = unknown_part a.at a
    by (Some of) = if is_record_type e of then guarded_record t a else guarded_object e t a

-- a guard with a type, of what isn't known where the type isn't
abbrev pub guarded_with : Env → Option TypeId → Entity → Entity
guarded_with e None a = unknown_part a.at a
guarded_with e (Some t) a = guarded_entity e t a

-- where the guard stands at a place
abbrev pub guard : Env → Pos → Entity → Option TypeId → Judged Entity
guard e at a t =
    if may_test e (is_passed (place_of a.held)) a.known.of t then kept (guarded_with e t a) else denoted a.at (refused_variable 41 at)

-- a bracket behind what can't be called, in a designator that begins at a place: a guard where the name of a type stands in it
abbrev pub guarded : Env → (first at : Pos) → Entity → Option (Option TypeId) → Judged Entity
guarded e first at a t = by a.known.of t
  where
    by : Option TypeId → Option (Option TypeId) → Judged Entity
    by None t = kept (unknown_part a.at a)
    by (Some of) None = denoted a.at (refused_variable 36 first)
    by (Some of) (Some None) = denoted a.at (refused 99 at)
    by (Some of) (Some (Some t)) = guard e at a (Some t)

-- within WITHs a variable that they narrow is guarded with their types, that of the outermost first
abbrev pub is_narrowed : Symbol → ℕ → Narrowed → Bool
is_narrowed x k v = (v.at.home == x.at.home && v.at.scope == x.at.scope) && v.number == k

abbrev pub narrowed_by : Env → Symbol → ℕ → Entity → Narrowed → Entity
narrowed_by e x k a v = if is_narrowed x k v then guarded_entity e v.of a else a

abbrev pub narrowed : Env → Symbol → ℕ → Entity → Entity
narrowed e x k a = fold (narrowed_by e x k) a e.narrowed

-- Variables. Those of a procedure are numbered in its scope: its parameters come first. An open array is found with the lengths of its
-- open dimensions, and stands for the array of these rows.

abbrev pub unopened_place : ℕ → Parameter → Place
unopened_place k a = if a.by_reference then Passed k else Local k

abbrev pub parameter_place : Env → ℕ → Parameter → Place
parameter_place e k a = by a.of
  where
    by : Option TypeId → Place
    by None = unopened_place k a
    by (Some t) = if is_opened e t then Of (Opened k (open_dimensions e.types t)) else unopened_place k a

-- the parameter with this number of the procedure in which the place stands
abbrev pub own_parameter : Env → ℕ → Option Parameter
own_parameter e k = option_and_then (λ s. slice_get s.parameters k) (env.own_signature e)

abbrev pub own_place : Env → ℕ → Place
own_place e k = by (own_parameter e k)
  where
    by : Option Parameter → Place
    by None = Local k
    by (Some a) = parameter_place e k a

abbrev pub is_of_module : Symbol → Bool
is_of_module x = x.at.scope == 0

-- a scope is that of the procedure in which the place stands
abbrev pub is_own_scope : Env → Open → Bool
is_own_scope e o = (o.home == e.number && o.scope == env.innermost e.path) && is_some (env.own_signature e)

-- a field of SELF, by the field's number
abbrev pub self_place : TypeId → ℕ → Place
self_place t number = FieldOf (Deref SelfRef (type_as t)) (type_as t) number

-- by SELF's type and the one that declares the field
abbrev pub declared_place : Env → Option TypeId → Option TypeId → ℕ → Place
declared_place e (Some t) (Some b) k = self_place t (members.field_number e b k)
declared_place e _ _ k = Local k

abbrev pub inner_place : Env → Open → ℕ → Place
inner_place e o k = declared_place e e.self_type (members.object_at e o) k

abbrev pub place_in_scope : Env → Open → ℕ → Place
place_in_scope e o k = if is_own_scope e o then own_place e k else inner_place e o k

abbrev pub place_of_variable : Env → Symbol → ℕ → Place
place_of_variable e x k = if is_of_module x then ModuleVar x.at.home k else place_in_scope e x.at k

abbrev pub variable : Env → Symbol → ℕ → Pos → Entity
variable e x k at =
    record {
      known = known_as (access (x.at.home == e.number) x.mark) (env.variable_type e x.at k);
      held = Stands (place_of_variable e x k);
      at = at;
    }

-- as the WITHs around it narrow it
abbrev pub variable_entity : Env → Symbol → ℕ → Pos → Entity
variable_entity e x k at = narrowed e x k (variable e x k at)

-- the variable that a name stands for, where it stands for one
abbrev pub variable_meant : Env → Symbol → Meaning → Pos → Option Entity
variable_meant e x (means.Variable k) at = Some (variable_entity e x k at)
variable_meant e x m at = None

abbrev pub variable_named : Env → Head → Option Entity
variable_named e h = by h.found
  where
    by : Lookup → Option Entity
    by NoName = None
    by NotExported = None
    by (Found x) = variable_meant e x x.means h.name.pos

-- SELF, which is a value in the methods and the body of an object type, and elsewhere may be anything
abbrev pub self_entity : TypeId → Pos → Entity
self_entity t at = record { known = known_as Computed (Some t); held = Value SelfRef; at = at }

abbrev pub self_of : Option TypeId → Pos → Judged Entity
self_of None at = denoted at (refused 46 at)
self_of (Some t) at = kept (self_entity t at)

abbrev pub itself : Env → Pos → Judged Entity
itself e at = self_of e.self_type at

-- a procedure as a value: its signature has these numbers. Where its heading isn't met yet a constant is needed
abbrev pub procedure_entity : Env → (home number : ℕ) → Expr → (first at : Pos) → Judged Entity
procedure_entity e m k x first at = by (env.signature e m k)
  where
    by : Option Signature → Judged Entity
    by None = denoted at (refused_value 20 first)
    by (Some s) = kept (record { known = known_as (Procedure m k) (Some (env.procedure e)); held = Value x; at = at })

-- what a name stands for that is no call: the name of a type or a module is no value, nor is a predeclared procedure
abbrev pub meant_otherwise : Meaning → Head → Judged Entity
meant_otherwise (means.Type of) h = denoted h.name.pos (refused 16 h.name.pos)
meant_otherwise (means.Module m) h = denoted h.name.pos (refused 16 h.name.pos)
meant_otherwise means.Out h = denoted h.name.pos (refused 16 h.name.pos)
meant_otherwise (means.Truth b) h = denoted h.name.pos (kept (constant_answer (literal.Bool b)))
meant_otherwise (means.Function f) h = denoted h.name.pos (refused_value 36 h.first)
meant_otherwise (means.Routine r) h = denoted h.name.pos (refused_value 36 h.first)
meant_otherwise means.Proper h = denoted h.name.pos (refused_value 36 h.first)
meant_otherwise m h = denoted h.name.pos (refused_value 99 h.first)

abbrev pub procedure_meant : Env → Symbol → ℕ → Head → Judged Entity
procedure_meant e x k h =
    if is_of_module x then procedure_entity e x.at.home k (ProcedureOf x.at.home k) h.first h.name.pos
    else meant_otherwise (means.Procedure k) h

abbrev pub meant : Env → Symbol → Meaning → Head → Judged Entity
meant e x (means.Variable k) h = kept (variable_entity e x k h.name.pos)
meant e x (means.Constant k) h = denoted h.name.pos (constant_of (env.constant e x.at k h.first) h.name.pos)
meant e x (means.Procedure k) h = procedure_meant e x k h
meant e x means.Itself h = itself e h.name.pos
meant e x m h = meant_otherwise m h

abbrev pub found : Env → Lookup → Head → Judged Entity
found e NoName h = denoted h.name.pos (refused 14 h.name.pos)
found e NotExported h = denoted h.name.pos (refused 15 h.name.pos)
found e (Found x) h = meant e x x.means h

abbrev pub named : Env → Head → Judged Entity
named e h = found e h.found h

-- a field of a record or an object; one marked `-` may only be read in other modules
abbrev pub may_write : Field → Bool
may_write f = f.is_own || not (is_read_only f.mark)
  where
    is_read_only : Option Export → Bool
    is_read_only (Some OnlyRead) = true
    is_read_only m = false

-- that of an object is a variable, whatever the object is
abbrev pub object_field : TypeId → Field → Pos → Entity → Entity
object_field t f at a =
    record {
      known = known_as (part_class (may_write f) (followed_class a.known.class)) f.of;
      held = Stands (FieldOf (Deref (read_from a.known.of a.held) (type_as t)) (type_as t) f.number);
      at = at;
    }

abbrev pub field_entity : Env → TypeId → Field → Pos → Entity → Entity
field_entity e t f at a =
    if is_object_type e t then object_field t f at a
    else part_entity (may_write f) f.of (λ p. FieldOf p (type_as t) f.number) at a

-- with a point at a place: a field of another module's type has an export mark
abbrev pub field_found : Env → Entity → Pos → Name → TypeId → Option Field → Judged Entity
field_found e a p n t None = lacking e t p
field_found e a p n t (Some f) =
    if f.is_own || is_some f.mark then kept (field_entity e t f n.pos a) else denoted n.pos (refused_variable 15 n.pos)

abbrev pub has_fields : Env → TypeId → Bool
has_fields e t = is_record_type e t || is_object_type e t

abbrev pub field_of : Env → Entity → Pos → Name → Judged Entity
field_of e a p n = by a.known.of
  where
    by : Option TypeId → Judged Entity
    by None = kept (unknown_part n.pos a)
    by (Some t) = if has_fields e t then field_found e a p n t (members.field e t n) else lacking e t p

abbrev pub field : Env → Entity → Pos → Name → Judged Entity
field e a p n = field_of e (through e a) p n

-- an element of an array, by an index of an integer type, with the bracket at a place
abbrev pub element_entity : ℕ → TypeId → Answer → Entity → Entity
element_entity m u i a = part_entity true (Some u) (λ p. Index p m (type_as u) i.typed) a.at a

abbrev pub element_found : ℕ → TypeId → Pos → Entity → Answer → Judged Entity
element_found m u p a i = if is_number i.known.of then kept (element_entity m u i a) else denoted p (refused_variable 42 p)

-- an element of an open array, which has one dimension less. The elements behind all its dimensions are of a type
abbrev pub row_entity : (of u : TypeId) → Answer → Entity → Entity
row_entity of u i a = part_entity true (Some u) (λ p. Of (Row (rows_of p) (type_as of) i.typed)) a.at a

abbrev pub row_found : (of u : TypeId) → Pos → Entity → Answer → Judged Entity
row_found of u p a i = if is_number i.known.of then kept (row_entity of u i a) else denoted p (refused_variable 42 p)

abbrev pub element_in_row : Env → Pos → Entity → Answer → TypeId → Option TypeRow → Judged Entity
element_in_row e p a i t (Some (row.Array m u)) = element_found m u p a i
element_in_row e p a i t (Some (row.Open u)) = row_found (open_element e.types t) u p a i
element_in_row e p a i t r = lacking e t p

abbrev pub element_of : Env → Pos → Entity → Answer → Judged Entity
element_of e p a i = by a.known.of
  where
    by : Option TypeId → Judged Entity
    by None = kept (unknown_part a.at a)
    by (Some t) = if is_basic t then lacking e t p else element_in_row e p a i t (env.row_of e (Some t))

abbrev pub element : Env → Pos → Entity → Answer → Judged Entity
element e p a i = element_of e p (through e a) i

-- a variable of a type that isn't built yet can't be read
abbrev pub read : Env → Entity → Judged Answer
read e a =
    let own = breach_unless (passes (is_built e) a.known.of) 99 a.at in
    judged own (record { known = a.known; typed = read_from a.known.of a.held })

-- a designator that is assigned: a variable, which may be written, of a type that is built
abbrev pub written : Class → Pos → List Breach
written Unknown first = []
written Variable first = []
written ReadOnly first = breach 33 first
written (Constant v) first = breach 32 first
written Computed first = breach 32 first
written (Procedure m n) first = breach 32 first

abbrev pub assigned : Env → Pos → Entity → Judged Entity
assigned e first a = judged (written a.known.class first ++ breach_unless (passes (is_built e) a.known.of) 99 a.at) a
