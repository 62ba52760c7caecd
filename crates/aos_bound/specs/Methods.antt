-- Methods, and what a designator is so far: a name, a variable or a value, or what waits for its bracket.
use Rattle.std.specs.Option.{option_or}
use Rattle.std.specs.Prelude.{Bool, true, false, not, ◌||◌, Option, Some, None, is_some, option_map, option_and_then, if◌then◌else◌}
use Rattle.aos_base.specs.declared.text.Pos.{Pos}
use Rattle.aos_tree.specs.declared.name.Name.{Name}
use Rattle.aos_types.specs.declared.row.TypeId.{TypeId}
use Rattle.aos_types.specs.Table.{row_of, base_of}
use Rattle.aos_typed.specs.Program.{Callee as TypedCallee, Plain, Dispatched, Upper, Through, Expr as Typed, ProcedureOf, MethodOf, SelfRef}
use Rattle.aos_symbols.specs.declared.scope.Meaning.{Meaning}
use Rattle.aos_symbols.specs.declared.scope.Meaning.TheVariants as means
use Rattle.aos_members.specs.declared.objects.Method.{Method}
use Rattle.aos_symbols.specs.declared.env.Symbol.{Symbol}
use Rattle.aos_symbols.specs.declared.env.Lookup.{Lookup}
use Rattle.aos_symbols.specs.declared.env.Lookup.TheVariants.{Unknown as NoName, NotExported, Found}
use Rattle.aos_symbols.specs.declared.env.Env.{Env}
use Rattle.aos_symbols.specs.Judged.{Judged, kept, bind}
use Rattle.aos_members.specs.Members as members
use Rattle.aos_known.specs.Known.{Entity, is, object_number, read_from}
use Rattle.aos_designators.specs.declared.designators.Head.{Head}
use Rattle.aos_bound.specs.declared.methods.Heading.{Heading}
use Rattle.aos_bound.specs.declared.methods.Heading.TheVariants as heading
use Rattle.aos_designators.specs.Designators as desig

-- a method, or what a value of a procedure type stands for, that waits for its bracket: what is called, its heading, and where its
-- designator begins
pub record Bound : Type 0 where
  pub callee : TypedCallee
  pub heading : Heading
  pub first : Pos

-- what a designator is so far: a name, which a bracket may call, a variable or a value, or what waits for its bracket
pub data Part : Type 0 where
  Begun : Head → Part
  Meant : Entity → Part
  Waits : Bound → Part

abbrev pub as_part : Judged Entity → Judged Part
as_part j = bind j (λ a. kept (Meant a))

-- Methods. One is called on an object, of which a type is known, and dispatched by the object's own type.
abbrev pub dispatched : Pos → Typed → TypeId → Method → Bound
dispatched first x t m =
    record { callee = Dispatched x (object_number t) m.slot; heading = heading.Declared m.home m.number; first = first }

-- the method that a plain name stands for, which is called on SELF
abbrev pub method_meant : Symbol → Meaning → Bool
method_meant x (means.Procedure k) = not (desig.is_of_module x)
method_meant x m = false

abbrev pub is_method : Lookup → Bool
is_method NoName = false
is_method NotExported = false
is_method (Found x) = method_meant x x.means

-- a procedure, whoever declares it
abbrev pub is_procedure_meaning : Meaning → Bool
is_procedure_meaning (means.Procedure k) = true
is_procedure_meaning (means.Function f) = true
is_procedure_meaning (means.Routine r) = true
is_procedure_meaning means.Proper = true
is_procedure_meaning m = false

abbrev pub is_callable : Lookup → Bool
is_callable NoName = false
is_callable NotExported = false
is_callable (Found x) = is_procedure_meaning x.means

abbrev pub method_on : Env → TypeId → Head → Option Bound
method_on e t h = option_map (dispatched h.first SelfRef t) (members.method e t h.name)

abbrev pub own_method : Env → Head → Option Bound
own_method e h = if is_method h.found then option_and_then (λ t. method_on e t h) e.self_type else None

-- `m^` is the method that a base of SELF's type has, where the type itself declares m
abbrev pub upper_method : Pos → TypeId → Method → Bound
upper_method first b m =
    record { callee = Upper (object_number b) m.slot; heading = heading.Declared m.home m.number; first = first }

abbrev pub declares : TypeId → Option Method → Bool
declares t None = false
declares t (Some m) = is t m.of

abbrev pub upper_of : Env → Head → TypeId → Option Bound
upper_of e h t =
    if declares t (members.method e t h.name)
    then option_and_then (λ b. option_map (upper_method h.first b) (members.method e b h.name)) (base_of (row_of e.types t))
    else None

abbrev pub upper_here : Env → Head → Option Bound
upper_here e h = option_and_then (λ t. upper_of e h t) e.self_type

abbrev pub raised_to : Option Bound → Pos → Pos → Judged Part
raised_to None first p = as_part (desig.denoted first (desig.refused_variable 46 p))
raised_to (Some b) first p = kept (Waits b)

abbrev pub raised : Env → Head → Pos → Judged Part
raised e h p = raised_to (upper_here e h) h.first p

-- a method that isn't called is a procedure as a value, with its object, and `m^` is none
abbrev pub value_called : TypedCallee → Option Typed
value_called (Plain m k) = Some (ProcedureOf m k)
value_called (Dispatched x t k) = Some (MethodOf x t k)
value_called (Upper t k) = None
value_called (Through x t) = None

abbrev pub unbound : Env → Bound → Judged Entity
unbound e b = by b.heading (value_called b.callee)
  where
    by : Heading → Option Typed → Judged Entity
    by (heading.Declared m k) (Some x) = desig.procedure_entity e m k x b.first b.first
    by h x = desig.denoted b.first (desig.refused_value 36 b.first)

-- as a variable or a value
abbrev pub named_or_bound : Env → Head → Option Bound → Judged Entity
named_or_bound e h None = desig.named e h
named_or_bound e h (Some b) = unbound e b

abbrev pub entity_of_part : Env → Part → Judged Entity
entity_of_part e (Begun h) = named_or_bound e h (own_method e h)
entity_of_part e (Meant a) = kept a
entity_of_part e (Waits b) = unbound e b

-- the same, before a selector at a place, which procedures haven't
abbrev pub selected_name : Env → Pos → Head → Judged Entity
selected_name e p h = if is_callable h.found then desig.denoted h.first (desig.refused_variable 42 p) else desig.named e h

abbrev pub selected : Env → Pos → Part → Judged Entity
selected e p (Begun h) = selected_name e p h
selected e p (Meant a) = kept a
selected e p (Waits b) = desig.denoted b.first (desig.refused_variable 42 p)

-- a point behind a variable or a value, in a designator that begins here: a method of an object, or a field
abbrev pub method_found : (first : Pos) → Entity → Name → TypeId → Method → Judged Part
method_found first a n t m =
    if m.is_own || is_some m.mark
    then kept (Waits (dispatched first (read_from a.known.of a.held) t m))
    else as_part (desig.denoted n.pos (desig.refused_variable 15 n.pos))

abbrev pub method_in : Env → TypeId → Name → Option Method
method_in e t n = if desig.is_object_type e t then members.method e t n else None

abbrev pub method_of : Env → Option TypeId → Name → Option Method
method_of e of n = option_and_then (λ t. method_in e t n) of

abbrev pub pointed_as : Env → (first : Pos) → Entity → Pos → Name → Option TypeId → Option Method → Judged Part
pointed_as e first a p n (Some t) (Some m) = method_found first a n t m
pointed_as e first a p n _ _ = as_part (desig.field e a p n)

abbrev pub pointed_entity : Env → (first : Pos) → Entity → Pos → Name → Judged Part
pointed_entity e first a p n = pointed_as e first a p n a.known.of (method_of e a.known.of n)

abbrev pub pointed_name : Env → (first : Pos) → Head → Pos → Name → Judged Part
pointed_name e first h p n = bind (selected_name e p h) (λ a. pointed_entity e first a p n)

-- a point behind what there is so far: a name of a module, a field, or a method
abbrev pub pointed : Env → (first : Pos) → Part → Pos → Name → Judged Part
pointed e first (Begun h) p n =
    if desig.is_module h.found then kept (Begun (desig.member_behind e h n))
    else pointed_name e first h p n
pointed e first (Meant a) p n = pointed_entity e first a p n
pointed e first (Waits b) p n = as_part (selected e p (Waits b))

-- `^` behind it
abbrev pub followed_entity : Env → Part → Pos → Judged Part
followed_entity e a p = as_part (bind (selected e p a) (λ b. desig.followed e b p))

abbrev pub followed_part : Env → Part → Pos → Judged Part
followed_part e (Begun h) p = if is_method h.found then raised e h p else followed_entity e (Begun h) p
followed_part e (Meant a) p = followed_entity e (Meant a) p
followed_part e (Waits b) p = followed_entity e (Waits b) p

-- Before a bracket a plain name that stands for a method is that, and a value of a procedure type is what it stands for.
abbrev pub through : (first : Pos) → Entity → TypeId → Bound
through first a t =
    record { callee = Through (read_from a.known.of a.held) (object_number t); heading = heading.OfType t; first = first }

abbrev pub bound_value : Env → (first : Pos) → Entity → Option Bound
bound_value e first a = by a.known.of
  where
    by : Option TypeId → Option Bound
    by None = None
    by (Some t) = if desig.is_procedural e t then Some (through first a t) else None

abbrev pub bound_head : Env → Head → Option Bound
bound_head e h = option_or (own_method e h) (option_and_then (bound_value e h.first) (desig.variable_named e h))

abbrev pub bound_or : Part → Option Bound → Part
bound_or a None = a
bound_or a (Some b) = Waits b

abbrev pub bound_part : Env → (first : Pos) → Part → Part
bound_part e first (Begun h) = bound_or (Begun h) (bound_head e h)
bound_part e first (Meant a) = bound_or (Meant a) (bound_value e first a)
bound_part e first (Waits b) = Waits b
