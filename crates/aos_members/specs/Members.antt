-- What types have as members: the fields of records and objects, counted on from those of their bases; object types with their scopes,
-- their methods and slots, and their initializers; and the members of all types as numbers.
use Rattle.std.specs.Prelude.{◌≡◌, ℕ, zero, suc, ◌+◌, List, [], ◌∷◌, ◌++◌, length, Bool, true, false, ◌==◌, ◌&&◌, Option, Some, None, option_map, option_and_then, if◌then◌else◌, slice_get, map}
use Rattle.std.specs.List.{flat_map, list_any, range_with_len}
use Rattle.std.specs.Option.{option_or}
use Rattle.aos_tree.specs.declared.name.Name.{Name}
use Rattle.aos_tree.specs.declared.decl.Export.{Export}
use Rattle.aos_types.specs.declared.row.TypeId.{TypeId}
use Rattle.aos_types.specs.declared.row.TypeRow.{TypeRow}
use Rattle.aos_types.specs.declared.row.TypeRow.TheVariants as row
use Rattle.aos_types.specs.Table.{row_of as row_in, base_of, is_object as is_object_in}
use Rattle.aos_symbols.specs.declared.scope.Meaning.{Meaning}
use Rattle.aos_symbols.specs.declared.scope.Meaning.TheVariants as means
use Rattle.aos_symbols.specs.declared.scope.Entry.{Entry}
use Rattle.aos_symbols.specs.declared.env.Open.{Open}
use Rattle.aos_symbols.specs.declared.env.Symbol.{Symbol}
use Rattle.aos_members.specs.declared.fields.Field.{Field}
use Rattle.aos_members.specs.declared.objects.Method.{Method}
use Rattle.aos_symbols.specs.declared.env.Env.{Env}
use Rattle.aos_members.specs.declared.objects.SoFar.{SoFar}
use Rattle.aos_symbols.specs.Spelling.{word}
use Rattle.aos_symbols.specs.Scope.{Named, Scope, empty, find, with_names, methods_of, places_in, fields_of as fields_in}
use Rattle.aos_symbols.specs.declared.home.ObjectScope.{ObjectScope}
use Rattle.aos_symbols.specs.Home.{Home, fields_of, object_of, slot_at}
use Rattle.aos_members.specs.declared.members.Members.{Members}
use Rattle.aos_symbols.specs.Env.{scope, home, in_scope}

-- Fields of record and object types: each is known in the module that writes the type.

-- the field with this word among those of a type, which this module writes or another one
abbrev pub field_in : Bool → Scope → List ℕ → Option Field
field_in own s w = option_and_then (λ x. by x x.means) (find s w)
  where
    by : Entry → Meaning → Option Field
    by x (means.Variable k) =
        option_map (λ of. record { is_own = own; mark = x.mark; number = k; of = of }) (slice_get s.variables k)
    by x m = None

-- the same of a type that there is, and else another
abbrev pub field_or : Bool → List ℕ → Option Field → Option Scope → Option Field
field_or own w other None = other
field_or own w other (Some s) = field_in own s w

abbrev pub field_among : Bool → List Home → TypeId → List ℕ → Option Field
field_among is_object [] t w = None
field_among is_object (h ∷ hs) t w = field_or false w (field_among is_object hs t w) (fields_of is_object h t)

-- the own field of a type that has a name
abbrev pub own_field : Env → TypeId → Name → Option Field
own_field e t n =
    let w = word e.here.text n in
    let is_object = is_object_in (row_in e.types t) in
    field_or true w (field_among is_object e.before t w) (fields_of is_object e.here t)

-- A type has its base's fields before its own, by whose number they are counted on.

abbrev pub field_count : Option TypeRow → ℕ
field_count (Some (row.Record base fields)) = length fields
field_count (Some (row.Object base fields)) = length fields
field_count r = 0

abbrev pub of_base : (TypeId → ℕ) → Option TypeId → ℕ
of_base f None = 0
of_base f (Some b) = f b

-- how many fields a type has of its bases, of which it has at most so many
abbrev pub fields_before : ℕ → List TypeRow → TypeId → ℕ
fields_before zero rows t = 0
fields_before (suc n) rows t =
    of_base (λ b. fields_before n rows b + field_count (row_in rows b)) (base_of (row_in rows t))

abbrev pub counted_on : List TypeRow → TypeId → Field → Field
counted_on rows t f = record f { number = fields_before (length rows) rows t + f.number }

-- the field with a name of a type or of one of its bases, of which it has at most so many
abbrev pub field_by : ℕ → Env → TypeId → Name → Option Field
field_by zero e t n = option_map (counted_on e.types t) (own_field e t n)
field_by (suc k) e t n =
    option_or (option_map (counted_on e.types t) (own_field e t n))
    (option_and_then (λ b. field_by k e b n) (base_of (row_in e.types t)))

abbrev pub field : Env → TypeId → Name → Option Field
field e t n = field_by (length e.types) e t n

-- Object types: each is known in the module that declares it.

abbrev pub object_among : List Home → TypeId → Option ObjectScope
object_among [] t = None
object_among (h ∷ hs) t = option_or (object_of h t) (object_among hs t)

abbrev pub object : Env → TypeId → Option ObjectScope
object e t = option_or (object_of e.here t) (object_among e.before t)

-- where the names of an object type stand
abbrev pub object_place : ObjectScope → Open
object_place o = record { home = o.home; scope = o.scope }

abbrev pub object_scope : Env → TypeId → Option Scope
object_scope e t = option_and_then (λ o. scope e (object_place o)) (object e t)

-- a type, its base, the base of that and so on, of which there are at most so many
abbrev pub chain_behind : (TypeId → List TypeId) → Option TypeId → List TypeId
chain_behind f None = []
chain_behind f (Some b) = f b

abbrev pub chain_by : ℕ → List TypeRow → TypeId → List TypeId
chain_by zero rows t = t ∷ []
chain_by (suc n) rows t = t ∷ chain_behind (λ b. chain_by n rows b) (base_of (row_in rows t))

abbrev pub chain : List TypeRow → TypeId → List TypeId
chain rows t = chain_by (length rows) rows t

-- the scopes of object types
abbrev pub opened : Env → Option ObjectScope → List Open
opened e None = []
opened e (Some o) = object_place o ∷ []

abbrev pub object_path : Env → List TypeId → List Open
object_path e ts = flat_map (λ t. opened e (object e t)) ts

-- at a place in the methods or the body of an object type: its scope is searched, and then those of its bases
abbrev pub within_object : Env → TypeId → Env
within_object e t = record e { path = object_path e (chain e.types t) ++ e.path; self_type = Some t }

-- and back at a place of the module
abbrev pub outside : List Open → Env → Env
outside path e = record e { path = path; self_type = None }

-- Methods: the one with a word that an object type itself declares, and of a type that of the nearest in its chain.

abbrev pub slot_of : Option Home → ObjectScope → ℕ → ℕ
slot_of None o k = 0
slot_of (Some h) o k = slot_at h o k

-- a method by its place among those that an object type itself declares
abbrev pub method_at : Env → TypeId → ObjectScope → Option Export → ℕ → Method
method_at e t o mark k =
    record {
      is_own = o.home == e.number;
      mark = mark;
      home = o.home;
      number = o.methods + k;
      of = t;
      slot = slot_of (home e o.home) o k;
    }

abbrev pub method_meant : Env → TypeId → ObjectScope → Symbol → Option Method
method_meant e t o x = by x.means
  where
    by : Meaning → Option Method
    by (means.Procedure k) = Some (method_at e t o x.mark k)
    by m = None

abbrev pub own_method : Env → TypeId → List ℕ → Option Method
own_method e t w =
    option_and_then (λ o. option_and_then (method_meant e t o) (in_scope e (object_place o) w)) (object e t)

-- of the first of these types that declares one
abbrev pub method_along : Env → List ℕ → List TypeId → Option Method
method_along e w [] = None
method_along e w (t ∷ ts) = option_or (own_method e t w) (method_along e w ts)

abbrev pub method_named : Env → TypeId → List ℕ → Option Method
method_named e t w = method_along e w (chain e.types t)

abbrev pub method : Env → TypeId → Name → Option Method
method e t n = method_named e t (word e.here.text n)

-- the method that one of this type overrides: its base's
abbrev pub upper : Env → TypeId → Name → Option Method
upper e t n = option_and_then (λ b. method e b n) (base_of (row_in e.types t))

-- Initializers: the one that an object type itself declares, and of a type that of the nearest in its chain. It is called whatever its
-- mark is.

abbrev pub initial_at : Env → TypeId → Option ObjectScope → Option Method
initial_at e t None = None
initial_at e t (Some o) = option_map (method_at e t o None) o.initial

abbrev pub own_initializer : Env → TypeId → Option Method
own_initializer e t = initial_at e t (object e t)

-- of the first of these types that declares one
abbrev pub initializer_along : Env → List TypeId → Option Method
initializer_along e [] = None
initializer_along e (t ∷ ts) = option_or (own_initializer e t) (initializer_along e ts)

abbrev pub initializer : Env → TypeId → Option Method
initializer e t = initializer_along e (chain e.types t)

-- Slots: a type has its base's methods, and behind them those of its own whose names the base hasn't, in the order of the text. The
-- slot of a method is the place of its name among them.

abbrev pub scope_methods : Option Scope → List Named
scope_methods None = []
scope_methods (Some s) = methods_of s

-- the names of the methods that an object type itself declares
abbrev pub own_methods : Env → TypeId → List Named
own_methods e t = scope_methods (object_scope e t)

-- of these types, of which each stands before its base
abbrev pub methods_along : Env → List TypeId → Scope
methods_along e [] = empty
methods_along e (t ∷ ts) = with_names (methods_along e ts) (own_methods e t)

abbrev pub all_methods : Env → TypeId → Scope
all_methods e t = methods_along e (chain e.types t)

-- the slots of the methods that an object type itself declares
abbrev pub own_slots : Env → TypeId → List ℕ
own_slots e t = places_in (all_methods e t) (own_methods e t)

-- the methods of a type and its bases, and how many types these are
pub record IsSoFar (e : Env) (s : SoFar) : Type 0 where
  pub count : s.count ≡ length (chain e.types s.of)
  pub all : s.all ≡ all_methods e s.of

-- Types of a chain: the first of them for which this is so.
abbrev pub first_along : (TypeId → Bool) → List TypeId → Option TypeId
first_along test [] = None
first_along test (t ∷ ts) = if test t then Some t else first_along test ts

-- the names of an object type stand in a scope
abbrev pub stands_in : Open → Option ObjectScope → Bool
stands_in o None = false
stands_in o (Some x) = x.home == o.home && x.scope == o.scope

-- the type in the chain of SELF's whose names stand in a scope
abbrev pub declarer : Env → Open → TypeId → Option TypeId
declarer e o t = first_along (λ u. stands_in o (object e u)) (chain e.types t)

abbrev pub object_at : Env → Open → Option TypeId
object_at e o = option_and_then (declarer e o) e.self_type

-- the number of a type's own field, counted on from the fields of its bases
abbrev pub field_number : Env → TypeId → ℕ → ℕ
field_number e t k = fields_before (length e.types) e.types t + k

-- What types themselves declare, as numbers: the places of the names of their fields and of their methods among words.

-- the scope in which the fields of a type stand, in the first module that writes it
abbrev pub scope_among : Bool → List Home → TypeId → Option Scope
scope_among is_object [] t = None
scope_among is_object (h ∷ hs) t = option_or (fields_of is_object h t) (scope_among is_object hs t)

abbrev pub field_scope : Env → TypeId → Option Scope
field_scope e t =
    let is_object = is_object_in (row_in e.types t) in
    option_or (fields_of is_object e.here t) (scope_among is_object e.before t)

abbrev pub scope_fields : Option Scope → List Named
scope_fields None = []
scope_fields (Some s) = fields_in s

-- the names of the fields that a type itself declares
abbrev pub own_fields : Env → TypeId → List Named
own_fields e t = scope_fields (field_scope e t)

-- of each of so many types
abbrev pub of_each : (TypeId → List ℕ) → ℕ → List (List ℕ)
of_each f n = map (λ k. f (record { 0 = k })) (range_with_len 0 n)

abbrev pub field_table : Env → Scope → List (List ℕ)
field_table e words = of_each (λ t. places_in words (own_fields e t)) (length e.types)

abbrev pub method_table : Env → Scope → List (List ℕ)
method_table e words = of_each (λ t. places_in words (own_methods e t)) (length e.types)

-- these are the numbers of what all types declare
pub record AreMembers (e : Env) (m : Members) : Type 0 where
  pub fields : m.fields.items ≡ field_table e m.words
  pub methods : m.methods.items ≡ method_table e m.words

-- A type without numbers may declare each name.
abbrev pub among : Option (List ℕ) → ℕ → Bool
among None p = true
among (Some ks) p = list_any (λ k. k == p) ks

abbrev pub may_declare : List (List ℕ) → TypeId → ℕ → Bool
may_declare table t p = among (slice_get table t.0) p
