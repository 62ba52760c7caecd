-- Types that are told: the basic types of values, which each table begins with, ANY, and types that modules define, whose rows stand
-- in the table and are no open arrays. What is told stays told where the table goes on.
use Rattle.std.proofs.Common.{◌≡◌, ℕ, zero, suc, ◌<◌, ◌≤◌, List, [], ◌∷◌, ◌++◌, length, map, true, false, ◌||◌, Option, Some, None, slice_get, refl}
use Rattle.std.proofs.lemmas.Option.{none-some}
use mathlib.Core.Logic.{◌⊎◌}
use Rattle.aos_base.specs.declared.limits.TheConstants.{MOST_SCALARS}
use Rattle.aos_types.specs.declared.row.TypeId.{TypeId}
use Rattle.aos_types.specs.declared.row.TypeRow.{TypeRow}
use Rattle.aos_types.specs.declared.row.TypeRow.TheVariants as row
use Rattle.aos_types.specs.Table.{row_of, is_open, is_record, is_object, is_scalar}
use Rattle.aos_typed.specs.WellTyped.{is_whole}
use Rattle.aos_symbols.specs.Scope.{Scope}
use Rattle.aos_symbols.specs.Home.{Home, fields_of}
use Rattle.aos_symbols.proofs.Each.{Each}

pub data IsTold (types : List TypeRow) (t : TypeId) : Type 0 where
  basic : t.0 < 7 → IsTold types t
  of_any : t.0 ≡ 8 → IsTold types t
  defined : (r : TypeRow) → 10 ≤ t.0 → slice_get types t.0 ≡ Some r → is_open (Some r) ≡ false → IsTold types t

-- a type that is known, and told
abbrev pub IsKnown : List TypeRow → Option TypeId → Type 0
IsKnown types None = ⊥
IsKnown types (Some t) = IsTold types t

-- the table goes on from another
abbrev pub GoOn : List TypeRow → List TypeRow → Type 0
GoOn types types' = (t : TypeId) → IsTold types t → IsTold types' t

pub known_on : (ts us : List TypeRow) → GoOn ts us → (of : Option TypeId) → IsKnown ts of → IsKnown us of
known_on ts us on None known = known
known_on ts us on (Some t) known = on t known

pub get_front : {X : Type 0} (xs ys : List X) (i : ℕ) (x : X) → slice_get xs i ≡ Some x → slice_get (xs ++ ys) i ≡ Some x
get_front [] ys i x e = absurd (none-some x e)
get_front (a ∷ xs) ys zero x e = e
get_front (a ∷ xs) ys (suc i) x e = get_front xs ys i x e

pub get_end : {X : Type 0} (xs : List X) (x : X) → slice_get (xs ++ x ∷ []) (length xs) ≡ Some x
get_end [] x = refl
get_end (a ∷ xs) x = get_end xs x

pub told_behind : (ts us : List TypeRow) → GoOn ts (ts ++ us)
told_behind ts us t (basic first) = basic first
told_behind ts us t (of_any is) = of_any is
told_behind ts us t (defined r from e closed) = defined r from (get_front ts us t.0 r e) closed

-- the lengths that arrays have
abbrev pub IsLength : ℕ → Type 0
IsLength n = (1 ≤ n) × (n ≤ MOST_SCALARS)

-- a base is a record, and what a pointer leads to is one, or an array
abbrev pub IsBase : List TypeRow → Option TypeId → Type 0
IsBase types None = Unit {0}
IsBase types (Some b) = is_record (row_of types b) ≡ true

abbrev pub IsObjectBase : List TypeRow → Option TypeId → Type 0
IsObjectBase types None = Unit {0}
IsObjectBase types (Some b) = is_object (row_of types b) ≡ true

abbrev pub IsTarget : List TypeRow → TypeId → Type 0
IsTarget types t = (10 ≤ t.0) × ((is_whole (row_of types t) || is_open (row_of types t)) ≡ true)

-- a parameter's type is there, and isn't that of NIL or of string constants
abbrev pub IsFormalType : List TypeRow → TypeId → Type 0
IsFormalType types t = (t.0 < length types) × ((t.0 < 7) ⊎ ((t.0 ≡ 8) ⊎ (10 ≤ t.0)))

-- a result is a scalar
abbrev pub IsResultType : List TypeRow → Option TypeId → Type 0
IsResultType types None = Unit {0}
IsResultType types (Some t) = IsTold types t × (is_scalar (row_of types t) ≡ true)

-- the elements of an array, which has one of these lengths, and the fields of a record or an object are told; the parameters of a
-- procedure type are of types that are there, and its result is a scalar
abbrev pub AreToldParts : List TypeRow → TypeRow → Type 0
AreToldParts types (row.Array n t) = IsLength n × IsTold types t
AreToldParts types (row.Record base ts) = IsBase types base × Each (IsTold types) ts
AreToldParts types (row.Pointer t) = IsTarget types t
AreToldParts types (row.Object base ts) = IsObjectBase types base × Each (IsTold types) ts
AreToldParts types (row.Procedure formals r) = Each (λ f. IsFormalType types f.1) formals × IsResultType types r
AreToldParts types r = Unit {0}

abbrev pub PartsAreTold : List TypeRow → Type 0
PartsAreTold types = (k : ℕ) (r : TypeRow) → slice_get types k ≡ Some r → AreToldParts types r

-- a type has these fields of its own
abbrev pub HasFields : List TypeRow → TypeId → Option TypeId → List TypeId → Type 0
HasFields types t base ts = (slice_get types t.0 ≡ Some (row.Record base ts)) ⊎ (slice_get types t.0 ≡ Some (row.Object base ts))

-- the fields of record and object types that a module knows are those of their rows
abbrev pub FieldsAgree : List TypeRow → Home → Type 0
FieldsAgree types h =
    (t : TypeId) (s : Scope) → fields_of (is_object (row_of types t)) h t ≡ Some s →
    (t.0 < length types) × ((base : Option TypeId) (ts : List TypeId) → HasFields types t base ts → s.variables ≡ map (λ t. Some t) ts)
