-- What a module has declared: its name, its text, the strings there, its scopes, the signatures of its procedures and methods, the
-- fields of the record types that it writes, and its object types. The first scope is the module's own; behind it come those of the types
-- that it defines, in which the names within an object type stand, and then those of its procedures and of its types' methods, each in
-- the order of the text.
use Rattle.std.specs.Prelude.{ℕ, pos, nat_eq, nat_lt, ◌+◌, ◌-◌, List, [], ◌∷◌, ◌++◌, map, fold, Bool, true, false, Option, Some, None, option_and_then, if◌then◌else◌, slice_get, slice_set, position}
use Rattle.std.specs.Option.{unwrap_or}
use Rattle.std.specs.List.{slice_range}
use Rattle.aos_base.specs.Operators.{natural}
use Rattle.aos_tree.specs.declared.name.Text.{Text}
use Rattle.std.specs.Map.{lookup}
use Rattle.indexmap.specs.IndexMap.{insert_entry}
use Rattle.aos_types.specs.declared.row.TypeId.{TypeId}
use Rattle.aos_symbols.specs.declared.scope.Constant.{Constant}
use Rattle.aos_types.specs.declared.signature.Signature.{Signature}
use Rattle.aos_symbols.specs.declared.home.ObjectScope.{ObjectScope}
use Rattle.aos_symbols.specs.Scope.{Scope, with_constant, with_variable, setting_variables}

pub record Home : Type 0 where
  pub name : List ℕ
  pub text : List ℕ
  pub strings : List (ℕ × ℕ)  -- where each begins with its quote, and where it ends
  pub scopes : List Scope
  pub first : ℕ  -- the number of the scope of the first procedure
  pub signatures : List Signature  -- those of procedures, and behind them those of methods
  pub records : List (ℕ × Scope)  -- by the types' numbers
  pub objects : List (ℕ × ObjectScope)  -- by the types' numbers
  pub slots : List (List ℕ)  -- of the methods that each of the module's own types declares, in the order of their scopes

-- with another scope in the place of the one with this number
abbrev pub with_scope : Home → ℕ → Scope → Home
with_scope h k s = record h { scopes = slice_set h.scopes k s }

abbrev pub changed : (Scope → Scope) → Home → ℕ → Option Scope → Home
changed f h k None = h
changed f h k (Some s) = with_scope h k (f s)

-- with one more constant in a scope, and with the type of one more variable
abbrev pub add_constant : Home → ℕ → Constant → Home
add_constant h k c = changed (λ s. with_constant s c) h k (slice_get h.scopes k)

abbrev pub add_variable : Home → ℕ → Option TypeId → Home
add_variable h k of = changed (λ s. with_variable s of) h k (slice_get h.scopes k)

-- with these variables in a scope, in the place of those that it had
abbrev pub set_variables : Home → ℕ → List (Option TypeId) → Home
set_variables h k ofs = changed (λ s. setting_variables s ofs) h k (slice_get h.scopes k)

-- with the fields of a record type, in a scope of which they are the variables
abbrev pub add_record : Home → TypeId → Scope → Home
add_record h t s = record h { records = insert_entry nat_eq h.records t.0 s }

abbrev pub record_fields : Home → TypeId → Option Scope
record_fields h t = lookup (λ k. nat_eq t.0 k) h.records

-- the object type with a number, where the module declares it
abbrev pub object_of : Home → TypeId → Option ObjectScope
object_of h t = lookup (λ k. nat_eq t.0 k) h.objects

-- the fields of an object type are the variables of its scope
abbrev pub scope_of : Home → Option ObjectScope → Option Scope
scope_of h o = option_and_then (λ x. slice_get h.scopes x.scope) o

-- the fields of an object type or a record
abbrev pub fields_of : (is_object : Bool) → Home → TypeId → Option Scope
fields_of true h t = scope_of h (object_of h t)
fields_of false h t = record_fields h t

-- with the slots of all methods
abbrev pub with_slots : Home → List (List ℕ) → Home
with_slots h ks = record h { slots = ks }

-- the slot of a method, by its place among those that an object type of the module declares
abbrev pub slot_at : Home → ObjectScope → ℕ → ℕ
slot_at h o k = unwrap_or (option_and_then (λ ks. slice_get ks k) (slice_get h.slots (o.scope - 1))) 0

-- with the signature of the next procedure
abbrev pub add_signature : Home → Signature → Home
add_signature h x = record h { signatures = h.signatures ++ x ∷ [] }

-- the signature of the procedure whose scope has a number, where its heading is met
abbrev pub signature_in : Home → (scope : ℕ) → Option Signature
signature_in h k = if nat_lt k h.first then None else slice_get h.signatures (k - h.first)

-- Strings.

-- the strings of a text, by the places where they begin
abbrev pub strings_of : List Text → List (ℕ × ℕ)
strings_of ts = fold (λ ss t. insert_entry nat_eq ss t.start t.end) [] ts

-- the number of the string that begins here
abbrev pub string_number : Home → (start : ℕ) → Option ℕ
string_number h start = position (λ k. nat_eq start k) (map (λ s. s.0) h.strings)

-- a byte as the code of a character
abbrev pub character : ℕ → ℕ
character b = unwrap_or (natural 256 (pos b)) 0

-- what stands between the quotes of a string
abbrev pub between_quotes : List ℕ → ℕ × ℕ → List ℕ
between_quotes text s = slice_range text (s.0 + 1) (s.1 - 1)

-- the string constants of a module, by the codes of their characters
abbrev pub texts_of : Home → List (List ℕ)
texts_of h = map (λ s. map character (between_quotes h.text s)) h.strings

-- the bytes of the string with a number
abbrev pub string_in : Home → ℕ → List ℕ
string_in h k = by (slice_get h.strings k)
  where
    by : Option (ℕ × ℕ) → List ℕ
    by None = []
    by (Some s) = between_quotes h.text s
