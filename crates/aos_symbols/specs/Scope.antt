-- A scope: names by their bytes, each with its export mark and what it stands for, the constants that are declared so
-- far, and the types of the variables (Active Oberon Language Report, Reali 2002, section on declarations and
-- scope rules).
use Rattle.std.specs.Prelude.{ℕ, List, [], ◌∷◌, ◌++◌, Bool, true, false, Option, Some, None, is_some, fold, map, filter, position, if◌then◌else◌}
use Rattle.std.specs.Option.{unwrap_or}
use Rattle.std.specs.Str.{bytes_eq}
use Rattle.std.specs.Map.{lookup}
use Rattle.std.specs.Borrow.{Bor}
use Rattle.aos_types.specs.declared.row.TypeId.{TypeId}
use Rattle.aos_symbols.specs.declared.scope.Meaning.{Meaning}
use Rattle.aos_symbols.specs.declared.scope.Meaning.TheVariants as means
use Rattle.aos_symbols.specs.declared.scope.Entry.{Entry}
use Rattle.aos_symbols.specs.declared.scope.Constant.{Constant}

-- a name's bytes, and its entry
abbrev pub Named : Type 0
Named = List ℕ × Entry

-- A variable whose type breaks a rule has no type.
pub record Scope : Type 0 where
  pub entries : List Named
  pub constants : List Constant
  pub variables : List (Option TypeId)

abbrev pub empty : Scope
empty = record { entries = []; constants = []; variables = [] }

-- the entry of a word
abbrev pub find : Scope → List ℕ → Option Entry
find s w = lookup (λ k. bytes_eq w k) s.entries

abbrev pub has : Scope → List ℕ → Bool
has s w = is_some (find s w)

-- with a name more; one that is there stays
abbrev pub with_name : Scope → Named → Scope
with_name s n = if has s n.0 then s else record s { entries = s.entries ++ n ∷ [] }

abbrev pub with_names : Scope → List Named → Scope
with_names s ns = fold with_name s ns

-- with one more constant, and with the type of one more variable
abbrev pub with_constant : Scope → Constant → Scope
with_constant s c = record s { constants = s.constants ++ c ∷ [] }

abbrev pub with_variable : Scope → Option TypeId → Scope
with_variable s of = record s { variables = s.variables ++ of ∷ [] }

abbrev pub setting_variables : Scope → List (Option TypeId) → Scope
setting_variables s ofs = record s { variables = ofs }

abbrev pub with_variables : Scope → List (Option TypeId) → Scope
with_variables s ofs = record s { variables = s.variables ++ ofs }

-- the procedures of a scope
abbrev pub is_procedure : Meaning → Bool
is_procedure (means.Procedure k) = true
is_procedure m = false

abbrev pub if_method : Option Named → Option Named
if_method None = None
if_method (Some n) = if is_procedure n.1.means then Some n else None

abbrev pub methods_of : Scope → List Named
methods_of s = filter (λ n. is_procedure n.1.means) s.entries

-- the variables of a scope: the fields, where it is that of a type
abbrev pub is_variable : Meaning → Bool
is_variable (means.Variable k) = true
is_variable m = false

abbrev pub if_field : Option Named → Option Named
if_field None = None
if_field (Some n) = if is_variable n.1.means then Some n else None

abbrev pub fields_of : Scope → List Named
fields_of s = filter (λ n. is_variable n.1.means) s.entries

-- where a word stands among the names
abbrev pub place_of : Scope → List ℕ → ℕ
place_of s w = unwrap_or (position (λ k. bytes_eq w k) (map (λ n. n.0) s.entries)) 0

abbrev pub places_in : Scope → List Named → List ℕ
places_in s ns = map (λ n. place_of s n.0) ns

-- the names of a table, by their bytes
abbrev pub named : Bor (List ℕ) × Entry → Named
named e = (e.0.now, e.1)

abbrev pub seen_names : List (Bor (List ℕ) × Entry) → List Named
seen_names es = map named es
