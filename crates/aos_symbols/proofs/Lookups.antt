-- What a name stands for: what holds of each entry of the scopes that are searched, and of what is predeclared, holds of it.
use Rattle.std.proofs.Common.{◌≡◌, ℕ, ◌==◌, ◌≤◌, List, [], ◌∷◌, Bool, true, false, cond, ◌||◌, Option, Some, None, is_some, option_map, option_and_then, refl, ◌∙◌, subst, bytes_eq, if◌then◌else◌, arith}
use Rattle.std.specs.Map.{lookup as lookup_in}
use Rattle.std.specs.Option.{option_or}
use Rattle.std.proofs.lemmas.Option.{none-some, same_Some}
use Rattle.aos_tree.specs.declared.name.Name.{Name}
use Rattle.aos_symbols.specs.declared.scope.Entry.{Entry}
use Rattle.aos_types.specs.declared.row.TypeId.{TypeId}
use Rattle.aos_symbols.specs.declared.scope.Function.{Function}
use Rattle.aos_symbols.specs.declared.scope.Routine.{Routine}
use Rattle.aos_symbols.specs.declared.scope.Meaning.{Meaning}
use Rattle.aos_symbols.specs.declared.scope.Meaning.TheVariants as means
use Rattle.aos_symbols.specs.declared.env.Open.{Open}
use Rattle.aos_symbols.specs.declared.env.Symbol.{Symbol}
use Rattle.aos_symbols.specs.declared.env.Lookup.TheVariants.{Unknown, NotExported, Found}
use Rattle.aos_symbols.specs.declared.env.Env.{Env}
use Rattle.aos_symbols.specs.Spelling.{word}
use Rattle.aos_symbols.specs.Scope.{Scope, find}
use Rattle.aos_symbols.specs.Env.{scope, own, declared_at, in_scope, in_path, is_import, if_seen, predeclared, predeclared_meaning, predeclared_symbol, looked_up, lookup, if_declared, member}
use Rattle.aos_symbols.proofs.Each.{Each}

-- what is predeclared
pub data IsPredeclared : Meaning → Type 0 where
  a_type : (t : TypeId) → t.0 ≤ 8 → (t.0 ≡ 7 → ⊥) → IsPredeclared (means.Type (Some t))
  a_truth : (b : Bool) → IsPredeclared (means.Truth b)
  a_function : (f : Function) → IsPredeclared (means.Function f)
  a_routine : (r : Routine) → IsPredeclared (means.Routine r)
  itself : IsPredeclared means.Itself

-- what holds of all that names stand for, where these scopes are searched
pub record IsOfAll (e : Env) (Searched : Open → Type 0) (P : Symbol → Type 0) : Type 0 where
  pub entries : (o : Open) (s : Scope) (w : List ℕ) (x : Entry) → Searched o → scope e o ≡ Some s → find s w ≡ Some x → P (declared_at o x)
  pub others : (m : Meaning) → IsPredeclared m → P (record { at = own e.number; mark = None; means = m })

found_same : (a b : Symbol) → Found a ≡ Found b → a ≡ b
found_same a b e = cc

not_found : {x : Symbol} → Unknown ≡ Found x → ⊥
not_found e = cc

not_seen : {x : Symbol} → NotExported ≡ Found x → ⊥
not_seen e = cc

abbrev MayBePredeclared : Option Meaning → Type 0
MayBePredeclared None = Unit {0}
MayBePredeclared (Some m) = IsPredeclared m

abbrev ArePredeclared : List (List ℕ × Meaning) → Type 0
ArePredeclared rows = Each (λ r. IsPredeclared r.1) rows

-- one row, and those behind it
infixr 5 ◌before◌
◌before◌ : {A B : Type 0} → A → B → A × B
a before b = (a, b)

numbered : (n : ℕ) → n ≤ 8 → (n ≡ 7 → ⊥) → IsPredeclared (means.Type (Some (record { 0 = n })))
numbered n most other = a_type (record { 0 = n }) most other

all_rows : ArePredeclared predeclared
all_rows =
    numbered 0 (omega arith) (omega arith) before numbered 1 (omega arith) (omega arith) before numbered 2 (omega arith) (omega arith)
    before numbered 3 (omega arith) (omega arith) before numbered 4 (omega arith) (omega arith) before numbered 5 (omega arith) (omega arith)
    before numbered 6 (omega arith) (omega arith) before numbered 8 (omega arith) (omega arith)
    before a_truth false before a_truth true
    before a_function _ before a_function _ before a_function _ before a_function _ before a_function _
    before a_function _ before a_function _ before a_function _ before a_function _ before a_function _ before a_function _
    before a_routine _ before a_routine _ before a_routine _ before a_routine _
    before a_routine _ before a_routine _ before a_routine _ before a_routine _
    before itself before tt

found_in : (w : List ℕ) (es : List (List ℕ × Meaning)) → ArePredeclared es → MayBePredeclared (lookup_in (λ k. bytes_eq k w) es)
found_in w [] each = tt
found_in w (e ∷ es) each = by (bytes_eq e.0 w) (found_in w es each.1)
  where
    by : (b : Bool) → MayBePredeclared (lookup_in (λ k. bytes_eq k w) es) → MayBePredeclared (cond b (Some e.1) (lookup_in (λ k. bytes_eq k w) es))
    by true more = each.0
    by false more = more

all_predeclared : (w : List ℕ) → MayBePredeclared (predeclared_meaning w)
all_predeclared w = found_in w predeclared all_rows

module _ (e : Env) (Searched : Open → Type 0) (P : Symbol → Type 0) (all : IsOfAll e Searched P) where
  in_scope_is : (o : Open) → Searched o → (w : List ℕ) (x : Symbol) → in_scope e o w ≡ Some x → P x
  in_scope_is o searched w x h = by_scope (scope e o) refl h
    where
      by_entry : (s : Scope) → scope e o ≡ Some s → (y : Option Entry) → find s w ≡ y → option_map (declared_at o) y ≡ Some x → P x
      by_entry s there None is h = absurd (none-some x h)
      by_entry s there (Some y) is h = subst P (same_Some (declared_at o y) x h) (all.entries o s w y searched there is)

      by_scope : (s : Option Scope) → scope e o ≡ s → option_map (declared_at o) (option_and_then (λ s. find s w) s) ≡ Some x → P x
      by_scope None there h = absurd (none-some x h)
      by_scope (Some s) there h = by_entry s there (find s w) refl h

  in_path_is : (os : List Open) → Each Searched os → (w : List ℕ) (x : Symbol) → in_path e os w ≡ Some x → P x
  in_path_is [] searched w x h = absurd (none-some x h)
  in_path_is (o ∷ os) searched w x h = by (in_scope e o w) refl (in_path_is os searched.1 w x) h
    where
      by : (y : Option Symbol) → in_scope e o w ≡ y → (in_path e os w ≡ Some x → P x) → option_or y (in_path e os w) ≡ Some x → P x
      by None is more h = more h
      by (Some y) is more h = in_scope_is o searched.0 w x (is ∙ h)

  seen_is : (y : Symbol) → P y → (x : Symbol) → if_seen e y ≡ Found x → P x
  seen_is y is x h = by (y.at.home == e.number || is_some y.mark) h
    where
      by : (b : Bool) → (if b then Found y else NotExported) ≡ Found x → P x
      by true h = subst P (found_same y x h) is
      by false h = absurd (not_seen h)

  -- a plain name
  pub lookup_is : Each Searched e.path → (n : Name) (x : Symbol) → lookup e n ≡ Found x → P x
  lookup_is searched n x h = by_symbol (in_path e e.path (word e.here.text n)) refl h
    where
      by_meaning : (m : Option Meaning) → MayBePredeclared m → predeclared_symbol e m ≡ Found x → P x
      by_meaning None is h = absurd (not_found h)
      by_meaning (Some m) is h = subst P (found_same (record { at = own e.number; mark = None; means = m }) x h) (all.others m is)

      by_symbol : (y : Option Symbol) → in_path e e.path (word e.here.text n) ≡ y → looked_up e (word e.here.text n) y ≡ Found x → P x
      by_symbol None is h = by_meaning (predeclared_meaning (word e.here.text n)) (all_predeclared (word e.here.text n)) h
      by_symbol (Some y) is h = seen_is y (in_path_is e.path searched (word e.here.text n) y is) x h

  -- a name of a module
  pub member_is : (m : ℕ) → Searched (own m) → (n : Name) (x : Symbol) → member e m n ≡ Found x → P x
  member_is m searched n x h = by_symbol (in_scope e (own m) (word e.here.text n)) refl h
    where
      by_import : (y : Symbol) → P y → (b : Bool) → (if b then Unknown else if_seen e y) ≡ Found x → P x
      by_import y is true h = absurd (not_found h)
      by_import y is false h = seen_is y is x h

      by_symbol : (y : Option Symbol) → in_scope e (own m) (word e.here.text n) ≡ y → if_declared e y ≡ Found x → P x
      by_symbol None is h = absurd (not_found h)
      by_symbol (Some y) is h = by_import y (in_scope_is (own m) searched (word e.here.text n) y is) (is_import y.means) h
