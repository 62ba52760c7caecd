-- Scopes of a module behind declarations: their names stay, one of them has more variables, and constants are good.
use Rattle.std.proofs.Common.{◌≡◌, ◌≤◌, ℕ, List, [], ◌∷◌, ◌++◌, Option, Some, None, option_map, slice_get, refl, sym, ap, ◌∙◌, append_assoc, append-nil, subst}
use mathlib.Core.Logic.{◌⊎◌}
use Rattle.aos_types.specs.declared.row.TypeId.{TypeId}
use Rattle.aos_symbols.specs.declared.scope.Constant.{Constant}
use Rattle.aos_symbols.specs.Scope as scope
use Rattle.aos_symbols.specs.Scope.{Named, Scope}
use Rattle.aos_symbols.specs.Home.{Home, changed, add_constant, add_variable, set_variables}
use Rattle.aos_symbols.proofs.Each.{Each, joined}
use Rattle.aos_check_expr.proofs.Typing.{HasGood}
use Rattle.aos_check_types.proofs.TypingLists.{set_here, set_other, set_kept, set_gives, mapped_at}

abbrev pub AreGood : List Constant → Type 0
AreGood cs = Each (λ (c : Constant). HasGood c.value) cs

abbrev pub AllGood : Home → Type 0
AllGood h = (k : ℕ) (s : Scope) → slice_get h.scopes k ≡ Some s → AreGood s.constants

-- the names and the variables of the scope with a number
abbrev pub names_of : Scope → List Named
names_of s = s.entries

abbrev pub variables_of : Scope → List (Option TypeId)
variables_of s = s.variables

abbrev pub names_at : List Scope → ℕ → Option (List Named)
names_at ss k = option_map names_of (slice_get ss k)

abbrev pub variables_at : List Scope → ℕ → Option (List (Option TypeId))
variables_at ss k = option_map variables_of (slice_get ss k)

abbrev pub behind : List (Option TypeId) → List (Option TypeId) → List (Option TypeId)
behind more vs = vs ++ more

-- the scope of a module or of a procedure, of which the first has this number
abbrev pub IsOutside : ℕ → ℕ → Type 0
IsOutside first j = (j ≡ 0) ⊎ (first ≤ j)

-- the scope with a number has these variables behind those that it had; those of types may have others
pub record IsMore (k : ℕ) (more : List (Option TypeId)) (h h' : Home) : Type 0 where
  pub name : h'.name ≡ h.name
  pub text : h'.text ≡ h.text
  pub first : h'.first ≡ h.first
  pub signatures : h'.signatures ≡ h.signatures
  pub objects : h'.objects ≡ h.objects
  pub names : (j : ℕ) → names_at h'.scopes j ≡ names_at h.scopes j
  pub others : (j : ℕ) → (j ≡ k → ⊥) → IsOutside h.first j → variables_at h'.scopes j ≡ variables_at h.scopes j
  pub own : variables_at h'.scopes k ≡ option_map (behind more) (variables_at h.scopes k)

behind_none : (o : Option (List (Option TypeId))) → o ≡ option_map (behind []) o
behind_none None = refl
behind_none (Some vs) = ap (λ z. Some z) (sym (append-nil vs))

behind_both : (a b : List (Option TypeId)) (o : Option (List (Option TypeId))) → option_map (behind b) (option_map (behind a) o) ≡ option_map (behind (a ++ b)) o
behind_both a b None = refl
behind_both a b (Some vs) = ap (λ z. Some z) (append_assoc vs a b)

pub no_more : (k : ℕ) (h : Home) → IsMore k [] h h
no_more k h = record {
  name = refl;
  text = refl;
  first = refl;
  signatures = refl;
  objects = refl;
  names = λ j. refl;
  others = λ j other outside. refl;
  own = behind_none (variables_at h.scopes k);
}

-- a module of the same name, text, first procedure's scope, scopes and signatures
pub same_more : (k : ℕ) (h h' : Home) → h'.name ≡ h.name → h'.text ≡ h.text → h'.first ≡ h.first → h'.scopes ≡ h.scopes → h'.signatures ≡ h.signatures → h'.objects ≡ h.objects → IsMore k [] h h'
same_more k h h' name text first scopes signatures objects = record {
  name = name;
  text = text;
  first = first;
  signatures = signatures;
  objects = objects;
  names = λ j. ap (λ (ss : List Scope). names_at ss j) scopes;
  others = λ j other outside. ap (λ (ss : List Scope). variables_at ss j) scopes;
  own = ap (λ (ss : List Scope). variables_at ss k) scopes ∙ behind_none (variables_at h.scopes k);
}

pub more_and_more : (k : ℕ) (a b : List (Option TypeId)) (h h' h'' : Home) → IsMore k a h h' → IsMore k b h' h'' → IsMore k (a ++ b) h h''
more_and_more k a b h h' h'' one two = record {
  name = two.name ∙ one.name;
  text = two.text ∙ one.text;
  first = two.first ∙ one.first;
  signatures = two.signatures ∙ one.signatures;
  objects = two.objects ∙ one.objects;
  names = λ j. two.names j ∙ one.names j;
  others = λ j other outside. two.others j other (subst (λ n. IsOutside n j) (sym one.first) outside) ∙ one.others j other outside;
  own = two.own ∙ ap (option_map (behind b)) one.own ∙ behind_both a b (variables_at h.scopes k);
}

-- a scope is changed
module _ (f : Scope → Scope) (more : List (Option TypeId)) (names : (s : Scope) → (f s).entries ≡ s.entries)
    (variables : (s : Scope) → (f s).variables ≡ s.variables ++ more) where
  changed_more : (h : Home) (k : ℕ) → IsMore k more h (changed f h k (slice_get h.scopes k))
  changed_more h k = by (slice_get h.scopes k) refl
    where
      none_behind : slice_get h.scopes k ≡ None → variables_at h.scopes k ≡ option_map (behind more) (variables_at h.scopes k)
      none_behind is = ap (option_map variables_of) is ∙ sym (ap (λ o. option_map (behind more) (option_map variables_of o)) is)

      by : (o : Option Scope) → slice_get h.scopes k ≡ o → IsMore k more h (changed f h k o)
      by None is = record {
        name = refl;
        text = refl;
        first = refl;
        signatures = refl;
        objects = refl;
        names = λ j. refl;
        others = λ j other outside. refl;
        own = none_behind is;
      }
      by (Some s) is = record {
        name = refl;
        text = refl;
        first = refl;
        signatures = refl;
        objects = refl;
        names = set_kept names_of h.scopes k s (f s) is (names s);
        others = λ j other outside. ap (option_map variables_of) (set_other h.scopes k j (f s) other);
        own = ap (option_map variables_of) (set_here h.scopes k s (f s) is) ∙ ap (λ z. Some z) (variables s)
            ∙ sym (ap (λ o. option_map (behind more) (option_map variables_of o)) is);
      }

  changed_good : ((s : Scope) → AreGood s.constants → AreGood (f s).constants) → (h : Home) (k : ℕ) → AllGood h → AllGood (changed f h k (slice_get h.scopes k))
  changed_good good h k all = by (slice_get h.scopes k) refl
    where
      by : (o : Option Scope) → slice_get h.scopes k ≡ o → AllGood (changed f h k o)
      by None is = all
      by (Some s) is = λ j x there. set_gives (λ (z : Scope). AreGood z.constants) h.scopes k j x (f s) there (good s (all k s is)) (λ old. all j x old)

pub variable_more : (h : Home) (k : ℕ) (of : Option TypeId) → IsMore k (of ∷ []) h (add_variable h k of)
variable_more h k of = changed_more (λ s. scope.with_variable s of) (of ∷ []) (λ s. refl) (λ s. refl) h k

pub variable_good : (h : Home) (k : ℕ) (of : Option TypeId) → AllGood h → AllGood (add_variable h k of)
variable_good h k of = changed_good (λ s. scope.with_variable s of) (of ∷ []) (λ s. refl) (λ s. refl) (λ s good. good) h k

pub constant_more : (h : Home) (k : ℕ) (c : Constant) → IsMore k [] h (add_constant h k c)
constant_more h k c = changed_more (λ s. scope.with_constant s c) [] (λ s. refl) (λ s. sym (append-nil s.variables)) h k

pub constant_good : (h : Home) (k : ℕ) (c : Constant) → HasGood c.value → AllGood h → AllGood (add_constant h k c)
constant_good h k c is =
    changed_good (λ s. scope.with_constant s c) [] (λ s. refl) (λ s. sym (append-nil s.variables))
    (λ s good. joined (λ (x : Constant). HasGood x.value) s.constants (c ∷ []) good (is, tt)) h k

-- the fields of record types stay
changed_records : (f : Scope → Scope) (h : Home) (k : ℕ) (o : Option Scope) → (changed f h k o).records ≡ h.records
changed_records f h k None = refl
changed_records f h k (Some s) = refl

pub variable_records : (h : Home) (k : ℕ) (of : Option TypeId) → (add_variable h k of).records ≡ h.records
variable_records h k of = changed_records (λ s. scope.with_variable s of) h k (slice_get h.scopes k)

pub constant_records : (h : Home) (k : ℕ) (c : Constant) → (add_constant h k c).records ≡ h.records
constant_records h k c = changed_records (λ s. scope.with_constant s c) h k (slice_get h.scopes k)

-- a scope of which the names are known
pub scope_at : (ss : List Scope) (k : ℕ) (ns : List Named) → names_at ss k ≡ Some ns → (s : Scope) × (slice_get ss k ≡ Some s) × (s.entries ≡ ns)
scope_at ss k ns e = mapped_at names_of (slice_get ss k) ns e

-- A scope of a type is changed, and that is none of the others.

pub more_elsewhere : (k j : ℕ) (h h' : Home) → IsMore j [] h h' → IsOutside h.first k → (IsOutside h.first j → ⊥) → IsMore k [] h h'
more_elsewhere k j h h' one outside inner = record {
  name = one.name;
  text = one.text;
  first = one.first;
  signatures = one.signatures;
  objects = one.objects;
  names = one.names;
  others = λ i other out. one.others i (λ same. inner (subst (IsOutside h.first) same out)) out;
  own = one.others k (λ same. inner (subst (IsOutside h.first) same outside)) outside ∙ behind_none (variables_at h.scopes k);
}

pub fields_more : (h : Home) (k j : ℕ) (vs : List (Option TypeId)) → IsOutside h.first k → (IsOutside h.first j → ⊥) → IsMore k [] h (set_variables h j vs)
fields_more h k j vs outside inner = by (slice_get h.scopes j) refl
  where
    by : (o : Option Scope) → slice_get h.scopes j ≡ o → IsMore k [] h (changed (λ s. scope.setting_variables s vs) h j o)
    by None is = no_more k h
    by (Some s) is = record {
      name = refl;
      text = refl;
      first = refl;
      signatures = refl;
      objects = refl;
      names = set_kept names_of h.scopes j s (scope.setting_variables s vs) is refl;
      others = λ i other out. ap (option_map variables_of) (set_other h.scopes j i (scope.setting_variables s vs) (λ same. inner (subst (IsOutside h.first) same out)));
      own = ap (option_map variables_of) (set_other h.scopes j k (scope.setting_variables s vs) (λ same. inner (subst (IsOutside h.first) same outside)))
          ∙ behind_none (variables_at h.scopes k);
    }

pub fields_here : (h : Home) (j : ℕ) (vs : List (Option TypeId)) (s : Scope) → slice_get h.scopes j ≡ Some s → variables_at (set_variables h j vs).scopes j ≡ Some vs
fields_here h j vs s is =
    ap (λ o. variables_at (changed (λ s. scope.setting_variables s vs) h j o).scopes j) is
    ∙ ap (option_map variables_of) (set_here h.scopes j s (scope.setting_variables s vs) is)

pub fields_other : (h : Home) (j i : ℕ) (vs : List (Option TypeId)) → (i ≡ j → ⊥) → variables_at (set_variables h j vs).scopes i ≡ variables_at h.scopes i
fields_other h j i vs other = by (slice_get h.scopes j)
  where
    by : (o : Option Scope) → variables_at (changed (λ s. scope.setting_variables s vs) h j o).scopes i ≡ variables_at h.scopes i
    by None = refl
    by (Some s) = ap (option_map variables_of) (set_other h.scopes j i (scope.setting_variables s vs) other)

pub fields_good : (h : Home) (j : ℕ) (vs : List (Option TypeId)) → AllGood h → AllGood (set_variables h j vs)
fields_good h j vs all = by (slice_get h.scopes j) refl
  where
    by : (o : Option Scope) → slice_get h.scopes j ≡ o → AllGood (changed (λ s. scope.setting_variables s vs) h j o)
    by None is = all
    by (Some s) is = λ i x there. set_gives (λ (z : Scope). AreGood z.constants) h.scopes j i x (scope.setting_variables s vs) there (all j s is) (λ old. all i x old)

pub fields_records : (h : Home) (j : ℕ) (vs : List (Option TypeId)) → (set_variables h j vs).records ≡ h.records
fields_records h j vs = changed_records (λ s. scope.setting_variables s vs) h j (slice_get h.scopes j)

-- constants leave variables as they are, and one more variable those of all other scopes
pub constant_same : (h : Home) (k : ℕ) (c : Constant) (j : ℕ) → variables_at (add_constant h k c).scopes j ≡ variables_at h.scopes j
constant_same h k c j = by (slice_get h.scopes k) refl
  where
    by : (o : Option Scope) → slice_get h.scopes k ≡ o → variables_at (changed (λ s. scope.with_constant s c) h k o).scopes j ≡ variables_at h.scopes j
    by None is = refl
    by (Some s) is = set_kept variables_of h.scopes k s (scope.with_constant s c) is refl j

pub variable_other : (h : Home) (k : ℕ) (of : Option TypeId) (j : ℕ) → (j ≡ k → ⊥) → variables_at (add_variable h k of).scopes j ≡ variables_at h.scopes j
variable_other h k of j other = by (slice_get h.scopes k)
  where
    by : (o : Option Scope) → variables_at (changed (λ s. scope.with_variable s of) h k o).scopes j ≡ variables_at h.scopes j
    by None = refl
    by (Some s) = ap (option_map variables_of) (set_other h.scopes k j (scope.with_variable s of) other)
