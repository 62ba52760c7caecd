-- The object types that a module declares, by the types' numbers: each has the scope of a type, and no two have one.
use Rattle.std.proofs.Common.{◌≡◌, ◌<◌, ◌≤◌, ℕ, zero, suc, ◌+◌, nat_eq, List, [], ◌∷◌, length, fold, Option, Some, None, option_map, slice_get, refl, sym, ap, ◌∙◌, subst, arith}
use Rattle.std.specs.Map.{lookup}
use Rattle.std.proofs.lemmas.Bool.{cases_lt, cases_order}
use Rattle.std.proofs.lemmas.Option.{none-some, same_Some, slice_get_within}
use mathlib.Core.Logic.{◌⊎◌, inl, inr}
use Rattle.aos_tree.specs.declared.decl.TypeDef.{TypeDef}
use Rattle.aos_tree.specs.declared.decl.TypeExpr.{TypeExpr}
use Rattle.aos_tree.specs.declared.decl.TypeExpr.TheVariants as type
use Rattle.aos_tree.specs.declared.module.Module.{Module}
use Rattle.aos_types.specs.declared.row.TypeId.{TypeId}
use Rattle.aos_symbols.specs.declared.home.ObjectScope.{ObjectScope}
use Rattle.aos_symbols.specs.Declarations.{procedures, type_defs, single_variables, inner_decls}
use Rattle.aos_symbols.specs.Scope.{Named}
use Rattle.aos_symbols.specs.Home.{Home}
use Rattle.aos_tree.specs.declared.decl.Decl.{items-the_row-Decl}
use Rattle.aos_entries.specs.Entries.{Objects, initial_of, numbered_objects, with_object, next_object, objects_of, number_at, inner_scope, inner_scopes, scopes}
use Rattle.aos_entries.proofs.Entered.{inner_long}
use Rattle.aos_symbols.proofs.Records.{lookup_here, lookup_other}
use Rattle.aos_check_expr.proofs.Opens.{some_there}
use Rattle.aos_check_decl.proofs.ObjectTypes.{IsObject}
use Rattle.aos_check_decl.proofs.TypingEntries.{inner_at}
use Rattle.aos_check_types.proofs.TypingLists.{get_below}
use Rattle.aos_check_decl.proofs.TypingScopes.{names_of, names_at}
use Rattle.aos_check_decl.proofs.TypingFields.{AreApart}

-- what stands beside a type's number
abbrev pub at_key : List (ℕ × ObjectScope) → TypeId → Option ObjectScope
at_key os t = lookup (λ k. nat_eq t.0 k) os

-- how many fields the object type whose scope has this number declares
abbrev count_of : Option TypeDef → ℕ
count_of None = 0
count_of (Some d) = length (single_variables (inner_decls d.value))

abbrev pub fields_at : List TypeDef → ℕ → ℕ
fields_at ds zero = 0
fields_at ds (suc j) = count_of (slice_get ds j)

pub fields_are : (ds : List TypeDef) (j : ℕ) (d : TypeDef) → slice_get ds j ≡ Some d → fields_at ds (suc j) ≡ length (single_variables (inner_decls d.value))
fields_are ds j d is = ap count_of is

module _ (m : ℕ) (numbers : List (Option TypeId)) (ds : List TypeDef) where
  -- the object type with a number: the place of its definition
  pub record IsDefined (t : TypeId) (o : ObjectScope) : Type 0 where
    pub place : ℕ
    pub def : TypeDef
    pub is : slice_get ds place ≡ Some def
    pub object : IsObject def.value
    pub number : number_at numbers place ≡ Some t
    pub home : o.home ≡ m
    pub scope : o.scope ≡ suc place

  -- all of them, of which the first so many are met
  record AreMet (n : ℕ) (os : List (ℕ × ObjectScope)) : Type 0 where
    defined : (t : TypeId) (o : ObjectScope) → at_key os t ≡ Some o → IsDefined t o
    low : (t : TypeId) (o : ObjectScope) → at_key os t ≡ Some o → o.scope ≤ n
    apart : (t u : TypeId) (o q : ObjectScope) → at_key os t ≡ Some o → at_key os u ≡ Some q → o.scope ≡ q.scope → t.0 ≡ u.0
    all : (j : ℕ) (d : TypeDef) (t : TypeId) → j < n → slice_get ds j ≡ Some d → IsObject d.value → number_at numbers j ≡ Some t → (o : ObjectScope) × (at_key os t ≡ Some o)

  below_or : (n j : ℕ) → j < suc n → (j < n) ⊎ (j ≡ n)
  below_or n j below = by (cases_lt j n)
    where
      by : (j < n) ⊎ (n ≤ j) → (j < n) ⊎ (j ≡ n)
      by (inl low) = inl low
      by (inr high) = inr (omega (arith, high, below))

  -- where the next definition is none
  later : (n : ℕ) (os : List (ℕ × ObjectScope)) → AreMet n os → ((d : TypeDef) (t : TypeId) → slice_get ds n ≡ Some d → IsObject d.value → number_at numbers n ≡ Some t → ⊥) → AreMet (suc n) os
  later n os are never = record {
    defined = are.defined;
    low = λ t o at. (let l = are.low t o at in omega (arith, l));
    apart = are.apart;
    all = λ j d t below is object number. by j d t (below_or n j below) is object number;
  }
    where
      by : (j : ℕ) (d : TypeDef) (t : TypeId) → (j < n) ⊎ (j ≡ n) → slice_get ds j ≡ Some d → IsObject d.value → number_at numbers j ≡ Some t → (o : ObjectScope) × (at_key os t ≡ Some o)
      by j d t (inl low) is object number = are.all j d t low is object number
      by j d t (inr same) is object number = absurd (never d t (ap (slice_get ds) (sym same) ∙ is) object (ap (number_at numbers) (sym same) ∙ number))

  -- one more, in the next scope
  module _ (n : ℕ) (os all : List (ℕ × ObjectScope)) (are : AreMet n os) (t0 : TypeId) (one : ObjectScope) (home_is : one.home ≡ m) (scope_is : one.scope ≡ suc n)
      (added : at_key all t0 ≡ Some one) (kept : (t : TypeId) → (t.0 ≡ t0.0 → ⊥) → at_key all t ≡ at_key os t) (d : TypeDef) (is : slice_get ds n ≡ Some d)
      (object : IsObject d.value) (number : number_at numbers n ≡ Some t0) where
    abbrev IsOrWas : TypeId → ObjectScope → Type 0
    IsOrWas t o = ((t.0 ≡ t0.0) × (o ≡ one)) ⊎ (at_key os t ≡ Some o)

    found : (t : TypeId) (o : ObjectScope) → at_key all t ≡ Some o → IsOrWas t o
    found t o at = by (cases_order t.0 t0.0)
      where
        other : (t.0 ≡ t0.0 → ⊥) → IsOrWas t o
        other differ = inr (sym (kept t differ) ∙ at)

        by : (t.0 ≡ t0.0) ⊎ ((t.0 < t0.0) ⊎ (t0.0 < t.0)) → IsOrWas t o
        by (inl same) = inl (same, same_Some o one (sym at ∙ ap (λ n. lookup (λ j. nat_eq n j) all) same ∙ added))
        by (inr (inl l)) = other (λ same. omega (arith, l, same))
        by (inr (inr l)) = other (λ same. omega (arith, l, same))

    scope_of : {o : ObjectScope} → o ≡ one → o.scope ≡ suc n
    scope_of e = ap (λ (o : ObjectScope). o.scope) e ∙ scope_is

    by_defined : (t : TypeId) (o : ObjectScope) → IsOrWas t o → IsDefined t o
    by_defined t o (inl x) = record {
      place = n;
      def = d;
      is = is;
      object = object;
      number = number ∙ ap (λ k. Some (record { 0 = k })) (sym x.0);
      home = ap (λ (o : ObjectScope). o.home) x.1 ∙ home_is;
      scope = scope_of x.1;
    }
    by_defined t o (inr at) = are.defined t o at

    by_low : (t : TypeId) (o : ObjectScope) → IsOrWas t o → o.scope ≤ suc n
    by_low t o (inl x) = let e = scope_of x.1 in omega (arith, e)
    by_low t o (inr at) = let l = are.low t o at in omega (arith, l)

    by_apart : (t u : TypeId) (o q : ObjectScope) → IsOrWas t o → IsOrWas u q → o.scope ≡ q.scope → t.0 ≡ u.0
    by_apart t u o q (inl x) (inl y) same = x.0 ∙ sym y.0
    by_apart t u o q (inl x) (inr at) same = let l = are.low u q at in let e = scope_of x.1 in absurd (omega (arith, l, e, same))
    by_apart t u o q (inr at) (inl y) same = let l = are.low t o at in let e = scope_of y.1 in absurd (omega (arith, l, e, same))
    by_apart t u o q (inr at) (inr there) same = are.apart t u o q at there same

    here : (t : TypeId) → t.0 ≡ t0.0 → at_key all t ≡ Some one
    here t same = ap (λ n. lookup (λ j. nat_eq n j) all) same ∙ added

    still : (t : TypeId) (o : ObjectScope) → at_key os t ≡ Some o → (o : ObjectScope) × (at_key all t ≡ Some o)
    still t o at = by (cases_order t.0 t0.0)
      where
        other : (t.0 ≡ t0.0 → ⊥) → (o : ObjectScope) × (at_key all t ≡ Some o)
        other differ = (o, kept t differ ∙ at)

        by : (t.0 ≡ t0.0) ⊎ ((t.0 < t0.0) ⊎ (t0.0 < t.0)) → (o : ObjectScope) × (at_key all t ≡ Some o)
        by (inl same) = (one, here t same)
        by (inr (inl l)) = other (λ same. omega (arith, l, same))
        by (inr (inr l)) = other (λ same. omega (arith, l, same))

    by_all : (j : ℕ) (d : TypeDef) (t : TypeId) → (j < n) ⊎ (j ≡ n) → slice_get ds j ≡ Some d → IsObject d.value → number_at numbers j ≡ Some t → (o : ObjectScope) × (at_key all t ≡ Some o)
    by_all j d t (inl low) there object at = let x = are.all j d t low there object at in still t x.0 x.1
    by_all j d t (inr same) there object at =
        let equal = same_Some t t0 (sym at ∙ ap (number_at numbers) same ∙ number) in (one, here t (ap (λ (t : TypeId). t.0) equal))

    one_more : AreMet (suc n) all
    one_more = record {
      defined = λ t o at. by_defined t o (found t o at);
      low = λ t o at. by_low t o (found t o at);
      apart = λ t u o q at there same. by_apart t u o q (found t o at) (found u q there) same;
      all = λ j d t below there object at. by_all j d t (below_or n j below) there object at;
    }

  no_object : (n : ℕ) (d : TypeDef) → slice_get ds n ≡ Some d → (IsObject d.value → ⊥) → (x : TypeDef) (t : TypeId) → slice_get ds n ≡ Some x → IsObject x.value → number_at numbers n ≡ Some t → ⊥
  no_object n d is never x t there object number = never (subst (λ (z : TypeDef). IsObject z.value) (same_Some x d (sym there ∙ is)) object)

  with_one : (n methods : ℕ) (number : Option TypeId) (d : TypeDef) (of : TypeExpr) (os : List (ℕ × ObjectScope)) → AreMet n os → slice_get ds n ≡ Some d → d.value ≡ of →
      number_at numbers n ≡ number → AreMet (suc n) (with_object m n methods number of os)
  with_one n methods None d of os are is value at = later n os are (λ x t there object number. none-some t (sym at ∙ number))
  with_one n methods (Some t) d (type.Object' p base shape row body end) os are is value at =
      let o : ObjectScope = record { home = m; scope = suc n; methods = methods; initial = initial_of (items-the_row-Decl _ row) } in
      one_more n os _ are t o refl refl (lookup_here os t.0 o) (λ u differ. lookup_other os t.0 u.0 o differ) d is (subst IsObject (sym value) tt) at
  with_one n methods (Some t) d (type.Named q) os are is value at = later n os are (no_object n d is (λ object. subst IsObject value object))
  with_one n methods (Some t) d (type.Array' p lengths shape row) os are is value at = later n os are (no_object n d is (λ object. subst IsObject value object))
  with_one n methods (Some t) d (type.Record' p base shape row) os are is value at = later n os are (no_object n d is (λ object. subst IsObject value object))
  with_one n methods (Some t) d (type.Pointer' p shape row) os are is value at = later n os are (no_object n d is (λ object. subst IsObject value object))
  with_one n methods (Some t) d (type.Proc p flag formals) os are is value at = later n os are (no_object n d is (λ object. subst IsObject value object))

  all_met : (rest : List TypeDef) (x : Objects) → AreMet x.place x.all → ((j : ℕ) → slice_get ds (x.place + j) ≡ slice_get rest j) →
      AreMet (x.place + length rest) (fold (next_object m numbers) x rest).all
  all_met [] x are there = subst (λ n. AreMet n x.all) (let same : x.place ≡ x.place + 0 = omega arith in same) are
  all_met (d ∷ rest) x are there =
      subst (λ n. AreMet n (fold (next_object m numbers) x (d ∷ rest)).all) (let same : suc x.place + length rest ≡ x.place + suc (length rest) = omega arith in same)
      (all_met rest (next_object m numbers x d)
      (with_one x.place x.methods (number_at numbers x.place) d d.value x.all are
      (ap (slice_get ds) (let same : x.place ≡ x.place + 0 = omega arith in same) ∙ there 0) refl refl)
      (λ j. ap (slice_get ds) (let same : suc x.place + j ≡ x.place + suc j = omega arith in same) ∙ there (suc j)))

module _ (m : ℕ) (numbers : List (Option TypeId)) (tree : Module) where
  objects_met : AreMet m numbers (type_defs tree.decls) (length (type_defs tree.decls)) (objects_of m numbers tree.decls)
  objects_met =
      subst (λ n. AreMet m numbers (type_defs tree.decls) n (objects_of m numbers tree.decls)) (let same : 0 + length (type_defs tree.decls) ≡ length (type_defs tree.decls) = omega arith in same)
      (all_met m numbers (type_defs tree.decls) (type_defs tree.decls) (numbered_objects 0 (length (procedures tree.decls)) [])
      (record { defined = λ t o at. absurd (none-some o at); low = λ t o at. absurd (none-some o at); apart = λ t u o q at there same. absurd (none-some o at); all = λ j d t below is object number. absurd (omega (arith, below)) })
      (λ j. ap (slice_get (type_defs tree.decls)) (let same : 0 + j ≡ j = omega arith in same)))

  pub own_defined : (t : TypeId) (o : ObjectScope) → at_key (objects_of m numbers tree.decls) t ≡ Some o → IsDefined m numbers (type_defs tree.decls) t o
  own_defined = objects_met.defined

  pub own_all : (j : ℕ) (d : TypeDef) (t : TypeId) → slice_get (type_defs tree.decls) j ≡ Some d → IsObject d.value → number_at numbers j ≡ Some t →
      (o : ObjectScope) × (at_key (objects_of m numbers tree.decls) t ≡ Some o)
  own_all j d t is object number = objects_met.all j d t (slice_get_within (type_defs tree.decls) j d is) is object number

  pub own_homes : (t : TypeId) (o : ObjectScope) → at_key (objects_of m numbers tree.decls) t ≡ Some o → o.home ≡ m
  own_homes t o at = (objects_met.defined t o at).home

  pub own_apart : AreApart (length (type_defs tree.decls)) (objects_of m numbers tree.decls)
  own_apart = record {
    places = λ t o at. (let s = (objects_met.defined t o at).scope in omega (arith, s), objects_met.low t o at);
    apart = objects_met.apart;
  }

-- the scopes of types are there
pub inner_there : (text : List ℕ) (homes : List Home) (numbers : List (Option TypeId)) (m : Module) (k : ℕ) → k ≤ length (type_defs m.decls) →
    (ns : List Named) × (names_at (scopes text homes numbers m) k ≡ Some ns)
inner_there text homes numbers m zero low = (_, refl)
inner_there text homes numbers m (suc j) low =
    let ds = type_defs m.decls in
    let inner = inner_scopes text numbers (length ds) ds in
    let d = some_there ds j (omega (arith, low)) in
    let x = inner_at text numbers (length ds) ds j d.0 d.1 in
    let long = inner_long text numbers (length ds) ds in
    ((inner_scope text numbers x.0 (inner_decls d.0.value)).entries, ap (option_map names_of) (get_below inner _ j (omega (arith, low, long)) ∙ x.1))
