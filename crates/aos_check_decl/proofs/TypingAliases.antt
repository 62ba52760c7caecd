-- The numbers that definitions stand for: a name for another type leads to a type that is no such name, where no type of the
-- table contains itself.
use Rattle.std.proofs.Common.{◌≡◌, ℕ, zero, suc, ◌+◌, ◌-◌, ◌<◌, ◌≤◌, ◌==◌, List, [], ◌∷◌, ◌++◌, length, get_or, Bool, true, false, nat_lt, Option, Some, None, option_map, slice_get, if◌then◌else◌, refl, sym, ap, ◌∙◌, subst, arith}
use Rattle.std.specs.Prelude.{eqb}
use Rattle.std.specs.List.{IsDistinct, AllByRecursion}
use Rattle.std.proofs.lemmas.Bool.{cases_Bool, eqb-true}
use Rattle.std.proofs.lemmas.Map.Steps.{length-le_from_distinct_below}
use Rattle.std.proofs.lemmas.Option.{none-some, same_Some, slice_get_within, slice_get-get_or}
use mathlib.Core.Logic.{◌⊎◌, inl, inr}
use Rattle.aos_types.specs.declared.row.TypeId.{TypeId}
use Rattle.aos_types.specs.declared.row.TypeRow.{TypeRow}
use Rattle.aos_types.specs.declared.row.TypeRow.TheVariants as row
use Rattle.aos_types.specs.Table.{row_of, is_object, is_open}
use Rattle.aos_types.specs.Chain.{parts_of, IsOneOf, IsPartOf, IsRanked, NoneContainsItself}
use Rattle.aos_types.proofs.Ranks.{IsNumber, is_number, ranked}
use Rattle.aos_symbols.proofs.Told.{IsTold, basic, of_any, defined, told_behind}
use Rattle.aos_check_types.specs.declared.aliases.Target.{Target}
use Rattle.aos_check_types.specs.declared.aliases.Target.TheVariants.{Own, Of, Nothing}
use Rattle.aos_symbols.specs.Env.{nil}
use Rattle.aos_check_types.specs.Aliases.{target_at, step, follow, proper, stands_for, first_row, first_rows}
use Rattle.aos_check_types.proofs.TypingLists.{get_behind}
use Rattle.aos_check_decl.proofs.TypingTargets.{IsMeant}

no_target : {t : Target} → None ≡ Some t → ⊥
no_target e = cc

pub own_of : {t : TypeId} → Own ≡ Of t → ⊥
own_of e = cc

nothing_of : {t : TypeId} → Nothing ≡ Of t → ⊥
nothing_of e = cc

same_of : (t u : TypeId) → Of t ≡ Of u → t ≡ u
same_of t u e = cc

-- each leads to itself or to a type that is known
abbrev pub IsSound : List TypeRow → ℕ → Target → Type 0
IsSound types n Own = Unit {0}
IsSound types n (Of t) = IsMeant types n t
IsSound types n Nothing = ⊥

-- one name further, from a type with this target
abbrev pub stepped : TypeId → Option Target → TypeId
stepped t None = t
stepped t (Some Own) = t
stepped t (Some (Of u)) = u
stepped t (Some Nothing) = nil

module _ (first : ℕ) (ts : List Target) where
  pub step_is : (t : TypeId) (o : Option Target) → target_at first ts t ≡ o → step first ts t ≡ stepped t o
  step_is t o is = ap (stepped t) is

  -- a type that isn't a name for another one
  abbrev pub IsProper : TypeId → Type 0
  IsProper t = (u : TypeId) → target_at first ts t ≡ Some (Of u) → ⊥

  -- the target of a type is that of a definition
  pub target_there : (t : TypeId) (x : Target) → target_at first ts t ≡ Some x → (first ≤ t.0) × (slice_get ts (t.0 - first) ≡ Some x)
  target_there t x is = by (nat_lt t.0 first) refl is
    where
      by : (b : Bool) → nat_lt t.0 first ≡ b → (if b then None else slice_get ts (t.0 - first)) ≡ Some x → (first ≤ t.0) × (slice_get ts (t.0 - first) ≡ Some x)
      by true below is = absurd (no_target is)
      by false behind is = (let l : first ≤ t.0 = grind (arith, behind) in l, is)

  abbrev pub at_target : TypeId → Option Target → Option TypeId
  at_target t None = Some t
  at_target t (Some Own) = Some t
  at_target t (Some (Of u)) = None
  at_target t (Some Nothing) = None

  pub proper_by : (t : TypeId) (b : Bool) (o : Option Target) → (t.0 == nil.0) ≡ b → target_at first ts t ≡ o → proper first ts t ≡ (if b then None else at_target t o)
  proper_by t b o is at = (λ i. if is i then None else at_target t (at i))

  -- what is proper is that type, and no name for another one
  pub proper_says : (t u : TypeId) → proper first ts t ≡ Some u → (t ≡ u) × IsProper t
  proper_says t u e = by (t.0 == nil.0) (target_at first ts t) refl refl
    where
      by : (b : Bool) (o : Option Target) → (t.0 == nil.0) ≡ b → target_at first ts t ≡ o → (t ≡ u) × IsProper t
      by true o is at = absurd (none-some u (sym (proper_by t true o is at) ∙ e))
      by false None is at = (same_Some t u (sym (proper_by t false None is at) ∙ e), λ v to. no_target (sym at ∙ to))
      by false (Some Own) is at = (same_Some t u (sym (proper_by t false (Some Own) is at) ∙ e), λ v to. own_of (same_Some Own (Of v) (sym at ∙ to)))
      by false (Some (Of v)) is at = absurd (none-some u (sym (proper_by t false (Some (Of v)) is at) ∙ e))
      by false (Some Nothing) is at = absurd (none-some u (sym (proper_by t false (Some Nothing) is at) ∙ e))

  -- a definition of its own stands for itself
  pub own_follows : (n : ℕ) (t : TypeId) → target_at first ts t ≡ Some Own → follow first ts n t ≡ t
  own_follows zero t is = refl
  own_follows (suc n) t is = ap (follow first ts n) (step_is t (Some Own) is) ∙ own_follows n t is

  pub own_target : (k : ℕ) (x : Target) → slice_get ts k ≡ Some x → target_at first ts (record { 0 = first + k }) ≡ Some x
  own_target k x is = by (nat_lt (first + k) first) refl
    where
      by : (b : Bool) → nat_lt (first + k) first ≡ b → (if b then None else slice_get ts ((first + k) - first)) ≡ Some x
      by true low = absurd (let l : first + k < first = grind (arith, low) in omega (arith, l))
      by false high = ap (slice_get ts) (let same : (first + k) - first ≡ k = omega arith in same) ∙ is

pub rows_at : (k : ℕ) (ts : List Target) (j : ℕ) → slice_get (first_rows k ts) j ≡ option_map (first_row (k + j)) (slice_get ts j)
rows_at k [] j = refl
rows_at k (t ∷ ts) zero = ap (λ n. Some (first_row n t)) (let same : k ≡ k + 0 = omega arith in same)
rows_at k (t ∷ ts) (suc j) = rows_at (suc k) ts j ∙ ap (λ n. option_map (first_row n) (slice_get ts j)) (let same : suc k + j ≡ k + suc j = omega arith in same)

-- the first row of a definition
pub first_row_at : (types : List TypeRow) (ts : List Target) (k : ℕ) (t : Target) → slice_get ts k ≡ Some t →
    slice_get (types ++ first_rows (length types) ts) (length types + k) ≡ Some (first_row (length types + k) t)
first_row_at types ts k t is =
    get_behind types (first_rows (length types) ts) k ∙ rows_at (length types) ts k ∙ ap (option_map (first_row (length types + k))) is

module _ (types : List TypeRow) (ts : List Target) (ten : 10 ≤ length types) (sound : (k : ℕ) (x : Target) → slice_get ts k ≡ Some x → IsSound types (length ts) x) where
  abbrev first : ℕ
  first = length types

  abbrev Meant : TypeId → Type 0
  Meant = IsMeant types (length ts)

  no_nothing : (t : TypeId) → target_at first ts t ≡ Some Nothing → ⊥
  no_nothing t is = sound (t.0 - first) Nothing (target_there first ts t Nothing is).1

  step_meant : (t : TypeId) → Meant t → Meant (step first ts t)
  step_meant t meant = by (target_at first ts t) refl
    where
      by : (o : Option Target) → target_at first ts t ≡ o → Meant (step first ts t)
      by None is = subst Meant (sym (step_is first ts t None is)) meant
      by (Some Own) is = subst Meant (sym (step_is first ts t (Some Own) is)) meant
      by (Some (Of u)) is = subst Meant (sym (step_is first ts t (Some (Of u)) is)) (sound (t.0 - first) (Of u) (target_there first ts t (Of u) is).1)
      by (Some Nothing) is = absurd (no_nothing t is)

  pub follow_meant : (n : ℕ) (t : TypeId) → Meant t → Meant (follow first ts n t)
  follow_meant zero t meant = meant
  follow_meant (suc n) t meant = follow_meant n (step first ts t) (step_meant t meant)

  not_nil : (t : TypeId) → Meant t → t.0 ≡ 7 → ⊥
  not_nil t (inl (basic low)) is = omega (arith, low, is)
  not_nil t (inl (of_any any)) is = omega (arith, any, is)
  not_nil t (inl (defined r high there closed)) is = omega (arith, high, is)
  not_nil t (inr own) is = let l = own.0 in omega (arith, ten, l, is)

  is_proper : (t : TypeId) → Meant t → IsProper first ts t → proper first ts t ≡ Some t
  is_proper t meant own = by (t.0 == nil.0) (target_at first ts t) refl refl
    where
      by : (b : Bool) (o : Option Target) → (t.0 == nil.0) ≡ b → target_at first ts t ≡ o → proper first ts t ≡ Some t
      by true o is at = absurd (not_nil t meant (eqb-true t.0 7 is))
      by false None is at = proper_by first ts t false None is at
      by false (Some Own) is at = proper_by first ts t false (Some Own) is at
      by false (Some (Of v)) is at = absurd (own v at)
      by false (Some Nothing) is at = absurd (no_nothing t at)

  -- What leads to no name for another type in as many steps as there are definitions stands for it; the type is told by the first rows.

  abbrev table : List TypeRow
  table = types ++ first_rows first ts

  told_row : (k : ℕ) (x : Target) → IsSound types (length ts) x → is_open (Some (first_row k x)) ≡ false
  told_row k Own is = refl
  told_row k (Of u) is = refl
  told_row k Nothing is = absurd is

  pub told_first : (t : TypeId) → Meant t → IsTold table t
  told_first t (inl told) = told_behind types (first_rows first ts) t told
  told_first t (inr own) =
      let l = own.0 in
      let m = own.1 in
      let k = t.0 - first in
      let number : first + k ≡ t.0 = omega (arith, l) in
      let x = get_or ts k Own in
      let is = slice_get-get_or ts k Own (omega (arith, l, m)) in
      let there = ap (slice_get table) (sym number) ∙ first_row_at types ts k x is in
      defined (first_row (first + k) x) (omega (arith, l, ten)) there (told_row (first + k) x (sound k x is))

  pub stands : (t : TypeId) → Meant t → IsProper first ts (follow first ts (length ts) t) → (u : TypeId) × (stands_for first ts t ≡ Some u) × IsTold table u
  stands t meant own =
      let u = follow first ts (length ts) t in
      let means = follow_meant (length ts) t meant in
      (u, is_proper u means own, told_first u means)

  -- Where no type of a table contains itself in which names for other types are arrays of one of these, names lead to an end.

  module _ (rows : List TypeRow) (free : NoneContainsItself rows)
      (are : (k : ℕ) (u : TypeId) → slice_get ts k ≡ Some (Of u) → slice_get rows (first + k) ≡ Some (row.Array 1 u)) where
    abbrev target : TypeId → Option Target
    target = target_at first ts

    alias_row : (t u : TypeId) → target t ≡ Some (Of u) → row_of rows t ≡ Some (row.Array 1 u)
    alias_row t u is =
        let there = target_there first ts t (Of u) is in
        let l = there.0 in
        let number : first + (t.0 - first) ≡ t.0 = omega (arith, l) in
        ap (slice_get rows) (sym number) ∙ are (t.0 - first) u there.1

    alias_step : (t u : TypeId) → target t ≡ Some (Of u) → step first ts t ≡ u
    alias_step t u is = step_is first ts t (Some (Of u)) is

    alias_part : (t u v : TypeId) → target t ≡ Some (Of u) → target u ≡ Some (Of v) → IsPartOf rows u t
    alias_part t u v one two = subst (λ o. IsOneOf u (parts_of rows o)) (sym (alias_row t u one)) (by (row_of rows u) (alias_row u v two))
      where
        by : (o : Option TypeRow) → o ≡ Some (row.Array 1 v) → IsOneOf u (if is_object o then [] else u ∷ [])
        by o is = subst (λ (b : Bool). IsOneOf u (if b then [] else u ∷ [])) (sym (ap is_object is)) (inl refl)

    -- what leads to such a name after some steps is one
    begins : (n : ℕ) (t u : TypeId) → target (follow first ts n t) ≡ Some (Of u) → (v : TypeId) × (target t ≡ Some (Of v))
    begins zero t u is = (u, is)
    begins (suc n) t u is = by (target t) refl (begins n (step first ts t) u is)
      where
        by : (o : Option Target) → target t ≡ o → (v : TypeId) × (target (step first ts t) ≡ Some (Of v)) → (v : TypeId) × (target t ≡ Some (Of v))
        by None at more = (more.0, ap target (sym (step_is first ts t None at)) ∙ more.1)
        by (Some Own) at more = (more.0, ap target (sym (step_is first ts t (Some Own) at)) ∙ more.1)
        by (Some (Of v)) at more = (v, at)
        by (Some Nothing) at more = absurd (no_nothing t at)

    -- the places of the names on the way
    abbrev places : ℕ → TypeId → List ℕ
    places zero t = (t.0 - first) ∷ []
    places (suc n) t = (t.0 - first) ∷ places n (step first ts t)

    places_long : (n : ℕ) (t : TypeId) → length (places n t) ≡ suc n
    places_long zero t = refl
    places_long (suc n) t = ap suc (places_long n (step first ts t))

    place_there : (t u : TypeId) → target t ≡ Some (Of u) → t.0 - first < length ts
    place_there t u is = slice_get_within ts (t.0 - first) (Of u) (target_there first ts t (Of u) is).1

    places_there : (n : ℕ) (t u : TypeId) → target (follow first ts n t) ≡ Some (Of u) → (k : ℕ) → IsNumber k (places n t) → k < length ts
    places_there zero t u is k (inl e) = subst (λ z. z < length ts) e (place_there t u is)
    places_there zero t u is k (inr h) = absurd h
    places_there (suc n) t u is k (inl e) = let b = begins (suc n) t u is in subst (λ z. z < length ts) e (place_there t b.0 b.1)
    places_there (suc n) t u is k (inr h) = places_there n (step first ts t) u is k h

    module _ (ranks : IsRanked rows) where
      abbrev rank : ℕ → ℕ
      rank k = ranks.rank (record { 0 = first + k })

      rank_of : (t u : TypeId) → target t ≡ Some (Of u) → rank (t.0 - first) ≡ ranks.rank t
      rank_of t u is =
          let l = (target_there first ts t (Of u) is).0 in
          let number : first + (t.0 - first) ≡ t.0 = omega (arith, l) in
          ap (λ n. ranks.rank (record { 0 = n })) number

      -- each place on the way is of no higher rank than the first
      low : (n : ℕ) (t u : TypeId) → target (follow first ts n t) ≡ Some (Of u) → (k : ℕ) → IsNumber k (places n t) → rank k ≤ ranks.rank t
      low zero t u is k (inl e) = let r = rank_of t u is in subst (λ z. rank z ≤ ranks.rank t) e (omega (arith, r))
      low zero t u is k (inr h) = absurd h
      low (suc n) t u is k (inl e) =
          let b = begins (suc n) t u is in
          let r = rank_of t b.0 b.1 in
          subst (λ z. rank z ≤ ranks.rank t) e (omega (arith, r))
      low (suc n) t u is k (inr h) =
          let b = begins (suc n) t u is in
          let d = begins n (step first ts t) u is in
          let s = alias_step t b.0 b.1 in
          let f = ranks.falls t b.0 (alias_part t b.0 d.0 b.1 (ap target (sym s) ∙ d.1)) in
          let l = low n (step first ts t) u is k h in
          let m : ranks.rank (step first ts t) ≡ ranks.rank b.0 = ap ranks.rank s in
          omega (arith, f, l, m)

      differ : (k : ℕ) (ks : List ℕ) → ((j : ℕ) → IsNumber j ks → rank j < rank k) → AllByRecursion (λ y. eqb k y ≡ false) ks
      differ k [] below = tt
      differ k (j ∷ ks) below = (by (cases_Bool (eqb k j)), differ k ks (λ i h. below i (inr h)))
        where
          by : (eqb k j ≡ true) ⊎ (eqb k j ≡ false) → eqb k j ≡ false
          by (inl e) = let same = eqb-true k j e in let l = below j (inl refl) in absurd (absurd_rank k j same l)
            where
              absurd_rank : (k j : ℕ) → k ≡ j → rank j < rank k → ⊥
              absurd_rank k j same l = let r : rank k ≡ rank j = ap rank same in omega (arith, r, l)
          by (inr e) = e

      distinct : (n : ℕ) (t u : TypeId) → target (follow first ts n t) ≡ Some (Of u) → IsDistinct eqb (places n t)
      unfolding IsDistinct
      distinct zero t u is = (tt, tt)
      distinct (suc n) t u is =
          let b = begins (suc n) t u is in
          let d = begins n (step first ts t) u is in
          let s = alias_step t b.0 b.1 in
          let f = ranks.falls t b.0 (alias_part t b.0 d.0 b.1 (ap target (sym s) ∙ d.1)) in
          let m : ranks.rank (step first ts t) ≡ ranks.rank b.0 = ap ranks.rank s in
          let r = rank_of t b.0 b.1 in
          (differ (t.0 - first) (places n (step first ts t)) (λ j h. let l = low n (step first ts t) u is j h in omega (arith, f, l, m, r)), distinct n (step first ts t) u is)

    -- so there are more definitions than steps
    way_short : (n : ℕ) (t u : TypeId) → target (follow first ts n t) ≡ Some (Of u) → n < length ts
    way_short n t u is =
        let l = length-le_from_distinct_below (places n t) (length ts) (distinct (ranked rows free) n t u is) (λ k e. places_there n t u is k (is_number k (places n t) e)) in
        let m = places_long n t in
        omega (arith, l, m)

    pub ends : (t : TypeId) → IsProper first ts (follow first ts (length ts) t)
    ends t u is = let l = way_short (length ts) t u is in omega (arith, l)
