-- Types that contain themselves are marked: where a type has one part alone, that contains itself, too.
use Rattle.std.proofs.Common.{◌≡◌, ℕ, ◌<◌, List, [], ◌∷◌, ◌++◌, length, get_or, refl, Some, None, sym, ap, append-nil, ◌+◌, ◌≤◌, ◌∙◌, subst, arith}
use Rattle.std.specs.Prelude.{Bool, true, false, slice_get, slice_set, replicate}
use Rattle.std.specs.List.{flat_map}
use mathlib.Core.Logic.{◌⊎◌, inl, inr}
use Rattle.std.proofs.lemmas.Bool.{cases_lt}
use Rattle.std.proofs.lemmas.List.{ext_get_or, length-set, length-replicate}
use Rattle.std.proofs.lemmas.Option.{same_Some, slice_get-get_or}
use Rattle.aos_types.specs.declared.row.TypeId.{TypeId}
use Rattle.aos_types.specs.declared.row.TypeRow.{TypeRow}
use Rattle.aos_types.specs.Table.{row_of}
use Rattle.aos_types.specs.Chain.{held, base_list, parts_of, IsOneOf, IsPartOf, IsChain, LeadsTo, ContainsItself, contains_itself, circles}
use Rattle.aos_types.specs.Circle.{only, AreSound, IsMarked, IsTested, AreTested}
use Rattle.aos_types.proofs.Marks.{marked_here, marked_still, marked_before, none_marked}
use Rattle.aos_types.proofs.Reached.{begins_added, chain_more}
use Rattle.aos_types.proofs.Circles.{circle_test}
use Rattle.aos_types.proofs.Cut.{circles_long, flag_of}

module _ (rows : List TypeRow) where
  pub in_range : (flags : List Bool) (t : TypeId) → AreSound rows flags → ContainsItself rows t → t.0 < length flags
  in_range flags t s way =
      let l = begins_added rows t t way in
      let m = s.long in
      omega (arith, l, m)

  pub one_marked : (flags flags' : List Bool) (t : TypeId) → AreSound rows flags → ContainsItself rows t → flags' ≡ slice_set flags t.0 true → IsMarked rows flags t flags'
  one_marked flags flags' t s way e = subst (IsMarked rows flags t) (sym e) (record {
    sound = record { long = length-set flags t.0 true ∙ s.long; sound = λ p m. at_mark p (marked_before flags t.0 p.0 m) };
    kept = λ p m. marked_still flags t.0 p.0 m;
    own = marked_here flags t.0 (get_or flags t.0 false) (slice_get-get_or flags t.0 false (in_range flags t s way));
  })
    where
      at_mark : (p : TypeId) → (slice_get flags p.0 ≡ Some true) ⊎ (t.0 ≡ p.0) → ContainsItself rows p
      at_mark p (inl m) = s.sound p m
      at_mark p (inr m) = subst (λ n. ContainsItself rows (record { 0 = n })) m way

  pub one_more : (flags mid flags' : List Bool) (t u : TypeId) → IsMarked rows flags t mid → IsMarked rows mid u flags' → IsMarked rows flags t flags'
  one_more flags mid flags' t u a b = record {
    sound = b.sound;
    kept = λ p m. b.kept p (a.kept p m);
    own = b.kept t a.own;
  }

  is_one : (x p : TypeId) (ps : List TypeId) → ps ≡ p ∷ [] → IsOneOf x ps → p ≡ x
  is_one x p ps e o = at_one (subst (IsOneOf x) e o)
    where
      at_one : IsOneOf x (p ∷ []) → p ≡ x
      at_one (inl s) = s
      at_one (inr m) = absurd m

  -- the one part of a type that contains itself
  pub next_circle : (t p : TypeId) → ContainsItself rows t → parts_of rows (row_of rows t) ≡ p ∷ [] → ContainsItself rows p
  next_circle t p way e = at_chain way.between way.chain
    where
      own : IsPartOf rows p t
      own = subst (IsOneOf p) (sym e) (inl refl)

      at_chain : (ps : List TypeId) → IsChain rows t (ps ++ t ∷ []) → ContainsItself rows p
      at_chain [] c = subst (ContainsItself rows) (sym (is_one t p (parts_of rows (row_of rows t)) e c.0)) way
      at_chain (x ∷ ps) c =
          subst (λ z. LeadsTo rows z p) (sym (is_one x p (parts_of rows (row_of rows t)) e c.0))
          (chain_more rows x t p (record { between = ps; chain = c.1 }) own)

  -- once each type was tested
  pub circles_are : (flags : List Bool) → AreTested rows flags (length rows) → flags ≡ circles rows
  circles_are flags all =
      ext_get_or false flags (circles rows) (all.sound.long ∙ sym (circles_long rows))
      (λ k l. let m = all.sound.long in let r : k < length rows = omega (arith, l, m) in at k l r ∙ sym (flag_of rows (record { 0 = k }) r))
    where
      at_flag : (k : ℕ) → k < length rows → (b c : Bool) → slice_get flags k ≡ Some b → contains_itself rows (record { 0 = k }) ≡ c → b ≡ c
      at_flag k r true true m e = refl
      at_flag k r false false m e = refl
      at_flag k r true false m e = let f = (circle_test rows (record { 0 = k })).1 (all.sound.sound (record { 0 = k }) m) in cc
      at_flag k r false true m e = let f = all.whole (record { 0 = k }) r ((circle_test rows (record { 0 = k })).0 e) in cc

      at : (k : ℕ) → k < length flags → k < length rows → get_or flags k false ≡ contains_itself rows (record { 0 = k })
      at k l r = at_flag k r (get_or flags k false) (contains_itself rows (record { 0 = k })) (slice_get-get_or flags k false l) refl

-- before any is tested
pub none_tested : (rows : List TypeRow) (flags : List Bool) → flags ≡ replicate (length rows) false → AreTested rows flags 0
none_tested rows flags e = subst (λ fs. AreTested rows fs 0) (sym e) (record {
  sound = record { long = length-replicate (length rows) false; sound = λ p m. absurd (none_marked (length rows) p.0 m) };
  whole = λ p l. absurd (omega (arith, l));
})

-- one more is tested
pub tested_more : (rows : List TypeRow) (flags flags' : List Bool) (n : ℕ) → AreTested rows flags n → IsTested rows flags (record { 0 = n }) flags' → AreTested rows flags' (n + 1)
tested_more rows flags flags' n all one = record { sound = one.sound; whole = λ p l w. at_case p w (cases_lt p.0 n) l }
  where
    at_case : (p : TypeId) → ContainsItself rows p → (p.0 < n) ⊎ (n ≤ p.0) → p.0 < n + 1 → slice_get flags' p.0 ≡ Some true
    at_case p w (inl a) l = one.kept p (all.whole p a w)
    at_case p w (inr a) l =
        let e : p.0 ≡ n = omega (arith, a, l) in
        subst (λ k. slice_get flags' k ≡ Some true) (sym e) (one.own (subst (λ k. ContainsItself rows (record { 0 = k })) e w))

-- a type that was marked before, one that is marked now, and one that doesn't contain itself
pub was_marked : (rows : List TypeRow) (flags : List Bool) (t : TypeId) → AreSound rows flags → slice_get flags t.0 ≡ Some true → IsTested rows flags t flags
was_marked rows flags t s m = record { sound = s; kept = λ p k. k; own = λ w. m }

pub now_marked : (rows : List TypeRow) (flags flags' : List Bool) (t : TypeId) → IsMarked rows flags t flags' → IsTested rows flags t flags'
now_marked rows flags flags' t m = record { sound = m.sound; kept = m.kept; own = λ w. m.own }

pub not_marked : (rows : List TypeRow) (flags : List Bool) (t : TypeId) → AreSound rows flags → (ContainsItself rows t → ⊥) → IsTested rows flags t flags
not_marked rows flags t s free = record { sound = s; kept = λ p k. k; own = λ w. absurd (free w) }

-- one part alone among a base and fields
pub alone_base : (rows : List TypeRow) (fields : List TypeId) (b p : TypeId) → length fields ≡ 0 → Some b ≡ Some p → base_list (Some b) ++ flat_map (held rows) fields ≡ p ∷ []
alone_base rows [] b p none e = ap (λ z. z ∷ []) (same_Some b p e)
alone_base rows (f ∷ fs) b p none e = absurd (omega (arith, none))

only_one : (ts : List TypeId) (p : TypeId) → only ts ≡ Some p → ts ≡ p ∷ []
only_one [] p e = absurd (cc)
only_one (t ∷ []) p e = ap (λ z. z ∷ []) (same_Some t p e)
only_one (t ∷ u ∷ ts) p e = absurd (cc)

pub alone_field : (rows : List TypeRow) (fields : List TypeId) (d p : TypeId) → length fields ≡ 1 → only (held rows (get_or fields 0 d)) ≡ Some p → base_list None ++ flat_map (held rows) fields ≡ p ∷ []
alone_field rows [] d p one e = absurd (omega (arith, one))
alone_field rows (f ∷ []) d p one e = append-nil (held rows f) ∙ only_one (held rows f) p e
alone_field rows (f ∷ g ∷ fs) d p one e = absurd (omega (arith, one))

pub alone_element : (rows : List TypeRow) (t p : TypeId) → only (held rows t) ≡ Some p → held rows t ≡ p ∷ []
alone_element rows t p e = only_one (held rows t) p e
