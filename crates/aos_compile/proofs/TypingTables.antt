-- Where a table of types goes on, extension, the fields of records and what pointers lead to stay.
use Rattle.std.proofs.Common.{◌≡◌, ℕ, zero, suc, ◌+◌, ◌≤◌, ◌<◌, ◌==◌, ◌⊎◌, inl, inr, List, [], length, Bool, true, false, ◌||◌, Option, Some, None, is_some, slice_get, if◌then◌else◌, refl, sym, ap, ap₂, ◌∙◌, subst, eq-eqb, ltb-true, ltb-false, nat_lt, arith}
use Rattle.std.proofs.lemmas.Option.{none-some, same_Some, slice_get_within}
use Rattle.aos_types.specs.declared.row.TypeId.{TypeId}
use Rattle.aos_types.specs.declared.row.TypeRow.{TypeRow}
use Rattle.aos_types.specs.declared.row.TypeRow.TheVariants as row
use Rattle.aos_types.specs.Table.{row_of, base_of, is_open, is_procedure, on_both}
use Rattle.aos_types.specs.Extension.{on_base, comes_by, comes_to}
use Rattle.aos_types.specs.Sameness.{are_one, are_predeclared, element_of, same_by, same}
use Rattle.aos_types.specs.Chain.{IsRanked}
use Rattle.aos_types.proofs.Ranks.{ranked}
use Rattle.aos_types.proofs.Steps.{comes_here, same_here}
use Rattle.aos_typed.specs.declared.tree.TType.{TType}
use Rattle.aos_typed.specs.declared.tree.TType.TheVariants.{Any}
use Rattle.aos_typed.specs.Numbers.{id_of}
use Rattle.aos_typed.specs.Open.{first_from, first_same}
use Rattle.aos_typed.specs.WellTyped.{FitsObject, fields_by, fields_in, field_type, is_whole, is_any, is_basic, is_reference, is_procedural, is_value, target, target_in}
use Rattle.aos_symbols.proofs.Told.{PartsAreTold}
use Rattle.aos_check_expr.proofs.Opens.{OpensFall, open_is}
use Rattle.aos_check_decl.proofs.Typing.{AreReady}
use Rattle.aos_compile.proofs.TypingTypes.{RowsStay, longer, fact_stays, bases_there}
use Rattle.aos_compile.proofs.TypingFields.{fields_same}

not_both : true ≡ false → ⊥
not_both e = cc

-- each pointer leads to a type of the table
abbrev pub TargetsThere : List TypeRow → Type 0
TargetsThere ts = (t u : TypeId) → row_of ts t ≡ Some (row.Pointer u) → u.0 < length ts

pub targets_there : (ts : List TypeRow) → PartsAreTold ts → TargetsThere ts
targets_there ts told t u is = by (row_of ts u) refl (told t.0 (row.Pointer u) is).1
  where
    by : (o : Option TypeRow) → row_of ts u ≡ o → (is_whole o || is_open o) ≡ true → u.0 < length ts
    by None at h = absurd (not_both (sym h))
    by (Some r) at h = slice_get_within ts u.0 r at

module _ (ts us : List TypeRow) (stay : RowsStay ts us) where
  pub row_stays : (t : TypeId) (r : TypeRow) → row_of ts t ≡ Some r → row_of us t ≡ Some r
  row_stays t r is = stay t.0 (slice_get_within ts t.0 r is) ∙ is

  -- what only a row that is there leads to
  some_stays : {A : Type 0} (f : Option TypeRow → Option A) → f None ≡ None → (t : TypeId) (x : A) → f (row_of ts t) ≡ Some x → f (row_of us t) ≡ Some x
  some_stays f none t x h = by (row_of ts t) refl h
    where
      by : (o : Option TypeRow) → row_of ts t ≡ o → f o ≡ Some x → f (row_of us t) ≡ Some x
      by None is h = absurd (none-some x (sym none ∙ h))
      by (Some r) is h = ap f (row_stays t r is) ∙ h

  -- Extension.

  comes_more : (n m : ℕ) (a b : TypeId) → n ≤ m → comes_by n ts a b ≡ true → comes_by m us a b ≡ true
  comes_more zero m a b le h = comes_here m us a b h
  comes_more (suc n) zero a b le h = absurd (omega (arith, le))
  comes_more (suc n) (suc m) a b le h = by (a.0 == b.0) refl (base_of (row_of ts a)) refl h (λ c. comes_more n m c b (omega (arith, le)))
    where
      by : (x : Bool) → (a.0 == b.0) ≡ x → (o : Option TypeId) → base_of (row_of ts a) ≡ o → (x || on_base (λ c. comes_by n ts c b) o) ≡ true →
          ((c : TypeId) → comes_by n ts c b ≡ true → comes_by m us c b ≡ true) → comes_by (suc m) us a b ≡ true
      by true same o is h more = comes_here (suc m) us a b same
      by false other None is h more = absurd (not_both (sym h))
      by false other (Some c) is h more =
          ap (λ x. x || on_base (λ c. comes_by m us c b) (base_of (row_of us a))) other
          ∙ ap (on_base (λ c. comes_by m us c b)) (some_stays base_of refl a c is) ∙ more c h

  pub comes_stays : (a b : TypeId) → comes_to ts a b ≡ true → comes_to us a b ≡ true
  comes_stays a b h = comes_more (length ts) (length us) a b (longer ts us stay) h

  -- Fields.

  pub field_stays : AreReady ts → (t : TypeId) (k : ℕ) (u : TypeId) → field_type ts t k ≡ Some u → field_type us t k ≡ Some u
  field_stays old t k u h = by (row_of ts t) refl
    where
      above : IsRanked ts
      above = ranked ts old.sound.none_contains_itself

      none_in : (n : ℕ) → row_of ts t ≡ None → fields_by n ts t ≡ []
      none_in zero is = ap (fields_in (λ c. [])) is
      none_in (suc n) is = ap (fields_in (λ c. fields_by n ts c)) is

      by : (o : Option TypeRow) → row_of ts t ≡ o → field_type us t k ≡ Some u
      by None is = absurd (none-some u (ap (λ xs. slice_get xs k) (sym (none_in (length ts) is)) ∙ h))
      by (Some r) is =
          let bound = above.bound t in
          let more = longer ts us stay in
          ap (λ xs. slice_get xs k)
          (sym (fields_same ts us stay above (bases_there ts old) (length ts) (length us) t (slice_get_within ts t.0 r is) (omega (arith, bound)) (omega (arith, bound, more)))) ∙ h

  -- Sameness.

  module _ (falls : OpensFall ts) where
    alone : (b : Bool) → (b || false) ≡ b
    alone true = refl
    alone false = refl

    closed_same : (n : ℕ) (rows : List TypeRow) (a b : TypeId) → element_of (row_of rows a) ≡ None → same_by n rows a b ≡ are_one rows a b
    closed_same zero rows a b none = refl
    closed_same (suc n) rows a b none =
        ap (λ o. are_one rows a b || on_both (same_by n rows) o (element_of (row_of rows b))) none ∙ alone (are_one rows a b)

    one_stays : (a b : TypeId) → a.0 < length ts → b.0 < length ts → are_one ts a b ≡ are_one us a b
    one_stays a b first second = ap₂ (λ (x y : Option TypeRow). (a.0 == b.0) || are_predeclared x y) (sym (stay a.0 first)) (sym (stay b.0 second))

    element_falls : (a c : TypeId) → element_of (row_of ts a) ≡ Some c → c.0 < a.0
    element_falls a c is = falls a c (open_is (row_of ts a) c is)

    both_closed : (n m : ℕ) (a b : TypeId) → a.0 < length ts → b.0 < length ts → element_of (row_of ts a) ≡ None → same_by n ts a b ≡ same_by m us a b
    both_closed n m a b first second is =
        closed_same n ts a b is ∙ one_stays a b first second ∙ sym (closed_same m us a b (ap element_of (stay a.0 first) ∙ is))

    lowest : (a : TypeId) → a.0 ≤ 0 → element_of (row_of ts a) ≡ None
    lowest a low = by (element_of (row_of ts a)) refl
      where
        by : (o : Option TypeId) → element_of (row_of ts a) ≡ o → o ≡ None
        by None is = refl
        by (Some c) is = absurd (let less = element_falls a c is in omega (arith, less, low))

    same_more : (n m : ℕ) (a b : TypeId) → a.0 ≤ n → a.0 ≤ m → a.0 < length ts → b.0 < length ts → same_by n ts a b ≡ same_by m us a b
    same_more zero m a b low high first second = both_closed zero m a b first second (lowest a low)
    same_more (suc n) zero a b low high first second = both_closed (suc n) zero a b first second (lowest a high)
    same_more (suc n) (suc m) a b low high first second = by (element_of (row_of ts a)) refl (same_more n m)
      where
        elements : (c : TypeId) (o : Option TypeId) → element_of (row_of ts b) ≡ o → ((d : TypeId) → d.0 < length ts → same_by n ts c d ≡ same_by m us c d) →
            on_both (same_by n ts) (Some c) o ≡ on_both (same_by m us) (Some c) o
        elements c None is more = refl
        elements c (Some d) is more = let less = element_falls b d is in more d (omega (arith, less, second))

        by : (o : Option TypeId) → element_of (row_of ts a) ≡ o →
            ((c d : TypeId) → c.0 ≤ n → c.0 ≤ m → c.0 < length ts → d.0 < length ts → same_by n ts c d ≡ same_by m us c d) → same_by (suc n) ts a b ≡ same_by (suc m) us a b
        by None is more = both_closed (suc n) (suc m) a b first second is
        by (Some c) is more =
            let less = element_falls a c is in
            ap (λ o. are_one ts a b || on_both (same_by n ts) o (element_of (row_of ts b))) is
            ∙ ap (λ x. are_one ts a b || x)
            (elements c (element_of (row_of ts b)) refl (λ d below. more c d (omega (arith, less, low)) (omega (arith, less, high)) (omega (arith, less, first)) below))
            ∙ sym (ap (λ o. are_one ts a b || on_both (same_by m us) o (element_of (row_of ts b))) is)
            ∙ ap₂ (λ x y. x || on_both (same_by m us) (element_of y) (element_of (row_of ts b))) (one_stays a b first second) (sym (stay a.0 first))
            ∙ ap (λ y. are_one us a b || on_both (same_by m us) (element_of (row_of us a)) (element_of y)) (sym (stay b.0 second))

    pub same_stays : (a b : TypeId) → a.0 < length ts → b.0 < length ts → same ts a b ≡ same us a b
    same_stays a b first second =
        let more = longer ts us stay in same_more (length ts) (length us) a b (omega (arith, first)) (omega (arith, first, more)) first second

    -- the first type that is the same

    itself : (k : ℕ) (t : TypeId) → k ≡ t.0 → same ts (record { 0 = k }) t ≡ true
    itself k t is = same_here (length ts) ts (record { 0 = k }) t (ap (λ x. x || are_predeclared (row_of ts (record { 0 = k })) (row_of ts t)) (eq-eqb k t.0 is))

    not_yet : (k : ℕ) (t : TypeId) → k ≤ t.0 → same ts (record { 0 = k }) t ≡ false → suc k ≤ t.0
    not_yet k t le other = by (nat_lt k t.0) refl
      where
        by : (x : Bool) → nat_lt k t.0 ≡ x → suc k ≤ t.0
        by true less = let below = ltb-true k t.0 less in omega (arith, below)
        by false least = let most = ltb-false k t.0 least in absurd (not_both (sym (itself k t (omega (arith, le, most))) ∙ other))

    first_more : (n m k : ℕ) (t : TypeId) → k ≤ t.0 → t.0 < length ts → t.0 < k + n → t.0 < k + m → first_from n k ts t ≡ first_from m k us t
    first_more zero m k t le there a b = absurd (omega (arith, le, a))
    first_more (suc n) zero k t le there a b = absurd (omega (arith, le, b))
    first_more (suc n) (suc m) k t le there a b =
        by (same ts (record { 0 = k }) t) refl (λ less. first_more n m (suc k) t less there (omega (arith, a)) (omega (arith, b)))
        ∙ ap (λ x. if x then record { 0 = k } else first_from m (suc k) us t) (same_stays (record { 0 = k }) t (omega (arith, le, there)) there)
      where
        by : (x : Bool) → same ts (record { 0 = k }) t ≡ x → (suc k ≤ t.0 → first_from n (suc k) ts t ≡ first_from m (suc k) us t) →
            (if x then record { 0 = k } else first_from n (suc k) ts t) ≡ (if x then record { 0 = k } else first_from m (suc k) us t)
        by true is more = refl
        by false is more = more (not_yet k t le is)

    first_stays : (t : TypeId) → t.0 < length ts → first_same ts t ≡ first_same us t
    first_stays t there =
        let more = longer ts us stay in first_more (length ts) (length us) 0 t (omega arith) there (omega (arith, there)) (omega (arith, there, more))

    first_below : (n k : ℕ) (t : TypeId) → k + n ≤ length ts → t.0 < length ts → (first_from n k ts t).0 < length ts
    first_below zero k t room there = there
    first_below (suc n) k t room there = by (same ts (record { 0 = k }) t) (first_below n (suc k) t (omega (arith, room)) there)
      where
        by : (x : Bool) → (first_from n (suc k) ts t).0 < length ts → (if x then record { 0 = k } else first_from n (suc k) ts t).0 < length ts
        by true more = omega (arith, room)
        by false more = more

    -- What pointers lead to.

    module _ (targets : TargetsThere ts) where
      pub target_stays : (t : TType) (u : TypeId) → target ts t ≡ Some u → target us t ≡ Some u
      target_stays t u h = by (row_of ts (id_of t)) refl h
        where
          by : (o : Option TypeRow) → row_of ts (id_of t) ≡ o → target_in ts (id_of t) o ≡ Some u → target us t ≡ Some u
          by (Some (row.Pointer w)) is h =
              ap (target_in us (id_of t)) (row_stays (id_of t) (row.Pointer w) is) ∙ ap (λ v. Some v) (sym (first_stays w (targets (id_of t) w is))) ∙ h
          by (Some (row.Object base fs)) is h = ap (target_in us (id_of t)) (row_stays (id_of t) (row.Object base fs) is) ∙ h
          by o is h = absurd (none-some u h)

      pub target_there : (t : TType) (u : TypeId) → target ts t ≡ Some u → u.0 < length ts
      target_there t u h = by (row_of ts (id_of t)) refl h
        where
          by : (o : Option TypeRow) → row_of ts (id_of t) ≡ o → target_in ts (id_of t) o ≡ Some u → u.0 < length ts
          by (Some (row.Pointer w)) is h =
              subst (λ (v : TypeId). v.0 < length ts) (same_Some (first_same ts w) u h) (first_below (length ts) 0 w (omega arith) (targets (id_of t) w is))
          by (Some (row.Object base fs)) is h =
              subst (λ (v : TypeId). v.0 < length ts) (same_Some (id_of t) u h) (slice_get_within ts (id_of t).0 (row.Object base fs) is)
          by o is h = absurd (none-some u h)

      pub reference_stays : (t : TType) → is_reference ts t ≡ true → is_reference us t ≡ true
      reference_stays t h = by (is_any t) (target ts t) refl h
        where
          by : (x : Bool) (o : Option TypeId) → target ts t ≡ o → (x || is_some o) ≡ true → (x || is_some (target us t)) ≡ true
          by true o is h = refl
          by false None is h = absurd (not_both (sym h))
          by false (Some u) is h = ap is_some (target_stays t u is)

      pub procedural_stays : (t : TType) → is_procedural ts t ≡ true → is_procedural us t ≡ true
      procedural_stays t h = fact_stays ts us stay is_procedure refl (id_of t).0 h

      pub value_stays : (t : TType) → is_value ts t ≡ true → is_value us t ≡ true
      value_stays t h = by (is_basic t) h
        where
          behind : (x : Bool) → x ≡ true → (y : Bool) → (y || x) ≡ true
          behind x is true = refl
          behind x is false = is

          either : (x : Bool) → is_reference ts t ≡ x → (x || is_procedural ts t) ≡ true → (is_reference us t || is_procedural us t) ≡ true
          either true is h = ap (λ x. x || is_procedural us t) (reference_stays t is)
          either false is h = behind (is_procedural us t) (procedural_stays t h) (is_reference us t)

          by : (x : Bool) → (x || (is_reference ts t || is_procedural ts t)) ≡ true → (x || (is_reference us t || is_procedural us t)) ≡ true
          by true h = refl
          by false h = either (is_reference ts t) refl h

      pub object_fits : (t u : TType) → FitsObject ts t u → FitsObject us t u
      object_fits t u h = (reference_stays u h.0, by h.1)
        where
          by : (t ≡ Any) ⊎ ((a : TypeId) × (b : TypeId) × (target ts t ≡ Some a) × (target ts u ≡ Some b) × (comes_to ts b a ≡ true)) →
              (t ≡ Any) ⊎ ((a : TypeId) × (b : TypeId) × (target us t ≡ Some a) × (target us u ≡ Some b) × (comes_to us b a ≡ true))
          by (inl is) = inl is
          by (inr f) = inr (f.0, f.1, target_stays t f.0 f.2, target_stays u f.1 f.3, comes_stays f.1 f.0 f.4)
