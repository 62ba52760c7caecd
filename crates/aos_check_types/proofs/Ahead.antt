-- How far names lead in many steps, and that two looks lead twice as far.
use Rattle.std.proofs.Common.{◌≡◌, ◌≢◌, ℕ, zero, suc, ◌+◌, ◌*◌, ◌/◌, ◌%◌, ◌-◌, ◌<◌, ◌≤◌, Bool, true, false, nat_lt, List, [], ◌∷◌, length, map, Option, Some, None, slice_get, if◌then◌else◌, eqb, refl, sym, ap, subst, ◌∙◌, ◌++◌, ◌⊎◌, inl, inr, arith}
use Rattle.std.specs.List.{range_with_len}
use Rattle.std.proofs.Math.Path.{ap₂}
use Rattle.std.proofs.lemmas.Bool.{ltb-false, cases_lt}
use Rattle.std.proofs.lemmas.Bool.Decides.{eqb_tells}
use Rattle.std.proofs.Math.Nat.{suc-mul}
use Rattle.std.proofs.lemmas.List.FromFn.{length-map-range_with_len, map-range_with_len_more}
use Rattle.std.proofs.lemmas.Option.{slice_get_past}
use Rattle.aos_types.specs.declared.row.TypeId.{TypeId}
use Rattle.aos_check_types.specs.declared.aliases.Target.{Target}
use Rattle.aos_check_types.specs.declared.aliases.Target.TheVariants.{Own, Of, Nothing}
use Rattle.aos_symbols.specs.Env.{nil}
use Rattle.aos_check_types.specs.Aliases.{step, follow, proper, numbers}
use Rattle.aos_check_types.specs.Ahead.{along, leap, reached_on}

-- where a look at such numbers leads, and where one name leads
abbrev led : TypeId → Option TypeId → TypeId
led t None = t
led t (Some u) = u

abbrev one : TypeId → Option Target → TypeId
one t None = t
one t (Some Own) = t
one t (Some (Of u)) = u
one t (Some Nothing) = nil

module _ (first : ℕ) (ts : List Target) where
  abbrev at : ℕ → TypeId
  at k = record { 0 = first + k }

  -- a type at which names end
  still : (n : ℕ) (t : TypeId) → step first ts t ≡ t → follow first ts n t ≡ t
  still zero t e = refl
  still (suc n) t e = ap (λ u. follow first ts n u) e ∙ still n t e

  -- so many names further, and so many again
  follow_more : (m n : ℕ) (t : TypeId) → follow first ts n (follow first ts m t) ≡ follow first ts (m + n) t
  follow_more zero n t = let e : n ≡ zero + n = omega arith in ap (λ k. follow first ts k t) e
  follow_more (suc m) n t = let e : suc (m + n) ≡ suc m + n = omega arith in follow_more m n (step first ts t) ∙ ap (λ k. follow first ts k t) e

  -- what stands at a place of a list that is made of numbers
  made_at : {X : Type 0} (f : ℕ → X) (a n k : ℕ) → k < n → slice_get (map f (range_with_len a n)) k ≡ Some (f (a + k))
  made_at f a zero k lt = absurd (omega arith)
  made_at f a (suc n) zero lt = let e : a ≡ a + zero = omega arith in ap (λ j. Some (f j)) e
  made_at f a (suc n) (suc k) lt = let e : a + 1 + k ≡ a + suc k = omega arith in made_at f (a + 1) n k (omega arith) ∙ ap (λ j. Some (f j)) e

  -- one more type, and where one name leads from it
  pub step_more : (n : ℕ) (xs : List TypeId) → xs ≡ map (λ k. step first ts (at k)) (range_with_len 0 n) →
      xs ++ step first ts (at n) ∷ [] ≡ map (λ k. step first ts (at k)) (range_with_len 0 (n + 1))
  step_more n xs e =
      ap (λ z. z ++ step first ts (at n) ∷ []) e ∙ sym (map-range_with_len_more (λ k. step first ts (at k)) 0 n n (omega arith))

  -- one more type, from which no name is followed
  pub own_more : (n : ℕ) (xs : List TypeId) → xs ≡ map at (range_with_len 0 n) → xs ++ at n ∷ [] ≡ map at (range_with_len 0 (n + 1))
  own_more n xs e = ap (λ z. z ++ at n ∷ []) e ∙ sym (map-range_with_len_more at 0 n n (omega arith))

  -- a look at numbers that lead so far, from a type that has led far already
  leap_along : (n : ℕ) (t : TypeId) → leap first (along first ts n) t ≡ follow first ts n t
  leap_along n t = by (nat_lt t.0 first) refl
    where
      outside : (b : Bool) → nat_lt t.0 first ≡ b → (if b then None else slice_get ts (t.0 - first)) ≡ None → t ≡ follow first ts n t
      outside b is none = sym (still n t (ap (λ b. one t (if b then None else slice_get ts (t.0 - first))) is ∙ ap (one t) none))

      inside : nat_lt t.0 first ≡ false → first ≤ t.0 → (t.0 - first < length ts) ⊎ (length ts ≤ t.0 - first) →
          led t (slice_get (along first ts n) (t.0 - first)) ≡ follow first ts n t
      inside is le (inl lt) =
          ap (led t) (made_at (λ k. follow first ts n (at k)) 0 (length ts) (t.0 - first) lt)
          ∙ (let e : first + (0 + (t.0 - first)) ≡ t.0 = omega arith in ap (λ k. follow first ts n (record { 0 = k })) e)
      inside is le (inr more) =
          ap (led t) (slice_get_past (along first ts n) (t.0 - first) (omega (arith, length-map-range_with_len (λ k. follow first ts n (at k)) 0 (length ts))))
          ∙ outside false is (slice_get_past ts (t.0 - first) more)

      by : (b : Bool) → nat_lt t.0 first ≡ b → led t (if b then None else slice_get (along first ts n) (t.0 - first)) ≡ follow first ts n t
      by true is = outside true is refl
      by false is = inside is (ltb-false t.0 first is) (cases_lt (t.0 - first) (length ts))

  -- so many names further from types that have led far already
  both_on : (m n : ℕ) (ks : List ℕ) →
      map (leap first (along first ts n)) (map (λ k. follow first ts m (at k)) ks) ≡ map (λ k. follow first ts (m + n) (at k)) ks
  both_on m n [] = refl
  both_on m n (k ∷ ks) = ap₂ (λ u us. u ∷ us) (leap_along n (follow first ts m (at k)) ∙ follow_more m n (at k)) (both_on m n ks)

  -- from so many names further as many more
  pub both_along : (m n : ℕ) → map (leap first (along first ts n)) (along first ts m) ≡ along first ts (m + n)
  both_along m n = both_on m n (range_with_len 0 (length ts))

  -- the proper ones of types that are reached
  along_map : (n : ℕ) (ks : List ℕ) → map (proper first ts) (map (λ k. follow first ts n (at k)) ks) ≡ map (λ k. proper first ts (follow first ts n (at k))) ks
  along_map n [] = refl
  along_map n (k ∷ ks) = ap (λ z. proper first ts (follow first ts n (at k)) ∷ z) (along_map n ks)

  -- Where so many names lead, and as many more as there are left of this many.
  pub record IsFar (reached ahead : List TypeId) (left : ℕ) : Type 0 where
    pub done : ℕ
    pub unit : ℕ
    pub reached_is : reached ≡ along first ts done
    pub ahead_is : ahead ≡ along first ts unit
    pub all : done + left * unit ≡ length ts

  -- before the first round
  pub begun : (reached ahead : List TypeId) → reached ≡ along first ts 0 → ahead ≡ along first ts 1 → IsFar reached ahead (length ts)
  begun reached ahead e f = record { done = 0; unit = 1; reached_is = e; ahead_is = f; all = omega arith }

  -- half as many of twice as much
  half_of : (d h u n : ℕ) → d + (h + h) * u ≡ n → d + h * (u + u) ≡ n
  half_of d h u n e = ap (λ z. d + z) (twice_product h u) ∙ e
    where
      twice_product : (h u : ℕ) → h * (u + u) ≡ (h + h) * u
      twice_product zero u = omega arith
      twice_product (suc h) u =
          let one : suc h + suc h ≡ suc (suc (h + h)) = omega arith in
          let e = twice_product h u in
          let f : suc h * (u + u) ≡ h * (u + u) + (u + u) = suc-mul h (u + u) in
          let g : suc (suc (h + h)) * u ≡ ((h + h) * u + u) + u = suc-mul (suc (h + h)) u ∙ ap (λ z. z + u) (suc-mul (h + h) u) in
          let q : h * (u + u) + (u + u) ≡ ((h + h) * u + u) + u = omega (arith, e) in
          f ∙ q ∙ sym g ∙ ap (λ z. z * u) (sym one)

  -- one round, where twice as many are left as behind it, or one more
  pub even_round : (reached ahead further : List TypeId) (left half : ℕ) → IsFar reached ahead left → left ≡ half + half →
      further ≡ map (leap first ahead) ahead → IsFar reached further half
  even_round reached ahead further left half is e f =
      record {
        done = is.done;
        unit = is.unit + is.unit;
        reached_is = is.reached_is;
        ahead_is = f ∙ ap (λ xs. map (leap first xs) xs) is.ahead_is ∙ both_along is.unit is.unit;
        all = half_of is.done half is.unit (length ts) (ap (λ l. is.done + l * is.unit) (sym e) ∙ is.all);
      }

  -- one round more, where one more is left
  pub odd_round : (reached ahead next further : List TypeId) (left half : ℕ) → IsFar reached ahead left → left ≡ suc (half + half) →
      next ≡ map (leap first ahead) reached → further ≡ map (leap first ahead) ahead → IsFar next further half
  odd_round reached ahead next further left half is e g f =
      record {
        done = is.done + is.unit;
        unit = is.unit + is.unit;
        reached_is = g ∙ ap₂ (λ xs ys. map (leap first xs) ys) is.ahead_is is.reached_is ∙ both_along is.done is.unit;
        ahead_is = f ∙ ap (λ xs. map (leap first xs) xs) is.ahead_is ∙ both_along is.unit is.unit;
        all = half_of (is.done + is.unit) half is.unit (length ts) (
            let m : suc (half + half) * is.unit ≡ (half + half) * is.unit + is.unit = suc-mul (half + half) is.unit in
            let a : is.done + left * is.unit ≡ length ts = is.all in
            let b : is.done + suc (half + half) * is.unit ≡ length ts = ap (λ l. is.done + l * is.unit) (sym e) ∙ a in
            omega (arith, m, b));
      }

  -- once none is left, as many names are followed as there are types
  pub far_end : (reached ahead : List TypeId) (left : ℕ) → IsFar reached ahead left → left ≡ 0 → reached ≡ along first ts (length ts)
  far_end reached ahead left is none =
      let all : is.done ≡ length ts = let a = ap (λ l. is.done + l * is.unit) (sym none) ∙ is.all in omega (arith, a) in
      is.reached_is ∙ ap (along first ts) all

  -- the numbers of definitions are the proper ones among these
  pub numbers_along : map (proper first ts) (along first ts (length ts)) ≡ numbers first ts
  numbers_along = along_map (length ts) (range_with_len 0 (length ts))

  -- one round by the remainder of what is left
  odd_half : (n : ℕ) → n % 2 ≡ 1 → n ≡ suc (n / 2 + n / 2)
  odd_half n e = omega (arith, e)

  -- the half of an even number
  even_half : (n : ℕ) → (n % 2 ≡ 1 → ⊥) → n ≡ n / 2 + n / 2
  even_half n e = omega (arith, e)

  -- one round, where what is left is odd, and where it is even
  pub round : (reached ahead next further : List TypeId) (left : ℕ) → IsFar reached ahead left → next ≡ reached_on first ahead left reached →
      further ≡ map (leap first ahead) ahead → IsFar next further (left / 2)
  round reached ahead next further left is on f = by (eqb_tells (left % 2) 1)
    where
      is_next : {b : Bool} → eqb (left % 2) 1 ≡ b → next ≡ (if b then map (leap first ahead) reached else reached)
      is_next tested = on ∙ ap (λ b. if b then map (leap first ahead) reached else reached) tested

      by : ((eqb (left % 2) 1 ≡ true) × (left % 2 ≡ 1)) ⊎ ((eqb (left % 2) 1 ≡ false) × (left % 2 ≢ 1)) → IsFar next further (left / 2)
      by (inl odd) = odd_round reached ahead next further left (left / 2) is (odd_half left odd.1) (is_next odd.0) f
      by (inr even) =
          subst (λ (xs : List TypeId). IsFar xs further (left / 2)) (sym (is_next even.0))
          (even_round reached ahead further left (left / 2) is (even_half left even.1) f)
