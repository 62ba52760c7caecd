-- Lists of workers as the bits of one number.
use Rattle.std.proofs.Common.{◌≡◌, ℕ, zero, suc, ◌+◌, ◌-◌, ◌*◌, ◌^◌, ◌<◌, ◌≤◌, List, [], ◌∷◌, ◌++◌, length, sym, refl, ap, ◌∙◌, subst, arith, inl, inr}
use Rattle.std.specs.Prelude.{◌==◌, if◌then◌else◌}
use Rattle.std.proofs.lemmas.Bool.Decides.{eqb_tells, leb_tells}
use Rattle.std.proofs.Math.Nat.{two-pow-succ, pow-le-pow_right}
use Rattle.std.proofs.lemmas.Nat.{pow_pos}
use Rattle.aos_cell.specs.declared.rule.View.{View}
use Rattle.aos_cell.specs.declared.rule.View.TheVariants.{Opens, Spent, Of}
use Rattle.aos_cell.specs.Total.{one_if, times, below, mask, AreDistinct}
use Rattle.aos_kernel.specs.Run.{Run}
use Rattle.aos_cell.specs.Rule.{workers_of}
use Rattle.aos_cell.specs.Steps.{first_part, greatest, without, split_left, split_right, joined, MaySplit, HasWorkers, IsFree, HasOne}
use Rattle.aos_cell.proofs.Totals.{times_without, greatest_in, some_member}

double : (n : ℕ) → 2 ^ suc n ≡ 2 ^ n + 2 ^ n
double n = two-pow-succ n

pub mask_append : (xs ys : List ℕ) → mask (xs ++ ys) ≡ mask xs + mask ys
mask_append [] ys = omega arith
mask_append (x ∷ xs) ys = let ih = mask_append xs ys in omega arith

pub mask_without : (x : ℕ) (ws : List ℕ) → 0 < times x ws → mask (without x ws) + 2 ^ x ≡ mask ws
mask_without x [] member = absurd (omega arith)
mask_without x (y ∷ ws) member =
    elim (eqb_tells y x) [
      | inl e ↦ subst (λ q. mask (if q then ws else y ∷ without x ws) + 2 ^ x ≡ mask (y ∷ ws)) (sym e.0) (let p : 2 ^ y ≡ 2 ^ x = ap (λ k. 2 ^ k) e.1 in omega arith)
      | inr e ↦ subst (λ q. mask (if q then ws else y ∷ without x ws) + 2 ^ x ≡ mask (y ∷ ws)) (sym e.0)
          (let a : one_if (y == x) ≡ 0 = ap one_if e.0 in let ih = mask_without x ws (omega arith) in omega arith)
    ]

none_there : (ws : List ℕ) → ((w : ℕ) → times w ws ≡ 0) → ws ≡ []
none_there [] none = refl
none_there (x ∷ ws) none = let m = some_member (x ∷ ws) (omega arith) in let n = none m.0 in let i = m.1 in absurd (omega arith)

-- distinct numbers below n
pub mask_bound : (n : ℕ) (ws : List ℕ) → ((w : ℕ) → times w ws ≤ 1) → ((w : ℕ) → n ≤ w → times w ws ≡ 0) → mask ws < 2 ^ n
mask_bound zero ws once out = let e : mask ws ≡ 0 = ap mask (none_there ws (λ w. out w (omega arith))) in let p = pow_pos 0 in omega arith
mask_bound (suc n) ws once out =
    let d = double n in
    elim (leb_tells 1 (times n ws)) [
      | inl e ↦
          let m = mask_without n ws e.1 in
          let ih = mask_bound n (without n ws) (λ w. let t = times_without w n ws e.1 in let o = once w in omega arith) (λ w le. least n ws once out e.1 w le) in
          omega arith
      | inr e ↦ let ih = mask_bound n ws once (λ w le. elim (eqb_tells w n) [
        | inl f ↦ ap (λ k. times k ws) f.1 ∙ (let g = e.1 in omega arith)
        | inr f ↦ out w (let g = f.1 in omega arith)
      ]) in let p = pow_pos n in omega arith
    ]
  where
    least : (n : ℕ) (ws : List ℕ) → ((w : ℕ) → times w ws ≤ 1) → ((w : ℕ) → suc n ≤ w → times w ws ≡ 0) → 1 ≤ times n ws → (w : ℕ) → n ≤ w → times w (without n ws) ≡ 0
    least n ws once out member w le =
        let t = times_without w n ws member in
        elim (eqb_tells n w) [
          | inl f ↦ let a : one_if (n == w) ≡ 1 = ap one_if f.0 in let o = once w in omega arith
          | inr f ↦ let g = f.1 in let o = out w (omega arith) in omega arith
        ]

greatest_most : (w : ℕ) (ws : List ℕ) → 0 < times w ws → w ≤ greatest ws
greatest_most w [] member = absurd (omega arith)
greatest_most w (x ∷ ws) member =
    elim (leb_tells (suc x) (greatest ws)) [
      | inl e ↦ subst (λ q. w ≤ (if q then greatest ws else x)) (sym e.0) (elim (eqb_tells x w) [
        | inl f ↦ let a = e.1 in let b = f.1 in omega arith
        | inr f ↦ let a : one_if (x == w) ≡ 0 = ap one_if f.0 in greatest_most w ws (omega arith)
      ])
      | inr e ↦ subst (λ q. w ≤ (if q then greatest ws else x)) (sym e.0) (elim (eqb_tells x w) [
        | inl f ↦ let b = f.1 in omega arith
        | inr f ↦ let a : one_if (x == w) ≡ 0 = ap one_if f.0 in let ih = greatest_most w ws (omega arith) in let b = e.1 in omega arith
      ])
    ]

-- one power of two between another and its double
pub same_power : (a b m : ℕ) → 2 ^ a ≤ m → m < 2 ^ suc a → 2 ^ b ≤ m → m < 2 ^ suc b → a ≡ b
same_power a b m la ua lb ub =
    let no_ : (x y : ℕ) → 2 ^ x ≤ m → m < 2 ^ suc y → x ≤ y = λ x y l u. elim (leb_tells x y) [
      | inl e ↦ e.1
      | inr e ↦ let g = e.1 in let h : 2 ^ suc y ≤ 2 ^ x = pow-le-pow_right {n = 2} (omega arith) {i = suc y} {j = x} (omega arith) in absurd (omega arith)
    ] in
    let p = no_ a b la ub in let q = no_ b a lb ua in omega arith

pub greatest_is_log : (r : ℕ) (ws : List ℕ) → AreDistinct ws → 0 < length ws → 2 ^ r ≤ mask ws → mask ws < 2 * 2 ^ r → r ≡ greatest ws
greatest_is_log r ws d any low high =
    let g = greatest ws in
    let member = greatest_in ws any in
    let m = mask_without g ws member in
    let bound : mask ws < 2 ^ suc g = mask_bound (suc g) ws d.0 (λ w le. elim (leb_tells 1 (times w ws)) [
      | inl e ↦ let h = greatest_most w ws e.1 in absurd (omega arith)
      | inr e ↦ let h = e.1 in omega arith
    ]) in
    same_power r g (mask ws) low (let z = double r in omega arith) (omega arith) bound

pub mask_below : (n : ℕ) → mask (below n) + 1 ≡ 2 ^ n
mask_below zero = refl
mask_below (suc n) = let ih = mask_below n in let d = double n in omega arith

pub mask_small : (ws : List ℕ) → AreDistinct ws → mask ws < 65536
mask_small ws d = mask_bound 16 ws d.0 d.1

-- The calls

pub split_masks : (r : ℕ) (v : View) → MaySplit v → AreDistinct (workers_of v) → 2 ^ r ≤ mask (workers_of v) → mask (workers_of v) < 2 * 2 ^ r
    → (mask (workers_of (split_left v)) ≡ mask (workers_of v) - 2 ^ r) × (mask (workers_of (split_right v)) ≡ 2 ^ r)
split_masks r Opens ok d low high = absurd ok
split_masks r Spent ok d low high = absurd ok
split_masks r (Of p) ok d low high =
    let a = ok.0 in
    let e = greatest_is_log r p.workers d (omega arith) low high in
    let f : 2 ^ greatest p.workers ≡ 2 ^ r = ap (λ k. 2 ^ k) (sym e) in
    let m = mask_without (greatest p.workers) p.workers (greatest_in p.workers (omega arith)) in
    ((omega arith), omega arith)

pub joined_mask : (v w : View) → HasWorkers v → IsFree w → mask (workers_of (joined v w)) ≡ mask (workers_of v) + mask (workers_of w)
joined_mask Opens w ok free = absurd ok
joined_mask Spent w ok free = absurd ok
joined_mask (Of p) Opens ok free = absurd free
joined_mask (Of p) Spent ok free = absurd free
joined_mask (Of p) (Of q) ok free = mask_append p.workers q.workers

pub split_positive : (v : View) → MaySplit v → 0 < mask (workers_of v)
split_positive Opens ok = absurd ok
split_positive Spent ok = absurd ok
split_positive (Of p) ok = positive p.workers (let a = ok.0 in omega arith)
  where
    positive : (ws : List ℕ) → 0 < length ws → 0 < mask ws
    positive [] h = absurd (omega arith)
    positive (x ∷ ws) h = let p = pow_pos x in omega arith

one_of : (ws : List ℕ) → length ws ≡ 1 → (w : ℕ) × (ws ≡ w ∷ [])
one_of [] e = absurd (omega arith)
one_of (w ∷ []) e = (w, refl)
one_of (w ∷ x ∷ ws) e = absurd (omega arith)

pub one_positive : (v : View) → HasOne v → 0 < mask (workers_of v)
one_positive Opens ok = absurd ok
one_positive Spent ok = absurd ok
one_positive (Of p) ok = let o = one_of p.workers ok in let e : mask p.workers ≡ 2 ^ o.0 + 0 = ap mask o.1 in let q = pow_pos o.0 in omega arith

pub one_worker : (r : ℕ) (v : View) → HasOne v → 2 ^ r ≤ mask (workers_of v) → mask (workers_of v) < 2 * 2 ^ r → workers_of v ≡ r ∷ []
one_worker r Opens ok low high = absurd ok
one_worker r Spent ok low high = absurd ok
one_worker r (Of p) ok low high =
    let o = one_of p.workers ok in
    let e : mask p.workers ≡ 2 ^ o.0 + 0 = ap mask o.1 in
    let d = double o.0 in let z = double r in let q = pow_pos o.0 in
    let s : r ≡ o.0 = same_power r o.0 (mask p.workers) low (omega arith) (omega arith) (omega arith) in
    o.1 ∙ ap (λ k. k ∷ []) (sym s)

pub split_own : (r own bit : ℕ) (v v1 vn vr : View) → MaySplit v → AreDistinct (workers_of v) → mask (workers_of v) ≡ own → 2 ^ r ≤ own → own < 2 * 2 ^ r → bit ≡ 2 ^ r → v1 ≡ v → vn ≡ split_left v1 → vr ≡ split_right v1
    → (mask (workers_of vn) ≡ own - bit) × (mask (workers_of vr) ≡ bit)
split_own r own bit v v1 vn vr ok d is low high b same left right =
    let s = split_masks r v ok d (subst (λ k. 2 ^ r ≤ k) (sym is) low) (subst (λ k. k < 2 * 2 ^ r) (sym is) high) in
    let l : mask (workers_of vn) ≡ mask (workers_of (split_left v)) = ap (λ x. mask (workers_of x)) (left ∙ ap split_left same) in
    let h : mask (workers_of vr) ≡ mask (workers_of (split_right v)) = ap (λ x. mask (workers_of x)) (right ∙ ap split_right same) in
    ((let p = s.0 in omega arith), h ∙ s.1 ∙ sym b)

pub joined_own : (a b : ℕ) (v w vn vl : View) → HasWorkers v → IsFree w → mask (workers_of v) ≡ a → mask (workers_of w) ≡ b → vn ≡ joined v w → vl ≡ vn → AreDistinct (workers_of vn) → (mask (workers_of vl) ≡ a + b) × (a + b < 65536)
joined_own a b v w vn vl ok free x y is same d =
    let m : mask (workers_of vn) ≡ mask (workers_of v) + mask (workers_of w) = ap (λ u. mask (workers_of u)) is ∙ joined_mask v w ok free in
    let l : mask (workers_of vl) ≡ mask (workers_of vn) = ap (λ u. mask (workers_of u)) same in
    let s = mask_small (workers_of vn) d in
    (omega arith, omega arith)

pub first_own : (count result : ℕ) (v : View) (r : Run) → v ≡ Of (first_part r) → count ≡ r.workers → result ≡ 2 ^ count → mask (workers_of v) ≡ result - 1
first_own count result v r is c e =
    let m = mask_below r.workers in
    let f : mask (workers_of v) ≡ mask (below r.workers) = ap (λ u. mask (workers_of u)) is in
    let g : result ≡ 2 ^ r.workers = e ∙ ap (λ k. 2 ^ k) c in
    omega arith
