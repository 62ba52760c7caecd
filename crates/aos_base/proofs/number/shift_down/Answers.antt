-- From 63 places on nothing is left of a number of 64 bits but its sign.
use Rattle.std.proofs.Common.{◌≡◌, ℕ, ◌≤◌, ◌<◌, ◌^◌, ◌/◌, min, ℤ, pos, negsuc, FitsSigned, sym, ap, ◌∙◌, arith, inl, inr}
use Rattle.std.proofs.Math.Nat.{pow-le-pow_right, div-eq_of_lt, div-le_self}
use Rattle.std.proofs.lemmas.Bool.{cases_lt}
use Rattle.std.proofs.lemmas.Int.{to_z-of_z}
use Rattle.std.specs.Int.{cast_signed as to_z, cast_unsigned as of_z, w64, int_div_euclid, int_shr}
use Rattle.aos_base.proofs.number.shift_down.Goals as goal

nothing_left : (m n : ℕ) → m < 2 ^ 63 → 63 ≤ n → m / 2 ^ n ≡ 0
nothing_left m n h k =
    let z : 2 ^ 63 ≤ 2 ^ n = pow-le-pow_right (omega arith) {i = 63} {j = n} k in
    div-eq_of_lt (omega arith)

at_most_63 : (m n : ℕ) → m < 2 ^ 63 → m / 2 ^ min n 63 ≡ m / 2 ^ n
at_most_63 m n h =
    elim (cases_lt 63 n) [
      | inl k ↦ (let z : min n 63 ≡ 63 = omega arith in ap (λ x. m / 2 ^ x) z ∙ nothing_left m 63 h (omega arith) ∙ sym (nothing_left m n h (omega arith)))
      | inr k ↦ (let z : min n 63 ≡ n = omega arith in ap (λ x. m / 2 ^ x) z)
    ]

lowered : (a : ℤ) (n : ℕ) → FitsSigned w64 a → int_shr a (min n 63) ≡ int_div_euclid a (pos (2 ^ n))
lowered (pos m) n f = ap pos (at_most_63 m n f.sfits)
lowered (negsuc m) n f = ap negsuc (at_most_63 m n f.sfits)

stays : (a : ℤ) (k : ℕ) → FitsSigned w64 a → FitsSigned w64 (int_shr a k)
stays (pos m) k f = record { sfits = omega (arith, f.sfits, div-le_self m (2 ^ k)) }
stays (negsuc m) k f = record { sfits = omega (arith, f.sfits, div-le_self m (2 ^ k)) }

pub returns : goal.returns
returns c =
    ap (λ x. to_z w64 (of_z w64 (int_shr x c.min.result))) (to_z-of_z w64 c.args.a c.ranges.a) ∙ to_z-of_z w64 (int_shr c.args.a c.min.result) (stays c.args.a c.min.result c.ranges.a)
    ∙ ap (λ k. int_shr c.args.a k) c.min.ensures ∙ lowered c.args.a c.args.n c.ranges.a
