-- A number that isn't 0 leaves 64 bits by 64 places at the latest, and by fewer it stays in 128.
use Rattle.std.proofs.Common.{◌≡◌, ℕ, ◌≤◌, ◌<◌, ◌^◌, ◌*◌, ◌%◌, ℤ, pos, negsuc, ◌*ℤ◌, unsigned_abs, FitsSigned, ap, ◌∙◌, subst, sym, arith}
use Rattle.std.specs.Prelude.{Result, Ok, Err, OkIff}
use Rattle.std.specs.Option.{SomeIff}
use Rattle.std.specs.Result.{result_ok}
use Rattle.std.proofs.Math.Nat.{pow-le-pow_right, mul-le-mul}
use Rattle.std.proofs.lemmas.Int.{unsigned_abs-mul, fits_signed_mul, to_z-of_z, to_z_pos}
use Rattle.std.proofs.lemmas.Nat.{one_shl, pow_below}
use Rattle.std.specs.Int.{w64, w128, cast_unsigned as of_z, cast_signed as to_z}
use Rattle.aos_base.proofs.number.shift_up.Goals as goal

size : (z : ℤ) → FitsSigned w64 z → unsigned_abs z ≤ 2 ^ 63
size (pos m) f = omega (arith, f.sfits)
size (negsuc m) f = omega (arith, f.sfits)

some_size : (z : ℤ) → (of_z w64 z ≡ 0 → ⊥) → 0 < unsigned_abs z
some_size (pos m) f = omega (arith, f)
some_size (negsuc m) f = omega arith

wider : (z : ℤ) → FitsSigned w64 z → FitsSigned w128 z
wider (pos m) f = record { sfits = omega (arith, f.sfits) }
wider (negsuc m) f = record { sfits = omega (arith, f.sfits) }

module _ (a : ℤ) (n : ℕ) (f : FitsSigned w64 a) where
  too_far : (of_z w64 a ≡ 0 → ⊥) → 63 < n → FitsSigned w64 (a *ℤ pos (2 ^ n)) → ⊥
  too_far ne k h =
      let p : 2 ^ 64 ≤ 2 ^ n = pow-le-pow_right (omega arith) {i = 64} {j = n} (omega arith) in
      let q : 1 * 2 ^ 64 ≤ unsigned_abs a * 2 ^ n = mul-le-mul (some_size a ne) p in
      omega (arith, unsigned_abs-mul a (pos (2 ^ n)), size (a *ℤ pos (2 ^ n)) h)

  module _ (k : n ≤ 63) where
    in_128 : FitsSigned w128 (a *ℤ pos (2 ^ n))
    in_128 = fits_signed_mul w128 a (pos (2 ^ n)) (2 ^ 63) (2 ^ 63) (size a f) (pow-le-pow_right (omega arith) {i = n} {j = 63} k) (omega arith)

    power : to_z w128 (1 * 2 ^ n % 2 ^ 128) ≡ pos (2 ^ n)
    power = ap (to_z w128) (one_shl n 128 (omega arith)) ∙ to_z_pos w128 (2 ^ n) (pow_below n 127 (omega arith))

    product : (x : ℤ) → x ≡ to_z w64 (of_z w64 a) → to_z w128 (of_z w128 x) *ℤ to_z w128 (1 * 2 ^ n % 2 ^ 128) ≡ a *ℤ pos (2 ^ n)
    product x e =
        let z : x ≡ a = e ∙ to_z-of_z w64 a f in
        (λ i. to_z w128 (of_z w128 (z i)) *ℤ power i) ∙ ap (λ y. y *ℤ pos (2 ^ n)) (to_z-of_z w128 a (wider a f))

as_option : {E : Type 0} (r : Result ℤ E) (P : Type 0) (z : ℤ) → OkIff r P z → SomeIff (result_ok r) P z
as_option (Ok x) P z h = h
as_option (Err e) P z h = h

pub returns-then-n-gt63 : goal.returns-then-n-gt63
returns-then-n-gt63 c = too_far c.args.a c.args.n c.ranges.a c.if-a-eq0.false (omega arith)

pub overflow_mul-from : goal.overflow_mul-from
overflow_mul-from c = subst (FitsSigned w128) (sym (product c.args.a c.args.n c.ranges.a (omega arith) c.from.result c.from.ensures)) (in_128 c.args.a c.args.n c.ranges.a (omega arith))

pub returns : goal.returns
returns c =
    let z = c.args.a *ℤ pos (2 ^ c.args.n) in
    let e = ap (λ x. to_z w128 (of_z w128 x)) (product c.args.a c.args.n c.ranges.a (omega arith) c.from.result c.from.ensures) ∙ to_z-of_z w128 z (in_128 c.args.a c.args.n c.ranges.a (omega arith)) in
    let h = subst (λ x. OkIff c.try_from.result (FitsSigned w64 x) x) e c.try_from.ensures in
    subst (λ o. SomeIff o (FitsSigned w64 z) z) (sym c.ok.ensures.value) (as_option c.try_from.result (FitsSigned w64 z) z h)
