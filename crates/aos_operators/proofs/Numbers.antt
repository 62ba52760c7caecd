-- The numbers of 64 bits.
use Rattle.std.proofs.Common.{◌≡◌, ◌<◌, ℤ, pos, negsuc, FitsSigned, w64, ◌&&◌, true, Some, None, ap, arith, if◌then◌else◌}
use Rattle.std.proofs.lemmas.Bool.{le-leb}
use Rattle.aos_base.specs.declared.number.Width.TheVariants.{W64}
use Rattle.aos_base.specs.Number.{if_within}

pub within_64 : (z : ℤ) → FitsSigned w64 z → if_within W64 z ≡ Some z
within_64 (pos n) h =
    let small : n < 9223372036854775808 = h.sfits in
    ap (λ b. if b then Some (pos n) else None) (le-leb n 9223372036854775807 (omega arith))
within_64 (negsuc n) h =
    let small : n < 9223372036854775808 = h.sfits in
    ap (λ b. if b && true then Some (negsuc n) else None) (le-leb n 9223372036854775807 (omega arith))
