use Rattle.std.proofs.Common.{not, eqb, take, arith, length-take-le}
use Rattle.std.proofs.lemmas.List.Sums.{suffix_len-le-length}
use Rattle.aos_scan.proofs.position.advance.Goals as goal

-- a column is at most one past the bytes before its place
pub overflow_add-col : goal.overflow_add-col
overflow_add-col c =
    let before = length-take-le c.loop-i.i c.args.text.now (omega arith) in
    omega (arith, suffix_len-le-length (λ b. not (eqb b 10)) (take c.loop-i.i c.args.text.now))
