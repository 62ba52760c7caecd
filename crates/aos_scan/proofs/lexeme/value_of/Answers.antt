use Rattle.std.proofs.Common.{◌+◌, ◌*◌, ap, ◌∙◌, arith}
use Rattle.std.proofs.lemmas.List.{take_all}
use Rattle.aos_scan.specs.Spelling.{value_of}
use Rattle.aos_scan.proofs.Values.{value_of-take, value_of-more}
use Rattle.aos_scan.proofs.lexeme.value_of.Goals as goal

-- the digits so far are past the greatest, and the others make it no less
pub returns-in_err-value : goal.returns-in_err-value
returns-in_err-value c =
    let digits = c.args.digits.now in
    let base = c.args.base in
    let i = c.loop-b.b-index in
    let past = rw c.in_err-value.was at c.with_digit.ensures in
    let product = ap (λ v. v * base) c.loop-b.invariant.is in
    let more = value_of-more base digits i c.loop-b-test.true in
    let most = value_of-take base digits (i + 1) c.requires.base in
    rw c.from_residual.ensures (λ small. past (omega arith))

pub returns : goal.returns
returns c =
    let same = c.loop-b.invariant.is ∙ ap (value_of c.args.base) (take_all c.loop-b.b-index c.args.digits.now c.loop-b-test.false) in
    (omega arith, same)
