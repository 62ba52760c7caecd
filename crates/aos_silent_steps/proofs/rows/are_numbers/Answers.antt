use Rattle.std.proofs.Common.{◌≡◌, suc, ◌+◌, ◌-◌, reverse, take, drop, sym, ap, ◌∙◌, arith}
use Rattle.aos_code.specs.Silent.{counted_on}
use Rattle.aos_silent_steps.specs.Taken.{numbers_of}
use Rattle.aos_silent_steps.proofs.Lengths.{counted_none, counted_more, cells_more}
use Rattle.aos_silent_steps.proofs.rows.are_numbers.Goals as goal

pub returns-in-None-clause-are : goal.returns-in-None-clause-are
returns-in-None-clause-are c k =
    let s = reverse c.args.stack.now in
    let i = c.loop-depth.depth in
    let left = c.args.count - (i + 1) in
    let zs = reverse (numbers_of (take i s)) in
    let more : c.args.count - i ≡ suc left = omega arith in
    c.loop-depth.invariant.rest k ∙ ap (λ n. counted_on n zs k (drop i s)) more ∙ counted_none left i zs k s c.in-None.ensures

pub loop-depth-preserved : goal.loop-depth-preserved
loop-depth-preserved c =
    let s = reverse c.args.stack.now in
    let i = c.loop-depth.depth in
    let left = c.args.count - (i + 1) in
    let more : c.args.count - i ≡ suc left = omega arith in
    let z = c.in-Some.field-0 in
    record {
      rest = λ k. c.loop-depth.invariant.rest k ∙ ap (λ n. counted_on n (reverse (numbers_of (take i s))) k (drop i s)) more ∙ counted_more left i k s z (sym c.in-Some.ensures);
      numbers = cells_more i s z (sym c.in-Some.ensures) c.loop-depth.invariant.numbers;
    }
