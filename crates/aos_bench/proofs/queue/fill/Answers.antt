use Rattle.std.proofs.Common.{◌≡◌, ◌<◌, ◌∙◌, ℕ, arith, subst}
use Rattle.aos_bench.specs.Fill.{Fills}
use Rattle.aos_bench.proofs.Filled.{fills_put}
use Rattle.aos_bench.proofs.queue.fill.Goals as goal

pub put_last-requires-clause-belongs : goal.put_last-requires-clause-belongs
put_last-requires-clause-belongs c = c.loop-n.invariant.fills.belongs

pub put_last-requires-clause-elsewhere : goal.put_last-requires-clause-elsewhere
put_last-requires-clause-elsewhere c = λ i.
    let itself : c.loop-n.n < c.loop-n.n = c.loop-n.invariant.fills.below c.loop-n.n i in
    absurd (omega (arith, itself))

pub loop-n-preserved : goal.loop-n-preserved
loop-n-preserved c = record {
  fills = fills_put c.loop-n.links c.put_last.new.self c.loop-n.queue c.put_last.new.queue c.loop-n.n c.loop-n.invariant.fills c.put_last.ensures.last c.put_last.ensures.belongs;
  room = c.put_last.ensures.table.room ∙ c.loop-n.invariant.room;
}

pub returns : goal.returns
returns c =
    let all : c.loop-n.n ≡ c.args.count = omega (arith, c.loop-n.auto.n-end, c.loop-n-test.false) in
    subst (λ (k : ℕ). Fills c.loop-n.links c.loop-n.queue k) all c.loop-n.invariant.fills
