use Rattle.std.proofs.Common.{arith}
use Rattle.aos_cpu.proofs.Making.{elements_first, elements_more, elements_all}
use Rattle.aos_store_calls.proofs.objects.elements_of.Goals as goal

pub loop-i-init : goal.loop-i-init
loop-i-init c = elements_first c.args.lengths.now

pub loop-i-preserved : goal.loop-i-preserved
loop-i-preserved c = elements_more c.args.lengths.now c.loop-i.i c.loop-i.count c.saturating_mul-count.result c.loop-i-test.true c.loop-i.invariant c.saturating_mul-count.ensures

pub returns : goal.returns
returns c = elements_all c.args.lengths.now c.loop-i.i c.loop-i.count (omega (arith, c.loop-i-test.false)) c.loop-i.invariant
