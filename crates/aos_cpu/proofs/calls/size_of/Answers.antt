use Rattle.std.proofs.Common.{sym, ap, arith, pos}
use Rattle.aos_code.specs.declared.instr.Cell.TheVariants.{Num}
use Rattle.aos_cpu.specs.Calls.{sized}
use Rattle.aos_cpu.proofs.Handing.{no_length, sized_more, sized_first}
use Rattle.aos_cpu.proofs.calls.size_of.Goals as goal

pub loop-i-init : goal.loop-i-init
loop-i-init c = sized_first c.args.element c.args.lengths.now (omega arith)

pub returns-in-None : goal.returns-in-None
returns-in-None c = (let h = c.in-None.ensures in ap (sized c.args.element) (sym (no_length c.args.lengths.now _ (Num (pos 0)) (omega arith) h)))

pub loop-i-preserved : goal.loop-i-preserved
loop-i-preserved c = sized_more c.args.element c.args.lengths.now c.loop-i.i c.in-Some.length (Num (pos 0)) c.loop-i.size c.times-size.result c.loop-i-test.true c.loop-i.invariant c.in-Some.ensures c.times-size.ensures
