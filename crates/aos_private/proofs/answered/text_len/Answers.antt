use Rattle.std.proofs.Common.{◌<◌, [], length, pos, arith}
use Rattle.aos_code.specs.declared.instr.Cell.TheVariants.{Num}
use Rattle.aos_code.specs.Machine.{text_in}
use Rattle.aos_private.proofs.Gone.{len_first, len_lost, len_end, len_more, len_all}
use Rattle.aos_private.proofs.answered.text_len.Goals as goal

pub loop-i-init : goal.loop-i-init
loop-i-init c = len_first (text_in [] c.args.cells.now)

pub loop-i-preserved : goal.loop-i-preserved
loop-i-preserved c =
    let lt : c.loop-i.i < length c.args.cells.now = omega arith in
    len_more c.args.cells.now c.loop-i.i (Num (pos 0)) lt _ c.loop-i.invariant c.in-Some.field-0 c.in-Some.ensures (omega arith)

pub returns-in-None : goal.returns-in-None
returns-in-None c =
    let lt : c.loop-i.i < length c.args.cells.now = omega arith in
    len_lost c.args.cells.now c.loop-i.i (Num (pos 0)) lt _ c.loop-i.invariant c.in-None.ensures

pub returns-in-Some-eq0 : goal.returns-in-Some-eq0
returns-in-Some-eq0 c =
    let lt : c.loop-i.i < length c.args.cells.now = omega arith in
    len_end c.args.cells.now c.loop-i.i (Num (pos 0)) lt _ c.loop-i.invariant c.in-Some-eq0.field-0 c.in-Some-eq0.ensures (omega arith)

pub returns : goal.returns
returns c = len_all c.args.cells.now c.loop-i.i _ (omega arith) (omega arith) c.loop-i.invariant
