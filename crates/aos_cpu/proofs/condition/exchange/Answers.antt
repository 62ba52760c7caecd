use Rattle.std.proofs.Common.{◌≡◌, ◌-◌, length, sym, subst, arith}
use Rattle.std.specs.Prelude.{Vec, slice_set}
use Rattle.std.specs.declared.alloc.Global.{Global}
use Rattle.aos_code.specs.declared.instr.Cell.{Cell}
use Rattle.aos_cpu.specs.Verdicts.{HasSwapped}
use Rattle.aos_cpu.proofs.Turns.{last_read}
use Rattle.aos_cpu.proofs.Verdicts.{no_top, swapped_as}
use Rattle.aos_cpu.proofs.condition.exchange.Goals as goal

pub returns-in-None-clause-exchanged : goal.returns-in-None-clause-exchanged
returns-in-None-clause-exchanged c f top =
    let none = c.in-None.ensures.item.3 in
    absurd (no_top c.args.frames.now.list.items f (omega (arith, none)) top)

pub returns-in-Some-clause-exchanged : goal.returns-in-Some-clause-exchanged
returns-in-Some-clause-exchanged c f top =
    let frames = c.args.frames.now.list in
    let all : frames.len ≡ length frames.items = omega arith in
    let here = last_read frames.items frames.len c.in-Some.frame.now all c.in-Some.ensures.item.3.0 c.in-Some.ensures.item.1 in
    let frame = c.in-Some.frame.now in
    let moved = c.swap.ensures in
    subst
    (λ (x : Vec Cell Global × Vec Cell Global).
    HasSwapped f c.args.at c.args.operands.now x.0 frame.next frames.items (slice_set frames.items (frames.len - 1) (record frame { next = c.args.at; operands = x.1 })))
    (λ i. (sym moved.y_after i, sym moved.x_after i)) (swapped_as frames.items frames.len frame f c.args.at c.args.operands.now all here top)
