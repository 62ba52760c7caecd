use Rattle.std.proofs.Common.{◌<◌, reverse, arith}
use Rattle.aos_silent_steps.proofs.Applying.{applied_other, applied_nil, applied_unknown, applied_lost, applied_so}
use Rattle.aos_silent_steps.proofs.callables.ask_applied.Goals as goal

pub returns-in-None-clause-act : goal.returns-in-None-clause-act
returns-in-None-clause-act c = applied_other c.args.shapes.now c.args.named.now (reverse c.args.stack.now) c.args.count c.in-None.ensures

pub returns-then-procedure-eq0-clause-act : goal.returns-then-procedure-eq0-clause-act
returns-then-procedure-eq0-clause-act c = applied_nil c.args.shapes.now c.args.named.now (reverse c.args.stack.now) c.args.count c.in-Some.value c.in-Some.ensures c.if-procedure-eq0.true

pub returns-in-None-numbered-clause-act : goal.returns-in-None-numbered-clause-act
returns-in-None-numbered-clause-act c =
    let some : 0 < c.in-Some.value.procedure = omega (arith, c.if-procedure-eq0.false) in
    applied_unknown c.args.shapes.now c.args.named.now (reverse c.args.stack.now) c.args.count c.in-Some.value c.in-Some.ensures some c.in-None-numbered.ensures

pub returns-in-None-way_of-clause-act : goal.returns-in-None-way_of-clause-act
returns-in-None-way_of-clause-act c =
    let some : 0 < c.in-Some.value.procedure = omega (arith, c.if-procedure-eq0.false) in
    applied_lost c.args.shapes.now c.args.named.now (reverse c.args.stack.now) c.args.count c.in-Some.value c.in-Some.ensures some c.in-Some-numbered.shape.now c.in-Some-numbered.ensures c.in-None-way_of.ensures

pub returns-in-Some-way_of-clause-act : goal.returns-in-Some-way_of-clause-act
returns-in-Some-way_of-clause-act c =
    let some : 0 < c.in-Some.value.procedure = omega (arith, c.if-procedure-eq0.false) in
    applied_so c.args.shapes.now c.args.named.now (reverse c.args.stack.now) c.args.count c.in-Some.value c.in-Some.ensures some c.in-Some-numbered.shape.now c.in-Some-numbered.ensures c.in-Some-way_of.way c.in-Some-way_of.ensures
