use Rattle.std.proofs.Common.{◌≡◌, reverse, subst, arith}
use Rattle.std.specs.Prelude.{Some, slice_get}
use Rattle.aos_silent_steps.specs.Acts.{object_in}
use Rattle.aos_silent_steps.proofs.Receivers.{called_lost, called_nil, called_one}
use Rattle.aos_silent_steps.proofs.ask.ask_called.Goals as goal

pub returns-in-None-clause-act : goal.returns-in-None-clause-act
returns-in-None-clause-act c = called_lost c.args.procedure (reverse c.args.stack.now) c.args.count c.args.method c.if-not-method.false c.in-None.ensures

pub returns-in-Some-eq0-clause-act : goal.returns-in-Some-eq0-clause-act
returns-in-Some-eq0-clause-act c =
    let s = reverse c.args.stack.now in
    let zero : c.in-Some-eq0.field-0 ≡ 0 = omega (arith, c.in-Some-eq0.field-0-test) in
    called_nil c.args.procedure s c.args.count c.args.method c.if-not-method.false
    (subst (λ n. Some n ≡ object_in (slice_get s c.args.count)) zero c.in-Some-eq0.ensures)

pub returns-in-Some-clause-act : goal.returns-in-Some-clause-act
returns-in-Some-clause-act c =
    called_one c.args.procedure (reverse c.args.stack.now) c.args.count c.args.method c.if-not-method.false c.in-Some.field-0 (omega (arith, c.in-Some.field-0-test)) c.in-Some.ensures
