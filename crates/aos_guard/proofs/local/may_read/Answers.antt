use Rattle.std.proofs.Common.{◌↔◌, IfOk, IsTrue, sym, subst}
use Rattle.aos_typed.specs.Seen.{seen_program}
use Rattle.aos_dispatch.specs.Routines.{seen_routine}
use Rattle.aos_uses.specs.Guarded.{IsGuarded, MayRead}
use Rattle.aos_guard.proofs.local.may_read.Goals as goal

pub returns-in-Module : goal.returns-in-Module
returns-in-Module c =
    let p = seen_program c.args.dispatch.now in
    let r = seen_routine c.args.routine.now in
    subst (λ v. IfOk c.may_read_module.result (λ b. IsTrue b ↔ MayRead p r.home r.own c.args.target.through_self v)) (sym c.in-Module.is) c.may_read_module.ensures

pub returns-in-Field : goal.returns-in-Field
returns-in-Field c =
    let p = seen_program c.args.dispatch.now in
    let r = seen_routine c.args.routine.now in
    subst (λ v. IfOk c.may_read_field.result (λ b. IsTrue b ↔ MayRead p r.home r.own c.args.target.through_self v)) (sym c.in-Field.is)
    (subst (λ v. IfOk c.may_read_field.result (λ b. IsTrue b ↔ (IsTrue c.args.target.through_self × IsGuarded p v))) c.in-Field.is c.may_read_field.ensures)
