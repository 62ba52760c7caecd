use Rattle.std.proofs.Common.{◌↔◌, IfOk, IsTrue, sym, subst}
use Rattle.aos_typed.specs.Seen.{seen_program}
use Rattle.aos_dispatch.specs.Routines.{seen_routine}
use Rattle.aos_uses.specs.Guarded.{Lets}
use Rattle.aos_guard.proofs.local.lets.Goals as goal

pub returns-in-Reads : goal.returns-in-Reads
returns-in-Reads c =
    let p = seen_program c.args.dispatch.now in
    let r = seen_routine c.args.routine.now in
    subst (λ u. IfOk c.may_read.result (λ b. IsTrue b ↔ Lets p r.home r.own u)) (sym c.in-Reads.is) c.may_read.ensures
