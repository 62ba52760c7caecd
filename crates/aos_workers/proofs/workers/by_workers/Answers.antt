use Rattle.std.proofs.Common.{rules, arith, sym, subst, ap, ◌∙◌}
use Rattle.aos_kernel.specs.Run.{Run}
use Rattle.aos_cell.proofs.Passes.{first_starts, has_all, runs_on, ends_unlent}
use Rattle.aos_workers.specs.Run.{gives_each, MayBegin}
use Rattle.aos_workers.proofs.workers.by_workers.Goals as goal

pub start-pass-requires-clause-start : goal.start-pass-requires-clause-start
start-pass-requires-clause-start g c κs b =
    subst (λ n. MayBegin n c.in-Ok.pass.view) (sym (c.workers-count.ensures.workers ∙ ap (λ (r : Run). r.workers) c.deref.ensures))
    (first_starts gives_each c.args.kernel.value _ (omega arith) (search rules) c.requires c.in-Ok.ensures.view)

pub close-requires-clause-all : goal.close-requires-clause-all
close-requires-clause-all g c = has_all c.args.kernel.value _ _ c.in-Ok.ensures.view c.start-pass.ensures.view

pub returns-in-Ok-clause-lent : goal.returns-in-Ok-clause-lent
returns-in-Ok-clause-lent g c = ends_unlent c.args.kernel.value _ _ _ c.in-Ok.ensures.view c.start-pass.ensures.view c.close.ensures.kernel

pub returns-in-Ok-clause-runs : goal.returns-in-Ok-clause-runs
returns-in-Ok-clause-runs g c = runs_on c.args.kernel.value _ _ _ c.in-Ok.ensures.view c.start-pass.ensures.view c.close.ensures.kernel
