use Rattle.std.proofs.Common.{List, sym, subst, ◌∙◌}
use Rattle.std.specs.Prelude.{All}
use Rattle.aos_base.specs.declared.kernel.Sched.{Sched}
use Rattle.aos_base.specs.Schedule.{IsEntry}
use Rattle.aos.proofs.run.script_of.Goals as goal

pub returns : goal.returns
returns c =
    let copied = c.from_vec.ensures ∙ c.in_ok-entries.ensures.items in (
      λ i. record { workers = c.workers.ensures.workers i; budget = c.budget.ensures.budget i; runs = (copied ∙ c.log.ensures.log) i },
      record {
        workers = c.workers.ensures.range;
        budget = c.budget.ensures.range;
        entries = subst (λ n. All (IsEntry n) c.from_vec.result) (sym c.workers.ensures.workers)
            (subst (λ (l : List Sched). All (IsEntry c.args.kernel.now.workers) l) (sym copied) c.log.ensures.entries);
      },
    )
