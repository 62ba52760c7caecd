use Rattle.std.proofs.Common.{◌-◌, arith, refl, sym, subst}
use Rattle.aos_cell.proofs.Passes.{may_split, may_start}
use Rattle.aos_workers.specs.Run.{gives_each, MayBegin}
use Rattle.aos_workers.proofs.workers.part.Goals as goal

pub split-requires-clause-free : goal.split-requires-clause-free
split-requires-clause-free c = may_split gives_each c.args.count _ (let a = c.requires.count in omega arith) (λ e. let a = c.requires.count in omega arith) c.requires.start

pub returns-clause-left : goal.returns-clause-left
returns-clause-left c =
    subst (MayBegin (c.args.count - 1)) (sym c.split.ensures.view.0)
    (may_start gives_each c.args.count (c.args.count - 1) _ (let a = c.requires.count in omega arith) (λ e. let a = c.requires.count in omega arith) refl c.requires.start).0

pub returns-clause-right : goal.returns-clause-right
returns-clause-right c =
    subst (MayBegin 1) (sym c.split.ensures.view.1)
    (may_start gives_each c.args.count (c.args.count - 1) _ (let a = c.requires.count in omega arith) (λ e. let a = c.requires.count in omega arith) refl c.requires.start).1
