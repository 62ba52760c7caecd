use Rattle.std.proofs.Common.{◌<◌, ◌∙◌, sym, ap, subst, length}
use Rattle.std.proofs.lemmas.List.{length-set}
use Rattle.std.proofs.lemmas.Result.{on_ok_weaker}
use Rattle.aos_scheduler.proofs.Standing.{on_within}
use Rattle.aos_kernel.proofs.Rows.{get_below}
use Rattle.aos_kernel.proofs.TablesShown.{turns_no_wait, shows_awaiting, set_awaits, set_before, shows_either}
use Rattle.aos_kernel.proofs.tables.KernelTables.begin_wait.Goals as goal

pub returns-clause-awaits : goal.returns-clause-awaits
returns-clause-awaits c =
    let d = c.args.self.now in
    let a = c.args.activity in
    let r = get_below d.activities.items a (subst (λ n. a < n) c.requires.counted (on_within d.line a c.requires.on)) in
    on_ok_weaker c.set_condition.result (λ s. set_awaits d.activities.items c.set_condition.new.activities.items a c.args.condition r.0 r.1 s.1 s.0) (c.set_condition.ensures.set r.0 r.1)

pub returns-clause-turn : goal.returns-clause-turn
returns-clause-turn c =
    let d = c.args.self.now in
    let a = c.args.activity in
    let r = get_below d.activities.items a (subst (λ n. a < n) c.requires.counted (on_within d.line a c.requires.on)) in
    on_ok_weaker c.set_condition.result (λ s. record { on = c.requires.on; counted = c.requires.counted ∙ sym (ap length s.1 ∙ length-set d.activities.items a (record r.0 { condition = c.args.condition })) }) (c.set_condition.ensures.set r.0 r.1)

pub returns-clause-before : goal.returns-clause-before
returns-clause-before c =
    let d = c.args.self.now in
    let a = c.args.activity in
    let r = get_below d.activities.items a (subst (λ n. a < n) c.requires.counted (on_within d.line a c.requires.on)) in
    on_ok_weaker c.set_condition.result (λ s left before kept at. set_before c.args.image.now d.activities.items c.set_condition.new.activities.items a c.args.condition left r.0 r.1 s.1 before kept at) (c.set_condition.ensures.set r.0 r.1)

pub returns-clause-same : goal.returns-clause-same
returns-clause-same c earlier st h =
    let d = c.args.self.now in
    let a = c.args.activity in
    let image = c.args.image.now in
    let r = get_below d.activities.items a (subst (λ n. a < n) c.requires.counted (on_within d.line a c.requires.on)) in
    shows_either image earlier d st c.set_condition.result c.set_condition.new.activities h
    (on_ok_weaker c.set_condition.result (λ s. shows_awaiting image earlier d st a c.args.condition c.set_condition.new.activities r.0 h (turns_no_wait image earlier d st a h c.requires) r.1 s.1) (c.set_condition.ensures.set r.0 r.1))
    c.set_condition.ensures.err
