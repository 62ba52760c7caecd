use Rattle.std.proofs.Common.{sym, ap, ◌∙◌}
use Rattle.std.specs.Prelude.{not}
use Rattle.aos_code.specs.Machine.{finds}
use Rattle.aos_store.specs.Store.{memory_in}
use Rattle.aos_silent_steps.specs.Acts.{question_in}
use Rattle.aos_found.proofs.Others.{others_find}
use Rattle.aos_found.proofs.found.finds.Goals as goal

pub returns-in-Ends : goal.returns-in-Ends
returns-in-Ends c f fs is =
    ap not (c.is_top_open.ensures f fs is) ∙ ap (λ q. finds c.args.image.now.types.items (question_in q f.stack) f (memory_in c.args.store.now)) (sym c.in-Ends.is)

pub returns-in-Starts : goal.returns-in-Starts
returns-in-Starts c f fs is =
    c.is_startable.ensures ∙ ap (λ q. finds c.args.image.now.types.items (question_in q f.stack) f (memory_in c.args.store.now)) (sym c.in-Starts.is)

pub returns-in-Leaves : goal.returns-in-Leaves
returns-in-Leaves c f fs is =
    c.is_top_open-in-Leaves.ensures f fs is ∙ ap (λ q. finds c.args.image.now.types.items (question_in q f.stack) f (memory_in c.args.store.now)) (sym c.in-Leaves.is)

pub returns-in-Awaits : goal.returns-in-Awaits
returns-in-Awaits c f fs is =
    c.is_top_open-in-Awaits.ensures f fs is ∙ ap (λ q. finds c.args.image.now.types.items (question_in q f.stack) f (memory_in c.args.store.now)) (sym c.in-Awaits.is)

pub returns-in_default : goal.returns-in_default
returns-in_default c f fs is =
    sym (others_find c.args.image.now.types.items c.args.question f (memory_in c.args.store.now) c.in_default.not-Ends c.in_default.not-Starts c.in_default.not-Leaves c.in_default.not-Awaits)
