use Rattle.std.proofs.Common.{◌+◌, reverse, sym, ap, ◌∙◌}
use Rattle.std.specs.Prelude.{if◌then◌else◌}
use Rattle.aos_code.specs.Silent.{Stops, lost}
use Rattle.aos_silent_steps.specs.Taken.{kinds_from}
use Rattle.aos_silent_steps.proofs.Arguments.{no_kind, next_kind}
use Rattle.aos_silent_steps.proofs.ask.past_kind.Goals as goal

pub returns-in-None : goal.returns-in-None
returns-in-None c kinds k = no_kind c.args.kind kinds c.args.depth k (reverse c.args.stack.now) c.in-None.ensures

pub returns-then-is_of : goal.returns-then-is_of
returns-then-is_of c kinds k =
    let s = reverse c.args.stack.now in
    next_kind c.args.kind kinds c.args.depth k s c.in-Some.cell c.in-Some.ensures
    ∙ ap (λ b. if b then kinds_from kinds (c.args.depth + 1) k s else Stops lost) (sym c.is_of.ensures ∙ c.if-is_of.true)

pub returns-else-is_of : goal.returns-else-is_of
returns-else-is_of c kinds k =
    let s = reverse c.args.stack.now in
    next_kind c.args.kind kinds c.args.depth k s c.in-Some.cell c.in-Some.ensures
    ∙ ap (λ b. if b then kinds_from kinds (c.args.depth + 1) k s else Stops lost) (sym c.is_of.ensures ∙ c.if-is_of.false)
