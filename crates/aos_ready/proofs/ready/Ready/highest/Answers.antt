use Rattle.std.proofs.Common.{sym, ◌∙◌}
use Rattle.aos_base.specs.declared.priority.Priority.TheVariants.{Low, Normal, High}
use Rattle.aos_ready.proofs.Changes.{is_high, is_normal, is_low, is_none}
use Rattle.aos_ready.proofs.ready.Ready.highest.Goals as goal

pub returns-then-is_some : goal.returns-then-is_some
returns-then-is_some c links h = is_high links c.args.self.now c.first.result (sym c.is_some.ensures ∙ c.if-is_some.true) (c.first.ensures links (h.belongs High))

pub returns-then-is_some-2 : goal.returns-then-is_some-2
returns-then-is_some-2 c links h =
    is_normal links c.args.self.now c.first.result c.first-2.result (sym c.is_some.ensures ∙ c.if-is_some.false) (c.first.ensures links (h.belongs High))
    (sym c.is_some-2.ensures ∙ c.if-is_some-2.true) (c.first-2.ensures links (h.belongs Normal))

pub returns-then-is_some-3 : goal.returns-then-is_some-3
returns-then-is_some-3 c links h =
    is_low links c.args.self.now c.first.result c.first-2.result c.first-3.result (sym c.is_some.ensures ∙ c.if-is_some.false) (c.first.ensures links (h.belongs High))
    (sym c.is_some-2.ensures ∙ c.if-is_some-2.false) (c.first-2.ensures links (h.belongs Normal)) (sym c.is_some-3.ensures ∙ c.if-is_some-3.true) (c.first-3.ensures links (h.belongs Low))

pub returns : goal.returns
returns c links h =
    is_none links c.args.self.now c.first.result c.first-2.result c.first-3.result (sym c.is_some.ensures ∙ c.if-is_some.false) (c.first.ensures links (h.belongs High))
    (sym c.is_some-2.ensures ∙ c.if-is_some-2.false) (c.first-2.ensures links (h.belongs Normal)) (sym c.is_some-3.ensures ∙ c.if-is_some-3.false) (c.first-3.ensures links (h.belongs Low))
