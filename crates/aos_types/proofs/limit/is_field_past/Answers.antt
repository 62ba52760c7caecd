use Rattle.std.proofs.Common.{sym, ◌∙◌}
use Rattle.aos_types.specs.Chain as chain
use Rattle.aos_types.specs.Limit as limit
use Rattle.aos_types.proofs.Limits.{any_more, any_in}
use Rattle.aos_types.proofs.limit.is_field_past.Goals as goal

pub returns-then-is_held_past : goal.returns-then-is_held_past
returns-then-is_held_past c =
    sym (
    any_in (limit.count_past c.args.counts.now) (chain.held c.args.rows.now) c.args.fields.now c.loop-field.field-index _ c.loop-field-test.true c.loop-field.invariant (sym c.is_held_past.ensures ∙ c.if-is_held_past.true)
    )

pub loop-field-preserved : goal.loop-field-preserved
loop-field-preserved c =
    any_more (limit.count_past c.args.counts.now) (chain.held c.args.rows.now) c.args.fields.now c.loop-field.field-index _ c.loop-field-test.true c.loop-field.invariant ∙ sym c.is_held_past.ensures ∙ c.if-is_held_past.false
