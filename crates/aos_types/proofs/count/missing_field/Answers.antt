use Rattle.std.proofs.Common.{sym, ◌∙◌, slice_get}
use Rattle.aos_types.specs.Chain as chain
use Rattle.aos_types.specs.Count as count
use Rattle.aos_types.proofs.Counting.{found_more, found_in}
use Rattle.aos_types.proofs.count.missing_field.Goals as goal

pub returns-in-Some-clause-first : goal.returns-in-Some-clause-first
returns-in-Some-clause-first c =
    sym (
    found_in (λ p. count.is_missing (slice_get c.args.counts.now p.0)) (chain.held c.args.rows.now) c.args.fields.now c.loop-seen.seen _ c.in-Some.part c.loop-seen-test.true c.loop-seen.invariant (sym c.in-Some.ensures)
    )

pub loop-seen-preserved : goal.loop-seen-preserved
loop-seen-preserved c =
    found_more (λ p. count.is_missing (slice_get c.args.counts.now p.0)) (chain.held c.args.rows.now) c.args.fields.now c.loop-seen.seen _ c.loop-seen-test.true c.loop-seen.invariant ∙ sym c.missing_held.ensures ∙ c.in_default.is
