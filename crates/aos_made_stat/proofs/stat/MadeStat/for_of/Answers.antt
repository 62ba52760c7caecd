-- It is seen as its parts are.
use Rattle.std.proofs.Common.{◌∙◌, w64, to_z, of_z}
use Rattle.std.proofs.lemmas.Int.{to_z-of_z}
use Rattle.aos_typed.specs.declared.tree.TElse.TheViews as view
use Rattle.aos_typed.specs.Program.{For}
use Rattle.aos_typed.specs.Seen.{seen_expr, seen_place, seen_stats}
use Rattle.aos_typed.proofs.Seen.{for_seen}
use Rattle.aos_made_stat.proofs.Made.{made_seen}
use Rattle.aos_made_stat.proofs.stat.MadeStat.for_of.Goals as goal

pub returns : goal.returns
returns c =
    let w = c.args.width in
    let place = c.take-place.result in
    let first = c.in_ok-first.first in
    let last = c.in_ok-last.last in
    let step = to_z w64 (of_z w64 c.args.step) in
    let body = c.take-body.result in
    made_seen c.new.result (view.For c.args.at w place first last step body)
    (For c.args.at w (seen_place c.args.place) (seen_expr c.args.first) (seen_expr c.args.last) c.args.step (seen_stats c.args.body))
    (for_seen c.args.at w place first last step body
    ∙ (λ i. For c.args.at w (seen_place (c.take-place.ensures i)) (seen_expr (c.in_ok-first.ensures i)) (seen_expr (c.in_ok-last.ensures i)) (to_z-of_z w64 c.args.step c.ranges.step i) (seen_stats (c.take-body.ensures i))))
    c.new.ensures
