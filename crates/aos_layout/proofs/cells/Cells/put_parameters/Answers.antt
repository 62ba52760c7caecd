use Rattle.std.proofs.Common.{◌++◌, ap, ◌∙◌}
use Rattle.aos_typed.specs.Seen.{seen_parameter}
use Rattle.aos_layout.specs.Layout.{leaves}
use Rattle.aos_layout.specs.Frame.{IsThere, parameter_cells}
use Rattle.aos_layout.proofs.Frames.{kinds_step, places_step, there_at}
use Rattle.aos_layout.proofs.cells.Cells.put_parameters.Goals as goal

pub push_parameter-requires-clause-there : goal.push_parameter-requires-clause-there
push_parameter-requires-clause-there c =
    there_at (λ a. IsThere c.args.types.now a.of) seen_parameter c.args.parameters.now c.loop-parameter.parameter-index c.parameter-item.result c.loop-parameter-test.true c.requires.there c.parameter-item.is

pub loop-parameter-preserved : goal.loop-parameter-preserved
loop-parameter-preserved c =
    let f = parameter_cells c.args.types.now in
    let xs = c.args.parameters.now in
    let i = c.loop-parameter.parameter-index in
    let x = c.parameter-item.result in
    let l = c.loop-parameter-test.true in
    let was = c.loop-parameter.self in
    let begun = c.in_ok-begin_part.ensures in
    let kept = ap (λ v. v.items) begun.kinds in
    let pushed = c.in_ok-push_parameter.ensures ∙ ap (λ z. z ++ leaves (f (seen_parameter x))) kept ∙ ap (λ p. was.kinds.items ++ leaves (f (seen_parameter p))) c.parameter-item.is in
    record {
      kinds = kinds_step f seen_parameter xs i x l c.args.self.now.kinds.items was.kinds.items c.loop-parameter.invariant.kinds c.push_parameter.new.kinds.items pushed;
      places = places_step f seen_parameter xs i x l c.args.self.now.kinds.items was.kinds.items c.loop-parameter.invariant.kinds c.args.self.now.places.items was.places.items c.begin_part.new.self.places.items c.loop-parameter.invariant.places begun.places;
    }
