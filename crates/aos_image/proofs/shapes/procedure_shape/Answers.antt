use Rattle.std.proofs.Common.{ap, ◌∙◌}
use Rattle.aos_layout.specs.Frame.{FrameShape, known}
use Rattle.aos_typed.specs.Seen.{seen_program, seen_procedure, seen_stats}
use Rattle.aos_sim.specs.Need.{keeps_of}
use Rattle.aos_image.proofs.shapes.procedure_shape.Goals as goal

pub returns : goal.returns
returns c =
    let p = seen_program c.args.laid.now in
    let kept = c.in_ok-keeps.ensures ∙ ap (λ l. keeps_of (seen_stats l)) c.deref.ensures.value in
    ap (λ (x : FrameShape). x.shape) c.in_ok-shape.ensures ∙ ap (λ k. known p.types c.args.home k (seen_procedure c.args.procedure.now)) kept
