use Rattle.std.proofs.Common.{sym, ap, ◌∙◌}
use Rattle.aos_typed.specs.Seen.{seen_program}
use Rattle.aos_dispatch.specs.Routines.{seen_routine}
use Rattle.aos_sim.specs.Shows.{shape_of}
use Rattle.aos_image.proofs.shapes.routine_shape.Goals as goal

pub returns-in_ok-shape-in-Body : goal.returns-in_ok-shape-in-Body
returns-in_ok-shape-in-Body c =
    let rows = (seen_program c.args.laid.now).types in
    c.in_ok-shape-in-Body.ensures rows c.in-Body.field-1 ∙ sym (ap (λ r. shape_of rows (seen_routine r)) c.in-Body.is)
