use Rattle.std.proofs.Common.{[], ◌∷◌, map, ap, ◌∙◌}
use Rattle.std.specs.Prelude.{slice_get}
use Rattle.aos_typed.specs.Seen.{seen_program}
use Rattle.aos_layout.specs.Seen.{seen_block}
use Rattle.aos_types.specs.Shape.{number_of, offset}
use Rattle.aos_typed.specs.Source.{module_shape}
use Rattle.aos_program_layout.specs.Laid.{cell_in}
use Rattle.aos_program_layout.proofs.Found.{cell_is}
use Rattle.aos_program_layout.proofs.laid.Laid.cell.Goals as goal

pub returns : goal.returns
returns c =
    let m = c.args.home in
    let i = c.args.number in
    c.cell_of.ensures
    ∙ ap (λ bs. cell_in (slice_get (map seen_block bs) m) i) c.deref.ensures.value
    ∙ cell_is (seen_program c.self.inside.program.now) c.self.inside.blocks.items c.self.invariant.blocks m i
    ∙ ap (λ p. number_of (offset (i ∷ [])) (slice_get (map (module_shape (seen_program p)) (seen_program p).modules) m)) c.self.view_is
