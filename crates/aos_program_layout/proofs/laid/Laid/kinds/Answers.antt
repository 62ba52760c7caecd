use Rattle.std.proofs.Common.{[], map, take, refl, ap, ◌∙◌}
use Rattle.std.specs.Prelude.{slice_get, option_map}
use Rattle.std.specs.Option.{unwrap_or}
use Rattle.aos_typed.specs.Seen.{seen_program}
use Rattle.aos_layout.specs.Block.{BlockShape}
use Rattle.aos_layout.specs.Seen.{seen_block}
use Rattle.aos_program_layout.specs.Laid.{cell_in, variables_in, module_kinds}
use Rattle.aos_program_layout.proofs.Found.{kinds_are}
use Rattle.aos_program_layout.proofs.laid.Laid.kinds.Goals as goal

pub returns : goal.returns
returns c =
    let m = c.args.home in
    let ms = c.self.inside.program.now.modules.items in
    let variables = c.variables_of-variables.ensures ∙ ap (λ l. variables_in (slice_get l m)) c.deref.ensures.value in
    let cells = c.cell_of-cells.ensures ∙ (λ i. cell_in (slice_get (map seen_block (c.deref-2.ensures.value i)) m) (variables i)) in
    let kinds = c.kinds_of.ensures ∙ ap (λ bs. unwrap_or (option_map (λ (b : BlockShape). b.kinds) (slice_get (map seen_block bs) m)) []) c.deref-3.ensures.value in
    c.first_of.ensures
    ∙ (λ i. take (cells i) (kinds i))
    ∙ kinds_are (seen_program c.self.inside.program.now) c.self.inside.blocks.items c.self.invariant.blocks ms m refl
    ∙ ap (λ p. module_kinds (seen_program p) m) c.self.view_is
