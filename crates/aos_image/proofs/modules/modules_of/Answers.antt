use Rattle.std.proofs.Common.{◌<◌, ◌+◌, ◌++◌, length, get_or, map, refl, ap, ◌∙◌, arith}
use Rattle.std.specs.List.{flat_map}
use Rattle.aos_typed.specs.Seen.{seen_module, seen_program}
use Rattle.aos_code.specs.Machine.{first_cell}
use Rattle.aos_sim.specs.Shows.{text_cells}
use Rattle.aos_program_layout.specs.Laid.{module_kinds}
use Rattle.aos_image.proofs.Described.{first_cells_are, module_more}
use Rattle.aos_program_layout.proofs.Found.{kinds_at}
use Rattle.aos_image.proofs.modules.modules_of.Goals as goal

pub loop-module-preserved : goal.loop-module-preserved
loop-module-preserved c =
    let p = seen_program c.args.program.now in
    let ms = c.args.program.now.modules.items in
    let k = c.loop-module.module-index in
    let m = c.module-item.result in
    let n = c.loop-module.invariant.1 in
    let told = c.in_ok-describe.ensures in
    let lt : k < length ms = omega (arith, ap length c.deref-module-items.ensures.value) in
    let at = c.module-item.is ∙ ap (λ l. get_or l k m) c.deref-module-items.ensures.value in
    let kinds = c.kinds.ensures ∙ (λ i. module_kinds (seen_program (c.requires.laid i)) (n i)) ∙ kinds_at p seen_module ms k m refl lt at in (
      module_more p ms k _ m _ _ _ lt at n c.in_ok-push.ensures.items told.start
          (told.cells ∙ ap (λ ks. map first_cell ks ++ flat_map (λ t. text_cells t.items) m.texts.items) kinds ∙ first_cells_are p.types m) told.name c.loop-module.invariant.0,
      ap (λ j. j + 1) n,
    )
