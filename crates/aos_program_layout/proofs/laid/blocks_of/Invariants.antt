use Rattle.std.proofs.Common.{◌≡◌, ◌<◌, ◌^◌, All, map, take}
use Rattle.aos_types.specs.Shape.{size}
use Rattle.aos_layout.specs.Layout.{block}
use Rattle.aos_typed.specs.Seen.{seen_module, seen_program}
use Rattle.aos_layout.specs.Block.{block_shape}
use Rattle.aos_layout.specs.Seen.{seen_block}
use Rattle.aos_program_layout.proofs.laid.blocks_of.Given as goal

-- the cells of the modules so far
abbrev pub invariant-loop-module : goal.invariant-loop-module
invariant-loop-module l =
    let p = seen_program l.program in
    let ms = map seen_module (take l.module-index l.program.modules.items) in
    (map seen_block l.blocks.items ≡ map (block_shape p.types) ms) × All (λ m. size (block p.types m) < 2 ^ 32) ms
