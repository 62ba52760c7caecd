use Rattle.std.proofs.Common.{◌<◌, All, length, get_or, map, sym, ap, ◌∙◌, arith}
use Rattle.aos_typed.specs.Program.{Module}
use Rattle.aos_typed.specs.Seen.{seen_module, seen_program}
use Rattle.aos_typed.specs.WellTyped.{IsVariableType}
use Rattle.aos_layout.proofs.Frames.{there_at}
use Rattle.aos_layout.specs.Block.{block_shape}
use Rattle.aos_layout.specs.Seen.{seen_block}
use Rattle.aos_dispatch.proofs.Lists.{more_of, next_of}
use Rattle.aos_program_layout.proofs.Found.{narrow_more}
use Rattle.aos_program_layout.proofs.laid.blocks_of.Goals as goal

pub block_shape-requires-clause-there : goal.block_shape-requires-clause-there
block_shape-requires-clause-there c =
    let p = seen_program c.args.program.now in
    let ms = c.args.program.now.modules.items in
    let k = c.loop-module.module-index in
    let m = c.module-item.result in
    let lt : k < length ms = omega (arith, ap length c.deref-module-items.ensures.value) in
    let all = there_at (λ (x : Module). All (λ v. IsVariableType p v.of) x.variables) seen_module ms k m lt c.requires.typed.parts.variables (c.module-item.is ∙ ap (λ l. get_or l k m) c.deref-module-items.ensures.value) in
    λ j d l. (all j d l).there

pub loop-module-preserved : goal.loop-module-preserved
loop-module-preserved c =
    let rows = (seen_program c.args.program.now).types in
    let ms = c.args.program.now.modules.items in
    let k = c.loop-module.module-index in
    let m = c.module-item.result in
    let lt : k < length ms = omega (arith, ap length c.deref-module-items.ensures.value) in
    let at = c.module-item.is ∙ ap (λ l. get_or l k m) c.deref-module-items.ensures.value in (
      ap (map seen_block) c.in_ok-put.ensures.put
          ∙ more_of seen_block (block_shape rows) _ _ c.in_ok-block.block (seen_module m) c.loop-module.invariant.0 c.in_ok-block.ensures
          ∙ sym (ap (map (block_shape rows)) (next_of seen_module ms k m lt at)),
      narrow_more rows ms k m c.in_ok-block.block lt at c.in_ok-block.ensures c.in_ok-put.ensures.narrow c.loop-module.invariant.1,
    )
