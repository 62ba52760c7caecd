use Rattle.std.proofs.Common.{◌≡◌, ℕ, List, length, ◌∙◌, arith}
use Rattle.aos_types.specs.declared.row.TypeRow.{TypeRow}
use Rattle.aos_types.specs.Shape.{size}
use Rattle.aos_code.specs.declared.instr.Kind.{Kind}
use Rattle.aos_typed.specs.Program.{Module}
use Rattle.aos_typed.specs.Seen.{seen_module}
use Rattle.aos_layout.specs.Layout.{leaves, block_parts, block}
use Rattle.aos_layout.specs.Frame.{places_from}
use Rattle.aos_layout.specs.Block.{BlockShape, block_shape}
use Rattle.aos_layout.proofs.Frames.{cells_counted}
use Rattle.aos_layout.proofs.block.block_shape.Goals as goal

whole : (rows : List TypeRow) (m : Module) (places : List ℕ) (count : ℕ) (kinds : List Kind) → places ≡ places_from 0 (block_parts rows m) → count ≡ length kinds → kinds ≡ leaves (block rows m) → ◌≡◌ {A = BlockShape} (record { places = places; cells = count; kinds = kinds }) (block_shape rows m)
whole rows m places count kinds a b c =
    let n : count ≡ size (block rows m) = b ∙ cells_counted (block rows m) kinds c in
    λ i. record { places = a i; cells = n i; kinds = c i }

pub returns : goal.returns
returns c =
    let made = c.in_ok-kinds.ensures in
    let n = c.in-Ok.ensures in
    let l = c.len.ensures in
    whole c.args.types.now (seen_module c.args.module.now) _ c.in-Ok.count _ made.places (omega (arith, n, l)) made.kinds
