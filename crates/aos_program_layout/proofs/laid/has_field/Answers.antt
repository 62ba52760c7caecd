use Rattle.std.proofs.Common.{◌<◌, Some, ap, ◌∙◌, arith}
use Rattle.std.proofs.lemmas.Bool.{ltb-true}
use Rattle.aos_types.specs.Contents.{contents}
use Rattle.aos_layout.specs.TypeParts.{width}
use Rattle.aos_program_layout.proofs.Fields.{record_field, object_field}
use Rattle.aos_program_layout.proofs.laid.has_field.Goals as goal

pub returns-in-Record : goal.returns-in-Record
returns-in-Record c =
    let rows = c.args.types.now in
    let x = c.in-Record in
    λ e.
    let below = ltb-true c.from.result c.width.result e in
    let lt : c.args.number < width (contents rows c.args.t) = omega (arith, below, c.from.ensures, c.width.ensures) in
    record_field rows c.requires.typed.none_contains_itself c.args.t c.args.number lt x.field-0 x.field-1 (c.row.ensures ∙ ap (λ r. Some r) x.is)

pub returns-in-Object : goal.returns-in-Object
returns-in-Object c =
    let rows = c.args.types.now in
    let x = c.in-Object in
    λ e.
    let below = ltb-true c.from-in-Object.result c.width-in-Object.result e in
    let lt : c.args.number < width (contents rows c.args.t) = omega (arith, below, c.from-in-Object.ensures, c.width-in-Object.ensures) in
    object_field rows c.requires.typed.none_contains_itself c.args.t c.args.number lt x.field-0 x.field-1 (c.row.ensures ∙ ap (λ r. Some r) x.is)
