use Rattle.std.proofs.Common.{sym, ap, ◌∙◌}
use Rattle.aos_types.specs.Table.{row_of, is_open, is_scalar}
use Rattle.aos_types.specs.Contents.{variable_scalars}
use Rattle.aos_typed.specs.Seen.{seen_parameter}
use Rattle.aos_layout.specs.Frame.{open_dimensions, open_element}
use Rattle.aos_layout.proofs.Frames.{open_kind, whole_kind}
use Rattle.aos_layout.proofs.frame.parameter_kind.Goals as goal

pub returns-then-is_open : goal.returns-then-is_open
returns-then-is_open c =
    let rows = c.args.types.now in
    let t = c.id_of-t.ensures in
    let a = c.open_array-open.ensures in
    open_kind rows (seen_parameter c.args.parameter.now) c.in-Ok.dimensions c.variable_scalars-element.result c.open_array-open.result.element (ap (λ z. is_open (row_of rows z)) (sym t) ∙ sym c.if-is_open.ensures) (c.in-Ok.ensures.1 ∙ a.dimensions ∙ ap (open_dimensions rows) t) (a.element ∙ ap (open_element rows) t) c.variable_scalars-element.ensures

pub returns : goal.returns
returns c =
    let rows = c.args.types.now in
    let t = c.id_of-t.ensures in
    whole_kind rows (seen_parameter c.args.parameter.now) c.variable_scalars.result (ap (λ z. is_open (row_of rows z)) (sym t) ∙ sym c.if-is_open.ensures) c.if-parameter.false (ap (λ z. is_scalar (row_of rows z)) (sym t) ∙ sym c.if-is_scalar.ensures) (c.variable_scalars.ensures ∙ ap (variable_scalars rows) t)
