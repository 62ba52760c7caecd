use Rattle.std.proofs.Common.{◌++◌, sym, ap, ◌∙◌}
use Rattle.aos_layout.proofs.Frames.{other_cells}
use Rattle.aos_layout.proofs.cells.push_variable.Goals as goal

pub returns-in_ok-extend_from_slice : goal.returns-in_ok-extend_from_slice
returns-in_ok-extend_from_slice c =
    c.in_ok-extend_from_slice.ensures.items ∙ ap (λ z. c.args.kinds.now.items ++ z) (c.as_slice.ensures.value ∙ c.in_ok-own.ensures ∙ sym (other_cells c.args.types.now c.args.t (sym c.if-is_object.ensures)))
