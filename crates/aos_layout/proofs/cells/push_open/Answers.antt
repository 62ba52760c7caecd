use Rattle.std.proofs.Common.{◌++◌, ◌∷◌, [], replicate, sym, ap, ◌∙◌, append_assoc}
use Rattle.std.proofs.lemmas.Result.{on_ok_weaker}
use Rattle.aos_code.specs.declared.instr.Kind.TheVariants.{A, N}
use Rattle.aos_layout.proofs.Frames.{flatten_lengths}
use Rattle.aos_layout.proofs.cells.push_open.Goals as goal

pub returns : goal.returns
returns c =
    let before = c.args.kinds.now.items in
    let lengths = replicate c.args.dimensions N in
    on_ok_weaker c.push_numbers.result (λ e. e ∙ ap (λ z. z ++ lengths) c.in_ok-push.ensures.items ∙ append_assoc before (A ∷ []) lengths ∙ ap (λ ks. before ++ (A ∷ ks)) (sym (flatten_lengths c.args.dimensions))) c.push_numbers.ensures
