use Rattle.std.proofs.Common.{◌++◌, sym, ap, ◌∙◌}
use Rattle.std.proofs.lemmas.Result.{on_ok_weaker}
use Rattle.aos_layout.proofs.Frames.{flatten_text}
use Rattle.aos_layout.proofs.cells.push_text.Goals as goal

pub returns : goal.returns
returns c =
    on_ok_weaker c.push_numbers.result (λ e. e ∙ ap (λ ks. c.args.kinds.now.items ++ ks) (sym (flatten_text c.args.text.now))) c.push_numbers.ensures
