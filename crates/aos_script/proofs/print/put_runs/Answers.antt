use Rattle.std.proofs.Common.{◌++◌, map, sym, ap, ◌∙◌, append-nil}
use Rattle.std.proofs.lemmas.List.{nil_from_length}
use Rattle.std.proofs.lemmas.Result.{on_ok_weaker}
use Rattle.aos_script.specs.Join.{joined}
use Rattle.aos_script.specs.Print.{run_line, text_of}
use Rattle.aos_script.proofs.print.put_runs.Goals as goal

pub returns-in-Some : goal.returns-in-Some
returns-in-Some c =
    on_ok_weaker c.put_joined.result
    (λ put. put ∙ ap (λ rs. c.args.text.now.items ++ text_of (map run_line (joined rs))) (sym c.in-Some.ensures.cases.0))
    c.put_joined.ensures

pub returns-in-None : goal.returns-in-None
returns-in-None c =
    let text = c.args.text.now.items in
    sym (append-nil text) ∙ ap (λ rs. text ++ text_of (map run_line (joined rs))) (sym (nil_from_length c.args.entries.now c.in-None.ensures.cases))
