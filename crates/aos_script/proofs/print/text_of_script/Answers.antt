use Rattle.std.proofs.Common.{◌++◌, codes, decimal, map, ap, ◌∙◌}
use Rattle.aos_script.specs.Join.{joined}
use Rattle.aos_script.specs.Print.{run_line, text_of}
use Rattle.aos_script.proofs.Prints.{put_together}
use Rattle.aos_script.proofs.print.text_of_script.Goals as goal

pub returns : goal.returns
returns c =
    let s = c.args.s.now in
    let workers = c.in_ok-put_number.ensures ∙ ap (λ t. t ++ codes "aos-script 1\nworkers " ++ decimal c.from.result) c.new-text.ensures.items ∙ ap (λ n. codes "aos-script 1\nworkers " ++ decimal n) c.from.ensures in
    let budget = c.in_ok-put_number-2.ensures ∙ ap (λ t. t ++ codes "\nbudget " ++ decimal s.budget) workers in
    let settings = c.in_ok-put.ensures ∙ ap (λ t. t ++ codes "\n") budget in
    let runs = c.in_ok-put_runs.ensures ∙ ap (λ rs. c.put.new.text.items ++ text_of (map run_line (joined rs))) c.as_slice.ensures ∙ ap (λ t. t ++ text_of (map run_line (joined s.runs))) settings in
    c.in_ok-put-2.ensures ∙ ap (λ t. t ++ codes "end\n") runs ∙ put_together s
