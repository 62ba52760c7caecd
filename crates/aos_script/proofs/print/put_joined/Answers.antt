use Rattle.std.proofs.Common.{◌+◌, List, ◌++◌, drop, map, sym, ap, ◌∙◌, drop_of_length-le}
use Rattle.std.proofs.lemmas.List.{at_drop_more}
use Rattle.std.proofs.lemmas.Result.{on_ok_weaker}
use Rattle.aos_base.specs.declared.kernel.Sched.{Sched}
use Rattle.aos_base.specs.declared.kernel.Sched.TheVariants.{Steps}
use Rattle.aos_script.specs.Join.{last_of, behind_first, joined_from}
use Rattle.aos_script.specs.Print.{run_line, text_of}
use Rattle.aos_script.proofs.print.put_joined.Goals as goal

pub loop-entry-preserved : goal.loop-entry-preserved
loop-entry-preserved c =
    let others = c.args.others.now in
    let i = c.loop-entry.entry-index in
    let last = c.loop-entry.last in
    let rest = drop (i + 1) others in
    let with = λ (rs : List Sched). c.loop-entry.text.items ++ text_of (map run_line rs) in
    c.in_ok-last.ensures.printed (joined_from c.in_ok-last.last rest)
    ∙ ap (λ r. with (behind_first c.join.result (joined_from r rest))) c.in_ok-last.ensures.last
    ∙ ap (λ two. with (behind_first two (joined_from (last_of two) rest))) c.join.ensures
    ∙ sym (at_drop_more (λ rs. with (joined_from last rs)) others i (Steps 0 0) c.loop-entry-test.true)
    ∙ c.loop-entry.invariant

pub returns : goal.returns
returns c =
    let others = c.args.others.now in
    let last = c.loop-entry.last in
    let none = drop_of_length-le others c.loop-entry-test.false in
    on_ok_weaker c.put_run.result
    (λ put. put ∙ ap (λ rs. c.loop-entry.text.items ++ text_of (map run_line (joined_from last rs))) (sym none) ∙ c.loop-entry.invariant)
    c.put_run.ensures
