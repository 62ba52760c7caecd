use Rattle.std.proofs.Common.{◌≡◌, refl, ◌∷◌, ◌++◌, ◌+◌, [], sym, ap, ◌∙◌, subst, arith, length, length-append}
use Rattle.aos_script.specs.Words.{lines_left}
use Rattle.aos_script.specs.Rest.{HasFlaw, ReadsRuns, no_run, behind_end, no_worker, no_memory}
use Rattle.aos_script.proofs.Cuts.{parts-nonempty}
use Rattle.aos_script.proofs.Rests.{reads_more, left_is, reads_at, pushed}
use Rattle.aos_script.proofs.script.read_runs.Goals as goal

pub loop-left-preserved : goal.loop-left-preserved
loop-left-preserved c =
    let is = left_is c.loop-left.left c.in-Some.text c.in-Some.is c.cut.ensures in
    let run = c.in-Ok.ensures.run in
    let old = c.loop-left.entries.items in
    let items = pushed c.push.result old (old ++ c.in-Ok.entry ∷ []) c.push.new.self.items c.if-is_err.ensures.value c.push.ensures.items in
    let longer : length c.push.new.self.items ≡ length old + 1 = ap length items ∙ length-append old (c.in-Ok.entry ∷ []) in
    let counted = c.loop-left.invariant.counted in
    let few = c.loop-left.invariant.few in
    let one_less = ap length is in
    record {
      reads = subst (λ l. ReadsRuns c.args.workers (lines_left c.args.left) l (lines_left c.cut.result.1)) (sym items)
          (reads_more _ _ old _ c.cut.result.0.now (lines_left c.cut.result.1) c.in-Ok.entry c.loop-left.invariant.reads is run.0 run.1);
      counted = omega arith;
      few = omega arith;
    }

pub returns-in-Some-more-clause-failed : goal.returns-in-Some-more-clause-failed
returns-in-Some-more-clause-failed c =
    let is = left_is c.loop-left.left c.in-Some.text c.in-Some.is c.cut.ensures in
    let last = ap (λ line. line ∷ lines_left c.cut.result.1) (c.if-is.ensures.0 refl) in
    let some = λ (none : lines_left c.cut.result.1 ≡ []). parts-nonempty 10 c.in-Some-more.field-0.now (sym (ap lines_left c.in-Some-more.is) ∙ none) in
    let counted = c.loop-left.invariant.counted in
    behind_end c.loop-left.entries.items (lines_left c.cut.result.1) (reads_at c.loop-left.invariant.reads (is ∙ last)) some (omega arith)

pub returns-then-is_err-clause-failed : goal.returns-then-is_err-clause-failed
returns-then-is_err-clause-failed c = no_memory

pub returns-in-Err-Form-clause-failed : goal.returns-in-Err-Form-clause-failed
returns-in-Err-Form-clause-failed c =
    let is = left_is c.loop-left.left c.in-Some.text c.in-Some.is c.cut.ensures in
    let flaw = subst (HasFlaw c.args.workers c.cut.result.0.now) c.in-Err-Form.field-0-is c.in-Err-Form.ensures.flaw in
    let no_end = λ (e : c.cut.result.0.now ≡ 101 ∷ 110 ∷ 100 ∷ []). let x = c.if-is.ensures.1 e in absurd cc in
    no_run c.loop-left.entries.items (c.cut.result.0.now ∷ lines_left c.cut.result.1) (reads_at c.loop-left.invariant.reads is) (no_end, flaw) c.loop-left.invariant.counted

pub returns-in-Err-Worker-clause-failed : goal.returns-in-Err-Worker-clause-failed
returns-in-Err-Worker-clause-failed c =
    let is = left_is c.loop-left.left c.in-Some.text c.in-Some.is c.cut.ensures in
    let flaw = subst (HasFlaw c.args.workers c.cut.result.0.now) c.in-Err-Worker.field-0-is c.in-Err-Worker.ensures.flaw in
    no_worker c.loop-left.entries.items c.cut.result.0.now (lines_left c.cut.result.1) (reads_at c.loop-left.invariant.reads is) flaw c.loop-left.invariant.counted

pub returns-clause-failed : goal.returns-clause-failed
returns-clause-failed c =
    no_run c.loop-left.entries.items [] (reads_at c.loop-left.invariant.reads (ap lines_left c.in_default.is)) tt c.loop-left.invariant.counted
