use Rattle.std.proofs.Common.{◌≡◌, ◌+◌, ◌<◌, ◌≤◌, get_or, take, drop, length, ap, sym, subst, ◌∙◌, arith, take_all}
use Rattle.aos_base.specs.declared.kernel.Sched.TheVariants.{Steps}
use Rattle.aos_base.specs.declared.kernel.Outcome.TheVariants.{Going}
use Rattle.aos_base.specs.Book.{outcome}
use Rattle.aos_base.specs.Schedule.{choices, entry_choices}
use Rattle.aos_kernel.specs.Run.{state_of}
use Rattle.aos_replay.specs.Continues.{Continues, ContinuesPart}
use Rattle.aos_replay.proofs.Going.{state_after, goes_nowhere, execution-over, goes_idly, goes_then, part_then, choices-split, choices-more, choices-next}
use Rattle.aos_replay.proofs.Telling.{tells_nothing, tells_then}
use Rattle.aos_replay.proofs.whole.replay.Goals as goal

pub loop-entry-init : goal.loop-entry-init
loop-entry-init g c = record { made = goes_nowhere c.args.kernel.now; told = tells_nothing c.args.kernel.now _ }

pub loop-entry-preserved : goal.loop-entry-preserved
loop-entry-preserved g c =
    let runs = c.args.s.now.runs in
    let i = c.loop-entry.entry-index in
    let in_range : i < length runs = let n = ap length c.as_slice-entry-items.ensures in omega arith in
    let same = ap (λ l. get_or l i (Steps 0 0)) c.as_slice-entry-items.ensures in
    let done = subst (λ e. Continues (entry_choices e) c.loop-entry.kernel c.make.new.kernel) same c.in-Ok.ensures.done in
    record {
      made = subst (λ cs. Continues cs c.args.kernel.now c.make.new.kernel) (sym (choices-more i runs (Steps 0 0) in_range))
          (goes_then (choices (take i runs)) (entry_choices (get_or runs i (Steps 0 0))) c.args.kernel.now c.loop-entry.kernel c.make.new.kernel c.loop-entry.invariant.made done);
      told = tells_then c.args.kernel.now c.loop-entry.kernel c.make.new.kernel _ _ _ c.loop-entry.invariant.told c.in-Ok.ensures.told;
    }

pub returns-in_default-clause-log : goal.returns-in_default-clause-log
returns-in_default-clause-log g c =
    let i = c.loop-entry.entry-index in
    let runs = c.args.s.now.runs in
    let over = λ (going : outcome (state_of c.loop-entry.kernel).book ≡ Going). c.in_default.not-Going (c.outcome.ensures ∙ going) in
    subst (λ cs. Continues cs c.args.kernel.now c.loop-entry.kernel) (sym (choices-split i runs))
    (goes_idly (choices (take i runs)) (choices (drop i runs)) c.args.kernel.now c.loop-entry.kernel c.loop-entry.invariant.made (execution-over c.loop-entry.kernel (choices (drop i runs)) over))

pub returns-in_default-clause-state : goal.returns-in_default-clause-state
returns-in_default-clause-state g c = state_after (choices c.args.s.now.runs) c.args.kernel.now c.loop-entry.kernel (returns-in_default-clause-log g c)

pub returns-clause-log : goal.returns-clause-log
returns-clause-log g c =
    let runs = c.args.s.now.runs in
    let i = c.loop-entry.entry-index in
    let past : length runs ≤ i = let n = ap length c.as_slice-entry-items.ensures in omega arith in
    subst (λ rs. Continues (choices rs) c.args.kernel.now c.loop-entry.kernel) (take_all i runs past) c.loop-entry.invariant.made

pub returns-clause-state : goal.returns-clause-state
returns-clause-state g c = state_after (choices c.args.s.now.runs) c.args.kernel.now c.loop-entry.kernel (returns-clause-log g c)

pub returns-in-Err-clause-err : goal.returns-in-Err-clause-err
returns-in-Err-clause-err g c =
    let runs = c.args.s.now.runs in
    let i = c.loop-entry.entry-index in
    let in_range : i < length runs = let n = ap length c.as_slice-entry-items.ensures in omega arith in
    let same = ap (λ l. get_or l i (Steps 0 0)) c.as_slice-entry-items.ensures in
    let part = subst (λ e. ContinuesPart (entry_choices e) c.loop-entry.kernel c.make.new.kernel) same c.in-Err.ensures.part in
    subst (λ cs. ContinuesPart cs c.args.kernel.now c.make.new.kernel) (sym (choices-next i runs (Steps 0 0) in_range))
    (part_then (choices (take i runs)) (entry_choices (get_or runs i (Steps 0 0))) (choices (drop (i + 1) runs)) c.args.kernel.now c.loop-entry.kernel c.make.new.kernel c.loop-entry.invariant.made part)

pub returns-in_default-clause-told : goal.returns-in_default-clause-told
returns-in_default-clause-told g c = c.loop-entry.invariant.told

pub returns-clause-told : goal.returns-clause-told
returns-clause-told g c = c.loop-entry.invariant.told

pub returns-in-Err-clause-told : goal.returns-in-Err-clause-told
returns-in-Err-clause-told g c =
    tells_then c.args.kernel.now c.loop-entry.kernel c.make.new.kernel _ _ _ c.loop-entry.invariant.told c.in-Err.ensures.told
