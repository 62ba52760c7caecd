use Rattle.std.proofs.Common.{ℕ, ◌≡◌, ◌<◌, ◌≤◌, length, get_or, sym, subst, ap, ◌∙◌, List}
use Rattle.std.proofs.lemmas.List.{get_or_default}
use Rattle.aos_base.specs.declared.kernel.Sched.{Sched}
use Rattle.aos_base.specs.declared.kernel.Sched.TheVariants.{Tick}
use Rattle.aos_base.specs.Schedule.{entry_choices}
use Rattle.aos_script.proofs.Counts.{one_more, all_of}
use Rattle.aos_script.proofs.script.Script.steps.Goals as goal

-- the element is the same, whatever stands for one that is missing
get_or_same : (xs ys : List Sched) (k : ℕ) (d : Sched) → k < length xs → ys ≡ xs → get_or xs k (Tick 0) ≡ get_or ys k d
get_or_same xs ys k d lt e = ap (λ zs. get_or zs k (Tick 0)) (sym e) ∙ sym (get_or_default ys k d (Tick 0) (subst (λ zs. k < length zs) (sym e) lt))

pub loop-entry-preserved : goal.loop-entry-preserved
loop-entry-preserved c =
    let rs = c.args.self.now.runs in
    let k = c.loop-entry.entry-index in
    let r : Sched = get_or rs k (Tick 0) in
    let lt = subst (λ (xs : List Sched). k < length xs) c.as_slice-entry-items.ensures c.loop-entry-test.true in
    let more : c.length_of.result ≡ length (entry_choices r) = c.length_of.ensures ∙ ap (λ (x : Sched). length (entry_choices x)) (sym (get_or_same rs c.as_slice-entry-items.result.now k _ lt c.as_slice-entry-items.ensures)) in
    one_more c.args.self.now.workers rs k r c.loop-entry.steps c.length_of.result c.saturating_add-steps.result c.requires.few c.requires.entries lt (get_or_default rs k (Tick 0) _ lt) c.loop-entry.invariant more c.saturating_add-steps.ensures

pub returns : goal.returns
returns c = all_of c.args.self.now.runs c.loop-entry.entry-index c.loop-entry.steps (subst (λ (xs : List Sched). length xs ≤ c.loop-entry.entry-index) c.as_slice-entry-items.ensures c.loop-entry-test.false) c.loop-entry.invariant
