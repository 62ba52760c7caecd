-- How many entries a script has, and how many steps and ticks they stand for.
use Rattle.std.proofs.Common.{◌≡◌, ℕ, ◌+◌, ◌*◌, ◌-◌, ◌<◌, ◌≤◌, ◌^◌, min, List, [], ◌∷◌, ◌++◌, length, take, get_or, sym, ap, ◌∙◌, arith, length-append, codes}
use Rattle.std.specs.Prelude.{All, Result, Ok, Err, IfOk}
use Rattle.std.proofs.lemmas.List.{take_more, take_all, length-replicate, length-take}
use Rattle.std.proofs.lemmas.List.Elements.{All-tail, All-take}
use Rattle.aos_base.specs.declared.kernel.Sched.{Sched}
use Rattle.aos_base.specs.declared.kernel.Sched.TheVariants.{Steps, Tick as TickEntry}
use Rattle.aos_base.specs.Machine.{Step}
use Rattle.aos_base.specs.Schedule.{entry_choices, choices, IsEntry}
use Rattle.aos_script.specs.declared.script.Script.{Script}
use Rattle.aos_script.specs.declared.error.ScriptErr.{ScriptErr}
use Rattle.aos_script.specs.Listing.{head_line, IsScript}
use Rattle.aos_script.specs.Print.{IsPrintable}
use Rattle.aos_script.proofs.Rests.{length-AreRuns}
use Rattle.aos_script.proofs.Whole.{lines_few}

few : (text : List ℕ) (s : Script) → length text ≤ 2 ^ 26 → IsScript text s → length s.runs ≤ 2 ^ 27
few text s short h =
    let l = h.listing in
    omega (arith, lines_few text, ap length l.whole, length-append l.skipped (head_line ∷ l.workers_line ∷ l.budget_line ∷ (l.run_lines ++ codes "end" ∷ [])), length-append l.run_lines (codes "end" ∷ []), length-AreRuns l.run_lines s.runs l.runs)

pub few_read : (text : List ℕ) (r : Result Script ScriptErr) → length text ≤ 2 ^ 26 → IfOk r (IsScript text) → IfOk r (λ s. length s.runs ≤ 2 ^ 27)
few_read text (Ok s) short h = few text s short h
few_read text (Err e) short h = h

pub printable_read : (text : List ℕ) (r : Result Script ScriptErr) → IfOk r (IsScript text) → IfOk r IsPrintable
printable_read text (Ok s) h = record {
  workers = (h.listing.workers.low, h.listing.workers.high);
  budget = (h.listing.budget.low, h.listing.budget.high);
  entries = h.workers;
}
printable_read text (Err e) h = h

pub choices-append : (rs ss : List Sched) → length (choices (rs ++ ss)) ≡ length (choices rs) + length (choices ss)
choices-append [] ss = omega arith
choices-append (r ∷ rs) ss =
    omega (arith, length-append (entry_choices r) (choices (rs ++ ss)), length-append (entry_choices r) (choices rs), choices-append rs ss)

pub entry_short : (n : ℕ) (r : Sched) → IsEntry n r → length (entry_choices r) ≤ 1000000000
entry_short n (Steps w k) h = let le = h.2 in omega (arith, length-replicate k (Step w))
entry_short n (TickEntry w) h = omega arith

pub all_short : (n : ℕ) (rs : List Sched) → All (IsEntry n) rs → length (choices rs) ≤ length rs * 1000000000
all_short n [] h = omega arith
all_short n (r ∷ rs) h =
    omega (arith, length-append (entry_choices r) (choices rs), entry_short n r (h 0 r (omega arith)), all_short n rs (All-tail (IsEntry n) r rs h))

-- the entries so far, and one more
pub one_more : (n : ℕ) (rs : List Sched) (k : ℕ) (r : Sched) (steps more after : ℕ) → length rs ≤ 2 ^ 27 → All (IsEntry n) rs → k < length rs → r ≡ get_or rs k r →
    steps ≡ length (choices (take k rs)) → more ≡ length (entry_choices r) → after ≡ min (steps + more) (2 ^ 64 - 1) → after ≡ length (choices (take (k + 1) rs))
one_more n rs k r steps more after short all lt at before is e =
    let next : take (k + 1) rs ≡ take k rs ++ r ∷ [] = take_more rs k r lt ∙ ap (λ q. take k rs ++ q ∷ []) (sym at) in
    let sum : length (choices (take (k + 1) rs)) ≡ length (choices (take k rs)) + length (choices (r ∷ [])) = ap (λ xs. length (choices xs)) next ∙ choices-append (take k rs) (r ∷ []) in
    omega (arith, sum, length-append (entry_choices r) (choices []), all_short n (take (k + 1) rs) (All-take (IsEntry n) (k + 1) rs all), length-take (k + 1) rs)

pub all_of : (rs : List Sched) (k steps : ℕ) → length rs ≤ k → steps ≡ length (choices (take k rs)) → steps ≡ length (choices rs)
all_of rs k steps le e = e ∙ ap (λ xs. length (choices xs)) (take_all k rs le)
