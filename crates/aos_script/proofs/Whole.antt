-- From what the reader finds in the lines to what the text is.
use Rattle.std.proofs.Common.{◌≡◌, ◌≢◌, ℕ, ◌+◌, ◌-◌, ◌≤◌, ◌⊎◌, inl, inr, Bool, true, false, List, [], ◌∷◌, ◌++◌, length, take, codes, refl, sym, ap, ◌∙◌, subst, append_assoc, length-append, length-take, arith}
use Rattle.std.specs.Prelude.{if◌then◌else◌, ◌==◌, Result, IfOk, IfErr}
use Rattle.std.proofs.lemmas.Result.{IfOk-weaker, IfErr-weaker}
use Rattle.std.specs.Io.BufRead.{strip_last, ends_with_byte}
use Rattle.std.proofs.lemmas.List.Splits.{length-slice_split}
use Rattle.std.proofs.lemmas.List.Sums.{count_by-le-length}
use Rattle.aos_base.specs.declared.kernel.Sched.{Sched}
use Rattle.aos_script.specs.declared.script.Script.{Script}
use Rattle.aos_script.specs.declared.error.ScriptErr.{ScriptErr}
use Rattle.aos_script.specs.declared.error.ScriptErr.TheVariants.{NoMemory}
use Rattle.aos_script.specs.Words.{parts, lines}
use Rattle.aos_script.specs.Listing.{head_line, IsSetting, AreRuns, IsScript}
use Rattle.aos_script.specs.Refusals.{BeginsListing, BeginsScript, IsBadLine, IsRefused}
use Rattle.aos_script.specs.Rest.{Skips, TakesSetting, LacksSetting, ReadsRuns, GoesWrong, FailsAt, no_run, behind_end, no_worker, no_memory}
use Rattle.aos_script.proofs.Rests.{AreRuns-push, length-AreRuns}
use Rattle.aos_script.proofs.FirstLines.{Header, behind, behind-append, listing_of, rest_same, skipped_alone, begins_script, ends_script, no_listing, no_more, no_script, has_form, no_last, begins_skipped, begins_head, begins_workers, Stops, bad_line, bad_worker}

-- a text has a line more than bytes at most
strip_last-short : (b : Bool) (text : List ℕ) → length (if b then take (length text - 1) text else text) ≤ length text
strip_last-short true text = omega (arith, length-take (length text - 1) text)
strip_last-short false text = omega arith

pub lines_few : (text : List ℕ) → length (lines text) ≤ length text + 1
unfolding parts
lines_few [] = omega arith
lines_few (b ∷ rest) =
    let text = b ∷ rest in
    let body = strip_last 10 text in
    omega (arith, length-slice_split (λ b. b == 10) body, count_by-le-length (λ b. b == 10) body, strip_last-short (ends_with_byte 10 text) text)

-- what the lines behind the first one say, of this text
pub behind_read : (text : List ℕ) (n : ℕ) (left : List (List ℕ)) (r : Result Script ScriptErr) → Skips (lines text) n left → IfOk r (λ s. (t : List ℕ) → Skips (lines t) n left → IsScript t s) → IfOk r (IsScript text)
behind_read text n left r skips h = IfOk-weaker r (λ s. (t : List ℕ) → Skips (lines t) n left → IsScript t s) (IsScript text) (λ s f. f text skips) h

pub behind_refused : (text : List ℕ) (n : ℕ) (left : List (List ℕ)) (r : Result Script ScriptErr) → Skips (lines text) n left → IfErr r (λ e. (t : List ℕ) → Skips (lines t) n left → (e ≡ NoMemory) ⊎ IsRefused t e) → IfErr r (λ e. (e ≡ NoMemory) ⊎ IsRefused text e)
behind_refused text n left r skips h = IfErr-weaker r (λ e. (t : List ℕ) → Skips (lines t) n left → (e ≡ NoMemory) ⊎ IsRefused t e) (λ e. (e ≡ NoMemory) ⊎ IsRefused text e) (λ e f. f text skips) h

module _ (text : List ℕ) (n : ℕ) where
  -- no line is the first one of a script
  pub no_head_line : Skips (lines text) n [] → IsBadLine text n
  no_head_line s = bad_line text s.skipped n s.counted [] s.whole (begins_skipped s.skipped s.others) (skipped_alone s.skipped s.others)

  module _ (left : List (List ℕ)) (s : Skips (lines text) n (head_line ∷ left)) where
    pub no_workers : LacksSetting (codes "workers") 16 left → IsBadLine text (n + 1)
    no_workers lacks =
        let front = s.skipped ++ head_line ∷ [] in
        bad_line text front (n + 1) (omega (arith, s.counted, length-append s.skipped (head_line ∷ []))) left
        (s.whole ∙ sym (append_assoc s.skipped (head_line ∷ []) left)) (begins_head s.skipped s.others) (stops left lacks)
      where
        stops : (left : List (List ℕ)) → LacksSetting (codes "workers") 16 left → Stops (s.skipped ++ head_line ∷ []) left
        stops [] lacks = λ t l. let x = rest_same s.skipped [] (s.skipped ++ head_line ∷ []) t s.others refl l in cc
        stops (line ∷ left) lacks = λ b.
            let front = s.skipped ++ head_line ∷ [] in
            let l = b.listing in
            let all = append_assoc s.skipped (head_line ∷ line ∷ []) b.more in
            let whole = ap (λ ls. ls ++ b.more) (append_assoc s.skipped (head_line ∷ []) (line ∷ [])) ∙ all in
            let x = rest_same s.skipped (line ∷ b.more) ((front ++ line ∷ []) ++ b.more) b.script s.others whole l in
            let e : l.workers_line ≡ line = cc in
            lacks b.script.workers (subst (λ k. IsSetting (codes "workers") 16 k b.script.workers) e l.workers)

    module _ (workers : ℕ) (next : List (List ℕ)) (w : TakesSetting (codes "workers") 16 left workers next) where
      pub no_budget : LacksSetting (codes "budget") 1000000000 next → IsBadLine text (n + 2)
      no_budget lacks =
          let front = s.skipped ++ head_line ∷ w.line ∷ [] in
          bad_line text front (n + 2) (omega (arith, s.counted, length-append s.skipped (head_line ∷ w.line ∷ []))) next
          (s.whole ∙ ap (λ ls. s.skipped ++ head_line ∷ ls) w.whole ∙ sym (append_assoc s.skipped (head_line ∷ w.line ∷ []) next))
          (begins_workers s.skipped s.others w.line workers w.setting) (stops next lacks)
        where
          stops : (next : List (List ℕ)) → LacksSetting (codes "budget") 1000000000 next → Stops (s.skipped ++ head_line ∷ w.line ∷ []) next
          stops [] lacks = λ t l. let x = rest_same s.skipped (w.line ∷ []) (s.skipped ++ head_line ∷ w.line ∷ []) t s.others refl l in cc
          stops (line ∷ next) lacks = λ b.
              let front = s.skipped ++ head_line ∷ w.line ∷ [] in
              let l = b.listing in
              let all = append_assoc s.skipped (head_line ∷ w.line ∷ line ∷ []) b.more in
              let whole = ap (λ ls. ls ++ b.more) (append_assoc s.skipped (head_line ∷ w.line ∷ []) (line ∷ [])) ∙ all in
              let x = rest_same s.skipped (w.line ∷ line ∷ b.more) ((front ++ line ∷ []) ++ b.more) b.script s.others whole l in
              let e : l.budget_line ≡ line = cc in
              lacks b.script.budget (subst (λ k. IsSetting (codes "budget") 1000000000 k b.script.budget) e l.budget)

      module _ (budget : ℕ) (last : List (List ℕ)) (b : TakesSetting (codes "budget") 1000000000 next budget last) where
        abbrev header : Header
        header = record {
          skipped = s.skipped;
          workers_line = w.line;
          budget_line = b.line;
          workers = workers;
          budget = budget;
          others = s.others;
          of_workers = w.setting;
          of_budget = b.setting;
        }

        abbrev front : List (List ℕ) → List (List ℕ)
        front ls = behind header ls

        whole : lines text ≡ front last
        whole = s.whole ∙ ap (λ ls. s.skipped ++ head_line ∷ ls) (w.whole ∙ ap (λ ls. w.line ∷ ls) b.whole)

        run_stops : (before : List (List ℕ)) (runs : List Sched) (left : List (List ℕ)) → AreRuns before runs → GoesWrong left → Stops (front before) left
        run_stops before runs [] are wrong = no_last header before runs are
        run_stops before runs (line ∷ left) are wrong = λ begins.
            no_listing header before runs line are wrong.0 wrong.1 (subst BeginsListing (behind-append header before (line ∷ [])) begins)

        end_stops : (before : List (List ℕ)) (runs : List Sched) (left : List (List ℕ)) → AreRuns before runs → left ≢ [] → Stops (front (before ++ codes "end" ∷ [])) left
        end_stops before runs [] are some = absurd (some refl)
        end_stops before runs (line ∷ left) are some = λ begins.
            no_more header before runs line are
            (subst BeginsListing (behind-append header (before ++ codes "end" ∷ []) (line ∷ []) ∙ ap front (append_assoc before (codes "end" ∷ []) (line ∷ []))) begins)

        count : (before : List (List ℕ)) (runs : List Sched) (m : ℕ) → AreRuns before runs → m ≡ length runs + (n + 3) → m ≡ length (front before) + 1
        count before runs m are at = omega (arith, s.counted, length-append s.skipped (head_line ∷ w.line ∷ b.line ∷ before), length-AreRuns before runs are)

        left_at : {runs : List Sched} {left : List (List ℕ)} (reads : ReadsRuns workers last runs left) → lines text ≡ front reads.before ++ left
        left_at {left = left} reads = whole ∙ ap front reads.whole ∙ sym (behind-append header reads.before left)

        pub refused : (e : ScriptErr) → FailsAt workers (n + 3) last e → (e ≡ NoMemory) ⊎ IsRefused text e
        refused e (no_run {n = m} runs left reads wrong at) = inr (bad_line text (front reads.before) m
            (count reads.before runs m reads.each at) left (left_at reads)
            (begins_script header reads.before runs reads.each reads.entries)
            (run_stops reads.before runs left reads.each wrong))
        refused e (behind_end {n = m} runs left reads some at) =
            let last_lines = reads.before ++ codes "end" ∷ [] in
            let counted = length-append reads.before (codes "end" ∷ []) in
            let here : m ≡ length (front last_lines) + 1 = omega (arith, s.counted, length-append s.skipped (head_line ∷ w.line ∷ b.line ∷ last_lines), length-AreRuns reads.before runs reads.each) in
            inr (bad_line text (front last_lines) m here left
            (whole ∙ ap front (reads.whole ∙ sym (append_assoc reads.before (codes "end" ∷ []) left)) ∙ sym (behind-append header last_lines left))
            (ends_script header reads.before runs reads.each reads.entries)
            (end_stops reads.before runs left reads.each some))
        refused e (no_worker {n = m} runs line left reads flaw at) =
            let before = reads.before in
            let begins_same = sym (behind-append header before (line ∷ [])) in
            inr (bad_worker text (front before) m
            (count before runs m reads.each at) line left (left_at reads)
            (begins_script header before runs reads.each reads.entries)
            (subst BeginsListing begins_same (has_form header (before ++ line ∷ []) (runs ++ flaw.0 ∷ []) (AreRuns-push before runs line flaw.0 reads.each flaw.1)))
            (λ begins. no_script header before runs line flaw.0 reads.each flaw.1 flaw.2 (subst BeginsScript (behind-append header before (line ∷ [])) begins)))
        refused e no_memory = inl refl

        pub is_script : (runs : List Sched) → ReadsRuns workers last runs (codes "end" ∷ []) → IsScript text (record { workers = workers; budget = budget; runs = runs })
        is_script runs reads = record {
          listing = listing_of header (lines text) reads.before runs reads.each (whole ∙ ap front reads.whole);
          workers = reads.entries;
        }
