-- What single lines say, from their words; and run lines one by one.
use Rattle.std.proofs.Common.{◌≡◌, ◌≢◌, ℕ, suc, ◌+◌, ◌≤◌, List, [], ◌∷◌, ◌++◌, length, codes, refl, sym, ap, ◌∙◌, subst, append_assoc, Option, Some, length-append, arith}
use denote.Ref.{Bor}
use Rattle.std.proofs.lemmas.List.Elements.{All-nil, All-push}
use Rattle.std.specs.Prelude.{Result, Ok, Err, is_ok, is_err, if◌then◌else◌, false}
use Rattle.aos_base.specs.declared.kernel.Sched.{Sched}
use Rattle.aos_base.specs.declared.kernel.Sched.TheVariants.{Steps, Tick}
use Rattle.aos_base.specs.Schedule.{IsEntry}
use Rattle.aos_script.specs.declared.line.Flaw.{Flaw}
use Rattle.aos_script.specs.declared.line.Flaw.TheVariants.{Form, Worker}
use Rattle.aos_script.specs.Words.{words, parts, lines_left}
use Rattle.aos_script.specs.Number.{IsNumber}
use Rattle.aos_script.specs.Listing.{head_line, AreSkipped, IsRun, AreRuns}
use Rattle.aos_script.specs.Rest.{Skips, LacksWorker, HasFlaw, ReadsRuns}

number_at : {v w : List ℕ} {n : ℕ} → v ≡ w → IsNumber v n → IsNumber w n
number_at {n = n} same number = subst (λ x. IsNumber x n) same number

module _ (line worker : List ℕ) (workers : ℕ) where
  steps_no_worker : (steps : List ℕ) → words line ≡ codes "s" ∷ worker ∷ steps ∷ [] → ((n : ℕ) → IsNumber worker n → ⊥) → (r : Sched) → IsRun line r → ⊥
  steps_no_worker steps is no_number (Steps w k) run = let same : run.worker ≡ worker = let x = run.is in cc in no_number w (number_at same run.of)
  steps_no_worker steps is no_number (Tick w) run = let x = run.is in cc

  pub steps_flaw : (steps : List ℕ) (k : ℕ) → words line ≡ codes "s" ∷ worker ∷ steps ∷ [] → IsNumber steps k → 1 ≤ k → k ≤ 1000000000 → (e : Flaw) → LacksWorker workers worker e → HasFlaw workers line e
  steps_flaw steps k is number low high Form lacks = steps_no_worker steps is lacks
  steps_flaw steps k is number low high Worker lacks =
      (Steps lacks.0 k, record { worker = worker; steps = steps; is = is; of = lacks.1; number = number; low = low; high = high }, λ entry. let x = entry.0 in let y = lacks.2 in omega arith)

  tick_no_worker : words line ≡ codes "t" ∷ worker ∷ [] → ((n : ℕ) → IsNumber worker n → ⊥) → (r : Sched) → IsRun line r → ⊥
  tick_no_worker is no_number (Steps w k) run = let x = run.is in cc
  tick_no_worker is no_number (Tick w) run = let same : run.worker ≡ worker = let x = run.is in cc in no_number w (number_at same run.of)

  pub tick_flaw : words line ≡ codes "t" ∷ worker ∷ [] → (e : Flaw) → LacksWorker workers worker e → HasFlaw workers line e
  tick_flaw is Form lacks = tick_no_worker is lacks
  tick_flaw is Worker lacks = (Tick lacks.0, record { worker = worker; is = is; of = lacks.1 }, λ entry. let y = lacks.2 in omega arith)

AreSkipped-push : (ls : List (List ℕ)) (line : List ℕ) → AreSkipped ls → line ≢ head_line → AreSkipped (ls ++ line ∷ [])
AreSkipped-push [] line others other = (other, tt)
AreSkipped-push (l ∷ ls) line others other = (others.0, AreSkipped-push ls line others.1 other)

pub skips_none : (ls : List (List ℕ)) → Skips ls 1 ls
skips_none ls = record { skipped = []; whole = refl; others = tt; counted = refl }

pub skips_more : (ls : List (List ℕ)) (n : ℕ) (left : List (List ℕ)) (line : List ℕ) (more : List (List ℕ)) → Skips ls n left → left ≡ line ∷ more → line ≢ head_line → Skips ls (n + 1) more
skips_more ls n left line more s is other = record {
  skipped = s.skipped ++ line ∷ [];
  whole = s.whole ∙ ap (λ l. s.skipped ++ l) is ∙ sym (append_assoc s.skipped (line ∷ []) more);
  others = AreSkipped-push s.skipped line s.others other;
  counted = omega (arith, length-append s.skipped (line ∷ []));
}

pub skips_at : {ls : List (List ℕ)} {n : ℕ} {left next : List (List ℕ)} → Skips ls n left → left ≡ next → Skips ls n next
skips_at {ls = ls} {n = n} skips same = subst (Skips ls n) same skips

pub AreRuns-push : (ls : List (List ℕ)) (runs : List Sched) (line : List ℕ) (r : Sched) → AreRuns ls runs → IsRun line r → AreRuns (ls ++ line ∷ []) (runs ++ r ∷ [])
AreRuns-push [] [] line r are run = (run, tt)
AreRuns-push [] (q ∷ runs) line r are run = absurd are
AreRuns-push (l ∷ ls) [] line r are run = absurd are
AreRuns-push (l ∷ ls) (q ∷ runs) line r are run = (are.0, AreRuns-push ls runs line r are.1 run)

pub length-AreRuns : (ls : List (List ℕ)) (runs : List Sched) → AreRuns ls runs → length ls ≡ length runs
length-AreRuns [] [] are = refl
length-AreRuns [] (q ∷ runs) are = absurd are
length-AreRuns (l ∷ ls) [] are = absurd are
length-AreRuns (l ∷ ls) (q ∷ runs) are = ap suc (length-AreRuns ls runs are.1)

pub reads_none : (workers : ℕ) (ls : List (List ℕ)) → ReadsRuns workers ls [] ls
reads_none workers ls = record { before = []; whole = refl; each = tt; entries = All-nil (IsEntry workers) }

pub reads_more : (workers : ℕ) (ls : List (List ℕ)) (runs : List Sched) (left : List (List ℕ)) (line : List ℕ) (more : List (List ℕ)) (r : Sched) → ReadsRuns workers ls runs left → left ≡ line ∷ more → IsRun line r → IsEntry workers r → ReadsRuns workers ls (runs ++ r ∷ []) more
reads_more workers ls runs left line more r reads is run entry = record {
  before = reads.before ++ line ∷ [];
  whole = reads.whole ∙ ap (λ l. reads.before ++ l) is ∙ sym (append_assoc reads.before (line ∷ []) more);
  each = AreRuns-push reads.before runs line r reads.each run;
  entries = All-push (IsEntry workers) runs r reads.entries entry;
}

-- the lines that are left, the first by itself
pub left_is : {line : List ℕ} {more : List (List ℕ)} (left : Option (Bor (List ℕ))) (text : Bor (List ℕ)) → left ≡ Some text → parts 10 text.now ≡ line ∷ more → lines_left left ≡ line ∷ more
left_is left text is cut = ap lines_left is ∙ cut

pub reads_at : {workers : ℕ} {ls : List (List ℕ)} {runs : List Sched} {left next : List (List ℕ)} → ReadsRuns workers ls runs left → left ≡ next → ReadsRuns workers ls runs next
reads_at {workers = workers} {ls = ls} {runs = runs} reads same = subst (ReadsRuns workers ls runs) same reads

pub pushed : {A E X : Type 0} (r : Result A E) (old more new : X) → false ≡ is_err r → new ≡ if◌then◌else◌ (is_ok r) more old → new ≡ more
pushed (Ok x) old more new no_error is = is
pushed (Err e) old more new no_error is = absurd cc
