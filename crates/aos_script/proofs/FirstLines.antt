-- Which lines begin a script, or lines of its form.
use Rattle.std.proofs.Common.{◌≡◌, ◌≢◌, All, ℕ, ◌+◌, ◌-◌, ◌≤◌, ◌⊎◌, inl, inr, ⊎_elim, List, [], ◌∷◌, ◌++◌, length, take, codes, refl, sym, ap, ◌∙◌, subst, append_assoc, append-nil, arith, rules}
use Rattle.std.proofs.Math.Seq.{take-append_seam, take-append-add}
use Rattle.std.proofs.lemmas.List.Elements.{All-nil, All-head, All-tail}
use Rattle.std.proofs.lemmas.List.{length-append}
use Rattle.aos_base.specs.declared.kernel.Sched.{Sched}
use Rattle.aos_base.specs.Schedule.{IsEntry}
use Rattle.aos_script.specs.declared.script.Script.{Script}
use Rattle.aos_script.specs.Words.{parts, lines}
use Rattle.aos_script.specs.Number.{IsNumber}
use Rattle.aos_script.specs.Listing.{head_line, AreSkipped, IsSetting, IsRun, AreRuns, IsListing}
use Rattle.aos_script.specs.Refusals.{BeginsListing, BeginsScript, IsBadLine, IsBadWorker}
use Rattle.aos_script.proofs.Sole.{setting_same, run_same, end_no_run, heads_same}

-- a line with run lines before it in the form of a script is the last, or a run line
pub next_line : (P : Sched → Type 0) (before : List (List ℕ)) (runs : List Sched) (line : List ℕ) (rest run_lines : List (List ℕ)) (others : List Sched) → AreRuns before runs → AreRuns run_lines others → All P others → before ++ line ∷ rest ≡ run_lines ++ codes "end" ∷ [] → ((line ≡ codes "end") × (rest ≡ [])) ⊎ ((r : Sched) × IsRun line r × P r)
next_line P [] runs line rest [] others a b all same = inl (cc, cc)
next_line P [] runs line rest (l ∷ ls) [] a b all same = absurd b
next_line P [] runs line rest (l ∷ ls) (r ∷ rs) a b all same =
    let e : l ≡ line = cc in inr (r, subst (λ x. IsRun x r) e b.0, All-head P r rs all)
next_line P (k ∷ before) [] line rest run_lines others a b all same = absurd a
next_line P (k ∷ before) (q ∷ runs) line rest [] others a b all same =
    let e : k ≡ codes "end" = cc in absurd (end_no_run q (subst (λ x. IsRun x q) e a.0))
next_line P (k ∷ before) (q ∷ runs) line rest (l ∷ ls) [] a b all same = absurd b
next_line P (k ∷ before) (q ∷ runs) line rest (l ∷ ls) (r ∷ rs) a b all same =
    let e : before ++ line ∷ rest ≡ ls ++ codes "end" ∷ [] = cc in next_line P before runs line rest ls rs a.1 b.1 (All-tail P r rs all) e

-- the last line isn't among run lines
end_not_last : (before : List (List ℕ)) (runs : List Sched) → AreRuns (before ++ codes "end" ∷ []) runs → ⊥
end_not_last [] [] a = a
end_not_last [] (r ∷ runs) a = end_no_run r a.0
end_not_last (l ∷ before) [] a = a
end_not_last (l ∷ before) (r ∷ runs) a = end_not_last before runs a.1

-- what is behind the first line of a script, in lines of its form
pub rest_same : (skipped rest ls : List (List ℕ)) (s : Script) → AreSkipped skipped → ls ≡ skipped ++ head_line ∷ rest → (l : IsListing ls s) → rest ≡ l.workers_line ∷ l.budget_line ∷ (l.run_lines ++ codes "end" ∷ [])
rest_same skipped rest ls s others is l =
    (heads_same skipped l.skipped rest (l.workers_line ∷ l.budget_line ∷ (l.run_lines ++ codes "end" ∷ [])) others l.others (sym is ∙ l.whole)).1

no_head : (a r : List (List ℕ)) → AreSkipped (a ++ head_line ∷ r) → ⊥
no_head [] r others = others.0 refl
no_head (l ∷ a) r others = no_head a r others.1

-- skipped lines lack the first one of a script
pub skipped_alone : (skipped : List (List ℕ)) → AreSkipped skipped → (s : Script) → IsListing skipped s → ⊥
skipped_alone skipped others s l =
    no_head l.skipped (l.workers_line ∷ l.budget_line ∷ (l.run_lines ++ codes "end" ∷ [])) (subst AreSkipped l.whole others)

-- the lines before the run lines
pub record Header : Type 0 where
  pub skipped : List (List ℕ)
  pub workers_line : List ℕ
  pub budget_line : List ℕ
  pub workers : ℕ
  pub budget : ℕ
  pub others : AreSkipped skipped
  pub of_workers : IsSetting (codes "workers") 16 workers_line workers
  pub of_budget : IsSetting (codes "budget") 1000000000 budget_line budget

-- behind them
module _ (h : Header) where
  abbrev pub behind : List (List ℕ) → List (List ℕ)
  behind ls = h.skipped ++ head_line ∷ h.workers_line ∷ h.budget_line ∷ ls

  abbrev pub script_with : List Sched → Script
  script_with runs = record { workers = h.workers; budget = h.budget; runs = runs }

  pub behind-append : (ls more : List (List ℕ)) → behind ls ++ more ≡ behind (ls ++ more)
  behind-append ls more = append_assoc h.skipped (head_line ∷ h.workers_line ∷ h.budget_line ∷ ls) more

  pub listing_of : (ls before : List (List ℕ)) (runs : List Sched) → AreRuns before runs → ls ≡ behind (before ++ codes "end" ∷ []) → IsListing ls (script_with runs)
  listing_of ls before runs are whole = record {
    skipped = h.skipped;
    workers_line = h.workers_line;
    budget_line = h.budget_line;
    run_lines = before;
    whole = whole;
    others = h.others;
    workers = h.of_workers;
    budget = h.of_budget;
    runs = are;
  }

  listing_more : (before : List (List ℕ)) (runs : List Sched) → AreRuns before runs → IsListing (behind before ++ codes "end" ∷ []) (script_with runs)
  listing_more before runs are = listing_of (behind before ++ codes "end" ∷ []) before runs are (behind-append before (codes "end" ∷ []))

  -- run lines go on with `end`
  pub has_form : (before : List (List ℕ)) (runs : List Sched) → AreRuns before runs → BeginsListing (behind before)
  has_form before runs are = record { script = script_with runs; more = codes "end" ∷ []; listing = listing_more before runs are }

  pub begins_script : (before : List (List ℕ)) (runs : List Sched) → AreRuns before runs → All (IsEntry h.workers) runs → BeginsScript (behind before)
  begins_script before runs are entries = record { script = script_with runs; more = codes "end" ∷ []; listing = listing_more before runs are; workers = entries }

  pub ends_script : (before : List (List ℕ)) (runs : List Sched) → AreRuns before runs → All (IsEntry h.workers) runs → BeginsScript (behind (before ++ codes "end" ∷ []))
  ends_script before runs are entries = record {
    script = script_with runs;
    more = [];
    listing = listing_of (behind (before ++ codes "end" ∷ []) ++ []) before runs are (append-nil (behind (before ++ codes "end" ∷ [])));
    workers = entries;
  }

  behind_same : (ls more : List (List ℕ)) (s : Script) (l : IsListing (behind ls ++ more) s) → h.workers_line ∷ h.budget_line ∷ (ls ++ more) ≡ l.workers_line ∷ l.budget_line ∷ (l.run_lines ++ codes "end" ∷ [])
  behind_same ls more s l = rest_same h.skipped (h.workers_line ∷ h.budget_line ∷ (ls ++ more)) (behind ls ++ more) s h.others (behind-append ls more) l

  rest_of : (before : List (List ℕ)) (line : List ℕ) (more : List (List ℕ)) (s : Script) (l : IsListing (behind (before ++ line ∷ []) ++ more) s) → before ++ line ∷ more ≡ l.run_lines ++ codes "end" ∷ []
  rest_of before line more s l =
      let x = behind_same (before ++ line ∷ []) more s l in
      let e : (before ++ line ∷ []) ++ more ≡ l.run_lines ++ codes "end" ∷ [] = cc in
      sym (append_assoc before (line ∷ []) more) ∙ e

  -- neither a run line nor the last
  pub no_listing : (before : List (List ℕ)) (runs : List Sched) (line : List ℕ) → AreRuns before runs → line ≢ codes "end" → ((r : Sched) → IsRun line r → ⊥) → BeginsListing (behind (before ++ line ∷ [])) → ⊥
  no_listing before runs line are no_end no_run begins =
      let l = begins.listing in
      ⊎_elim (λ last. no_end last.0) (λ run. no_run run.0 run.1)
      (next_line (λ _. Unit {0}) before runs line begins.more l.run_lines begins.script.runs are l.runs (λ k d in_range. tt) (rest_of before line begins.more begins.script l))

  -- behind the last line stands nothing
  pub no_more : (before : List (List ℕ)) (runs : List Sched) (line : List ℕ) → AreRuns before runs → BeginsListing (behind (before ++ codes "end" ∷ line ∷ [])) → ⊥
  no_more before runs line are begins =
      let l = begins.listing in
      let x = behind_same (before ++ codes "end" ∷ line ∷ []) begins.more begins.script l in
      let e : (before ++ codes "end" ∷ line ∷ []) ++ begins.more ≡ l.run_lines ++ codes "end" ∷ [] = cc in
      ⊎_elim (λ last. let y = last.1 in cc) (λ run. end_no_run run.0 run.1)
      (next_line (λ _. Unit {0}) before runs (codes "end") (line ∷ begins.more) l.run_lines begins.script.runs are l.runs (λ k d in_range. tt) (sym (append_assoc before (codes "end" ∷ line ∷ []) begins.more) ∙ e))

  -- a run line of a worker that there isn't
  pub no_script : (before : List (List ℕ)) (runs : List Sched) (line : List ℕ) (r : Sched) → AreRuns before runs → IsRun line r → (IsEntry h.workers r → ⊥) → BeginsScript (behind (before ++ line ∷ [])) → ⊥
  no_script before runs line r are run no_entry begins =
      let l = begins.listing in
      let x = behind_same (before ++ line ∷ []) begins.more begins.script l in
      let same_line : l.workers_line ≡ h.workers_line = cc in
      let same = setting_same (subst (λ k. IsSetting (codes "workers") 16 k begins.script.workers) same_line l.workers) h.of_workers in
      ⊎_elim
      (λ last. end_no_run r (subst (λ k. IsRun k r) last.0 run))
      (λ other. no_entry (subst (λ n. IsEntry n r) same (subst (λ s. IsEntry begins.script.workers s) (run_same line other.0 r other.1 run) other.2)))
      (next_line (IsEntry begins.script.workers) before runs line begins.more l.run_lines begins.script.runs are l.runs begins.workers (rest_of before line begins.more begins.script l))

  -- run lines alone lack the last one
  pub no_last : (before : List (List ℕ)) (runs : List Sched) → AreRuns before runs → (s : Script) → IsListing (behind before) s → ⊥
  no_last before runs are s l =
      let x = rest_same h.skipped (h.workers_line ∷ h.budget_line ∷ before) (behind before) s h.others refl l in
      let e : before ≡ l.run_lines ++ codes "end" ∷ [] = cc in
      end_not_last l.run_lines runs (subst (λ k. AreRuns k runs) e are)

one : IsNumber (codes "1") 1
one = record { digits = search rules; plain = λ h. refl; value = refl }

some_workers : IsSetting (codes "workers") 16 (codes "workers 1") 1
unfolding parts
some_workers = record { word = codes "1"; is = refl; number = one; low = omega arith; high = omega arith }

some_budget : IsSetting (codes "budget") 1000000000 (codes "budget 1") 1
unfolding parts
some_budget = record { word = codes "1"; is = refl; number = one; low = omega arith; high = omega arith }

-- skipped lines, with the first line of a script, and with the number of workers
module _ (skipped : List (List ℕ)) (others : AreSkipped skipped) where
  abbrev header : (line : List ℕ) (n : ℕ) → IsSetting (codes "workers") 16 line n → Header
  header line n setting = record {
    skipped = skipped;
    workers_line = line;
    budget_line = codes "budget 1";
    workers = n;
    budget = 1;
    others = others;
    of_workers = setting;
    of_budget = some_budget;
  }

  begins_with : (line : List ℕ) (n : ℕ) (setting : IsSetting (codes "workers") 16 line n) (ls more : List (List ℕ)) → ls ++ more ≡ skipped ++ head_line ∷ line ∷ codes "budget 1" ∷ codes "end" ∷ [] → BeginsScript ls
  begins_with line n setting ls more whole = record {
    script = record { workers = n; budget = 1; runs = [] };
    more = more;
    listing = listing_of (header line n setting) (ls ++ more) [] [] tt whole;
    workers = All-nil (IsEntry n);
  }

  pub begins_skipped : BeginsScript skipped
  begins_skipped = begins_with (codes "workers 1") 1 some_workers skipped (head_line ∷ codes "workers 1" ∷ codes "budget 1" ∷ codes "end" ∷ []) refl

  pub begins_head : BeginsScript (skipped ++ head_line ∷ [])
  begins_head =
      let more = codes "workers 1" ∷ codes "budget 1" ∷ codes "end" ∷ [] in
      begins_with (codes "workers 1") 1 some_workers (skipped ++ head_line ∷ []) more (append_assoc skipped (head_line ∷ []) more)

  pub begins_workers : (line : List ℕ) (n : ℕ) → IsSetting (codes "workers") 16 line n → BeginsScript (skipped ++ head_line ∷ line ∷ [])
  begins_workers line n setting =
      let more = codes "budget 1" ∷ codes "end" ∷ [] in
      begins_with line n setting (skipped ++ head_line ∷ line ∷ []) more (append_assoc skipped (head_line ∷ line ∷ []) more)

-- with the next line nothing of the form begins, or there is no next line
abbrev pub Stops : List (List ℕ) → List (List ℕ) → Type 0
Stops front [] = (s : Script) → IsListing front s → ⊥
Stops front (line ∷ left) = BeginsListing (front ++ line ∷ []) → ⊥

module _ (text : List ℕ) (front : List (List ℕ)) (n : ℕ) (at : n ≡ length front + 1) where
  before_take : (left : List (List ℕ)) → lines text ≡ front ++ left → take (n - 1) (lines text) ≡ front
  before_take left whole = let e : n - 1 ≡ length front = omega arith in rw (whole, e) (take-append_seam front left)

  with_take : (line : List ℕ) (left : List (List ℕ)) → lines text ≡ front ++ line ∷ left → take n (lines text) ≡ front ++ line ∷ []
  with_take line left whole = rw (whole, at) (take-append-add front (line ∷ left) 1)

  in_lines : (line : List ℕ) (left : List (List ℕ)) → lines text ≡ front ++ line ∷ left → n ≤ length (lines text)
  in_lines line left whole = omega (arith, ap length whole, length-append front (line ∷ left))

  pub bad_line : (left : List (List ℕ)) → lines text ≡ front ++ left → BeginsScript front → Stops front left → IsBadLine text n
  bad_line [] whole begins stops = record {
    counted = omega arith;
    before = subst BeginsScript (sym (before_take [] whole)) begins;
    bad = inr (omega (arith, ap length whole, ap length (append-nil front)), λ s l. stops s (subst (λ k. IsListing k s) (whole ∙ append-nil front) l));
  }
  bad_line (line ∷ left) whole begins stops = record {
    counted = omega arith;
    before = subst BeginsScript (sym (before_take (line ∷ left) whole)) begins;
    bad = inl (in_lines line left whole, λ b. stops (subst BeginsListing (with_take line left whole) b));
  }

  pub bad_worker : (line : List ℕ) (left : List (List ℕ)) → lines text ≡ front ++ line ∷ left → BeginsScript front → BeginsListing (front ++ line ∷ []) → (BeginsScript (front ++ line ∷ []) → ⊥) → IsBadWorker text n
  bad_worker line left whole begins form stops = record {
    counted = omega arith;
    within = in_lines line left whole;
    before = subst BeginsScript (sym (before_take (line ∷ left) whole)) begins;
    form = subst BeginsListing (sym (with_take line left whole)) form;
    bad = λ b. stops (subst BeginsScript (with_take line left whole) b);
  }
