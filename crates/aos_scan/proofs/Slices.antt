-- Parts of a text from one place to another.
use Rattle.std.proofs.Common.{◌≡◌, ◌≢◌, ℕ, suc, ◌+◌, ◌-◌, ◌<◌, ◌≤◌, Bool, true, false, List, [], ◌∷◌, length, get_or, take, drop, sym, ap, ◌∙◌, ⊎_elim, arith, length-take, length-drop, get_or-take, get_or-drop}
use Rattle.std.specs.Prelude.{slice_range}
use Rattle.std.specs.List.{list_all}
use Rattle.std.proofs.lemmas.Bool.{true≢false, cases_lt, and_left, and_right, and_from, ne_eqb, eq-eqb}
use Rattle.std.proofs.lemmas.List.{drop_more, take-take}
use Rattle.std.proofs.lemmas.List.Sums.{list_all-from_AllPass}
use Rattle.std.proofs.lemmas.List.Elements.{All-from_get_or}
use Rattle.std.proofs.lemmas.List.Folds.{list_all_at}
use Rattle.aos_scan.specs.declared.run.Class.{Class}
use Rattle.aos_scan.specs.Bytes.{is_in}
use Rattle.aos_scan.specs.Run.{IsRun}
use Rattle.aos_scan.specs.Spelling.{front, last, is_run_then}

module _ (text : List ℕ) where
  -- a part begins with the byte at its place
  pub slice_range-first : (i j : ℕ) → i < j → j ≤ length text → slice_range text i j ≡ get_or text i 0 ∷ slice_range text (i + 1) j
  slice_range-first i j some within =
      let in_range : i < length text = omega arith in
      let n : j - i ≡ suc (j - (i + 1)) = omega arith in
      ap (λ rest. take (j - i) rest) (drop_more text i 0 in_range) ∙ ap (λ k. take k (get_or text i 0 ∷ drop (i + 1) text)) n

  pub slice_range-none : (i j : ℕ) → j ≤ i → slice_range text i j ≡ []
  slice_range-none i j none = let n : j - i ≡ 0 = omega arith in ap (λ k. take k (drop i text)) n

  pub length-slice_range : (i j : ℕ) → i ≤ j → j ≤ length text → length (slice_range text i j) ≡ j - i
  length-slice_range i j ordered within = simp (length-take, length-drop) (omega arith)

  get_or-slice_range : (i j k : ℕ) → i ≤ k → k < j → get_or (slice_range text i j) (k - i) 0 ≡ get_or text k 0
  get_or-slice_range i j k low high =
      let in_range : k - i < j - i = omega arith in
      let place : i + (k - i) ≡ k = omega arith in
      get_or-take (j - i) (drop i text) (k - i) 0 in_range ∙ get_or-drop i text (k - i) 0 ∙ ap (λ n. get_or text n 0) place

  pub last-slice_range : (i j : ℕ) → i < j → j ≤ length text → last (slice_range text i j) ≡ get_or text (j - 1) 0
  last-slice_range i j some within =
      let long = length-slice_range i j (omega arith) within in
      let place : length (slice_range text i j) - 1 ≡ (j - 1) - i = omega arith in
      ap (λ n. get_or (slice_range text i j) n 0) place ∙ get_or-slice_range i j (j - 1) (omega arith) (omega arith)

  pub front-slice_range : (i j : ℕ) → i < j → j ≤ length text → front (slice_range text i j) ≡ slice_range text i (j - 1)
  front-slice_range i j some within =
      let long = length-slice_range i j (omega arith) within in
      let n : length (slice_range text i j) - 1 ≡ (j - 1) - i = omega arith in
      ap (λ k. take k (slice_range text i j)) n ∙ take-take ((j - 1) - i) (j - i) (drop i text) (omega arith)

  -- each byte of a part passes
  pub list_all-slice_range : (p : ℕ → Bool) (i j : ℕ) → i ≤ j → j ≤ length text → ((k : ℕ) → i ≤ k → k < j → p (get_or text k 0) ≡ true) → list_all p (slice_range text i j) ≡ true
  list_all-slice_range p i j ordered within each =
      let long = length-slice_range i j ordered within in
      list_all-from_AllPass p (slice_range text i j) (All-from_get_or (λ b. p b ≡ true) (slice_range text i j) 0 (λ n in_range.
      let low : i ≤ i + n = omega arith in
      let high : i + n < j = omega arith in
      let place : (i + n) - i ≡ n = omega arith in
      ap p (ap (λ m. get_or (slice_range text i j) m 0) (sym place) ∙ get_or-slice_range i j (i + n) low high) ∙ each (i + n) low high))

  -- a byte of a part doesn't pass
  pub not_all-slice_range : (p : ℕ → Bool) (i j k : ℕ) → i ≤ k → k < j → j ≤ length text → p (get_or text k 0) ≡ false → list_all p (slice_range text i j) ≡ false
  not_all-slice_range p i j k low high within fails =
      let long = length-slice_range i j (omega arith) within in
      list_all_at p (slice_range text i j) (k - i) 0 (omega arith) (ap p (get_or-slice_range i j k low high) ∙ fails)

  -- a run is not empty if its first byte is of the class
  pub run_some : (class : Class) (from to : ℕ) → IsRun class text from to → from < length text → is_in class (get_or text from 0) ≡ true → from < to
  run_some class from to run within first =
      ⊎_elim (λ some. some)
      (λ none. let same : to ≡ from = omega (arith, run.ordered) in
      absurd (true≢false (sym first ∙ ap (λ i. is_in class (get_or text i 0)) (sym same) ∙ run.stops (omega arith))))
      (cases_lt from to)

  pub all_of_run : (class : Class) (from to : ℕ) → IsRun class text from to → list_all (is_in class) (slice_range text from to) ≡ true
  all_of_run class from to run = list_all-slice_range (is_in class) from to run.ordered run.within run.each

  pub not_past_run : (class : Class) (from to end : ℕ) → IsRun class text from to → to < end → end ≤ length text → list_all (is_in class) (slice_range text from end) ≡ false
  not_past_run class from to end run past within =
      not_all-slice_range (is_in class) from end to run.ordered past within (run.stops (omega arith))

  -- a run and the byte after it
  pub run_then : (class : Class) (b from to : ℕ) → IsRun class text from to → to < length text → get_or text to 0 ≡ b → is_run_then (is_in class) b (slice_range text from (to + 1)) ≡ true
  run_then class b from to run within is =
      let ordered = run.ordered in
      let some : from < to + 1 = omega arith in
      let back : to + 1 - 1 ≡ to = omega arith in
      and_from _ _
      (ap (list_all (is_in class)) (front-slice_range from (to + 1) some (omega arith) ∙ ap (slice_range text from) back) ∙ all_of_run class from to run)
      (eq-eqb _ b (last-slice_range from (to + 1) some (omega arith) ∙ ap (λ i. get_or text i 0) back ∙ is))

  pub not_run_then_past : (class : Class) (b from to end : ℕ) → IsRun class text from to → to + 1 < end → end ≤ length text → is_run_then (is_in class) b (slice_range text from end) ≡ false
  not_run_then_past class b from to end run past within =
      let ordered = run.ordered in
      and_left _ _ (ap (list_all (is_in class)) (front-slice_range from end (omega arith) within) ∙ not_past_run class from to (end - 1) run (omega arith) (omega arith))

  -- a run that another byte ends
  pub not_run_then : (class : Class) (b from to end : ℕ) → IsRun class text from to → (to < length text → get_or text to 0 ≢ b) → is_in class b ≡ false → from < end → end ≤ length text → is_run_then (is_in class) b (slice_range text from end) ≡ false
  not_run_then class b from to end run ends not_in some within =
      ⊎_elim
      (λ inside. and_right _ _ (ne_eqb _ b (λ is. true≢false (sym (run.each (end - 1) (omega arith) (omega arith)) ∙ ap (is_in class) (sym (last-slice_range from end some within) ∙ is) ∙ not_in))))
      (λ outside. ⊎_elim
      (λ past. not_run_then_past class b from to end run past within)
      (λ at_end. let same : end - 1 ≡ to = omega (arith, run.ordered) in
      and_right _ _ (ne_eqb _ b (λ is. ends (omega arith) (ap (λ i. get_or text i 0) (sym same) ∙ sym (last-slice_range from end some within) ∙ is))))
      (cases_lt (to + 1) end))
      (cases_lt (end - 1) to)
