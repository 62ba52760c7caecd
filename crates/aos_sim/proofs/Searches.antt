-- The search in the labels of a CASE finds the first arm that has the selector's value: labels that are apart are in one order only, and
-- what is below a value has none of what isn't.
use Rattle.std.proofs.Common.{◌≡◌, ℕ, zero, suc, ℤ, ◌+◌, ◌/◌, ◌<◌, ◌≤◌, ◌≤ℤ◌, ◌<ℤ◌, int_le, int_lt, Bool, true, false, ◌||◌, List, [], ◌∷◌, ◌++◌, length, take, drop, if◌then◌else◌, refl, sym, ap, ◌∙◌, arith, length-drop, length-take-le}
use Rattle.std.specs.List.{list_any}
use Rattle.std.proofs.lemmas.Bool.{and_from, and_parts, or_parts, false_from_ne_true}
use Rattle.std.proofs.lemmas.Int.{ints}
use Rattle.std.specs.Ordering.{int_eq}
use Rattle.std.proofs.lemmas.Bool.Decides.{Decides-int_eq, same_from_decides}
use Rattle.aos_typed.specs.declared.tree.LabelRange.{LabelRange}
use Rattle.aos_typed.specs.declared.tree.LabelRow.{LabelRow}
use Rattle.aos_typed.specs.Meaning.{is_in}
use Rattle.aos_typed.specs.Program.{Cases, NoElse, Else, OfLabels}
use Rattle.aos_typed.specs.WellTyped.{meets, AreApart, labels_of}
use Rattle.aos_sim.specs.Search.{rows_to, rows_from, arms_in, put_row, in_order, lowest, halved, search_of, found}
use Rattle.aos_sim.proofs.Results.{is_least}

-- Values and labels.

within : (z : ℤ) (r : LabelRange) → is_in z r ≡ true → (r.low ≤ℤ z) × (z ≤ℤ r.high)
within z r e = let p = and_parts (int_le r.low z) (int_le z r.high) e in (omega (arith, ints, p.0), omega (arith, ints, p.1))

-- a value is in a label that has one value where it is that one
pub only : (z : ℤ) (r : LabelRange) → int_eq r.low r.high ≡ true → int_eq z r.low ≡ is_in z r
only z r one =
    let same : r.low ≡ r.high = (Decides-int_eq r.low r.high).0 one in
    same_from_decides (int_eq z r.low) (is_in z r) (Decides-int_eq z r.low) (
      (λ e. let p = within z r e in omega (arith, ints, p.0, p.1, same)),
      (λ e. and_from _ _ (is_least r.low z (omega (arith, ints, e))) (is_least z r.high (omega (arith, ints, e, same)))),
    )

meeting : (r s : LabelRange) → r.low ≤ℤ s.high → s.low ≤ℤ r.high → r.low ≤ℤ r.high → s.low ≤ℤ s.high → meets r s ≡ false → ⊥
meeting r s a b c d e = cc (e, and_from _ _ (and_from _ _ (is_least r.low s.high a) (is_least s.low r.high b)) (and_from _ _ (is_least r.low r.high c) (is_least s.low s.high d)))

-- labels that don't meet have no value together
never_both : (z : ℤ) (r s : LabelRange) → meets r s ≡ false → is_in z r ≡ true → is_in z s ≡ true → ⊥
never_both z r s e a b =
    let p = within z r a in
    let q = within z s b in
    meeting r s (omega (arith, ints, p.0, q.1)) (omega (arith, ints, q.0, p.1)) (omega (arith, ints, p.0, p.1)) (omega (arith, ints, q.0, q.1)) e

-- Rows of labels.

-- the arm of the first row that has the value, and another where none has it
abbrev arm_in : ℤ → (other : ℕ) → List LabelRow → ℕ
arm_in z other [] = other
arm_in z other (r ∷ rows) = if is_in z r.labels then r.arm else arm_in z other rows

-- all begin behind a value
abbrev Above : ℤ → List LabelRow → Type 0
Above h [] = Unit {0}
Above h (r ∷ rows) = (h <ℤ r.labels.low) × Above h rows

-- each has a value, and the others begin behind it
abbrev Rise : List LabelRow → Type 0
Rise [] = Unit {0}
Rise (r ∷ rows) = (r.labels.low ≤ℤ r.labels.high) × Above r.labels.high rows × Rise rows

-- none meets these labels
abbrev Misses : LabelRange → List LabelRow → Type 0
Misses q [] = Unit {0}
Misses q (r ∷ rows) = (meets q r.labels ≡ false) × Misses q rows

-- each has a value, and no others have it
abbrev Apart : List LabelRow → Type 0
Apart [] = Unit {0}
Apart (r ∷ rows) = (r.labels.low ≤ℤ r.labels.high) × Misses r.labels rows × Apart rows

-- The rows of a CASE are apart, as its labels are.

missed_to : (q : LabelRange) (n : ℕ) (rs ls : List LabelRange) (rows : List LabelRow) → list_any (meets q) (rs ++ ls) ≡ false → (list_any (meets q) ls ≡ false → Misses q rows) → Misses q (rows_to n rs ++ rows)
missed_to q n [] ls rows e f = f e
missed_to q n (r ∷ rs) ls rows e f =
    let p = or_parts (meets q r) (list_any (meets q) (rs ++ ls)) e in by (int_le r.low r.high) p.0 (missed_to q n rs ls rows p.1 f)
  where
    by : (b : Bool) → meets q r ≡ false → Misses q (rows_to n rs ++ rows) → Misses q ((if b then record { labels = r; arm = n } ∷ rows_to n rs else rows_to n rs) ++ rows)
    by true e ih = (e, ih)
    by false e ih = ih

missed_from : (q : LabelRange) (n : ℕ) (cases : Cases) → list_any (meets q) (labels_of cases) ≡ false → Misses q (rows_from n cases)
missed_from q n NoElse e = tt
missed_from q n (Else ss) e = tt
missed_from q n (OfLabels rs ss cases) e = missed_to q n rs (labels_of cases) (rows_from (suc n) cases) e (missed_from q (suc n) cases)

apart_to : (n : ℕ) (rs ls : List LabelRange) (rows : List LabelRow) → AreApart (rs ++ ls) → ((q : LabelRange) → list_any (meets q) ls ≡ false → Misses q rows) → (AreApart ls → Apart rows) → Apart (rows_to n rs ++ rows)
apart_to n [] ls rows h f g = g h
apart_to n (r ∷ rs) ls rows h f g = by (int_le r.low r.high) refl (apart_to n rs ls rows h.1 f g)
  where
    by : (b : Bool) → int_le r.low r.high ≡ b → Apart (rows_to n rs ++ rows) → Apart ((if b then record { labels = r; arm = n } ∷ rows_to n rs else rows_to n rs) ++ rows)
    by true e ih = (omega (arith, ints, e), missed_to r n rs ls rows h.0 (f r), ih)
    by false e ih = ih

apart_from : (n : ℕ) (cases : Cases) → AreApart (labels_of cases) → Apart (rows_from n cases)
apart_from n NoElse h = tt
apart_from n (Else ss) h = tt
apart_from n (OfLabels rs ss cases) h =
    apart_to n rs (labels_of cases) (rows_from (suc n) cases) h (λ q. missed_from q (suc n) cases) (apart_from (suc n) cases)

-- Rows that are apart rise in the order of their first labels.

missed_put : (q : LabelRange) (r : LabelRow) (rows : List LabelRow) → meets q r.labels ≡ false → Misses q rows → Misses q (put_row r rows)
missed_put q r [] e h = (e, tt)
missed_put q r (s ∷ rows) e h = by (int_le r.labels.low s.labels.low) (missed_put q r rows e h.1)
  where
    by : (b : Bool) → Misses q (put_row r rows) → Misses q (if b then r ∷ s ∷ rows else s ∷ put_row r rows)
    by true ih = (e, h)
    by false ih = (h.0, ih)

missed_in_order : (q : LabelRange) (rows : List LabelRow) → Misses q rows → Misses q (in_order rows)
missed_in_order q [] h = tt
missed_in_order q (r ∷ rows) h = missed_put q r (in_order rows) h.0 (missed_in_order q rows h.1)

above_more : (a b : ℤ) (rows : List LabelRow) → a ≤ℤ b → Above b rows → Above a rows
above_more a b [] le h = tt
above_more a b (r ∷ rows) le h = (omega (arith, ints, le, h.0), above_more a b rows le h.1)

above_put : (a : ℤ) (r : LabelRow) (rows : List LabelRow) → a <ℤ r.labels.low → Above a rows → Above a (put_row r rows)
above_put a r [] lt h = (lt, tt)
above_put a r (s ∷ rows) lt h = by (int_le r.labels.low s.labels.low) (above_put a r rows lt h.1)
  where
    by : (b : Bool) → Above a (put_row r rows) → Above a (if b then r ∷ s ∷ rows else s ∷ put_row r rows)
    by true ih = (lt, h)
    by false ih = (h.0, ih)

rise_put : (r : LabelRow) (rows : List LabelRow) → r.labels.low ≤ℤ r.labels.high → Misses r.labels rows → Rise rows → Rise (put_row r rows)
rise_put r [] some m h = (some, tt, tt)
rise_put r (s ∷ rows) some m h = by (int_le r.labels.low s.labels.low) refl (rise_put r rows some m.1 h.2)
  where
    behind : r.labels.low ≤ℤ s.labels.low → r.labels.high <ℤ s.labels.low
    behind le = by (int_le s.labels.low r.labels.high) refl
      where
        by : (b : Bool) → int_le s.labels.low r.labels.high ≡ b → r.labels.high <ℤ s.labels.low
        by true e = absurd (meeting r.labels s.labels (omega (arith, ints, le, h.0)) (omega (arith, ints, e)) some h.0 m.0)
        by false e = omega (arith, ints, e)

    before : s.labels.low ≤ℤ r.labels.low → s.labels.high <ℤ r.labels.low
    before le = by (int_le r.labels.low s.labels.high) refl
      where
        by : (b : Bool) → int_le r.labels.low s.labels.high ≡ b → s.labels.high <ℤ r.labels.low
        by true e = absurd (meeting r.labels s.labels (omega (arith, ints, e)) (omega (arith, ints, le, some)) some h.0 m.0)
        by false e = omega (arith, ints, e)

    by : (b : Bool) → int_le r.labels.low s.labels.low ≡ b → Rise (put_row r rows) → Rise (if b then r ∷ s ∷ rows else s ∷ put_row r rows)
    by true e ih =
        let lt = behind (omega (arith, ints, e)) in
        (some, (lt, above_more r.labels.high s.labels.high rows (omega (arith, ints, lt, h.0)) h.1), h)
    by false e ih = (h.0, above_put s.labels.high r rows (before (omega (arith, ints, e))) h.1, ih)

rise_in_order : (rows : List LabelRow) → Apart rows → Rise (in_order rows)
rise_in_order [] h = tt
rise_in_order (r ∷ rows) h = rise_put r (in_order rows) h.0 (missed_in_order r.labels rows h.1) (rise_in_order rows h.2)

rise_take : (k : ℕ) (rows : List LabelRow) → Rise rows → Rise (take k rows)
rise_take zero rows h = tt
rise_take (suc k) [] h = tt
rise_take (suc k) (r ∷ rows) h = (h.0, above_take k rows h.1, rise_take k rows h.2)
  where
    above_take : (k : ℕ) (rows : List LabelRow) → Above r.labels.high rows → Above r.labels.high (take k rows)
    above_take zero rows h = tt
    above_take (suc k) [] h = tt
    above_take (suc k) (s ∷ rows) h = (h.0, above_take k rows h.1)

rise_drop : (k : ℕ) (rows : List LabelRow) → Rise rows → Rise (drop k rows)
rise_drop zero rows h = h
rise_drop (suc k) [] h = tt
rise_drop (suc k) (r ∷ rows) h = rise_drop k rows h.2

above_lowest : (k : ℕ) (rows : List LabelRow) (a l : ℤ) → k < length rows → Above a rows → a <ℤ lowest (drop k rows) l
above_lowest k [] a l lt h = absurd (omega (arith, lt))
above_lowest zero (r ∷ rows) a l lt h = h.0
above_lowest (suc k) (r ∷ rows) a l lt h = above_lowest k rows a l (omega (arith, lt)) h.1

-- What has a value.

module _ (z : ℤ) (other : ℕ) where
  -- what is in order has what it had
  arm_put : (r : LabelRow) (rows : List LabelRow) → Misses r.labels rows → arm_in z other (put_row r rows) ≡ (if is_in z r.labels then r.arm else arm_in z other rows)
  arm_put r [] h = refl
  arm_put r (s ∷ rows) h = by (int_le r.labels.low s.labels.low) (arm_put r rows h.1)
    where
      swap : (b c : Bool) (m n k : ℕ) → (b ≡ true → c ≡ true → ⊥) → (if c then m else (if b then n else k)) ≡ (if b then n else (if c then m else k))
      swap true true m n k never = absurd (never refl refl)
      swap true false m n k never = refl
      swap false c m n k never = refl

      by : (b : Bool) → arm_in z other (put_row r rows) ≡ (if is_in z r.labels then r.arm else arm_in z other rows) → arm_in z other (if b then r ∷ s ∷ rows else s ∷ put_row r rows) ≡ (if is_in z r.labels then r.arm else arm_in z other (s ∷ rows))
      by true ih = refl
      by false ih =
          ap (λ n. if is_in z s.labels then s.arm else n) ih
          ∙ swap (is_in z r.labels) (is_in z s.labels) s.arm r.arm (arm_in z other rows) (never_both z r.labels s.labels h.0)

  arm_in_order : (rows : List LabelRow) → Apart rows → arm_in z other (in_order rows) ≡ arm_in z other rows
  arm_in_order [] h = refl
  arm_in_order (r ∷ rows) h =
      arm_put r (in_order rows) (missed_in_order r.labels rows h.1)
      ∙ ap (λ n. if is_in z r.labels then r.arm else n) (arm_in_order rows h.2)

  none_above : (rows : List LabelRow) → Above z rows → arm_in z other rows ≡ other
  none_above [] h = refl
  none_above (r ∷ rows) h =
      let e : is_in z r.labels ≡ false = false_from_ne_true _ (λ t. let p = within z r.labels t in omega (arith, ints, p.0, h.0)) in
      ap (λ b. if b then r.arm else arm_in z other rows) e ∙ none_above rows h.1

  -- a value below the first label of the second part is in the first part or nowhere
  in_parts : (k : ℕ) (rows : List LabelRow) (l : ℤ) → k < length rows → Rise rows → (if int_lt z (lowest (drop k rows) l) then arm_in z other (take k rows) else arm_in z other (drop k rows)) ≡ arm_in z other rows
  in_parts k [] l lt h = absurd (omega (arith, lt))
  in_parts zero (r ∷ rows) l lt h = by (int_lt z r.labels.low) refl
    where
      by : (b : Bool) → int_lt z r.labels.low ≡ b → (if b then other else arm_in z other (r ∷ rows)) ≡ arm_in z other (r ∷ rows)
      by true e = let below : z <ℤ r.labels.low = omega (arith, ints, e) in sym (none_above (r ∷ rows) (below, above_more z r.labels.high rows (omega (arith, ints, below, h.0)) h.1))
      by false e = refl
  in_parts (suc k) (r ∷ rows) l lt h = by (int_lt z middle) (is_in z r.labels) refl refl (in_parts k rows l (omega (arith, lt)) h.2)
    where
      middle : ℤ
      middle = lowest (drop k rows) l

      by : (b c : Bool) → int_lt z middle ≡ b → is_in z r.labels ≡ c → (if b then arm_in z other (take k rows) else arm_in z other (drop k rows)) ≡ arm_in z other rows → (if b then (if c then r.arm else arm_in z other (take k rows)) else arm_in z other (drop k rows)) ≡ (if c then r.arm else arm_in z other rows)
      by true true e f ih = refl
      by true false e f ih = ih
      by false false e f ih = ih
      by false true e f ih = absurd (omega (arith, ints, e, (within z r.labels f).1, above_lowest k rows r.labels.high l (omega (arith, lt)) h.1))

  found_halved : (deep : ℕ) (rows : List LabelRow) → length rows ≤ deep → Rise rows → found z other (halved deep rows) ≡ arm_in z other rows
  found_halved deep [] le h = refl
  found_halved deep (r ∷ []) le h = refl
  found_halved zero (r ∷ s ∷ rows) le h = absurd (omega (arith, le))
  found_halved (suc deep) (r ∷ s ∷ rows) le h =
      let all = r ∷ s ∷ rows in
      let half = length all / 2 in
      let below = found_halved deep (take half all) (omega (arith, le, length-take-le half all)) (rise_take half all h) in
      let above = found_halved deep (drop half all) (omega (arith, le, length-drop half all)) (rise_drop half all h) in
      ap (λ n. if int_lt z (lowest (drop half all) r.labels.low) then n else found z other (halved deep (drop half all))) below
      ∙ ap (λ n. if int_lt z (lowest (drop half all) r.labels.low) then arm_in z other (take half all) else n) above
      ∙ in_parts half all r.labels.low (omega arith) h

  -- the labels of an arm, before others
  arm_to : (n : ℕ) (rs : List LabelRange) (rows : List LabelRow) → arm_in z other (rows_to n rs ++ rows) ≡ (if list_any (is_in z) rs then n else arm_in z other rows)
  arm_to n [] rows = refl
  arm_to n (r ∷ rs) rows = by (int_le r.low r.high) refl (arm_to n rs rows)
    where
      first : (b c : Bool) (m k : ℕ) → m ≡ (if c then n else k) → (if b then n else m) ≡ (if b || c then n else k)
      first true c m k e = refl
      first false c m k e = e

      by : (b : Bool) → int_le r.low r.high ≡ b → arm_in z other (rows_to n rs ++ rows) ≡ (if list_any (is_in z) rs then n else arm_in z other rows) → arm_in z other ((if b then record { labels = r; arm = n } ∷ rows_to n rs else rows_to n rs) ++ rows) ≡ (if is_in z r || list_any (is_in z) rs then n else arm_in z other rows)
      by true e ih = first (is_in z r) (list_any (is_in z) rs) (arm_in z other (rows_to n rs ++ rows)) (arm_in z other rows) ih
      by false e ih =
          let none : is_in z r ≡ false = false_from_ne_true _ (λ t. let p = within z r t in omega (arith, ints, e, p.0, p.1)) in
          ih ∙ ap (λ b. if b || list_any (is_in z) rs then n else arm_in z other rows) (sym none)

-- the number of the first arm that has a value, or of the one behind them all
abbrev pub arm_of : ℤ → Cases → ℕ
arm_of z NoElse = 0
arm_of z (Else ss) = 0
arm_of z (OfLabels rs ss cases) = if list_any (is_in z) rs then 0 else suc (arm_of z cases)

arm_from : (z : ℤ) (other n : ℕ) (cases : Cases) → n + arms_in cases ≡ other → arm_in z other (rows_from n cases) ≡ n + arm_of z cases
arm_from z other n NoElse e = sym e
arm_from z other n (Else ss) e = sym e
arm_from z other n (OfLabels rs ss cases) e = arm_to z other n rs (rows_from (suc n) cases) ∙ by (list_any (is_in z) rs) (arm_from z other (suc n) cases (omega (arith, e)))
  where
    by : (b : Bool) → arm_in z other (rows_from (suc n) cases) ≡ suc n + arm_of z cases → (if b then n else arm_in z other (rows_from (suc n) cases)) ≡ n + (if b then 0 else suc (arm_of z cases))
    by true f = omega arith
    by false f = omega (arith, f)

-- the search in the labels of a CASE, which are apart
pub found_first : (z : ℤ) (cases : Cases) → AreApart (labels_of cases) → found z (arms_in cases) (search_of cases) ≡ arm_of z cases
found_first z cases h =
    let rows = rows_from 0 cases in
    let apart = apart_from 0 cases h in
    found_halved z (arms_in cases) (length (in_order rows)) (in_order rows) (omega arith) (rise_in_order rows apart)
    ∙ arm_in_order z (arms_in cases) rows apart
    ∙ arm_from z (arms_in cases) 0 cases (omega arith)
    ∙ omega arith
