-- Turns of a worker over one schedule behind another, and whose the entries are.
use Rattle.std.proofs.Common.{◌≡◌, ◌≢◌, ℕ, suc, ◌+◌, ◌<◌, List, [], ◌∷◌, ◌++◌, refl, sym, ap, ◌∙◌, arith, inl, inr}
use Rattle.std.specs.Prelude.{if◌then◌else◌, ◌==◌, Some, None}
use Rattle.std.proofs.lemmas.Bool.Decides.{eqb_tells}
use Rattle.aos_base.specs.Book.{on_worker}
use Rattle.aos_base.specs.Machine.{Choice, Step, Tick, Machine, State, happens, execution}
use Rattle.aos_concurrency.specs.Private.{of_worker, NoneOf}
use Rattle.aos_concurrency.proofs.Tables.{number, by_case}
use Rattle.aos_cell.specs.Total.{one_if, times}
use Rattle.aos_cell.specs.Bound.{turns_after, turns_by, turns_since}
use Rattle.aos_cell.specs.Rule.{AreOf, AreOthers}
use Rattle.aos_cell.proofs.Steps.{others_of}
use Rattle.aos_cell.proofs.Schedules.{far_from}
use Rattle.aos_cell.proofs.Passes.{its_worker}
use Rattle.aos_workers.specs.Round.{turn_in, turns_in}

-- Entries of one worker

pub is_in : (w : ℕ) → 0 < times w (w ∷ [])
is_in w = its_worker w (w ∷ []) refl

pub is_worker : (w v : ℕ) → 0 < times v (w ∷ []) → w ≡ v
is_worker w v member = elim (eqb_tells w v) [
  | inl f ↦ f.1
  | inr f ↦ let o : one_if (w == v) ≡ 0 = ap one_if f.0 in absurd (omega arith)
]

-- they are none of another's
pub own_alone : (w v : ℕ) (cs : List Choice) → v ≢ w → AreOf (w ∷ []) cs → AreOthers (v ∷ []) cs
own_alone w v cs far all = others_of (v ∷ []) (w ∷ []) cs apart all
  where
    apart : (x : ℕ) → 0 < times x (w ∷ []) → times x (v ∷ []) ≡ 0
    apart x member = elim (eqb_tells v x) [
      | inl f ↦ absurd (far (f.1 ∙ sym (is_worker w x member)))
      | inr f ↦ let o : one_if (v == x) ≡ 0 = ap one_if f.0 in omega arith
    ]

pub none_of : (w : ℕ) (cs : List Choice) → AreOthers (w ∷ []) cs → NoneOf w cs
none_of w [] others = tt
none_of w (c ∷ cs) others = (far_from (w ∷ []) (of_worker c) w (is_in w) others.0, none_of w cs others.1)

pub own_append : (ws : List ℕ) (cs ds : List Choice) → AreOf ws cs → AreOf ws ds → AreOf ws (cs ++ ds)
own_append ws [] ds a b = b
own_append ws (c ∷ cs) ds a b = (a.0, own_append ws cs ds a.1 b)

-- Counting turns

module _ {S F : Type 0} (m : Machine S F) (w : ℕ) where
  pub since-append : (cs ds : List Choice) (n : ℕ) (st : State S F) → turns_since m w (cs ++ ds) n st ≡ turns_since m w ds (turns_since m w cs n st) (execution m cs st)
  since-append [] ds n st = refl
  since-append (c ∷ cs) ds n st = since-append cs ds (turns_by m w c n st) (happens m c st)

  pub made-append : (cs ds : List Choice) (st : State S F) → turns_in m w (cs ++ ds) st ≡ turns_in m w cs st + turns_in m w ds (execution m cs st)
  made-append [] ds st = omega arith
  made-append (c ∷ cs) ds st = let ih = made-append cs ds (happens m c st) in omega arith

  other_in : (c : Choice) (st : State S F) → of_worker c ≢ w → turn_in m w c st ≡ 0
  other_in (Step v) st far = by_case number (λ q. (if q then turns_after (on_worker w st.book.line) 0 else 0) ≡ 0) v w (λ e. absurd (far e)) (λ _. refl)
  other_in (Tick v) st far = refl

  -- entries of others are no turns of w
  pub others_made : (ws : List ℕ) (cs : List Choice) (st : State S F) → 0 < times w ws → AreOthers ws cs → turns_in m w cs st ≡ 0
  others_made ws [] st member others = refl
  others_made ws (c ∷ cs) st member others =
      let first = other_in c st (far_from ws (of_worker c) w member others.0) in
      let rest = others_made ws cs (happens m c st) member others.1 in
      omega arith

  -- what one of its own entries counts: since its last tick or dispatch, and in all
  pub turn_counts : (a n : ℕ) (st : State S F) → on_worker w st.book.line ≡ Some a → turns_by m w (Step w) n st ≡ suc n
  turn_counts a n st has = by_case number (λ q. (if q then turns_after (on_worker w st.book.line) n else n) ≡ suc n) w w (λ _. ap (λ o. turns_after o n) has) (λ far. absurd (far refl))

  pub dispatch_counts : (n : ℕ) (st : State S F) → on_worker w st.book.line ≡ None → turns_by m w (Step w) n st ≡ 0
  dispatch_counts n st none = by_case number (λ q. (if q then turns_after (on_worker w st.book.line) n else n) ≡ 0) w w (λ _. ap (λ o. turns_after o n) none) (λ far. absurd (far refl))

  pub tick_counts : (n : ℕ) (st : State S F) → turns_by m w (Tick w) n st ≡ 0
  tick_counts n st = by_case number (λ q. (if q then 0 else n) ≡ 0) w w (λ _. refl) (λ far. absurd (far refl))

  pub turn_made : (a : ℕ) (st : State S F) → on_worker w st.book.line ≡ Some a → turn_in m w (Step w) st ≡ 1
  turn_made a st has = by_case number (λ q. (if q then turns_after (on_worker w st.book.line) 0 else 0) ≡ 1) w w (λ _. ap (λ o. turns_after o 0) has) (λ far. absurd (far refl))

  pub dispatch_made : (st : State S F) → on_worker w st.book.line ≡ None → turn_in m w (Step w) st ≡ 0
  dispatch_made st none = by_case number (λ q. (if q then turns_after (on_worker w st.book.line) 0 else 0) ≡ 0) w w (λ _. ap (λ o. turns_after o 0) none) (λ far. absurd (far refl))
