-- The bound over one schedule behind another, and over entries of others.
use Rattle.std.proofs.Common.{◌≡◌, ◌≢◌, ℕ, ◌<◌, ◌≤◌, List, [], ◌∷◌, ◌++◌, refl, sym, ap, ◌∙◌, subst, arith}
use Rattle.std.specs.Prelude.{if◌then◌else◌}
use Rattle.aos_base.specs.Book.{on_worker}
use Rattle.aos_base.specs.Machine.{Choice, Step, Tick, Machine, State, happens, execution}
use Rattle.aos_concurrency.specs.Private.{of_worker}
use Rattle.aos_concurrency.proofs.Tables.{number, by_case}
use Rattle.aos_cell.specs.Total.{times}
use Rattle.aos_cell.specs.Bound.{turns_after, turns_by, turns_since, IsPreempted}
use Rattle.aos_cell.specs.Rule.{AreOthers}

-- one that isn't of these workers is another than one that is
pub far_from : (ws : List ℕ) (v w : ℕ) → 0 < times w ws → times v ws ≡ 0 → v ≢ w
far_from ws v w member out = λ e. let same : times v ws ≡ times w ws = ap (λ x. times x ws) e in omega arith

module _ {S F : Type 0} (m : Machine S F) (w : ℕ) where
  pub preempted-append : (cs ds : List Choice) (n : ℕ) (st : State S F) → IsPreempted m w cs n st → IsPreempted m w ds (turns_since m w cs n st) (execution m cs st) → IsPreempted m w (cs ++ ds) n st
  preempted-append [] ds n st a b = b
  preempted-append (c ∷ cs) ds n st a b = (a.0, preempted-append cs ds (turns_by m w c n st) (happens m c st) a.1 b)

  pub preempted_end : (cs : List Choice) (n : ℕ) (st : State S F) → IsPreempted m w cs n st → turns_since m w cs n st ≤ 256
  preempted_end [] n st a = a
  preempted_end (c ∷ cs) n st a = preempted_end cs (turns_by m w c n st) (happens m c st) a.1

  other_by : (c : Choice) (n : ℕ) (st : State S F) → of_worker c ≢ w → turns_by m w c n st ≡ n
  other_by (Step v) n st far = by_case number (λ q. (if q then turns_after (on_worker w st.book.line) n else n) ≡ n) v w (λ e. absurd (far e)) (λ _. refl)
  other_by (Tick v) n st far = by_case number (λ q. (if q then 0 else n) ≡ n) v w (λ e. absurd (far e)) (λ _. refl)

  -- entries of others leave its turns as they were
  pub others_since : (ws : List ℕ) (cs : List Choice) (n : ℕ) (st : State S F) → 0 < times w ws → AreOthers ws cs → turns_since m w cs n st ≡ n
  others_since ws [] n st member others = refl
  others_since ws (c ∷ cs) n st member others =
      others_since ws cs (turns_by m w c n st) (happens m c st) member others.1 ∙ other_by c n st (far_from ws (of_worker c) w member others.0)

  pub others_preempted : (ws : List ℕ) (cs : List Choice) (n : ℕ) (st : State S F) → 0 < times w ws → n ≤ 256 → AreOthers ws cs → IsPreempted m w cs n st
  others_preempted ws [] n st member le others = le
  others_preempted ws (c ∷ cs) n st member le others =
      (le, others_preempted ws cs (turns_by m w c n st) (happens m c st) member (subst (λ k. k ≤ 256) (sym (other_by c n st (far_from ws (of_worker c) w member others.0))) le) others.1)
