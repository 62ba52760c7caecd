-- What keeps its bound in one machine's execution keeps it in that of another one with the same books.
use Rattle.std.proofs.Common.{◌≡◌, ℕ, List, [], ◌∷◌, refl, ap, subst}
use Rattle.std.specs.Prelude.{◌==◌, if◌then◌else◌}
use Rattle.aos_base.specs.Book.{Book, on_worker}
use Rattle.aos_base.specs.Machine.{Choice, Step, Tick, Machine, State, happens, execution}
use Rattle.aos_cell.specs.Bound.{turns_after, turns_by, IsPreempted}

module _ {S F T G : Type 0} (m : Machine S F) (n : Machine T G) (w : ℕ) where
  same_turns : (c : Choice) (k : ℕ) (st : State S F) (tu : State T G) → st.book ≡ tu.book → turns_by m w c k st ≡ turns_by n w c k tu
  same_turns (Step v) k st tu e = ap (λ (b : Book). if v == w then turns_after (on_worker w b.line) k else k) e
  same_turns (Tick v) k st tu e = refl

  pub same_bound : (cs : List Choice) (k : ℕ) (st : State S F) (tu : State T G) → ((ds : List Choice) → (execution m ds st).book ≡ (execution n ds tu).book) → IsPreempted m w cs k st → IsPreempted n w cs k tu
  same_bound [] k st tu same h = h
  same_bound (c ∷ cs) k st tu same h = (
    h.0,
    subst (λ i. IsPreempted n w cs i (happens n c tu)) (same_turns c k st tu (same []))
        (same_bound cs (turns_by m w c k st) (happens m c st) (happens n c tu) (λ ds. same (c ∷ ds)) h.1),
  )
