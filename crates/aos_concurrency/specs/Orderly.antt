-- Where activities stand in every execution of any machine.
use Rattle.std.specs.Prelude.{◌≡◌, ◌≤◌, ℕ, Option, Some, None, List, [], ◌∷◌}
use Rattle.aos_base.specs.Book.{RunState, On, Ready, At, Stand, Next, Runs, WillTrap, Unwinds, Gone, place_of}
use Rattle.aos_base.specs.Machine.{State}
use Rattle.aos_concurrency.specs.LocalState.{local_state}

-- nobody stands twice
abbrev pub Distinct : List Stand → Type 0
Distinct [] = Unit {0}
Distinct (s ∷ line) = (place_of line s.activity ≡ None) × Distinct line

-- it has ended exactly where it stands nowhere, and one in a lock's list hasn't trapped
abbrev pub Agrees : Next → Option RunState → Type 0
Agrees Gone None = Unit {0}
Agrees Gone (Some p) = ⊥
Agrees Runs None = ⊥
Agrees Runs (Some p) = Unit {0}
Agrees (WillTrap n) None = ⊥
Agrees (WillTrap n) (Some (On w)) = Unit {0}
Agrees (WillTrap n) (Some (Ready p)) = Unit {0}
Agrees (WillTrap n) (Some (At l wants)) = ⊥
Agrees (Unwinds locks) None = ⊥
Agrees (Unwinds locks) (Some (On w)) = Unit {0}
Agrees (Unwinds locks) (Some (Ready p)) = Unit {0}
Agrees (Unwinds locks) (Some (At l wants)) = ⊥

module _ {S F : Type 0} where
  pub record Orderly (st : State S F) : Type 0 where
    pub once : Distinct st.book.line
    pub agrees : (a : ℕ) → Agrees (local_state st a).next (local_state st a).place
    pub unborn : (a : ℕ) → st.book.started ≤ a → (local_state st a).next ≡ Gone
