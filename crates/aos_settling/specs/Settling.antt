-- Private turns over one store: what a loan of frames has made once it is settled.
use Rattle.std.specs.Prelude.{◌≡◌, ◌≢◌, ℕ, nat_lt}
use Rattle.aos_base.specs.Book.{Book, spent_by}
pub use Rattle.aos_concurrency.specs.Private.{IsPrivateAt, ArePrivateAt}

-- of all that a book has, the count of this activity is n, and with it who has used up the budget may be another
pub record IsTallied (a n : ℕ) (old new : Book) : Type 0 where
  pub budget : new.budget ≡ old.budget
  pub started : new.started ≡ old.started
  pub line : new.line ≡ old.line
  pub owner : new.owner ≡ old.owner
  pub output : new.output ≡ old.output
  pub traps : new.traps ≡ old.traps
  pub events : new.events ≡ old.events
  pub priority : (new.activity a).priority ≡ (old.activity a).priority
  pub restarts : (new.activity a).restarts ≡ (old.activity a).restarts
  pub next : (new.activity a).next ≡ (old.activity a).next
  pub begun : (new.activity a).begun ≡ n
  pub others : (x : ℕ) → x ≢ a → new.activity x ≡ old.activity x
  pub spent : new.spent ≡ spent_by (nat_lt (old.activity a).begun n) old.budget n a old.spent
