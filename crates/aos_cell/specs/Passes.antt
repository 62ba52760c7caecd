-- How passes begin by which each worker of a kernel has one of its own, and what is left at the end.
use Rattle.std.specs.Prelude.{◌≡◌, ◌<◌, ◌≤◌, ◌*◌, ℕ, zero, suc, false, [], length}
use Rattle.aos_kernel.specs.Run.{Run, among}
use Rattle.aos_cell.specs.declared.rule.Part.{Part}
use Rattle.aos_cell.specs.declared.rule.View.{View}
use Rattle.aos_cell.specs.Total.{times}
use Rattle.aos_cell.specs.Bound.{KeepsBound}
use Rattle.aos_cell.specs.Rule.{SameProgram, AddsOthers, HasPart}

-- the gives of a pass with n workers of which is split off one after another: each is to have so many, and a split halves them
abbrev pub gives_for : ℕ → ℕ → ℕ
gives_for each zero = 0
gives_for each (suc zero) = each
gives_for each (suc (suc n)) = 2 * gives_for each (suc n)

-- a pass with n workers, none of which has made an entry since the cell was made
pub record Starts (each n : ℕ) (p : Part) : Type 0 where
  pub count : length p.workers ≡ n
  pub idle : p.has ≡ false
  pub none_lent : p.lent ≡ []
  pub gives : gives_for each n ≤ p.gives
  pub untouched : AddsOthers p.workers p.first p.last

abbrev pub MayStart : ℕ → ℕ → View → Type 0
MayStart each n v = HasPart (Starts each n) v

-- the pass afterwards has the same workers, and neither the kernel nor a loan
pub record Ended (p q : Part) : Type 0 where
  pub workers : (w : ℕ) → times w q.workers ≡ times w p.workers
  pub idle : q.has ≡ false
  pub none_lent : q.lent ≡ []
  pub first : q.first ≡ p.first

abbrev pub HasEnded : View → View → Type 0
HasEnded v last = HasPart (λ p. HasPart (Ended p) last) v

-- the second run is of the same program, and its log is the first one's and then entries that keep the bound
abbrev pub RunsOn : Run → Run → Type 0
RunsOn old new = SameProgram old new × KeepsBound old new

-- no worker's activity is lent
abbrev pub NoneLent : Run → Type 0
NoneLent r = (w : ℕ) → w < r.workers → among w r.lent ≡ false
