-- A count that rose in one call has risen over every longer stretch of calls, since no count falls.
use Rattle.std.proofs.Common.{ℕ, ◌≤◌, arith}
use Rattle.aos_dev.specs.Count.{Rose}

pub rose_then_stays : (old middle new : ℕ) → Rose old middle → middle ≤ new → Rose old new
rose_then_stays old middle new rose stays = grind arith

pub stays_then_rose : (old middle new : ℕ) → old ≤ middle → Rose middle new → Rose old new
stays_then_rose old middle new stays rose = grind arith
