-- Numbers that no instruction has: those of jumps forward to what isn't emitted yet.
use Rattle.std.specs.Prelude.{ℕ}

-- where an EXIT leads, and where an arm goes on, until that is known
abbrev pub pending_exit : ℕ
pending_exit = 4294967295

abbrev pub pending_end : ℕ
pending_end = 4294967294
