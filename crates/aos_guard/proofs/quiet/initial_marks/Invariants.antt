-- What the loop of initial_marks keeps.
use Rattle.std.proofs.Common.{◌≡◌, ◌≤◌, ℕ, suc, length}
use Rattle.aos_typed.specs.Seen.{seen_program}
use Rattle.aos_uses.specs.Guarded.{is_initial}
use Rattle.aos_guard.specs.Marks.{marked}
use Rattle.aos_guard.proofs.quiet.initial_marks.Given as goal

-- the marks of the routines before this one
abbrev pub invariant-loop-index : goal.invariant-loop-index
invariant-loop-index l =
    record {
      length : length l.marks.items ≡ suc l.index;
      marks : (n : ℕ) → n ≤ l.index → marked l.marks.items n ≡ is_initial (seen_program l.dispatch) n;
    }
