use Rattle.std.proofs.Common.{◌≡◌, ◌++◌, drop, map}
use Rattle.aos_script.specs.Join.{joined_from}
use Rattle.aos_script.specs.Print.{run_line, text_of}
use Rattle.aos_script.proofs.print.put_joined.Given as goal

-- what is printed, and what is left
abbrev pub invariant-loop-entry : goal.invariant-loop-entry
invariant-loop-entry l =
    l.text.items ++ text_of (map run_line (joined_from l.last (drop l.entry-index l.others)))
    ≡ l.fn.text.items ++ text_of (map run_line (joined_from l.fn.first l.others))
