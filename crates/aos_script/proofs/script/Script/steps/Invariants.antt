use Rattle.std.proofs.Common.{◌≡◌, length, take}
use Rattle.aos_base.specs.Schedule.{choices}
use Rattle.aos_script.proofs.script.Script.steps.Given as goal

-- the entries so far
abbrev pub invariant-loop-entry : goal.invariant-loop-entry
invariant-loop-entry l = l.steps ≡ length (choices (take l.entry-index l.self.runs))
