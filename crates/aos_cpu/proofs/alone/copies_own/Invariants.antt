use Rattle.std.proofs.Common.{◌≡◌, drop}
use Rattle.aos_cpu.specs.Private.{copies_own}
use Rattle.aos_cpu.proofs.alone.copies_own.Given as goal

-- what is left decides
abbrev pub invariant-loop-param : goal.invariant-loop-param
invariant-loop-param l = copies_own l.initial.params l.initial.arguments ≡ copies_own (drop l.param-index l.params) l.rest
