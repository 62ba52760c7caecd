-- The loop over parts: those so far are done.
use Rattle.std.proofs.Common.{◌≡◌}
use Rattle.aos_unnamed.specs.Unnamed.{through, in_variable}
use Rattle.aos_unnamed.proofs.decls.in_variables.Given as goal

abbrev pub invariant-loop-def : goal.invariant-loop-def
invariant-loop-def l = record {
  part : l.all ≡ (through in_variable l.initial.added l.yielded).part;
  added : l.added ≡ (through in_variable l.initial.added l.yielded).added;
}
