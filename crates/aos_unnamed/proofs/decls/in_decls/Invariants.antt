-- The loop over parts: those so far are done.
use Rattle.std.proofs.Common.{◌≡◌}
use Rattle.aos_unnamed.specs.Unnamed.{through, in_decl}
use Rattle.aos_unnamed.proofs.decls.in_decls.Given as goal

abbrev pub invariant-loop-decl : goal.invariant-loop-decl
invariant-loop-decl l = record {
  part : l.all ≡ (through in_decl l.initial.added l.yielded).part;
  added : l.added ≡ (through in_decl l.initial.added l.yielded).added;
}
