-- The loop over the lengths of an array: what is left leads to the same as the whole.
use Rattle.std.proofs.Common.{drop, Some, []}
use Rattle.aos_symbols.specs.Judged.{walk}
use Rattle.aos_check_decl.specs.Types as judge
use Rattle.aos_check_types.proofs.Telling.{Leads}
use Rattle.aos_check_decl.proofs.types.lengths_of.Given as goal

abbrev pub invariant-loop-part : goal.invariant-loop-part
invariant-loop-part l =
    Leads (walk (judge.with_length l.env) l.lengths (drop l.part-index l.parts)) (walk (judge.with_length l.env) (Some []) l.parts) l.found l.initial.found
