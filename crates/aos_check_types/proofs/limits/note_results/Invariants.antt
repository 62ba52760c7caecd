use Rattle.std.proofs.Common.{◌≡◌, drop}
use Rattle.aos_symbols.specs.Breaches.{first_after}
use Rattle.aos_symbols.specs.Declarations.{seen_procedures}
use Rattle.aos_check_types.specs.Limits.{results_from}
use Rattle.aos_check_types.proofs.limits.note_results.Given as goal

abbrev pub invariant-loop-proc : goal.invariant-loop-proc
invariant-loop-proc l =
    first_after l.found (results_from l.flags l.env.types (seen_procedures (drop l.proc-index l.procs)) (drop l.number l.env.here.signatures))
    ≡ first_after l.initial.found (results_from l.flags l.env.types (seen_procedures l.procs) l.env.here.signatures)
