use Rattle.std.proofs.Common.{◌≡◌, ◌++◌, map, take}
use Rattle.aos_symbols.specs.Declarations as declarations
use Rattle.aos_entries.proofs.declarations.add_procedure_parts.Given as goal

abbrev pub invariant-loop-proc : goal.invariant-loop-proc
invariant-loop-proc l =
    declarations.seen_parts l.all.items
    ≡ declarations.seen_parts l.initial.all.items ++ map (λ p. p.decls) (declarations.seen_procedures (take l.proc-index l.procs))
