use Rattle.std.proofs.Common.{◌≡◌, ◌++◌, take}
use Rattle.aos_symbols.specs.Declarations as declarations
use Rattle.aos_entries.proofs.declarations.add_procedures.Given as goal

abbrev pub invariant-loop-decl : goal.invariant-loop-decl
invariant-loop-decl l =
    declarations.seen_procedures l.all.items ≡ declarations.seen_procedures l.initial.all.items ++ declarations.procedures (take l.decl-index l.decls)
