use Rattle.std.proofs.Common.{◌≡◌, ◌+◌, length, take}
use Rattle.aos_symbols.specs.Declarations.{procedures}
use Rattle.aos_check_decl.proofs.procedures.behind_procedures.Given as goal

abbrev pub invariant-loop-decl : goal.invariant-loop-decl
invariant-loop-decl l =
    l.all ≡ l.count + length (procedures (take l.decl-index l.decls))
