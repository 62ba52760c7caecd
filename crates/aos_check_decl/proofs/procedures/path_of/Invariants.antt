use Rattle.std.proofs.Common.{◌≡◌, take}
use Rattle.aos_check_decl.proofs.procedures.path_of.Given as goal

abbrev pub invariant-loop-open : goal.invariant-loop-open
invariant-loop-open l =
    l.path ≡ take l.open-index l.open-items
