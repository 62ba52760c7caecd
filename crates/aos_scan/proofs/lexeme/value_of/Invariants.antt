use Rattle.std.proofs.Common.{◌≡◌, ◌≤◌, take}
use Rattle.aos_scan.specs.Spelling.{value_of}
use Rattle.aos_scan.proofs.lexeme.value_of.Given as goal

abbrev pub invariant-loop-b : goal.invariant-loop-b
invariant-loop-b l = record { is : l.value ≡ value_of l.base (take l.b-index l.digits); small : l.value ≤ l.most }
