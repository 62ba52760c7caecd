use Rattle.std.proofs.Common.{◌≡◌}
use Rattle.aos_scan.specs.Position.{line_of, column_of}
use Rattle.aos_scan.proofs.position.advance.Given as goal

abbrev pub invariant-loop-i : goal.invariant-loop-i
invariant-loop-i l = record {
  line : l.line ≡ line_of l.text l.i;
  column : l.col ≡ column_of l.text l.i;
}
