use Rattle.std.proofs.Common.{◌≡◌, length}
use Rattle.aos_reading.proofs.Readings.{IsOnTheWay}
use Rattle.aos_reading.proofs.files.trees_of.Given as goal

abbrev pub invariant-loop-reading : goal.invariant-loop-reading
invariant-loop-reading l = record {
  number : l.file ≡ length l.yielded;
  on_the_way : IsOnTheWay l.fn.readings.items l.file l.trees.items;
}
