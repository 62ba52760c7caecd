use Rattle.std.proofs.Common.{◌≡◌, length, map}
use Rattle.aos_reading.specs.Files.{named}
use Rattle.aos_reading.specs.Sources.{sources}
use Rattle.aos_reading.proofs.files.with_names.Given as goal

abbrev pub invariant-loop-own : goal.invariant-loop-own
invariant-loop-own l = record {
  each : sources l.named_texts.items l.named_trees.items ≡ map named (sources l.texts l.yielded);
  first : length l.named_texts.items ≡ length l.yielded;
  second : length l.named_trees.items ≡ length l.yielded;
}
