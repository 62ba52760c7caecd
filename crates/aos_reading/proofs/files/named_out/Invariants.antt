use Rattle.std.proofs.Common.{◌≡◌, ℕ, ◌<◌, false, slice_get}
use Rattle.aos_reading.specs.Files.{is_named_out}
use Rattle.aos_reading.specs.Sources.{sources}
use Rattle.aos_reading.proofs.files.named_out.Given as goal

abbrev pub invariant-loop-file : goal.invariant-loop-file
invariant-loop-file l = (j : ℕ) → j < l.file → is_named_out (slice_get (sources l.texts l.trees) j) ≡ false
