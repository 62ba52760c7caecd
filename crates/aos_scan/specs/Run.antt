-- The longest run of bytes of a class that begins at a place.
use Rattle.std.specs.Prelude.{◌≡◌, ℕ, ◌<◌, ◌≤◌, false, List, length, slice_index, IsTrue}
use Rattle.aos_scan.specs.declared.run.Class.{Class}
use Rattle.aos_scan.specs.Bytes.{is_in}

pub record IsRun (class : Class) (text : List ℕ) (from to : ℕ) : Type 0 where
  pub ordered : from ≤ to
  pub within : to ≤ length text
  pub each : (k : ℕ) → from ≤ k → k < to → IsTrue (is_in class (slice_index text k))
  pub stops : to < length text → is_in class (slice_index text to) ≡ false
