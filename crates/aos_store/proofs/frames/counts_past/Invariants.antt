use Rattle.std.proofs.Common.{◌≡◌, ◌+◌, min, take}
use Rattle.std.specs.Prelude.{sum_by}
use Rattle.aos_store.specs.declared.frames.Frame.{Frame as KeptFrame}
use Rattle.aos_store.proofs.frames.counts_past.Given as goal

abbrev pub invariant-loop-frame : goal.invariant-loop-frame
invariant-loop-frame l = l.sum ≡ min (l.counted + sum_by (λ (f : KeptFrame). f.counted) (take l.frame-index l.list)) 65537
