use Rattle.std.proofs.Common.{◌≡◌, ◌≤◌, ◌++◌, length, take}
use Rattle.aos_code.specs.Machine.{regions_of}
use Rattle.aos_store.specs.Store.{list_in}
use Rattle.aos_trap.proofs.regions.unwind.Given as goal

-- the locks of the frames above the first ones are found
abbrev pub invariant-loop-left : goal.invariant-loop-left
invariant-loop-left l = record {
  left : l.left ≤ length l.frames.list.items;
  found : l.locks.items ++ regions_of l.image (list_in (take l.left l.frames.list.items)) ≡ regions_of l.image (list_in l.frames.list.items);
}

abbrev pub decreases-loop-left : goal.decreases-loop-left
decreases-loop-left l = l.left
