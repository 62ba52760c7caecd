use Rattle.std.proofs.Common.{◌≡◌, ◌-◌, ◌^◌, min, drop, length}
use Rattle.aos_code.specs.Silent.{cells_of}
use Rattle.aos_store_calls.proofs.objects.elements_of.Given as goal

-- how many elements arrays of the last so many lengths have
abbrev pub invariant-loop-i : goal.invariant-loop-i
invariant-loop-i l = l.count ≡ min (cells_of (drop (length l.lengths - l.i) l.lengths) 1) (2 ^ 64 - 1)
