use Rattle.std.proofs.Common.{◌+◌, ◌≤◌, min, length}
use Rattle.std.specs.Io.KnownBytes.{Consumes}
use Rattle.aos_dev.specs.Count.{greatest}
use Rattle.aos_dev.proofs.file_shelf.read_on.Given as goal

-- what was read fits and is what the source lost, and the number of bytes that were taken has counted it
abbrev pub invariant-loop : goal.invariant-loop
invariant-loop g l =
    (length l.into.items ≤ l.most)
    × (l.initial.taken ≤ l.taken)
    × (min (l.initial.taken + length l.into.items) greatest ≤ l.taken)
    × Consumes (g.S.Read.remaining l.initial.source) (g.S.Read.remaining l.source) l.into.items
