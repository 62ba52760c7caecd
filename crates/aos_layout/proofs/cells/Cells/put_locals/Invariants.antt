use Rattle.std.proofs.Common.{◌≡◌, ◌++◌, length, take}
use Rattle.aos_layout.specs.Frame.{places_from}
use Rattle.aos_layout.specs.Cells.{local_parts, kinds_of}
use Rattle.aos_layout.proofs.cells.Cells.put_locals.Given as goal

abbrev pub invariant-loop-local : goal.invariant-loop-local
invariant-loop-local l =
    record {
      kinds : l.self.kinds.items ≡ l.fn.self.kinds.items ++ kinds_of (local_parts l.types (take l.local-index l.locals));
      places : l.self.places.items ≡ l.fn.self.places.items ++ places_from (length l.fn.self.kinds.items) (local_parts l.types (take l.local-index l.locals));
    }
