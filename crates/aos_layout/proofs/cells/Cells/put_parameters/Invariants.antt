use Rattle.std.proofs.Common.{◌≡◌, ◌++◌, length, take}
use Rattle.aos_layout.specs.Frame.{places_from}
use Rattle.aos_layout.specs.Cells.{parameter_parts, kinds_of}
use Rattle.aos_layout.proofs.cells.Cells.put_parameters.Given as goal

abbrev pub invariant-loop-parameter : goal.invariant-loop-parameter
invariant-loop-parameter l =
    record {
      kinds : l.self.kinds.items ≡ l.fn.self.kinds.items ++ kinds_of (parameter_parts l.types (take l.parameter-index l.parameters));
      places : l.self.places.items ≡ l.fn.self.places.items ++ places_from (length l.fn.self.kinds.items) (parameter_parts l.types (take l.parameter-index l.parameters));
    }
