use Rattle.std.proofs.Common.{◌≡◌, ◌++◌, length, take}
use Rattle.aos_layout.specs.Frame.{places_from}
use Rattle.aos_layout.specs.Cells.{text_parts, kinds_of}
use Rattle.aos_layout.proofs.cells.Cells.put_texts.Given as goal

abbrev pub invariant-loop-text : goal.invariant-loop-text
invariant-loop-text l =
    record {
      kinds : l.self.kinds.items ≡ l.fn.self.kinds.items ++ kinds_of (text_parts (take l.text-index l.texts));
      places : l.self.places.items ≡ l.fn.self.places.items ++ places_from (length l.fn.self.kinds.items) (text_parts (take l.text-index l.texts));
    }
