-- What the shapes of a procedure, of its frame and of a module's variables are seen as: vectors are lists.
use Rattle.aos_code.specs.declared.image.ProcShape.{ProcShape}
use Rattle.aos_layout.specs.declared.block.BlockShape.{BlockShape as CodeBlockShape}
use Rattle.aos_layout.specs.declared.frame.FrameShape.{FrameShape as CodeFrameShape}
use Rattle.aos_layout.specs.Block.{BlockShape}
use Rattle.aos_layout.specs.Frame.{Known, FrameShape}

abbrev pub seen_shape : ProcShape → Known
seen_shape s =
    record {
      module_ = s.module;
      params = s.params.items;
      cells = s.cells;
      counted = s.counted;
      keeps = s.keeps;
      result = s.result;
      method = s.method;
      kinds = s.kinds.items;
    }

abbrev pub seen_frame : CodeFrameShape → FrameShape
seen_frame f = record { own = f.own; shape = seen_shape f.shape; places = f.places.items }

abbrev pub seen_block : CodeBlockShape → BlockShape
seen_block b = record { places = b.places.items; cells = b.cells; kinds = b.kinds.items }
