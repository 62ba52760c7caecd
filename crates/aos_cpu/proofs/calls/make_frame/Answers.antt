use Rattle.std.proofs.Common.{length, refl, arith}
use Rattle.std.specs.Prelude.{None, false}
use Rattle.aos_store.specs.declared.frames.Frame.{Frame as KeptFrame}
use Rattle.aos_store.specs.Store.{list_in}
use Rattle.aos_store.proofs.Rooms.{made_roomy}
use Rattle.aos_cpu.specs.Calls.{called_cells}
use Rattle.aos_cpu.proofs.Handing.{frame_called}
use Rattle.aos_cpu.proofs.calls.make_frame.Goals as goal

pub returns-clause-frame : goal.returns-clause-frame
returns-clause-frame c gs is =
    let cells = called_cells (length (list_in c.args.frames.now.list.items)) c.args.shape.now.kinds.items gs in
    frame_called c.args.procedure c.args.object c.args.counted c.args.shape.now.keeps cells c.in_ok-cells.cells c.in_ok-operands.operands (c.in_ok-cells.ensures.cells gs is) c.in_ok-operands.ensures.items

pub returns-clause-room : goal.returns-clause-room
returns-clause-room c =
    let f : KeptFrame =
    record {
      procedure = c.args.procedure;
      object = c.args.object;
      next = 0;
      at = None;
      is_open = false;
      cells = c.in_ok-cells.cells;
      keeps = c.args.shape.now.keeps;
      counted = c.args.counted;
      operands = c.in_ok-operands.operands;
    } in
    let kept = c.in_ok-cells.ensures.kept in
    made_roomy c.args.procedure c.args.depth f kept.0 refl (omega (arith, c.in_ok-operands.ensures.capacity)) kept.1
