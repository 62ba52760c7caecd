use Rattle.std.proofs.Common.{◌++◌, ◌∷◌, length, map, replicate, refl, sym, ap, ◌∙◌, subst, arith}
use Rattle.std.specs.Prelude.{None, false, pos}
use Rattle.aos_code.specs.declared.instr.Cell.TheVariants.{Num}
use Rattle.aos_code.specs.Machine.{first_cell}
use Rattle.aos_store.specs.declared.frames.Frame.{Frame as KeptFrame}
use Rattle.aos_store.specs.Store.{list_in, new_frame}
use Rattle.aos_store.specs.Room.{AreRoomyFor}
use Rattle.aos_store.proofs.Views.{list_more, frame_made}
use Rattle.aos_store.proofs.Rooms.{roomy_more, made_roomy, shallow}
use Rattle.aos_store.proofs.frames.Frames.grow.Goals as goal

pub returns-clause-ok : goal.returns-clause-ok
returns-clause-ok c =
    let f : KeptFrame =
    record {
      procedure = c.args.procedure;
      object = c.args.object;
      next = 0;
      at = None;
      is_open = false;
      cells = c.in-Ok.cells;
      keeps = c.args.keeps;
      counted = c.args.counted;
      operands = c.in-Ok-with_capacity.operands;
    } in
    let now = c.reserve.new.self.items in
    ap list_in c.push_reserved.ensures.items ∙ list_more now f
    ∙ ap (λ g. g ∷ list_in now) (frame_made c.args.procedure c.args.object c.args.kinds.now c.args.more c.args.keeps c.args.counted c.in-Ok.cells c.in-Ok-with_capacity.operands c.in-Ok.ensures c.in-Ok-with_capacity.ensures.items)
    ∙ ap (λ xs. new_frame c.args.procedure c.args.object c.args.kinds.now c.args.more c.args.counted ∷ list_in xs) c.reserve.ensures.items

pub returns-clause-room : goal.returns-clause-room
returns-clause-room c depths keeps le many roomy =
    let f : KeptFrame =
    record {
      procedure = c.args.procedure;
      object = c.args.object;
      next = 0;
      at = None;
      is_open = false;
      cells = c.in-Ok.cells;
      keeps = c.args.keeps;
      counted = c.args.counted;
      operands = c.in-Ok-with_capacity.operands;
    } in
    let now = c.reserve.new.self.items in
    let few = shallow c.args.counted c.args.self.now.list.items (sym c.if-is_deep.ensures) in
    let one =
    made_roomy c.args.procedure c.args.depth f (map first_cell c.args.kinds.now ++ replicate c.args.more (Num (pos 0))) refl (omega (arith, c.in-Ok-with_capacity.ensures.capacity)) c.in-Ok.ensures depths keeps le many in
    subst (AreRoomyFor depths keeps) (sym c.push_reserved.ensures.items)
    (roomy_more depths keeps now f (subst (AreRoomyFor depths keeps) (sym c.reserve.ensures.items) roomy) one (omega (arith, few, ap length c.reserve.ensures.items)))
