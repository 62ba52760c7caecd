use Rattle.std.proofs.Common.{refl, sym, ap, ◌∙◌, arith}
use Rattle.std.specs.Prelude.{true, false}
use Rattle.aos_code.specs.Numbered.{numbered}
use Rattle.aos_code.specs.Silent.{keeps_in}
use Rattle.aos_code.specs.Machine.{code_of, made_in}
use Rattle.aos_store.specs.Store.{frame_in, memory_in}
use Rattle.aos_silent_steps.specs.Silent.{Seen}
use Rattle.aos_cpu.proofs.Turns.{itself}
use Rattle.aos_store.proofs.Rooms.{more_room}
use Rattle.aos_cpu.proofs.InPlace.{turned_after, worked_none, worked_both, asks_behind}
use Rattle.aos_cpu.proofs.in_place.turn_top.Goals as goal

pub returns-in-Turned-clause-tried : goal.returns-in-Turned-clause-tried
returns-in-Turned-clause-tried c =
    turned_after c.args.image.now c.args.here false (memory_in c.args.store.now) (memory_in c.loop-frame.store) (memory_in c.do_top.new.store) (frame_in c.args.frame.now) (frame_in c.loop-frame.frame) (frame_in c.do_top.new.frame)
    c.loop-frame.invariant.worked c.in-Turned.ensures.done

pub returns-in-Begun-clause-tried : goal.returns-in-Begun-clause-tried
returns-in-Begun-clause-tried c =
    turned_after c.args.image.now c.args.here true (memory_in c.args.store.now) (memory_in c.loop-frame.store) (memory_in c.do_top.new.store) (frame_in c.args.frame.now) (frame_in c.loop-frame.frame) (frame_in c.do_top.new.frame)
    c.loop-frame.invariant.worked c.in-Begun.ensures.done

pub do_top-requires-clause-code : goal.do_top-requires-clause-code
do_top-requires-clause-code c =
    let image = c.args.image.now in
    let made = made_in image (memory_in c.args.store.now) in
    c.requires.code ∙ ap (λ (x : Seen). code_of image x.procedure) (sym (c.loop-frame.invariant.worked.seen made (itself made)))

pub do_top-requires-clause-keeps : goal.do_top-requires-clause-keeps
do_top-requires-clause-keeps c =
    let image = c.args.image.now in
    let made = made_in image (memory_in c.args.store.now) in
    c.requires.keeps ∙ ap (λ (x : Seen). keeps_in (numbered image.shapes.items x.procedure)) (sym (c.loop-frame.invariant.worked.seen made (itself made)))

pub loop-frame-init : goal.loop-frame-init
loop-frame-init c =
    record {
      worked = worked_none c.args.image.now c.args.here (memory_in c.args.store.now) (frame_in c.args.frame.now);
      room = record { procedure = refl; operands = omega arith; kept = omega arith };
    }

pub loop-frame-preserved : goal.loop-frame-preserved
loop-frame-preserved c =
    record {
      worked = worked_both c.args.image.now c.args.here (memory_in c.args.store.now) (memory_in c.loop-frame.store) (memory_in c.do_top.new.store) (frame_in c.args.frame.now) (frame_in c.loop-frame.frame) (frame_in c.do_top.new.frame)
          c.loop-frame.invariant.worked c.in-Silent.ensures.done;
      room = more_room c.args.frame.now c.loop-frame.frame c.do_top.new.frame c.loop-frame.invariant.room c.do_top.ensures.room;
    }

pub returns-in-Turned-clause-room : goal.returns-in-Turned-clause-room
returns-in-Turned-clause-room c = more_room c.args.frame.now c.loop-frame.frame c.do_top.new.frame c.loop-frame.invariant.room c.do_top.ensures.room

pub returns-in-Begun-clause-room : goal.returns-in-Begun-clause-room
returns-in-Begun-clause-room c = more_room c.args.frame.now c.loop-frame.frame c.do_top.new.frame c.loop-frame.invariant.room c.do_top.ensures.room

pub returns-in-Nothing-clause-tried : goal.returns-in-Nothing-clause-tried
returns-in-Nothing-clause-tried c =
    worked_both c.args.image.now c.args.here (memory_in c.args.store.now) (memory_in c.loop-frame.store) (memory_in c.do_top.new.store) (frame_in c.args.frame.now) (frame_in c.loop-frame.frame) (frame_in c.do_top.new.frame)
    c.loop-frame.invariant.worked c.in-Nothing.ensures.done

pub returns-in-Nothing-clause-room : goal.returns-in-Nothing-clause-room
returns-in-Nothing-clause-room c = more_room c.args.frame.now c.loop-frame.frame c.do_top.new.frame c.loop-frame.invariant.room c.do_top.ensures.room

pub returns-in-Asks-clause-tried : goal.returns-in-Asks-clause-tried
returns-in-Asks-clause-tried c =
    asks_behind c.args.image.now c.args.here c.do_top.new.frame.next c.in-Asks.question (memory_in c.args.store.now) (memory_in c.loop-frame.store) (memory_in c.do_top.new.store)
    (frame_in c.args.frame.now) (frame_in c.loop-frame.frame) (frame_in c.do_top.new.frame) c.loop-frame.invariant.worked c.in-Asks.ensures.done

pub returns-in-Asks-clause-room : goal.returns-in-Asks-clause-room
returns-in-Asks-clause-room c = more_room c.args.frame.now c.loop-frame.frame c.do_top.new.frame c.loop-frame.invariant.room c.do_top.ensures.room
