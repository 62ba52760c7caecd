use Rattle.std.proofs.Common.{◌≡◌, refl, ◌∙◌, subst, arith}
use Rattle.aos_store.specs.Store.{frame_in, memory_in}
use Rattle.aos_cpu.specs.InPlace.{HasRunTop}
use Rattle.aos_cpu.specs.Many.{HasRunOn}
use Rattle.aos_store.proofs.Rooms.{more_room}
use Rattle.aos_cpu.proofs.InPlace.{run_none, run_worked, run_more, still_none}
use Rattle.aos_cpu.proofs.Running.{ran_none, ran_still, ran_more}
use Rattle.aos_cpu.proofs.in_place.run_top.Goals as goal

pub returns-in-Asks-clause-made : goal.returns-in-Asks-clause-made
returns-in-Asks-clause-made c =
    ran_still c.args.image.now c.args.here c.args.budget c.loop-made.made c.args.begun c.loop-made.now (memory_in c.args.store.now) (memory_in c.loop-made.store) (memory_in c.turn_top.new.store)
    (frame_in c.args.frame.now) (frame_in c.loop-made.frame) (frame_in c.turn_top.new.frame) c.loop-made.invariant.ran c.in-Asks.ensures.tried.0

pub returns-in-Asks-clause-alone : goal.returns-in-Asks-clause-alone
returns-in-Asks-clause-alone c none =
    let a = c.loop-made.invariant.alone none in (
      c.in-Asks.ensures.tried.0.memory ∙ a.0,
      run_worked c.args.image.now c.args.here c.args.budget c.loop-made.made c.args.begun c.loop-made.now (memory_in c.loop-made.store) (memory_in c.turn_top.new.store) (frame_in c.args.frame.now)
          (frame_in c.loop-made.frame) (frame_in c.turn_top.new.frame) a.0 a.1 c.in-Asks.ensures.tried.0,
    )

pub returns-in-Nothing-clause-made : goal.returns-in-Nothing-clause-made
returns-in-Nothing-clause-made c =
    ran_still c.args.image.now c.args.here c.args.budget c.loop-made.made c.args.begun c.loop-made.now (memory_in c.args.store.now) (memory_in c.loop-made.store) (memory_in c.turn_top.new.store)
    (frame_in c.args.frame.now) (frame_in c.loop-made.frame) (frame_in c.turn_top.new.frame) c.loop-made.invariant.ran c.in-Nothing.ensures.tried

pub returns-in-Nothing-clause-alone : goal.returns-in-Nothing-clause-alone
returns-in-Nothing-clause-alone c none =
    let a = c.loop-made.invariant.alone none in (
      c.in-Nothing.ensures.tried.memory ∙ a.0,
      run_worked c.args.image.now c.args.here c.args.budget c.loop-made.made c.args.begun c.loop-made.now (memory_in c.loop-made.store) (memory_in c.turn_top.new.store) (frame_in c.args.frame.now)
          (frame_in c.loop-made.frame) (frame_in c.turn_top.new.frame) a.0 a.1 c.in-Nothing.ensures.tried,
    )

pub loop-made-init : goal.loop-made-init
loop-made-init c =
    record {
      ran = ran_none c.args.image.now c.args.here c.args.budget c.args.begun (memory_in c.args.store.now) (frame_in c.args.frame.now);
      alone = λ none. (none, run_none c.args.image.now c.args.here c.args.budget c.args.begun (frame_in c.args.frame.now));
      room = record { procedure = refl; operands = omega arith; kept = omega arith };
    }

pub loop-made-preserved : goal.loop-made-preserved
loop-made-preserved c =
    let was = memory_in c.loop-made.store in
    let now = memory_in c.turn_top.new.store in
    let first = frame_in c.args.frame.now in
    let mid = frame_in c.loop-made.frame in
    let last = frame_in c.turn_top.new.frame in
    record {
      ran = ran_more c.args.image.now c.args.here c.args.budget c.loop-made.made c.args.begun c.loop-made.now c.count-now.result c.in-Turned.begins (memory_in c.args.store.now) was now first mid last
          c.loop-made.invariant.ran c.if-budget-now.false c.in-Turned.ensures.tried c.count-now.ensures;
      alone = λ none.
          let a = c.loop-made.invariant.alone none in (
            still_none c.args.image.now c.args.here c.in-Turned.begins was now mid last c.in-Turned.ensures.tried a.0,
            run_more c.args.image.now c.args.here c.args.budget c.loop-made.made c.args.begun c.loop-made.now c.count-now.result c.in-Turned.begins was now first mid last a.0 a.1
                c.if-budget-now.false c.in-Turned.ensures.tried c.count-now.ensures,
          );
      room = more_room c.args.frame.now c.loop-made.frame c.turn_top.new.frame c.loop-made.invariant.room c.turn_top.ensures.room;
    }

pub returns-clause-made : goal.returns-clause-made
returns-clause-made c =
    let all : c.loop-made.made ≡ c.args.most = omega arith in
    subst (λ n. HasRunOn c.args.image.now c.args.here c.args.budget n c.args.begun c.loop-made.now (memory_in c.args.store.now) (memory_in c.loop-made.store) (frame_in c.args.frame.now) (frame_in c.loop-made.frame))
    all c.loop-made.invariant.ran

pub returns-clause-alone : goal.returns-clause-alone
returns-clause-alone c none =
    let all : c.loop-made.made ≡ c.args.most = omega arith in
    let a = c.loop-made.invariant.alone none in
    (a.0, subst (λ n. HasRunTop c.args.image.now c.args.here c.args.budget n c.args.begun c.loop-made.now (frame_in c.args.frame.now) (frame_in c.loop-made.frame)) all a.1)

pub returns-in-Asks-clause-room : goal.returns-in-Asks-clause-room
returns-in-Asks-clause-room c = more_room c.args.frame.now c.loop-made.frame c.turn_top.new.frame c.loop-made.invariant.room c.turn_top.ensures.room

pub returns-in-Nothing-clause-room : goal.returns-in-Nothing-clause-room
returns-in-Nothing-clause-room c = more_room c.args.frame.now c.loop-made.frame c.turn_top.new.frame c.loop-made.invariant.room c.turn_top.ensures.room
