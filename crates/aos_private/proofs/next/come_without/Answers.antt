use Rattle.std.proofs.Common.{◌≡◌, ◌<◌, ◌-◌, ◌^◌, List, [], length, reverse, sym, ap, arith, subst}
use Rattle.std.specs.Prelude.{Some, slice_set}
use Rattle.aos_sound.specs.FitFrames.{depth_of}
use Rattle.aos_store.specs.Store.{list_in, frame_in}
use Rattle.aos_store.specs.declared.heap.Object.{Object}
use Rattle.aos_silent_steps.specs.Known.{known}
use Rattle.aos_silent_steps.specs.Silent.{Seen, stop_in, silent_at}
use Rattle.aos_cpu.specs.Private.{made_by}
use Rattle.aos_cpu.proofs.Turns.{last_read, list_top, list_set, advanced, stands_there}
use Rattle.aos_cpu.proofs.InRoom.{opened_top, nothing_left, top_paths, top_stands, top_few, still_fit, still_roomy}
use Rattle.aos_private.proofs.next.come_without.Goals as goal

pub returns-in-Ok-clause-stop : goal.returns-in-Ok-clause-stop
returns-in-Ok-clause-stop c =
    let old = c.args.frames.now in
    let frames = old.list in
    let f = c.in-Some.frame.now in
    let all : frames.len ≡ length frames.items = omega arith in
    let here = last_read frames.items frames.len f all c.in-Some.ensures.item.3.0 c.in-Some.ensures.item.1 in
    stands_there c.args.image.now (made_by []) c.in-Ok.stop frames.items frames.len c.saturating_sub-here.result f c.silent_from.new.frame all (omega arith) here
    (subst (λ (h : List Object). stop_in c.in-Ok.stop (frame_in c.silent_from.new.frame) ≡ silent_at c.args.image.now (known h) c.saturating_sub-here.result (frame_in f)) c.requires.none c.in-Ok.ensures.stop) c.in-Ok.ensures.place
    (c.silent_from.ensures.alike (made_by []) (λ o m e. subst (λ (h : List Object). known h o ≡ Some m) c.requires.none e))

pub returns-in-Ok-clause-alike : goal.returns-in-Ok-clause-alike
returns-in-Ok-clause-alike c =
    let old = c.args.frames.now in
    let frames = old.list in
    let f = c.in-Some.frame.now in
    let all : frames.len ≡ length frames.items = omega arith in
    let here = last_read frames.items frames.len f all c.in-Some.ensures.item.3.0 c.in-Some.ensures.item.1 in
    let opens = opened_top (reverse old.following.items) (list_in frames.items) _ _ (list_top frames.items frames.len f all here) in
    advanced c.args.image.now (made_by []) old old frames.len c.saturating_sub-here.result f c.silent_from.new.frame opens all (omega arith) here
    (λ more knows. c.silent_from.ensures.alike more (λ o m e. knows o m (subst (λ (h : List Object). known h o ≡ Some m) c.requires.none e)))

pub returns-in-Ok-clause-ready : goal.returns-in-Ok-clause-ready
returns-in-Ok-clause-ready c =
    let old = c.args.frames.now in
    let frames = old.list in
    let f = c.in-Some.frame.now in
    let g = c.silent_from.new.frame in
    let all : frames.len ≡ length frames.items = omega arith in
    let here = last_read frames.items frames.len f all c.in-Some.ensures.item.3.0 c.in-Some.ensures.item.1 in
    sym (opened_top (reverse old.following.items) (list_in (slice_set frames.items (frames.len - 1) g)) _ _ (list_set frames.items frames.len f g all here))

pub returns-in-Ok-clause-fit : goal.returns-in-Ok-clause-fit
returns-in-Ok-clause-fit c =
    let old = c.args.frames.now in
    let frames = old.list in
    let f = c.in-Some.frame.now in
    let all : frames.len ≡ length frames.items = omega arith in
    let here = last_read frames.items frames.len f all c.in-Some.ensures.item.3.0 c.in-Some.ensures.item.1 in
    let image = c.args.image.now in
    let stands = top_stands image c.requires.sound old c.requires.fit c.requires.room frames.len f all here in
    let paths = top_paths image c.requires.sound old c.requires.fit c.requires.room frames.len f all here in
    let few : c.saturating_sub-here.result < 2 ^ 32 = omega (arith, top_few image c.requires.sound old c.requires.fit c.requires.room frames.len f all here) in
    still_fit image c.requires.sound old c.requires.fit c.requires.room frames.len f all here c.silent_from.new.frame (ap (λ (x : Seen). x.procedure) (c.silent_from.ensures.alike (known c.args.nothing.now) (λ o m e. e)))
    (c.silent_from.ensures.room (depth_of image f.procedure) paths few stands).1

pub returns-in-Ok-clause-room : goal.returns-in-Ok-clause-room
returns-in-Ok-clause-room c =
    let old = c.args.frames.now in
    let frames = old.list in
    let f = c.in-Some.frame.now in
    let all : frames.len ≡ length frames.items = omega arith in
    let here = last_read frames.items frames.len f all c.in-Some.ensures.item.3.0 c.in-Some.ensures.item.1 in
    let image = c.args.image.now in
    let stands = top_stands image c.requires.sound old c.requires.fit c.requires.room frames.len f all here in
    let paths = top_paths image c.requires.sound old c.requires.fit c.requires.room frames.len f all here in
    let few : c.saturating_sub-here.result < 2 ^ 32 = omega (arith, top_few image c.requires.sound old c.requires.fit c.requires.room frames.len f all here) in
    still_roomy image c.requires.sound old c.requires.fit c.requires.room frames.len f all here c.silent_from.new.frame (ap (λ (x : Seen). x.procedure) (c.silent_from.ensures.alike (known c.args.nothing.now) (λ o m e. e)))
    (c.silent_from.ensures.room (depth_of image f.procedure) paths few stands).1

pub returns-in-Err : goal.returns-in-Err
returns-in-Err c =
    let old = c.args.frames.now in
    let frames = old.list in
    let f = c.in-Some.frame.now in
    let all : frames.len ≡ length frames.items = omega arith in
    let here = last_read frames.items frames.len f all c.in-Some.ensures.item.3.0 c.in-Some.ensures.item.1 in
    let image = c.args.image.now in
    let stands = top_stands image c.requires.sound old c.requires.fit c.requires.room frames.len f all here in
    let paths = top_paths image c.requires.sound old c.requires.fit c.requires.room frames.len f all here in
    let few : c.saturating_sub-here.result < 2 ^ 32 = omega (arith, top_few image c.requires.sound old c.requires.fit c.requires.room frames.len f all here) in
    let ok = (c.in-Err.ensures.room (depth_of image f.procedure) paths few stands).0 in
    absurd (cc ok)

pub returns-in_default-clause-stop : goal.returns-in_default-clause-stop
returns-in_default-clause-stop c =
    let frames = c.args.frames.now.list in
    let none : length frames.items ≡ 0 = omega (arith, c.in_default.ensures.item.3) in
    nothing_left c.args.frames.now c.requires.ready none
