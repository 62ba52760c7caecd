use Rattle.std.proofs.Common.{subst}
use Rattle.std.specs.Prelude.{Option}
use Rattle.aos_code.specs.Memory.{Memory}
use Rattle.aos_code.specs.Machine.{made_in}
use Rattle.aos_store.specs.Store.{list_in, frames_in, memory_in}
use Rattle.aos_silent_steps.specs.declared.silent.Stop.{Stop}
use Rattle.aos_silent_steps.proofs.Oks.{ok_more}
use Rattle.aos_cpu.specs.Turns.{Alike, HasCome, StandsAtStop}
use Rattle.aos_cpu.specs.Private.{HasTried}
use Rattle.aos_cpu.proofs.Own.{tried_behind}
use Rattle.aos_cpu.proofs.alone.make_private.Goals as goal

pub is_own_stop-requires : goal.is_own_stop-requires
is_own_stop-requires c =
    let image = c.args.image.now in
    let mid = c.come_to_stop.new.frames in
    let come = subst (λ (o : Option Stop). HasCome image (made_in image (memory_in c.args.store.now)) o (frames_in mid)) c.in-Some.is c.in_ok-come_to_stop.ensures.stop in
    subst (λ (m : Memory). StandsAtStop image (made_in image m) c.in-Some.stop (list_in mid.list.items)) c.requires.memory come

pub make_own-requires-clause-stands : goal.make_own-requires-clause-stands
make_own-requires-clause-stands c =
    let image = c.args.image.now in
    let mid = c.come_to_stop.new.frames in
    let come = subst (λ (o : Option Stop). HasCome image (made_in image (memory_in c.args.store.now)) o (frames_in mid)) c.in-Some.is c.in_ok-come_to_stop.ensures.stop in
    subst (λ (m : Memory). StandsAtStop image (made_in image m) c.in-Some.stop (list_in mid.list.items)) c.requires.memory come

pub returns-then-is_own_stop-clause-ok : goal.returns-then-is_own_stop-clause-ok
returns-then-is_own_stop-clause-ok c =
    let image = c.args.image.now in
    let old = c.args.frames.now in
    let mid = c.come_to_stop.new.frames in
    let alike = subst (λ (m : Memory). Alike image (made_in image m) (frames_in old) (frames_in mid)) c.requires.memory c.come_to_stop.ensures.alike in
    ok_more c.make_own.result (λ is. HasTried image is mid c.make_own.new.frames) _ (λ is tried. tried_behind image is old mid c.make_own.new.frames alike c.come_to_stop.ensures.counts tried) c.make_own.ensures.ok

pub returns-then-is_own_stop-clause-fit : goal.returns-then-is_own_stop-clause-fit
returns-then-is_own_stop-clause-fit c whole fit = c.make_own.ensures.fit whole (c.come_to_stop.ensures.fit whole fit)
