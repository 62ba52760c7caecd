use Rattle.std.proofs.Common.{refl, subst}
use Rattle.std.specs.Prelude.{Option}
use Rattle.aos_base.specs.declared.kernel.Did.TheVariants.{Ended as NoFrame}
use Rattle.aos_code.specs.Machine.{made_in}
use Rattle.aos_store.specs.Store.{frames_in, memory_in}
use Rattle.aos_silent_steps.specs.declared.silent.Stop.{Stop}
use Rattle.aos_silent_steps.proofs.Oks.{ok_more}
use Rattle.aos_cpu.specs.Turns.{HasCome, IsTurned}
use Rattle.aos_cpu.proofs.Turns.{ended_turned}
use Rattle.aos_cpu.proofs.InPlace.{turned_behind}
use Rattle.aos_cpu.proofs.turn.by_stop.Goals as goal

pub returns-in-None-clause-ok : goal.returns-in-None-clause-ok
returns-in-None-clause-ok c fs h =
    let image = c.args.image.now in
    let mem = memory_in c.args.store.now in
    let old = c.args.frames.now in
    let mid = c.come_to_stop.new.frames in
    let out = c.args.output.now.items in
    let none = subst (λ (o : Option Stop). HasCome image (made_in image mem) o (frames_in mid)) c.in-None.is c.in_ok-come_to_stop.ensures.stop in
    turned_behind image NoFrame old mid mid mem mem mem out out (c.come_to_stop.ensures.alike, refl) c.come_to_stop.ensures.counts.0 (ended_turned image mid mem out none) fs h

pub returns-in-Some-clause-ok : goal.returns-in-Some-clause-ok
returns-in-Some-clause-ok c =
    let image = c.args.image.now in
    let mem = memory_in c.args.store.now in
    let now = memory_in c.finish.new.store in
    let old = c.args.frames.now in
    let mid = c.come_to_stop.new.frames in
    let new = c.finish.new.frames in
    let before = c.args.output.now.items in
    let after = c.finish.new.output.items in
    ok_more c.finish.result (λ did. IsTurned image did mid new mem now before after) (λ did. IsTurned image did old new mem now before after)
    (λ did turned. turned_behind image did old mid new mem mem now before after (c.come_to_stop.ensures.alike, refl) c.come_to_stop.ensures.counts.0 turned) c.finish.ensures.ok

pub returns-in-Some-clause-fit : goal.returns-in-Some-clause-fit
returns-in-Some-clause-fit c whole fit = c.finish.ensures.fit whole (c.come_to_stop.ensures.fit whole fit)
