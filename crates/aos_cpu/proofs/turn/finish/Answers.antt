use Rattle.std.proofs.Common.{refl, subst}
use Rattle.aos_store.specs.Store.{list_in, memory_in}
use Rattle.aos_base.specs.declared.kernel.Did.TheVariants.{Went, Trapped}
use Rattle.aos_silent_steps.specs.declared.silent.Stop.{Stop}
use Rattle.aos_silent_steps.specs.declared.silent.Stop.TheVariants.{Fails as AtFault, Decides as AtVerdict}
use Rattle.aos_sound.specs.FitFrames.{depth_of}
use Rattle.aos_silent_steps.specs.Known.{known}
use Rattle.aos_silent_steps.specs.Room.{keeps_for}
use Rattle.aos_cpu.specs.Turns.{StandsAtStop}
use Rattle.aos_cpu.proofs.Turns.{begun_shown, failed_shown, shown_alike}
use Rattle.aos_cpu.proofs.Fitting.{begun_stay}
use Rattle.aos_cpu.proofs.turn.finish.Goals as goal

pub work-requires-clause-stands : goal.work-requires-clause-stands
work-requires-clause-stands c = subst (λ (s : Stop). StandsAtStop c.args.image.now (known c.args.store.now.objects) s (list_in c.args.frames.now.list.items)) c.in-Work.is c.requires

pub returns-in-Work-clause-ok : goal.returns-in-Work-clause-ok
returns-in-Work-clause-ok c = c.work.ensures.ok

pub returns-in-Work-clause-before : goal.returns-in-Work-clause-before
returns-in-Work-clause-before c = c.work.ensures.before

pub returns-in-Begins-clause-ok : goal.returns-in-Begins-clause-ok
returns-in-Begins-clause-ok c fs h =
    let image = c.args.image.now in
    let old = c.args.frames.now in
    let new = c.begin_statement.new.frames in
    let mem = memory_in c.args.store.now in
    let out = c.args.output.now.items in
    let stands = subst (λ (s : Stop). StandsAtStop image (known c.args.store.now.objects) s (list_in old.list.items)) c.in-Begins.is c.requires in
    shown_alike image old new mem mem fs Went out out h (begun_shown image c.in-Begins.at c.in-Begins.pos old new mem out stands c.begin_statement.ensures.frames c.begin_statement.ensures.following c.begin_statement.ensures.begun)

pub returns-in-Fails-clause-ok : goal.returns-in-Fails-clause-ok
returns-in-Fails-clause-ok c fs h =
    let image = c.args.image.now in
    let old = c.args.frames.now in
    let mem = memory_in c.args.store.now in
    let out = c.args.output.now.items in
    let stands = subst (λ (s : Stop). StandsAtStop image (known c.args.store.now.objects) s (list_in old.list.items)) c.in-Fails.is c.requires in
    shown_alike image old old mem mem fs (Trapped c.in-Fails.number c.in-Fails.code) out out h (failed_shown image (AtFault c.in-Fails.number c.in-Fails.code) c.in-Fails.number c.in-Fails.code old mem out (λ following f gs is. refl) stands)

-- a condition's end is the end of none here
pub returns-in-Decides-clause-ok : goal.returns-in-Decides-clause-ok
returns-in-Decides-clause-ok c fs h =
    let image = c.args.image.now in
    let old = c.args.frames.now in
    let mem = memory_in c.args.store.now in
    let out = c.args.output.now.items in
    let stands = subst (λ (s : Stop). StandsAtStop image (known c.args.store.now.objects) s (list_in old.list.items)) c.in-Decides.is c.requires in
    shown_alike image old old mem mem fs (Trapped 16 0) out out h (failed_shown image (AtVerdict c.in-Decides.field-0) 16 0 old mem out (λ following f gs is. refl) stands)

pub returns-in-Begins-clause-fit : goal.returns-in-Begins-clause-fit
returns-in-Begins-clause-fit c =
    let image = c.args.image.now in
    let made = known c.args.store.now.objects in
    let old = c.args.frames.now in
    let stands = subst (λ (s : Stop). StandsAtStop image made s (list_in old.list.items)) c.in-Begins.is c.requires in
    let begun = c.begin_statement.ensures in
    begun_stay image made c.in-Begins.at c.in-Begins.pos old c.begin_statement.new.frames stands begun.frames begun.following (begun.room (depth_of image) (keeps_for image))
