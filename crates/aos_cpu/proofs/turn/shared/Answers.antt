use Rattle.std.proofs.Common.{sym, ap, ◌∙◌, subst}
use Rattle.aos_code.specs.Memory.{Memory}
use Rattle.aos_code.specs.Machine.{made_in}
use Rattle.aos_store.specs.Store.{list_in, memory_in}
use Rattle.aos_silent_steps.specs.declared.silent.Stop.TheVariants.{Work as AtWork}
use Rattle.aos_silent_steps.proofs.Oks.{ok_more}
use Rattle.aos_cpu.specs.Turns.{IsTurned, Rests, WhereLeft, StandsAtStop, counted}
use Rattle.aos_cpu.proofs.InPlace.{went_in_place, turned_behind, rests_behind, left_more}
use Rattle.aos_cpu.proofs.turn.shared.Goals as goal

pub work-requires-clause-place : goal.work-requires-clause-place
work-requires-clause-place c = c.in-Asks.ensures.tried.2

pub work-requires-clause-stands : goal.work-requires-clause-stands
work-requires-clause-stands c =
    let image = c.args.image.now in
    subst (λ (m : Memory). StandsAtStop image (made_in image m) (AtWork c.in-Asks.question c.in-Asks.at) (list_in c.turn_in_place.new.frames.list.items)) (sym c.in-Asks.ensures.tried.0.1) c.in-Asks.ensures.tried.1

pub returns-in-Asks-clause-ok : goal.returns-in-Asks-clause-ok
returns-in-Asks-clause-ok c =
    let image = c.args.image.now in
    let mem = memory_in c.args.store.now in
    let was = memory_in c.turn_in_place.new.store in
    let now = memory_in c.work.new.store in
    let old = c.args.frames.now in
    let mid = c.turn_in_place.new.frames in
    let new = c.work.new.frames in
    let before = c.args.output.now.items in
    let after = c.work.new.output.items in
    ok_more c.work.result (λ did. IsTurned image did mid new was now before after) (λ did. IsTurned image did old new mem now before after)
    (λ did turned. turned_behind image did old mid new mem was now before after c.in-Asks.ensures.tried.0 c.turn_in_place.ensures.counts.0 turned) c.work.ensures.ok

pub returns-in-Asks-clause-left : goal.returns-in-Asks-clause-left
returns-in-Asks-clause-left c =
    let image = c.args.image.now in
    let mem = memory_in c.args.store.now in
    let was = memory_in c.turn_in_place.new.store in
    let now = memory_in c.work.new.store in
    let old = c.args.frames.now in
    let mid = c.turn_in_place.new.frames in
    let new = c.work.new.frames in
    let before = c.args.output.now.items in
    let after = c.work.new.output.items in
    ok_more c.work.result (λ did. WhereLeft did (Rests image mid new was now before after)) (λ did. WhereLeft did (Rests image old new mem now before after))
    (λ did left. left_more did (Rests image mid new was now before after) (Rests image old new mem now before after)
    (λ rests. rests_behind image old mid new mem was now before after c.in-Asks.ensures.tried.0 c.turn_in_place.ensures.counts.0 rests) left)
    c.work.ensures.left

pub returns-in-Nothing-clause-ok : goal.returns-in-Nothing-clause-ok
returns-in-Nothing-clause-ok c =
    let image = c.args.image.now in
    let mem = memory_in c.args.store.now in
    let was = memory_in c.turn_in_place.new.store in
    let now = memory_in c.by_stop.new.store in
    let old = c.args.frames.now in
    let mid = c.turn_in_place.new.frames in
    let new = c.by_stop.new.frames in
    let before = c.args.output.now.items in
    let after = c.by_stop.new.output.items in
    ok_more c.by_stop.result (λ did. IsTurned image did mid new was now before after) (λ did. IsTurned image did old new mem now before after)
    (λ did turned. turned_behind image did old mid new mem was now before after c.in-Nothing.ensures.tried c.turn_in_place.ensures.counts.0 turned) c.by_stop.ensures.ok

pub returns-in-Nothing-clause-left : goal.returns-in-Nothing-clause-left
returns-in-Nothing-clause-left c =
    let image = c.args.image.now in
    let mem = memory_in c.args.store.now in
    let was = memory_in c.turn_in_place.new.store in
    let now = memory_in c.by_stop.new.store in
    let old = c.args.frames.now in
    let mid = c.turn_in_place.new.frames in
    let new = c.by_stop.new.frames in
    let before = c.args.output.now.items in
    let after = c.by_stop.new.output.items in
    ok_more c.by_stop.result (λ did. WhereLeft did (Rests image mid new was now before after)) (λ did. WhereLeft did (Rests image old new mem now before after))
    (λ did left. left_more did (Rests image mid new was now before after) (Rests image old new mem now before after)
    (λ rests. rests_behind image old mid new mem was now before after c.in-Nothing.ensures.tried c.turn_in_place.ensures.counts.0 rests) left)
    c.by_stop.ensures.left

pub returns-in-Turned-clause-ok : goal.returns-in-Turned-clause-ok
returns-in-Turned-clause-ok c =
    went_in_place c.args.image.now c.in-Turned.begins (memory_in c.args.store.now) (memory_in c.turn_in_place.new.store) c.args.frames.now (record c.turn_in_place.new.frames { begun = c.count-frames.result }) c.args.output.now.items
    c.in-Turned.ensures.tried (c.count-frames.ensures ∙ ap (counted c.in-Turned.begins) c.turn_in_place.ensures.counts.0)

pub returns-in-Nothing-clause-fit : goal.returns-in-Nothing-clause-fit
returns-in-Nothing-clause-fit c whole fit = c.by_stop.ensures.fit whole (c.turn_in_place.ensures.fit whole fit)

pub returns-in-Asks-clause-fit : goal.returns-in-Asks-clause-fit
returns-in-Asks-clause-fit c whole fit = c.work.ensures.fit whole (c.turn_in_place.ensures.fit whole fit)

pub returns-in-Turned-clause-fit : goal.returns-in-Turned-clause-fit
returns-in-Turned-clause-fit c whole fit = c.turn_in_place.ensures.fit whole fit
