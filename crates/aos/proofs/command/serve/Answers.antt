use Rattle.std.proofs.Common.{[], sym, ap, ◌∙◌, subst}
use Rattle.aos_words.specs.Words.{Run, Replay, Check, List_, Gen, borrowed, AreFew, IsInRange}
use Rattle.aos_words.specs.Shown.{command_in}
use Rattle.aos.specs.Call.{shelf_use}
use Rattle.aos.specs.Shown.{Serves, ServesTexts}
use Rattle.aos.proofs.Causes.{on_answer, serves_along, serves_with_along}
use Rattle.aos.proofs.Fetching.{none_had}
use Rattle.aos.proofs.command.serve.Goals as goal

pub run_files-requires-clause-set : goal.run_files-requires-clause-set
run_files-requires-clause-set g c = λ _. λ _.
    let range = subst (λ x. IsInRange (command_in x)) c.in-Run.is c.requires in
    record { workers_in = range.workers_in; budget_in = range.budget_in }

pub run_files-requires-clause-few : goal.run_files-requires-clause-few
run_files-requires-clause-few g c = λ _. λ _.
    let range = subst (λ x. IsInRange (command_in x)) c.in-Run.is c.requires in
    subst (λ fs. AreFew (borrowed fs)) (sym c.deref.ensures.value) range.files_in

pub returns-in-Run : goal.returns-in-Run
returns-in-Run g c =
    let run = c.in-Run in
    serves_along (Run run.workers run.budget run.log (borrowed c.deref.result.now)) (command_in c.args.command) (shelf_use g.F.Shelf c.args.shelf.now c.run_files.new.shelf) _ c.run_files.result
    (ap command_in run.is ∙ ap (λ fs. Run run.workers run.budget run.log (borrowed fs)) (sym c.deref.ensures.value)) c.run_files.ensures

pub replay_files-requires : goal.replay_files-requires
replay_files-requires g c = subst (λ fs. AreFew (borrowed fs)) (sym c.deref-in-Replay.ensures.value) (subst (λ x. IsInRange (command_in x)) c.in-Replay.is c.requires)

pub returns-in-Replay : goal.returns-in-Replay
returns-in-Replay g c =
    let script = c.in-Replay.script.now in
    let watch = c.in-Replay.watch in
    serves_with_along (Replay script watch (borrowed c.deref-in-Replay.result.now)) (command_in c.args.command) (shelf_use g.F.Shelf c.args.shelf.now c.replay_files.new.shelf) _ c.replay_files.result
    (ap command_in c.in-Replay.is ∙ ap (λ fs. Replay script watch (borrowed fs)) (sym c.deref-in-Replay.ensures.value)) c.replay_files.ensures

pub tell_files-requires : goal.tell_files-requires
tell_files-requires g c = subst (λ fs. AreFew (borrowed fs)) (sym c.deref-in-Check.ensures.value) (subst (λ x. IsInRange (command_in x)) c.in-Check.is c.requires)

pub returns-in-Check : goal.returns-in-Check
returns-in-Check g c =
    serves_along (Check (borrowed c.deref-in-Check.result.now)) (command_in c.args.command) (shelf_use g.F.Shelf c.args.shelf.now c.tell_files.new.shelf) _ c.tell_files.result
    (ap command_in c.in-Check.is ∙ ap (λ fs. Check (borrowed fs)) (sym c.deref-in-Check.ensures.value)) c.tell_files.ensures

pub tell_files-requires-in-List : goal.tell_files-requires-in-List
tell_files-requires-in-List g c = subst (λ fs. AreFew (borrowed fs)) (sym c.deref-in-List.ensures.value) (subst (λ x. IsInRange (command_in x)) c.in-List.is c.requires)

pub returns-in-List : goal.returns-in-List
returns-in-List g c =
    serves_along (List_ (borrowed c.deref-in-List.result.now)) (command_in c.args.command) (shelf_use g.F.Shelf c.args.shelf.now c.tell_files-in-List.new.shelf) _ c.tell_files-in-List.result
    (ap command_in c.in-List.is ∙ ap (λ fs. List_ (borrowed fs)) (sym c.deref-in-List.ensures.value)) c.tell_files-in-List.ensures

pub run_pairs-requires-after_bounds : goal.run_pairs-requires-after_bounds
run_pairs-requires-after_bounds g c κs within = subst (λ x. IsInRange (command_in x)) c.in-Gen.is c.requires

pub returns-in-Gen : goal.returns-in-Gen
returns-in-Gen g c =
    let made = c.in-Gen in
    serves_along (Gen made.workers made.pairs) (command_in c.args.command) (shelf_use g.F.Shelf c.args.shelf.now c.args.shelf.now) _ c.run_pairs.result
    (ap command_in made.is)
    (on_answer (ServesTexts (Gen made.workers made.pairs) []) (Serves (Gen made.workers made.pairs) (shelf_use g.F.Shelf c.args.shelf.now c.args.shelf.now)) c.run_pairs.result
    (λ a serves. serves (shelf_use g.F.Shelf c.args.shelf.now c.args.shelf.now) (none_had (g.F.Shelf.texts c.args.shelf.now)))
    c.run_pairs.ensures)
