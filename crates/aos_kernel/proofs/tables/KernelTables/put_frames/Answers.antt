use Rattle.std.proofs.Common.{refl, sym, ◌∙◌}
use Rattle.std.specs.Prelude.{Some, slice_get}
use Rattle.std.specs.Vec.{with_item}
use Rattle.std.proofs.lemmas.Option.{slice_get_read, slice_get_past}
use Rattle.aos_cpu.proofs.Turns.{none_other}
use Rattle.aos_kernel.specs.declared.activity.Next.TheVariants.{Runs}
use Rattle.aos_kernel.specs.declared.activity.Activity.{Activity}
use Rattle.aos_kernel.proofs.TablesShown.{here_turns, shows_put}
use Rattle.aos_kernel.proofs.tables.KernelTables.put_frames.Goals as goal

pub returns-in-Some : goal.returns-in-Some
returns-in-Some c image earlier st h fs now none runs alike tallied fits =
    let d = c.args.self.now in
    let a = c.args.activity in
    let kept = c.in-Some.kept.now in
    let was = slice_get_read d.activities.items _ a kept refl c.in-Some.ensures.item.3.0 c.in-Some.ensures.item.1 in
    let new : Activity = record kept { next = Runs; frames = c.args.frames } in
    shows_put image earlier d st a h c.requires (with_item d.activities a new) c.args.frames kept c.spent_after-self.result fs now was refl none runs alike tallied fits c.spent_after-self.ensures

pub returns-in_default : goal.returns-in_default
returns-in_default c image earlier st h fs now none runs alike tallied fits =
    let d = c.args.self.now in
    let k = here_turns image earlier d st c.args.activity h c.requires in
    absurd (none_other k.0 (sym (slice_get_past d.activities.items c.args.activity c.in_default.ensures.item.3) ∙ k.1))
