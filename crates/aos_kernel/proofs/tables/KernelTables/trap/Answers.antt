use Rattle.std.proofs.Common.{◌≡◌, ◌∙◌, ℕ, sym, ap, subst, List, [], ◌∷◌, ◌++◌}
use Rattle.std.specs.Prelude.{slice_get, Option, Some}
use Rattle.aos_base.specs.Rooted.{Made}
use Rattle.aos_code.specs.declared.report.CallRec.{CallRec}
use Rattle.aos_code.specs.Machine.{Frames, position}
use Rattle.aos_store.specs.Store.{frames_in}
use Rattle.aos_cpu.specs.Turns.{Alike, where_in}
use Rattle.aos_kernel.specs.declared.activity.Activity.{Activity}
use Rattle.aos_kernel.proofs.TablesShown.{shows_trapped, shows_same, shown_same, live_same, turn_same, on_err}
use Rattle.aos_kernel.proofs.tables.KernelTables.trap.Goals as goal

pub returns-in_err-reserve_trap-clause-err : goal.returns-in_err-reserve_trap-clause-err
returns-in_err-reserve_trap-clause-err c = on_err c.from_residual-in_err-reserve_trap.result (shown_same c.args.image.now c.args.self.now c.reserve_trap.new.self c.reserve_trap.ensures.same)

pub returns-clause-ok : goal.returns-clause-ok
returns-clause-ok c earlier st h =
    let image = c.args.image.now in
    let old = c.args.self.now in
    let d = c.reserve_trap.new.self in
    let a = c.args.activity in
    let same = c.reserve_trap.ensures.same in
    let locks = c.in_ok-locks.locks in
    shows_trapped image earlier d st a (shows_same image earlier old d st same h) (turn_same old d a same c.requires.turn) c.push_reserved.new.self c.push_reserved-2.new.self c.set_unwinds.new.activities c.args.number c.args.code c.place_of-module.result locks
    (live_same old d a same c.requires.live)
    (subst (λ (xs : List Activity). (made : ℕ → Option Made) (kept : Activity) (fs : Frames) → slice_get xs a ≡ Some kept → Alike image made fs (frames_in kept.frames) → position image fs ≡ where_in c.place_of-module.result) c.deref-2.ensures.value c.place_of-module.ensures)
    (λ made kept fs at. c.in_ok-locks.ensures made kept fs (subst (λ (xs : List Activity). slice_get xs a ≡ Some kept) (same.activities ∙ sym c.deref.ensures.value) at))
    (c.push_reserved.ensures.items ∙ ap (λ (calls : List CallRec). d.traps.items ++ record { number = c.args.number; code = c.args.code; activity = a; «module» = c.place_of-module.result.0; pos = c.place_of-module.result.1; restart = 0; calls = calls } ∷ []) c.none.ensures)
    c.push_reserved-2.ensures.items c.set_unwinds.ensures
