use Rattle.std.proofs.Common.{length, arith, ◌≡◌, ◌<◌, ◌≢◌, true, false, refl, sym, ◌∙◌, subst}
use Rattle.std.specs.Prelude.{Bool, nat_le, ◌||◌}
use Rattle.std.proofs.lemmas.Result.{on_ok_weaker}
use Rattle.aos_base.specs.declared.limits.TheConstants.{MOST_LIVE, MOST_STARTED}
use Rattle.aos_base.specs.declared.kernel.Did.TheVariants.{Start}
use Rattle.aos_base.specs.Book.{is_full, born}
use Rattle.aos_base.specs.Machine.{start}
use Rattle.aos_code.specs.Machine.{Frames, body_of, machine}
use Rattle.aos_cpu.specs.Turns.{StandsAtWork}
use Rattle.aos_kernel.specs.Shows.{Shows}
use Rattle.aos_kernel.proofs.Rows.{runs_live, put_other, not_full}
use Rattle.aos_kernel.proofs.TablesShown.{full_is, turn_there, turns_no_wait}
use Rattle.aos_kernel.proofs.tables.KernelTables.start.Goals as goal

pub returns-then-is_full_with-clause-ok : goal.returns-then-is_full_with-clause-ok
returns-then-is_full_with-clause-ok c =
    let d = c.args.self.now in
    let started : c.len.result ≡ length d.activities.items = omega arith in
    on_ok_weaker c.trap.result
    (λ done earlier st h work.
    let full : is_full st.book ≡ true = full_is c.args.image.now earlier d st c.live.result c.len.result h (c.live.ensures.length st.book.line st.book.owner h.stands) started ∙ sym c.is_full_with.ensures ∙ c.if-is_full_with.true in
    subst (λ (q : Bool). Shows c.args.image.now earlier c.trap.new.self (start (machine c.args.image.now) c.args.activity c.args.object q st)) (sym full) (done earlier st h))
    c.trap.ensures.ok

pub returns-in_ok-bear-clause-ok : goal.returns-in_ok-bear-clause-ok
unfolding born
returns-in_ok-bear-clause-ok c earlier st h work =
    let image = c.args.image.now in
    let d = c.args.self.now in
    let a = c.args.activity in
    let started : c.len.result ≡ length d.activities.items = omega arith in
    let room : is_full st.book ≡ false = full_is image earlier d st c.live.result c.len.result h (c.live.ensures.length st.book.line st.book.owner h.stands) started ∙ sym c.is_full_with.ensures ∙ c.if-is_full_with.false in
    let born = c.in_ok-bear.ensures.born earlier st h in
    let there = turn_there image earlier d st a h c.requires.turn in
    let other : a ≢ st.book.started = λ e. absurd (omega (arith, there, e)) in
    let past = c.go_past.ensures.past image earlier _ born refl (turns_no_wait image earlier c.bear.new.self _ a born c.in_ok-bear.ensures.turn) (c.in_ok-bear.ensures.before (Start c.args.object) c.requires.before)
    (subst (λ (fs : Frames). StandsAtWork image (Start c.args.object) fs.frames) (sym (put_other st.frames st.book.started (body_of image st.store c.args.object) a other)) work) in
    subst (λ (q : Bool). Shows image earlier c.go_past.new.self (start (machine image) a c.args.object q st)) (sym room) past

pub trap-requires-clause-live : goal.trap-requires-clause-live
trap-requires-clause-live c kept at = runs_live kept.next (c.requires.before kept at).0

pub bear-requires-clause-started : goal.bear-requires-clause-started
bear-requires-clause-started c =
    let room : (nat_le MOST_LIVE c.live.result || nat_le MOST_STARTED c.len.result) ≡ false = sym c.is_full_with.ensures ∙ c.if-is_full_with.false in
    let started : c.len.result ≡ length c.args.self.now.activities.items = omega arith in
    subst (λ n. n < MOST_STARTED) started (not_full c.live.result c.len.result room).1

pub bear-requires-clause-live : goal.bear-requires-clause-live
bear-requires-clause-live c =
    let room : (nat_le MOST_LIVE c.live.result || nat_le MOST_STARTED c.len.result) ≡ false = sym c.is_full_with.ensures ∙ c.if-is_full_with.false in
    subst (λ n. n < MOST_LIVE) c.live.ensures.live (not_full c.live.result c.len.result room).0
