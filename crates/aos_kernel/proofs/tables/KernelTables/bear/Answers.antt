use Rattle.std.proofs.Common.{◌++◌, ◌∷◌, [], refl, ◌≡◌, ◌≢◌, ◌<◌, suc, sym, ap, ◌∙◌, arith, subst}
use Rattle.std.specs.Prelude.{length, slice_get}
use Rattle.aos_base.specs.declared.limits.TheConstants.{MOST_LIVE, MOST_STARTED}
use Rattle.aos_base.specs.declared.kernel.Event.TheVariants.{Start}
use Rattle.aos_base.specs.declared.priority.Priority.{Priority}
use Rattle.aos_base.specs.Book.{born, move, Ready}
use Rattle.aos_base.specs.Machine.{on_book, with_frames}
use Rattle.aos_code.specs.Machine.{body_of, opened, priority_of}
use Rattle.aos_code.specs.Memory.{Memory}
use Rattle.aos_store.specs.Store.{frames_in, memory_in}
use Rattle.aos_cpu.specs.Turns.{seen_frames}
use Rattle.aos_ready.specs.Order.{number_of}
use Rattle.aos_scheduler.specs.Stands.{Stands, started_of}
use Rattle.aos_scheduler.proofs.Standing.{on_within}
use Rattle.aos_kernel.specs.declared.activity.Activity.{Activity}
use Rattle.aos_kernel.specs.declared.activity.Next.TheVariants.{Runs}
use Rattle.aos_kernel.specs.declared.tables.KernelTables.{KernelTables}
use Rattle.aos_kernel.specs.Shows.{Shows}
use Rattle.aos_kernel.proofs.Fits.{born_fits}
use Rattle.aos_kernel.proofs.Rows.{get_before, longer_by}
use Rattle.aos_kernel.proofs.TablesShown.{shows_born, shows_same, shown_same, turn_same, on_err}
use Rattle.aos_kernel.proofs.tables.KernelTables.bear.Goals as goal

pub reserve_activity-requires : goal.reserve_activity-requires
reserve_activity-requires c = let n : started_of c.args.self.now.line ≡ length c.args.self.now.activities.items = c.requires.turn.counted in omega (arith, n, c.requires.started)

pub bear-requires-clause-stood : goal.bear-requires-clause-stood
bear-requires-clause-stood c = (turn_same c.args.self.now c.reserve_activity.new.self c.args.activity c.reserve_activity.ensures.same c.requires.turn).on.stood

pub bear-requires-clause-live : goal.bear-requires-clause-live
bear-requires-clause-live c = subst (λ n. n < MOST_LIVE) (sym c.reserve_activity.ensures.same.live) c.requires.live

pub bear-requires-clause-started : goal.bear-requires-clause-started
bear-requires-clause-started c =
    let n : started_of c.args.self.now.line ≡ length c.args.self.now.activities.items = c.requires.turn.counted in
    let m : started_of c.reserve_activity.new.self.line ≡ started_of c.args.self.now.line = ap length c.reserve_activity.ensures.same.places in
    omega (arith, n, m, c.requires.started)

pub returns-in_err-reserve_activity-clause-err : goal.returns-in_err-reserve_activity-clause-err
returns-in_err-reserve_activity-clause-err c = on_err c.from_residual-in_err-reserve_activity.result (shown_same c.args.image.now c.args.self.now c.reserve_activity.new.self c.reserve_activity.ensures.same)

pub returns-clause-before : goal.returns-clause-before
returns-clause-before c left before kept at =
    let d = c.args.self.now in
    let a = c.args.activity in
    let lt : a < length d.activities.items = subst (λ n. a < n) c.requires.turn.counted (on_within d.line a c.requires.turn.on) in
    let other : a ≢ length d.activities.items = λ e. absurd (omega (arith, lt, e)) in
    let new : Activity = record { priority = c.priority_of_object-priority.result; next = Runs; condition = 0; locks = c.new.result; frames = c.in_ok-frames.frames } in
    let is = c.push_reserved.ensures.items ∙ ap (λ xs. xs ++ new ∷ []) c.reserve_activity.ensures.same.activities in
    before kept (get_before d.activities.items new a kept other (sym (ap (λ xs. slice_get xs a) is) ∙ at))

pub returns-clause-turn : goal.returns-clause-turn
returns-clause-turn c =
    let d = c.args.self.now in
    let mid = c.reserve_activity.new.self in
    let turn = turn_same d mid c.args.activity c.reserve_activity.ensures.same c.requires.turn in
    let new : Activity = record { priority = c.priority_of_object-priority.result; next = Runs; condition = 0; locks = c.new.result; frames = c.in_ok-frames.frames } in
    record {
      on = c.bear.ensures.on c.args.activity turn.on;
      counted = c.bear.ensures.started ∙ ap suc turn.counted ∙ sym (ap length c.push_reserved.ensures.items ∙ longer_by mid.activities.items new);
    }

pub returns-clause-born : goal.returns-clause-born
returns-clause-born c earlier st h =
    let image = c.args.image.now in
    let d = c.reserve_activity.new.self in
    let same = c.reserve_activity.ensures.same in
    let h1 = shows_same image earlier c.args.self.now d st same h in
    let n = c.len-number.result in
    let frames = c.in_ok-frames.frames in
    let body : body_of image st.store c.args.object ≡ frames_in frames =
    ap (λ (m : Memory). body_of image m c.args.object) h.store ∙ sym c.in_ok-frames.ensures.frames in
    let few : length c.args.self.now.activities.items < MOST_STARTED = c.requires.started in
    let last : n ≡ length d.activities.items = omega (arith, ap length same.activities) in
    let less : length d.activities.items < MOST_STARTED = subst (λ xs. length xs < MOST_STARTED) (sym same.activities) few in
    let prior = c.priority_of_object-priority.result in
    let level : prior ≡ priority_of image st.store c.args.object =
    c.priority_of_object-priority.ensures ∙ sym (ap (λ (m : Memory). priority_of image m c.args.object) h.store) in
    let now : KernelTables = record d { activities = c.push_reserved.new.self; line = c.bear.new.self; events = c.push_reserved-2.new.self } in
    subst (λ (p : Priority). Shows image earlier now (on_book (born (number_of p)) (with_frames st.book.started (body_of image st.store c.args.object) st))) level
    (shows_born image earlier d st prior (length d.activities.items) c.push_reserved.new.self c.bear.new.self c.push_reserved-2.new.self c.new.result frames (body_of image st.store c.args.object)
    refl less c.push_reserved.ensures.items (subst (λ k. Stands c.bear.new.self (move k (Ready (number_of prior)) st.book.line) st.book.owner) h1.counted (c.bear.ensures.stands st.book.line st.book.owner h1.stands)) c.bear.ensures.started (c.push_reserved-2.ensures.items ∙ ap (λ m. d.events.items ++ Start m ∷ []) last)
    c.in_ok-frames.ensures.begun (λ all knows. ap (λ fs. seen_frames image all (opened fs)) body)
    (born_fits image (memory_in c.args.self.now.store) c.args.object frames c.in_ok-frames.ensures.frames c.in_ok-frames.ensures.room) h1)
