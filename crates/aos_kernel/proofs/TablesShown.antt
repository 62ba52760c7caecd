-- The tables after an operation show the state after it.
use Rattle.std.proofs.Common.{◌≡◌, ◌≢◌, ℕ, suc, ◌<◌, ◌≤◌, ◌^◌, List, [], ◌∷◌, ◌++◌, Bool, true, false, inl, inr, refl, sym, ◌∙◌, ap, subst, arith, length, map, reverse, append_assoc}
use Rattle.std.specs.Prelude.{if◌then◌else◌, ◌||◌, nat_le, nat_lt, Option, Some, None, nat_eq, slice_get, slice_set, Vec, Result, Ok, Err, OnOk, OnErr}
use Rattle.std.specs.declared.alloc.Global.{Global}
use Rattle.std.proofs.lemmas.List.{length-set, map-append}
use Rattle.std.proofs.lemmas.Bool.Decides.{leb_tells}
use Rattle.std.proofs.lemmas.Option.{slice_get_within}
use Rattle.aos_base.specs.declared.limits.TheConstants.{MOST_LIVE, MOST_STARTED}
use Rattle.aos_base.specs.declared.kernel.Event.{Event}
use Rattle.aos_base.specs.declared.kernel.Event.TheVariants as event
use Rattle.aos_base.specs.declared.kernel.LockName.{LockName}
use Rattle.aos_base.specs.declared.kernel.Did.{Did}
use Rattle.aos_base.specs.declared.kernel.Did.TheVariants.{Went, Ended, Enter, Leave, Await, Start, Trapped}
use Rattle.aos_base.specs.declared.text.Pos.{Pos}
use Rattle.aos_base.specs.declared.priority.Priority.{Priority}
use Rattle.aos_base.specs.Rooted.{Made}
use Rattle.aos_base.specs.Lock.{Wants, Entry, Condition}
use Rattle.aos_base.specs.Book as book
use Rattle.aos_base.specs.Book.{put, place_of, leave_line, move, stands, ready, next_is, counted, spent_by, trapped, ended, may_restart, born, is_full}
use Rattle.aos_base.specs.Machine.{State, on_book, with_frames, go_past, trap, turned, finish, turn_by}
use Rattle.aos_code.specs.declared.instr.Cell.{Cell}
use Rattle.aos_code.specs.declared.image.Image.{Image}
use Rattle.aos_code.specs.declared.report.TrapRec.{TrapRec}
use Rattle.aos_code.specs.Memory.{Memory}
use Rattle.aos_code.specs.Machine.{Frames, machine, made_in, past, position, regions_of, turn}
use Rattle.aos_store.specs.declared.frames.Frames.{Frames as Kept}
use Rattle.aos_store.specs.declared.memory.Store.{Store}
use Rattle.aos_store.specs.Store.{list_in, frames_in, memory_in}
use Rattle.aos_sound.specs.FitFrames.{IsSoundImage, depth_of}
use Rattle.aos_silent_steps.specs.Known.{Knows}
use Rattle.aos_silent_steps.specs.Room.{keeps_for, FitInRoom, StayFit}
use Rattle.aos_cpu.proofs.Turns.{alike_both, none_other, some_same}
use Rattle.aos_cpu.proofs.Fitting.{same_stay}
use Rattle.aos_cpu.proofs.Growing.{turn_grows}
use Rattle.aos_cpu.specs.Turns.{where_in, Alike, Shown, Rests, IsBefore, WhereLeft}
use Rattle.aos_ready.specs.Order.{number_of}
use Rattle.aos_scheduler.specs.declared.line.Line.{Line}
use Rattle.aos_scheduler.specs.Stands.{Stands, IsOn, started_of}
use Rattle.aos_scheduler.proofs.Readings.{place-moved, place-unmoved, place-gone, place-other}
use Rattle.aos_scheduler.proofs.Standing.{on_place, on_within, on_same}
use Rattle.aos_kernel.specs.declared.activity.Next.{Next}
use Rattle.aos_kernel.specs.declared.activity.Next.TheVariants.{Runs, Lent, WillTrap, Unwinds, Gone}
use Rattle.aos_kernel.specs.declared.activity.Activity.{Activity}
use Rattle.aos_kernel.specs.declared.tables.KernelTables.{KernelTables}
use Rattle.aos_kernel.specs.Run.{rec_of}
use Rattle.aos_kernel.specs.Conditions.{Known, known, SameKnown, HasRooms, IsAwaiting, IsAwaitingSo}
use Rattle.aos_kernel.specs.Shows.{has_frames, next_in, work_at, ShowsFrames, ShowsActivity, IsWaiting, Shows, ShowsSame, HasTurn, IsLive, StandsAtNoLock, StandsBefore, HasSame}
use Rattle.aos_kernel.proofs.Judging.{known_at}
use Rattle.aos_kernel.proofs.Fits.{none_fit}
use Rattle.aos_settling.specs.Settling.{IsTallied}
use Rattle.aos_settling.proofs.Tallies.{not_less}
use Rattle.aos_kernel.proofs.Rows.{put_same, put_other, set_here, get_below, frames_alike, each_grown, each_after, get_before, each_joined, EachShows, not_spent, begun_after, EachWaits, waits_after, no_wait, kept_others}
use Rattle.aos_scheduler.proofs.Members.{each_at}

module _ (image : Image) (earlier : List Event) (d : KernelTables) (st : State Memory Frames) (h : Shows image earlier d st) where
  -- places, owners and events have changed
  pub shows_line : (line : Line) (events : Vec Event Global) (stood : List book.Stand) (owner : LockName → Option ℕ) (told : List Event) → Stands line stood owner → started_of line ≡ started_of d.line → told ≡ earlier ++ events.items →
      EachWaits image d.activities.items stood st.frames → Shows image earlier (record d { line = line; events = events }) (record st { book = record st.book { line = stood; owner = owner; events = told } })
  shows_line line events stood owner told stands count is waiting = record {
    store = h.store;
    stands = stands;
    output = h.output;
    traps = h.traps;
    events = is;
    budget = h.budget;
    spent = h.spent;
    started = h.started;
    few = h.few;
    counted = count ∙ h.counted;
    activities = h.activities;
    room = h.room;
    waiting = waiting;
    unspent = h.unspent;
  }

  -- one event more
  pub one_more : (events : Vec Event Global) (e : Event) → events.items ≡ d.events.items ++ e ∷ [] → st.book.events ++ e ∷ [] ≡ earlier ++ events.items
  one_more events e is = ap (λ x. x ++ e ∷ []) h.events ∙ append_assoc earlier d.events.items (e ∷ []) ∙ ap (λ x. earlier ++ x) (sym is)

  -- who has moved to a place that is no lock doesn't wait
  pub waits_moved : (a : ℕ) (p : book.RunState) → book.is_at_lock p ≡ false → EachWaits image d.activities.items (move a p st.book.line) st.frames
  waits_moved a p out =
      waits_after image d.activities.items d.activities.items st.book.line (move a p st.book.line) st.frames st.frames a (λ l wants at kept is. absurd (no_wait p _ (place-moved a p st.book.line) out l wants at)) (λ x ne. place-unmoved a x p st.book.line ne)
      (λ x kept ne is. is) (λ x ne. refl) h.waiting

  pub here_is : (a : ℕ) → a < st.book.started → (kept : Activity) × (slice_get d.activities.items a ≡ Some kept)
  here_is a there = get_below d.activities.items a (subst (λ n. a < n) h.started there)

  pub shows_stands : (a w : ℕ) (line : Line) → Stands line (move a (book.On w) st.book.line) st.book.owner → started_of line ≡ started_of d.line → Shows image earlier (record d { line = line }) (on_book (stands a (book.On w)) st)
  unfolding stands
  shows_stands a w line is count = shows_line line d.events (move a (book.On w) st.book.line) st.book.owner st.book.events is count h.events (waits_moved a (book.On w) refl)

  pub shows_ready : (a p : ℕ) (line : Line) → Stands line (move a (book.Ready p) st.book.line) st.book.owner → p ≡ (st.book.activity a).priority → started_of line ≡ started_of d.line → Shows image earlier (record d { line = line }) (on_book (ready a) st)
  unfolding ready
  shows_ready a p line is prior count =
      let to = book.Ready (st.book.activity a).priority in
      shows_line line d.events (move a to st.book.line) st.book.owner st.book.events (subst (λ n. Stands line (move a (book.Ready n) st.book.line) st.book.owner) prior is) count h.events (waits_moved a to refl)

not_at : (a b : ℕ) → nat_le a b ≡ false → b < a
not_at a b e =
    elim (leb_tells a b) [
      | inl h ↦ (let z : true ≡ false = sym h.0 ∙ e in absurd (cc z))
      | inr h ↦ h.1
    ]

-- who hasn't used up the budget is below it
below_budget : (c n budget a : ℕ) → c < budget → spent_by (nat_lt c n) budget n a None ≡ None → n < budget
below_budget c n budget a less e = by (nat_lt c n) (nat_le budget n) refl refl e
  where
    by : (p q : Bool) → nat_lt c n ≡ p → nat_le budget n ≡ q → spent_by (nat_lt c n) budget n a None ≡ None → n < budget
    by false q f g k = let x = not_less c n f in omega (arith, x, less)
    by true false f g k = not_at budget n g
    by true true f g k = let z : Some a ≡ None = sym (ap (λ p. spent_by p budget n a None) f ∙ ap (λ q. if q then Some a else None) g) ∙ k in absurd (cc z)

module _ (image : Image) (earlier : List Event) (d : KernelTables) (st : State Memory Frames) (a : ℕ) (h : Shows image earlier d st) (turn_of : HasTurn a d) where
  abbrev made : ℕ → Option Made
  made = made_in image (memory_in d.store)

  -- an activity that has a turn stands on a worker, and was started
  pub stands_on : (w : ℕ) × (place_of st.book.line a ≡ Some (book.On w))
  stands_on = on_place d.line st.book.line st.book.owner h.stands a turn_of.on

  pub turn_there : a < st.book.started
  turn_there = subst (λ n. a < n) (h.counted ∙ sym h.started) (on_within d.line a turn_of.on)

  pub here_turns : (kept : Activity) × (slice_get d.activities.items a ≡ Some kept)
  here_turns = here_is image earlier d st h a turn_there

  pub turns_no_wait : StandsAtNoLock a st
  turns_no_wait l wants at = no_wait (book.On stands_on.0) _ stands_on.1 refl l wants at

  -- it alone has changed, and waits for no lock
  waits_set : (items : List Activity) (new : Activity) (line : List book.Stand) (frames : ℕ → Frames) → items ≡ slice_set d.activities.items a new → StandsAtNoLock a (record st { book = record st.book { line = line } }) → ((x : ℕ) → x ≢ a → place_of line x ≡ place_of st.book.line x) →
      ((x : ℕ) → x ≢ a → frames x ≡ st.frames x) → EachWaits image items line frames
  waits_set items new line frames is out places same =
      waits_after image d.activities.items items st.book.line line st.frames frames a (λ l wants at kept is'. absurd (out l wants at)) places (kept_others d.activities.items items a new is) same h.waiting

  -- the next turn has changed, with the locks and the frames
  next_after : (activities : Vec Activity Global) (old : Activity) (n : Next) (locks : Vec LockName Global) (frames : Kept) → slice_get d.activities.items a ≡ Some old → activities.items ≡ slice_set d.activities.items a (record old { next = n; locks = locks; frames = frames }) →
      frames.begun ≡ old.frames.begun → ShowsFrames image made n (st.frames a) frames → (IsSoundImage image → FitInRoom image frames) → EachShows image made activities.items (put nat_eq st.book.activity a (record (st.book.activity a) { next = next_in n locks.items })) st.frames
  next_after activities old n locks frames was is count shown fits =
      let s = h.activities a old was in
      let new : Activity = record old { next = n; locks = locks; frames = frames } in
      let v : book.Activity = record (st.book.activity a) { next = next_in n locks.items } in
      each_after image made d.activities.items activities.items st.book.activity (put nat_eq st.book.activity a v) st.frames st.frames a old new was is
      (subst (λ x. ShowsActivity image made new x (st.frames a)) (sym (put_same st.book.activity a v)) (record { priority = s.priority; begun = s.begun ∙ sym count; next = refl; frames = shown; fits = fits }))
      (λ x ne. put_other st.book.activity a v x ne) (λ x ne. refl) h.activities

  -- there are as many activities
  started_after : (activities : Vec Activity Global) (new : Activity) → activities.items ≡ slice_set d.activities.items a new → st.book.started ≡ length activities.items
  started_after activities new is = h.started ∙ sym (ap length is ∙ length-set d.activities.items a new)

  counted_after : (line : Line) (activities : Vec Activity Global) (new : Activity) → started_of line ≡ started_of d.line → activities.items ≡ slice_set d.activities.items a new → started_of line ≡ length activities.items
  counted_after line activities new count is = count ∙ h.counted ∙ sym (ap length is ∙ length-set d.activities.items a new)

  unspent_after : (n : book.Next) (x : ℕ) → st.book.spent ≡ None → (put nat_eq st.book.activity a (record (st.book.activity a) { next = n }) x).begun < st.book.budget
  unspent_after n x none =
      each_at (λ y. (put nat_eq st.book.activity a (record (st.book.activity a) { next = n }) y).begun < st.book.budget) a
      (subst (λ (v : book.Activity). v.begun < st.book.budget) (sym (put_same st.book.activity a (record (st.book.activity a) { next = n }))) (h.unspent a none))
      (λ y ne. subst (λ (v : book.Activity). v.begun < st.book.budget) (sym (put_other st.book.activity a (record (st.book.activity a) { next = n }) y ne)) (h.unspent y none)) x

  pub shows_ended : (line : Line) (events : Vec Event Global) (activities : Vec Activity Global) (old : Activity) (frames : Kept) → Stands line (leave_line a st.book.line) st.book.owner → started_of line ≡ started_of d.line →
      events.items ≡ d.events.items ++ event.End a ∷ [] → slice_get d.activities.items a ≡ Some old → activities.items ≡ slice_set d.activities.items a (record old { next = Gone; frames = frames }) →
      frames.begun ≡ old.frames.begun → frames_in frames ≡ record { following = []; frames = [] } →
      Shows image earlier (record d { line = line; events = events; activities = activities }) (on_book (ended a) st)
  unfolding ended next_is
  shows_ended line events activities old frames gone count is was set begun none = record {
    store = h.store;
    stands = gone;
    output = h.output;
    traps = h.traps;
    events = one_more image earlier d st h events (event.End a) is;
    budget = h.budget;
    spent = h.spent;
    started = started_after activities (record old { next = Gone; frames = frames }) set;
    few = h.few;
    counted = counted_after line activities (record old { next = Gone; frames = frames }) count set;
    activities = next_after activities old Gone old.locks frames was set begun none (λ whole. none_fit image frames none);
    room = h.room;
    waiting = waits_set activities.items (record old { next = Gone; frames = frames }) (leave_line a st.book.line) st.frames set (λ l wants at. (let z : None ≡ Some (book.At l wants) = sym (place-gone a st.book.line) ∙ at in absurd (cc z))) (λ x ne. place-other a x st.book.line ne) (λ x ne. refl);
    unspent = unspent_after book.Gone;
  }

  pub shows_trapped : (traps : Vec TrapRec Global) (events : Vec Event Global) (activities : Vec Activity Global) (n c : ℕ) (at : ℕ × Pos) (locks : Vec LockName Global) → IsLive a d →
      ((made : ℕ → Option Made) (kept : Activity) (fs : Frames) → slice_get d.activities.items a ≡ Some kept → Alike image made fs (frames_in kept.frames) → position image fs ≡ where_in at) →
      ((made : ℕ → Option Made) (kept : Activity) (fs : Frames) → slice_get d.activities.items a ≡ Some kept → Alike image made fs (frames_in kept.frames) → reverse locks.items ≡ regions_of image fs.frames) →
      traps.items ≡ d.traps.items ++ record { number = n; code = c; activity = a; «module» = at.0; pos = at.1; restart = 0; calls = [] } ∷ [] → events.items ≡ d.events.items ++ event.Trap a n ∷ [] →
      ((kept : Activity) → slice_get d.activities.items a ≡ Some kept → activities.items ≡ slice_set d.activities.items a (record kept { next = Unwinds; locks = locks })) →
      Shows image earlier (record d { traps = traps; events = events; activities = activities }) (trap (machine image) a n c st)
  unfolding trap trapped next_is
  shows_trapped traps events activities n c at locks live placed opened told is set =
      let r = here_turns in
      let alike = frames_alike image made r.0.next (st.frames a) r.0.frames (live r.0 r.1) (h.activities a r.0 r.1).frames in
      let p = placed made r.0 (st.frames a) r.1 alike in
      let regions = opened made r.0 (st.frames a) r.1 alike in
      let new : Activity = record r.0 { next = Unwinds; locks = locks } in
      record {
        store = h.store;
        stands = h.stands;
        output = h.output;
        traps = map-append rec_of st.book.traps (record { number = n; code = c; activity = a; at = position image (st.frames a); restart = 0; calls = [] } ∷ [])
            ∙ (λ i. h.traps i ++ rec_of (record { number = n; code = c; activity = a; at = p i; restart = 0; calls = [] }) ∷ []) ∙ sym told;
        events = one_more image earlier d st h events (event.Trap a n) is;
        budget = h.budget;
        spent = h.spent;
        started = started_after activities new (set r.0 r.1);
        few = h.few;
        counted = counted_after d.line activities new refl (set r.0 r.1);
        activities = subst (λ (ls : List LockName). EachShows image made activities.items (put nat_eq st.book.activity a (record (st.book.activity a) { next = book.Unwinds ls })) st.frames) regions (next_after activities r.0 Unwinds locks r.0.frames r.1 (set r.0 r.1) refl alike (h.activities a r.0 r.1).fits);
        room = h.room;
        waiting = waits_set activities.items new st.book.line st.frames (set r.0 r.1) turns_no_wait (λ x ne. refl) (λ x ne. refl);
        unspent = unspent_after (book.Unwinds (regions_of image (st.frames a).frames));
      }

  -- the next lock is taken from those that are to be released
  pub shows_popped : (activities : Vec Activity Global) (l : LockName) (locks : Vec LockName Global) (old : Activity) → slice_get d.activities.items a ≡ Some old → Unwinds ≡ old.next → activities.items ≡ slice_set d.activities.items a (record old { locks = locks }) →
      Shows image earlier (record d { activities = activities }) (on_book (next_is a (book.Unwinds (reverse locks.items))) st)
  unfolding next_is
  shows_popped activities l locks old was unwinds set =
      let new : Activity = record old { locks = locks } in
      let set' : activities.items ≡ slice_set d.activities.items a (record old { next = Unwinds; locks = locks }) = set ∙ ap (λ m. slice_set d.activities.items a (record old { next = m; locks = locks })) (sym unwinds) in
      record {
        store = h.store;
        stands = h.stands;
        output = h.output;
        traps = h.traps;
        events = h.events;
        budget = h.budget;
        spent = h.spent;
        started = started_after activities new set;
        few = h.few;
        counted = counted_after d.line activities new refl set;
        activities = next_after activities old Unwinds locks old.frames was set' refl (subst (λ m. ShowsFrames image made m (st.frames a) old.frames) (sym unwinds) (h.activities a old was).frames) (h.activities a old was).fits;
        room = h.room;
        waiting = waits_set activities.items new st.book.line st.frames set turns_no_wait (λ x ne. refl) (λ x ne. refl);
        unspent = unspent_after (book.Unwinds (reverse locks.items));
      }

  -- its locks are in another list, which says the same
  pub shows_relocked : (activities : Vec Activity Global) (locks : Vec LockName Global) (old : Activity) → slice_get d.activities.items a ≡ Some old → activities.items ≡ slice_set d.activities.items a (record old { locks = locks }) → locks.items ≡ old.locks.items →
      Shows image earlier (record d { activities = activities }) st
  shows_relocked activities locks old was set same =
      let s = h.activities a old was in
      let new : Activity = record old { locks = locks } in
      record {
        store = h.store;
        stands = h.stands;
        output = h.output;
        traps = h.traps;
        events = h.events;
        budget = h.budget;
        spent = h.spent;
        started = started_after activities new set;
        few = h.few;
        counted = counted_after d.line activities new refl set;
        activities = each_after image made d.activities.items activities.items st.book.activity st.book.activity st.frames st.frames a old new was set (record { priority = s.priority; begun = s.begun; next = s.next ∙ ap (next_in old.next) (sym same); frames = s.frames; fits = s.fits }) (λ x ne. refl) (λ x ne. refl) h.activities;
        room = h.room;
        waiting = waits_set activities.items new st.book.line st.frames set turns_no_wait (λ x ne. refl) (λ x ne. refl);
        unspent = h.unspent;
      }

  -- its frames have gone out
  pub shows_lent : (activities : Vec Activity Global) (frames : Kept) (old : Activity) → slice_get d.activities.items a ≡ Some old → Runs ≡ old.next → activities.items ≡ slice_set d.activities.items a (record old { next = Lent; frames = frames }) →
      frames.begun ≡ old.frames.begun → frames_in frames ≡ record { following = []; frames = [] } → Shows image earlier (record d { activities = activities }) st
  shows_lent activities frames old was runs set count empty =
      let s = h.activities a old was in
      let new : Activity = record old { next = Lent; frames = frames } in
      record {
        store = h.store;
        stands = h.stands;
        output = h.output;
        traps = h.traps;
        events = h.events;
        budget = h.budget;
        spent = h.spent;
        started = started_after activities new set;
        few = h.few;
        counted = counted_after d.line activities new refl set;
        activities = each_after image made d.activities.items activities.items st.book.activity st.book.activity st.frames st.frames a old new was set
            (record { priority = s.priority; begun = s.begun ∙ sym count; next = s.next ∙ ap (λ n. next_in n old.locks.items) (sym runs); frames = tt; fits = λ whole. none_fit image frames empty }) (λ x ne. refl) (λ x ne. refl) h.activities;
        room = h.room;
        waiting = waits_set activities.items new st.book.line st.frames set turns_no_wait (λ x ne. refl) (λ x ne. refl);
        unspent = h.unspent;
      }

  -- turns have come to these frames over this store, and statements are counted
  pub shows_ran : (store : Store) (activities : Vec Activity Global) (frames : Kept) (old : Activity) (spent : Option ℕ) (fs : Frames) (now : book.Book) → slice_get d.activities.items a ≡ Some old → activities.items ≡ slice_set d.activities.items a (record old { next = Runs; frames = frames }) →
      st.book.spent ≡ None → (st.book.activity a).next ≡ book.Runs → Knows (made_in image (memory_in store)) made → Alike image (made_in image (memory_in store)) fs (frames_in frames) → IsTallied a frames.begun st.book now → (IsSoundImage image → FitInRoom image frames) →
      spent ≡ spent_by (nat_lt old.frames.begun frames.begun) d.budget frames.begun a d.spent →
      Shows image earlier (record d { store = store; activities = activities; spent = spent }) (record { store = memory_in store; frames = put nat_eq st.frames a fs; book = now })
  shows_ran store activities frames old spent fs now was set none runs knows alike t fits when =
      let s = h.activities a old was in
      let new : Activity = record old { next = Runs; frames = frames } in
      let n = frames.begun in
      let all = made_in image (memory_in store) in
      record {
        store = refl;
        stands = subst (λ (p : List book.Stand × (LockName → Option ℕ)). Stands d.line p.0 p.1) (λ i. (sym t.line i, sym t.owner i)) h.stands;
        output = t.output ∙ h.output;
        traps = ap (map rec_of) t.traps ∙ h.traps;
        events = t.events ∙ h.events;
        budget = t.budget ∙ h.budget;
        spent = t.spent ∙ (λ i. spent_by (nat_lt (s.begun i) n) (h.budget i) n a (h.spent i)) ∙ sym when;
        started = t.started ∙ started_after activities new set;
        few = subst (λ k. k ≤ MOST_STARTED) (sym t.started) h.few;
        counted = counted_after d.line activities new refl set;
        activities = each_after image all d.activities.items activities.items st.book.activity now.activity st.frames (put nat_eq st.frames a fs) a old new was set
            (subst (λ x. ShowsActivity image all new (now.activity a) x) (sym (put_same st.frames a fs))
            (record { priority = t.priority ∙ s.priority; begun = t.begun; next = t.next ∙ runs; frames = alike; fits = fits }))
            (λ x ne. t.others x ne) (λ x ne. put_other st.frames a fs x ne) (each_grown image made all d.activities.items st.book.activity st.frames knows h.activities);
        room = h.room;
        waiting = subst (λ l. EachWaits image activities.items l (put nat_eq st.frames a fs)) (sym t.line)
            (waits_set activities.items new st.book.line (put nat_eq st.frames a fs) set turns_no_wait (λ x ne. refl) (λ x ne. put_other st.frames a fs x ne));
        unspent = λ x spends. each_at (λ y. (now.activity y).begun < now.budget) a
            (subst (λ k. (now.activity a).begun < k) (sym t.budget) (subst (λ k. k < st.book.budget) (sym t.begun) (below_budget (st.book.activity a).begun n st.book.budget a (h.unspent a none) (ap (spent_by (nat_lt (st.book.activity a).begun n) st.book.budget n a) (sym none) ∙ sym t.spent ∙ spends))))
            (λ y ne. subst (λ k. (now.activity y).begun < k) (sym t.budget) (subst (λ (v : book.Activity). v.begun < st.book.budget) (sym (t.others y ne)) (h.unspent y none))) x;
      }

  -- frames have come back, and statements are counted
  pub shows_put : (activities : Vec Activity Global) (frames : Kept) (old : Activity) (spent : Option ℕ) (fs : Frames) (now : book.Book) → slice_get d.activities.items a ≡ Some old → activities.items ≡ slice_set d.activities.items a (record old { next = Runs; frames = frames }) →
      st.book.spent ≡ None → (st.book.activity a).next ≡ book.Runs → Alike image (made_in image st.store) fs (frames_in frames) → IsTallied a frames.begun st.book now → (IsSoundImage image → FitInRoom image frames) →
      spent ≡ spent_by (nat_lt old.frames.begun frames.begun) d.budget frames.begun a d.spent →
      Shows image earlier (record d { activities = activities; spent = spent }) (record { store = st.store; frames = put nat_eq st.frames a fs; book = now })
  shows_put activities frames old spent fs now was set none runs alike t fits when =
      let shown : Alike image made fs (frames_in frames) = subst (λ (m : Memory). Alike image (made_in image m) fs (frames_in frames)) h.store alike in
      subst (λ (m : Memory). Shows image earlier (record d { activities = activities; spent = spent }) (record { store = m; frames = put nat_eq st.frames a fs; book = now })) (sym h.store)
      (shows_ran d.store activities frames old spent fs now was set none runs (λ o m e. e) shown t fits when)

  pub shows_turned : (store : Store) (activities : Vec Activity Global) (output : Vec ℕ Global) (spent : Option ℕ) (frames : Kept) (old : Activity) (left : Did) →
      slice_get d.activities.items a ≡ Some old → Runs ≡ old.next → activities.items ≡ slice_set d.activities.items a (record old { frames = frames }) →
      Shown image (turn image st.store (st.frames a)) left old.frames frames (memory_in store) d.output.items output.items → StayFit image old.frames frames →
      spent ≡ spent_by (nat_lt old.frames.begun frames.begun) d.budget frames.begun a d.spent → st.book.spent ≡ None → d.budget < 2 ^ 64 →
      Shows image earlier (record d { store = store; activities = activities; output = output; spent = spent }) (turned (machine image) a (turn image st.store (st.frames a)) st)
  unfolding turned counted
  shows_turned store activities output spent frames old left was runs is shown stay when none small =
      let t = turn image st.store (st.frames a) in
      let s = h.activities a old was in
      let all = made_in image (memory_in store) in
      let knows : Knows all made =
      subst (λ (m : Memory × Memory). Knows (made_in image m.0) (made_in image m.1)) (λ i. (shown.store i, h.store i)) (turn_grows image st.store (st.frames a)) in
      let begun = (st.book.activity a).begun in
      let new : Activity = record old { frames = frames } in
      let less : begun < st.book.budget = h.unspent a none in
      let fits : suc old.frames.begun < 2 ^ 64 = omega (arith, s.begun, h.budget) in
      let told = begun_after t.begun old.frames.begun frames.begun fits shown.begun in
      let count : (if t.begun then suc begun else begun) ≡ frames.begun = ap (λ n. if t.begun then suc n else n) s.begun ∙ sym told.1 in
      let v : book.Activity = record (st.book.activity a) { begun = if t.begun then suc begun else begun } in
      record {
        store = shown.store;
        stands = h.stands;
        output = ap (λ o. o ++ t.output) h.output ∙ sym shown.output;
        traps = h.traps;
        events = h.events;
        budget = h.budget;
        spent = (λ i. spent_by (sym told.0 i) (h.budget i) (count i) a (h.spent i)) ∙ sym when;
        started = started_after activities new is;
        few = h.few;
        counted = counted_after d.line activities new refl is;
        activities = each_after image all d.activities.items activities.items st.book.activity (put nat_eq st.book.activity a v) st.frames (put nat_eq st.frames a t.frames) a old new was is
            (subst (λ x. ShowsActivity image all new x (put nat_eq st.frames a t.frames a)) (sym (put_same st.book.activity a v))
            (subst (λ x. ShowsActivity image all new v x) (sym (put_same st.frames a t.frames))
            (record { priority = s.priority; begun = count; next = s.next; frames = subst (λ m. ShowsFrames image all m t.frames frames) runs shown.alike; fits = λ whole. stay whole (s.fits whole) })))
            (λ x ne. put_other st.book.activity a v x ne) (λ x ne. put_other st.frames a t.frames x ne) (each_grown image made all d.activities.items st.book.activity st.frames knows h.activities);
        room = h.room;
        waiting = waits_set activities.items new st.book.line (put nat_eq st.frames a t.frames) is turns_no_wait (λ x ne. refl) (λ x ne. put_other st.frames a t.frames x ne);
        unspent = λ x spends. each_at (λ y. (put nat_eq st.book.activity a v y).begun < st.book.budget) a
            (subst (λ (y : book.Activity). y.begun < st.book.budget) (sym (put_same st.book.activity a v)) (not_spent t.begun st.book.budget begun a st.book.spent less spends))
            (λ y ne. subst (λ (y : book.Activity). y.begun < st.book.budget) (sym (put_other st.book.activity a v y ne)) (h.unspent y none)) x;
      }

  -- the operations of a turn

  -- the next turn, by what the tables have
  pub next_is_in : (n : Next) → ((kept : Activity) → slice_get d.activities.items a ≡ Some kept → n ≡ kept.next) → (st.book.activity a).next ≡ next_in n here_turns.0.locks.items
  next_is_in n told = let r = here_turns in (h.activities a r.0 r.1).next ∙ ap (λ m. next_in m r.0.locks.items) (sym (told r.0 r.1))

  pub turns_by : (d' : KernelTables) (n : book.Next) → (st.book.activity a).next ≡ n → Shows image earlier d' (turn_by (machine image) a n st) → Shows image earlier d' (turn_by (machine image) a (st.book.activity a).next st)
  turns_by d' n e shown = subst (λ x. Shows image earlier d' (turn_by (machine image) a x st)) (sym e) shown

-- the activity goes on behind the work that was left to the kernel
pub shows_past : (image : Image) (earlier : List Event) (d : KernelTables) (st : State Memory Frames) (a : ℕ) (activities : Vec Activity Global) (old : Activity) (frames : Kept) → Shows image earlier d st → StandsAtNoLock a st → slice_get d.activities.items a ≡ Some old → Runs ≡ old.next →
    activities.items ≡ slice_set d.activities.items a (record old { frames = frames }) → frames.begun ≡ old.frames.begun → Alike image (made_in image (memory_in d.store)) (past image (st.frames a)) (frames_in frames) → StayFit image old.frames frames → Shows image earlier (record d { activities = activities }) (go_past (machine image) a st)
unfolding go_past
shows_past image earlier d st a activities old frames h out was runs is count alike stay =
    let made = made_in image (memory_in d.store) in
    let s = h.activities a old was in
    let new : Activity = record old { frames = frames } in
    let fs = past image (st.frames a) in
    record {
      store = h.store;
      stands = h.stands;
      output = h.output;
      traps = h.traps;
      events = h.events;
      budget = h.budget;
      spent = h.spent;
      started = h.started ∙ sym (ap length is ∙ length-set d.activities.items a new);
      few = h.few;
      counted = h.counted ∙ sym (ap length is ∙ length-set d.activities.items a new);
      activities = each_after image made d.activities.items activities.items st.book.activity st.book.activity st.frames (put nat_eq st.frames a fs) a old new was is
          (subst (λ x. ShowsActivity image made new (st.book.activity a) x) (sym (put_same st.frames a fs))
          (record { priority = s.priority; begun = s.begun ∙ sym count; next = s.next; frames = subst (λ m. ShowsFrames image made m fs frames) runs alike; fits = λ whole. stay whole (s.fits whole) }))
          (λ x ne. refl) (λ x ne. put_other st.frames a fs x ne) h.activities;
      room = h.room;
      waiting = waits_after image d.activities.items activities.items st.book.line st.book.line st.frames (put nat_eq st.frames a fs) a (λ l wants at kept is'. absurd (out l wants at)) (λ x ne. refl) (kept_others d.activities.items activities.items a new is) (λ x ne. put_other st.frames a fs x ne) h.waiting;
      unspent = h.unspent;
    }

-- one that isn't kept has no frames to change
pub shows_past_none : (image : Image) (earlier : List Event) (d : KernelTables) (st : State Memory Frames) (a : ℕ) → Shows image earlier d st → slice_get d.activities.items a ≡ None → Shows image earlier d (go_past (machine image) a st)
unfolding go_past
shows_past_none image earlier d st a h none =
    let fs = past image (st.frames a) in
    let other : (x : ℕ) (kept : Activity) → slice_get d.activities.items x ≡ Some kept → x ≢ a = λ x kept at e. none_other kept (sym none ∙ sym (ap (slice_get d.activities.items) e) ∙ at) in
    record {
      store = h.store;
      stands = h.stands;
      output = h.output;
      traps = h.traps;
      events = h.events;
      budget = h.budget;
      spent = h.spent;
      started = h.started;
      few = h.few;
      counted = h.counted;
      activities = λ x kept at. subst (λ f. ShowsActivity image (made_in image (memory_in d.store)) kept (st.book.activity x) f) (sym (put_other st.frames a fs x (other x kept at))) (h.activities x kept at);
      room = h.room;
      waiting = λ x l wants at kept is. subst (λ f. IsWaiting image l wants kept f) (sym (put_other st.frames a fs x (other x kept is))) (h.waiting x l wants at kept is);
      unspent = h.unspent;
    }

-- one that waits for no lock has changed, and its frames are as they were
one_changed : (image : Image) (earlier : List Event) (d : KernelTables) (st : State Memory Frames) (a : ℕ) (activities : Vec Activity Global) (old new : Activity) (v : book.Activity) → Shows image earlier d st → StandsAtNoLock a st → slice_get d.activities.items a ≡ Some old →
    activities.items ≡ slice_set d.activities.items a new → ShowsActivity image (made_in image (memory_in d.store)) new v (st.frames a) → v.begun ≡ (st.book.activity a).begun →
    Shows image earlier (record d { activities = activities }) (record st { book = record st.book { activity = put nat_eq st.book.activity a v } })
one_changed image earlier d st a activities old new v h out was is shown begun =
    let made = made_in image (memory_in d.store) in
    record {
      store = h.store;
      stands = h.stands;
      output = h.output;
      traps = h.traps;
      events = h.events;
      budget = h.budget;
      spent = h.spent;
      started = h.started ∙ sym (ap length is ∙ length-set d.activities.items a new);
      few = h.few;
      counted = h.counted ∙ sym (ap length is ∙ length-set d.activities.items a new);
      activities = each_after image made d.activities.items activities.items st.book.activity (put nat_eq st.book.activity a v) st.frames st.frames a old new was is
          (subst (λ x. ShowsActivity image made new x (st.frames a)) (sym (put_same st.book.activity a v)) shown) (λ x ne. put_other st.book.activity a v x ne) (λ x ne. refl) h.activities;
      room = h.room;
      waiting = waits_after image d.activities.items activities.items st.book.line st.book.line st.frames st.frames a (λ l wants at kept is'. absurd (out l wants at)) (λ x ne. refl) (kept_others d.activities.items activities.items a new is) (λ x ne. refl) h.waiting;
      unspent = λ x spends. each_at (λ y. (put nat_eq st.book.activity a v y).begun < st.book.budget) a
          (subst (λ (y : book.Activity). y.begun < st.book.budget) (sym (put_same st.book.activity a v)) (subst (λ n. n < st.book.budget) (sym begun) (h.unspent a spends)))
          (λ y ne. subst (λ (w : book.Activity). w.begun < st.book.budget) (sym (put_other st.book.activity a v y ne)) (h.unspent y spends)) x;
    }

-- a trap is the next turn of one that ran
pub shows_will_trap : (image : Image) (earlier : List Event) (d : KernelTables) (st : State Memory Frames) (a n : ℕ) (activities : Vec Activity Global) (old : Activity) → Shows image earlier d st → StandsAtNoLock a st → slice_get d.activities.items a ≡ Some old → Runs ≡ old.next →
    activities.items ≡ slice_set d.activities.items a (record old { next = WillTrap n }) → Shows image earlier (record d { activities = activities }) (on_book (next_is a (book.WillTrap n)) st)
unfolding next_is
shows_will_trap image earlier d st a n activities old h out was runs is =
    let made = made_in image (memory_in d.store) in
    let s = h.activities a old was in
    one_changed image earlier d st a activities old (record old { next = WillTrap n }) (record (st.book.activity a) { next = book.WillTrap n }) h out was is
    (record { priority = s.priority; begun = s.begun; next = refl; frames = subst (λ m. ShowsFrames image made m (st.frames a) old.frames) (sym runs) s.frames; fits = s.fits }) refl

-- the condition that one awaits is known
pub shows_awaiting : (image : Image) (earlier : List Event) (d : KernelTables) (st : State Memory Frames) (a c : ℕ) (activities : Vec Activity Global) (old : Activity) → Shows image earlier d st → StandsAtNoLock a st → slice_get d.activities.items a ≡ Some old →
    activities.items ≡ slice_set d.activities.items a (record old { condition = c }) → Shows image earlier (record d { activities = activities }) st
shows_awaiting image earlier d st a c activities old h out was is =
    let made = made_in image (memory_in d.store) in
    let s = h.activities a old was in
    let new : Activity = record old { condition = c } in
    record {
      store = h.store;
      stands = h.stands;
      output = h.output;
      traps = h.traps;
      events = h.events;
      budget = h.budget;
      spent = h.spent;
      started = h.started ∙ sym (ap length is ∙ length-set d.activities.items a new);
      few = h.few;
      counted = h.counted ∙ sym (ap length is ∙ length-set d.activities.items a new);
      activities = each_after image made d.activities.items activities.items st.book.activity st.book.activity st.frames st.frames a old new was is
          (record { priority = s.priority; begun = s.begun; next = s.next; frames = s.frames; fits = s.fits }) (λ x ne. refl) (λ x ne. refl) h.activities;
      room = h.room;
      waiting = waits_after image d.activities.items activities.items st.book.line st.book.line st.frames st.frames a (λ l wants at kept is'. absurd (out l wants at)) (λ x ne. refl) (kept_others d.activities.items activities.items a new is) (λ x ne. refl) h.waiting;
      unspent = h.unspent;
    }

pub set_awaits : (old new : List Activity) (a c : ℕ) (was : Activity) → slice_get old a ≡ Some was → new ≡ slice_set old a (record was { condition = c }) → length was.frames.list.items ≤ 2 ^ 32 → (kept : Activity) × (slice_get new a ≡ Some kept) × IsAwaiting c kept
set_awaits old new a c was at is few =
    let now : Activity = record was { condition = c } in
    (now, ap (λ xs. slice_get xs a) is ∙ set_here old a now (slice_get_within old a was at), (refl, few))

pub set_before : (image : Image) (old new : List Activity) (a c : ℕ) (left : Did) (was : Activity) → slice_get old a ≡ Some was → new ≡ slice_set old a (record was { condition = c }) →
    ((kept : Activity) → slice_get old a ≡ Some kept → (Runs ≡ kept.next) × IsBefore image left (frames_in kept.frames)) → (kept : Activity) → slice_get new a ≡ Some kept → (Runs ≡ kept.next) × IsBefore image left (frames_in kept.frames)
set_before image old new a c left was at is before kept found =
    let now : Activity = record was { condition = c } in
    let z : Some now ≡ Some kept = sym (set_here old a now (slice_get_within old a was at)) ∙ sym (ap (λ xs. slice_get xs a) is) ∙ found in
    let same : now ≡ kept = some_same now kept z in
    subst (λ (k : Activity). (Runs ≡ k.next) × IsBefore image left (frames_in k.frames)) same (before was at)

-- whether it was done or not
pub shows_either : {E : Type 0} (image : Image) (earlier : List Event) (d : KernelTables) (st : State Memory Frames) (r : Result (Unit {0}) E) (activities : Vec Activity Global) → Shows image earlier d st → OnOk r (Shows image earlier (record d { activities = activities }) st) → OnErr r (activities ≡ d.activities) →
    Shows image earlier (record d { activities = activities }) st
shows_either image earlier d st (Ok x) activities h done same = done
shows_either image earlier d st (Err e) activities h done same = subst (λ (v : Vec Activity Global). Shows image earlier (record d { activities = v }) st) (sym same) h

-- What counts of the activities is as it was, and there is room for conditions.

pub turn_judged : (d new : KernelTables) (a : ℕ) → SameKnown d.activities.items new.activities.items → new.line ≡ d.line → HasTurn a d → HasTurn a new
turn_judged d new a same line turn_of =
    record {
      on = subst (λ l. IsOn l a) (sym line) turn_of.on;
      counted = ap started_of line ∙ turn_of.counted ∙ sym same.count;
    }

frames_known : (image : Image) (made : ℕ → Option Made) (n : Next) (fs : Frames) (k g : Kept) → frames_in k ≡ frames_in g → ShowsFrames image made n fs k → ShowsFrames image made n fs g
frames_known image made Runs fs k g e h = subst (λ x. Alike image made fs x) e h
frames_known image made (WillTrap n) fs k g e h = subst (λ x. Alike image made fs x) e h
frames_known image made Unwinds fs k g e h = subst (λ x. Alike image made fs x) e h
frames_known image made Lent fs k g e h = h
frames_known image made Gone fs k g e h = sym e ∙ h

pub before_known : (image : Image) (old new : List Activity) (a : ℕ) (left : Did) → SameKnown old new → ((kept : Activity) → slice_get old a ≡ Some kept → (Runs ≡ kept.next) × IsBefore image left (frames_in kept.frames)) →
    (kept : Activity) → slice_get new a ≡ Some kept → (Runs ≡ kept.next) × IsBefore image left (frames_in kept.frames)
before_known image old new a left same before kept at =
    let w = known_at old new a kept (same.known a) at in
    let b = before w.0 w.1 in
    (b.0 ∙ ap (λ (k : Known). k.next) w.2, subst (IsBefore image left) (ap (λ (k : Known). k.frames) w.2) b.1)

pub awaits_known : (old new : List Activity) (a c : ℕ) → SameKnown old new → (kept : Activity) × (slice_get old a ≡ Some kept) × IsAwaiting c kept → (kept : Activity) × (slice_get new a ≡ Some kept) × IsAwaiting c kept
awaits_known old new a c same awaits =
    let w = known_at new old a awaits.0 (sym (same.known a)) awaits.1 in
    (w.0, w.1, (awaits.2.0 ∙ sym (ap (λ (k : Known). k.condition) w.2), subst (λ n. n ≤ 2 ^ 32) (sym (ap (λ (k : Known). k.many) w.2)) awaits.2.1))

awaiting_known : (wants : Wants) (k g : Activity) → known k ≡ known g → IsAwaitingSo wants k → IsAwaitingSo wants g
awaiting_known Entry k g e h = h
awaiting_known (Condition c) k g e h = (h.0 ∙ ap (λ (x : Known). x.condition) e, subst (λ n. n ≤ 2 ^ 32) (ap (λ (x : Known). x.many) e) h.1)

pub shows_known : (image : Image) (earlier : List Event) (d : KernelTables) (st : State Memory Frames) (activities : Vec Activity Global) (stack : Vec Cell Global) → SameKnown d.activities.items activities.items → HasRooms image stack → Shows image earlier d st →
    Shows image earlier (record d { activities = activities; stack = stack }) st
shows_known image earlier d st activities stack same room h =
    let made = made_in image (memory_in d.store) in
    record {
      store = h.store;
      stands = h.stands;
      output = h.output;
      traps = h.traps;
      events = h.events;
      budget = h.budget;
      spent = h.spent;
      started = h.started ∙ sym same.count;
      few = h.few;
      counted = h.counted ∙ sym same.count;
      activities = λ x kept at.
          let w = known_at d.activities.items activities.items x kept (same.known x) at in
          let s = h.activities x w.0 w.1 in
          record {
            priority = s.priority ∙ ap (λ (k : Known). number_of k.priority) w.2;
            begun = s.begun ∙ ap (λ (k : Known). k.begun) w.2;
            next = s.next ∙ ap (λ (k : Known). next_in k.next k.locks) w.2;
            frames = subst (λ m. ShowsFrames image made m (st.frames x) kept.frames) (ap (λ (k : Known). k.next) w.2) (frames_known image made w.0.next (st.frames x) w.0.frames kept.frames (ap (λ (k : Known). k.frames) w.2) s.frames);
            fits = λ whole. same_stay image w.0.frames kept.frames (sym (ap (λ (k : Known). k.frames) w.2)) (same.room x w.0 kept w.1 at (depth_of image) (keeps_for image)) whole (s.fits whole);
          };
      room = room;
      waiting = λ x l wants at kept is.
          let w = known_at d.activities.items activities.items x kept (same.known x) is in
          let v = h.waiting x l wants at w.0 w.1 in
          record {
            runs = v.runs ∙ ap (λ (k : Known). k.next) w.2;
            before = subst (IsBefore image (work_at l wants)) (ap (λ (k : Known). k.frames) w.2) v.before;
            stands = v.stands;
            awaits = awaiting_known wants w.0 kept w.2 v.awaits;
          };
      unspent = h.unspent;
    }

-- a new activity is ready at this priority
pub shows_born : (image : Image) (earlier : List Event) (d : KernelTables) (st : State Memory Frames) (p : Priority) (n : ℕ) (activities : Vec Activity Global) (line : Line) (events : Vec Event Global) (locks : Vec LockName Global) (frames : Kept) (fs : Frames) →
    n ≡ length d.activities.items → n < MOST_STARTED → activities.items ≡ d.activities.items ++ record { priority = p; next = Runs; condition = 0; locks = locks; frames = frames } ∷ [] → Stands line (move n (book.Ready (number_of p)) st.book.line) st.book.owner → started_of line ≡ suc (started_of d.line) → events.items ≡ d.events.items ++ event.Start n ∷ [] →
    frames.begun ≡ 0 → Alike image (made_in image (memory_in d.store)) fs (frames_in frames) → (IsSoundImage image → FitInRoom image frames) → Shows image earlier d st →
    Shows image earlier (record d { activities = activities; line = line; events = events }) (on_book (born (number_of p)) (with_frames st.book.started fs st))
unfolding born
shows_born image earlier d st p n activities line events locks frames fs count few is moved more told none alike fits h =
    let k = st.book.started in
    let same : k ≡ n = h.started ∙ sym count in
    let new : Activity = record { priority = p; next = Runs; condition = 0; locks = locks; frames = frames } in
    let act : book.Activity = record { priority = number_of p; begun = 0; restarts = 0; next = book.Runs } in
    record {
      store = h.store;
      stands = subst (λ j. Stands line (move j (book.Ready (number_of p)) st.book.line) st.book.owner) (sym same) moved;
      output = h.output;
      traps = h.traps;
      events = one_more image earlier d st h events (event.Start k) (told ∙ ap (λ j. d.events.items ++ event.Start j ∷ []) (sym same));
      budget = h.budget;
      spent = h.spent;
      started = ap suc h.started ∙ sym (ap length is ∙ added d.activities.items new);
      few = omega (arith, same, few);
      counted = more ∙ ap suc h.counted ∙ sym (ap length is ∙ added d.activities.items new);
      activities = each_joined image (made_in image (memory_in d.store)) d.activities.items activities.items st.book.activity st.frames k new act fs h.started is (record { priority = refl; begun = sym none; next = refl; frames = alike; fits = fits }) h.activities;
      room = h.room;
      waiting = waits_after image d.activities.items activities.items st.book.line (move k (book.Ready (number_of p)) st.book.line) st.frames (put nat_eq st.frames k fs) k (λ l wants at kept is'. absurd (no_wait (book.Ready (number_of p)) _ (place-moved k (book.Ready (number_of p)) st.book.line) refl l wants at)) (λ x ne. place-unmoved k x (book.Ready (number_of p)) st.book.line ne)
          (λ x kept ne at. get_before d.activities.items new x kept (λ z. ne (z ∙ sym h.started)) (sym (ap (λ xs. slice_get xs x) is) ∙ at)) (λ x ne. put_other st.frames k fs x ne) h.waiting;
      unspent = λ x spends. each_at (λ y. (put nat_eq st.book.activity k act y).begun < st.book.budget) k
          (subst (λ (y : book.Activity). y.begun < st.book.budget) (sym (put_same st.book.activity k act)) (positive (st.book.activity 0).begun st.book.budget (h.unspent 0 spends)))
          (λ y ne. subst (λ (y : book.Activity). y.begun < st.book.budget) (sym (put_other st.book.activity k act y ne)) (h.unspent y spends)) x;
    }
  where
    added : (xs : List Activity) (y : Activity) → length (xs ++ y ∷ []) ≡ suc (length xs)
    added [] y = refl
    added (x ∷ xs) y = ap suc (added xs y)

    positive : (x b : ℕ) → x < b → 0 < b
    positive x b lt = omega arith

-- the tables' tests tell whether the book is full
pub full_is : (image : Image) (earlier : List Event) (d : KernelTables) (st : State Memory Frames) (live started : ℕ) → Shows image earlier d st → live ≡ length st.book.line → started ≡ length d.activities.items → is_full st.book ≡ (nat_le MOST_LIVE live || nat_le MOST_STARTED started)
full_is image earlier d st live started h e f = (λ i. nat_le MOST_LIVE (sym e i) || nat_le MOST_STARTED ((h.started ∙ sym f) i))

finished : (image : Image) (earlier : List Event) (d : KernelTables) (a : ℕ) (st : State Memory Frames) (q : Bool) → Shows image earlier d (on_book (ended a) st) → Shows image earlier d (finish a q None st)
finished image earlier d a st true h = h
finished image earlier d a st false h = h

pub turn_ended : (image : Image) (earlier : List Event) (d : KernelTables) (a : ℕ) (st : State Memory Frames) → Shows image earlier d (on_book (ended a) st) → Shows image earlier d (turn_by (machine image) a (book.Unwinds []) st)
turn_ended image earlier d a st h = finished image earlier d a st (may_restart (st.book.activity a).restarts) h

-- room has been made, and no more
pub shows_same : (image : Image) (earlier : List Event) (d new : KernelTables) (st : State Memory Frames) → HasSame d new → Shows image earlier d st → Shows image earlier new st
shows_same image earlier d new st e h = record {
  store = h.store ∙ ap memory_in (sym e.store);
  stands = e.line st.book.line st.book.owner h.stands;
  output = h.output ∙ sym e.output;
  traps = h.traps ∙ sym e.traps;
  events = h.events ∙ ap (λ x. earlier ++ x) (sym e.events);
  budget = h.budget ∙ sym e.budget;
  spent = h.spent ∙ sym e.spent;
  started = h.started ∙ ap length (sym e.activities);
  few = h.few;
  counted = ap length e.places ∙ h.counted ∙ ap length (sym e.activities);
  activities = subst (λ (x : List Activity × Store). EachShows image (made_in image (memory_in x.1)) x.0 st.book.activity st.frames) (λ i. (sym e.activities i, sym e.store i)) h.activities;
  room = subst (λ (s : Vec Cell Global). HasRooms image s) (sym e.stack) h.room;
  waiting = subst (λ (x : List Activity). EachWaits image x st.book.line st.frames) (sym e.activities) h.waiting;
  unspent = h.unspent;
}

pub shown_same : (image : Image) (d new : KernelTables) → HasSame d new → ShowsSame image d new
shown_same image d new e earlier st h = shows_same image earlier d new st e h

pub live_same : (d new : KernelTables) (a : ℕ) → HasSame d new → IsLive a d → IsLive a new
live_same d new a e live = subst (λ (xs : List Activity). (kept : Activity) → slice_get xs a ≡ Some kept → has_frames kept.next ≡ true) (sym e.activities) live

pub turn_same : (d new : KernelTables) (a : ℕ) → HasSame d new → HasTurn a d → HasTurn a new
turn_same d new a e turn_of = record { on = on_same d.line new.line a e.line e.places turn_of.on; counted = ap length e.places ∙ turn_of.counted ∙ ap length (sym e.activities) }

pub before_same : (image : Image) (d new : KernelTables) (a : ℕ) (left : Did) → HasSame d new → StandsBefore image a left d → StandsBefore image a left new
before_same image d new a left e before = subst (λ (xs : List Activity). (kept : Activity) → slice_get xs a ≡ Some kept → (Runs ≡ kept.next) × IsBefore image left (frames_in kept.frames)) (sym e.activities) before

-- frames without any list
pub no_frames : (frames : Kept) → frames.list.items ≡ [] → frames.following.items ≡ [] → frames_in frames ≡ record { following = []; frames = [] }
no_frames frames none ends = (λ i. let fs : Frames = record { following = reverse (ends i); frames = list_in (none i) } in fs)

-- only silent work has been done
pub shows_silent : (image : Image) (earlier : List Event) (d : KernelTables) (st : State Memory Frames) (store : Store) (activities : Vec Activity Global) (output : Vec ℕ Global) (spent : Option ℕ) (a : ℕ) (old : Activity) (frames : Kept) → HasTurn a d →
    slice_get d.activities.items a ≡ Some old → Runs ≡ old.next → activities.items ≡ slice_set d.activities.items a (record old { frames = frames }) → Rests image old.frames frames (memory_in d.store) (memory_in store) d.output.items output.items → StayFit image old.frames frames →
    spent ≡ d.spent → Shows image earlier d st → Shows image earlier (record d { store = store; activities = activities; output = output; spent = spent }) st
shows_silent image earlier d st store activities output spent a old frames turn_of was runs is rests stay same h =
    let made = made_in image (memory_in d.store) in
    let s = h.activities a old was in
    let new : Activity = record old { frames = frames } in
    record {
      store = h.store ∙ sym rests.memory;
      stands = h.stands;
      output = h.output ∙ sym rests.output;
      traps = h.traps;
      events = h.events;
      budget = h.budget;
      spent = h.spent ∙ sym same;
      started = h.started ∙ sym (ap length is ∙ length-set d.activities.items a new);
      few = h.few;
      counted = h.counted ∙ sym (ap length is ∙ length-set d.activities.items a new);
      activities = subst (λ (m : Memory). EachShows image (made_in image m) activities.items st.book.activity st.frames) (sym rests.memory) (each_after image made d.activities.items activities.items st.book.activity st.book.activity st.frames st.frames a old new was is
          (record {
            priority = s.priority;
            begun = s.begun ∙ sym rests.begun;
            next = s.next;
            frames = subst (λ m. ShowsFrames image made m (st.frames a) old.frames → ShowsFrames image made m (st.frames a) frames) runs (λ e. alike_both image made (st.frames a) (frames_in old.frames) (frames_in frames) e rests.alike) s.frames;
            fits = λ whole. stay whole (s.fits whole);
          }) (λ x ne. refl) (λ x ne. refl) h.activities);
      room = h.room;
      waiting = waits_after image d.activities.items activities.items st.book.line st.book.line st.frames st.frames a (λ l wants at kept is'. absurd (turns_no_wait image earlier d st a h turn_of l wants at)) (λ x ne. refl) (kept_others d.activities.items activities.items a new is) (λ x ne. refl) h.waiting;
      unspent = h.unspent;
    }

-- work that is left to the kernel
pub where_left : (left : Did) (P : Type 0) → left ≢ Went → WhereLeft left P → P
where_left Went P ne h = absurd (ne refl)
where_left Ended P ne h = h
where_left (Enter l) P ne h = h
where_left (Leave l) P ne h = h
where_left (Await l c) P ne h = h
where_left (Start o) P ne h = h
where_left (Trapped n c) P ne h = h

pub if_left : (left : Did) {P Q : Type 0} → (P → Q) → WhereLeft left P → WhereLeft left Q
if_left Went f h = tt
if_left Ended f h = f h
if_left (Enter l) f h = f h
if_left (Leave l) f h = f h
if_left (Await l c) f h = f h
if_left (Start o) f h = f h
if_left (Trapped n c) f h = f h

pub on_err : {A E : Type 0} {P : Type 0} (r : Result A E) → P → OnErr r P
on_err (Ok x) p = tt
on_err (Err e) p = p

pub on_err_both : {A E P Q R : Type 0} (r : Result A E) → (P → Q → R) → OnErr r P → OnErr r Q → OnErr r R
on_err_both (Ok x) f p q = tt
on_err_both (Err e) f p q = f p q
