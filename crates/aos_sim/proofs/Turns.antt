-- One turn of each side from related frames gives related frames, with the same work left to the kernel.
use Rattle.std.proofs.Common.{◌≡◌, inl, inr, ℕ, suc, pos, ◌+◌, ◌<◌, ◌≤◌, List, [], ◌∷◌, ◌++◌, length, drop, Option, Some, None, refl, sym, ap, ◌∙◌, subst, arith}
use Rattle.std.specs.Prelude.{All, ℤ, Bool, true, false, not, is_some, option_and_then, unsigned_abs, nat_lt, option_map, sum_by, map, if◌then◌else◌}
use Rattle.std.proofs.lemmas.List.{length-map}
use Rattle.std.proofs.lemmas.List.Sums.{sum_by-cons}
use Rattle.std.proofs.lemmas.List.Elements.{All-nil, All-cons, All-append}
use Rattle.aos_base.specs.declared.limits.TheConstants.{MOST_FRAME_SCALARS, MOST_FRAMES, MOST_SCALARS}
use Rattle.aos_base.specs.declared.number.Relation.{Relation}
use Rattle.aos_base.specs.declared.number.Width.TheVariants.{W64}
use Rattle.aos_base.specs.Number.{holds, array_lengths}
use Rattle.aos_base.specs.declared.root.Root.TheVariants.{Frame as FrameRoot}
use Rattle.aos_base.specs.Text.{order}
use Rattle.aos_base.specs.declared.text.Pos.{Pos}
use Rattle.aos_base.specs.declared.kernel.Did.{Did}
use Rattle.aos_base.specs.declared.kernel.Did.TheVariants.{Went, Ended as NoFrame, Enter, Leave, Await, Start, Trapped}
use Rattle.aos_base.specs.declared.kernel.LockName.{LockName}
use Rattle.aos_base.specs.Question.{Val, Asks, Traps, bind, feed, Reads, Stores, Copies, PutsText, ComparesTexts, Calls, Ends, Makes, Starts, Enters, Leaves, Awaits, PutsInt, PutsChar, PutsString, PutsNothing, PutsLn, Places, Lengths, Opens, Sizes, Tests, Manner}
use Rattle.aos_base.specs.Rooted.{Made, Rooted, by_number, spliced}
use Rattle.aos_types.specs.Table.{row_of as type_row, is_open}
use Rattle.aos_types.specs.Shape.{Shape, One, leaves}
use Rattle.aos_types.specs.Content.{Content, Scalar, placed as placed_at, overlay}
use Rattle.aos_types.specs.World.{World, Grows, shape_at, read}
use Rattle.aos_typed.specs.declared.tree.TType.{TType}
use Rattle.aos_typed.specs.Program.{Expr, Repeat, Stats, Procedure, Program}
use Rattle.aos_typed.specs.Routines.{Routine, self_type, has_self, result_of, routines}
use Rattle.aos_typed.specs.Open.{open_dimensions}
use Rattle.aos_typed.specs.Numbers.{id_of, id_of_made}
use Rattle.aos_typed.specs.Sort.{Sort, Plain, variable_shape}
use Rattle.aos_typed.specs.Location.{Location}
use Rattle.aos_typed.specs.Text.{with_text, fitted}
use Rattle.aos_typed.specs.Value.{Value, Int, Flag, Char, Object, number_of, is_true}
use Rattle.aos_typed.specs.Typing.{Is, IsPlain, IsInteger, HasLengths}
use Rattle.aos_typed.specs.Store.{Store, scalar_in, has_room, new_number, with_object as with_content}
use Rattle.aos_typed.specs.Meaning as source
use Rattle.aos_typed.specs.Meaning.{Here, Doing, Item, Do, Rounds, Round, Until, Region, End, Gives, After, Into, Returns, Exits, leave, leave_all, items_of, value_of, item_of, pos_of}
use Rattle.aos_typed.specs.Source as S
use Rattle.aos_typed.specs.Source.{first_value, made_shape, locks_in}
use Rattle.aos_code.specs.declared.instr.Cell.{Cell}
use Rattle.aos_code.specs.declared.instr.Cell.TheVariants.{Ref}
use Rattle.aos_code.specs.declared.instr.Instr.{Instr}
use Rattle.aos_code.specs.declared.image.ProcShape.{ProcShape}
use Rattle.aos_code.specs.declared.image.TypeDesc.{TypeDesc}
use Rattle.aos_code.specs.declared.image.Image.{Image}
use Rattle.aos_code.specs.Numbered.{numbered}
use Rattle.aos_code.specs.Memory.{Memory, has_room as memory_room, with_object as with_cells}
use Rattle.aos_code.specs.Silent.{Stack, Keeps, Question, Begins, Fails, Decides, Stop, Work, Ended, silent}
use Rattle.aos_code.specs.Machine as I
use Rattle.aos_code.specs.Machine.{first_cell, code_of}
use Rattle.aos_concurrency.specs.LocalState.{GoesPast}
use Rattle.aos_concurrency.specs.Regions.{times, Outside}
use Rattle.aos_concurrency.specs.Simulates.{SameTurn}
use Rattle.aos_memory_laws.specs.Shows.{Shows}
use Rattle.aos_memory_laws.proofs.Grow.{grows_same, objects_grow}
use Rattle.aos_memory_laws.proofs.Places.{ReadAlike, read_alike, stored_alike}
use Rattle.aos_memory_laws.proofs.Makes.{shown_grows, made_alike}
use Rattle.aos_sim.specs.Cells.{cell_of}
use Rattle.aos_sim.specs.Code.{kind_of}
use Rattle.aos_sim.specs.Shows.{shape_of, type_kinds, made_kinds}
use Rattle.aos_layout.specs.Layout.{kind_of as layout_kind}
use Rattle.aos_layout.specs.Seen.{seen_shape}
use Rattle.aos_sim.proofs.Kept.{values_kept}
use Rattle.aos_sim.proofs.Runs.{Run, Tables, tables_of, is_asked_at_once, AtBegin, Decided, Onward, gives_result, past, calm, runs, run, resume, run_by_silent, feed-append}
use Rattle.aos_sim.proofs.Types.{integer_is, character_is}
use Rattle.aos_sim.proofs.Results.{natural_is}
use Rattle.aos_sim.proofs.References.{stored_kind}
use Rattle.aos_sim.proofs.Does.{IsSelf, IsCalledOn, scheme, addr_of, placed, HasCharacters, HasText, HasTypes, HasShapes, Knows, IsWhole, IsAnswer, IsResult, IsVisible, IsCalm, Valid, Conforms, Does, Calmly, Lasts, along, knows_grows, calm_does, heard_on, calm_heard, does_last, feed_noted, calm_seen, valid_grows, calm_visible_same, calm_bind, feed_noted_bind, lasts_calm, lasts_calm_on}
use Rattle.aos_sim.proofs.Carries.{IsOwn, AtEnd, GoesOn, GivesBack, Returning, Behind, Remains, BeginsAt, AtNext, ItemsDo}
use Rattle.aos_sim.proofs.Regions.{Each, Marked as ItsMarks, each_calm, each_fed, item_marked, leave_marks, leave_all_marks, items_plain, body_none}
use Rattle.aos_sim.proofs.NeverLost.{AsksInside, never_awaits, value_comes, calm_comes, asks_fed, asks_calm, item_asks}
use Rattle.aos_sim.proofs.Insides.{is_inside, AreInside, ComesInside, items_inside, body_inside, leave_inside, leave_all_inside, item_inside, may_begin}
use Rattle.aos_concurrency.proofs.Tables.{lock, is_itself}
use Rattle.aos_sim.proofs.Bodies.{own_known}
use Rattle.aos_sim.proofs.Locks.{frame_lock}
use Rattle.aos_sim.proofs.First.{zero_cell, first_is, first_same, get_right}
use Rattle.aos_sim.proofs.States.{locks_open, number_get, SameRegions, ends_open, world_of, shapes_of, with_answer, SameStore, SameVariables, Placed, place_grows, IsFew, Waiting, SameFrames, WentFrames, RoutinesRun, Follows, Same, SameState, waiting_length, answer_of, ends_went, ends_shown, AreFew, all_whole, behind_grows, top_shape, went_same, opened_same, waiting_grow}
use Rattle.aos_sim.proofs.Entered.{both, handed_there, called_shown, called_counted, called_frame_of, answer_stacked, few_scalars, waiting_counted}
use Rattle.aos_sim.proofs.Written.{written}
use Rattle.aos_sim.proofs.Making.{some_lengths, none_open, made_lengths, made_long}
use Rattle.aos_sim.proofs.Created.{numbers_found, made_plain, made_cells, begun, room_same, roomy}
use Rattle.aos_sim.proofs.Copied.{copied_alike}
use Rattle.aos_sim.proofs.Objects.{some_same}
use Rattle.aos_sim.proofs.Texts.{AreCodes, fitted_same, fitted_within, TextAlike, text_alike, stored_alike as text_stored_alike}
use Rattle.aos_sim.proofs.Starting.{silent_at_start, run_at_start, silent_at_await, run_at_await, silent_at_entry, silent_at_end, run_at_entry, run_at_end}

-- Where silent work stops, by the run from there.

module _ (tables : Tables) (own : ℕ) (here : Here) (code : List Instr) where
  abbrev work_at : (q : Question) (p : ℕ) (k : Keeps) (st : Stack) → Cell → Run
  work_at q p k st x = past tables q x p k st (λ over at' k' s'. runs tables own here code (drop at' code) over at' k' s')

  stop_begins : (stop : Stop) (p : ℕ) (at : Pos) (k : Keeps) (st : Stack) → resume tables own here code stop ≡ Val (AtBegin p at k st) → stop ≡ Ended (Begins p at st) k
  stop_begins (Work q p' k' st') p at k st e = by (is_asked_at_once q) e
    where
      by : (b : Bool) → (if b then Traps 16 0 else Asks q (work_at q p' k' st')) ≡ Val (AtBegin p at k st) → Work q p' k' st' ≡ Ended (Begins p at st) k
      by true e = absurd (cc e)
      by false e = absurd (cc e)
  stop_begins (Ended (Begins p' at' st') k') p at k st e =
      let a : p' ≡ p = cc e in
      let b : at' ≡ at = cc e in
      let c : st' ≡ st = cc e in
      let d : k' ≡ k = cc e in
      λ j. Ended (Begins (a j) (b j) (c j)) (d j)
  stop_begins (Ended (Fails n c) k') p at k st e = absurd (cc e)
  stop_begins (Ended (Decides z) k') p at k st e = absurd (cc e)

  -- at the end of a condition
  pub stop_decides : (stop : Stop) (z : ℤ) → resume tables own here code stop ≡ Val (Decided z) → (k : Keeps) × (stop ≡ Ended (Decides z) k)
  stop_decides (Work q p k st) z e = by (is_asked_at_once q) e
    where
      by : (b : Bool) → (if b then Traps 16 0 else Asks q (work_at q p k st)) ≡ Val (Decided z) → (k' : Keeps) × (Work q p k st ≡ Ended (Decides z) k')
      by true e = absurd (cc e)
      by false e = absurd (cc e)
  stop_decides (Ended (Begins p at st) k) z e = absurd (cc e)
  stop_decides (Ended (Fails n c) k) z e = absurd (cc e)
  stop_decides (Ended (Decides y) k) z e = let a : y ≡ z = cc e in (k, λ j. Ended (Decides (a j)) k)

  -- with a trap of the language
  pub stop_fails : (stop : Stop) (n c : ℕ) → n < 16 → resume tables own here code stop ≡ Traps n c → (k : Keeps) × (stop ≡ Ended (Fails n c) k)
  stop_fails (Work q p k st) n c l e = by (is_asked_at_once q) e
    where
      by : (b : Bool) → (if b then Traps 16 0 else Asks q (work_at q p k st)) ≡ Traps n c → (k' : Keeps) × (Work q p k st ≡ Ended (Fails n c) k')
      by true e = let h : 16 ≡ n = cc e in absurd (omega (arith, h, l))
      by false e = absurd (cc e)
  stop_fails (Ended (Begins p at st) k) n c l e = absurd (cc e)
  stop_fails (Ended (Decides z) k) n c l e = absurd (cc e)
  stop_fails (Ended (Fails n' c') k) n c l e =
      let a : n' ≡ n = cc e in
      let b : c' ≡ c = cc e in
      (k, λ j. Ended (Fails (a j) (b j)) k)

  -- a stop at this question, behind which the run goes on as d says
  pub record AtWork (q : Question) (d : Cell → Run) (stop : Stop) : Type 0 where
    pub at : ℕ
    pub keeps : Keeps
    pub stack : Stack
    pub is : stop ≡ Work q at keeps stack
    pub on : (x : Cell) → d x ≡ past tables q x at keeps stack (λ over at' k' s'. runs tables own here code (drop at' code) over at' k' s')

  pub stop_works : (stop : Stop) (q : Question) (d : Cell → Run) → resume tables own here code stop ≡ Asks q d → AtWork q d stop
  stop_works (Ended (Begins p at st) k) q d e = absurd (cc e)
  stop_works (Ended (Fails n c) k) q d e = absurd (cc e)
  stop_works (Ended (Decides z) k) q d e = absurd (cc e)
  stop_works (Work q' p k st) q d e = by (is_asked_at_once q') e
    where
      by : (b : Bool) → (if b then Traps 16 0 else Asks q' (work_at q' p k st)) ≡ Asks q d → AtWork q d (Work q' p k st)
      by true e = absurd (cc e)
      by false e =
          let a : q' ≡ q = cc e in
          let b : work_at q' p k st ≡ d = cc e in
          record { at = p; keeps = k; stack = st; is = λ j. Work (a j) p k st; on = λ x. sym (ap (λ h. h x) b) ∙ ap (λ z. work_at z p k st x) a }

-- What is written and read.

written_alike : (w : World Sort) (v n : Value) → IsInteger W64 v → IsInteger W64 n → S.written v n ≡ I.written (cell_of w v) (cell_of w n)
written_alike w v n hv hn =
    let a = integer_is W64 v hv in
    let b = integer_is W64 n hn in
    subst (λ x. S.written x n ≡ I.written (cell_of w x) (cell_of w n)) (sym a.1)
    (subst (λ x. S.written (Int a.0) x ≡ I.written (cell_of w (Int a.0)) (cell_of w x)) (sym b.1) refl)

-- from outside of the lock's regions there is no mark
no_marks : (l : LockName) (others : List LockName) (is_open : Bool) (is : List Item) → locks_in l is ≡ locks_open is_open l → times l (locks_in l is ++ others) ≡ 0 → locks_in l is ≡ []
no_marks l others false is marked outside = marked
no_marks l others true is marked outside =
    let one : times l (l ∷ others) ≡ 0 = ap (λ ls. times l (ls ++ others)) (sym marked) ∙ outside in
    absurd (let z : suc (times l others) ≡ 0 = sym (ap (λ (b : Bool). if b then suc (times l others) else times l others) (is_itself lock l)) ∙ one in cc z)

-- a frame whose region has its mark has no other
one_mark : (l : LockName) (is_open : Bool) (is : List Item) → l ∷ locks_in l is ≡ locks_open is_open l → locks_in l is ≡ []
one_mark l true is marked = cc marked
one_mark l false is marked = absurd (cc marked)

-- whether a region is open the marks tell
marked_open : (is_open : Bool) (l : LockName) → is_inside (locks_open is_open l) ≡ true → is_open ≡ true
marked_open true l marked = refl
marked_open false l marked = absurd (cc marked)

unmarked_closed : (is_open : Bool) (l : LockName) → [] ≡ locks_open is_open l → is_open ≡ false
unmarked_closed false l marked = refl
unmarked_closed true l marked = absurd (cc marked)

module _ (program : Program) (image : Image) where
  -- what is awaited is a condition over the topmost of these frames
  abbrev pub IsAwaited : List Made → ℕ → List S.Frame → Type 0
  IsAwaited made c [] = Unit {0}
  IsAwaited made c (f ∷ fs) = Valid program (S.here_of f fs) (world_of program made (shapes_of (f ∷ fs))) (Awaits c)

  abbrev pub Awaited : List Made → Did → S.Frames → Type 0
  Awaited made Went x = Unit {0}
  Awaited made NoFrame x = Unit {0}
  Awaited made (Enter l) x = Unit {0}
  Awaited made (Leave l) x = Unit {0}
  Awaited made (Await l c) x = IsAwaited made c x.frames
  Awaited made (Start o) x = Unit {0}
  Awaited made (Trapped n c) x = Unit {0}

  pub awaited_grows : (made more : List Made) (w : Did) (x : S.Frames) → Awaited made w x → Awaited (made ++ more) w x
  awaited_grows made more Went x h = tt
  awaited_grows made more NoFrame x h = tt
  awaited_grows made more (Enter l) x h = tt
  awaited_grows made more (Leave l) x h = tt
  awaited_grows made more (Start o) x h = tt
  awaited_grows made more (Trapped n c) x h = tt
  awaited_grows made more (Await l c) x h = by x.frames h
    where
      by : (fs : List S.Frame) → IsAwaited made c fs → IsAwaited (made ++ more) c fs
      by [] h = tt
      by (f ∷ fs) h =
          let shapes = shapes_of (f ∷ fs) in
          valid_grows program (S.here_of f fs) (world_of program made shapes) (world_of program (made ++ more) shapes) (objects_grow (scheme program) made more shapes) (Awaits c) h

  -- the frames of an activity before work: the same, now and behind work that the kernel does
  pub record Together (s : Store) (mem : Memory) (w : Did) (x : S.Frames) (y : I.Frames) : Type 0 where
    pub now : Same program image s.made x y
    pub behind : GoesPast (Outside (S.source program)) w x → Same program image s.made (S.past program x) (I.past image y)
    pub awaited : Awaited s.made w x

  abbrev pub Alike : S.Turned → I.Turned → Type 0
  Alike = SameTurn (SameStore program) Together

  -- which isn't so of work that isn't gone past
  none_awaited : (made : List Made) (w : Did) (x : S.Frames) → (GoesPast (Outside (S.source program)) w x → ⊥) → Awaited made w x
  none_awaited made Went x never = tt
  none_awaited made NoFrame x never = tt
  none_awaited made (Enter l) x never = tt
  none_awaited made (Leave l) x never = tt
  none_awaited made (Await l c) x never = absurd (never tt)
  none_awaited made (Start o) x never = tt
  none_awaited made (Trapped n c) x never = tt

  -- what isn't gone past
  went : (s : Store) (mem : Memory) (bytes : List ℕ) (begun : Bool) (w : Did) (x : S.Frames) (y : I.Frames) → (GoesPast (Outside (S.source program)) w x → ⊥) → SameState program image s mem x y →
      Alike (record { store = s; frames = x; output = bytes; begun = begun; left = w }) (record { store = mem; frames = y; output = bytes; begun = begun; left = w })
  went s mem bytes begun w x y never h =
      record { stores = h.stores; frames = record { now = h.same; behind = λ k. absurd (never k); awaited = none_awaited s.made w x never }; left = refl; output = refl; begun = refl }

  -- an end is that of the frame below with its answer
  ends_is : (ms : List ℕ) (r : Option Value) (fs : List S.Frame) (s : Store) → S.ends ms r fs s ≡ S.goes_on ms (S.with_result ms (answer_of program image r) fs) s
  ends_is ms None fs s = refl
  ends_is ms (Some v) fs s = refl

  -- the topmost frame
  module _ (typed : HasTypes program) (shaped : HasShapes program (tables_of program image)) (routines_run : RoutinesRun program image) (items_do : ItemsDo program) (ms ps : List ℕ) (f : S.Frame) (g : I.Frame) (fs : List S.Frame) (gs : List I.Frame) (s : Store) (mem : Memory) (place : Placed program image (λ o. by_number o s.made) f g) (follows : Follows program image ms ps) (below : Waiting program image s.made (result_of place.routine.own) fs gs) (stores : SameStore program s mem) (shown : SameVariables program s.made (f ∷ fs) (g ∷ gs)) (marks : SameRegions fs gs) where
    abbrev own : Option Procedure
    own = place.routine.own

    abbrev tables : Tables
    tables = tables_of program image

    abbrev shapes : List ProcShape
    shapes = image.shapes.items

    abbrev types : List TypeDesc
    types = image.types.items

    abbrev code : List Instr
    code = code_of image g.procedure

    abbrev here : Here
    here = S.here_of f fs

    abbrev now : World Sort
    now = world_of program s.made (shapes_of (f ∷ fs))

    abbrev run_from : ℕ → Keeps → Stack → Run
    run_from = run tables g.procedure here code

    abbrev onward : Onward
    onward over at k st = runs tables g.procedure here code (drop at code) over at k st

    abbrev stop_from : ℕ → Keeps → Stack → Stop
    stop_from = silent shapes types now.made g.procedure here g.cells code

    abbrev resumed : Stop → Run
    resumed = resume tables g.procedure here code

    abbrev item : Item → Doing After
    item = item_of program here

    abbrev Leads : List Item → World Sort → After → Run → Type 0
    Leads = Behind program own tables g.procedure here code

    abbrev Left : World Sort → Option (List Value) → List Item → ℕ → Keeps → Stack → Type 0
    Left = Remains program own tables g.procedure here code f.variables g.cells

    -- what the code does behind the silent questions that stand first
    abbrev Calm : List Item → Run → Doing After → Type 0
    Calm is m r = Calmly program here (Leads is) types g.cells now (calm types now.made g.cells m) r

    abbrev upper : List Item → Option (List Value) → S.Frame
    upper items answers = record f { items = items; answers = answers }

    abbrev lower : ℕ → Keeps → Stack → I.Frame
    lower next k st = record g { next = next; keeps = k; stack = st }

    abbrev uppers : List Item → Option (List Value) → S.Frames
    uppers items answers = S.all_frames ms (upper items answers ∷ fs)

    abbrev lowers : ℕ → Keeps → Stack → I.Frames
    lowers next k st = I.all_frames ps (lower next k st ∷ gs)

    whole : IsWhole program now
    whole = all_whole program image shaped s.made f.shape (result_of own) fs gs stores.few place.frame.few below

    knows : Knows program own here now
    knows = record { modules = λ m x e. e; frame = (f.shape, top_shape program s.made f fs, place.frame); self = place.self }

    -- both sides name the frame's lock alike
    lock_is : (items : List Item) (answers : Option (List Value)) (next : ℕ) (k : Keeps) (st : Stack) → I.lock_in (numbered shapes g.procedure) (lower next k st) ≡ S.lock_of f
    lock_is items answers next k st = frame_lock program image shaped (λ o. by_number o s.made) (upper items answers) (lower next k st) place

    is_own : IsOwn program own tables g.procedure
    is_own = own_known program tables shaped g.procedure place.routine place.there

    leads_grow : (is : List Item) (w : World Sort) → Grows now w → (a : After) (m : Run) → Leads is now a m → Leads is w a m
    leads_grow is w up a m h = behind_grows program image now w up own g.procedure here is a m h

    lasting : (is : List Item) (m : Run) (r : Doing After) → Does program here (Leads is) now m r → Lasts program here (Leads is) types f.variables g.cells now m r
    lasting is m r d = does_last program here (Leads is) now f.shape f.variables g.cells tables m r (leads_grow is) (top_shape program s.made f fs) shown.0 whole shaped d

    -- in each whole world that has grown, silent work goes on with the code that carries out these items
    abbrev Comes : List Item → ℕ → Keeps → Stack → Type 0
    Comes is next k st =
        (w : World Sort) → Grows now w → IsWhole program w → (m : Run) × (calm types w.made g.cells (run_from next k st) ≡ calm types w.made g.cells m) × GoesOn program own tables g.procedure here code is m

    -- the marks of these items are those of the regions that the frame has open, and each item keeps the rules where it stands
    abbrev Marked : List Item → Type 0
    Marked items = (locks_in (S.lock_of f) items ≡ locks_open g.is_open (S.lock_of f)) × AreInside (S.lock_of f) items

    -- what a question of the program needs of the frame's region
    abbrev OpenFor : source.Question → Type 0
    OpenFor (Awaits c) = g.is_open ≡ true
    OpenFor q = Unit {0}

    state : (items : List Item) (answers : Option (List Value)) (next : ℕ) (k : Keeps) (st : Stack) → Marked items → Left now answers items next k st → SameState program image s mem (uppers items answers) (lowers next k st)
    state items answers next k st marked h =
        record { stores = stores; same = record { follows = follows; frames = (record { place = place; remains = h }, below); shown = shown; regions = (marked, marks) } }

    -- behind an answer
    went_frames : (i : Item) (is : List Item) (t : List Value) (next : ℕ) (k : Keeps) (st : Stack) → Does program here (Leads is) now (run_from next k st) (feed t (item i)) → WentFrames program image s.made (upper (i ∷ is) (Some t) ∷ fs) (lower next k st ∷ gs)
    went_frames i is t next k st d = (record { place = place; went = d }, below)

    went_state : (i : Item) (is : List Item) (t : List Value) (next : ℕ) (k : Keeps) (st : Stack) → Marked (i ∷ is) → Does program here (Leads is) now (run_from next k st) (feed t (item i)) → SameState program image s mem (uppers (i ∷ is) (Some t)) (lowers next k st)
    went_state i is t next k st marked d = state (i ∷ is) (Some t) next k st marked (lasting is (run_from next k st) (feed t (item i)) d)

    -- the frame's end
    ends_alike : (r : Option Value) (g' : I.Frame) → g'.is_open ≡ false → (stop : Stop) (d : Cell → Run) → IsResult program now (result_of own) r → resumed stop ≡ Asks (Ends (option_map (cell_of now) r)) d → Alike (S.ends ms r fs s) (I.goes ps shapes types stop g' gs mem)
    ends_alike r g' closed stop d is e =
        let c = option_map (cell_of now) r in
        let v = stop_works tables g.procedure here code stop (Ends c) d e in
        let uppers' = S.with_result ms (answer_of program image r) fs in
        let lowers' = I.with_result ps c gs in
        let shown' = ends_shown program image s.made ms ps (answer_of program image r) c fs gs shown.1 in
        subst (λ z. Alike z (I.goes ps shapes types stop g' gs mem)) (sym (ends_is ms r fs s))
        (subst (λ z. Alike (S.goes_on ms uppers' s) (I.goes ps shapes types z g' gs mem)) (sym v.is)
        (subst (λ b. Alike (S.goes_on ms uppers' s) (I.works ps shapes types (not b) (Ends c) (I.asker v.at v.keeps v.stack g' gs mem))) (sym closed)
        (went s mem [] false Went (S.all_frames ms uppers') (I.all_frames ps lowers') (λ k. k)
        (record {
          stores = stores;
          same = record { follows = follows; frames = went_same program image shaped s.made uppers' lowers' stores.few (ends_went program image s.made ms ps (result_of own) r f.shape fs gs below is) shown'; shown = shown'; regions = ends_open ms ps (answer_of program image r) c fs gs marks };
        }))))

    -- an item begins
    begins_alike : (there : Pos) (i : Item) (is items : List Item) (answers : Option (List Value)) (next : ℕ) (k0 : Keeps) (st0 : Stack) (stop : Stop) (m : Run) → Marked (i ∷ is) → BeginsAt program own tables g.procedure here code there i is now m → resumed stop ≡ calm types now.made g.cells m → Alike (S.begins ms there (i ∷ is) (S.top (upper items answers) fs s)) (I.goes ps shapes types stop (lower next k0 st0) gs mem)
    begins_alike there i is items answers next k0 st0 stop m marked b e =
        subst (λ z. Alike (S.begins ms there (i ∷ is) (S.top (upper items answers) fs s)) (I.goes ps shapes types z (lower next k0 st0) gs mem)) (sym (stop_begins tables g.procedure here code stop b.at there b.keeps [] (e ∙ ap (calm types now.made g.cells) b.runs)))
        (went s mem [] true Went _ _ (λ k. k)
        (record {
          stores = stores;
          same = record {
            follows = follows;
            frames = (
              record {
                place = record { routine = place.routine; there = place.there; home_is = place.home_is; object_is = place.object_is; at_is = refl; gives_is = place.gives_is; counted_is = place.counted_is; none_is = place.none_is; frame = place.frame; self = place.self };
                remains = lasting is (run_from (b.at + 1) b.keeps []) (item i) b.does;
              },
              below,
            );
            shown = shown;
            regions = (marked, marks);
          };
        }))

    traps_alike : (items : List Item) (answers : Option (List Value)) (next : ℕ) (k : Keeps) (st : Stack) (n c : ℕ) (stop : Stop) (k' : Keeps) → Marked items → Left now answers items next k st → stop ≡ Ended (Fails n c) k' → Alike (S.leaves ms (Trapped n c) (upper items answers ∷ fs) s) (I.goes ps shapes types stop (lower next k st) gs mem)
    traps_alike items answers next k st n c stop k' marked left e =
        subst (λ z. Alike (S.leaves ms (Trapped n c) (upper items answers ∷ fs) s) (I.goes ps shapes types z (lower next k st) gs mem)) (sym e)
        (went s mem [] false (Trapped n c) _ _ (λ z. z) (state items answers next k st marked left))

    -- an item that has begun
    module _ (i : Item) (is : List Item) (t : List Value) (next : ℕ) (k : Keeps) (st : Stack) (marked : Marked (i ∷ is)) (left : Left now (Some t) (i ∷ is) next k st) where
      abbrev top : S.Frame
      top = upper (i ∷ is) (Some t)

      abbrev low : I.Frame
      low = lower next k st

      -- a question of it, to which its code has come: what both go on with, and where silent work stops
      record Asking (q : source.Question) : Type 0 where
        onto : Value → Doing After
        code_on : Cell → Run
        at : ℕ
        keeps : Keeps
        stack : Stack
        visible : IsVisible q
        asks : feed t (item i) ≡ Asks q onto
        valid : Valid program here now q
        opened : OpenFor q
        on : (x : Cell) → code_on x ≡ past tables (placed program now q) x at keeps stack onward
        after : (w : World Sort) → Grows now w → (v : Value) → Conforms program w q v → Does program here (Leads is) w (code_on (cell_of w v)) (onto v)
        stop : stop_from next k st ≡ Work (placed program now q) at keeps stack

      module _ (q : source.Question) (x : Asking q) where
        -- with one more answer the code has come behind its instruction
        answered_so : (w : World Sort) → Grows now w → (v : Value) → Conforms program w q v → (st2 : Stack) → past tables (placed program now q) (cell_of w v) x.at x.keeps x.stack onward ≡ run_from (x.at + 1) x.keeps st2 → Does program here (Leads is) w (run_from (x.at + 1) x.keeps st2) (feed (t ++ v ∷ []) (item i))
        answered_so w up v c st2 e =
            subst (λ r. Does program here (Leads is) w (run_from (x.at + 1) x.keeps st2) r) (sym (feed-append t (v ∷ []) (item i) ∙ ap (feed (v ∷ [])) x.asks))
            (along program here (Leads is) w (run_from (x.at + 1) x.keeps st2) (x.code_on (cell_of w v)) (x.onto v) (sym (x.on (cell_of w v) ∙ e)) (x.after w up v c))

        answered_frames : (v : Value) → Conforms program now q v → (st2 : Stack) → past tables (placed program now q) (cell_of now v) x.at x.keeps x.stack onward ≡ run_from (x.at + 1) x.keeps st2 → WentFrames program image s.made (S.answered v top ∷ fs) (I.behind ps x.at x.keeps st2 low ∷ gs)
        answered_frames v c st2 e = went_frames i is (t ++ v ∷ []) (x.at + 1) x.keeps st2 (answered_so now (grows_same now) v c st2 e)

        answered_now : (v : Value) → Conforms program now q v → (st2 : Stack) → past tables (placed program now q) (cell_of now v) x.at x.keeps x.stack onward ≡ run_from (x.at + 1) x.keeps st2 → SameState program image s mem (uppers (i ∷ is) (Some (t ++ v ∷ []))) (lowers (x.at + 1) x.keeps st2)
        answered_now v c st2 e = went_state i is (t ++ v ∷ []) (x.at + 1) x.keeps st2 marked (answered_so now (grows_same now) v c st2 e)

        -- where the answer doesn't matter
        done_so : Conforms program now q S.done → past tables (placed program now q) (cell_of now S.done) x.at x.keeps x.stack onward ≡ run_from (x.at + 1) x.keeps x.stack → SameState program image s mem (uppers (i ∷ is) (Some (t ++ S.done ∷ []))) (lowers (x.at + 1) x.keeps x.stack)
        done_so c e = answered_now S.done c x.stack e

      puts_alike : (bytes : List ℕ) (p : ℕ) (k' : Keeps) (st' : Stack) → SameState program image s mem (uppers (i ∷ is) (Some (t ++ S.done ∷ []))) (lowers (p + 1) k' st') → Alike (S.puts ms bytes (S.answered S.done top ∷ fs) s) (I.puts ps bytes (I.behind ps p k' st' low ∷ gs) mem)
      puts_alike bytes p k' st' h = went s mem bytes false Went _ _ (λ x. x) h

      prints_alike : (o : Option (List ℕ)) (p : ℕ) (k' : Keeps) (st' : Stack) → SameState program image s mem (uppers (i ∷ is) (Some (t ++ S.done ∷ []))) (lowers (p + 1) k' st') → Alike (S.prints ms o (S.top top fs s)) (I.prints ps o (I.asker p k' st' low gs mem))
      prints_alike None p k' st' h = went s mem [] false (Trapped 14 0) _ _ (λ x. x) (state (i ∷ is) (Some t) next k st marked left)
      prints_alike (Some bytes) p k' st' h = puts_alike bytes p k' st' h

      abbrev variables : Rooted (Content Value)
      variables = S.all_rooted (f ∷ fs) s

      abbrev cells : Rooted (List Cell)
      cells = I.rooted (g ∷ gs) mem

      abbrev shapes_now : List (Shape Sort)
      shapes_now = shapes_of (f ∷ fs)

      shows : Shows (Is program) cell_of (scheme program) s.made shapes_now variables cells
      shows = record { of_frames = shown; of_modules = stores.of_modules; of_objects = stores.of_objects }

      abbrev read_at : (p : Location) (z : Sort) → shape_at now p.root p.path ≡ Some (One z) → ReadAlike (Is program) cell_of IsPlain (values_kept program) (scheme program) s.made shapes_now variables cells p.root p.path z
      read_at p z e = read_alike (Is program) cell_of IsPlain (values_kept program) (scheme program) s.made shapes_now variables cells p.root p.path z shows e

      -- a scalar is read
      reads_alike : (u : TType) (a : Location) (x : Asking (Reads u a)) → Alike (S.answer program ms (Reads u a) (S.top top fs s)) (I.answer ps shapes types (placed program now (Reads u a)) (I.asker x.at x.keeps x.stack low gs mem))
      reads_alike u a x =
          let r = read_at a (Plain (id_of u)) x.valid.1 in
          let source : Value → S.Turned = λ v. S.goes_on ms (S.answered v top ∷ fs) s in
          let there = I.goes_on ps (I.behind ps x.at x.keeps (cell_of now r.value ∷ x.stack) low ∷ gs) mem in
          let lost = I.leaves ps (Trapped 16 0) (low ∷ gs) mem in
          subst (λ z. Alike (source z) (I.answer ps shapes types (placed program now (Reads u a)) (I.asker x.at x.keeps x.stack low gs mem))) (sym (ap scalar_in r.source))
          (subst (λ o. Alike (source r.value) (I.reads ps (kind_of program.types u) o (I.asker x.at x.keeps x.stack low gs mem))) (sym r.image)
          (subst (λ b. Alike (source r.value) (if b then there else lost)) (sym (stored_kind program typed.predeclared u x.valid.0 now r.value r.is))
          (went s mem [] false Went _ _ (λ z. z) (answered_now (Reads u a) x r.value r.is (cell_of now r.value ∷ x.stack) refl))))

      -- a scalar is stored
      stores_alike : (a : Location) (v : Value) (x : Asking (Stores a v)) → Alike (S.answer program ms (Stores a v) (S.top top fs s)) (I.answer ps shapes types (placed program now (Stores a v)) (I.asker x.at x.keeps x.stack low gs mem))
      stores_alike a v x =
          let sort = x.valid.0 in
          let r = read_at a sort x.valid.2 in
          let cell = cell_of now v in
          let source = S.answer program ms (Stores a v) (S.top top fs s) in
          let new = stored_alike (Is program) cell_of IsPlain (values_kept program) (scheme program) s.made shapes_now variables cells a.root a.path (One sort) (Scalar v) shows x.valid.2 x.valid.1 x.valid.3 in
          let h = answered_frames (Stores a v) x S.done tt x.stack refl in
          subst (λ o. Alike source (I.writes ps (is_some o) (addr_of now a) (cell ∷ []) (I.asker x.at x.keeps x.stack low gs mem))) (sym r.image)
          (went _ _ [] false Went _ _ (λ z. z)
          (written program image shaped a.root (placed_at a.path (Scalar v)) (spliced (addr_of now a).cell (cell ∷ [])) s mem ms ps (S.answered S.done top ∷ fs) (I.behind ps x.at x.keeps x.stack low ∷ gs) stores.made stores.few follows h (marked, marks) new))

      -- a whole record or array is copied
      copies_alike : (u : TType) (from to : Location) (x : Asking (Copies u from to)) → Alike (S.answer program ms (Copies u from to) (S.top top fs s)) (I.answer ps shapes types (placed program now (Copies u from to)) (I.asker x.at x.keeps x.stack low gs mem))
      copies_alike u from to x =
          let c = copied_alike program s.made shapes_now variables cells shows u from to x.valid.0 x.valid.1 in
          let shape = variable_shape program.types (id_of u) in
          let source : Option (Content Value) → Option (Content Value) → S.Turned = λ new old. S.copies ms (S.copied shape new old) to (S.top top fs s) in
          let image_so : Option (List Cell) → Bool → I.Turned = λ all there. I.copies ps all there (addr_of now to) (I.asker x.at x.keeps x.stack low gs mem) in
          let h = answered_frames (Copies u from to) x S.done tt x.stack refl in
          subst (λ z. Alike z (I.answer ps shapes types (placed program now (Copies u from to)) (I.asker x.at x.keeps x.stack low gs mem))) (sym (λ j. source (c.read_from j) (c.read_to j)))
          (subst (Alike (source (Some c.new) (Some c.old))) (sym (λ j. image_so (c.image j) (c.there j)))
          (went _ _ [] false Went _ _ (λ z. z)
          (written program image shaped to.root (placed_at to.path (overlay shape c.new c.old)) (spliced (addr_of now to).cell c.cells) s mem ms ps (S.answered S.done top ∷ fs) (I.behind ps x.at x.keeps x.stack low ∷ gs) stores.made stores.few follows h (marked, marks) c.alike)))

      -- the text at a place, which both find
      text_both : (p : Location) (n : ℕ) → HasCharacters now p n → TextAlike program typed.predeclared s.made shapes_now variables cells shows ps p n
      text_both p n h = text_alike program typed.predeclared s.made shapes_now variables cells shows ps p n h

      text_found : (p : Location) (v : Value) (h : HasText now p v) → I.text_at ps (addr_of now p) (cell_of now v) cells ≡ Some (text_both p h.0 h.2).text
      text_found p v h = ap (λ z. I.text_at ps (addr_of now p) (cell_of now z) cells) h.1 ∙ (text_both p h.0 h.2).image

      -- what is stored of a text, where there is room for it
      text_stored : (strict : Bool) (from : Location) (n : Value) (to : Location) (room : Value) (x : Asking (PutsText strict from n to room)) (m : ℕ) → HasCharacters now to m → 0 < m → (text : List ℕ) → AreCodes text → (o : Option (List ℕ)) → fitted strict m text ≡ o →
          Alike (S.stores_text ms o (read to.root to.path variables) to (S.top top fs s)) (I.stores_text ps o (addr_of now to) cells (I.asker x.at x.keeps x.stack low gs mem))
      text_stored strict from n to room x m has some text codes None e = went s mem [] false (Trapped 15 0) _ _ (λ z. z) (state (i ∷ is) (Some t) next k st marked left)
      text_stored strict from n to room x m has some text codes (Some cs) e =
          let c = text_stored_alike program typed.predeclared s.made shapes_now variables cells shows ps to m cs has (fitted_within strict m text cs some codes e) in
          let source : Option (Content Value) → S.Turned = λ old. S.stores_text ms (Some cs) old to (S.top top fs s) in
          let image_so : Bool → I.Turned = λ there. I.writes ps there (addr_of now to) (I.character_cells ps cs) (I.asker x.at x.keeps x.stack low gs mem) in
          let h = answered_frames (PutsText strict from n to room) x S.done tt x.stack refl in
          subst (λ z. Alike (source z) (image_so (is_some (I.cells_at (length cs) (addr_of now to) cells)))) (sym c.source)
          (subst (λ b. Alike (source (Some c.old)) (image_so b)) (sym c.there)
          (went _ _ [] false Went _ _ (λ z. z)
          (written program image shaped to.root (placed_at to.path (with_text cs c.old)) (spliced (addr_of now to).cell (I.character_cells ps cs)) s mem ms ps (S.answered S.done top ∷ fs) (I.behind ps x.at x.keeps x.stack low ∷ gs) stores.made stores.few follows h (marked, marks) c.alike)))

      texts_put_alike : (strict : Bool) (from : Location) (n : Value) (to : Location) (room : Value) (x : Asking (PutsText strict from n to room)) → Alike (S.answer program ms (PutsText strict from n to room) (S.top top fs s)) (I.answer ps shapes types (placed program now (PutsText strict from n to room)) (I.asker x.at x.keeps x.stack low gs mem))
      texts_put_alike strict from n to room x =
          let v = x.valid.0 in
          let into = x.valid.1 in
          let a = text_both from v.0 v.2 in
          let source : Value → List ℕ → S.Turned = λ z text. S.stores_text ms (fitted strict (unsigned_abs (number_of z)) text) (read to.root to.path variables) to (S.top top fs s) in
          let image_so : Option (List ℕ) → Value → I.Turned = λ o z. I.puts_text ps (I.fitted_in ps strict o (I.length_in ps (cell_of now z))) (addr_of now to) cells (I.asker x.at x.keeps x.stack low gs mem) in
          subst (λ z. Alike z (image_so (I.text_at ps (addr_of now from) (cell_of now n) cells) room)) (sym (λ j. source (into.1 j) (a.source j)))
          (subst (Alike (source (Int (pos into.0)) a.text)) (sym (λ j. image_so (text_found from n v j) (into.1 j)))
          (subst (λ o. Alike (source (Int (pos into.0)) a.text) (I.stores_text ps o (addr_of now to) cells (I.asker x.at x.keeps x.stack low gs mem))) (fitted_same ps strict into.0 a.text)
          (text_stored strict from n to room x into.0 into.2 into.3 a.text a.codes (fitted strict into.0 a.text) refl)))

      -- a text is written
      strings_alike : (a : Location) (n : Value) (x : Asking (PutsString a n)) → Alike (S.answer program ms (PutsString a n) (S.top top fs s)) (I.answer ps shapes types (placed program now (PutsString a n)) (I.asker x.at x.keeps x.stack low gs mem))
      strings_alike a n x =
          let b = text_both a x.valid.0 x.valid.2 in
          let source : List ℕ → S.Turned = λ text. S.puts ms text (S.answered S.done top ∷ fs) s in
          subst (λ z. Alike (source z) (I.answer ps shapes types (placed program now (PutsString a n)) (I.asker x.at x.keeps x.stack low gs mem))) (sym b.source)
          (subst (λ o. Alike (source b.text) (I.writes_out ps o (I.asker x.at x.keeps x.stack low gs mem))) (sym (text_found a n x.valid))
          (puts_alike b.text x.at x.keeps x.stack (done_so (PutsString a n) x tt refl)))

      -- two texts are compared
      compares_alike : (r : Relation) (a : Location) (n : Value) (b : Location) (m : Value) (x : Asking (ComparesTexts r a n b m)) → Alike (S.answer program ms (ComparesTexts r a n b m) (S.top top fs s)) (I.answer ps shapes types (placed program now (ComparesTexts r a n b m)) (I.asker x.at x.keeps x.stack low gs mem))
      compares_alike r a n b m x =
          let first = text_both a x.valid.0.0 x.valid.0.2 in
          let second = text_both b x.valid.1.0 x.valid.1.2 in
          let v : List ℕ → List ℕ → Value = λ l z. Flag (holds r (order l z) (pos 0)) in
          let source : List ℕ → List ℕ → S.Turned = λ l z. S.goes_on ms (S.answered (v l z) top ∷ fs) s in
          let image_so : Option (List ℕ) → Option (List ℕ) → I.Turned = λ l z. I.compares ps r l z (I.asker x.at x.keeps x.stack low gs mem) in
          let is = v first.text second.text in
          subst (λ z. Alike z (I.answer ps shapes types (placed program now (ComparesTexts r a n b m)) (I.asker x.at x.keeps x.stack low gs mem))) (sym (λ j. source (first.source j) (second.source j)))
          (subst (Alike (source first.text second.text)) (sym (λ j. image_so (text_found a n x.valid.0 j) (text_found b m x.valid.1 j)))
          (went s mem [] false Went _ _ (λ z. z) (answered_now (ComparesTexts r a n b m) x is tt (cell_of now is ∷ x.stack) refl)))

      -- an object is made
      module _ (u : ℕ) (vs : List Value) (x : Asking (Makes u vs)) (ns : List ℕ) (lengths_are : array_lengths (map number_of vs) ≡ Some ns) where
        abbrev one : Made
        one = record { type = u; lengths = ns }

        abbrev made : List Made
        made = s.made ++ one ∷ []

        abbrev content : Content Value
        content = begun program one

        abbrev zeros : List Cell
        zeros = map (zero_cell program) (leaves (made_shape program.types one))

        more : Grows now (world_of program made shapes_now)
        more = objects_grow (scheme program) s.made (one ∷ []) shapes_now

        -- it has the lengths that its type asks for
        lengths : All (λ n. n ≤ MOST_SCALARS) ns → HasLengths program (type_row program.types (id_of_made u)) one
        lengths few =
            let number = x.valid.0 in
            subst (λ z. HasLengths program (type_row program.types (id_of_made z)) (record { type = z; lengths = ns })) (sym x.valid.1)
            (made_lengths program number (length vs) vs ns refl (x.valid.3 ∙ ap (λ z. open_dimensions program.types (id_of_made z)) x.valid.1) lengths_are few)

        made_now : (room : Bool) → has_room one content s ≡ room → Alike (S.makes ms room one content (S.top top fs s)) (I.makes ps room one zeros (I.asker x.at x.keeps x.stack low gs mem))
        made_now false e = went s mem [] false (Trapped 12 0) _ _ (λ z. z) (state (i ∷ is) (Some t) next k st marked left)
        made_now true e =
            let w = world_of program made shapes_now in
            let v = Object (new_number s) in
            let room = roomy program s mem stores one e in
            let new = made_alike (Is program) cell_of IsPlain (values_kept program) (first_value program) (zero_cell program) (first_is program) (first_same program) (scheme program) s.made shapes_now one variables cells (made_plain program one) shows in
            let last : length s.made ≡ length s.made + 0 = omega arith in
            let found : w.made (new_number s) ≡ Some one = get_right s.made (one ∷ []) (length s.made) 0 last in
            let few : AreFew program made = All-append (IsFew program) s.made (one ∷ []) stores.few (All-cons (IsFew program) one [] (room.0, lengths room.1) (All-nil (IsFew program))) in
            let conforms : Conforms program w (Makes u vs) v = (ns, lengths_are, record { number = length s.made; is = refl; made = found }, room.1) in
            let goes = answered_so (Makes u vs) x w more v conforms (Ref (new_number s) ∷ x.stack) refl in
            subst (λ n. Alike (S.makes ms true one content (S.top top fs s)) (I.goes_on ps (I.behind ps x.at x.keeps (Ref (suc n) ∷ x.stack) low ∷ gs) (with_cells one zeros mem))) (sym (ap length stores.made))
            (went (with_content one content s) (with_cells one zeros mem) [] false Went _ _ (λ z. z)
            (record {
              stores = record { made = ap (λ l. l ++ one ∷ []) stores.made; few = few; of_modules = new.of_modules; of_objects = new.of_objects };
              same = record {
                follows = follows;
                frames = went_same program image shaped made (S.answered v top ∷ fs) (lower (x.at + 1) x.keeps (Ref (new_number s) ∷ x.stack) ∷ gs) few (record { place = place_grows program image now.made w.made more.made (S.answered v top) (lower (x.at + 1) x.keeps (Ref (new_number s) ∷ x.stack)) place; went = goes }, waiting_grow program image s.made (one ∷ []) (result_of own) fs gs below) new.of_frames;
                shown = new.of_frames;
                regions = (marked, marks);
              };
            }))

        -- what is no open array has no lengths
        closed : is_open (type_row program.types (id_of_made u)) ≡ false → ns ≡ []
        closed isnt = empty ns (some_lengths (map number_of vs) ns lengths_are ∙ length-map vs number_of ∙ x.valid.3 ∙ none_open program.types (id_of_made u) (length program.types) isnt)
          where
            empty : (ns : List ℕ) → length ns ≡ 0 → ns ≡ []
            empty [] l = refl
            empty (n ∷ ns) l = absurd (omega (arith, l))

        made_alike_so : (d : TypeDesc) → d.kinds.items ≡ type_kinds program.types (id_of_made u) → Alike (S.makes_with program ms (Some ns) u (S.top top fs s)) (I.makes_with ps (Some ns) u d (I.asker x.at x.keeps x.stack low gs mem))
        made_alike_so d kinds =
            let all : I.in_rows ps ns (map first_cell d.kinds.items) ≡ zeros = ap (λ ks. I.in_rows ps ns (map first_cell ks)) kinds ∙ made_cells program ps one closed in
            subst (λ cs. Alike (S.makes_with program ms (Some ns) u (S.top top fs s)) (I.makes ps (memory_room one cs mem) one cs (I.asker x.at x.keeps x.stack low gs mem))) (sym all)
            (subst (λ b. Alike (S.makes_with program ms (Some ns) u (S.top top fs s)) (I.makes ps b one zeros (I.asker x.at x.keeps x.stack low gs mem))) (sym (room_same program s mem stores one))
            (made_now (has_room one content s) refl))

      makes_alike : (u : ℕ) (vs : List Value) (x : Asking (Makes u vs)) → Alike (S.answer program ms (Makes u vs) (S.top top fs s)) (I.answer ps shapes types (placed program now (Makes u vs)) (I.asker x.at x.keeps x.stack low gs mem))
      makes_alike u vs x =
          let number = x.valid.0 in
          let zs = map number_of vs in
          let d = shaped.kinds number x.valid.2 in
          let image_so : Option TypeDesc → Option (List ℤ) → I.Turned = λ o l. I.makes_of ps o l u (I.asker x.at x.keeps x.stack low gs mem) in
          let there : numbered types u ≡ Some d.0 = ap (numbered types) x.valid.1 ∙ d.1 in
          let kinds : d.0.kinds.items ≡ type_kinds program.types (id_of_made u) = d.2 ∙ ap (λ n. made_kinds program.types (id_of_made n)) (sym x.valid.1)
          ∙ ap (λ b. if b then type_kinds program.types (id_of_made u) else []) x.valid.5 in
          subst (Alike (S.makes_with program ms (array_lengths zs) u (S.top top fs s))) (sym (λ j. image_so (there j) (numbers_found ps now vs x.valid.4 j)))
          (by (array_lengths zs) refl d.0 kinds)
        where
          by : (o : Option (List ℕ)) → array_lengths (map number_of vs) ≡ o → (d : TypeDesc) → d.kinds.items ≡ type_kinds program.types (id_of_made u) → Alike (S.makes_with program ms o u (S.top top fs s)) (I.makes_with ps o u d (I.asker x.at x.keeps x.stack low gs mem))
          by None e d kinds = went s mem [] false (Trapped 15 0) _ _ (λ z. z) (state (i ∷ is) (Some t) next k st marked left)
          by (Some ns) e d kinds = made_alike_so u vs x ns e d kinds

      -- the frames stand before the work, and past it the code is behind the instruction
      starts_alike : (o : ℕ) (x : Asking (Starts (Object (suc o)))) → Alike (S.starts ms (Object (suc o)) (S.top top fs s)) (I.starts ps (Ref (suc o)) (I.asker x.at x.keeps x.stack low gs mem))
      starts_alike o x =
          let q = Starts (Object (suc o)) in
          let at_start = I.before ps x.at x.keeps (Ref (suc o) ∷ x.stack) low in
          let stop = silent_at_start tables now.made g.procedure here g.cells code next k st (Ref (suc o)) x.at x.keeps x.stack x.stop (λ o. None) in
          let ran = run_at_start tables now.made g.procedure here g.cells code next k st (Ref (suc o)) x.at x.keeps x.stack x.stop in
          let long = sym (waiting_length program image s.made (result_of own) fs gs below) in
          let stop_is = (λ j. silent shapes types (λ o. None) g.procedure (record { below = long j; self = place.object_is j }) g.cells code x.at x.keeps (Ref (suc o) ∷ x.stack)) ∙ stop in
          let on : (w : World Sort) → Grows now w → (v : Value) → Conforms program w q v → Does program here (Leads is) w (run_from (x.at + 1) x.keeps x.stack) (x.onto v) = λ w up v c. along program here (Leads is) w (run_from (x.at + 1) x.keeps x.stack) (x.code_on (cell_of w v)) (x.onto v) (sym (x.on (cell_of w v))) (x.after w up v c) in
          let still = subst (λ r. Does program here (Leads is) now (run_from x.at x.keeps (Ref (suc o) ∷ x.stack)) r) (sym x.asks) ((λ z. run_from (x.at + 1) x.keeps x.stack), ran, x.valid, on) in
          record {
            stores = stores;
            frames = record {
              now = (went_state i is t x.at x.keeps (Ref (suc o) ∷ x.stack) marked still).same;
              behind = λ z.
                  subst (λ y. Same program image s.made (S.all_frames ms (S.answered S.done top ∷ fs)) (I.all_frames ps (I.past_stop y at_start ∷ gs))) (sym stop_is)
                  (done_so q x tt refl).same;
              awaited = tt;
            };
            left = refl;
            output = refl;
            begun = refl;
          }

      -- a condition is awaited: the frames stand before the instruction, and past it the code is behind it
      awaits_alike : (c : ℕ) (x : Asking (Awaits c)) → Alike (S.answer program ms (Awaits c) (S.top top fs s)) (I.answer ps shapes types (Awaits c) (I.asker x.at x.keeps x.stack low gs mem))
      awaits_alike c x =
          subst (λ l. Alike (S.awaits ms (locks_in (S.lock_of f) (i ∷ is)) c (S.top top fs s)) (I.leaves ps (Await l c) (I.before ps x.at x.keeps x.stack low ∷ gs) mem)) (sym (lock_is (i ∷ is) (Some t) next k st))
          (subst (λ ls. Alike (S.awaits ms ls c (S.top top fs s)) (I.leaves ps (Await (S.lock_of f) c) (I.before ps x.at x.keeps x.stack low ∷ gs) mem))
          (sym (marked.0 ∙ ap (λ b. locks_open b (S.lock_of f)) x.opened)) waits)
        where
          waits : Alike (S.awaits ms (S.lock_of f ∷ []) c (S.top top fs s)) (I.leaves ps (Await (S.lock_of f) c) (I.before ps x.at x.keeps x.stack low ∷ gs) mem)
          waits =
              let q = Awaits c in
              let at_await = I.before ps x.at x.keeps x.stack low in
              let stop = silent_at_await tables now.made g.procedure here g.cells code next k st c x.at x.keeps x.stack x.stop (λ o. None) in
              let ran = run_at_await tables now.made g.procedure here g.cells code next k st c x.at x.keeps x.stack x.stop in
              let long = sym (waiting_length program image s.made (result_of own) fs gs below) in
              let stop_is = (λ j. silent shapes types (λ o. None) g.procedure (record { below = long j; self = place.object_is j }) g.cells code x.at x.keeps x.stack) ∙ stop in
              let on : (w : World Sort) → Grows now w → (v : Value) → Conforms program w q v → Does program here (Leads is) w (run_from (x.at + 1) x.keeps x.stack) (x.onto v) = λ w up v c. along program here (Leads is) w (run_from (x.at + 1) x.keeps x.stack) (x.code_on (cell_of w v)) (x.onto v) (sym (x.on (cell_of w v))) (x.after w up v c) in
              let still = subst (λ r. Does program here (Leads is) now (run_from x.at x.keeps x.stack) r) (sym x.asks) ((λ z. run_from (x.at + 1) x.keeps x.stack), ran, x.valid, on) in
              record {
                stores = stores;
                frames = record {
                  now = (went_state i is t x.at x.keeps x.stack marked still).same;
                  behind = λ z.
                      subst (λ y. Same program image s.made (S.all_frames ms (S.answered S.done top ∷ fs)) (I.all_frames ps (I.past_stop y at_await ∷ gs))) (sym stop_is)
                      (done_so q x tt refl).same;
                  awaited = x.valid;
                };
                left = refl;
                output = refl;
                begun = refl;
              }

      -- a procedure is called: a frame is made on both sides, and this one waits for its end
      module _ (how : Manner) (n : ℕ) (vs : List Value) (x : Asking (Calls how n vs)) where
        abbrev routine : Routine
        routine = x.valid.0

        abbrev there : by_number n (routines program) ≡ Some routine
        there = x.valid.1

        abbrev shape : ProcShape
        shape = (shaped.shapes n routine there).0

        abbrev shape_is : seen_shape shape ≡ shape_of program.types routine
        shape_is = (shaped.shapes n routine there).2

        abbrev behind : I.Frame
        behind = I.behind ps x.at x.keeps x.stack low

        abbrev new : S.Frame
        new = S.called_frame program ms routine vs (top ∷ fs) s

        abbrev handed : I.Handed ps
        handed = both program typed.ranked ps ms s.made (top ∷ fs) s cells shows routine vs x.valid.2 n shape shape_is

        abbrev entered : I.Frame
        entered = I.called_frame ps n (S.self_of (has_self routine.own) vs) shape handed

        abbrev cells_given : List Cell
        cells_given = map (cell_of now) vs

        abbrev us : List Value
        us = S.arguments_in (has_self routine.own) vs

        method_is : shape.method ≡ has_self routine.own
        method_is = ap (λ z. z.method) shape_is ∙ by routine.own
          where
            by : (own : Option Procedure) → (shape_of program.types (record { home = routine.home; own = own; body = routine.body })).method ≡ has_self own
            by None = refl
            by (Some q) = refl

        -- a method is called on the same object, and given the same for its parameters
        arguments_same : I.arguments_of shape.method cells_given ≡ map (cell_of now) us
        arguments_same = ap (λ b. I.arguments_of b cells_given) method_is ∙ by (has_self routine.own) vs
          where
            by : (b : Bool) (vs : List Value) → I.arguments_of b (map (cell_of now) vs) ≡ map (cell_of now) (S.arguments_in b vs)
            by true [] = refl
            by true (v ∷ vs) = refl
            by false vs = refl

        object_same : I.object_of shape.method cells_given ≡ S.self_of (has_self routine.own) vs
        object_same = ap (λ b. I.object_of b cells_given) method_is ∙ by (self_type routine.own) x.valid.3
          where
            by : (t : Option ℕ) → IsCalledOn program now.made t vs → I.object_of (is_some t) (map (cell_of now) vs) ≡ S.self_of (is_some t) vs
            by None on = refl
            by (Some t) on = (λ j. I.object_of true (map (cell_of now) (on.2 j))) ∙ sym (λ j. S.self_of true (on.2 j))

        self_is : IsSelf program now.made (self_type routine.own) (S.self_of (has_self routine.own) vs)
        self_is = by (self_type routine.own) x.valid.3
          where
            by : (t : Option ℕ) → IsCalledOn program now.made t vs → IsSelf program now.made t (S.self_of (is_some t) vs)
            by None on = tt
            by (Some t) on = subst (λ z. IsSelf program now.made (Some t) (S.self_of true z)) (sym on.2) on.3

        -- what isn't called on an object has none
        none_is : self_type routine.own ≡ None → S.self_of (has_self routine.own) vs ≡ 0
        none_is = by (self_type routine.own)
          where
            by : (t : Option ℕ) → t ≡ None → S.self_of (is_some t) vs ≡ 0
            by None e = refl
            by (Some t) e = absurd (cc e)

        -- with a result the code goes on with it on the stack
        stacked : (w : World Sort) (v : Value) → past tables (placed program now (Calls how n vs)) (cell_of w v) x.at x.keeps x.stack onward ≡ run_from (x.at + 1) x.keeps (with_answer w (result_of routine.own) v x.stack)
        stacked w v =
            let known = own_known program tables shaped n routine there in
            ap (λ o. run_from (x.at + 1) x.keeps (if gives_result o then cell_of w v ∷ x.stack else x.stack)) known.1
            ∙ ap (run_from (x.at + 1) x.keeps) (answer_stacked w (result_of routine.own) known.0.result (λ u. layout_kind program.types (id_of u)) v x.stack known.2)

        conforms : (w : World Sort) (v : Value) → IsAnswer program w (result_of routine.own) v → Conforms program w (Calls how n vs) v
        conforms w v is r e =
            let same : routine ≡ r = some_same routine r (sym there ∙ e) in
            subst (λ z. IsAnswer program w (result_of z.own) v) same is

        long : length fs ≡ length gs
        long = waiting_length program image s.made (result_of own) fs gs below

        deep_same : I.is_deep ps entered (low ∷ gs) ≡ S.is_deep ms new (top ∷ fs)
        deep_same =
            let counted = called_counted program typed.ranked ps ms s.made (top ∷ fs) s cells shows routine vs x.valid.2 n shape shape_is in
            let sums = sum_by-cons (λ (z : I.Frame). z.counted) low gs
            ∙ (λ j. place.counted_is j + waiting_counted program image s.made (result_of own) fs gs below j)
            ∙ sym (sum_by-cons (λ (z : S.Frame). z.counted) top fs) in
            λ j. if nat_lt (suc (sym long j)) MOST_FRAMES then nat_lt MOST_FRAME_SCALARS (counted j + sums j) else true

        handed_same : I.handed ps (suc (length gs)) cells shape.params.items (I.arguments_of shape.method cells_given) (length shape.kinds.items) ≡ Some handed
        handed_same =
            (λ j. I.handed ps (suc (sym long j)) cells shape.params.items (arguments_same j) (length shape.kinds.items))
            ∙ handed_there program typed.ranked ps ms s.made (top ∷ fs) s cells shows routine vs x.valid.2 n shape shape_is

        enters_alike : (b : Bool) → S.is_deep ms new (top ∷ fs) ≡ b → Alike (S.enters ms b new (top ∷ fs) s) (I.enters ps b entered (I.asker x.at x.keeps x.stack low gs mem))
        enters_alike true e = went s mem [] false (Trapped 11 0) _ _ (λ z. z) (state (i ∷ is) (Some t) next k st marked left)
        enters_alike false e =
            let few = few_scalars (length (top ∷ fs)) (sum_by (λ (z : S.Frame). z.counted) (top ∷ fs)) new e in
            went s mem [] false Went (S.all_frames ms (new ∷ (top ∷ fs))) (I.all_frames ps (entered ∷ (behind ∷ gs))) (λ z. z)
            (record {
              stores = stores;
              same = record {
                follows = follows;
                frames = (
                  record {
                    place = record {
                      routine = routine;
                      there = there;
                      home_is = refl;
                      object_is = refl;
                      at_is = refl;
                      gives_is = refl;
                      counted_is = called_counted program typed.ranked ps ms s.made (top ∷ fs) s cells shows routine vs x.valid.2 n shape shape_is;
                      none_is = none_is;
                      frame = called_frame_of program typed.ranked ps ms s.made (top ∷ fs) s cells shows routine vs x.valid.2 n shape shape_is few;
                      self = self_is;
                    };
                    remains = inl ((routines_run n routine there).1 (S.here_of new (top ∷ fs)));
                  },
                  (
                    record {
                      place = place;
                      goes = λ w up v is'. answered_so (Calls how n vs) x w up v (conforms w v is') (with_answer w (result_of routine.own) v x.stack) (stacked w v);
                    },
                    below,
                  ),
                );
                shown = (called_shown program typed.ranked ps ms s.made (top ∷ fs) s cells shows routine vs x.valid.2 n shape shape_is, shown);
                regions = ((body_none (S.lock_of new) routine.body, body_inside (S.lock_of new) routine.body (routines_run n routine there).0), (marked, marks));
              };
            })

        calls_alike : Alike (S.answer program ms (Calls how n vs) (S.top top fs s)) (I.answer ps shapes types (placed program now (Calls how n vs)) (I.asker x.at x.keeps x.stack low gs mem))
        calls_alike =
            let image_so : Option ProcShape → I.Turned = λ o. I.calls ps o n cells_given (I.asker x.at x.keeps x.stack low gs mem) in
            let handed_so : ℕ → Option (I.Handed ps) → I.Turned = λ m o. I.calls_with ps (option_map (I.called_frame ps n m shape) o) (I.asker x.at x.keeps x.stack low gs mem) in
            subst (λ o. Alike (S.calls program ms o vs (S.top top fs s)) (image_so (numbered shapes n))) (sym there)
            (subst (λ o. Alike (S.calls program ms (Some routine) vs (S.top top fs s)) (image_so o)) (sym (shaped.shapes n routine there).1)
            (subst (Alike (S.calls program ms (Some routine) vs (S.top top fs s))) (sym (λ j. handed_so (object_same j) (handed_same j)))
            (subst (λ b. Alike (S.calls program ms (Some routine) vs (S.top top fs s)) (I.enters ps b entered (I.asker x.at x.keeps x.stack low gs mem))) (sym deep_same)
            (enters_alike (S.is_deep ms new (top ∷ fs)) refl))))

      -- a character is written
      chars_alike : (c : ℕ) (x : Asking (PutsChar (Char c))) → Alike (S.answer program ms (PutsChar (Char c)) (S.top top fs s)) (I.answer ps shapes types (placed program now (PutsChar (Char c))) (I.asker x.at x.keeps x.stack low gs mem))
      chars_alike c x =
          subst (λ o. Alike (S.answer program ms (PutsChar (Char c)) (S.top top fs s)) (I.writes_out ps (option_map (λ n. n ∷ []) o) (I.asker x.at x.keeps x.stack low gs mem))) (sym (natural_is 256 c x.valid))
          (puts_alike (c ∷ []) x.at x.keeps x.stack (done_so (PutsChar (Char c)) x tt refl))

      -- a question is answered
      work_alike : (q : source.Question) (x : Asking q) → Alike (S.answer program ms q (S.top top fs s)) (I.answer ps shapes types (placed program now q) (I.asker x.at x.keeps x.stack low gs mem))
      work_alike (Reads u a) x = reads_alike u a x
      work_alike (Stores a v) x = stores_alike a v x
      work_alike (Makes u vs) x = makes_alike u vs x
      work_alike (Starts v) x =
          subst (λ z. (y : Asking (Starts z)) → Alike (S.starts ms z (S.top top fs s)) (I.starts ps (cell_of now z) (I.asker y.at y.keeps y.stack low gs mem))) (sym x.valid.1)
          (starts_alike x.valid.0) x
      work_alike Enters x = absurd x.valid
      work_alike Leaves x = absurd x.valid
      work_alike (Awaits c) x = awaits_alike c x
      work_alike (PutsInt v n) x =
          subst (λ o. Alike (S.prints ms (S.written v n) (S.top top fs s)) (I.prints ps o (I.asker x.at x.keeps x.stack low gs mem))) (written_alike now v n x.valid.0 x.valid.1)
          (prints_alike (S.written v n) x.at x.keeps x.stack (done_so (PutsInt v n) x tt refl))
      work_alike (PutsChar v) x =
          let c = character_is v x.valid in
          subst (λ z. (y : Asking (PutsChar z)) → Alike (S.answer program ms (PutsChar z) (S.top top fs s)) (I.answer ps shapes types (placed program now (PutsChar z)) (I.asker y.at y.keeps y.stack low gs mem))) (sym c.1)
          (chars_alike c.0) x
      work_alike PutsNothing x = puts_alike [] x.at x.keeps x.stack (done_so PutsNothing x tt refl)
      work_alike PutsLn x = puts_alike (10 ∷ []) x.at x.keeps x.stack (done_so PutsLn x tt refl)
      work_alike (Copies u from to) x = copies_alike u from to x
      work_alike (PutsText strict from n to room) x = texts_put_alike strict from n to room x
      work_alike (ComparesTexts r a n b m) x = compares_alike r a n b m x
      work_alike (Calls how n vs) x = calls_alike how n vs x
      work_alike (Ends r) x = absurd x.valid
      work_alike (PutsString a n) x = strings_alike a n x
      work_alike (Places a) x = absurd x.visible
      work_alike (Lengths a) x = absurd x.visible
      work_alike (Opens v) x = absurd x.visible
      work_alike (Sizes v d) x = absurd x.visible
      work_alike (Tests v u) x = absurd x.visible

      -- and finds what it needs
      starts_found : (v : Value) (x : Asking (Starts v)) → I.is_startable types (cell_of now v) mem ≡ true
      starts_found v x =
          let h = x.valid in
          ap (λ z. I.is_startable types (cell_of now z) mem) h.1
          ∙ ap (λ l. I.has_active_body (option_and_then (numbered types) (option_map (λ (m : Made). m.type) (by_number (suc h.0) l)))) stores.made
          ∙ ap (λ o. I.has_active_body (option_and_then (numbered types) (option_map (λ (m : Made). m.type) o))) h.3
          ∙ ap (λ n. I.has_active_body (numbered types n)) h.4.made ∙ shaped.starts h.4.of h.4.body h.4.has h.4.active

      found : (q : source.Question) (x : Asking q) → I.finds types (placed program now q) low mem ≡ true
      found (Starts v) x = starts_found v x
      found (Ends r) x = absurd x.valid
      found Leaves x = absurd x.valid
      found (Awaits c) x = x.opened
      found q x = refl

      -- a question of the item is its code's
      asks_alike : (q : source.Question) (f' : Value → Doing After) (stop : Stop) → IsVisible q → OpenFor q → feed t (item i) ≡ Asks q f' → stop_from next k st ≡ stop → (m : Run) → resumed stop ≡ calm types now.made g.cells m → Does program here (Leads is) now (calm types now.made g.cells m) (Asks q f') → Alike (S.answer program ms q (S.top top fs s)) (I.goes ps shapes types stop low gs mem)
      asks_alike q f' stop visible opened asks e m seen d =
          let v = stop_works tables g.procedure here code stop (placed program now q) d.0 (seen ∙ d.1) in
          let x : Asking q = record { onto = f'; code_on = d.0; at = v.at; keeps = v.keeps; stack = v.stack; visible = visible; asks = asks; valid = d.2; opened = opened; on = v.on; after = d.3; stop = e ∙ v.is } in
          subst (λ z. Alike (S.answer program ms q (S.top top fs s)) (I.goes ps shapes types z low gs mem)) (sym v.is)
          (subst (λ b. Alike (S.answer program ms q (S.top top fs s)) (I.works ps shapes types b (placed program now q) (I.asker v.at v.keeps v.stack low gs mem))) (sym (found q x)) (work_alike q x))

    -- silent work of the frame's code, with what objects are made as
    stops_now : (next : ℕ) (k : Keeps) (st : Stack) → calm types now.made g.cells (run_from next k st) ≡ resumed (stop_from next k st)
    stops_now next k st =
        run_by_silent tables now.made (λ o m e. made_long program m (number_get (IsFew program) o s.made m stores.few e).1) g.procedure here g.cells code next k st

    module _ (items : List Item) (answers : Option (List Value)) (next : ℕ) (k : Keeps) (st : Stack) (marked : Marked items) (left : Left now answers items next k st) (stop : Stop) (is_stop : stop_from next k st ≡ stop) where
      abbrev BothGo : S.Turned → Type 0
      BothGo t = Alike t (I.goes ps shapes types stop (lower next k st) gs mem)

      abbrev Onto : List Item → Run → Type 0
      Onto is m = GoesOn program own tables g.procedure here code is m

      -- silent work of the frame's code stops as this run does
      abbrev Seen : Run → Type 0
      Seen m = resumed stop ≡ calm types now.made g.cells m

      seen : (m : Run) → calm types now.made g.cells (run_from next k st) ≡ calm types now.made g.cells m → Seen m
      seen m e = sym (stops_now next k st ∙ ap resumed is_stop) ∙ e

      -- the condition behind a REPEAT's statements, which has been asked what the frame itself tells
      module _ (there : Pos) (b : Stats) (e : Expr) (is : List Item) (marked_is : Marked (Until there b e ∷ is)) (comes : Comes (Until there b e ∷ is) next k st) where
        abbrev again : Item
        again = Do (Repeat there b e)

        abbrev test : Doing Value
        test = value_of program here e

        abbrev told : Option (List Value)
        told = Some (S.noted program.types now.made f.variables test)

        abbrev on : Value → Doing After
        on v = Val (Into (if is_true v then [] else again ∷ []))

        abbrev known : World Sort → Doing Value → Doing Value
        known w r = S.calm program.types w.made f.variables r

        abbrev goes_known : World Sort → Doing After → Doing After
        goes_known w r = S.calm program.types w.made f.variables r

        does_at : (w : World Sort) (up : Grows now w) (h : IsWhole program w) → Does program here (Leads is) w (comes w up h).0 (bind test on)
        does_at w up h = items_do own tables g.procedure here code w (Until there b e ∷ is) (comes w up h).0 typed shaped is_own (knows_grows program own here now w up knows) (comes w up h).2

        test_lasts : Lasts program here (Leads is) types f.variables g.cells now (run_from next k st) (bind test on)
        test_lasts =
            record {
              heard = λ w up. calm_heard program here now f.shape f.variables g.cells (top_shape program s.made f fs) shown.0 whole tables shaped (Leads is) w up (comes now (grows_same now) whole).0 (bind test on) (does_at now (grows_same now) whole);
              does = λ w up h.
                  subst (λ z. Calmly program here (Leads is) types g.cells w z (goes_known w (bind test on))) (sym (comes w up h).1)
                  (calm_does program here w f.shape f.variables g.cells (up.shapes (FrameRoot here.below) f.shape (top_shape program s.made f fs)) (shown_grows (Is program) cell_of IsPlain (values_kept program) now w up f.shape f.variables g.cells shown.0) h tables shaped (Leads is) (comes w up h).0 (bind test on) (does_at w up h));
            }

        test_heard : (w : World Sort) → Grows now w → known w test ≡ known now test
        test_heard w up =
            heard_on program here now f.shape f.variables g.cells (top_shape program s.made f fs) shown.0 whole tables shaped (Leads is) w up on (comes now (grows_same now) whole).0 test (does_at now (grows_same now) whole)

        -- what is left of it
        test_left : Left now told (Until there b e ∷ is) next k st
        test_left =
            subst (λ r. Lasts program here (Leads is) types f.variables g.cells now (run_from next k st) r) (sym (feed_noted_bind program.types now.made f.variables on test))
            (lasts_calm_on program here (Leads is) types f.variables g.cells now (run_from next k st) on test test_heard test_lasts)

        -- what it does in each world
        tested : (w : World Sort) → Grows now w → IsWhole program w → Calmly program here (Leads is) types g.cells w (calm types w.made g.cells (run_from next k st)) (goes_known now (bind (known now test) on))
        tested w up h =
            subst (λ r. Calmly program here (Leads is) types g.cells w (calm types w.made g.cells (run_from next k st)) r) (test_lasts.heard w up ∙ calm_bind program.types now.made f.variables on test)
            (test_lasts.does w up h)

        abbrev TestsAlike : Doing Value → Type 0
        TestsAlike r = BothGo (S.tests program ms r (S.settles program ms is (S.top (upper items answers) fs s)) (S.begins ms there (again ∷ is) (S.top (upper items answers) fs s)) (S.top (upper (Until there b e ∷ is) told) fs s))

        test_open : (q : source.Question) (h : Value → Doing Value) → known now test ≡ Asks q h → OpenFor q
        test_open (Awaits c) h is_r =
            absurd (never_awaits (known now test) c h (calm_comes program.types now.made f.variables test (value_comes program here e)) is_r)
        test_open q h is_r = tt

        tests_alike : (Comes is next k st → BothGo (S.settles program ms is (S.top (upper items answers) fs s))) → (Comes (again ∷ is) next k st → BothGo (S.begins ms there (again ∷ is) (S.top (upper items answers) fs s))) → (r : Doing Value) → known now test ≡ r → IsCalm r → TestsAlike r
        tests_alike ends begins (Val v) is_r visible = by (is_true v) refl
          where
            comes_to : (c : Bool) → is_true v ≡ c → (w : World Sort) (up : Grows now w) → IsWhole program w → (m : Run) × (calm types w.made g.cells (run_from next k st) ≡ calm types w.made g.cells m) × Onto ((if c then [] else again ∷ []) ++ is) m
            comes_to c e w up h =
                subst (λ r. Calmly program here (Leads is) types g.cells w (calm types w.made g.cells (run_from next k st)) r)
                (ap (λ r. goes_known now (bind r on)) is_r ∙ ap (λ (d : Bool). Val (Into (if d then [] else again ∷ []))) e) (tested w up h)

            by : (c : Bool) → is_true v ≡ c → BothGo (if c then S.settles program ms is (S.top (upper items answers) fs s) else S.begins ms there (again ∷ is) (S.top (upper items answers) fs s))
            by true e = ends (comes_to true e)
            by false e = begins (comes_to false e)
        tests_alike ends begins (Asks q h) is_r visible =
            let asks : feed (S.noted program.types now.made f.variables test) (item (Until there b e)) ≡ Asks q (λ v. bind (h v) on) = feed_noted_bind program.types now.made f.variables on test ∙ ap (λ r. bind r on) is_r in
            let d = subst (λ r. Calmly program here (Leads is) types g.cells now (calm types now.made g.cells (run_from next k st)) r) (ap (λ r. goes_known now (bind r on)) is_r ∙ calm_visible_same program.types now.made f.variables q (λ v. bind (h v) on) visible) (tested now (grows_same now) whole) in
            asks_alike (Until there b e) is (S.noted program.types now.made f.variables test) next k st marked_is test_left q (λ v. bind (h v) on) stop visible (test_open q h is_r) asks is_stop (run_from next k st) (seen (run_from next k st) refl) d
        tests_alike ends begins (Traps n c) is_r visible =
            let d = subst (λ r. Calmly program here (Leads is) types g.cells now (calm types now.made g.cells (run_from next k st)) r) (ap (λ r. goes_known now (bind r on)) is_r) (tested now (grows_same now) whole) in
            let v = stop_fails tables g.procedure here code stop n c d.1 (seen (run_from next k st) refl ∙ d.0) in
            traps_alike (Until there b e ∷ is) told next k st n c stop v.0 marked_is test_left v.1

      -- a body's end
      finishes_alike : g.is_open ≡ false → (m : Run) → Seen m → (r : Option TType) → result_of own ≡ r → AtEnd r m → BothGo (S.finishes program ms (is_some r) (S.top (upper items answers) fs s))
      finishes_alike closed m seen None e o =
          ends_alike None (lower next k st) closed stop o.0 (subst (λ r. IsResult program now r None) (sym e) tt) (seen ∙ ap (calm types now.made g.cells) o.1)
      finishes_alike closed m seen (Some t) e o =
          let v = stop_fails tables g.procedure here code stop 10 0 (omega arith) (seen ∙ ap (calm types now.made g.cells) o) in
          traps_alike items answers next k st 10 0 stop v.0 marked left v.1

      -- an item is next that begins
      next_begins : (there : Pos) (i : Item) (is : List Item) (m : Run) → Marked (i ∷ is) → calm types now.made g.cells (run_from next k st) ≡ calm types now.made g.cells m → BeginsAt program own tables g.procedure here code there i is now m → BothGo (S.begins ms there (i ∷ is) (S.top (upper items answers) fs s))
      next_begins there i is m marked' e b = begins_alike there i is items answers next k st stop m marked' b (seen m e)

      -- the entry of a region: the frames stand before it, and past it the code is behind the instruction, with the region open
      region_alike : (ss : Stats) (is : List Item) → Marked (Region ss ∷ is) → (m : Run) → Seen m → Onto (Region ss ∷ is) m → AtNext program own tables g.procedure here code (Region ss ∷ is) now m → BothGo (S.settles program ms (Region ss ∷ is) (S.top (upper items answers) fs s))
      region_alike ss is marked_is m sees goes a =
          let v = stop_works tables g.procedure here code stop Enters a.0 (sees ∙ ap (calm types now.made g.cells) a.1) in
          let low' = lower v.at v.keeps v.stack in
          let comes_there = is_stop ∙ v.is in
          let there = run_at_entry tables now.made g.procedure here g.cells code next k st v.at v.keeps v.stack comes_there in
          let same : run_from v.at v.keeps v.stack ≡ m = there ∙ sym (a.1 ∙ (λ j. Asks Enters (λ x. v.on x j))) in
          let long = sym (waiting_length program image s.made (result_of own) fs gs below) in
          let again = (λ j. silent shapes types (λ o. None) g.procedure (record { below = long j; self = place.object_is j }) g.cells code v.at v.keeps v.stack) ∙ silent_at_entry tables now.made g.procedure here g.cells code next k st v.at v.keeps v.stack comes_there (λ o. None) in
          subst (λ z. Alike (S.settles program ms (Region ss ∷ is) (S.top (upper items answers) fs s)) (I.goes ps shapes types z (lower next k st) gs mem)) (sym v.is)
          (record {
            stores = stores;
            frames = record {
              now = (state (Region ss ∷ is) None v.at v.keeps v.stack marked_is (inl (subst (Onto (Region ss ∷ is)) (sym same) goes))).same;
              behind = λ outside.
                  let none = no_marks (S.lock_of f) (S.regions_of fs) g.is_open is marked_is.0 outside in
                  subst (λ y. Same program image s.made (S.all_frames ms (upper (items_of ss ++ End ∷ is) None ∷ fs)) (I.all_frames ps (I.past_stop y low' ∷ gs))) (sym again)
                  (record {
                    follows = follows;
                    frames = (record { place = place; remains = inl (subst (Onto (items_of ss ++ End ∷ is)) (v.on (Ref 0)) (a.2 (Ref 0) (S.lock_of f) none)) }, below);
                    shown = shown;
                    regions = ((items_plain (S.lock_of f) ss (End ∷ is) ∙ ap (λ ls. S.lock_of f ∷ ls) none, items_inside (S.lock_of f) ss (End ∷ is) marked_is.1.0 (tt, marked_is.1.1)), marks);
                  });
              awaited = tt;
            };
            left = ap (λ l. Enter l) (sym (lock_is items answers next k st));
            output = refl;
            begun = refl;
          })

      -- the end of a region, behind which the code goes on with these items
      end_alike : (is : List Item) → Marked (End ∷ is) → (m : Run) → Seen m → (d : Cell → Run) → m ≡ Asks Leaves d → ((next' : ℕ) (k' : Keeps) (st' : Stack) → run_from next' k' st' ≡ m → Left now None (End ∷ is) next' k' st') → ((x : Cell) (next' : ℕ) (k' : Keeps) (st' : Stack) → d x ≡ run_from next' k' st' → Left now None is next' k' st') → BothGo (S.settles program ms (End ∷ is) (S.top (upper items answers) fs s))
      end_alike is marked_is m sees d asks before_it behind_it =
          let v = stop_works tables g.procedure here code stop Leaves d (sees ∙ ap (calm types now.made g.cells) asks) in
          let low' = lower v.at v.keeps v.stack in
          let comes_there = is_stop ∙ v.is in
          let there = run_at_end tables now.made g.procedure here g.cells code next k st v.at v.keeps v.stack comes_there in
          let same : run_from v.at v.keeps v.stack ≡ m = there ∙ sym (asks ∙ (λ j. Asks Leaves (λ x. v.on x j))) in
          let long = sym (waiting_length program image s.made (result_of own) fs gs below) in
          let again = (λ j. silent shapes types (λ o. None) g.procedure (record { below = long j; self = place.object_is j }) g.cells code v.at v.keeps v.stack) ∙ silent_at_end tables now.made g.procedure here g.cells code next k st v.at v.keeps v.stack comes_there (λ o. None) in
          let opened : g.is_open ≡ true = marked_open g.is_open (S.lock_of f) (ap is_inside (sym marked_is.0)) in
          subst (λ z. Alike (S.settles program ms (End ∷ is) (S.top (upper items answers) fs s)) (I.goes ps shapes types z (lower next k st) gs mem)) (sym v.is)
          (subst (λ b. Alike (S.settles program ms (End ∷ is) (S.top (upper items answers) fs s)) (I.works ps shapes types b Leaves (I.asker v.at v.keeps v.stack (lower next k st) gs mem))) (sym opened)
          (record {
            stores = stores;
            frames = record {
              now = (state (End ∷ is) None v.at v.keeps v.stack marked_is (before_it v.at v.keeps v.stack same)).same;
              behind = λ z.
                  subst (λ y. Same program image s.made (S.all_frames ms (upper is None ∷ fs)) (I.all_frames ps (I.past_stop y low' ∷ gs))) (sym again)
                  (record {
                    follows = follows;
                    frames = (record { place = place; remains = behind_it (Ref 0) (v.at + 1) v.keeps v.stack (v.on (Ref 0)) }, below);
                    shown = shown;
                    regions = ((one_mark (S.lock_of f) g.is_open is marked_is.0, marked_is.1.1), marks);
                  });
              awaited = tt;
            };
            left = ap (λ l. Leave l) (sym (lock_is items answers next k st));
            output = refl;
            begun = refl;
          }))

      -- a result is given: at the frame's end, or behind the end of its region
      returning_alike : (r : Option Value) (is : List Item) → Marked is → (m : Run) → Seen m → Returning program own tables g.procedure here code now r is m → BothGo (S.settles program ms is (S.top (upper items answers) fs s))
      returning_alike r is marked_is m sees (inl h) =
          subst (λ xs. BothGo (S.settles program ms xs (S.top (upper items answers) fs s))) (sym h.0)
          (ends_alike r (lower next k st) (unmarked_closed g.is_open (S.lock_of f) (sym (ap (locks_in (S.lock_of f)) h.0) ∙ marked_is.0)) stop h.1.0 h.1.2 (sees ∙ ap (calm types now.made g.cells) h.1.1))
      returning_alike r is marked_is m sees (inr h) =
          subst (λ xs. BothGo (S.settles program ms xs (S.top (upper items answers) fs s))) (sym h.0)
          (end_alike (Gives r ∷ []) (subst Marked h.0 marked_is) m sees h.1.0 h.1.1
          (λ n k' st' e. inr (r, inr (refl, (h.1.0, e ∙ h.1.1, h.1.2))))
          (λ x n k' st' e. inr (r, inl (refl, subst (GivesBack program own tables g.procedure here code now r) e (h.1.2 x)))))

      -- what is next of these items
      settles_alike : (is : List Item) → Marked is → Comes is next k st → BothGo (S.settles program ms is (S.top (upper items answers) fs s))
      settles_alike [] marked_is comes =
          let c = comes now (grows_same now) whole in
          subst (λ b. BothGo (S.finishes program ms b (S.top (upper items answers) fs s))) (sym place.gives_is)
          (finishes_alike (unmarked_closed g.is_open (S.lock_of f) marked_is.0) c.0 (seen c.0 c.1) (result_of own) refl (items_do own tables g.procedure here code now [] c.0 typed shaped is_own knows c.2))
      settles_alike (Do x ∷ is) marked_is comes =
          let c = comes now (grows_same now) whole in
          next_begins (pos_of x) (Do x) is c.0 marked_is c.1 (items_do own tables g.procedure here code now (Do x ∷ is) c.0 typed shaped is_own knows c.2)
      settles_alike (Rounds there a q last step b ∷ is) marked_is comes =
          let c = comes now (grows_same now) whole in
          next_begins there (Rounds there a q last step b) is c.0 marked_is c.1 (items_do own tables g.procedure here code now (Rounds there a q last step b ∷ is) c.0 typed shaped is_own knows c.2)
      settles_alike (Round x ∷ is) marked_is comes =
          let c = comes now (grows_same now) whole in
          next_begins (pos_of x) (Do x) is c.0 marked_is c.1 (items_do own tables g.procedure here code now (Round x ∷ is) c.0 typed shaped is_own knows c.2)
      settles_alike (Until there b e ∷ is) marked_is comes =
          tests_alike there b e is marked_is comes (λ ended. settles_alike is (marked_is.0, marked_is.1.1) ended)
          (λ repeated. let c = repeated now (grows_same now) whole in
          next_begins there (Do (Repeat there b e)) is c.0 marked_is c.1 (items_do own tables g.procedure here code now (Do (Repeat there b e) ∷ is) c.0 typed shaped is_own knows c.2))
          (S.calm program.types now.made f.variables (value_of program here e)) refl (calm_seen program.types now.made f.variables (value_of program here e))
      settles_alike (Region ss ∷ is) marked_is comes =
          let c = comes now (grows_same now) whole in
          region_alike ss is marked_is c.0 (seen c.0 c.1) c.2 (items_do own tables g.procedure here code now (Region ss ∷ is) c.0 typed shaped is_own knows c.2)
      settles_alike (End ∷ is) marked_is comes =
          let c = comes now (grows_same now) whole in
          let a = items_do own tables g.procedure here code now (End ∷ is) c.0 typed shaped is_own knows c.2 in
          end_alike is marked_is c.0 (seen c.0 c.1) a.0 a.1
          (λ n k' st' e. inl (subst (Onto (End ∷ is)) (sym e) c.2))
          (λ x n k' st' e. inl (subst (Onto is) e (a.2 x)))
      settles_alike (Gives r ∷ is) marked_is comes =
          let c = comes now (grows_same now) whole in
          absurd (items_do own tables g.procedure here code now (Gives r ∷ is) c.0 typed shaped is_own knows c.2)

    -- a condition is awaited where a region is open
    open_for : {inside : Bool} (q : source.Question) (f' : Value → Doing After) → is_inside (locks_open g.is_open (S.lock_of f)) ≡ inside → AsksInside inside (Asks q f') → OpenFor q
    open_for (Awaits c) f' is opens = marked_open g.is_open (S.lock_of f) (is ∙ opens.0)
    open_for q f' is opens = tt

    -- what an item that has begun comes to, in each world that has grown
    goes_alike : (i : Item) (is : List Item) (t : List Value) (next : ℕ) (k : Keeps) (st : Stack) (marked : Marked (i ∷ is)) (left : Left now (Some t) (i ∷ is) next k st) (r : Doing After) → Each (ItsMarks i) r → Each (ComesInside (is_inside (locks_in (S.lock_of f) is))) r → AsksInside (is_inside (locks_in (S.lock_of f) (i ∷ is))) r → feed t (item i) ≡ r → IsCalm r → ((w : World Sort) → Grows now w → IsWhole program w → Calmly program here (Leads is) types g.cells w (calm types w.made g.cells (run_from next k st)) r) → Alike (S.goes program ms r is (S.top (upper (i ∷ is) (Some t)) fs s)) (I.goes ps shapes types (stop_from next k st) (lower next k st) gs mem)
    goes_alike i is t next k st marked left (Val (Into new)) each comes opens asks visible d =
        settles_alike (i ∷ is) (Some t) next k st marked left (stop_from next k st) refl (new ++ is) (each (S.lock_of f) is ∙ marked.0, comes (S.lock_of f) is refl marked.1.1) d
    goes_alike i is t next k st marked left (Val Exits) each comes opens asks visible d =
        settles_alike (i ∷ is) (Some t) next k st marked left (stop_from next k st) refl (leave is) (leave_marks (S.lock_of f) is ∙ each (S.lock_of f) is ∙ marked.0, leave_inside (S.lock_of f) is marked.1.1) d
    goes_alike i is t next k st marked left (Val (Returns r)) each comes opens asks visible d =
        let c = d now (grows_same now) whole in
        returning_alike (i ∷ is) (Some t) next k st marked left (stop_from next k st) refl r (leave_all r is) (leave_all_marks (S.lock_of f) r is ∙ each (S.lock_of f) is ∙ marked.0, leave_all_inside (S.lock_of f) r is) c.0 (sym (stops_now next k st) ∙ c.1) c.2
    goes_alike i is t next k st marked left (Asks q f') each comes opens asks visible d =
        asks_alike i is t next k st marked left q f' (stop_from next k st) visible (open_for q f' (ap is_inside (sym marked.0)) opens) asks refl (run_from next k st) (sym (stops_now next k st)) (d now (grows_same now) whole)
    goes_alike i is t next k st marked left (Traps n c) each comes opens asks visible d =
        let e = d now (grows_same now) whole in
        let v = stop_fails tables g.procedure here code (stop_from next k st) n c e.1 (sym (stops_now next k st) ∙ e.0) in
        traps_alike (i ∷ is) (Some t) next k st n c (stop_from next k st) v.0 marked left v.1

    -- what is left of the frame goes on
    top_alike : (answers : Option (List Value)) (items : List Item) (next : ℕ) (k : Keeps) (st : Stack) → Marked items → Left now answers items next k st → Alike (S.item_turn program ms answers items (S.top (upper items answers) fs s)) (I.goes ps shapes types (stop_from next k st) (lower next k st) gs mem)
    top_alike None is next k st marked (inl h) =
        settles_alike is None next k st marked (inl h) (stop_from next k st) refl is marked (λ w up whole'. (run_from next k st, refl, h))
    top_alike None is next k st marked (inr h) =
        returning_alike is None next k st marked (inr h) (stop_from next k st) refl h.0 is marked (run_from next k st) (sym (stops_now next k st)) h.1
    top_alike (Some t) [] next k st marked r = absurd r
    top_alike (Some t) (i ∷ is) next k st marked r =
        let c = f.variables in
        let before = feed t (item i) in
        let calmed = S.calm program.types now.made c before in
        let all = t ++ S.noted program.types now.made c before in
        let asks : feed all (item i) ≡ calmed = feed-append t (S.noted program.types now.made c before) (item i) ∙ feed_noted program.types now.made c before in
        let left : Left now (Some all) (i ∷ is) next k st = subst (λ z. Lasts program here (Leads is) types c g.cells now (run_from next k st) z) (sym asks)
        (lasts_calm program here (Leads is) types c g.cells now (run_from next k st) before r) in
        let rest = is_inside (locks_in (S.lock_of f) is) in
        let inside = is_inside (locks_in (S.lock_of f) (i ∷ is)) in
        goes_alike i is all next k st marked left calmed (each_calm program.types now.made c (ItsMarks i) before (each_fed (ItsMarks i) t (item i) (item_marked program here i)))
        (each_calm program.types now.made c (ComesInside rest) before (each_fed (ComesInside rest) t (item i) (item_inside program here rest i marked.1.0)))
        (asks_calm program.types now.made c inside before (asks_fed inside t (item i) (item_asks program here inside i (may_begin (S.lock_of f) i is marked.1.0)))) asks (calm_seen program.types now.made c before)
        (λ w up h. subst (λ z. Calmly program here (Leads is) types g.cells w (calm types w.made g.cells (run_from next k st)) z) (r.heard w up) (r.does w up h))

  module _ (typed : HasTypes program) (shaped : HasShapes program (tables_of program image)) (routines_run : RoutinesRun program image) (items_do : ItemsDo program) where
    frames_alike : (ms ps : List ℕ) (fs : List S.Frame) (gs : List I.Frame) (s : Store) (mem : Memory) → SameStore program s mem → Follows program image ms ps → SameFrames program image s.made fs gs → SameVariables program s.made fs gs → SameRegions fs gs → Alike (S.turn_at program ms fs s) (I.turn_at image ps gs mem)
    frames_alike ms ps [] [] s mem stores follows h shown marks =
        went s mem [] false NoFrame _ _ (λ z. z) (record { stores = stores; same = record { follows = follows; frames = tt; shown = tt; regions = tt } })
    frames_alike ms ps [] (g ∷ gs) s mem stores follows h shown regions = absurd h
    frames_alike ms ps (f ∷ fs) [] s mem stores follows h shown regions = absurd h
    frames_alike ms ps (f ∷ fs) (g ∷ gs) s mem stores follows h shown marks =
        let place = h.0.place in
        let shapes = image.shapes.items in
        let types = image.types.items in
        let image_so : Here → List Made → I.Turned = λ n made. I.goes ps shapes types (silent shapes types (λ o. by_number o made) g.procedure n g.cells (code_of image g.procedure) g.next g.keeps g.stack) g gs mem in
        let long = waiting_length program image s.made (result_of place.routine.own) fs gs h.1 in
        subst (Alike (S.turn_at program ms (f ∷ fs) s)) (λ j. image_so (record { below = long j; self = sym place.object_is j }) (sym stores.made j))
        (top_alike typed shaped routines_run items_do ms ps f g fs gs s mem place follows h.1 stores shown marks.1 f.answers f.items g.next g.keeps g.stack marks.0 h.0.remains)

    pub turn_alike : (s : Store) (mem : Memory) (x : S.Frames) (y : I.Frames) → SameStore program s mem → Same program image s.made x y → Alike (S.turn program s x) (I.turn image mem y)
    turn_alike s mem x y stores h =
        let o = opened_same program image routines_run s.made x y h in
        frames_alike (S.opened program x).following (I.opened y).following (S.opened program x).frames (I.opened y).frames s mem stores o.follows o.frames o.shown o.regions
