-- Turns don't see silent work.
use Rattle.std.proofs.Common.{◌≡◌, ◌<◌, ◌+◌, ◌-◌, ◌^◌, ℕ, ℤ, zero, suc, List, [], ◌∷◌, ◌++◌, map, length, take, drop, reverse, refl, sym, ap, ◌∙◌, subst, arith}
use Rattle.std.specs.Prelude.{Option, Some, None, Bool, true, false, slice_get, slice_set, get_or, if◌then◌else◌, option_map, is_some}
use Rattle.std.proofs.lemmas.List.{append-nil, reverse-append, set_split, drop_all, length-map, length-reverse, length-take}
use Rattle.std.proofs.lemmas.Option.{slice_get_within, slice_get_read}
use Rattle.aos_base.specs.declared.text.Pos.{Pos}
use Rattle.aos_base.specs.declared.number.Relation.{Relation}
use Rattle.aos_base.specs.declared.kernel.Did.{Did}
use Rattle.aos_base.specs.declared.kernel.Did.TheVariants.{Ended as NoFrame, Went, Start, Enter, Leave, Await, Trapped}
use Rattle.aos_base.specs.declared.kernel.LockName.{LockName}
use Rattle.aos_base.specs.Question.{Reads, Stores, Copies, PutsText, ComparesTexts, Calls, Ends, Makes, Starts, Enters, Leaves, Awaits, PutsInt, PutsChar, PutsString, PutsNothing, PutsLn, Places, Lengths, Opens, Sizes, Tests}
use Rattle.aos_base.specs.Number.{array_lengths}
use Rattle.aos_base.specs.Rooted.{Made, Rooted, by_number, load}
use Rattle.aos_code.specs.declared.instr.Cell.{Cell}
use Rattle.aos_code.specs.declared.instr.Cell.TheVariants.{Num, Ref, Call as CallCell, Place}
use Rattle.aos_code.specs.declared.instr.Kind.{Kind}
use Rattle.aos_code.specs.declared.image.Image.{Image}
use Rattle.aos_code.specs.declared.image.ProcShape.{ProcShape}
use Rattle.aos_code.specs.declared.image.TypeDesc.{TypeDesc}
use Rattle.aos_code.specs.Memory.{Memory, Addr, has_room}
use Rattle.aos_code.specs.Numbered.{numbered}
use Rattle.aos_code.specs.Silent.{Stack, Keeps, Question, Begins, Fails, Decides, Stop, Work, Ended, is_of}
use Rattle.aos_code.specs.Machine.{asker, fitted_in, here_of, object_of, arguments_of, Frame, Frames, Turned, Handed, rooted, cells_at, written, leaves, goes_on, reads, writes, copies, ends, prints, writes_out, makes, makes_with, makes_of, numbers_in, in_rows, first_cell, made_in, starts, stores_text, fitted, puts_text, compares, is_deep, enters, calls_with, calls, handed, called_frame, answer, goes, text_at, length_in, code_in, before as before_it, own_lock, lock_in, works, finds, opens, regions_of, opened, opened_by, past, past_all, past_stop, is_passed, code_of, stop_of, turn, turn_at, behind, home_of, position, position_in, position_or, lowest_home, or_below}
use Rattle.aos_store.specs.declared.frames.Frame.{Frame as KeptFrame}
use Rattle.aos_store.specs.declared.frames.Frames.{Frames as KeptFrames}
use Rattle.aos_store.specs.Store.{frame_in, list_in, frames_in}
use Rattle.aos_silent_steps.specs.declared.act.Question.{Question as KeptQuestion}
use Rattle.aos_silent_steps.specs.declared.act.Question.TheVariants.{Starts as AsksStart, Enters as AsksEnter, Leaves as AsksLeave, Awaits as AsksAwait}
use Rattle.aos_silent_steps.specs.declared.silent.Stop.{Stop as KeptStop}
use Rattle.aos_silent_steps.specs.declared.silent.Stop.TheVariants.{Work as AtWork, Begins as AtBegin}
use Rattle.aos_silent_steps.specs.Acts.{question_in, operands_of}
use Rattle.aos_cpu.specs.Answers.{Made as HasMade, begun_at}
use Rattle.aos_silent_steps.specs.Silent.{Seen, stop_in, IsStopOf, silent_at, seen_at}
use Rattle.aos_cpu.specs.Turns.{SeenFrames, seen, seen_all, seen_frames, Alike, Shown, StandsAtStop, HasAnswered, Stands, Same, WhereLeft, IsBefore, IsBeforeAsking, StandsAsking, StandsAtWork, operands_left, open_behind, IsTurned, where_in, beginning, counted}
use Rattle.aos_silent_steps.specs.Known.{Knows}
use Rattle.aos_cpu.proofs.Asking.{is_left, with_operands, asked_on_top, asked_again, asks_there}
use Rattle.aos_silent_steps.proofs.Topmost.{top_some, reverse-push}

-- The topmost frame, where it is kept last of so many.

abbrev pub all_but_top : List KeptFrame → List KeptFrame
all_but_top fs = take (length fs - 1) fs

pub last_read : (fs : List KeptFrame) (n : ℕ) (f : KeptFrame) → n ≡ length fs → 0 < length fs → f ≡ get_or fs (n - 1) f → slice_get fs (n - 1) ≡ Some f
last_read fs n f len lt e = slice_get_read fs (length fs) (n - 1) f refl (omega arith) e

pub list_top : (fs : List KeptFrame) (n : ℕ) (f : KeptFrame) → n ≡ length fs → slice_get fs (n - 1) ≡ Some f → list_in fs ≡ frame_in f ∷ list_in (all_but_top fs)
list_top fs n f len e = ap (map frame_in) (top_some fs f (sym e ∙ ap (λ m. slice_get fs (m - 1)) len))

pub list_set : (fs : List KeptFrame) (n : ℕ) (f g : KeptFrame) → n ≡ length fs → slice_get fs (n - 1) ≡ Some f → list_in (slice_set fs (n - 1) g) ≡ frame_in g ∷ list_in (all_but_top fs)
list_set fs n f g len e =
    let m = length fs - 1 in
    let here : slice_get fs m ≡ Some f = ap (λ j. slice_get fs (j - 1)) (sym len) ∙ e in
    let lt : m < length fs = slice_get_within fs m f here in
    let none : drop (suc m) fs ≡ [] = drop_all (suc m) fs (omega arith) in
    ap (λ j. list_in (slice_set fs (j - 1) g)) len ∙ ap (map frame_in) (ap reverse (set_split fs m g lt ∙ ap (λ d. take m fs ++ g ∷ d) none) ∙ reverse-push (take m fs) g)

-- the others stay
pub list_put : (fs : List KeptFrame) (n : ℕ) (f g : KeptFrame) (x : Frame) (xs : List Frame) → n ≡ length fs → slice_get fs (n - 1) ≡ Some f → list_in fs ≡ x ∷ xs →
    (frame_in f ≡ x) × (list_in (slice_set fs (n - 1) g) ≡ frame_in g ∷ xs)
list_put fs n f g x xs len e is =
    let both : frame_in f ∷ list_in (all_but_top fs) ≡ x ∷ xs = sym (list_top fs n f len e) ∙ is in
    let rest : list_in (all_but_top fs) ≡ xs = cc both in
    let top : frame_in f ≡ x = cc both in
    (top, list_set fs n f g len e ∙ ap (λ l. frame_in g ∷ l) rest)

-- the topmost one goes on behind an instruction
pub behind_put : (at taken : ℕ) (above : Stack) (fs : List KeptFrame) (n : ℕ) (f g : KeptFrame) (x : Frame) (xs : List Frame) → n ≡ length fs → slice_get fs (n - 1) ≡ Some f → list_in fs ≡ x ∷ xs →
    frame_in g ≡ behind [] at (frame_in f).keeps (above ++ drop taken (frame_in f).stack) (frame_in f) → list_in (slice_set fs (n - 1) g) ≡ behind [] at x.keeps (above ++ drop taken x.stack) x ∷ xs
behind_put at taken above fs n f g x xs len e is new =
    let both = list_put fs n f g x xs len e is in
    both.1 ∙ (λ j. new j ∷ xs) ∙ (λ j. behind [] at (both.0 j).keeps (above ++ drop taken (both.0 j).stack) (both.0 j) ∷ xs)

-- the topmost one is shown as before
pub same_put : (fs : List KeptFrame) (n : ℕ) (f g : KeptFrame) → n ≡ length fs → slice_get fs (n - 1) ≡ Some f → frame_in g ≡ frame_in f → list_in (slice_set fs (n - 1) g) ≡ list_in fs
same_put fs n f g len e same = list_set fs n f g len e ∙ (λ j. same j ∷ list_in (all_but_top fs)) ∙ sym (list_top fs n f len e)

-- Frames that are alike.

pub rest_length : (fs : List KeptFrame) → length (list_in (all_but_top fs)) ≡ length fs - 1
rest_length fs =
    length-map (reverse (all_but_top fs)) frame_in ∙ length-reverse (all_but_top fs) ∙ omega (arith, length-take (length fs - 1) fs)

-- the topmost of opened frames has done some silent work
pub advanced : (image : Image) (made : ℕ → Option Made) (old mid : KeptFrames) (n here : ℕ) (f g : KeptFrame) → frames_in mid ≡ opened (frames_in old) → n ≡ length mid.list.items → here ≡ n - 1 →
    slice_get mid.list.items (n - 1) ≡ Some f → ((all : ℕ → Option Made) → Knows all made → seen_at image all here (frame_in g) ≡ seen_at image all here (frame_in f)) →
    Alike image made (frames_in old) (record { following = reverse mid.following.items; frames = list_in (slice_set mid.list.items (n - 1) g) })
advanced image made old mid n here f g opens len is e same all knows =
    let following = reverse mid.following.items in
    let rest = list_in (all_but_top mid.list.items) in
    let count : here ≡ length rest = is ∙ ap (λ m. m - 1) len ∙ sym (rest_length mid.list.items) in
    let seen_same : seen image all (frame_in f) rest ≡ seen image all (frame_in g) rest = sym (subst (λ m. seen_at image all m (frame_in g) ≡ seen_at image all m (frame_in f)) count (same all knows)) in
    ap (seen_frames image all) (sym opens) ∙ ap (seen_all image all following) (list_top mid.list.items n f len e)
    ∙ (λ i. (let x : SeenFrames = record { following = following; top = Some (seen_same i); below = rest } in x))
    ∙ ap (λ l. seen_frames image all (opened_by l following)) (sym (list_set mid.list.items n f g len e))

-- and stands where that ends
pub stands_there : (image : Image) (made : ℕ → Option Made) (stop : KeptStop) (fs : List KeptFrame) (n here : ℕ) (f g : KeptFrame) → n ≡ length fs → here ≡ n - 1 → slice_get fs (n - 1) ≡ Some f →
    stop_in stop (frame_in g) ≡ silent_at image made here (frame_in f) → IsStopOf stop (frame_in g) → seen_at image made here (frame_in g) ≡ seen_at image made here (frame_in f) →
    StandsAtStop image made stop (list_in (slice_set fs (n - 1) g))
stands_there image made stop fs n here f g len is e ends place same =
    let rest = list_in (all_but_top fs) in
    let count : here ≡ length rest = is ∙ ap (λ m. m - 1) len ∙ sym (rest_length fs) in
    let stops : silent_at image made here (frame_in g) ≡ stop_in stop (frame_in g) = ap (λ (x : Seen). x.stop) same ∙ sym ends in
    subst (StandsAtStop image made stop) (sym (list_set fs n f g len e)) (subst (λ m. silent_at image made m (frame_in g) ≡ stop_in stop (frame_in g)) count stops, place)

-- a frame whose silent work is elsewhere
abbrev pub ahead : Frame → ℕ → Keeps → Stack → Frame
ahead g n k s = record g { next = n; keeps = k; stack = s }

pub is_ahead : (image : Image) (all : ℕ → Option Made) (f g : Frame) (fs gs : List Frame) → seen image all f fs ≡ seen image all g gs → f ≡ ahead g f.next f.keeps f.stack
is_ahead image all f g fs gs e =
    λ i. (let x : Frame = record { procedure = (e i).procedure; object = (e i).object; next = f.next; at = (e i).at; is_open = (e i).is_open; cells = (e i).cells; counted = (e i).counted; keeps = f.keeps; stack = f.stack } in x)

-- what objects are known to be made as where a turn has come to
abbrev pub after_turn : Image → Turned → ℕ → Option Made
after_turn image t = λ o. by_number o t.store.made

-- turns with the same store, output and work, and frames that are alike
pub record Similar (image : Image) (t u : Turned) : Type 0 where
  pub store : t.store ≡ u.store
  pub alike : Alike image (after_turn image u) t.frames u.frames
  pub output : t.output ≡ u.output
  pub begun : t.begun ≡ u.begun
  pub left : t.left ≡ u.left

pub similar_is : (image : Image) (t u : Turned) → t ≡ u → Similar image t u
similar_is image t u e =
    record {
      store = ap (λ (x : Turned). x.store) e;
      alike = λ all knows. ap (λ (x : Turned). seen_frames image all (opened x.frames)) e;
      output = ap (λ (x : Turned). x.output) e;
      begun = ap (λ (x : Turned). x.begun) e;
      left = ap (λ (x : Turned). x.left) e;
    }

pub similar_by : (image : Image) (t u v : Turned) → t ≡ u → Similar image u v → Similar image t v
similar_by image t u v e s = subst (λ (x : Turned). Similar image x v) (sym e) s

-- work behind which the frames go on is what this question asks for
abbrev pub AsksFor : Question → Did → Type 0
AsksFor q (Start o) = q ≡ Starts (Ref o)
AsksFor q (Enter l) = q ≡ Enters
AsksFor q (Leave l) = q ≡ Leaves
AsksFor q Went = Unit {0}
AsksFor q NoFrame = Unit {0}
AsksFor q (Await l c) = q ≡ Awaits c
AsksFor q (Trapped n c) = Unit {0}

-- they also leave such work to the kernel only where that is asked for
pub record Both (image : Image) (q : Question) (t u : Turned) : Type 0 where
  pub similar : Similar image t u
  pub asks : AsksFor q u.left

module _ (image : Image) (following : List ℕ) (g : Frame) (n : ℕ) (k' : Keeps) (s' : Stack) (fs : List Frame) (mem : Memory) (h : (all : ℕ → Option Made) → Knows all (made_in image mem) → seen image all (ahead g n k' s') fs ≡ seen image all g fs) where
  abbrev pub f' : Frame
  f' = ahead g n k' s'

  same : (q : Question) (t : Turned) → t.left ≡ Went → Both image q t t
  same q t e = record { similar = similar_is image t t refl; asks = subst (AsksFor q) (sym e) tt }

  lost_alike : (c d : ℕ) → Similar image (leaves following (Trapped c d) (f' ∷ fs) mem) (leaves following (Trapped c d) (g ∷ fs) mem)
  lost_alike c d =
      record { store = refl; alike = λ all knows i. (let x : SeenFrames = record { following = following; top = Some (h all knows i); below = fs } in x); output = refl; begun = refl; left = refl }

  lost : (q : Question) (c d : ℕ) → Both image q (leaves following (Trapped c d) (f' ∷ fs) mem) (leaves following (Trapped c d) (g ∷ fs) mem)
  lost q c d = record { similar = lost_alike c d; asks = tt }

  if_both : (q : Question) (b : Bool) (t : Turned) → t.left ≡ Went → Both image q (if b then t else leaves following (Trapped 16 0) (f' ∷ fs) mem) (if b then t else leaves following (Trapped 16 0) (g ∷ fs) mem)
  if_both q true t e = same q t e
  if_both q false t e = lost q 16 0

  read_both : (q : Question) (kind : Kind) (v : Option Cell) (at : ℕ) (k : Keeps) (s : Stack) → Both image q (reads following kind v (asker at k s f' fs mem)) (reads following kind v (asker at k s g fs mem))
  read_both q kind None at k s = lost q 16 0
  read_both q kind (Some v) at k s = if_both q (is_of kind v) (goes_on following (behind following at k (v ∷ s) g ∷ fs) mem) refl

  write_both : (q : Question) (there : Bool) (a : Addr) (vs : List Cell) (at : ℕ) (k : Keeps) (s : Stack) → Both image q (writes following there a vs (asker at k s f' fs mem)) (writes following there a vs (asker at k s g fs mem))
  write_both q true a vs at k s = same q _ refl
  write_both q false a vs at k s = lost q 16 0

  copy_both : (q : Question) (vs : Option (List Cell)) (there : Bool) (a : Addr) (at : ℕ) (k : Keeps) (s : Stack) → Both image q (copies following vs there a (asker at k s f' fs mem)) (copies following vs there a (asker at k s g fs mem))
  copy_both q None there a at k s = lost q 16 0
  copy_both q (Some vs) there a at k s = write_both q there a vs at k s

  print_both : (q : Question) (v : Option (List ℕ)) (at : ℕ) (k : Keeps) (s : Stack) → Both image q (prints following v (asker at k s f' fs mem)) (prints following v (asker at k s g fs mem))
  print_both q None at k s = lost q 14 0
  print_both q (Some bytes) at k s = same q _ refl

  out_both : (q : Question) (v : Option (List ℕ)) (at : ℕ) (k : Keeps) (s : Stack) → Both image q (writes_out following v (asker at k s f' fs mem)) (writes_out following v (asker at k s g fs mem))
  out_both q None at k s = lost q 16 0
  out_both q (Some bytes) at k s = same q _ refl

  make_both : (q : Question) (room : Bool) (m : Made) (cells : List Cell) (at : ℕ) (k : Keeps) (s : Stack) → Both image q (makes following room m cells (asker at k s f' fs mem)) (makes following room m cells (asker at k s g fs mem))
  make_both q true m cells at k s = same q _ refl
  make_both q false m cells at k s = lost q 12 0

  make_with_both : (q : Question) (ns : Option (List ℕ)) (t : ℕ) (d : TypeDesc) (at : ℕ) (k : Keeps) (s : Stack) → Both image q (makes_with following ns t d (asker at k s f' fs mem)) (makes_with following ns t d (asker at k s g fs mem))
  make_with_both q None t d at k s = lost q 15 0
  make_with_both q (Some ns) t d at k s =
      let m : Made = record { type = t; lengths = ns } in
      let cells = in_rows following ns (map first_cell d.kinds.items) in make_both q (has_room m cells mem) m cells at k s

  make_of_both : (q : Question) (d : Option TypeDesc) (zs : Option (List ℤ)) (t at : ℕ) (k : Keeps) (s : Stack) → Both image q (makes_of following d zs t (asker at k s f' fs mem)) (makes_of following d zs t (asker at k s g fs mem))
  make_of_both q None zs t at k s = lost q 16 0
  make_of_both q (Some d) None t at k s = lost q 16 0
  make_of_both q (Some d) (Some zs) t at k s = make_with_both q (array_lengths zs) t d at k s

  start_both : (v : Cell) (at : ℕ) (k : Keeps) (s : Stack) → Both image (Starts v) (starts following v (asker at k s f' fs mem)) (starts following v (asker at k s g fs mem))
  start_both (Ref zero) at k s = lost _ 16 0
  start_both (Ref (suc o)) at k s =
      record { similar = similar_is image _ _ refl; asks = refl }
  start_both (Num z) at k s = lost _ 16 0
  start_both (CallCell p o) at k s = lost _ 16 0
  start_both (Place root cell type) at k s = lost _ 16 0

  -- the lock is that of the same object or module
  lock_same : (shape : Option ProcShape) → lock_in shape f' ≡ lock_in shape g
  lock_same None = refl
  lock_same (Some shape) = refl

  lock_both : (q : Question) (work : LockName → Did) (shape : Option ProcShape) (at : ℕ) (k : Keeps) (s : Stack) → AsksFor q (work (lock_in shape g)) →
      Both image q (leaves following (work (lock_in shape f')) (before_it following at k s f' ∷ fs) mem) (leaves following (work (lock_in shape g)) (before_it following at k s g ∷ fs) mem)
  lock_both q work shape at k s asks =
      record { similar = similar_is image _ _ (ap (λ l. leaves following (work l) (before_it following at k s g ∷ fs) mem) (lock_same shape)); asks = asks }

  store_text_both : (q : Question) (t : Option (List ℕ)) (to : Addr) (x : Rooted (List Cell)) (at : ℕ) (k : Keeps) (s : Stack) → Both image q (stores_text following t to x (asker at k s f' fs mem)) (stores_text following t to x (asker at k s g fs mem))
  store_text_both q None to x at k s = lost q 15 0
  store_text_both q (Some cs) to x at k s = write_both q _ to _ at k s

  put_text_both : (q : Question) (strict : Bool) (t : Option (List ℕ)) (room : Option ℕ) (to : Addr) (x : Rooted (List Cell)) (at : ℕ) (k : Keeps) (s : Stack) → Both image q (puts_text following (fitted_in following strict t room) to x (asker at k s f' fs mem)) (puts_text following (fitted_in following strict t room) to x (asker at k s g fs mem))
  put_text_both q strict None room to x at k s = lost q 16 0
  put_text_both q strict (Some cs) None to x at k s = lost q 16 0
  put_text_both q strict (Some cs) (Some room) to x at k s = store_text_both q (fitted following strict room cs) to x at k s

  compare_both : (q : Question) (r : Relation) (a b : Option (List ℕ)) (at : ℕ) (k : Keeps) (s : Stack) → Both image q (compares following r a b (asker at k s f' fs mem)) (compares following r a b (asker at k s g fs mem))
  compare_both q r (Some a) (Some b) at k s = same q _ refl
  compare_both q r (Some a) None at k s = lost q 16 0
  compare_both q r None b at k s = lost q 16 0

  enter_both : (q : Question) (deep : Bool) (x : Frame) (at : ℕ) (k : Keeps) (s : Stack) → Both image q (enters following deep x (asker at k s f' fs mem)) (enters following deep x (asker at k s g fs mem))
  enter_both q true x at k s = lost q 11 0
  enter_both q false x at k s = same q _ refl

  call_with_both : (q : Question) (p o : ℕ) (shape : ProcShape) (x : Option (Handed following)) (at : ℕ) (k : Keeps) (s : Stack) → Both image q (calls_with following (option_map (called_frame following p o shape) x) (asker at k s f' fs mem)) (calls_with following (option_map (called_frame following p o shape) x) (asker at k s g fs mem))
  call_with_both q p o shape None at k s = lost q 16 0
  call_with_both q p o shape (Some x) at k s = enter_both q (is_deep following (called_frame following p o shape x) (g ∷ fs)) (called_frame following p o shape x) at k s

  call_both : (q : Question) (shape : Option ProcShape) (p : ℕ) (vs : List Cell) (at : ℕ) (k : Keeps) (s : Stack) → Both image q (calls following shape p vs (asker at k s f' fs mem)) (calls following shape p vs (asker at k s g fs mem))
  call_both q None p vs at k s = lost q 16 0
  call_both q (Some shape) p vs at k s =
      call_with_both q p (object_of shape.method vs) shape (handed following (suc (length fs)) (rooted (g ∷ fs) mem) shape.params.items (arguments_of shape.method vs) (length shape.kinds.items)) at k s

  pub answer_both : (q : Question) (at : ℕ) (k : Keeps) (s : Stack) → Both image q (answer following image.shapes.items image.types.items q (asker at k s f' fs mem)) (answer following image.shapes.items image.types.items q (asker at k s g fs mem))
  answer_both (Reads kind a) at k s = read_both (Reads kind a) kind (load a.root a.cell (rooted (g ∷ fs) mem)) at k s
  answer_both (Stores a v) at k s = write_both (Stores a v) (is_some (load a.root a.cell (rooted (g ∷ fs) mem))) a (v ∷ []) at k s
  answer_both (Copies m from to) at k s =
      copy_both (Copies m from to) (cells_at m from (rooted (g ∷ fs) mem)) (is_some (cells_at m to (rooted (g ∷ fs) mem))) to at k s
  answer_both (PutsText strict from m to room) at k s =
      put_text_both (PutsText strict from m to room) strict (text_at following from m (rooted (g ∷ fs) mem)) (length_in following room) to (rooted (g ∷ fs) mem) at k s
  answer_both (ComparesTexts r a m b l) at k s =
      compare_both (ComparesTexts r a m b l) r (text_at following a m (rooted (g ∷ fs) mem)) (text_at following b l (rooted (g ∷ fs) mem)) at k s
  answer_both (Calls how p vs) at k s = call_both (Calls how p vs) (numbered image.shapes.items p) p vs at k s
  answer_both (Ends result) at k s = same (Ends result) _ refl
  answer_both (Makes t vs) at k s = make_of_both (Makes t vs) (numbered image.types.items t) (numbers_in following vs) t at k s
  answer_both (Starts v) at k s = start_both v at k s
  answer_both Enters at k s = lock_both Enters Enter (numbered image.shapes.items g.procedure) at k s refl
  answer_both Leaves at k s = lock_both Leaves Leave (numbered image.shapes.items g.procedure) at k s refl
  answer_both (Awaits c) at k s = lock_both (Awaits c) (λ l. Await l c) (numbered image.shapes.items g.procedure) at k s refl
  answer_both (PutsInt v m) at k s = print_both (PutsInt v m) (written v m) at k s
  answer_both (PutsChar v) at k s = out_both (PutsChar v) (option_map (λ c. c ∷ []) (code_in following v)) at k s
  answer_both (PutsString a m) at k s = out_both (PutsString a m) (text_at following a m (rooted (g ∷ fs) mem)) at k s
  answer_both PutsNothing at k s = same PutsNothing _ refl
  answer_both PutsLn at k s = same PutsLn _ refl
  answer_both (Places a) at k s = lost (Places a) 16 0
  answer_both (Lengths a) at k s = lost (Lengths a) 16 0
  answer_both (Opens v) at k s = lost (Opens v) 16 0
  answer_both (Sizes v d) at k s = lost (Sizes v d) 16 0
  answer_both (Tests v t) at k s = lost (Tests v t) 16 0

  -- what work needs is found of both or of none
  found_same : (q : Question) → finds image.types.items q f' mem ≡ finds image.types.items q g mem
  found_same (Ends result) = refl
  found_same q = refl

  works_alike : (found : Bool) (q : Question) (at : ℕ) (k : Keeps) (s : Stack) →
      Similar image (works following image.shapes.items image.types.items found q (asker at k s f' fs mem)) (works following image.shapes.items image.types.items found q (asker at k s g fs mem))
  works_alike true q at k s = (answer_both q at k s).similar
  works_alike false q at k s = lost_alike 16 0

  pub goes_alike : (stop : Stop) → Similar image (goes following image.shapes.items image.types.items stop f' fs mem) (goes following image.shapes.items image.types.items stop g fs mem)
  goes_alike (Work q at k s) =
      subst (λ b. Similar image (works following image.shapes.items image.types.items b q (asker at k s f' fs mem)) (works following image.shapes.items image.types.items (finds image.types.items q g mem) q (asker at k s g fs mem)))
      (sym (found_same q)) (works_alike (finds image.types.items q g mem) q at k s)
  goes_alike (Ended (Begins at p s) k) = similar_is image _ _ refl
  goes_alike (Ended (Fails c d) k) = lost_alike c d
  goes_alike (Ended (Decides a) k) = lost_alike 16 0

pub some_same : {A : Type 0} (x y : A) → Some x ≡ Some y → x ≡ y
some_same x y e = cc

pub none_other : {A : Type 0} (x : A) → None ≡ Some x → ⊥
none_other x e = absurd (cc e)

-- what is known is known
pub itself : (made : ℕ → Option Made) → Knows made made
itself made o m e = e

turn_at_alike : (image : Image) (mem : Memory) (following following' : List ℕ) (fs gs : List Frame) → ((all : ℕ → Option Made) → Knows all (made_in image mem) → seen_all image all following fs ≡ seen_all image all following' gs) →
    Similar image (turn_at image following fs mem) (turn_at image following' gs mem)
turn_at_alike image mem following following' [] [] h =
    let e = h (made_in image mem) (itself (made_in image mem)) in similar_is image _ _ (ap (λ (x : SeenFrames). leaves x.following NoFrame [] mem) e)
turn_at_alike image mem following following' [] (g ∷ gs) h = absurd (none_other (seen image (made_in image mem) g gs) (ap (λ (x : SeenFrames). x.top) (h (made_in image mem) (itself (made_in image mem)))))
turn_at_alike image mem following following' (f ∷ fs) [] h = absurd (none_other (seen image (made_in image mem) f fs) (sym (ap (λ (x : SeenFrames). x.top) (h (made_in image mem) (itself (made_in image mem))))))
turn_at_alike image mem following following' (f ∷ fs) (g ∷ gs) h =
    let made = made_in image mem in
    let seen_so = h made (itself made) in
    let e : seen image made f fs ≡ seen image made g gs = some_same _ _ (ap (λ (x : SeenFrames). x.top) seen_so) in
    let below : fs ≡ gs = ap (λ (x : SeenFrames). x.below) seen_so in
    let is = is_ahead image made f g fs gs e in
    let x = ahead g f.next f.keeps f.stack in
    let seen_as : (all : ℕ → Option Made) → Knows all made → seen image all x gs ≡ seen image all g gs =
    λ all knows. (λ i. seen image all (sym is i) (sym below i)) ∙ some_same (seen image all f fs) (seen image all g gs) (ap (λ (x : SeenFrames). x.top) (h all knows)) in
    let now : turn_at image following (f ∷ fs) mem ≡ goes following' image.shapes.items image.types.items (stop_of image made g gs) x gs mem =
    λ i. goes (seen_so i).following image.shapes.items image.types.items (e i).stop (is i) (below i) mem in
    similar_by image _ _ _ now (goes_alike image following' g f.next f.keeps f.stack gs mem seen_as (stop_of image made g gs))

-- turns of frames that are alike
pub turn_alike : (image : Image) (mem : Memory) (fs gs : Frames) → Alike image (made_in image mem) fs gs → Similar image (turn image mem fs) (turn image mem gs)
turn_alike image mem fs gs h = turn_at_alike image mem (opened fs).following (opened gs).following (opened fs).frames (opened gs).frames h

-- the same of frames that are alike to those
pub alike_both : (image : Image) (made : ℕ → Option Made) (fs gs hs : Frames) → Alike image made fs gs → Alike image made gs hs → Alike image made fs hs
alike_both image made fs gs hs h g all knows = h all knows ∙ g all knows

pub alike_back : (image : Image) (made : ℕ → Option Made) (fs gs : Frames) → Alike image made fs gs → Alike image made gs fs
alike_back image made fs gs h all knows = sym (h all knows)

-- and where more is known
pub alike_more : (image : Image) (made more : ℕ → Option Made) (fs gs : Frames) → Knows more made → Alike image made fs gs → Alike image more fs gs
alike_more image made more fs gs k h all knows = h all (λ o m e. knows o m (k o m e))

pub shown_alike : (image : Image) (old new : KeptFrames) (mem mem' : Memory) (fs : Frames) (did : Did) (before after : List ℕ) → Alike image (made_in image mem) fs (frames_in old) →
    Shown image (turn image mem (frames_in old)) did old new mem' before after → Shown image (turn image mem fs) did old new mem' before after
shown_alike image old new mem mem' fs did before after h m =
    let s = turn_alike image mem fs (frames_in old) h in
    record {
      store = s.store ∙ m.store;
      alike = λ all knows. s.alike all (subst (λ (x : Memory). Knows all (made_in image x)) (sym m.store) knows) ∙ m.alike all knows;
      output = m.output ∙ ap (λ x. before ++ x) (sym s.output);
      begun = m.begun ∙ ap (λ b. counted b old.begun) (sym s.begun);
      left = s.left ∙ m.left;
    }

pub shown_made : (image : Image) (t : Turned) (b : Bool) (did : Did) (old new : KeptFrames) (mem : Memory) (before after : List ℕ) →
    HasMade t b did (frames_in new) mem before after → new.begun ≡ counted b old.begun → Shown image t did old new mem before after
shown_made image t b did old new mem before after m e =
    record {
      store = m.store;
      alike = λ all knows. ap (λ (x : Frames). seen_frames image all (opened x)) m.frames;
      output = m.output;
      begun = e ∙ ap (λ x. counted x old.begun) (sym m.begun);
      left = m.left;
    }

-- where work is left, the frames are as they were
same_left : (did left : Did) (P : Type 0) → (WhereLeft left P → P) → did ≡ left → WhereLeft did P → P
same_left did left P is e h = is (subst (λ (x : Did). WhereLeft x P) e h)

at_stop : (image : Image) (made : ℕ → Option Made) (q : KeptQuestion) (at : ℕ) (l : List Frame) (f : Frame) (fs : List Frame) → StandsAtStop image made (AtWork q at) l → l ≡ f ∷ fs → StandsAtStop image made (AtWork q at) (f ∷ fs)
at_stop image made q at l f fs x is = subst (StandsAtStop image made (AtWork q at)) is x

-- the topmost frame stands at the question, and whose activity is started lies on top
pub stands_at : (image : Image) (made : ℕ → Option Made) (q : KeptQuestion) (at : ℕ) (old : KeptFrames) → StandsAtStop image made (AtWork q at) (list_in old.list.items) → Stands q at old
stands_at image made (AsksStart o) at old x f fs is =
    let y = at_stop image made (AsksStart o) at (list_in old.list.items) f fs x is in
    (y.1.0, asked_on_top image.shapes.items image.types.items made f.procedure (here_of f fs) f.cells (code_of image f.procedure) f.next f.keeps f.stack (Starts (Ref o)) f.keeps (drop 1 f.stack) refl (y.0 ∙ ap (λ m. Work (Starts (Ref o)) m f.keeps (drop 1 f.stack)) y.1.0))
stands_at image made q at old x f fs is = ((at_stop image made q at (list_in old.list.items) f fs x is).1.0, tt)

-- a question has been answered
pub worked : (image : Image) (q : KeptQuestion) (at : ℕ) (old new : KeptFrames) (mem mem' : Memory) (did : Did) (before after : List ℕ) →
    StandsAtStop image (made_in image mem) (AtWork q at) (list_in old.list.items) →
    ((f : Frame) (fs : List Frame) → list_in old.list.items ≡ f ∷ fs → finds image.types.items (question_in q f.stack) f mem ≡ true) → HasAnswered image q at old new mem mem' did before after → new.begun ≡ old.begun →
    Shown image (turn image mem (frames_in old)) did old new mem' before after
worked image q at old new mem mem' did before after stands found answered e = by_list (list_in old.list.items) refl stands
  where
    by_list : (l : List Frame) → list_in old.list.items ≡ l → StandsAtStop image (made_in image mem) (AtWork q at) l →
        Shown image (turn image mem (frames_in old)) did old new mem' before after
    by_list [] is x = absurd x
    by_list (f ∷ fs) is x =
        let following = reverse old.following.items in
        subst (λ (l : List Frame). Shown image (turn image mem (record { following = following; frames = l })) did old new mem' before after) (sym is)
        (subst (λ (y : Stop). Shown image (goes following image.shapes.items image.types.items y f fs mem) did old new mem' before after) (sym x.0)
        (subst (λ b. Shown image (works following image.shapes.items image.types.items b (question_in q f.stack) (asker at f.keeps (drop (operands_of q) f.stack) f fs mem)) did old new mem' before after) (sym (found f fs is))
        (shown_made image _ false did old new mem' before after (answered f fs is) e)))

-- what the code keeps of a question has as many operands
taken_start : (q : KeptQuestion) (s : Stack) (o : ℕ) → question_in q s ≡ Starts (Ref o) → operands_of q ≡ 1
taken_start (AsksStart p) s o e = refl
taken_start _ s o e = absurd (cc e)

taken_enter : (q : KeptQuestion) (s : Stack) → question_in q s ≡ Enters → operands_of q ≡ 0
taken_enter AsksEnter s e = refl
taken_enter _ s e = absurd (cc e)

taken_leave : (q : KeptQuestion) (s : Stack) → question_in q s ≡ Leaves → operands_of q ≡ 0
taken_leave AsksLeave s e = refl
taken_leave _ s e = absurd (cc e)

taken_await : (q : KeptQuestion) (s : Stack) (c : ℕ) → question_in q s ≡ Awaits c → operands_of q ≡ 0
taken_await (AsksAwait n) s c e = refl
taken_await _ s c e = absurd (cc e)

-- a frame that stands at such a question does so whatever objects were made as
before_asking : (image : Image) (made : ℕ → Option Made) (q : KeptQuestion) (at : ℕ) (f : Frame) (fs : List Frame) (asked : Question) (n : ℕ) → is_left asked ≡ true → question_in q f.stack ≡ asked → operands_of q ≡ n →
    StandsAtStop image made (AtWork q at) (f ∷ fs) → IsBeforeAsking image asked n (f ∷ fs)
before_asking image made q at f fs asked n m e count x =
    let stops : stop_of image made f fs ≡ Work asked f.next f.keeps (drop n f.stack) =
    x.0 ∙ (λ i. Work (e i) (x.1.0 i) f.keeps (drop (count i) f.stack)) in (
      subst (λ n. n + 1 < 2 ^ 64) x.1.0 x.1.1,
      asked_again image.shapes.items image.types.items made (λ p. None) f.procedure (here_of f fs) f.cells (code_of image f.procedure) f.next f.keeps f.stack asked f.keeps (drop n f.stack) m stops,
    )

-- and where such work is left to the kernel, the frames stand before it
pub stands_before : (image : Image) (q : KeptQuestion) (at : ℕ) (old new : KeptFrames) (mem mem' : Memory) (did : Did) (before after : List ℕ) →
    StandsAtStop image (made_in image mem) (AtWork q at) (list_in old.list.items) → HasAnswered image q at old new mem mem' did before after → WhereLeft did (Same old new mem mem' before after) →
    IsBefore image did (frames_in new)
stands_before image q at old new mem mem' did before after stands answered left =
    (elim did as (λ (x : Did). did ≡ x → IsBefore image x (frames_in new)) [
      | Start o ↦ λ e. by_list (Start o) e (λ h. h) (Starts (Ref o)) 1 refl (λ s a. (a, taken_start q s o a)) (list_in old.list.items) refl stands
      | Enter l ↦ λ e. by_list (Enter l) e (λ h. h) Enters 0 refl (λ s a. (a, taken_enter q s a)) (list_in old.list.items) refl stands
      | Leave l ↦ λ e. by_list (Leave l) e (λ h. h) Leaves 0 refl (λ s a. (a, taken_leave q s a)) (list_in old.list.items) refl stands
      | Went ↦ λ e. tt
      | NoFrame ↦ λ e. tt
      | Await l c ↦ λ e. by_list (Await l c) e (λ h. h) (Awaits c) 0 refl (λ s a. (a, taken_await q s c a)) (list_in old.list.items) refl stands
      | Trapped n c ↦ λ e. tt
    ]) refl
  where
    by_list : (work : Did) → did ≡ work → (WhereLeft work (Same old new mem mem' before after) → Same old new mem mem' before after) → (asked : Question) (n : ℕ) → is_left asked ≡ true →
        ((s : Stack) → AsksFor (question_in q s) work → (question_in q s ≡ asked) × (operands_of q ≡ n)) →
        (l : List Frame) → list_in old.list.items ≡ l → StandsAtStop image (made_in image mem) (AtWork q at) l → IsBeforeAsking image asked n (list_in new.list.items)
    by_list work e whole asked n m asks [] is x = absurd x
    by_list work e whole asked n m asks (f ∷ fs) is x =
        let same : frames_in new ≡ frames_in old = (same_left did work (Same old new mem mem' before after) whole e left).frames in
        let following = reverse old.following.items in
        let made = answered f fs is in
        let both = answer_both image following f f.next f.keeps f.stack fs mem (λ all knows. refl) (question_in q f.stack) at f.keeps (drop (operands_of q) f.stack) in
        let found = asks f.stack (subst (AsksFor (question_in q f.stack)) (made.left ∙ e) both.asks) in
        subst (IsBeforeAsking image asked n) (sym (ap (λ (x : Frames). x.frames) same ∙ is)) (before_asking image (made_in image mem) q at f fs asked n m found.0 found.1 x)

-- Past the work that was left to the kernel.

-- where a turn leaves such work, its frames stand at it
standing : (image : Image) (mem : Memory) (f : Frame) (fs : List Frame) (at : ℕ) (k : Keeps) (s : Stack) (q : Question) → is_left q ≡ true → stop_of image (made_in image mem) f fs ≡ Work q at k s →
    stop_of image (λ p. None) (record f { next = at; stack = with_operands q s; keeps = k }) fs ≡ Work q at k s
standing image mem f fs at k s q m stops =
    asked_again image.shapes.items image.types.items (made_in image mem) (λ p. None) f.procedure (here_of f fs) f.cells (code_of image f.procedure) at k (with_operands q s) q k s m
    (asks_there image.shapes.items image.types.items (made_in image mem) f.procedure (here_of f fs) f.cells (code_of image f.procedure) q m at k s f.next f.keeps f.stack stops)

work_left : (image : Image) (following : List ℕ) (f : Frame) (fs : List Frame) (mem : Memory) (stop : Stop) (did : Did) → stop_of image (made_in image mem) f fs ≡ stop →
    (goes following image.shapes.items image.types.items stop f fs mem).left ≡ did → StandsAtWork image did (goes following image.shapes.items image.types.items stop f fs mem).frames.frames
work_left image following f fs mem (Work q at k s) did is e =
    found (finds image.types.items q f mem) e
  where
    -- the same of the question that is asked
    stands_for : (w : Did) (asked : Question) → q ≡ asked → ((answer following image.shapes.items image.types.items asked (asker at k s f fs mem)).left ≡ w → stop_of image (made_in image mem) f fs ≡ Work asked at k s →
        StandsAtWork image w (answer following image.shapes.items image.types.items asked (asker at k s f fs mem)).frames.frames) → (answer following image.shapes.items image.types.items q (asker at k s f fs mem)).left ≡ w →
        StandsAtWork image w (answer following image.shapes.items image.types.items q (asker at k s f fs mem)).frames.frames
    stands_for w asked asks h left =
        subst (λ (x : Question). StandsAtWork image w (answer following image.shapes.items image.types.items x (asker at k s f fs mem)).frames.frames) (sym asks)
        (h (ap (λ (x : Question). (answer following image.shapes.items image.types.items x (asker at k s f fs mem)).left) (sym asks) ∙ left) (is ∙ ap (λ x. Work x at k s) asks))

    start_at : (o : ℕ) → (answer following image.shapes.items image.types.items (Starts (Ref o)) (asker at k s f fs mem)).left ≡ Start o → stop_of image (made_in image mem) f fs ≡ Work (Starts (Ref o)) at k s →
        StandsAtWork image (Start o) (answer following image.shapes.items image.types.items (Starts (Ref o)) (asker at k s f fs mem)).frames.frames
    start_at zero e stops = absurd (cc e)
    start_at (suc o) e stops = standing image mem f fs at k s (Starts (Ref (suc o))) refl stops

    by : (w : Did) → (answer following image.shapes.items image.types.items q (asker at k s f fs mem)).left ≡ w → AsksFor q w → StandsAtWork image w (answer following image.shapes.items image.types.items q (asker at k s f fs mem)).frames.frames
    by (Start o) left asks = stands_for (Start o) (Starts (Ref o)) asks (start_at o) left
    by (Enter l) left asks = stands_for (Enter l) Enters asks (λ x stops. standing image mem f fs at k s Enters refl stops) left
    by (Leave l) left asks = stands_for (Leave l) Leaves asks (λ x stops. standing image mem f fs at k s Leaves refl stops) left
    by Went left asks = tt
    by NoFrame left asks = tt
    by (Await l c) left asks = stands_for (Await l c) (Awaits c) asks (λ x stops. standing image mem f fs at k s (Awaits c) refl stops) left
    by (Trapped n c) left asks = tt

    found : (b : Bool) → (works following image.shapes.items image.types.items b q (asker at k s f fs mem)).left ≡ did → StandsAtWork image did (works following image.shapes.items image.types.items b q (asker at k s f fs mem)).frames.frames
    found true e = by did e (subst (AsksFor q) e (answer_both image following f f.next f.keeps f.stack fs mem (λ all knows. refl) q at k s).asks)
    found false e = subst (λ (w : Did). StandsAtWork image w (f ∷ fs)) e tt
work_left image following f fs mem (Ended (Begins at p s) k) did is e = subst (λ (w : Did). StandsAtWork image w (begun_at at p (record f { stack = s; keeps = k }) ∷ fs)) e tt
work_left image following f fs mem (Ended (Fails n c) k) did is e = subst (λ (w : Did). StandsAtWork image w (f ∷ fs)) e tt
work_left image following f fs mem (Ended (Decides a) k) did is e = subst (λ (w : Did). StandsAtWork image w (f ∷ fs)) e tt

pub turn_stands : (image : Image) (mem : Memory) (fs : Frames) (did : Did) → (turn image mem fs).left ≡ did → StandsAtWork image did (turn image mem fs).frames.frames
turn_stands image mem fs did = by (opened fs).following (opened fs).frames
  where
    by : (following : List ℕ) (l : List Frame) → (turn_at image following l mem).left ≡ did → StandsAtWork image did (turn_at image following l mem).frames.frames
    by following [] e = subst (λ (w : Did). StandsAtWork image w []) e tt
    by following (f ∷ fs) e = work_left image following f fs mem (stop_of image (made_in image mem) f fs) did refl e

past_at : (image : Image) (made : ℕ → Option Made) (ps ps' : List ℕ) (l : List Frame) (f : Frame) (rest : List Frame) (q : Question) (n : ℕ) → is_left q ≡ true →
    seen_all image made ps l ≡ seen_all image made ps' (f ∷ rest) → StandsAsking image q n l → StandsAsking image q n (f ∷ rest) →
    (let x : Frames = record { following = ps; frames = past_all image l } in x) ≡ record { following = ps'; frames = past_stop (Work q f.next f.keeps (drop n f.stack)) f ∷ rest }
past_at image made ps ps' [] f rest q n m h stands e = absurd stands
past_at image made ps ps' (x ∷ xs) f rest q n m h stands e =
    let same : seen image made x xs ≡ seen image made f rest = some_same _ _ (ap (λ (y : SeenFrames). y.top) h) in
    let is = is_ahead image made x f xs rest same in
    let again : stop_of image made x xs ≡ Work q x.next x.keeps (drop n x.stack) =
    asked_again image.shapes.items image.types.items (λ p. None) made x.procedure (here_of x xs) x.cells (code_of image x.procedure) x.next x.keeps x.stack q x.keeps (drop n x.stack) m stands in
    let there : stop_of image made f rest ≡ Work q f.next f.keeps (drop n f.stack) =
    asked_again image.shapes.items image.types.items (λ p. None) made f.procedure (here_of f rest) f.cells (code_of image f.procedure) f.next f.keeps f.stack q f.keeps (drop n f.stack) m e in
    let stops : stop_of image (λ p. None) x xs ≡ Work q f.next f.keeps (drop n f.stack) = stands ∙ sym again ∙ ap (λ (y : Seen). y.stop) same ∙ there in
    λ i. (let y : Frames = record { following = (h i).following; frames = past_stop (stops i) (is i) ∷ (h i).below } in y)

passed_by : (image : Image) (made : ℕ → Option Made) (q : Question) (taken : ℕ) (fs : Frames) (old : KeptFrames) (n : ℕ) (f g : KeptFrame) (next : ℕ) → is_left q ≡ true → n ≡ length old.list.items → slice_get old.list.items (n - 1) ≡ Some f →
    IsBeforeAsking image q taken (list_in old.list.items) → StandsAsking image q taken fs.frames → Alike image made fs (frames_in old) → (f.next + 1 < 2 ^ 64 → next ≡ f.next + 1) →
    frame_in g ≡ record (frame_in f) { next = next; is_open = opens q (frame_in f).is_open; stack = drop taken (frame_in f).stack } →
    Alike image made (past image fs) (record { following = reverse old.following.items; frames = list_in (slice_set old.list.items (n - 1) g) })
passed_by image made q taken fs old n f g next m len here before stands h small is all knows =
    let following = reverse old.following.items in
    let top = frame_in f in
    let rest = list_in (all_but_top old.list.items) in
    let tops = list_top old.list.items n f len here in
    let b = subst (IsBeforeAsking image q taken) tops before in
    let seen_so : seen_all image made (opened fs).following (opened fs).frames ≡ seen_all image made following (top ∷ rest) = h made (itself made) ∙ ap (λ l. seen_frames image made (opened_by l following)) tops in
    let moved : past_stop (Work q top.next top.keeps (drop taken top.stack)) top ≡ frame_in g =
    ap (λ m. (let x : Frame = record top { next = m; is_open = opens q top.is_open; stack = drop taken top.stack } in x)) (sym (small b.0)) ∙ sym is in
    ap (λ (x : Frames). seen_frames image all (opened x)) (past_at image made (opened fs).following following (opened fs).frames top rest q taken m seen_so (still fs.following fs.frames stands) b.1
    ∙ (λ i. (let x : Frames = record { following = following; frames = moved i ∷ rest } in x))
    ∙ ap (λ l. (let x : Frames = record { following = following; frames = l } in x)) (sym (list_set old.list.items n f g len here)))
  where
    -- where there is a frame no body begins
    still : (ps : List ℕ) (l : List Frame) → StandsAsking image q taken l → StandsAsking image q taken (opened_by l ps).frames
    still ps [] x = absurd x
    still ps (y ∷ ys) x = x

pub passed : (image : Image) (made : ℕ → Option Made) (did : Did) (fs : Frames) (old : KeptFrames) (n : ℕ) (f g : KeptFrame) (next : ℕ) → is_passed did ≡ true → n ≡ length old.list.items → slice_get old.list.items (n - 1) ≡ Some f →
    IsBefore image did (frames_in old) → StandsAtWork image did fs.frames → Alike image made fs (frames_in old) → (f.next + 1 < 2 ^ 64 → next ≡ f.next + 1) →
    frame_in g ≡ record (frame_in f) { next = next; is_open = open_behind did (frame_in f).is_open; stack = drop (operands_left did) (frame_in f).stack } →
    Alike image made (past image fs) (record { following = reverse old.following.items; frames = list_in (slice_set old.list.items (n - 1) g) })
passed image made (Start o) fs old n f g next p len here before stands h small is = passed_by image made (Starts (Ref o)) 1 fs old n f g next refl len here before stands h small is
passed image made (Enter l) fs old n f g next p len here before stands h small is = passed_by image made Enters 0 fs old n f g next refl len here before stands h small is
passed image made (Leave l) fs old n f g next p len here before stands h small is = passed_by image made Leaves 0 fs old n f g next refl len here before stands h small is
passed image made Went fs old n f g next p len here before stands h small is = absurd (cc p)
passed image made NoFrame fs old n f g next p len here before stands h small is = absurd (cc p)
passed image made (Await l c) fs old n f g next p len here before stands h small is = passed_by image made (Awaits c) 0 fs old n f g next refl len here before stands h small is
passed image made (Trapped k c) fs old n f g next p len here before stands h small is = absurd (cc p)

-- Open regions.

-- the lock is that of the procedure and the object
lock_at : (shape : Option ProcShape) (f g : Frame) → f.object ≡ g.object → lock_in shape f ≡ lock_in shape g
lock_at None f g e = refl
lock_at (Some shape) f g e = ap (λ o. own_lock shape.method shape.module o) e

regions_same : (image : Image) (made : ℕ → Option Made) (ps qs : List ℕ) (l m : List Frame) → seen_all image made ps l ≡ seen_all image made qs m → regions_of image l ≡ regions_of image m
regions_same image made ps qs [] [] h = refl
regions_same image made ps qs [] (g ∷ gs) h = absurd (none_other (seen image made g gs) (ap (λ (x : SeenFrames). x.top) h))
regions_same image made ps qs (f ∷ fs) [] h = absurd (none_other (seen image made f fs) (sym (ap (λ (x : SeenFrames). x.top) h)))
regions_same image made ps qs (f ∷ fs) (g ∷ gs) h =
    let e : seen image made f fs ≡ seen image made g gs = some_same _ _ (ap (λ (x : SeenFrames). x.top) h) in
    let below : regions_of image fs ≡ regions_of image gs = ap (λ (x : SeenFrames). regions_of image x.below) h in
    let lock : lock_in (numbered image.shapes.items f.procedure) f ≡ lock_in (numbered image.shapes.items g.procedure) g =
    ap (λ (x : Seen). lock_in (numbered image.shapes.items x.procedure) f) e ∙ lock_at (numbered image.shapes.items g.procedure) f g (ap (λ (x : Seen). x.object) e) in
    λ i. if (e i).is_open then lock i ∷ below i else below i

-- where no frame is left, none is open
regions_opened : (image : Image) (l : List Frame) (ps : List ℕ) → regions_of image (opened_by l ps).frames ≡ regions_of image l
regions_opened image [] [] = refl
regions_opened image [] (p ∷ ps) = refl
regions_opened image (f ∷ fs) ps = refl

pub regions_alike : (image : Image) (made : ℕ → Option Made) (fs gs : Frames) → Alike image made fs gs → regions_of image fs.frames ≡ regions_of image gs.frames
regions_alike image made fs gs h =
    sym (regions_opened image fs.frames fs.following) ∙ regions_same image made (opened fs).following (opened gs).following (opened fs).frames (opened gs).frames (h made (itself made))
    ∙ regions_opened image gs.frames gs.following

-- Where frames stand in the text.

position_same : (image : Image) (made : ℕ → Option Made) (ps qs : List ℕ) (l m : List Frame) → seen_all image made ps l ≡ seen_all image made qs m → position_in image l ≡ position_in image m
position_same image made ps qs [] [] h = refl
position_same image made ps qs [] (g ∷ gs) h = absurd (none_other (seen image made g gs) (ap (λ (x : SeenFrames). x.top) h))
position_same image made ps qs (f ∷ fs) [] h = absurd (none_other (seen image made f fs) (sym (ap (λ (x : SeenFrames). x.top) h)))
position_same image made ps qs (f ∷ fs) (g ∷ gs) h =
    let e : seen image made f fs ≡ seen image made g gs = some_same _ _ (ap (λ (x : SeenFrames). x.top) h) in
    let below : fs ≡ gs = ap (λ (x : SeenFrames). x.below) h in
    λ i. or_below (e i).at (home_of image (e i).procedure) (position_or image (record { module_ = lowest_home image (home_of image (e i).procedure) (below i); pos = record { line = 0; col = 0 } }) (below i))

pub position_alike : (image : Image) (made : ℕ → Option Made) (fs gs : Frames) → Alike image made fs gs → position image fs ≡ position image gs
position_alike image made fs gs h = position_same image made (opened fs).following (opened gs).following (opened fs).frames (opened gs).frames (h made (itself made))

-- the lowest frame is the first that is kept
lowest_last : (image : Image) (home : ℕ) (fs : List KeptFrame) (f : KeptFrame) → lowest_home image home (map frame_in (fs ++ f ∷ [])) ≡ home_of image f.procedure
lowest_last image home [] f = refl
lowest_last image home (g ∷ gs) f = lowest_last image (home_of image g.procedure) gs f

lowest_first : (image : Image) (ps : List ℕ) (f : KeptFrame) (fs : List KeptFrame) →
    lowest_home image 0 (opened (record { following = ps; frames = list_in (f ∷ fs) })).frames ≡ home_of image f.procedure
lowest_first image ps f fs = ap (λ (l : List KeptFrame). lowest_home image 0 (opened_by (map frame_in l) ps).frames) (reverse-append (f ∷ []) fs) ∙ opened_last (reverse fs)
  where
    opened_last : (l : List KeptFrame) → lowest_home image 0 (opened_by (map frame_in (l ++ f ∷ [])) ps).frames ≡ home_of image f.procedure
    opened_last [] = refl
    opened_last (g ∷ gs) = lowest_last image (home_of image g.procedure) gs f

pub lowest_read : (image : Image) (frames : KeptFrames) (f : KeptFrame) → slice_get frames.list.items 0 ≡ Some f →
    where_in (home_of image f.procedure, record { line = 0; col = 0 }) ≡ beginning image (frames_in frames)
lowest_read image frames f e = go (reverse frames.following.items) frames.list.items e
  where
    go : (ps : List ℕ) (fs : List KeptFrame) → slice_get fs 0 ≡ Some f → where_in (home_of image f.procedure, record { line = 0; col = 0 }) ≡ beginning image (record { following = ps; frames = list_in fs })
    go ps [] h = absurd (none_other f h)
    go ps (g ∷ gs) h =
        ap (λ m. where_in (m, record { line = 0; col = 0 })) (ap (λ (x : KeptFrame). home_of image x.procedure) (some_same f g (sym h)) ∙ sym (lowest_first image ps g gs))

pub position_home : (image : Image) (ps : List ℕ) (l : List Frame) →
    position_or image (beginning image (record { following = ps; frames = l })) l ≡ position image (record { following = ps; frames = l })
position_home image [] [] = refl
position_home image (p ∷ ps) [] = refl
position_home image ps (f ∷ fs) = refl

-- Turns that end at no question.

-- a statement begins
pub begun_shown : (image : Image) (at : ℕ) (pos : Pos) (old new : KeptFrames) (mem : Memory) (out : List ℕ) → StandsAtStop image (made_in image mem) (AtBegin at pos) (list_in old.list.items) →
    ((f : Frame) (fs : List Frame) → list_in old.list.items ≡ f ∷ fs → list_in new.list.items ≡ begun_at at pos f ∷ fs) → new.following ≡ old.following → new.begun ≡ counted true old.begun →
    Shown image (turn image mem (frames_in old)) Went old new mem out out
begun_shown image at pos old new mem out stands moved following counts = by_list (list_in old.list.items) refl stands
  where
    by_list : (l : List Frame) → list_in old.list.items ≡ l → StandsAtStop image (made_in image mem) (AtBegin at pos) l → Shown image (turn image mem (frames_in old)) Went old new mem out out
    by_list [] is x = absurd x
    by_list (f ∷ fs) is x =
        let fol = reverse old.following.items in
        let now : record { following = fol; frames = begun_at at pos f ∷ fs } ≡ frames_in new =
        λ i. (let y : Frames = record { following = reverse (sym following i).items; frames = sym (moved f fs is) i } in y) in
        subst (λ (l : List Frame). Shown image (turn image mem (record { following = fol; frames = l })) Went old new mem out out) (sym is)
        (subst (λ (y : Stop). Shown image (goes fol image.shapes.items image.types.items y f fs mem) Went old new mem out out) (sym x.0)
        (record { store = refl; alike = λ all knows. ap (λ (y : Frames). seen_frames image all (opened y)) now; output = sym (append-nil out); begun = counts; left = refl }))

-- a trap comes, or a condition ends in a body that is none
pub failed_shown : (image : Image) (stop : KeptStop) (number code : ℕ) (old : KeptFrames) (mem : Memory) (out : List ℕ) →
    ((following : List ℕ) (f : Frame) (fs : List Frame) → list_in old.list.items ≡ f ∷ fs → goes following image.shapes.items image.types.items (stop_in stop f) f fs mem ≡ leaves following (Trapped number code) (f ∷ fs) mem) →
    StandsAtStop image (made_in image mem) stop (list_in old.list.items) → Shown image (turn image mem (frames_in old)) (Trapped number code) old old mem out out
failed_shown image stop number code old mem out traps stands = by_list (list_in old.list.items) refl stands
  where
    by_list : (l : List Frame) → list_in old.list.items ≡ l → StandsAtStop image (made_in image mem) stop l → Shown image (turn image mem (frames_in old)) (Trapped number code) old old mem out out
    by_list [] is x = absurd x
    by_list (f ∷ fs) is x =
        let fol = reverse old.following.items in
        subst (λ (l : List Frame). Shown image (turn image mem (record { following = fol; frames = l })) (Trapped number code) old old mem out out) (sym is)
        (subst (λ (y : Stop). Shown image (goes fol image.shapes.items image.types.items y f fs mem) (Trapped number code) old old mem out out) (sym x.0)
        (subst (λ (t : Turned). Shown image t (Trapped number code) old old mem out out) (sym (traps fol f fs is))
        (record { store = refl; alike = λ all knows. ap (λ (l : List Frame). seen_frames image all (opened (record { following = fol; frames = l }))) (sym is); output = sym (append-nil out); begun = refl; left = refl })))

-- no frame is left, nor a body that is to follow
pub ended_turned : (image : Image) (old : KeptFrames) (mem : Memory) (out : List ℕ) → frames_in old ≡ record { following = []; frames = [] } → IsTurned image NoFrame old old mem mem out out
ended_turned image old mem out none fs h =
    shown_alike image old old mem mem fs NoFrame out out h
    (subst (λ (x : Frames). Shown image (turn image mem x) NoFrame old old mem out out) (sym none)
    (record { store = refl; alike = λ all knows. ap (λ (x : Frames). seen_frames image all (opened x)) (sym none); output = sym (append-nil out); begun = refl; left = refl }))
