-- A condition that is evaluated over the topmost frame comes to its verdict, and the frame is as it was.
use Rattle.std.proofs.Common.{◌≡◌, ◌<◌, ◌≤◌, ◌+◌, ◌-◌, ◌^◌, ℕ, suc, zero, List, [], ◌∷◌, length, drop, reverse, refl, sym, ap, ◌∙◌, subst, arith}
use Rattle.std.specs.Prelude.{Option, Some, None, slice_get, slice_set, get_or, vec_capacity, pos, Vec}
use Rattle.std.specs.declared.alloc.Global.{Global}
use Rattle.std.proofs.lemmas.List.{length-reverse, length-set, length-drop}
use Rattle.std.proofs.lemmas.Option.{slice_get_within, slice_get-get_or}
use Rattle.std.proofs.lemmas.List.Sums.{sum_by-drop_more}
use Rattle.aos_base.specs.declared.kernel.Verdict.{Verdict}
use Rattle.aos_base.specs.declared.kernel.Verdict.TheVariants.{Fails}
use Rattle.aos_base.specs.Question.{Awaits}
use Rattle.aos_base.specs.Rooted.{Made, Rooted}
use Rattle.aos_code.specs.declared.instr.Cell.{Cell}
use Rattle.aos_code.specs.declared.instr.Instr.{Instr}
use Rattle.aos_code.specs.declared.instr.Instr.TheVariants as instr
use Rattle.aos_code.specs.declared.image.Image.{Image}
use Rattle.aos_code.specs.Memory.{Memory}
use Rattle.aos_code.specs.Silent.{Keeps, Stack, Stop, Work, Ended, silent}
use Rattle.aos_code.specs.Machine.{Frame, Frames, here_of, rooted, judged, made_in, code_of, stop_of, opened_by, condition_of, verdict, verdict_from, verdict_over}
use Rattle.aos_store.specs.declared.frames.Frame.{Frame as KeptFrame}
use Rattle.aos_store.specs.Store.{frame_in, list_in}
use Rattle.aos_store.specs.Room.{HasMoreRoom, AreRoomyFor}
use Rattle.aos_store.proofs.Rooms.{more_room, roomy_set}
use Rattle.aos_silent_steps.specs.declared.act.Question.{Question as KeptQuestion}
use Rattle.aos_silent_steps.specs.declared.silent.Stop.{Stop as KeptStop}
use Rattle.aos_silent_steps.specs.declared.silent.Stop.TheVariants.{Work as AtWork}
use Rattle.aos_silent_steps.specs.Silent.{Seen, stop_in, silent_with, IsStopOf}
use Rattle.aos_silent_steps.specs.Conditions.{grows, need, HasRoomFor, AsksInRoom, HasMoved}
use Rattle.aos_silent_steps.proofs.Evaluating.{moved_further}
use Rattle.aos_cpu.specs.Verdicts.{IsTop, with_top, TopHasMoved, TopHasRoom, HasTop, HasSwapped, HasGoneOn, HasStopped, IsJudged, verdict_here, or_later}
use Rattle.aos_cpu.specs.Turns.{SeenFrames, seen, seen_all, seen_frames, Alike, StandsAsking}
use Rattle.aos_cpu.proofs.Asking.{asked_again}
use Rattle.aos_cpu.proofs.Turns.{all_but_top, rest_length, list_top, list_set, ahead, is_ahead, some_same, itself}

-- The topmost frame.

put_at : (fs : List KeptFrame) (n : ℕ) (g : KeptFrame) → n < length fs → slice_get (slice_set fs n g) n ≡ Some g
put_at [] n g lt = absurd (omega (arith, lt))
put_at (x ∷ fs) zero g lt = refl
put_at (x ∷ fs) (suc n) g lt = put_at fs n g (omega (arith, lt))

set_again : (fs : List KeptFrame) (n : ℕ) (g h : KeptFrame) → slice_set (slice_set fs n g) n h ≡ slice_set fs n h
set_again [] zero g h = refl
set_again [] (suc n) g h = refl
set_again (x ∷ fs) zero g h = refl
set_again (x ∷ fs) (suc n) g h = ap (λ l. x ∷ l) (set_again fs n g h)

grows_some : (i : Instr) → 1 ≤ grows i
grows_some (instr.OpenRef j) = omega arith
grows_some _ = omega arith

pub top_is : (fs : List KeptFrame) (f : KeptFrame) → IsTop fs f → list_in fs ≡ frame_in f ∷ list_in (all_but_top fs)
top_is fs f top = list_top fs (length fs) f refl top

pub top_put : (fs : List KeptFrame) (f g : KeptFrame) → IsTop fs f → list_in (with_top fs g) ≡ frame_in g ∷ list_in (all_but_top fs)
top_put fs f g top = list_set fs (length fs) f g refl top

pub length_put : (fs : List KeptFrame) (g : KeptFrame) → length (with_top fs g) ≡ length fs
length_put fs g = length-set fs (length fs - 1) g

-- the one that has been put there is on top
pub put_is_top : (fs : List KeptFrame) (f g : KeptFrame) → IsTop fs f → IsTop (with_top fs g) g
put_is_top fs f g top =
    ap (λ n. slice_get (with_top fs g) (n - 1)) (length_put fs g)
    ∙ put_at fs (length fs - 1) g (slice_get_within fs (length fs - 1) f top)

pub put_again : (fs : List KeptFrame) (f g h : KeptFrame) → IsTop fs f → with_top (with_top fs g) h ≡ with_top fs h
put_again fs f g h top =
    ap (λ n. slice_set (with_top fs g) (n - 1) h) (length_put fs g)
    ∙ set_again fs (length fs - 1) g h

top_only : (fs : List KeptFrame) (f g : KeptFrame) → IsTop fs f → IsTop fs g → f ≡ g
top_only fs f g a b = let e : Some f ≡ Some g = sym a ∙ b in cc e

-- How it is read and changed.

pub no_top : (fs : List KeptFrame) (f : KeptFrame) → length fs ≡ 0 → IsTop fs f → ⊥
no_top [] f e top = absurd (cc top)
no_top (x ∷ fs) f e top = absurd (omega (arith, e))

pub top_at : (fs : List KeptFrame) (n : ℕ) (f : KeptFrame) → n ≡ length fs → slice_get fs (n - 1) ≡ Some f → IsTop fs f
top_at fs n f len here = ap (λ m. slice_get fs (m - 1)) (sym len) ∙ here

pub swapped_as : (fs : List KeptFrame) (n : ℕ) (g f : KeptFrame) (at : ℕ) (operands : Vec Cell Global) → n ≡ length fs → slice_get fs (n - 1) ≡ Some g → IsTop fs f →
    HasSwapped f at operands g.operands g.next fs (slice_set fs (n - 1) (record g { next = at; operands = operands }))
swapped_as fs n g f at operands len here top =
    let same : g ≡ f = top_only fs g f (top_at fs n g len here) top in
    record {
      place = ap (λ (x : KeptFrame). x.next) same;
      operands = ap (λ (x : KeptFrame). x.operands) same;
      put = (λ i. slice_set fs (len i - 1) (record (same i) { next = at; operands = operands }));
    }

pub gone_on_as : (fs : List KeptFrame) (n : ℕ) (g f h : KeptFrame) (at taken : ℕ) (v : Cell) → n ≡ length fs → slice_get fs (n - 1) ≡ Some g → IsTop fs f →
    frame_in h ≡ record (frame_in g) { next = at + 1; stack = v ∷ drop taken (frame_in g).stack } → HasMoreRoom g h → HasGoneOn f at taken v fs (slice_set fs (n - 1) h)
gone_on_as fs n g f h at taken v len here top frame more =
    let same : g ≡ f = top_only fs g f (top_at fs n g len here) top in
    record {
      top = h;
      put = (λ i. slice_set fs (len i - 1) h);
      frame = frame ∙ ap (λ (x : KeptFrame). let y : Frame = record (frame_in x) { next = at + 1; stack = v ∷ drop taken (frame_in x).stack } in y) same;
      more = subst (λ (x : KeptFrame). HasMoreRoom x h) same more;
    }

pub stopped_as : (image : Image) (made : ℕ → Option Made) (code : List Instr) (fs : List KeptFrame) (n below : ℕ) (g f h : KeptFrame) (stop : KeptStop) → n ≡ length fs → below ≡ n - 1 → slice_get fs (n - 1) ≡ Some g → IsTop fs f →
    stop_in stop (frame_in h) ≡ silent_with image code made below (frame_in g) → IsStopOf stop (frame_in h) → HasMoved (frame_in g) (frame_in h) → AsksInRoom stop code h → HasMoreRoom g h →
    HasStopped image made code f stop fs (slice_set fs (n - 1) h)
stopped_as image made code fs n below g f h stop len under here top stops place moves asks more =
    let same : g ≡ f = top_only fs g f (top_at fs n g len here) top in
    record {
      top = h;
      put = (λ i. slice_set fs (len i - 1) h);
      stops = stops ∙ (λ i. silent_with image code made ((under ∙ ap (λ m. m - 1) len) i) (frame_in (same i)));
      place = place;
      moves = subst (λ (x : KeptFrame). HasMoved (frame_in x) (frame_in h)) same moves;
      asks = asks;
      more = subst (λ (x : KeptFrame). HasMoreRoom x h) same more;
    }

-- Where the topmost frame has only moved, the same verdict is to come.

same_for : (image : Image) (mem : Memory) (code : List Instr) (f : Frame) (fs : List Frame) (p : ℕ) (j : Keeps) (t : Stack) (n at : ℕ) (k : Keeps) (s : Stack) →
    verdict_from image mem (ahead f p j t) fs code n at k s ≡ verdict_from image mem f fs code n at k s
same_for image mem code f fs p j t zero at k s = refl
same_for image mem code f fs p j t (suc n) at k s =
    λ i. judged (rooted (f ∷ fs) mem) (λ a l u. same_for image mem code f fs p j t n a l u i)
    (silent image.shapes.items image.types.items (made_in image mem) f.procedure (here_of f fs) f.cells code at k s)

pub verdict_moved : (image : Image) (mem : Memory) (code : List Instr) (f g : Frame) (fs : List Frame) → HasMoved f g → (n at : ℕ) (k : Keeps) (s : Stack) →
    verdict_from image mem g fs code n at k s ≡ verdict_from image mem f fs code n at k s
verdict_moved image mem code f g fs moved n at k s =
    ap (λ (x : Frame). verdict_from image mem x fs code n at k s) moved ∙ same_for image mem code f fs g.next f.keeps g.stack n at k s

-- Frames that are alike, and stand at the instruction that awaits a condition, give the same verdict.

abbrev keeps_at : Stop → Keeps
keeps_at (Work q at k s) = k
keeps_at (Ended end k) = k

alike_over : (image : Image) (made : ℕ → Option Made) (mem : Memory) (c : ℕ) (ps qs : List ℕ) (l m : List Frame) → seen_all image made ps l ≡ seen_all image made qs m → StandsAsking image (Awaits c) 0 l → StandsAsking image (Awaits c) 0 m →
    (code : List Instr) → verdict_over image mem l code ≡ verdict_over image mem m code
alike_over image made mem c ps qs [] m h a b code = absurd a
alike_over image made mem c ps qs (f ∷ fs) [] h a b code = absurd b
alike_over image made mem c ps qs (f ∷ fs) (g ∷ gs) h a b code =
    let same : seen image made f fs ≡ seen image made g gs = some_same _ _ (ap (λ (x : SeenFrames). x.top) h) in
    let below : fs ≡ gs = ap (λ (x : SeenFrames). x.below) h in
    let there : stop_of image made f fs ≡ Work (Awaits c) f.next f.keeps f.stack =
    asked_again image.shapes.items image.types.items (λ p. None) made f.procedure (here_of f fs) f.cells (code_of image f.procedure) f.next f.keeps f.stack (Awaits c) f.keeps f.stack refl a in
    let also : stop_of image made g gs ≡ Work (Awaits c) g.next g.keeps g.stack =
    asked_again image.shapes.items image.types.items (λ p. None) made g.procedure (here_of g gs) g.cells (code_of image g.procedure) g.next g.keeps g.stack (Awaits c) g.keeps g.stack refl b in
    let keeps : f.keeps ≡ g.keeps = ap keeps_at (sym there ∙ ap (λ (x : Seen). x.stop) same ∙ also) in
    let is = is_ahead image made f g fs gs same in
    (λ i. verdict_from image mem (is i) (below i) code (suc (length code)) 0 (keeps i) [])
    ∙ same_for image mem code g gs f.next f.keeps f.stack (suc (length code)) 0 g.keeps []

pub verdict_alike : (image : Image) (made : ℕ → Option Made) (mem : Memory) (c : ℕ) (fs gs : Frames) → Alike image made fs gs → StandsAsking image (Awaits c) 0 fs.frames → StandsAsking image (Awaits c) 0 gs.frames → (n : ℕ) → verdict image mem fs n ≡ verdict image mem gs n
verdict_alike image made mem c fs gs h a b n = by fs.following gs.following fs.frames gs.frames (h made (itself made)) a b
  where
    by : (ps qs : List ℕ) (l m : List Frame) → seen_frames image made (opened_by l ps) ≡ seen_frames image made (opened_by m qs) → StandsAsking image (Awaits c) 0 l → StandsAsking image (Awaits c) 0 m →
        verdict_over image mem l (condition_of image n) ≡ verdict_over image mem m (condition_of image n)
    by ps qs [] m same a b = absurd a
    by ps qs (f ∷ fs) [] same a b = absurd b
    by ps qs (f ∷ fs) (g ∷ gs) same a b = alike_over image made mem c ps qs (f ∷ fs) (g ∷ gs) same a b (condition_of image n)

rooted_moved : (mem : Memory) (f g : Frame) (fs : List Frame) → HasMoved f g → rooted (g ∷ fs) mem ≡ rooted (f ∷ fs) mem
rooted_moved mem f g fs moved = ap (λ (x : Frame). rooted (x ∷ fs) mem) moved

-- One step.
module _ (image : Image) (mem : Memory) (code : List Instr) (f : KeptFrame) (stop : KeptStop) (old new : List KeptFrame) (top : IsTop old f) (come : HasStopped image (made_in image mem) code f stop old new) where
  abbrev rest : List Frame
  rest = list_in (all_but_top old)

  abbrev now : ℕ → ℕ → Keeps → Stack → Verdict
  now n = verdict_from image mem (frame_in f) rest code n

  -- it goes by the stop to which silent work has come
  pub at_stop : (n : ℕ) → verdict_here image mem code (suc n) (list_in old) ≡ judged (rooted (frame_in f ∷ rest) mem) (now n) (stop_in stop (frame_in come.top))
  at_stop n =
      ap (verdict_here image mem code (suc n)) (top_is old f top)
      ∙ ap (judged (rooted (frame_in f ∷ rest) mem) (now n)) (ap (λ m. silent_with image code (made_in image mem) m (frame_in f)) (rest_length old) ∙ sym come.stops)

  pub top_moves : TopHasMoved old new f
  top_moves = record { top = come.top; put = come.put; moves = come.moves; more = come.more }

  pub new_top : IsTop new come.top
  new_top = subst (λ l. IsTop l come.top) (sym come.put) (put_is_top old f come.top top)

  new_list : list_in new ≡ frame_in come.top ∷ rest
  new_list = ap list_in come.put ∙ top_put old f come.top top

  -- at a question: what is answered to it
  module _ (q : KeptQuestion) (at : ℕ) (is : stop ≡ AtWork q at) (later : List KeptFrame) where
    asked_so : stop_in stop (frame_in come.top) ≡ stop_in (AtWork q at) (frame_in come.top)
    asked_so = ap (λ x. stop_in x (frame_in come.top)) is

    over_new : rooted (list_in new) mem ≡ rooted (frame_in f ∷ rest) mem
    over_new = ap (λ l. rooted l mem) new_list ∙ rooted_moved mem (frame_in f) (frame_in come.top) rest come.moves

    pub work_judged : (r : Option Verdict) → IsJudged (rooted (list_in new) mem) q at come.top new later r → (n : ℕ) →
        verdict_here image mem code (suc n) (list_in old) ≡ or_later r (verdict_here image mem code n (list_in later))
    work_judged (Some v) h n =
        at_stop n ∙ ap (judged (rooted (frame_in f ∷ rest) mem) (now n)) asked_so
        ∙ ap (λ x. judged x (now n) (stop_in (AtWork q at) (frame_in come.top))) (sym over_new) ∙ h.0 (now n)
    work_judged None h n =
        let gone = h.2 in
        let g = gone.top in
        let after : list_in later ≡ frame_in g ∷ rest =
        ap list_in (gone.put ∙ ap (λ l. with_top l g) come.put ∙ put_again old f come.top g top) ∙ top_put old f g top in
        let moved : HasMoved (frame_in come.top) (frame_in g) = gone.frame ∙ ap (λ (x : Frame). record (frame_in come.top) { next = x.next; stack = x.stack }) (sym gone.frame) in
        let all : HasMoved (frame_in f) (frame_in g) = moved_further (frame_in f) (frame_in come.top) (frame_in g) come.moves moved in
        at_stop n ∙ ap (judged (rooted (frame_in f ∷ rest) mem) (now n)) asked_so
        ∙ ap (λ x. judged x (now n) (stop_in (AtWork q at) (frame_in come.top))) (sym over_new) ∙ h.3 (now n)
        ∙ sym (verdict_moved image mem code (frame_in f) (frame_in g) rest all n (at + 1) (frame_in come.top).keeps (h.0 ∷ drop h.1 (frame_in come.top).stack))
        ∙ ap (λ (x : Frame). verdict_from image mem (frame_in g) rest code n x.next x.keeps x.stack) (sym gone.frame)
        ∙ ap (verdict_here image mem code n) (sym after)

    pub work_moves : (r : Option Verdict) → IsJudged (rooted (list_in new) mem) q at come.top new later r → TopHasMoved old later f
    work_moves (Some v) h = record { top = come.top; put = h.1 ∙ come.put; moves = come.moves; more = come.more }
    work_moves None h =
        let gone = h.2 in
        let g = gone.top in
        let moved : HasMoved (frame_in come.top) (frame_in g) = gone.frame ∙ ap (λ (x : Frame). record (frame_in come.top) { next = x.next; stack = x.stack }) (sym gone.frame) in
        record {
          top = g;
          put = gone.put ∙ ap (λ l. with_top l g) come.put ∙ put_again old f come.top g top;
          moves = moved_further (frame_in f) (frame_in come.top) (frame_in g) come.moves moved;
          more = more_room f come.top g come.more gone.more;
        }

    -- there is room for the rest still
    pub work_room : (r : Option Verdict) → IsJudged (rooted (list_in new) mem) q at come.top new later r → at ≡ (frame_in come.top).next → at < length code → HasRoomFor code come.top → r ≡ None → TopHasRoom code later
    work_room (Some v) h is_at within room e = absurd (cc e)
    work_room None h is_at within room e = λ x x_top.
        let gone = h.2 in
        let g = gone.top in
        let g_top : IsTop later g = subst (λ l. IsTop l g) (sym gone.put) (put_is_top new come.top g new_top) in
        let same : g ≡ x = top_only later g x g_top x_top in
        let a = length-reverse come.top.operands.items in
        let b = length-reverse g.operands.items in
        let c : length (reverse g.operands.items) ≡ suc (length (drop h.1 (reverse come.top.operands.items))) = ap (λ (y : Frame). length y.stack) gone.frame in
        let d = length-drop h.1 (reverse come.top.operands.items) in
        let z = sum_by-drop_more grows code at (instr.Num (pos 0)) within in
        let one = grows_some (get_or code at (instr.Num (pos 0))) in
        let here : need (drop come.top.next code) ≡ need (drop at code) = ap (λ m. need (drop m code)) (sym is_at) in
        let there : need (drop g.next code) ≡ need (drop (at + 1) code) = ap (λ (y : Frame). need (drop y.next code)) gone.frame in
        subst (HasRoomFor code) same (omega (arith, a, b, c, d, z, one, here, there, room, gone.more.operands))

pub with_same_length : (old new : List KeptFrame) (g : KeptFrame) → new ≡ with_top old g → HasTop old → HasTop new
with_same_length old new g put top =
    let e : length new ≡ length old = ap length put ∙ length_put old g in
    let some = top.some in
    let few = top.few in
    record { some = omega (arith, e, some); few = omega (arith, e, few) }

-- frames of which there is one have a topmost one
pub has_top : (fs : List KeptFrame) → 0 < length fs → (f : KeptFrame) × IsTop fs f
has_top [] lt = absurd (omega (arith, lt))
has_top (x ∷ fs) lt =
    let n = length (x ∷ fs) - 1 in
    (get_or (x ∷ fs) n x, slice_get-get_or (x ∷ fs) n x (omega arith))

-- one step of whichever frame is on top
module _ (image : Image) (mem : Memory) (code : List Instr) (stop : KeptStop) (old new : List KeptFrame) (some : HasTop old) (come : (f : KeptFrame) → IsTop old f → HasStopped image (made_in image mem) code f stop old new) where
  abbrev pub first_top : (f : KeptFrame) × IsTop old f
  first_top = has_top old some.some

  abbrev pub comes : HasStopped image (made_in image mem) code first_top.0 stop old new
  comes = come first_top.0 first_top.1

  -- it ends with a verdict
  pub ends_so : (v : Verdict) → ((x : Rooted (List Cell)) (next : ℕ → Keeps → Stack → Verdict) (g : Frame) → judged x next (stop_in stop g) ≡ v) → (n : ℕ) → verdict_here image mem code (suc n) (list_in old) ≡ v
  ends_so v is n =
      let f = first_top.0 in
      at_stop image mem code f stop old new first_top.1 comes n ∙ is (rooted (frame_in f ∷ list_in (all_but_top old)) mem) (verdict_from image mem (frame_in f) (list_in (all_but_top old)) code n) (frame_in comes.top)

  pub moved_so : (f : KeptFrame) → IsTop old f → TopHasMoved old new f
  moved_so f top = top_moves image mem code f stop old new top (come f top)

  pub top_so : HasTop new
  top_so = with_same_length old new comes.top comes.put some

  pub new_so : (g : KeptFrame) → IsTop new g → comes.top ≡ g
  new_so g top = top_only new comes.top g (new_top image mem code first_top.0 stop old new first_top.1 comes) top

  -- it has come to a question
  module _ (q : KeptQuestion) (at : ℕ) (is : stop ≡ AtWork q at) where
    pub asks_at : (at ≡ (frame_in comes.top).next) × (at + 1 < 2 ^ 64)
    asks_at = subst (λ s. IsStopOf s (frame_in comes.top)) is comes.place

    pub asks_within : (at < length code) × HasRoomFor code comes.top
    asks_within = subst (λ s. AsksInRoom s code comes.top) is comes.asks

    pub asks_room : (g : KeptFrame) → IsTop new g → length g.operands.items < vec_capacity g.operands
    asks_room g top =
        let z = sum_by-drop_more grows code at (instr.Num (pos 0)) asks_within.0 in
        let one = grows_some (get_or code at (instr.Num (pos 0))) in
        let here : need (drop comes.top.next code) ≡ need (drop at code) = ap (λ m. need (drop m code)) (sym asks_at.0) in
        let room = asks_within.1 in
        subst (λ (x : KeptFrame). length x.operands.items < vec_capacity x.operands) (new_so g top) (omega (arith, z, one, here, room))

    module _ (later : List KeptFrame) (r : Option Verdict) (judged_so : (g : KeptFrame) → IsTop new g → IsJudged (rooted (list_in new) mem) q at g new later r) where
      judged_top : (f : KeptFrame) (top : IsTop old f) → IsJudged (rooted (list_in new) mem) q at (come f top).top new later r
      judged_top f top = judged_so (come f top).top (new_top image mem code f stop old new top (come f top))

      pub asked_verdict : (n : ℕ) → verdict_here image mem code (suc n) (list_in old) ≡ or_later r (verdict_here image mem code n (list_in later))
      asked_verdict n = work_judged image mem code first_top.0 stop old new first_top.1 comes q at is later r (judged_top first_top.0 first_top.1) n

      pub asked_moved : (f : KeptFrame) → IsTop old f → TopHasMoved old later f
      asked_moved f top = work_moves image mem code f stop old new top (come f top) q at is later r (judged_top f top)

      pub asked_room : r ≡ None → TopHasRoom code later
      asked_room none = work_room image mem code first_top.0 stop old new first_top.1 comes q at is later r (judged_top first_top.0 first_top.1) asks_at.0 asks_within.0 asks_within.1 none

      pub asked_top : HasTop later
      asked_top = let m = asked_moved first_top.0 first_top.1 in with_same_length old later m.top m.put some

-- as long as one has been moved, and then the other
pub moved_twice : (old mid new : List KeptFrame) (f : KeptFrame) → IsTop old f → (a : TopHasMoved old mid f) → ((g : KeptFrame) → IsTop mid g → TopHasMoved mid new g) → TopHasMoved old new f
moved_twice old mid new f top a more =
    let g = a.top in
    let b = more g (subst (λ l. IsTop l g) (sym a.put) (put_is_top old f g top)) in
    record {
      top = b.top;
      put = b.put ∙ ap (λ l. with_top l b.top) a.put ∙ put_again old f g b.top top;
      moves = moved_further (frame_in f) (frame_in g) (frame_in b.top) a.moves b.moves;
      more = more_room f g b.top a.more b.more;
    }

-- one that has not been moved
set_same : (fs : List KeptFrame) (n : ℕ) (f : KeptFrame) → slice_get fs n ≡ Some f → fs ≡ slice_set fs n f
set_same [] zero f at = refl
set_same [] (suc n) f at = refl
set_same (x ∷ fs) zero f at = let same : x ≡ f = cc at in ap (λ y. y ∷ fs) same
set_same (x ∷ fs) (suc n) f at = ap (λ l. x ∷ l) (set_same fs n f at)

pub has_moved_none : (fs : List KeptFrame) (f : KeptFrame) → IsTop fs f → TopHasMoved fs fs f
has_moved_none fs f top =
    let as_much : HasMoreRoom f f = record { procedure = refl; operands = omega arith; kept = omega arith } in
    record { top = f; put = set_same fs (length fs - 1) f top; moves = refl; more = as_much }

-- The whole condition.

-- where there is no frame
pub no_verdict : (image : Image) (mem : Memory) (fs : List KeptFrame) → length fs ≡ 0 → (c : ℕ) → verdict_over image mem (list_in fs) (condition_of image c) ≡ Fails
no_verdict image mem [] none c = refl
no_verdict image mem (x ∷ fs) none c = absurd (omega (arith, none))

-- and where nothing is left to be done
pub none_left : (image : Image) (mem : Memory) (code : List Instr) (fs : List Frame) → verdict_here image mem code 0 fs ≡ Fails
none_left image mem code [] = refl
none_left image mem code (f ∷ fs) = refl

-- The condition begins with no operands in the place of the frame's own.
module _ (code : List Instr) (f : KeptFrame) (stack given : Vec Cell Global) (place : ℕ) (old mid : List KeptFrame) (top : IsTop old f) (enters : HasSwapped f 0 stack given place old mid) where
  abbrev first : KeptFrame
  first = record f { next = 0; operands = stack }

  entered_top : IsTop mid first
  entered_top = subst (λ l. IsTop l first) (sym enters.put) (put_is_top old f first top)

  pub whole_top : 0 < length old → length old ≤ 2 ^ 32 → HasTop mid
  whole_top some few = with_same_length old mid first enters.put (record { some = some; few = few })

  pub begins_in_room : stack.items ≡ [] → need code ≤ vec_capacity stack → TopHasRoom code mid
  begins_in_room none room g g_top =
      let same : first ≡ g = top_only mid first g entered_top g_top in
      let l : length stack.items ≡ 0 = ap length none in
      subst (HasRoomFor code) same (omega (arith, l, room))

  -- what is evaluated is the condition's verdict over the frames as they were
  pub whole_verdict : (image : Image) (mem : Memory) (c : ℕ) → stack.items ≡ [] → code ≡ condition_of image c → verdict_here image mem code (suc (length code)) (list_in mid) ≡ verdict_over image mem (list_in old) (condition_of image c)
  whole_verdict image mem c none is =
      let rest = list_in (all_but_top old) in
      ap (λ l. verdict_here image mem code (suc (length code)) (list_in l)) enters.put ∙ ap (verdict_here image mem code (suc (length code))) (top_put old f first top)
      ∙ ap (λ s. verdict_from image mem (frame_in first) rest code (suc (length code)) 0 (frame_in f).keeps s) (ap reverse none)
      ∙ verdict_moved image mem code (frame_in f) (frame_in first) rest refl (suc (length code)) 0 (frame_in f).keeps []
      ∙ ap (λ l. verdict_over image mem l code) (sym (top_is old f top)) ∙ ap (verdict_over image mem (list_in old)) is

-- The frame is as it was behind it.
module _ (f : KeptFrame) (stack given back : Vec Cell Global) (place again : ℕ) (old mid new last : List KeptFrame) (top : IsTop old f) (enters : HasSwapped f 0 stack given place old mid) (moved : (g : KeptFrame) → IsTop mid g → TopHasMoved mid new g)
    (leaves : (g : KeptFrame) → IsTop new g → HasSwapped g place given back again new last) where
  abbrev begun : KeptFrame
  begun = record f { next = 0; operands = stack }

  begun_top : IsTop mid begun
  begun_top = subst (λ l. IsTop l begun) (sym enters.put) (put_is_top old f begun top)

  abbrev run : TopHasMoved mid new begun
  run = moved begun begun_top

  new_is : new ≡ with_top old run.top
  new_is = run.put ∙ ap (λ l. with_top l run.top) enters.put ∙ put_again old f begun run.top top

  later_top : IsTop new run.top
  later_top = subst (λ l. IsTop l run.top) (sym new_is) (put_is_top old f run.top top)

  abbrev left : HasSwapped run.top place given back again new last
  left = leaves run.top later_top

  abbrev again_so : KeptFrame
  again_so = record (run.top) { next = place; operands = given }

  frame_back : frame_in again_so ≡ frame_in f
  frame_back = (λ i. (let x : Frame = record (run.moves i) { next = enters.place i; stack = reverse (enters.operands i).items } in x))

  pub as_before : list_in last ≡ list_in old
  as_before =
      ap list_in (left.put ∙ ap (λ l. with_top l again_so) new_is ∙ put_again old f run.top again_so top)
      ∙ top_put old f again_so top ∙ ap (λ x. x ∷ list_in (all_but_top old)) frame_back ∙ sym (top_is old f top)

  -- what comes back has as much room
  pub room_back : vec_capacity stack ≤ vec_capacity back
  room_back =
      let e : vec_capacity back ≡ vec_capacity run.top.operands = ap (λ (v : Vec Cell Global). vec_capacity v) left.operands in
      omega (arith, e, run.more.operands)

  -- and the frame has its own again
  pub room_kept : (depths keeps : ℕ → ℕ) → AreRoomyFor depths keeps old → AreRoomyFor depths keeps last
  room_kept depths keeps roomy =
      let e : vec_capacity given ≡ vec_capacity f.operands = ap (λ (v : Vec Cell Global). vec_capacity v) enters.operands in
      let more : HasMoreRoom f again_so = record { procedure = run.more.procedure; operands = omega (arith, e); kept = run.more.kept } in
      subst (AreRoomyFor depths keeps) (sym (left.put ∙ ap (λ l. with_top l again_so) new_is ∙ put_again old f run.top again_so top))
      (roomy_set depths keeps old (length old - 1) f again_so top more roomy)
