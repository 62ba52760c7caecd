-- Frames that fit a sound image do so behind each turn.
use Rattle.std.proofs.Common.{◌≡◌, ◌≤◌, ℕ, ℤ, zero, suc, pos, ◌+◌, List, [], ◌∷◌, ◌++◌, length, map, drop, Bool, true, false, nat_eq, Option, Some, None, option_map, option_and_then, is_some, slice_get, if◌then◌else◌, refl, sym, ap, ◌∙◌, subst, arith}
use Rattle.std.specs.List.{flat_map}
use Rattle.aos_base.specs.declared.root.Root.{Root}
use Rattle.aos_base.specs.declared.root.Root.TheVariants.{Frame as FrameRoot, Module as ModuleRoot, Object as ObjectRoot}
use Rattle.aos_base.specs.declared.number.Relation.{Relation}
use Rattle.aos_base.specs.declared.kernel.Did.{Did}
use Rattle.aos_base.specs.declared.kernel.Did.TheVariants.{Enter, Leave, Await, Trapped}
use Rattle.aos_base.specs.Question.{Reads, Stores, Copies, PutsText, ComparesTexts, Calls, Ends, Makes, Starts, Enters, Leaves, Awaits, PutsInt, PutsChar, PutsString, PutsNothing, PutsLn, Places, Lengths, Opens, Sizes, Tests}
use Rattle.aos_base.specs.Operators.{flag}
use Rattle.aos_base.specs.Number.{holds, array_lengths}
use Rattle.aos_base.specs.Text.{order}
use Rattle.aos_base.specs.Rooted.{Made, Rooted, change_from_last, load, spliced}
use Rattle.aos_code.specs.declared.instr.Cell.{Cell}
use Rattle.aos_code.specs.declared.instr.Cell.TheVariants.{Num, Ref}
use Rattle.aos_code.specs.declared.instr.Kind.{Kind}
use Rattle.aos_code.specs.declared.instr.Kind.TheVariants.{N, R}
use Rattle.aos_code.specs.declared.instr.Instr.{Instr}
use Rattle.aos_code.specs.declared.instr.Instr.TheVariants as instr
use Rattle.aos_code.specs.declared.image.ProcShape.{ProcShape}
use Rattle.aos_code.specs.declared.image.ModuleDesc.{ModuleDesc}
use Rattle.aos_code.specs.declared.image.TypeDesc.{TypeDesc}
use Rattle.aos_code.specs.declared.image.Image.{Image}
use Rattle.aos_code.specs.Numbered.{numbered}
use Rattle.aos_code.specs.Memory.{Addr, Memory, new_number, has_room, type_of_object}
use Rattle.aos_code.specs.Silent.{Stack, Keeps, Question, Begins, Fails, Decides, Stop, Work, Ended, is_of, Here, walk, silent}
use Rattle.aos_code.specs.Machine as machine
use Rattle.aos_code.specs.Machine.{Frame, Frames, here_of, Turned, Handed, first_cell, made_in, rooted, called_frame, frames_with, behind, body_frame, bodies, code_in_body, code_of, stop_of, opened, opened_by, turn, turn_at, past, past_stop, is_passed, body_of, object_frames, first_frames}
use Rattle.aos_sound.specs.Sound as sound
use Rattle.aos_sound.specs.Sound.{ArePathsSound}
use Rattle.aos_sound.specs.Fits.{IsResult, result_of, StandsOn, StandsGiven, StandsAsked, StandsStopped}
use Rattle.aos_sound.specs.FitFrames.{awaited, depth_in, depth_of, HasBody, HasBodyOrNone, IsSoundImage, FitFor, AreToFollow, FramesFit, HaveRoomFor}
use Rattle.aos_sound.proofs.FitsWalks.{room, room_given, silent_stands}

behind_is : {X : Type 0} (at : ℕ) (xs : List X) (x : X) → slice_get xs at ≡ Some x → drop at xs ≡ x ∷ drop (at + 1) xs
behind_is zero [] x e = absurd (cc e)
behind_is zero (y ∷ xs) x e = cc
behind_is (suc at) [] x e = absurd (cc e)
behind_is (suc at) (y ∷ xs) x e =
    let n : suc (at + 1) ≡ suc at + 1 = omega arith in
    behind_is at xs x e ∙ ap (λ m. x ∷ drop m (y ∷ xs)) n

-- silent work that stands before work which is left to the kernel
at_enter : (shapes : List ProcShape) (types : List TypeDesc) (made : ℕ → Option Made) (own : ℕ) (here : Here) (cells : List Cell) (code : List Instr) (at : ℕ) (k : Keeps) (s : Stack) → slice_get code at ≡ Some instr.Enter → silent shapes types made own here cells code at k s ≡ Work Enters at k s
at_enter shapes types made own here cells code at k s is = ap (λ l. walk shapes types made own here cells code l 0 at k s) (behind_is at code instr.Enter is)

at_leave : (shapes : List ProcShape) (types : List TypeDesc) (made : ℕ → Option Made) (own : ℕ) (here : Here) (cells : List Cell) (code : List Instr) (at : ℕ) (k : Keeps) (s : Stack) → slice_get code at ≡ Some instr.Leave → silent shapes types made own here cells code at k s ≡ Work Leaves at k s
at_leave shapes types made own here cells code at k s is = ap (λ l. walk shapes types made own here cells code l 0 at k s) (behind_is at code instr.Leave is)

at_await : (shapes : List ProcShape) (types : List TypeDesc) (made : ℕ → Option Made) (own : ℕ) (here : Here) (cells : List Cell) (code : List Instr) (at : ℕ) (k : Keeps) (s : Stack) (c : ℕ) → slice_get code at ≡ Some (instr.Await c) → silent shapes types made own here cells code at k s ≡ Work (Awaits c) at k s
at_await shapes types made own here cells code at k s c is = ap (λ l. walk shapes types made own here cells code l 0 at k s) (behind_is at code (instr.Await c) is)

at_start : (shapes : List ProcShape) (types : List TypeDesc) (made : ℕ → Option Made) (own : ℕ) (here : Here) (cells : List Cell) (code : List Instr) (at : ℕ) (k : Keeps) (s : Stack) (o : ℕ) → slice_get code at ≡ Some instr.Start → silent shapes types made own here cells code at k (Ref o ∷ s) ≡ Work (Starts (Ref o)) at k s
at_start shapes types made own here cells code at k s o is = ap (λ l. walk shapes types made own here cells code l 0 at k (Ref o ∷ s)) (behind_is at code instr.Start is)

module _ (image : Image) (whole : IsSoundImage image) where
  -- the paths of a procedure's code
  pub paths_of : (p : ℕ) → HasBody image p → ArePathsSound image p (code_of image p) (depth_of image p)
  paths_of p h =
      let e : code_in_body (Some h.0) ≡ code_of image p = ap code_in_body (sym h.1) in
      let d : depth_in (Some h.0) ≡ depth_of image p = ap depth_in (sym h.1) in
      subst (λ n. ArePathsSound image p (code_of image p) n) d (subst (λ c. ArePathsSound image p c h.0.depth) e (whole.paths p h.0 h.1))

  -- no frame has more operands than its body's depth
  pub have_room : (r : Option Kind) (fs : List Frame) → FitFor image r fs → HaveRoomFor image r fs
  have_room r [] h = tt
  have_room r (f ∷ fs) h = (by r h.1, have_room (result_of (numbered image.shapes.items f.procedure)) fs h.2)
    where
      by : (r : Option Kind) → StandsGiven image f.procedure (code_of image f.procedure) r f.next f.stack → length f.stack + awaited r ≤ depth_of image f.procedure
      by None st = let l = room image f.procedure (code_of image f.procedure) (depth_of image f.procedure) (paths_of f.procedure h.0) f.next f.stack st in omega (arith, l)
      by (Some k) st = let l = room_given image f.procedure (code_of image f.procedure) (depth_of image f.procedure) (paths_of f.procedure h.0) f.next k f.stack st in omega (arith, l)

  -- silent work of a frame on a path
  pub stop_stands : (made : ℕ → Option Made) (f : Frame) (fs : List Frame) → FitFor image None (f ∷ fs) → StandsStopped image f.procedure (code_of image f.procedure) (stop_of image made f fs)
  stop_stands made f fs h = silent_stands image f.procedure (code_of image f.procedure) (depth_of image f.procedure) (paths_of f.procedure h.0) (here_of f fs) made f.cells f.next f.keeps f.stack h.1

  -- cells that change
  changed_fit : (d : ℕ) (g : List Cell → List Cell) (r : Option Kind) (fs : List Frame) → FitFor image r fs → FitFor image r (change_from_last d (λ f. record f { cells = g f.cells }) fs)
  changed_fit d g r [] h = tt
  changed_fit d g r (f ∷ fs) h = by (changed_fit d g (result_of (numbered image.shapes.items f.procedure)) fs h.2) (nat_eq d (length fs))
    where
      by : FitFor image (result_of (numbered image.shapes.items f.procedure)) (change_from_last d (λ f. record f { cells = g f.cells }) fs) → (b : Bool) → FitFor image r (if b then record f { cells = g f.cells } ∷ fs else f ∷ change_from_last d (λ f. record f { cells = g f.cells }) fs)
      by below true = h
      by below false = (h.0, h.1, below)

  written_fit : (root : Root) (g : List Cell → List Cell) (r : Option Kind) (fs : List Frame) → FitFor image r fs → FitFor image r (frames_with root g fs)
  written_fit (FrameRoot d) g r fs h = changed_fit d g r fs h
  written_fit (ModuleRoot m) g r fs h = h
  written_fit (ObjectRoot o) g r fs h = h

  -- the end of a frame
  ends_fit : (following : List ℕ) (result : Option Cell) (fs : List Frame) (r : Option Kind) → FitFor image r fs → IsResult r result → FitFor image None (machine.with_result following result fs)
  ends_fit following None fs None h i = h
  ends_fit following None fs (Some k) h i = absurd i
  ends_fit following (Some v) [] r h i = tt
  ends_fit following (Some v) (g ∷ gs) None h i = absurd i
  ends_fit following (Some v) (g ∷ gs) (Some k) h i = (h.0, h.1 v i, h.2)

  -- the frames of an activity of which the topmost one stands on a path
  module _ (following : List ℕ) (follow : AreToFollow image following) (f : Frame) (fs : List Frame) (fit : FitFor image None (f ∷ fs)) where
    abbrev Fit : Turned → Type 0
    Fit t = FramesFit image t.frames × (is_passed t.left ≡ true → FramesFit image (past image t.frames))

    abbrev On : (at : ℕ) → Stack → Type 0
    On at s = StandsOn image f.procedure (code_of image f.procedure) at s

    abbrev Asked : Option Kind → (at : ℕ) → Stack → Type 0
    Asked r at s = StandsGiven image f.procedure (code_of image f.procedure) r (at + 1) s

    module _ (at : ℕ) (k : Keeps) (s : Stack) (mem : Memory) where
      on : (s' : Stack) → On (at + 1) s' → FitFor image None (behind following at k s' f ∷ fs)
      on s' st = (fit.0, st, fit.2)

      writes_fit : (b : Bool) (a : Addr) (vs : List Cell) → On (at + 1) s → Fit (machine.writes following b a vs (machine.asker at k s f fs mem))
      writes_fit true a vs st = ((written_fit a.root (spliced a.cell vs) None (behind following at k s f ∷ fs) (on s st), follow), λ e. absurd (cc e))
      writes_fit false a vs st = ((fit, follow), λ e. absurd (cc e))

      reads_fit : (kind : Kind) (o : Option Cell) → Asked (Some kind) at s → Fit (machine.reads following kind o (machine.asker at k s f fs mem))
      reads_fit kind None st = ((fit, follow), λ e. absurd (cc e))
      reads_fit kind (Some v) st = by (is_of kind v) refl
        where
          by : (b : Bool) → is_of kind v ≡ b → Fit (if b then machine.goes_on following (behind following at k (v ∷ s) f ∷ fs) mem else machine.leaves following (Trapped 16 0) (f ∷ fs) mem)
          by true e = ((on (v ∷ s) (st v e), follow), λ e. absurd (cc e))
          by false e = ((fit, follow), λ e. absurd (cc e))

      copies_fit : (o : Option (List Cell)) (b : Bool) (to : Addr) → On (at + 1) s → Fit (machine.copies following o b to (machine.asker at k s f fs mem))
      copies_fit None b to st = ((fit, follow), λ e. absurd (cc e))
      copies_fit (Some vs) b to st = writes_fit b to vs st

      prints_fit : (o : Option (List ℕ)) → On (at + 1) s → Fit (machine.prints following o (machine.asker at k s f fs mem))
      prints_fit None st = ((fit, follow), λ e. absurd (cc e))
      prints_fit (Some bytes) st = ((on s st, follow), λ e. absurd (cc e))

      writes_out_fit : (o : Option (List ℕ)) → On (at + 1) s → Fit (machine.writes_out following o (machine.asker at k s f fs mem))
      writes_out_fit None st = ((fit, follow), λ e. absurd (cc e))
      writes_out_fit (Some bytes) st = ((on s st, follow), λ e. absurd (cc e))

      makes_fit : (b : Bool) (m : Made) (cells : List Cell) → Asked (Some R) at s → Fit (machine.makes following b m cells (machine.asker at k s f fs mem))
      makes_fit true m cells st = let v = Ref (new_number mem) in ((on (v ∷ s) (st v refl), follow), λ e. absurd (cc e))
      makes_fit false m cells st = ((fit, follow), λ e. absurd (cc e))

      makes_with_fit : (ns : Option (List ℕ)) (t : ℕ) (d : TypeDesc) → Asked (Some R) at s → Fit (machine.makes_with following ns t d (machine.asker at k s f fs mem))
      makes_with_fit None t d st = ((fit, follow), λ e. absurd (cc e))
      makes_with_fit (Some ns) t d st =
          let m : Made = record { type = t; lengths = ns } in
          let cells = machine.in_rows following ns (map first_cell d.kinds.items) in makes_fit (has_room m cells mem) m cells st

      makes_of_fit : (d : Option TypeDesc) (zs : Option (List ℤ)) (t : ℕ) → Asked (Some R) at s → Fit (machine.makes_of following d zs t (machine.asker at k s f fs mem))
      makes_of_fit None zs t st = ((fit, follow), λ e. absurd (cc e))
      makes_of_fit (Some d) None t st = ((fit, follow), λ e. absurd (cc e))
      makes_of_fit (Some d) (Some zs) t st = makes_with_fit (array_lengths zs) t d st

      starts_fit : (v : Cell) → slice_get (code_of image f.procedure) at ≡ Some instr.Start → On at (v ∷ s) → On (at + 1) s → Fit (machine.starts following v (machine.asker at k s f fs mem))
      starts_fit (Ref (suc o)) is st behind_st =
          let z : Work (Starts (Ref (suc o))) at k s ≡ stop_of image (λ o. None) (machine.before following at k (Ref (suc o) ∷ s) f) fs = sym (at_start image.shapes.items image.types.items (λ o. None) f.procedure (here_of f fs) f.cells (code_of image f.procedure) at k s (suc o) is) in
          (((fit.0, st, fit.2), follow), λ e. subst (λ x. FramesFit image (record { following = following; frames = past_stop x (machine.before following at k (Ref (suc o) ∷ s) f) ∷ fs })) z ((fit.0, behind_st, fit.2), follow))
      starts_fit v is st behind_st = ((fit, follow), λ e. absurd (cc e))

      -- the frame stands before such work, and behind it goes on, with its region open or closed
      left_fits : (q : Question) (w : Did) → stop_of image (λ o. None) (machine.before following at k s f) fs ≡ Work q at k s → On at s → On (at + 1) s → Fit (machine.leaves following w (machine.before following at k s f ∷ fs) mem)
      left_fits q w is st behind_st =
          (((fit.0, st, fit.2), follow), λ p. subst (λ x. FramesFit image (record { following = following; frames = past_stop x (machine.before following at k s f) ∷ fs })) (sym is) ((fit.0, behind_st, fit.2), follow))

      enter_fits : slice_get (code_of image f.procedure) at ≡ Some instr.Enter → On at s → On (at + 1) s → Fit (machine.answer following image.shapes.items image.types.items Enters (machine.asker at k s f fs mem))
      enter_fits is st behind_st = left_fits Enters (Enter (machine.lock_in (numbered image.shapes.items f.procedure) f)) (at_enter image.shapes.items image.types.items (λ o. None) f.procedure (here_of f fs) f.cells (code_of image f.procedure) at k s is) st behind_st

      leave_fits : slice_get (code_of image f.procedure) at ≡ Some instr.Leave → On at s → On (at + 1) s → Fit (machine.answer following image.shapes.items image.types.items Leaves (machine.asker at k s f fs mem))
      leave_fits is st behind_st = left_fits Leaves (Leave (machine.lock_in (numbered image.shapes.items f.procedure) f)) (at_leave image.shapes.items image.types.items (λ o. None) f.procedure (here_of f fs) f.cells (code_of image f.procedure) at k s is) st behind_st

      awaits_fit : (c : ℕ) → slice_get (code_of image f.procedure) at ≡ Some (instr.Await c) → On at s → On (at + 1) s → Fit (machine.answer following image.shapes.items image.types.items (Awaits c) (machine.asker at k s f fs mem))
      awaits_fit c is st behind_st = left_fits (Awaits c) (Await (machine.lock_in (numbered image.shapes.items f.procedure) f) c) (at_await image.shapes.items image.types.items (λ o. None) f.procedure (here_of f fs) f.cells (code_of image f.procedure) at k s c is) st behind_st

      stores_text_fit : (o : Option (List ℕ)) (to : Addr) (x : Rooted (List Cell)) → On (at + 1) s → Fit (machine.stores_text following o to x (machine.asker at k s f fs mem))
      stores_text_fit None to x st = ((fit, follow), λ e. absurd (cc e))
      stores_text_fit (Some cs) to x st = writes_fit (is_some (machine.cells_at (length cs) to x)) to (machine.character_cells following cs) st

      puts_text_fit : (strict : Bool) (o : Option (List ℕ)) (n : Option ℕ) (to : Addr) (x : Rooted (List Cell)) → On (at + 1) s → Fit (machine.puts_text following (machine.fitted_in following strict o n) to x (machine.asker at k s f fs mem))
      puts_text_fit strict None n to x st = ((fit, follow), λ e. absurd (cc e))
      puts_text_fit strict (Some cs) None to x st = ((fit, follow), λ e. absurd (cc e))
      puts_text_fit strict (Some cs) (Some n) to x st = stores_text_fit (machine.fitted following strict n cs) to x st

      compares_fit : (r : Relation) (o p : Option (List ℕ)) → Asked (Some N) at s → Fit (machine.compares following r o p (machine.asker at k s f fs mem))
      compares_fit r (Some a) (Some b) st = let v = Num (flag (holds r (order a b) (pos 0))) in ((on (v ∷ s) (st v refl), follow), λ e. absurd (cc e))
      compares_fit r (Some a) None st = ((fit, follow), λ e. absurd (cc e))
      compares_fit r None p st = ((fit, follow), λ e. absurd (cc e))

      enters_fit : (b : Bool) (p o : ℕ) (shape : ProcShape) (h : Handed following) → HasBody image p → Asked (result_of (numbered image.shapes.items p)) at s → Fit (machine.enters following b (called_frame following p o shape h) (machine.asker at k s f fs mem))
      enters_fit true p o shape h body st = ((fit, follow), λ e. absurd (cc e))
      enters_fit false p o shape h body st = (((body, ([], sound.Begins, tt), (fit.0, st, fit.2)), follow), λ e. absurd (cc e))

      calls_with_fit : (p o : ℕ) (shape : ProcShape) (h : Option (Handed following)) → HasBody image p → Asked (result_of (numbered image.shapes.items p)) at s → Fit (machine.calls_with following (option_map (machine.called_frame following p o shape) h) (machine.asker at k s f fs mem))
      calls_with_fit p o shape None body st = ((fit, follow), λ e. absurd (cc e))
      calls_with_fit p o shape (Some h) body st = enters_fit (machine.is_deep following (called_frame following p o shape h) (f ∷ fs)) p o shape h body st

      calls_fit : (o : Option ProcShape) (p : ℕ) (vs : List Cell) → numbered image.shapes.items p ≡ o → Asked (result_of (numbered image.shapes.items p)) at s → Fit (machine.calls following o p vs (machine.asker at k s f fs mem))
      calls_fit None p vs e st = ((fit, follow), λ e. absurd (cc e))
      calls_fit (Some shape) p vs e st =
          calls_with_fit p (machine.object_of shape.method vs) shape (machine.handed following (suc (length fs)) (rooted (f ∷ fs) mem) shape.params.items (machine.arguments_of shape.method vs) (length shape.kinds.items)) (whole.shapes p shape e) st

      pub answer_fits : (q : Question) → StandsAsked image f.procedure (code_of image f.procedure) q at s → Fit (machine.answer following image.shapes.items image.types.items q (machine.asker at k s f fs mem))
      answer_fits (Reads kind a) st = reads_fit kind (load a.root a.cell (rooted (f ∷ fs) mem)) st
      answer_fits (Stores a v) st = writes_fit (is_some (load a.root a.cell (rooted (f ∷ fs) mem))) a (v ∷ []) st
      answer_fits (Copies n from to) st = copies_fit (machine.cells_at n from (rooted (f ∷ fs) mem)) (is_some (machine.cells_at n to (rooted (f ∷ fs) mem))) to st
      answer_fits (PutsText strict from n to size) st = puts_text_fit strict (machine.text_at following from n (rooted (f ∷ fs) mem)) (machine.length_in following size) to (rooted (f ∷ fs) mem) st
      answer_fits (ComparesTexts r a n b m) st = compares_fit r (machine.text_at following a n (rooted (f ∷ fs) mem)) (machine.text_at following b m (rooted (f ∷ fs) mem)) st
      answer_fits (Calls how p vs) st = calls_fit (numbered image.shapes.items p) p vs refl st
      answer_fits (Ends result) st = ((ends_fit following result fs (result_of (numbered image.shapes.items f.procedure)) fit.2 st.1, follow), λ e. absurd (cc e))
      answer_fits (Makes t vs) st = makes_of_fit (numbered image.types.items t) (machine.numbers_in following vs) t st
      answer_fits (Starts v) st = starts_fit v st.0 st.1 st.2
      answer_fits Enters st = enter_fits st.0 st.1 st.2
      answer_fits Leaves st = leave_fits st.0 st.1 st.2
      answer_fits (Awaits c) st = awaits_fit c st.0 st.1 st.2
      answer_fits (PutsInt v n) st = prints_fit (machine.written v n) st
      answer_fits (PutsChar v) st = writes_out_fit (option_map (λ c. c ∷ []) (machine.code_in following v)) st
      answer_fits (PutsString a n) st = writes_out_fit (machine.text_at following a n (rooted (f ∷ fs) mem)) st
      answer_fits PutsNothing st = ((on s st, follow), λ e. absurd (cc e))
      answer_fits PutsLn st = ((on s st, follow), λ e. absurd (cc e))
      answer_fits (Places a) st = ((fit, follow), λ e. absurd (cc e))
      answer_fits (Lengths a) st = ((fit, follow), λ e. absurd (cc e))
      answer_fits (Opens v) st = ((fit, follow), λ e. absurd (cc e))
      answer_fits (Sizes v d) st = ((fit, follow), λ e. absurd (cc e))
      answer_fits (Tests v t) st = ((fit, follow), λ e. absurd (cc e))

      -- and where what it needs isn't found nothing is done
      works_fit : (found : Bool) (q : Question) → StandsAsked image f.procedure (code_of image f.procedure) q at s → Fit (machine.works following image.shapes.items image.types.items found q (machine.asker at k s f fs mem))
      works_fit true q st = answer_fits q st
      works_fit false q st = ((fit, follow), λ e. absurd (cc e))

    pub goes_fits : (mem : Memory) (stop : Stop) → StandsStopped image f.procedure (code_of image f.procedure) stop → Fit (machine.goes following image.shapes.items image.types.items stop f fs mem)
    goes_fits mem (Work q at k s) st = works_fit at k s mem (machine.finds image.types.items q f mem) q st
    goes_fits mem (Ended (Begins at p s) k) st = (((fit.0, st.2, fit.2), follow), λ e. absurd (cc e))
    goes_fits mem (Ended (Fails n c) k) st = ((fit, follow), λ e. absurd (cc e))
    goes_fits mem (Ended (Decides a) k) st = ((fit, follow), λ e. absurd (cc e))

  -- where no frame is left the next body begins
  opened_fit : (fs : List Frame) (following : List ℕ) → FitFor image None fs → AreToFollow image following → FramesFit image (opened_by fs following)
  opened_fit [] [] h follow = (tt, tt)
  opened_fit [] (p ∷ ps) h follow = ((follow.0, ([], sound.Begins, tt), tt), follow.1)
  opened_fit (f ∷ fs) ps h follow = (h, follow)

  turned_fit : (fs : List Frame) (following : List ℕ) (mem : Memory) → FitFor image None fs → AreToFollow image following →
      FramesFit image (turn_at image following fs mem).frames × (is_passed (turn_at image following fs mem).left ≡ true → FramesFit image (past image (turn_at image following fs mem).frames))
  turned_fit [] following mem h follow = ((tt, follow), λ e. absurd (cc e))
  turned_fit (f ∷ fs) following mem h follow = goes_fits following follow f fs h mem (stop_of image (made_in image mem) f fs) (stop_stands (made_in image mem) f fs h)

  pub opened_fits : (fs : Frames) → FramesFit image fs → FramesFit image (opened fs)
  opened_fits fs h = opened_fit fs.frames fs.following h.0 h.1

  pub turn_fits : (mem : Memory) (fs : Frames) → FramesFit image fs → FramesFit image (turn image mem fs).frames
  turn_fits mem fs h = let o = opened_fits fs h in (turned_fit (opened fs).frames (opened fs).following mem o.0 o.1).0

  pub past_fits : (mem : Memory) (fs : Frames) → FramesFit image fs → is_passed (turn image mem fs).left ≡ true → FramesFit image (past image (turn image mem fs).frames)
  past_fits mem fs h e = let w = opened_fits fs h in (turned_fit (opened fs).frames (opened fs).following mem w.0 w.1).1 e

  -- the frames with which activities begin
  pub object_fits : (o : ℕ) (t : Option TypeDesc) → ((d : TypeDesc) → t ≡ Some d → HasBodyOrNone image d.body) → FramesFit image (object_frames o t)
  object_fits o None h = (tt, tt)
  object_fits o (Some t) h = (by t.body (h t refl), tt)
    where
      by : (p : ℕ) → HasBodyOrNone image p → FitFor image None (map (body_frame o) (bodies p))
      by zero h = tt
      by (suc p) h = (h, ([], sound.Begins, tt), tt)

  pub body_fits : (mem : Memory) (o : ℕ) → FramesFit image (body_of image mem o)
  body_fits mem o = object_fits o (option_and_then (numbered image.types.items) (type_of_object o mem)) (by (type_of_object o mem))
    where
      by : (k : Option ℕ) (d : TypeDesc) → option_and_then (numbered image.types.items) k ≡ Some d → HasBodyOrNone image d.body
      by None d e = absurd (cc e)
      by (Some k) d e = whole.types k d e

  modules_follow : (ms : List ModuleDesc) → ((k : ℕ) (m : ModuleDesc) → slice_get ms k ≡ Some m → HasBodyOrNone image m.body) → AreToFollow image (flat_map (λ m. bodies m.body) ms)
  modules_follow [] h = tt
  modules_follow (m ∷ ms) h = by (modules_follow ms (λ k n e. h (suc k) n e)) m.body (h 0 m refl)
    where
      by : AreToFollow image (flat_map (λ m. bodies m.body) ms) → (p : ℕ) → HasBodyOrNone image p → AreToFollow image (bodies p ++ flat_map (λ m. bodies m.body) ms)
      by more zero g = more
      by more (suc p) g = (g, more)

  pub first_fit : FramesFit image (first_frames image)
  first_fit = (tt, modules_follow image.modules.items whole.modules)
