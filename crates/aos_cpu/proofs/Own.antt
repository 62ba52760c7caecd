-- Turns that need nothing but the frames.
use Rattle.std.proofs.Common.{◌≡◌, ◌≤◌, ◌<◌, ◌+◌, ◌-◌, ◌%◌, ◌^◌, ℕ, zero, suc, List, [], ◌∷◌, ◌++◌, map, length, take, drop, reverse, inl, inr, refl, sym, ap, ◌∙◌, subst, arith, length-drop}
use Rattle.std.specs.Prelude.{Bool, true, false, ◌&&◌, Option, Some, None, slice_get, is_some, option_map, option_and_then, if◌then◌else◌}
use Rattle.std.proofs.lemmas.Bool.Decides.{leb_tells}
use Rattle.std.proofs.lemmas.List.{reverse-append, reverse-reverse, length-reverse, take-append-drop, take_at, take_all}
use Rattle.aos_base.specs.declared.root.Root.{Root}
use Rattle.aos_base.specs.declared.root.Root.TheVariants.{Frame as FrameRoot, Module as ModuleRoot, Object as ObjectRoot}
use Rattle.aos_base.specs.declared.number.Relation.{Relation}
use Rattle.aos_base.specs.declared.kernel.Did.{Did}
use Rattle.aos_base.specs.declared.kernel.Did.TheVariants.{Went, Ended as NoFrame, Enter, Leave, Await, Start, Trapped}
use Rattle.aos_base.specs.Question.{Reads, Stores, Copies, PutsText, ComparesTexts, Calls, Ends, Makes, Starts, Enters, Leaves, Awaits, PutsInt, PutsChar, PutsString, PutsNothing, PutsLn, Places, Lengths, Opens, Sizes, Tests}
use Rattle.aos_base.specs.Rooted.{Made as MadeAs, Rooted, by_number, at_root, load}
use Rattle.aos_code.specs.declared.instr.Cell.{Cell}
use Rattle.aos_code.specs.declared.instr.Cell.TheVariants.{Num, Ref, Call as CallCell, Place}
use Rattle.aos_code.specs.declared.instr.Kind.{Kind}
use Rattle.aos_code.specs.declared.image.Image.{Image}
use Rattle.aos_code.specs.declared.image.ProcShape.{ProcShape}
use Rattle.aos_code.specs.declared.image.TypeDesc.{TypeDesc}
use Rattle.aos_code.specs.declared.image.ParamKind.{ParamKind}
use Rattle.aos_code.specs.declared.image.ParamKind.TheVariants as param
use Rattle.aos_code.specs.Memory.{Memory}
use Rattle.aos_code.specs.Numbered.{numbered}
use Rattle.aos_code.specs.Silent.{Stack, Keeps, Question, Begins, Fails, Decides, Stop, Work, Ended, is_of, cells_of}
use Rattle.aos_code.specs.Machine.{asker, fitted_in, here_of, object_of, arguments_of, Frame, Frames, Turned, Handed, hand, rooted, if_all, cells_at, leaves, goes_on, behind, reads, writes, copies, stores_text, fitted, puts_text, compares, is_deep, enters, calls_with, calls, lengths_in, whole_at, copied_open, handed, called_frame, text_in, text_at, length_in, character_cells, answer, works, finds, goes, opened, code_of, made_in, stop_of, turn, turn_at}
use Rattle.aos_store.specs.declared.frames.Frames.{Frames as KeptFrames}
use Rattle.aos_store.specs.declared.memory.Store.{Store}
use Rattle.aos_store.specs.Store.{frames_in, memory_in, SameCounts}
use Rattle.aos_store.specs.Objects.{object_cells, made_in as made_as}
use Rattle.aos_silent_steps.specs.Known.{Knows}
use Rattle.aos_silent_steps.specs.Silent.{Seen}
use Rattle.aos_silent_steps.proofs.Knowing.{IsFound, silent_more}
use Rattle.aos_cpu.specs.Turns.{SeenFrames, seen, seen_all, seen_frames, Alike, Shown, IsTurned, Rests, WhereLeft, counted}
use Rattle.aos_cpu.specs.Private.{no_memory, only_made, made_by, is_of_frame, is_own_value, copies_own, calls_own, is_own, is_own_stop, is_own_top, is_own_turn, has_gone, alone, IsPrivate, HasTurned, Holds, HasTried, after_turns, begun_after, IsMadePrivately, turns_since}
use Rattle.aos_cpu.proofs.Turns.{some_same, none_other, itself, after_turn, turn_alike, alike_back}

pub none_copied : (ps : List ParamKind) (vs : List Cell) → None ≡ slice_get vs 0 → copies_own ps vs ≡ true
none_copied [] vs e = refl
none_copied (p ∷ ps) [] e = refl
none_copied (p ∷ ps) (v ∷ vs) e = absurd (cc e)

-- the arguments of a call, where operands lie with the topmost last
pub last_ones : {A : Type 0} (xs : List A) (n : ℕ) → drop (length xs - n) xs ≡ reverse (take n (reverse xs))
last_ones xs n =
    let m = length xs - n in
    elim (leb_tells n (length xs)) [
      | inl e ↦
          let le : n ≤ length xs = e.1 in
          let split : reverse xs ≡ reverse (drop m xs) ++ reverse (take m xs) = ap reverse (sym (take-append-drop m xs)) ∙ reverse-append (take m xs) (drop m xs) in
          let len : length (reverse (drop m xs)) ≡ n = omega (arith, length-reverse (drop m xs), length-drop m xs) in
          sym (ap reverse (ap (take n) split ∙ take_at (reverse (drop m xs)) (reverse (take m xs)) n len) ∙ reverse-reverse (drop m xs))
      | inr e ↦
          let lt : length xs < n = e.1 in
          let z : m ≡ 0 = omega arith in
          let past : length (reverse xs) ≤ n = omega (arith, length-reverse xs) in
          ap (λ k. drop k xs) z ∙ sym (ap reverse (take_all n (reverse xs) past) ∙ reverse-reverse xs)
    ]

both_true : (a b : Bool) → (a && b) ≡ true → (a ≡ true) × (b ≡ true)
both_true true b e = (refl, e)
both_true false b e = absurd (cc e)

pub and_false : (a : Bool) → (a && false) ≡ false
and_false true = refl
and_false false = refl

-- Without memory an own turn is the same.

root_own : (r : Root) (l : List Frame) (mem : Memory) → is_of_frame r ≡ true → at_root r (rooted l mem) ≡ at_root r (rooted l no_memory)
root_own (FrameRoot d) l mem e = refl
root_own (ModuleRoot m) l mem e = absurd (cc e)
root_own (ObjectRoot o) l mem e = absurd (cc e)

whole_own : (following : List ℕ) (n : ℕ) (v : Cell) (l : List Frame) (mem : Memory) → is_own_value v ≡ true → whole_at following n v (rooted l mem) ≡ whole_at following n v (rooted l no_memory)
whole_own following n (Num z) l mem e = refl
whole_own following n (Ref o) l mem e = refl
whole_own following n (CallCell p o) l mem e = refl
whole_own following n (Place root cell type) l mem e =
    ap (λ (o : Option (List Cell)). option_and_then (if_all n) (option_map (λ cells. take n (drop cell cells)) o)) (root_own root l mem e)

open_own : (following : List ℕ) (here : ℕ) (x y : Rooted (List Cell)) (at : ℕ) (ls : List Cell) (v w : Option (List Cell)) (j k : ℕ → Option (Handed following)) → v ≡ w → ((a : ℕ) → j a ≡ k a) →
    copied_open following here x at ls v j ≡ copied_open following here y at ls w k
open_own following here x y at ls v w j k e h = ap (λ u. copied_open following here x at ls u j) e ∙ by_value w
  where
    by_value : (u : Option (List Cell)) → copied_open following here x at ls u j ≡ copied_open following here y at ls u k
    by_value None = refl
    by_value (Some vs) = ap (option_map (hand following (Place (FrameRoot here) at 0 ∷ ls) vs)) (h (at + length vs))

handed_own : (following : List ℕ) (here : ℕ) (l : List Frame) (mem : Memory) (ps : List ParamKind) (vs : List Cell) (at : ℕ) → copies_own ps vs ≡ true →
    handed following here (rooted l mem) ps vs at ≡ handed following here (rooted l no_memory) ps vs at
handed_own following here l mem [] vs at e = refl
handed_own following here l mem (p ∷ ps) [] at e = refl
handed_own following here l mem (param.Scalar kind ∷ ps) (v ∷ vs) at e = ap (option_map (hand following (v ∷ []) [])) (handed_own following here l mem ps vs at e)
handed_own following here l mem (param.Whole n ∷ ps) (v ∷ vs) at e =
    let b = both_true (is_own_value v) (copies_own ps vs) e in
    let w = whole_own following n v l mem b.0 in
    let h = handed_own following here l mem ps vs at b.1 in
    λ i. option_and_then (λ cells. option_map (hand following cells []) (h i)) (w i)
handed_own following here l mem (param.Place ∷ ps) (v ∷ vs) at e = ap (option_map (hand following (v ∷ []) [])) (handed_own following here l mem ps vs at e)
handed_own following here l mem (param.Open d false n ∷ ps) (v ∷ vs) at e =
    let h = handed_own following here l mem ps (drop d vs) at e in
    λ i. option_and_then (λ ns. option_map (hand following (v ∷ take d vs) []) (h i)) (lengths_in following (take d vs))
handed_own following here l mem (param.Open d true n ∷ ps) (v ∷ vs) at e =
    let b = both_true (is_own_value v) (copies_own ps (drop d vs)) e in
    let h = λ (a : ℕ). handed_own following here l mem ps (drop d vs) a b.1 in
    λ i. option_and_then
    (λ ns. open_own following here (rooted l mem) (rooted l no_memory) at (take d vs) (whole_at following (cells_of ns n) v (rooted l mem)) (whole_at following (cells_of ns n) v (rooted l no_memory))
    (λ a. handed following here (rooted l mem) ps (drop d vs) a) (λ a. handed following here (rooted l no_memory) ps (drop d vs) a) (whole_own following (cells_of ns n) v l mem b.0) h i)
    (lengths_in following (take d vs))

-- the same turn over another memory
abbrev pub over : Memory → Turned → Turned
over mem t = record { store = mem; frames = t.frames; output = []; begun = t.begun; left = t.left }

module _ (following : List ℕ) (f : Frame) (fs : List Frame) (mem : Memory) where
  if_own : (b : Bool) (at : ℕ) (k : Keeps) (s : Stack) → (if b then goes_on following (behind following at k s f ∷ fs) mem else leaves following (Trapped 16 0) (f ∷ fs) mem)
      ≡ over mem (if b then goes_on following (behind following at k s f ∷ fs) no_memory else leaves following (Trapped 16 0) (f ∷ fs) no_memory)
  if_own true at k s = refl
  if_own false at k s = refl

  read_own : (kind : Kind) (v : Option Cell) (at : ℕ) (k : Keeps) (s : Stack) → reads following kind v (asker at k s f fs mem) ≡ over mem (reads following kind v (asker at k s f fs no_memory))
  read_own kind None at k s = refl
  read_own kind (Some v) at k s = if_own (is_of kind v) at k (v ∷ s)

  write_own : (there : Bool) (r : Root) (c : ℕ) (vs : List Cell) (at : ℕ) (k : Keeps) (s : Stack) → is_of_frame r ≡ true →
      writes following there (record { root = r; cell = c }) vs (asker at k s f fs mem) ≡ over mem (writes following there (record { root = r; cell = c }) vs (asker at k s f fs no_memory))
  write_own true (FrameRoot d) c vs at k s e = refl
  write_own true (ModuleRoot m) c vs at k s e = absurd (cc e)
  write_own true (ObjectRoot o) c vs at k s e = absurd (cc e)
  write_own false r c vs at k s e = refl

  copy_own : (vs : Option (List Cell)) (there : Bool) (r : Root) (c : ℕ) (at : ℕ) (k : Keeps) (s : Stack) → is_of_frame r ≡ true →
      copies following vs there (record { root = r; cell = c }) (asker at k s f fs mem) ≡ over mem (copies following vs there (record { root = r; cell = c }) (asker at k s f fs no_memory))
  copy_own None there r c at k s e = refl
  copy_own (Some vs) there r c at k s e = write_own there r c vs at k s e

  store_text_own : (t : Option (List ℕ)) (r : Root) (c : ℕ) (x y : Rooted (List Cell)) (at : ℕ) (k : Keeps) (s : Stack) → is_of_frame r ≡ true → at_root r x ≡ at_root r y →
      stores_text following t (record { root = r; cell = c }) x (asker at k s f fs mem) ≡ over mem (stores_text following t (record { root = r; cell = c }) y (asker at k s f fs no_memory))
  store_text_own None r c x y at k s e h = refl
  store_text_own (Some cs) r c x y at k s e h =
      ap (λ (o : Option (List Cell)). writes following (is_some (option_and_then (if_all (length cs)) (option_map (λ cells. take (length cs) (drop c cells)) o))) (record { root = r; cell = c }) (character_cells following cs) (asker at k s f fs mem)) h
      ∙ write_own (is_some (cells_at (length cs) (record { root = r; cell = c }) y)) r c (character_cells following cs) at k s e

  put_text_own : (strict : Bool) (t : Option (List ℕ)) (room : Option ℕ) (r : Root) (c : ℕ) (x y : Rooted (List Cell)) (at : ℕ) (k : Keeps) (s : Stack) → is_of_frame r ≡ true → at_root r x ≡ at_root r y →
      puts_text following (fitted_in following strict t room) (record { root = r; cell = c }) x (asker at k s f fs mem) ≡ over mem (puts_text following (fitted_in following strict t room) (record { root = r; cell = c }) y (asker at k s f fs no_memory))
  put_text_own strict None room r c x y at k s e h = refl
  put_text_own strict (Some cs) None r c x y at k s e h = refl
  put_text_own strict (Some cs) (Some room) r c x y at k s e h = store_text_own (fitted following strict room cs) r c x y at k s e h

  compare_own : (o : Relation) (a b : Option (List ℕ)) (at : ℕ) (k : Keeps) (s : Stack) → compares following o a b (asker at k s f fs mem) ≡ over mem (compares following o a b (asker at k s f fs no_memory))
  compare_own o (Some a) (Some b) at k s = refl
  compare_own o (Some a) None at k s = refl
  compare_own o None b at k s = refl

  enter_own : (deep : Bool) (g : Frame) (at : ℕ) (k : Keeps) (s : Stack) → enters following deep g (asker at k s f fs mem) ≡ over mem (enters following deep g (asker at k s f fs no_memory))
  enter_own true g at k s = refl
  enter_own false g at k s = refl

  call_with_own : (p o : ℕ) (shape : ProcShape) (h : Option (Handed following)) (at : ℕ) (k : Keeps) (s : Stack) → calls_with following (option_map (called_frame following p o shape) h) (asker at k s f fs mem) ≡ over mem (calls_with following (option_map (called_frame following p o shape) h) (asker at k s f fs no_memory))
  call_with_own p o shape None at k s = refl
  call_with_own p o shape (Some h) at k s = enter_own (is_deep following (called_frame following p o shape h) (f ∷ fs)) (called_frame following p o shape h) at k s

  call_own : (shape : Option ProcShape) (p : ℕ) (vs : List Cell) (at : ℕ) (k : Keeps) (s : Stack) → calls_own shape vs ≡ true → calls following shape p vs (asker at k s f fs mem) ≡ over mem (calls following shape p vs (asker at k s f fs no_memory))
  call_own None p vs at k s e = refl
  call_own (Some shape) p vs at k s e =
      let o = object_of shape.method vs in
      let ws = arguments_of shape.method vs in
      ap (λ h. calls_with following (option_map (called_frame following p o shape) h) (asker at k s f fs mem)) (handed_own following (suc (length fs)) (f ∷ fs) mem shape.params.items ws (length shape.kinds.items) e)
      ∙ call_with_own p o shape (handed following (suc (length fs)) (rooted (f ∷ fs) no_memory) shape.params.items ws (length shape.kinds.items)) at k s

  text_own : (r : Root) (c : ℕ) (n : Cell) → is_of_frame r ≡ true → text_at following (record { root = r; cell = c }) n (rooted (f ∷ fs) mem) ≡ text_at following (record { root = r; cell = c }) n (rooted (f ∷ fs) no_memory)
  text_own r c n e =
      ap (λ (o : Option (List Cell)). option_and_then (text_in following) (option_and_then (λ m. option_and_then (if_all m) (option_map (λ cells. take m (drop c cells)) o)) (length_in following n))) (root_own r (f ∷ fs) mem e)

  cells_own : (r : Root) (c n : ℕ) → is_of_frame r ≡ true → cells_at n (record { root = r; cell = c }) (rooted (f ∷ fs) mem) ≡ cells_at n (record { root = r; cell = c }) (rooted (f ∷ fs) no_memory)
  cells_own r c n e = ap (λ (o : Option (List Cell)). option_and_then (if_all n) (option_map (λ cells. take n (drop c cells)) o)) (root_own r (f ∷ fs) mem e)

  load_own : (r : Root) (c : ℕ) → is_of_frame r ≡ true → load r c (rooted (f ∷ fs) mem) ≡ load r c (rooted (f ∷ fs) no_memory)
  load_own r c e = ap (λ (o : Option (List Cell)). option_and_then (λ cells. slice_get cells c) o) (root_own r (f ∷ fs) mem e)

  answer_own : (shapes : List ProcShape) (types : List TypeDesc) (q : Question) (at : ℕ) (k : Keeps) (s : Stack) → is_own shapes q ≡ true → answer following shapes types q (asker at k s f fs mem) ≡ over mem (answer following shapes types q (asker at k s f fs no_memory))
  answer_own shapes types (Reads kind a) at k s e =
      ap (λ v. reads following kind v (asker at k s f fs mem)) (load_own a.root a.cell e) ∙ read_own kind (load a.root a.cell (rooted (f ∷ fs) no_memory)) at k s
  answer_own shapes types (Stores a v) at k s e =
      ap (λ o. writes following (is_some o) a (v ∷ []) (asker at k s f fs mem)) (load_own a.root a.cell e) ∙ write_own (is_some (load a.root a.cell (rooted (f ∷ fs) no_memory))) a.root a.cell (v ∷ []) at k s e
  answer_own shapes types (Copies n from to) at k s e =
      let b = both_true (is_of_frame from.root) (is_of_frame to.root) e in
      let x = cells_own from.root from.cell n b.0 in
      let y = cells_own to.root to.cell n b.1 in
      (λ i. copies following (x i) (is_some (y i)) to (asker at k s f fs mem))
      ∙ copy_own (cells_at n from (rooted (f ∷ fs) no_memory)) (is_some (cells_at n to (rooted (f ∷ fs) no_memory))) to.root to.cell at k s b.1
  answer_own shapes types (PutsText strict from n to room) at k s e =
      let b = both_true (is_of_frame from.root) (is_of_frame to.root) e in
      ap (λ t. puts_text following (fitted_in following strict t (length_in following room)) to (rooted (f ∷ fs) mem) (asker at k s f fs mem)) (text_own from.root from.cell n b.0)
      ∙ put_text_own strict (text_at following from n (rooted (f ∷ fs) no_memory)) (length_in following room) to.root to.cell (rooted (f ∷ fs) mem) (rooted (f ∷ fs) no_memory) at k s b.1 (root_own to.root (f ∷ fs) mem b.1)
  answer_own shapes types (ComparesTexts o a n c m) at k s e =
      let b = both_true (is_of_frame a.root) (is_of_frame c.root) e in
      let x = text_own a.root a.cell n b.0 in
      let y = text_own c.root c.cell m b.1 in
      (λ i. compares following o (x i) (y i) (asker at k s f fs mem)) ∙ compare_own o (text_at following a n (rooted (f ∷ fs) no_memory)) (text_at following c m (rooted (f ∷ fs) no_memory)) at k s
  answer_own shapes types (Calls how p vs) at k s e = call_own (numbered shapes p) p vs at k s e
  answer_own shapes types (Ends result) at k s e = refl
  answer_own shapes types (Makes t vs) at k s e = absurd (cc e)
  answer_own shapes types (Starts v) at k s e = absurd (cc e)
  answer_own shapes types Enters at k s e = absurd (cc e)
  answer_own shapes types Leaves at k s e = absurd (cc e)
  answer_own shapes types (Awaits n) at k s e = absurd (cc e)
  answer_own shapes types (PutsInt v n) at k s e = absurd (cc e)
  answer_own shapes types (PutsChar v) at k s e = absurd (cc e)
  answer_own shapes types (PutsString a n) at k s e = absurd (cc e)
  answer_own shapes types PutsNothing at k s e = absurd (cc e)
  answer_own shapes types PutsLn at k s e = absurd (cc e)
  answer_own shapes types (Places a) at k s e = absurd (cc e)
  answer_own shapes types (Lengths a) at k s e = absurd (cc e)
  answer_own shapes types (Opens v) at k s e = absurd (cc e)
  answer_own shapes types (Sizes v d) at k s e = absurd (cc e)
  answer_own shapes types (Tests v t) at k s e = absurd (cc e)

  -- and finds what it needs wherever it does so
  finds_own : (shapes : List ProcShape) (types : List TypeDesc) (q : Question) → is_own shapes q ≡ true → finds types q f mem ≡ finds types q f no_memory
  finds_own shapes types (Ends result) e = refl
  finds_own shapes types (Starts v) e = absurd (cc e)
  finds_own shapes types q e = refl

  works_own : (shapes : List ProcShape) (types : List TypeDesc) (found : Bool) (q : Question) (at : ℕ) (k : Keeps) (s : Stack) → is_own shapes q ≡ true → works following shapes types found q (asker at k s f fs mem) ≡ over mem (works following shapes types found q (asker at k s f fs no_memory))
  works_own shapes types true q at k s e = answer_own shapes types q at k s e
  works_own shapes types false q at k s e = refl

  goes_own : (shapes : List ProcShape) (types : List TypeDesc) (stop : Stop) → is_own_stop shapes stop ≡ true → goes following shapes types stop f fs mem ≡ over mem (goes following shapes types stop f fs no_memory)
  goes_own shapes types (Work q at k s) e =
      ap (λ b. works following shapes types b q (asker at k s f fs mem)) (finds_own shapes types q e) ∙ works_own shapes types (finds types q f no_memory) q at k s e
  goes_own shapes types (Ended (Begins at p s) k) e = refl
  goes_own shapes types (Ended (Fails n c) k) e = absurd (cc e)
  goes_own shapes types (Ended (Decides a) k) e = absurd (cc e)

-- Where no object was made nothing is known.

pub none_here : {A : Type 0} (n : ℕ) → slice_get {X = A} [] n ≡ None
none_here zero = refl
none_here (suc n) = refl

pub no_number : {A : Type 0} (o : ℕ) → by_number {X = A} o [] ≡ None
no_number zero = refl
no_number (suc o) = none_here o

pub nothing_made : (all : ℕ → Option MadeAs) → Knows all (made_by [])
nothing_made all o m e = (let z : None ≡ Some m = sym (no_number o) ∙ e in absurd (cc z))

-- what needs nothing but the frames isn't lost
own_found : (shapes : List ProcShape) (stop : Stop) → is_own_stop shapes stop ≡ true → IsFound stop
own_found shapes (Work q at k s) e l f = cc f
own_found shapes (Ended (Begins at p s) k) e l f = cc f
own_found shapes (Ended (Fails n c) k) e l f = cc e
own_found shapes (Ended (Decides a) k) e l f = cc e

-- so it ends where it does, whatever objects were made as
own_stop : (image : Image) (all : ℕ → Option MadeAs) (f : Frame) (fs : List Frame) → is_own_top image (f ∷ fs) ≡ true → stop_of image all f fs ≡ stop_of image (made_by []) f fs
own_stop image all f fs e =
    silent_more image.shapes.items image.types.items (made_by []) all (nothing_made all) f.cells f.procedure (here_of f fs) (code_of image f.procedure) f.next f.keeps f.stack (own_found image.shapes.items (stop_of image (made_by []) f fs) e)

turn_at_own : (image : Image) (ps : List ℕ) (l : List Frame) (mem : Memory) → is_own_top image l ≡ true → turn_at image ps l mem ≡ over mem (turn_at image ps l no_memory)
turn_at_own image ps [] mem e = absurd (cc e)
turn_at_own image ps (f ∷ fs) mem e =
    ap (λ x. goes ps image.shapes.items image.types.items x f fs mem) (own_stop image (made_in image mem) f fs e) ∙ goes_own ps f fs mem image.shapes.items image.types.items (stop_of image (made_by []) f fs) e

pub own_turn : (image : Image) (fs : Frames) (mem : Memory) → is_own_turn image fs ≡ true → turn image mem fs ≡ over mem (turn image no_memory fs)
own_turn image fs mem e = turn_at_own image (opened fs).following (opened fs).frames mem e

-- frames that are alike to such ones, where so much is known
module _ (image : Image) (made : List MadeAs) where
  turn_at_alone : (ps ps' : List ℕ) (l l' : List Frame) (mem : Memory) → Knows (made_in image mem) (made_by made) → ((all : ℕ → Option MadeAs) → Knows all (made_by made) → seen_all image all ps l ≡ seen_all image all ps' l') → is_own_top image l' ≡ true →
      turn_at image ps l mem ≡ over mem (turn_at image ps l (only_made made))
  turn_at_alone ps ps' l [] mem knows h e = absurd (cc e)
  turn_at_alone ps ps' [] (g ∷ gs) mem knows h e = absurd (none_other (seen image (made_by made) g gs) (ap (λ (x : SeenFrames). x.top) (h (made_by made) (itself (made_by made)))))
  turn_at_alone ps ps' (f ∷ fs) (g ∷ gs) mem knows h e =
      let stop = stop_of image (made_by []) g gs in
      let stops : (all : ℕ → Option MadeAs) → Knows all (made_by made) → stop_of image all f fs ≡ stop =
      λ all k. ap (λ (x : Seen). x.stop) (some_same (seen image all f fs) (seen image all g gs) (ap (λ (x : SeenFrames). x.top) (h all k))) ∙ own_stop image all g gs e in
      let now : turn_at image ps (f ∷ fs) mem ≡ over mem (goes ps image.shapes.items image.types.items stop f fs no_memory) =
      ap (λ x. goes ps image.shapes.items image.types.items x f fs mem) (stops (made_in image mem) knows) ∙ goes_own ps f fs mem image.shapes.items image.types.items stop e in
      let known : turn_at image ps (f ∷ fs) (only_made made) ≡ over (only_made made) (goes ps image.shapes.items image.types.items stop f fs no_memory) =
      ap (λ x. goes ps image.shapes.items image.types.items x f fs (only_made made)) (stops (made_by made) (itself (made_by made))) ∙ goes_own ps f fs (only_made made) image.shapes.items image.types.items stop e in
      now ∙ ap (over mem) (sym known)

  turn_alone : (fs gs : Frames) (mem : Memory) → Knows (made_in image mem) (made_by made) → Alike image (made_by made) fs gs → is_own_turn image gs ≡ true → turn image mem fs ≡ over mem (alone image made fs)
  turn_alone fs gs mem knows h e = turn_at_alone (opened fs).following (opened gs).following (opened fs).frames (opened gs).frames mem knows h e

  -- they make a turn as those do
  pub own_turned : (fs gs : Frames) → Alike image (made_by made) fs gs → is_own_turn image gs ≡ true → (alone image [] gs).left ≡ Went →
      IsPrivate image made fs × Alike image (made_by made) (alone image made fs).frames (alone image [] gs).frames × ((alone image made fs).begun ≡ (alone image [] gs).begun)
  own_turned fs gs h e went =
      let similar = turn_alike image (only_made made) fs gs h in
      let own = own_turn image gs (only_made made) e in
      let left : (alone image made fs).left ≡ Went = similar.left ∙ ap (λ (t : Turned). t.left) own ∙ went in (
        λ mem knows.
            turn_alone fs gs mem knows h e ∙ (λ i. (let x : Turned = record { store = mem; frames = (alone image made fs).frames; output = []; begun = (alone image made fs).begun; left = left i } in x)),
        λ all knows. similar.alike all (subst (λ (t : Turned). Knows all (after_turn image t)) (sym own) knows) ∙ ap (λ (t : Turned). seen_frames image all (opened t.frames)) own,
        similar.begun ∙ ap (λ (t : Turned). t.begun) own,
      )

own_top_alike : (image : Image) (ps ps' : List ℕ) (fs gs : List Frame) → seen_all image (made_by []) ps fs ≡ seen_all image (made_by []) ps' gs → is_own_top image fs ≡ is_own_top image gs
own_top_alike image ps ps' [] [] h = refl
own_top_alike image ps ps' [] (g ∷ gs) h = absurd (none_other (seen image (made_by []) g gs) (ap (λ (x : SeenFrames). x.top) h))
own_top_alike image ps ps' (f ∷ fs) [] h = absurd (none_other (seen image (made_by []) f fs) (sym (ap (λ (x : SeenFrames). x.top) h)))
own_top_alike image ps ps' (f ∷ fs) (g ∷ gs) h =
    ap (λ (x : Seen). is_own_stop image.shapes.items x.stop) (some_same (seen image (made_by []) f fs) (seen image (made_by []) g gs) (ap (λ (x : SeenFrames). x.top) h))

pub own_alike : (image : Image) (fs gs : Frames) → Alike image (made_by []) fs gs → is_own_turn image fs ≡ is_own_turn image gs
own_alike image fs gs h = own_top_alike image (opened fs).following (opened gs).following (opened fs).frames (opened gs).frames (h (made_by []) (itself (made_by [])))

-- the store stays without memory
pub own_store : (image : Image) (fs : Frames) → is_own_turn image fs ≡ true → (turn image no_memory fs).store ≡ no_memory
own_store image fs e = ap (λ (t : Turned). t.store) (own_turn image fs no_memory e)

-- What a turn without memory has made.

gone : (did : Did) → (did ≡ Went → ⊥) → has_gone did ≡ false
gone Went h = absurd (h refl)
gone NoFrame h = refl
gone (Enter l) h = refl
gone (Leave l) h = refl
gone (Await l c) h = refl
gone (Start o) h = refl
gone (Trapped n c) h = refl

left_to_kernel : (did : Did) (P : Type 0) → (did ≡ Went → ⊥) → WhereLeft did P → P
left_to_kernel Went P h p = absurd (h refl)
left_to_kernel NoFrame P h p = p
left_to_kernel (Enter l) P h p = p
left_to_kernel (Leave l) P h p = p
left_to_kernel (Await l c) P h p = p
left_to_kernel (Start o) P h p = p
left_to_kernel (Trapped n c) P h p = p

shown_alone : (image : Image) (did : Did) (old new : KeptFrames) (mem mem' : Memory) (before after : List ℕ) → mem ≡ no_memory → IsTurned image did old new mem mem' before after →
    (fs : Frames) → Alike image (made_by []) fs (frames_in old) → Shown image (turn image no_memory fs) did old new mem' before after
shown_alone image did old new mem mem' before after e turned fs h =
    subst (λ (m : Memory). Shown image (turn image m fs) did old new mem' before after) e (turned fs (subst (λ (m : Memory). Alike image (made_in image m) fs (frames_in old)) (sym e) h))

pub still_none : (image : Image) (did : Did) (old new : KeptFrames) (mem mem' : Memory) (before after : List ℕ) → is_own_turn image (frames_in old) ≡ true → mem ≡ no_memory →
    IsTurned image did old new mem mem' before after → mem' ≡ no_memory
still_none image did old new mem mem' before after own e turned =
    sym (shown_alone image did old new mem mem' before after e turned (frames_in old) (λ all knows. refl)).store ∙ own_store image (frames_in old) own

pub private_turned : (image : Image) (did : Did) (old new : KeptFrames) (turns : ℕ) (mem mem' : Memory) (before after : List ℕ) (made : List MadeAs) (fs : Frames) → is_own_turn image (frames_in old) ≡ true → mem ≡ no_memory →
    IsTurned image did old new mem mem' before after → did ≡ Went → new.turns ≡ old.turns → turns ≡ (new.turns + 1) % 2 ^ 64 → Alike image (made_by made) fs (frames_in old) → HasTurned image made fs old (record new { turns = turns })
private_turned image did old new turns mem mem' before after made fs own e turned went same more h =
    let m = shown_alone image did old new mem mem' before after e turned (frames_in old) (λ all knows. refl) in
    let none = still_none image did old new mem mem' before after own e turned in
    let t = own_turned image made fs (frames_in old) h own (m.left ∙ went) in
    record {
      private = t.0;
      alike = λ all knows. t.1 all knows ∙ m.alike all (subst (λ (x : Memory). Knows all (made_in image x)) (sym none) (nothing_made all));
      begun = m.begun ∙ ap (λ b. counted b old.begun) (sym t.2);
      turns = more ∙ ap (λ n. (n + 1) % 2 ^ 64) same;
    }

pub held : (image : Image) (did : Did) (old new : KeptFrames) (mem mem' : Memory) (before after : List ℕ) → (did ≡ Went → ⊥) → mem ≡ no_memory →
    IsTurned image did old new mem mem' before after → WhereLeft did (Rests image old new mem mem' before after) → new.turns ≡ old.turns → Holds image old new
held image did old new mem mem' before after other e turned left same =
    let rests = left_to_kernel did (Rests image old new mem mem' before after) other left in
    let alike = subst (λ (m : Memory). Alike image (made_in image m) (frames_in old) (frames_in new)) e rests.alike in
    let m = shown_alone image did old new mem mem' before after e turned (frames_in new) (alike_back image (made_by []) (frames_in old) (frames_in new) alike) in
    record {
      alike = alike;
      counts = (rests.begun, same);
      shared = ap (λ b. is_own_turn image (frames_in new) && b) (ap has_gone m.left ∙ gone did other) ∙ and_false (is_own_turn image (frames_in new));
    }

-- silent work before it
pub tried_behind : (image : Image) (is : Bool) (old mid new : KeptFrames) → Alike image (made_by []) (frames_in old) (frames_in mid) → SameCounts old mid → HasTried image is mid new → HasTried image is old new
tried_behind image true old mid new alike same tried =
    λ made fs h.
    let t = tried made fs (λ all knows. h all knows ∙ alike all (nothing_made all)) in
    record { private = t.private; alike = t.alike; begun = t.begun ∙ ap (counted (alone image made fs).begun) same.0; turns = t.turns ∙ ap (λ n. (n + 1) % 2 ^ 64) same.1 }
tried_behind image false old mid new alike same holds =
    record { alike = λ all knows. alike all knows ∙ holds.alike all knows; counts = (holds.counts.0 ∙ same.0, holds.counts.1 ∙ same.1); shared = holds.shared }

-- Private turns one after the other.

-- as many turns as the frames tell of
abbrev pub AllTold : Image → (budget : ℕ) → (old new : KeptFrames) → Type 0
AllTold image budget old new = IsMadePrivately image budget (turns_since old new) old new

pub told : (old new made : ℕ) → old < 2 ^ 64 → made < 2 ^ 64 → new ≡ (old + made) % 2 ^ 64 → (new + (2 ^ 64 - old)) % 2 ^ 64 ≡ made
told old new made lt small e = omega arith

one_more : (old mid new made : ℕ) → mid ≡ (old + made) % 2 ^ 64 → new ≡ (mid + 1) % 2 ^ 64 → new ≡ (old + suc made) % 2 ^ 64
one_more old mid new made e f = omega arith

none_told : (n : ℕ) → n < 2 ^ 64 → (n + (2 ^ 64 - n)) % 2 ^ 64 ≡ 0
none_told n lt = told n n 0 lt (omega arith) (omega arith)

pub none_made : (image : Image) (budget : ℕ) (old : KeptFrames) → old.turns < 2 ^ 64 → AllTold image budget old old × (0 ≡ turns_since old old)
none_made image budget old lt =
    let z = none_told old.turns lt in (
      subst (λ n. IsMadePrivately image budget n old old) (sym z)
          (λ made fs h. record { private = λ i small. absurd (omega arith); below = λ i small. absurd (omega arith); alike = h; begun = refl; turns = omega arith }),
      sym z,
    )

pub at_or_below : (P : ℕ → Type 0) (many : ℕ) → ((i : ℕ) → i < many → P i) → P many → (i : ℕ) → i < suc many → P i
at_or_below P many below here i lt =
    elim (leb_tells many i) [
      | inl e ↦ (let same : many ≡ i = (let at : many ≤ i = e.1 in omega arith) in subst P same here)
      | inr e ↦ below i e.1
    ]

one_made : (image : Image) (budget many : ℕ) (old mid new : KeptFrames) → IsMadePrivately image budget many old mid → mid.begun < budget →
    ((made : List MadeAs) (fs : Frames) → Alike image (made_by made) fs (frames_in mid) → HasTurned image made fs mid new) → IsMadePrivately image budget (suc many) old new
one_made image budget many old mid new before below turned made fs h =
    let p = before made fs h in
    let now = after_turns image made many fs in
    let t = turned made now p.alike in
    record {
      private = at_or_below (λ i. IsPrivate image made (after_turns image made i fs)) many p.private t.private;
      below = at_or_below (λ i. begun_after image made i fs old.begun < budget) many p.below (subst (λ n. n < budget) p.begun below);
      alike = t.alike;
      begun = t.begun ∙ ap (counted (alone image made now).begun) p.begun;
      turns = one_more old.turns mid.turns new.turns many p.turns t.turns;
    }

-- a turn more
pub made_more : (image : Image) (budget made : ℕ) (old mid new : KeptFrames) → old.turns < 2 ^ 64 → made + 1 < 2 ^ 64 → AllTold image budget old mid → made ≡ turns_since old mid → mid.begun < budget →
    HasTried image true mid new → AllTold image budget old new × (made + 1 ≡ turns_since old new)
made_more image budget made old mid new lt small before e below tried =
    let all = one_made image budget made old mid new (subst (λ n. IsMadePrivately image budget n old mid) (sym e) before) below tried in
    let z : turns_since old new ≡ suc made = told old.turns new.turns (suc made) lt (omega arith) (all [] (frames_in old) (λ a knows. refl)).turns in
    (subst (λ n. IsMadePrivately image budget n old new) (sym z) all, omega (arith, z))

-- silent work behind them
pub made_still : (image : Image) (budget : ℕ) (old mid new : KeptFrames) → AllTold image budget old mid → Alike image (made_by []) (frames_in mid) (frames_in new) → SameCounts mid new →
    AllTold image budget old new × (turns_since old mid ≡ turns_since old new)
made_still image budget old mid new before alike same =
    let z : turns_since old mid ≡ turns_since old new = ap (λ t. (t + (2 ^ 64 - old.turns)) % 2 ^ 64) (sym same.1) in (
      subst (λ n. IsMadePrivately image budget n old new) z
          (λ made fs h. (let p = before made fs h in record { private = p.private; below = p.below; alike = λ all knows. p.alike all knows ∙ alike all (nothing_made all); begun = same.0 ∙ p.begun; turns = same.1 ∙ p.turns })),
      z,
    )

pub empty_store : (s : Store) → s.modules.items ≡ [] → s.objects ≡ [] → memory_in s ≡ no_memory
empty_store s e f = λ i. (let x : Memory = record { modules = map (λ v. v.items) (e i); objects = map object_cells (f i); made = map made_as (f i) } in x)

-- The first of many turns comes before the others.

pub first_turn : (image : Image) (made : List MadeAs) (n : ℕ) (fs : Frames) → after_turns image made (suc n) fs ≡ after_turns image made n (alone image made fs).frames
first_turn image made zero fs = refl
first_turn image made (suc n) fs = ap (λ (x : Frames). (alone image made x).frames) (first_turn image made n fs)

pub first_begun : (image : Image) (made : List MadeAs) (n : ℕ) (fs : Frames) (begun : ℕ) → begun_after image made (suc n) fs begun ≡ begun_after image made n (alone image made fs).frames (counted (alone image made fs).begun begun)
first_begun image made zero fs begun = refl
first_begun image made (suc n) fs begun = λ i. counted (alone image made (first_turn image made n fs i)).begun (first_begun image made n fs begun i)
