-- Frames have the cells that their procedures name, behind each turn too.
use Rattle.std.proofs.Common.{◌≡◌, ◌≤◌, ℕ, ℤ, zero, suc, ◌+◌, List, [], ◌∷◌, ◌++◌, length, map, take, drop, Bool, true, false, nat_eq, Option, Some, None, option_map, option_and_then, is_some, slice_get, if◌then◌else◌, refl, ap, arith, length-append}
use Rattle.std.specs.List.{flat_map}
use Rattle.std.proofs.lemmas.List.{length-map, length-drop, length-take}
use Rattle.aos_base.specs.declared.root.Root.{Root}
use Rattle.aos_base.specs.declared.root.Root.TheVariants.{Frame as FrameRoot, Module as ModuleRoot, Object as ObjectRoot}
use Rattle.aos_base.specs.declared.number.Relation.{Relation}
use Rattle.aos_base.specs.declared.kernel.Did.TheVariants.{Trapped}
use Rattle.aos_base.specs.Question.{Reads, Stores, Copies, PutsText, ComparesTexts, Calls, Ends, Makes, Starts, Enters, Leaves, Awaits, PutsInt, PutsChar, PutsString, PutsNothing, PutsLn, Places, Lengths, Opens, Sizes, Tests}
use Rattle.aos_base.specs.Number.{array_lengths}
use Rattle.aos_base.specs.Rooted.{Made, Rooted, change_from_last, load, spliced}
use Rattle.aos_code.specs.declared.instr.Cell.{Cell}
use Rattle.aos_code.specs.declared.instr.Cell.TheVariants.{Ref}
use Rattle.aos_code.specs.declared.instr.Kind.{Kind}
use Rattle.aos_code.specs.declared.image.ProcShape.{ProcShape}
use Rattle.aos_code.specs.declared.image.ModuleDesc.{ModuleDesc}
use Rattle.aos_code.specs.declared.image.TypeDesc.{TypeDesc}
use Rattle.aos_code.specs.declared.image.Image.{Image}
use Rattle.aos_code.specs.Numbered.{numbered}
use Rattle.aos_code.specs.Memory.{Addr, Memory, has_room, type_of_object}
use Rattle.aos_code.specs.Silent.{Stack, Keeps, Question, Begins, Fails, Decides, Stop, Work, Ended, is_of}
use Rattle.aos_code.specs.Machine as machine
use Rattle.aos_code.specs.Machine.{Frame, Frames, Turned, Handed, first_cell, made_in, rooted, called_frame, frames_with, behind, body_frame, bodies, stop_of, opened, opened_by, turn, turn_at, past, past_stop, body_of, object_frames, first_frames}
use Rattle.aos_sound.specs.Sound.{frame_cells}
use Rattle.aos_sound.specs.FitFrames.{cells_named, IsLaidOut, AllHaveCells, AllNameNone, HaveCells}

-- cells that are written are no fewer
spliced_longer : (at : ℕ) (new xs : List Cell) → length xs ≤ length (spliced at new xs)
spliced_longer at new xs =
    let a = length-append (take at xs) (new ++ drop (at + length new) xs) in
    let b = length-append new (drop (at + length new) xs) in
    let c = length-drop (at + length new) xs in
    let d = length-take at xs in
    omega (arith, a, b, c, d)

-- a frame of a called procedure has a cell of each kind
called_longer : (following : List ℕ) (p o : ℕ) (shape : ProcShape) (h : Handed following) → length shape.kinds.items ≤ length (called_frame following p o shape h).cells
called_longer following p o shape h =
    let ks = shape.kinds.items in
    let a = length-append h.cells (map first_cell (drop (length h.cells) ks) ++ h.copies) in
    let b = length-append (map first_cell (drop (length h.cells) ks)) h.copies in
    let c = length-map (drop (length h.cells) ks) first_cell in
    let d = length-drop (length h.cells) ks in
    omega (arith, a, b, c, d)

module _ (image : Image) (laid : IsLaidOut image) where
  changed_have : (d at : ℕ) (new : List Cell) (fs : List Frame) → AllHaveCells image fs → AllHaveCells image (change_from_last d (λ f. record f { cells = spliced at new f.cells }) fs)
  changed_have d at new [] h = tt
  changed_have d at new (f ∷ fs) h = by (changed_have d at new fs h.1) (nat_eq d (length fs))
    where
      by : AllHaveCells image (change_from_last d (λ f. record f { cells = spliced at new f.cells }) fs) → (b : Bool) → AllHaveCells image (if b then record f { cells = spliced at new f.cells } ∷ fs else f ∷ change_from_last d (λ f. record f { cells = spliced at new f.cells }) fs)
      by below true = (let l = spliced_longer at new f.cells in let g = h.0 in omega (arith, l, g), h.1)
      by below false = (h.0, below)

  written_have : (root : Root) (at : ℕ) (new : List Cell) (fs : List Frame) → AllHaveCells image fs → AllHaveCells image (frames_with root (spliced at new) fs)
  written_have (FrameRoot d) at new fs h = changed_have d at new fs h
  written_have (ModuleRoot m) at new fs h = h
  written_have (ObjectRoot o) at new fs h = h

  module _ (following : List ℕ) (none : AllNameNone image following) (f : Frame) (fs : List Frame) (have : AllHaveCells image (f ∷ fs)) where
    abbrev Have : Turned → Type 0
    Have t = HaveCells image t.frames

    module _ (at : ℕ) (k : Keeps) (s : Stack) (mem : Memory) where
      writes_have : (b : Bool) (a : Addr) (vs : List Cell) → Have (machine.writes following b a vs (machine.asker at k s f fs mem))
      writes_have true a vs = (written_have a.root a.cell vs (behind following at k s f ∷ fs) have, none)
      writes_have false a vs = (have, none)

      if_have : (b : Bool) (t u : Turned) → Have t → Have u → Have (if b then t else u)
      if_have true t u h g = h
      if_have false t u h g = g

      reads_have : (kind : Kind) (o : Option Cell) → Have (machine.reads following kind o (machine.asker at k s f fs mem))
      reads_have kind None = (have, none)
      reads_have kind (Some v) = if_have (is_of kind v) (machine.goes_on following (behind following at k (v ∷ s) f ∷ fs) mem) (machine.leaves following (Trapped 16 0) (f ∷ fs) mem) (have, none) (have, none)

      copies_have : (o : Option (List Cell)) (b : Bool) (to : Addr) → Have (machine.copies following o b to (machine.asker at k s f fs mem))
      copies_have None b to = (have, none)
      copies_have (Some vs) b to = writes_have b to vs

      prints_have : (o : Option (List ℕ)) → Have (machine.prints following o (machine.asker at k s f fs mem))
      prints_have None = (have, none)
      prints_have (Some bytes) = (have, none)

      writes_out_have : (o : Option (List ℕ)) → Have (machine.writes_out following o (machine.asker at k s f fs mem))
      writes_out_have None = (have, none)
      writes_out_have (Some bytes) = (have, none)

      makes_have : (b : Bool) (m : Made) (cells : List Cell) → Have (machine.makes following b m cells (machine.asker at k s f fs mem))
      makes_have true m cells = (have, none)
      makes_have false m cells = (have, none)

      makes_with_have : (ns : Option (List ℕ)) (t : ℕ) (d : TypeDesc) → Have (machine.makes_with following ns t d (machine.asker at k s f fs mem))
      makes_with_have None t d = (have, none)
      makes_with_have (Some ns) t d =
          let m : Made = record { type = t; lengths = ns } in
          let cells = machine.in_rows following ns (map first_cell d.kinds.items) in makes_have (has_room m cells mem) m cells

      makes_of_have : (d : Option TypeDesc) (zs : Option (List ℤ)) (t : ℕ) → Have (machine.makes_of following d zs t (machine.asker at k s f fs mem))
      makes_of_have None zs t = (have, none)
      makes_of_have (Some d) None t = (have, none)
      makes_of_have (Some d) (Some zs) t = makes_with_have (array_lengths zs) t d

      starts_have : (v : Cell) → Have (machine.starts following v (machine.asker at k s f fs mem))
      starts_have (Ref (suc o)) = (have, none)
      starts_have v = (have, none)

      stores_text_have : (o : Option (List ℕ)) (to : Addr) (x : Rooted (List Cell)) → Have (machine.stores_text following o to x (machine.asker at k s f fs mem))
      stores_text_have None to x = (have, none)
      stores_text_have (Some cs) to x = writes_have (is_some (machine.cells_at (length cs) to x)) to (machine.character_cells following cs)

      puts_text_have : (strict : Bool) (o : Option (List ℕ)) (n : Option ℕ) (to : Addr) (x : Rooted (List Cell)) → Have (machine.puts_text following (machine.fitted_in following strict o n) to x (machine.asker at k s f fs mem))
      puts_text_have strict None n to x = (have, none)
      puts_text_have strict (Some cs) None to x = (have, none)
      puts_text_have strict (Some cs) (Some n) to x = stores_text_have (machine.fitted following strict n cs) to x

      compares_have : (r : Relation) (o p : Option (List ℕ)) → Have (machine.compares following r o p (machine.asker at k s f fs mem))
      compares_have r (Some a) (Some b) = (have, none)
      compares_have r (Some a) None = (have, none)
      compares_have r None p = (have, none)

      enters_have : (b : Bool) (p o : ℕ) (shape : ProcShape) (h : Handed following) → numbered image.shapes.items p ≡ Some shape → Have (machine.enters following b (called_frame following p o shape h) (machine.asker at k s f fs mem))
      enters_have true p o shape h e = (have, none)
      enters_have false p o shape h e =
          let a = laid.kinds p shape e in
          let b = called_longer following p o shape h in
          let c : cells_named image p ≡ shape.cells = ap frame_cells e in
          ((omega (arith, a, b, c), have), none)

      calls_with_have : (p o : ℕ) (shape : ProcShape) (h : Option (Handed following)) → numbered image.shapes.items p ≡ Some shape → Have (machine.calls_with following (option_map (machine.called_frame following p o shape) h) (machine.asker at k s f fs mem))
      calls_with_have p o shape None e = (have, none)
      calls_with_have p o shape (Some h) e = enters_have (machine.is_deep following (called_frame following p o shape h) (f ∷ fs)) p o shape h e

      calls_have : (o : Option ProcShape) (p : ℕ) (vs : List Cell) → numbered image.shapes.items p ≡ o → Have (machine.calls following o p vs (machine.asker at k s f fs mem))
      calls_have None p vs e = (have, none)
      calls_have (Some shape) p vs e = calls_with_have p (machine.object_of shape.method vs) shape (machine.handed following (suc (length fs)) (rooted (f ∷ fs) mem) shape.params.items (machine.arguments_of shape.method vs) (length shape.kinds.items)) e

      ends_have : (result : Option Cell) (gs : List Frame) → AllHaveCells image gs → AllHaveCells image (machine.with_result following result gs)
      ends_have None gs h = h
      ends_have (Some v) [] h = tt
      ends_have (Some v) (g ∷ gs) h = h

      answer_has : (q : Question) → Have (machine.answer following image.shapes.items image.types.items q (machine.asker at k s f fs mem))
      answer_has (Reads kind a) = reads_have kind (load a.root a.cell (rooted (f ∷ fs) mem))
      answer_has (Stores a v) = writes_have (is_some (load a.root a.cell (rooted (f ∷ fs) mem))) a (v ∷ [])
      answer_has (Copies n from to) = copies_have (machine.cells_at n from (rooted (f ∷ fs) mem)) (is_some (machine.cells_at n to (rooted (f ∷ fs) mem))) to
      answer_has (PutsText strict from n to size) = puts_text_have strict (machine.text_at following from n (rooted (f ∷ fs) mem)) (machine.length_in following size) to (rooted (f ∷ fs) mem)
      answer_has (ComparesTexts r a n b m) = compares_have r (machine.text_at following a n (rooted (f ∷ fs) mem)) (machine.text_at following b m (rooted (f ∷ fs) mem))
      answer_has (Calls how p vs) = calls_have (numbered image.shapes.items p) p vs refl
      answer_has (Ends result) = (ends_have result fs have.1, none)
      answer_has (Makes t vs) = makes_of_have (numbered image.types.items t) (machine.numbers_in following vs) t
      answer_has (Starts v) = starts_have v
      answer_has Enters = (have, none)
      answer_has Leaves = (have, none)
      answer_has (Awaits c) = (have, none)
      answer_has (PutsInt v n) = prints_have (machine.written v n)
      answer_has (PutsChar v) = writes_out_have (option_map (λ c. c ∷ []) (machine.code_in following v))
      answer_has (PutsString a n) = writes_out_have (machine.text_at following a n (rooted (f ∷ fs) mem))
      answer_has PutsNothing = (have, none)
      answer_has PutsLn = (have, none)
      answer_has (Places a) = (have, none)
      answer_has (Lengths a) = (have, none)
      answer_has (Opens v) = (have, none)
      answer_has (Sizes v d) = (have, none)
      answer_has (Tests v t) = (have, none)

      works_have : (found : Bool) (q : Question) → Have (machine.works following image.shapes.items image.types.items found q (machine.asker at k s f fs mem))
      works_have true q = answer_has q
      works_have false q = (have, none)

    goes_has : (mem : Memory) (stop : Stop) → Have (machine.goes following image.shapes.items image.types.items stop f fs mem)
    goes_has mem (Work q at k s) = works_have at k s mem (machine.finds image.types.items q f mem) q
    goes_has mem (Ended (Begins at p s) k) = (have, none)
    goes_has mem (Ended (Fails n c) k) = (have, none)
    goes_has mem (Ended (Decides a) k) = (have, none)

  opened_has : (fs : List Frame) (following : List ℕ) → AllHaveCells image fs → AllNameNone image following → HaveCells image (opened_by fs following)
  opened_has [] [] h none = (tt, tt)
  opened_has [] (p ∷ ps) h none = ((let e = none.0 in omega (arith, e), tt), none.1)
  opened_has (f ∷ fs) ps h none = (h, none)

  turned_has : (fs : List Frame) (following : List ℕ) (mem : Memory) → AllHaveCells image fs → AllNameNone image following → HaveCells image (turn_at image following fs mem).frames
  turned_has [] following mem h none = (tt, none)
  turned_has (f ∷ fs) following mem h none = goes_has following none f fs h mem (stop_of image (made_in image mem) f fs)

  pub turn_has : (mem : Memory) (fs : Frames) → HaveCells image fs → HaveCells image (turn image mem fs).frames
  turn_has mem fs h = let o = opened_has fs.frames fs.following h.0 h.1 in turned_has (opened fs).frames (opened fs).following mem o.0 o.1

  pub past_has : (fs : Frames) → HaveCells image fs → HaveCells image (past image fs)
  past_has fs h = let o = opened_has fs.frames fs.following h.0 h.1 in (by (opened fs).frames o.0, o.1)
    where
      stopped : (stop : Stop) (f : Frame) (fs : List Frame) → AllHaveCells image (f ∷ fs) → AllHaveCells image (past_stop stop f ∷ fs)
      stopped (Work q at k s) f fs h = h
      stopped (Ended end k) f fs h = h

      by : (fs : List Frame) → AllHaveCells image fs → AllHaveCells image (machine.past_all image fs)
      by [] h = tt
      by (f ∷ fs) h = stopped (stop_of image (λ o. None) f fs) f fs h

  pub body_has : (mem : Memory) (o : ℕ) → HaveCells image (body_of image mem o)
  body_has mem o = of (option_and_then (numbered image.types.items) (type_of_object o mem)) (by (type_of_object o mem))
    where
      by : (k : Option ℕ) (d : TypeDesc) → option_and_then (numbered image.types.items) k ≡ Some d → cells_named image d.body ≡ 0
      by None d e = absurd (cc e)
      by (Some k) d e = laid.types k d e

      begin : (p : ℕ) → cells_named image p ≡ 0 → AllHaveCells image (map (body_frame o) (bodies p))
      begin zero h = tt
      begin (suc p) h = (omega (arith, h), tt)

      of : (t : Option TypeDesc) → ((d : TypeDesc) → t ≡ Some d → cells_named image d.body ≡ 0) → HaveCells image (object_frames o t)
      of None h = (tt, tt)
      of (Some t) h = (begin t.body (h t refl), tt)

  modules_name : (ms : List ModuleDesc) → ((k : ℕ) (m : ModuleDesc) → slice_get ms k ≡ Some m → cells_named image m.body ≡ 0) → AllNameNone image (flat_map (λ m. bodies m.body) ms)
  modules_name [] h = tt
  modules_name (m ∷ ms) h = by (modules_name ms (λ k n e. h (suc k) n e)) m.body (h 0 m refl)
    where
      by : AllNameNone image (flat_map (λ m. bodies m.body) ms) → (p : ℕ) → cells_named image p ≡ 0 → AllNameNone image (bodies p ++ flat_map (λ m. bodies m.body) ms)
      by more zero g = more
      by more (suc p) g = (g, more)

  pub first_has : HaveCells image (first_frames image)
  first_has = (tt, modules_name image.modules.items laid.modules)
