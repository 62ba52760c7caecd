-- What objects were made as stays known behind each turn.
use Rattle.std.proofs.Common.{◌≡◌, ℕ, ℤ, zero, suc, List, [], ◌∷◌, ◌++◌, length, map}
use Rattle.std.specs.Prelude.{Option, Some, None, Bool, true, false, is_some, slice_get, option_map, if◌then◌else◌}
use Rattle.aos_base.specs.declared.root.Root.{Root}
use Rattle.aos_base.specs.declared.root.Root.TheVariants.{Frame as FrameRoot, Module as ModuleRoot, Object as ObjectRoot}
use Rattle.aos_base.specs.declared.number.Relation.{Relation}
use Rattle.aos_base.specs.declared.kernel.Did.TheVariants.{Trapped}
use Rattle.aos_base.specs.Number.{array_lengths}
use Rattle.aos_base.specs.Question.{Reads, Stores, Copies, PutsText, ComparesTexts, Calls, Ends, Makes, Starts, Enters, Leaves, Awaits, PutsInt, PutsChar, PutsString, PutsNothing, PutsLn, Places, Lengths, Opens, Sizes, Tests}
use Rattle.aos_base.specs.Rooted.{Made, Rooted, by_number, load}
use Rattle.aos_code.specs.declared.instr.Cell.{Cell}
use Rattle.aos_code.specs.declared.instr.Cell.TheVariants.{Num, Ref, Call as CallCell, Place}
use Rattle.aos_code.specs.declared.instr.Kind.{Kind}
use Rattle.aos_code.specs.declared.image.ProcShape.{ProcShape}
use Rattle.aos_code.specs.declared.image.TypeDesc.{TypeDesc}
use Rattle.aos_code.specs.declared.image.Image.{Image}
use Rattle.aos_code.specs.Numbered.{numbered}
use Rattle.aos_code.specs.Memory.{Addr, Memory, has_room}
use Rattle.aos_code.specs.Silent.{Stack, Keeps, Question, Begins, Fails, Decides, Stop, Work, Ended, is_of}
use Rattle.aos_code.specs.Machine.{asker, fitted_in, object_of, arguments_of, Frame, Frames, Turned, Handed, first_cell, rooted, cells_at, memory_with, made_in, leaves, goes_on, behind, written, writes, reads, copies, prints, writes_out, makes, makes_with, makes_of, numbers_in, in_rows, starts, works, finds, stores_text, fitted, puts_text, compares, called_frame, is_deep, enters, calls_with, calls, handed, text_at, length_in, code_in, character_cells, answer, goes, opened, stop_of, turn_at, turn}
use Rattle.aos_silent_steps.specs.Known.{Knows}

read_still : {A : Type 0} (xs ys : List A) (k : ℕ) (x : A) → slice_get xs k ≡ Some x → slice_get (xs ++ ys) k ≡ Some x
read_still [] ys zero x e = absurd (cc e)
read_still [] ys (suc k) x e = absurd (cc e)
read_still (y ∷ xs) ys zero x e = e
read_still (y ∷ xs) ys (suc k) x e = read_still xs ys k x e

number_still : {A : Type 0} (xs ys : List A) (o : ℕ) (x : A) → by_number o xs ≡ Some x → by_number o (xs ++ ys) ≡ Some x
number_still xs ys zero x e = absurd (cc e)
number_still xs ys (suc k) x e = read_still xs ys k x e

module _ (image : Image) (following : List ℕ) (f : Frame) (fs : List Frame) (mem : Memory) where
  abbrev Grows : Turned → Type 0
  Grows t = Knows (made_in image t.store) (made_in image mem)

  stays : Knows (made_in image mem) (made_in image mem)
  stays o m e = e

  changed : (r : Root) (g : List Cell → List Cell) → Knows (made_in image (memory_with r g mem)) (made_in image mem)
  changed (FrameRoot d) g o m e = e
  changed (ModuleRoot k) g o m e = e
  changed (ObjectRoot p) g o m e = e

  if_grows : (b : Bool) (t u : Turned) → Grows t → Grows u → Grows (if b then t else u)
  if_grows true t u h g = h
  if_grows false t u h g = g

  module _ (at : ℕ) (k : Keeps) (s : Stack) where
    write_grows : (there : Bool) (a : Addr) (vs : List Cell) → Grows (writes following there a vs (asker at k s f fs mem))
    write_grows true a vs = changed a.root _
    write_grows false a vs = stays

    read_grows : (kind : Kind) (v : Option Cell) → Grows (reads following kind v (asker at k s f fs mem))
    read_grows kind None = stays
    read_grows kind (Some v) = if_grows (is_of kind v) (goes_on following (behind following at k (v ∷ s) f ∷ fs) mem) (leaves following (Trapped 16 0) (f ∷ fs) mem) stays stays

    copy_grows : (vs : Option (List Cell)) (there : Bool) (a : Addr) → Grows (copies following vs there a (asker at k s f fs mem))
    copy_grows None there a = stays
    copy_grows (Some vs) there a = write_grows there a vs

    print_grows : (v : Option (List ℕ)) → Grows (prints following v (asker at k s f fs mem))
    print_grows None = stays
    print_grows (Some bytes) = stays

    out_grows : (v : Option (List ℕ)) → Grows (writes_out following v (asker at k s f fs mem))
    out_grows None = stays
    out_grows (Some bytes) = stays

    make_grows : (room : Bool) (m : Made) (cells : List Cell) → Grows (makes following room m cells (asker at k s f fs mem))
    make_grows true m cells = λ o x e. number_still mem.made (m ∷ []) o x e
    make_grows false m cells = stays

    make_with_grows : (ns : Option (List ℕ)) (t : ℕ) (d : TypeDesc) → Grows (makes_with following ns t d (asker at k s f fs mem))
    make_with_grows None t d = stays
    make_with_grows (Some ns) t d =
        let m : Made = record { type = t; lengths = ns } in
        let cells = in_rows following ns (map first_cell d.kinds.items) in make_grows (has_room m cells mem) m cells

    make_of_grows : (d : Option TypeDesc) (zs : Option (List ℤ)) (t : ℕ) → Grows (makes_of following d zs t (asker at k s f fs mem))
    make_of_grows None zs t = stays
    make_of_grows (Some d) None t = stays
    make_of_grows (Some d) (Some zs) t = make_with_grows (array_lengths zs) t d

    start_grows : (v : Cell) → Grows (starts following v (asker at k s f fs mem))
    start_grows (Num z) = stays
    start_grows (Ref zero) = stays
    start_grows (Ref (suc o)) = stays
    start_grows (CallCell p o) = stays
    start_grows (Place root cell type) = stays

    store_text_grows : (t : Option (List ℕ)) (to : Addr) (x : Rooted (List Cell)) → Grows (stores_text following t to x (asker at k s f fs mem))
    store_text_grows None to x = stays
    store_text_grows (Some cs) to x = write_grows (is_some (cells_at (length cs) to x)) to (character_cells following cs)

    put_text_grows : (strict : Bool) (t : Option (List ℕ)) (room : Option ℕ) (to : Addr) (x : Rooted (List Cell)) → Grows (puts_text following (fitted_in following strict t room) to x (asker at k s f fs mem))
    put_text_grows strict None room to x = stays
    put_text_grows strict (Some cs) None to x = stays
    put_text_grows strict (Some cs) (Some room) to x = store_text_grows (fitted following strict room cs) to x

    compare_grows : (r : Relation) (a b : Option (List ℕ)) → Grows (compares following r a b (asker at k s f fs mem))
    compare_grows r (Some a) (Some b) = stays
    compare_grows r (Some a) None = stays
    compare_grows r None b = stays

    enter_grows : (deep : Bool) (g : Frame) → Grows (enters following deep g (asker at k s f fs mem))
    enter_grows true g = stays
    enter_grows false g = stays

    call_with_grows : (p o : ℕ) (shape : ProcShape) (x : Option (Handed following)) → Grows (calls_with following (option_map (called_frame following p o shape) x) (asker at k s f fs mem))
    call_with_grows p o shape None = stays
    call_with_grows p o shape (Some x) = enter_grows (is_deep following (called_frame following p o shape x) (f ∷ fs)) (called_frame following p o shape x)

    call_grows : (shape : Option ProcShape) (p : ℕ) (vs : List Cell) → Grows (calls following shape p vs (asker at k s f fs mem))
    call_grows None p vs = stays
    call_grows (Some shape) p vs = call_with_grows p (object_of shape.method vs) shape (handed following (suc (length fs)) (rooted (f ∷ fs) mem) shape.params.items (arguments_of shape.method vs) (length shape.kinds.items))

    answer_grows : (q : Question) → Grows (answer following image.shapes.items image.types.items q (asker at k s f fs mem))
    answer_grows (Reads kind a) = read_grows kind (load a.root a.cell (rooted (f ∷ fs) mem))
    answer_grows (Stores a v) = write_grows (is_some (load a.root a.cell (rooted (f ∷ fs) mem))) a (v ∷ [])
    answer_grows (Copies n from to) = copy_grows (cells_at n from (rooted (f ∷ fs) mem)) (is_some (cells_at n to (rooted (f ∷ fs) mem))) to
    answer_grows (PutsText strict from n to room) = put_text_grows strict (text_at following from n (rooted (f ∷ fs) mem)) (length_in following room) to (rooted (f ∷ fs) mem)
    answer_grows (ComparesTexts r a n b m) = compare_grows r (text_at following a n (rooted (f ∷ fs) mem)) (text_at following b m (rooted (f ∷ fs) mem))
    answer_grows (Calls how p vs) = call_grows (numbered image.shapes.items p) p vs
    answer_grows (Ends result) = stays
    answer_grows (Makes t vs) = make_of_grows (numbered image.types.items t) (numbers_in following vs) t
    answer_grows (Starts v) = start_grows v
    answer_grows Enters = stays
    answer_grows Leaves = stays
    answer_grows (Awaits c) = stays
    answer_grows (PutsInt v n) = print_grows (written v n)
    answer_grows (PutsChar v) = out_grows (option_map (λ c. c ∷ []) (code_in following v))
    answer_grows (PutsString a n) = out_grows (text_at following a n (rooted (f ∷ fs) mem))
    answer_grows PutsNothing = stays
    answer_grows PutsLn = stays
    answer_grows (Places a) = stays
    answer_grows (Lengths a) = stays
    answer_grows (Opens v) = stays
    answer_grows (Sizes v d) = stays
    answer_grows (Tests v t) = stays

    works_grow : (found : Bool) (q : Question) → Grows (works following image.shapes.items image.types.items found q (asker at k s f fs mem))
    works_grow true q = answer_grows q
    works_grow false q = stays

  goes_grows : (stop : Stop) → Grows (goes following image.shapes.items image.types.items stop f fs mem)
  goes_grows (Work q at k s) = works_grow at k s (finds image.types.items q f mem) q
  goes_grows (Ended (Begins at p s) k) = stays
  goes_grows (Ended (Fails n c) k) = stays
  goes_grows (Ended (Decides a) k) = stays

pub turn_grows : (image : Image) (mem : Memory) (fs : Frames) → Knows (made_in image (turn image mem fs).store) (made_in image mem)
turn_grows image mem fs = by (opened fs).following (opened fs).frames
  where
    by : (following : List ℕ) (l : List Frame) → Knows (made_in image (turn_at image following l mem).store) (made_in image mem)
    by following [] = λ o m e. e
    by following (f ∷ fs) = goes_grows image following f fs mem (stop_of image (made_in image mem) f fs)
