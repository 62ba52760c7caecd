-- What changes of frames and memory show.
use Rattle.std.proofs.Common.{◌<◌, ◌≤◌, ◌-◌, take, drop, get_or, replicate, arith, ◌≡◌, ℕ, zero, suc, max, ◌+◌, List, [], ◌∷◌, ◌++◌, length, map, reverse, refl, sym, ap, ◌∙◌}
use Rattle.std.specs.Prelude.{Option, Some, None, slice_get, slice_set, Bool, true, false, if◌then◌else◌, Vec, sum_by, is_some, pos}
use Rattle.std.specs.Option.{option_map, option_and_then}
use Rattle.std.specs.Vec.{with_item}
use Rattle.std.specs.declared.alloc.Global.{Global}
use Rattle.std.proofs.lemmas.Option.{slice_get-map}
use Rattle.std.proofs.lemmas.List.{reverse-append, map-append, length-append, length-replicate, length-take-le, length-set, take-append-le, drop-append-le, take-set-le, drop-set-add}
use Rattle.std.proofs.Math.Seq.{take-append_seam, drop-append_seam}
use Rattle.std.proofs.lemmas.List.Sums.{sum_by-cons}
use Rattle.aos_base.specs.declared.root.Root.{Root}
use Rattle.aos_base.specs.declared.root.Root.TheVariants.{Frame as FrameRoot, Module, Object as ObjectRoot}
use Rattle.aos_base.specs.Rooted.{Made, from_last, change_from_last, change_by_number}
use Rattle.aos_code.specs.declared.instr.Cell.{Cell}
use Rattle.aos_code.specs.declared.instr.Cell.TheVariants.{Num}
use Rattle.aos_code.specs.declared.instr.Kind.{Kind}
use Rattle.aos_store.specs.declared.cells.Change.TheVariants.{Sets}
use Rattle.aos_code.specs.Memory.{Memory, counted, with_object}
use Rattle.aos_code.specs.Machine.{Frame, Frames, memory_with, first_cell}
use Rattle.aos_store.specs.declared.frames.Frame.{Frame as KeptFrame}
use Rattle.aos_store.specs.declared.frames.Frames.{Frames as KeptFrames}
use Rattle.aos_store.specs.declared.heap.Object.{Object}
use Rattle.aos_store.specs.declared.memory.Store.{Store}
use Rattle.aos_store.specs.Objects.{object_cells, object_counted, made_in}
use Rattle.aos_store.specs.Store.{own_cells, kept_cells, with_kept, frame_in, list_in, memory_in, with_cells, with_frames, frames_in, new_frame, fits_in}
use Rattle.aos_store.proofs.Lists.{changed_at, same_at, map_reverse, sum_reverse, from_last_reverse, change_reverse, zeros, there_is, get_zeros, get_set}

-- Frames.

cells_of_list : (fs : List KeptFrame) → map (λ (f : Frame). f.cells) (map frame_in fs) ≡ map own_cells fs
cells_of_list [] = refl
cells_of_list (f ∷ fs) = ap (λ xs. own_cells f ∷ xs) (cells_of_list fs)

-- the cells of the frame above so many
pub frames_cells : (fs : List KeptFrame) (k : ℕ) → from_last k (map (λ (f : Frame). f.cells) (list_in fs)) ≡ option_map own_cells (slice_get fs k)
frames_cells fs k =
    ap (from_last k) (cells_of_list (reverse fs) ∙ map_reverse own_cells fs) ∙ from_last_reverse (map own_cells fs) k ∙ slice_get-map own_cells fs k

-- the frame above so many has other cells, or the same
pub frames_changed : (fs : List KeptFrame) (k : ℕ) (f f' : KeptFrame) (b : Bool) (g : List Cell → List Cell) → slice_get fs k ≡ Some f → frame_in f' ≡ (if b then with_cells g (frame_in f) else frame_in f) →
    list_in (slice_set fs k f') ≡ (if b then change_from_last k (with_cells g) (list_in fs) else list_in fs)
frames_changed fs k f f' true g here e =
    map_reverse frame_in (slice_set fs k f') ∙ ap reverse (changed_at frame_in (with_cells g) fs k f f' here e) ∙ sym (change_reverse k (with_cells g) (map frame_in fs))
    ∙ ap (change_from_last k (with_cells g)) (sym (map_reverse frame_in fs))
frames_changed fs k f f' false g here e = map_reverse frame_in (slice_set fs k f') ∙ ap reverse (same_at frame_in fs k f f' here e) ∙ sym (map_reverse frame_in fs)

counted_of_list : (fs : List KeptFrame) → sum_by (λ (f : Frame). f.counted) (map frame_in fs) ≡ sum_by (λ (f : KeptFrame). f.counted) fs
counted_of_list [] = refl
counted_of_list (f ∷ fs) =
    sum_by-cons (λ (f : Frame). f.counted) (frame_in f) (map frame_in fs) ∙ ap (λ n. f.counted + n) (counted_of_list fs) ∙ sym (sum_by-cons (λ (f : KeptFrame). f.counted) f fs)

-- how many scalars frames have
pub frames_counted : (fs : List KeptFrame) → sum_by (λ (f : Frame). f.counted) (list_in fs) ≡ sum_by (λ (f : KeptFrame). f.counted) fs
frames_counted fs = counted_of_list (reverse fs) ∙ sum_reverse (λ (f : KeptFrame). f.counted) fs

-- Memory.

-- a module has other cells, or the same
pub module_changed : (s : Store) (m : ℕ) (v w : Vec Cell Global) (b : Bool) (g : List Cell → List Cell) → slice_get s.modules.items m ≡ Some v → w.items ≡ (if b then g v.items else v.items) →
    memory_in (record s { modules = with_item s.modules m w }) ≡ (if b then memory_with (Module m) g (memory_in s) else memory_in s)
module_changed s m v w true g here e = ap (λ ms. let mem : Memory = record { modules = ms; objects = map object_cells s.objects; made = map made_in s.objects } in mem) (changed_at (λ (v : Vec Cell Global). v.items) g s.modules.items m v w here e)
module_changed s m v w false g here e = ap (λ ms. let mem : Memory = record { modules = ms; objects = map object_cells s.objects; made = map made_in s.objects } in mem) (same_at (λ (v : Vec Cell Global). v.items) s.modules.items m v w here e)

-- an object has other cells, or the same
pub object_changed : (os : List Object) (k : ℕ) (x y : Object) (b : Bool) (g : List Cell → List Cell) → slice_get os k ≡ Some x → y.cells.items ≡ (if b then g x.cells.items else x.cells.items) →
    map object_cells (slice_set os k y) ≡ (if b then change_by_number (suc k) g (map object_cells os) else map object_cells os)
object_changed os k x y true g here e = changed_at object_cells g os k x y here e
object_changed os k x y false g here e = same_at object_cells os k x y here e

-- it counts as many scalars as before
pub object_counts : (os : List Object) (k : ℕ) (x y : Object) → slice_get os k ≡ Some x → object_counted y ≡ object_counted x → sum_by object_counted (slice_set os k y) ≡ sum_by object_counted os
object_counts [] k x y here e = absurd (cc here)
object_counts (z ∷ zs) zero x y here e =
    let same : z ≡ x = cc here in
    sum_by-cons object_counted y zs ∙ ap (λ n. n + sum_by object_counted zs) (e ∙ ap object_counted (sym same)) ∙ sym (sum_by-cons object_counted z zs)
object_counts (z ∷ zs) (suc k) x y here e =
    sum_by-cons object_counted z (slice_set zs k y) ∙ ap (λ n. object_counted z + n) (object_counts zs k x y here e) ∙ sym (sum_by-cons object_counted z zs)

-- objects with other cells, made as before
pub heap_changed : (s : Store) (os : List Object) (b : Bool) (n : ℕ) (g : List Cell → List Cell) → map object_cells os ≡ (if b then change_by_number n g (map object_cells s.objects) else map object_cells s.objects) → map made_in os ≡ map made_in s.objects →
    memory_in (record s { objects = os }) ≡ (if b then memory_with (ObjectRoot n) g (memory_in s) else memory_in s)
heap_changed s os true n g e m = (λ i. let mem : Memory = record { modules = map (λ (v : Vec Cell Global). v.items) s.modules.items; objects = e i; made = m i } in mem)
heap_changed s os false n g e m = (λ i. let mem : Memory = record { modules = map (λ (v : Vec Cell Global). v.items) s.modules.items; objects = e i; made = m i } in mem)

-- how many scalars objects count as
pub heap_counted : (os : List Object) → sum_by counted (map object_cells os) ≡ sum_by object_counted os
heap_counted [] = refl
heap_counted (o ∷ os) =
    sum_by-cons counted (object_cells o) (map object_cells os) ∙ ap (λ n. object_counted o + n) (heap_counted os) ∙ sym (sum_by-cons object_counted o os)

-- each counts as one at least
pub heap_long : (os : List Object) → length os ≤ sum_by object_counted os
heap_long [] = omega arith
heap_long (o ∷ os) =
    let a = sum_by-cons object_counted o os in
    let b = heap_long os in
    let c = one_at_least (length (object_cells o)) in
    omega (arith, a, b, c)
  where
    one_at_least : (n : ℕ) → 1 ≤ max 1 n
    one_at_least n = omega arith

-- with one object more
pub heap_more : (s : Store) (os : List Object) (o : Object) → os ≡ s.objects ++ o ∷ [] → memory_in (record s { objects = os }) ≡ with_object (made_in o) (object_cells o) (memory_in s)
heap_more s os o e =
    let a = ap (map object_cells) e ∙ map-append object_cells s.objects (o ∷ []) in
    let b = ap (map made_in) e ∙ map-append made_in s.objects (o ∷ []) in
    (λ i. let mem : Memory = record { modules = map (λ (v : Vec Cell Global). v.items) s.modules.items; objects = a i; made = b i } in mem)

-- what shows as a list with one more at its end is one
last_of : {A B : Type 0} (h : A → B) (xs : List A) (ys : List B) (y : B) → map h xs ≡ ys ++ y ∷ [] → (zs : List A) × (z : A) × (xs ≡ zs ++ z ∷ [])
last_of h [] [] y e = absurd (cc e)
last_of h [] (v ∷ ys) y e = absurd (cc e)
last_of h (x ∷ []) ys y e = ([], x, refl)
last_of h (x ∷ w ∷ xs) [] y e = absurd (cc e)
last_of h (x ∷ w ∷ xs) (v ∷ ys) y e =
    let f : map h (w ∷ xs) ≡ ys ++ y ∷ [] = cc in
    let l = last_of h (w ∷ xs) ys y f in
    (x ∷ l.0, l.1, ap (λ us. x ∷ us) l.2)

same_before : {A : Type 0} (xs ys : List A) (x y : A) → xs ++ x ∷ [] ≡ ys ++ y ∷ [] → xs ≡ ys
same_before [] [] x y e = refl
same_before [] (v ∷ []) x y e = absurd (cc e)
same_before [] (v ∷ w ∷ ys) x y e = absurd (cc e)
same_before (u ∷ []) [] x y e = absurd (cc e)
same_before (u ∷ w ∷ xs) [] x y e = absurd (cc e)
same_before (u ∷ xs) (v ∷ ys) x y e =
    let f : xs ++ x ∷ [] ≡ ys ++ y ∷ [] = cc in
    let g : u ≡ v = cc in
    (λ i. g i ∷ same_before xs ys x y f i)

-- without the last one
pub heap_before : (s : Store) (os : List Object) (made : Made) (cells : List Cell) (before : Memory) →
    ((xs : List Object) (x : Object) → s.objects ≡ xs ++ x ∷ [] → os ≡ xs) → memory_in s ≡ with_object made cells before → memory_in (record s { objects = os }) ≡ before
heap_before s os made cells before h e =
    let eo : map object_cells s.objects ≡ before.objects ++ cells ∷ [] = ap (λ m. m.objects) e in
    let em : map made_in s.objects ≡ before.made ++ made ∷ [] = ap (λ m. m.made) e in
    let l = last_of object_cells s.objects before.objects cells eo in
    let is = h l.0 l.1 l.2 in
    let a : map object_cells l.0 ≡ before.objects =
    same_before (map object_cells l.0) before.objects (object_cells l.1) cells (sym (ap (map object_cells) l.2 ∙ map-append object_cells l.0 (l.1 ∷ [])) ∙ eo) in
    let b : map made_in l.0 ≡ before.made =
    same_before (map made_in l.0) before.made (made_in l.1) made (sym (ap (map made_in) l.2 ∙ map-append made_in l.0 (l.1 ∷ [])) ∙ em) in
    let c = ap (map object_cells) is ∙ a in
    let d = ap (map made_in) is ∙ b in
    let m : map (λ (v : Vec Cell Global). v.items) s.modules.items ≡ before.modules = ap (λ m. m.modules) e in
    (λ i. let mem : Memory = record { modules = m i; objects = c i; made = d i } in mem)

-- Both.

pub either_same : {A : Type 0} (b : Bool) (x : A) → (if b then x else x) ≡ x
either_same true x = refl
either_same false x = refl

pub frames_with_list : (fs : KeptFrames) (b : Bool) (k : ℕ) (g : List Cell → List Cell) (new : List Frame) → new ≡ (if b then change_from_last k (with_cells g) (list_in fs.list.items) else list_in fs.list.items) →
    (let now : Frames = record { following = reverse fs.following.items; frames = new } in now) ≡ (if b then with_frames (FrameRoot k) g fs else frames_in fs)
frames_with_list fs true k g new e = ap (λ (x : List Frame). let now : Frames = record { following = reverse fs.following.items; frames = x } in now) e
frames_with_list fs false k g new e = ap (λ (x : List Frame). let now : Frames = record { following = reverse fs.following.items; frames = x } in now) e

-- Frames that are made.

pub list_more : (fs : List KeptFrame) (f : KeptFrame) → list_in (fs ++ f ∷ []) ≡ frame_in f ∷ list_in fs
list_more fs f = ap (map frame_in) (reverse-append fs (f ∷ []))

pub frame_made : (p o : ℕ) (kinds : List Kind) (more keeps counted : ℕ) (cells operands : Vec Cell Global) →
    cells.items ≡ (map first_cell kinds ++ replicate more (Num (pos 0))) ++ replicate keeps (Num (pos 0)) → operands.items ≡ [] →
    frame_in (record { procedure = p; object = o; next = 0; at = None; is_open = false; cells = cells; keeps = keeps; counted = counted; operands = operands }) ≡ new_frame p o kinds more counted
frame_made p o kinds more keeps counted cells operands e r =
    let front = map first_cell kinds ++ replicate more (Num (pos 0)) in
    let back = replicate keeps (Num (pos 0)) in
    let long : length (front ++ back) - keeps ≡ length front = omega (arith, length-append front back, length-replicate keeps (Num (pos 0))) in
    let own : take (length cells.items - keeps) cells.items ≡ front = ap (λ xs. take (length xs - keeps) xs) e ∙ ap (λ n. take n (front ++ back)) long ∙ take-append_seam front back in
    let kept : drop (length cells.items - keeps) cells.items ≡ back = ap (λ xs. drop (length xs - keeps) xs) e ∙ ap (λ n. drop n (front ++ back)) long ∙ drop-append_seam front back in
    λ i.
    let f : Frame =
    record {
      procedure = p;
      object = o;
      next = 0;
      at = None;
      is_open = false;
      cells = own i;
      counted = counted;
      keeps = λ c. (ap (λ ys. get_or ys c (Num (pos 0))) kept ∙ zeros keeps c (Num (pos 0))) i;
      stack = ap reverse r i;
    } in
    f

-- there is a cell that is set
pub fits_sets : (o : Option (List Cell)) (c : ℕ) (v : Cell) → fits_in (Sets c v) o ≡ is_some (option_and_then (λ cells. slice_get cells c) o)
fits_sets None c v = refl
fits_sets (Some cells) c v = there_is cells c

-- changes of cells leave the bodies that are to follow
pub same_following : (fs : KeptFrames) (b : Bool) (r : Root) (g : List Cell → List Cell) → (if b then with_frames r g fs else frames_in fs).following ≡ (frames_in fs).following
same_following fs true r g = refl
same_following fs false r g = refl

-- What frames keep.

-- with room for more
pub frame_roomier : (f : KeptFrame) (w : Vec Cell Global) (keeps more : ℕ) → w.items ≡ f.cells.items ++ replicate more (Num (pos 0)) → length f.cells.items + more - keeps ≡ length f.cells.items - f.keeps →
    frame_in (record f { cells = w; keeps = keeps }) ≡ frame_in f
frame_roomier f w keeps more e same =
    let xs = f.cells.items in
    let back = replicate more (Num (pos 0)) in
    let n = length xs - f.keeps in
    let long : length w.items - keeps ≡ n = ap (λ ys. length ys - keeps) e ∙ ap (λ m. m - keeps) (length-append xs back ∙ ap (λ m. length xs + m) (length-replicate more (Num (pos 0)))) ∙ same in
    let le : n ≤ length xs = omega arith in
    let own : take (length w.items - keeps) w.items ≡ take n xs = ap (λ m. take m w.items) long ∙ ap (take n) e ∙ take-append-le n xs back le in
    let kept : drop (length w.items - keeps) w.items ≡ drop n xs ++ back = ap (λ m. drop m w.items) long ∙ ap (drop n) e ∙ drop-append-le n xs back le in
    λ i.
    let g : Frame = record (frame_in f) { cells = own i; keeps = λ c. (ap (λ ys. get_or ys c (Num (pos 0))) kept ∙ get_zeros (drop n xs) more c (Num (pos 0))) i } in
    g

-- with a value that is kept
pub frame_kept : (f : KeptFrame) (c : ℕ) (v : Cell) → c < length (kept_cells f) → frame_in (record f { cells = with_item f.cells (length (own_cells f) + c) v }) ≡ with_kept c v (frame_in f)
frame_kept f c v lt =
    let xs = f.cells.items in
    let n = length xs - f.keeps in
    let le : n ≤ length xs = omega arith in
    let at : length (own_cells f) + c ≡ n + c = ap (λ m. m + c) (length-take-le n xs le) in
    let now : slice_set xs (length (own_cells f) + c) v ≡ slice_set xs (n + c) v = ap (λ m. slice_set xs m v) at in
    let long : length (slice_set xs (length (own_cells f) + c) v) - f.keeps ≡ n = ap (λ m. m - f.keeps) (length-set xs (length (own_cells f) + c) v) in
    let own : take (length (slice_set xs (length (own_cells f) + c) v) - f.keeps) (slice_set xs (length (own_cells f) + c) v) ≡ take n xs =
    ap (λ m. take m (slice_set xs (length (own_cells f) + c) v)) long ∙ ap (take n) now ∙ take-set-le n xs (n + c) v (omega arith) in
    let kept : drop (length (slice_set xs (length (own_cells f) + c) v) - f.keeps) (slice_set xs (length (own_cells f) + c) v) ≡ slice_set (drop n xs) c v =
    ap (λ m. drop m (slice_set xs (length (own_cells f) + c) v)) long ∙ ap (drop n) now ∙ drop-set-add n xs c v in
    λ i.
    let g : Frame = record (frame_in f) { cells = own i; keeps = λ x. (ap (λ ys. get_or ys x (Num (pos 0))) kept ∙ get_set (drop n xs) c x v (Num (pos 0)) lt) i } in
    g
