-- Changes below one root: what stands below the others, and two changes one after the other.
use Rattle.std.proofs.Common.{◌≡◌, ◌≢◌, ℕ, zero, suc, ◌+◌, ◌-◌, ◌<◌, ◌≤◌, List, [], ◌∷◌, ◌++◌, length, get_or, map, take, drop, reverse, inl, inr, refl, sym, ap, ◌∙◌, subst, arith, append_assoc}
use Rattle.std.specs.Prelude.{Option, Some, None, slice_get, true, false, is_some, nat_lt}
use Rattle.std.specs.Option.{option_map, option_and_then}
use Rattle.std.proofs.lemmas.List.{reverse-reverse, length-append, length-take, length-take-le, length-drop, drop-drop, get_or-drop, get_or-take, take_more, take-append-drop, take_all}
use Rattle.std.proofs.lemmas.Option.{slice_get-map, slice_get-get_or}
use Rattle.std.proofs.lemmas.Bool.Decides.{leb_tells}
use Rattle.std.proofs.Math.Seq.{take-append_seam, drop-append_seam}
use Rattle.aos_base.specs.declared.root.Root.{Root}
use Rattle.aos_base.specs.declared.root.Root.TheVariants.{Frame as FrameRoot, Module, Object}
use Rattle.aos_base.specs.Rooted.{from_last, change_from_last, change_at, at_root, load, spliced}
use Rattle.aos_code.specs.declared.instr.Cell.{Cell}
use Rattle.aos_code.specs.Memory.{Memory}
use Rattle.aos_code.specs.Machine.{Frame, rooted, frames_with, memory_with}
use Rattle.aos_store.specs.Store.{with_cells, has_all, read_all}
use Rattle.aos_store.proofs.Lists.{from_last_reverse, change_reverse, map_reverse, there_is}

-- One element of a list.

other_at : {A : Type 0} (xs : List A) (i j : ℕ) (g : A → A) → i ≢ j → slice_get (change_at j g xs) i ≡ slice_get xs i
other_at [] i j g n = refl
other_at (x ∷ xs) zero zero g n = absurd (n refl)
other_at (x ∷ xs) zero (suc j) g n = refl
other_at (x ∷ xs) (suc i) zero g n = refl
other_at (x ∷ xs) (suc i) (suc j) g n = other_at xs i j g (λ e. n (ap suc e))

same_element : {A : Type 0} (xs : List A) (i : ℕ) (g : A → A) → slice_get (change_at i g xs) i ≡ option_map g (slice_get xs i)
same_element [] i g = refl
same_element (x ∷ xs) zero g = refl
same_element (x ∷ xs) (suc i) g = same_element xs i g

twice_at : {A : Type 0} (xs : List A) (i : ℕ) (f g h : A → A) → ((x : A) → slice_get xs i ≡ Some x → f (g x) ≡ h x) → change_at i f (change_at i g xs) ≡ change_at i h xs
twice_at [] i f g h e = refl
twice_at (x ∷ xs) zero f g h e = ap (λ y. y ∷ xs) (e x refl)
twice_at (x ∷ xs) (suc i) f g h e = ap (λ ys. x ∷ ys) (twice_at xs i f g h e)

like_at : {A : Type 0} (xs : List A) (i : ℕ) (g h : A → A) → ((x : A) → slice_get xs i ≡ Some x → g x ≡ h x) → change_at i g xs ≡ change_at i h xs
like_at [] i g h e = refl
like_at (x ∷ xs) zero g h e = ap (λ y. y ∷ xs) (e x refl)
like_at (x ∷ xs) (suc i) g h e = ap (λ ys. x ∷ ys) (like_at xs i g h e)

cells_at_changed : (xs : List Frame) (i : ℕ) (g : List Cell → List Cell) → map (λ (f : Frame). f.cells) (change_at i (with_cells g) xs) ≡ change_at i g (map (λ (f : Frame). f.cells) xs)
cells_at_changed [] i g = refl
cells_at_changed (x ∷ xs) zero g = refl
cells_at_changed (x ∷ xs) (suc i) g = ap (λ ys. x.cells ∷ ys) (cells_at_changed xs i g)

-- The same from the other end.

from_end : {A : Type 0} (xs : List A) (d : ℕ) → from_last d xs ≡ slice_get (reverse xs) d
from_end xs d = ap (from_last d) (sym (reverse-reverse xs)) ∙ from_last_reverse (reverse xs) d

change_from_end : {A : Type 0} (d : ℕ) (g : A → A) (xs : List A) → change_from_last d g xs ≡ reverse (change_at d g (reverse xs))
change_from_end d g xs = ap (change_from_last d g) (sym (reverse-reverse xs)) ∙ change_reverse d g (reverse xs)

changed_cells : (fs : List Frame) (d : ℕ) (g : List Cell → List Cell) → map (λ (f : Frame). f.cells) (change_from_last d (with_cells g) fs) ≡ reverse (change_at d g (reverse (map (λ (f : Frame). f.cells) fs)))
changed_cells fs d g =
    ap (map (λ (f : Frame). f.cells)) (change_from_end d (with_cells g) fs) ∙ map_reverse (λ (f : Frame). f.cells) (change_at d (with_cells g) (reverse fs))
    ∙ ap reverse (cells_at_changed (reverse fs) d g ∙ ap (change_at d g) (map_reverse (λ (f : Frame). f.cells) fs))

-- Roots.

module _ (fs : List Frame) (mem : Memory) where
  pub other_root : (r to : Root) (g : List Cell → List Cell) → r ≢ to → at_root r (rooted (frames_with to g fs) (memory_with to g mem)) ≡ at_root r (rooted fs mem)
  other_root (FrameRoot d) (FrameRoot e) g n =
      let ys = reverse (map (λ (f : Frame). f.cells) fs) in
      ap (from_last d) (changed_cells fs e g) ∙ from_last_reverse (change_at e g ys) d ∙ other_at ys d e g (λ p. n (ap FrameRoot p)) ∙ sym (from_end (map (λ (f : Frame). f.cells) fs) d)
  other_root (FrameRoot d) (Module m) g n = refl
  other_root (FrameRoot d) (Object o) g n = refl
  other_root (Module m) (FrameRoot e) g n = refl
  other_root (Module m) (Module k) g n = other_at mem.modules m k g (λ p. n (ap Module p))
  other_root (Module m) (Object o) g n = refl
  other_root (Object o) (FrameRoot e) g n = refl
  other_root (Object o) (Module m) g n = refl
  other_root (Object zero) (Object zero) g n = refl
  other_root (Object zero) (Object (suc k)) g n = refl
  other_root (Object (suc o)) (Object zero) g n = refl
  other_root (Object (suc o)) (Object (suc k)) g n = other_at mem.objects o k g (λ p. n (ap (λ i. Object (suc i)) p))

  pub same_root : (to : Root) (g : List Cell → List Cell) → at_root to (rooted (frames_with to g fs) (memory_with to g mem)) ≡ option_map g (at_root to (rooted fs mem))
  same_root (FrameRoot d) g =
      let ys = reverse (map (λ (f : Frame). f.cells) fs) in
      ap (from_last d) (changed_cells fs d g) ∙ from_last_reverse (change_at d g ys) d ∙ same_element ys d g ∙ ap (option_map g) (sym (from_end (map (λ (f : Frame). f.cells) fs) d))
  same_root (Module m) g = same_element mem.modules m g
  same_root (Object zero) g = refl
  same_root (Object (suc o)) g = same_element mem.objects o g

  frame_cells : (d : ℕ) (f : Frame) → slice_get (reverse fs) d ≡ Some f → from_last d (map (λ (f : Frame). f.cells) fs) ≡ Some f.cells
  frame_cells d f e =
      from_end (map (λ (f : Frame). f.cells) fs) d ∙ ap (λ ys. slice_get ys d) (sym (map_reverse (λ (f : Frame). f.cells) fs))
      ∙ slice_get-map (λ (f : Frame). f.cells) (reverse fs) d ∙ ap (option_map (λ (f : Frame). f.cells)) e

  pub frames_twice : (to : Root) (f g h : List Cell → List Cell) → ((cs : List Cell) → at_root to (rooted fs mem) ≡ Some cs → f (g cs) ≡ h cs) → frames_with to f (frames_with to g fs) ≡ frames_with to h fs
  frames_twice (FrameRoot d) f g h e =
      ap (change_from_last d (with_cells f)) (change_from_end d (with_cells g) fs) ∙ change_reverse d (with_cells f) (change_at d (with_cells g) (reverse fs))
      ∙ ap reverse (twice_at (reverse fs) d (with_cells f) (with_cells g) (with_cells h) (λ x p. ap (λ cs. with_cells (λ _. cs) x) (e x.cells (frame_cells d x p)))) ∙ sym (change_from_end d (with_cells h) fs)
  frames_twice (Module m) f g h e = refl
  frames_twice (Object o) f g h e = refl

  pub memory_twice : (to : Root) (f g h : List Cell → List Cell) → ((cs : List Cell) → at_root to (rooted fs mem) ≡ Some cs → f (g cs) ≡ h cs) → memory_with to f (memory_with to g mem) ≡ memory_with to h mem
  memory_twice (FrameRoot d) f g h e = refl
  memory_twice (Module m) f g h e = ap (λ ms. let new : Memory = record { modules = ms; objects = mem.objects; made = mem.made } in new) (twice_at mem.modules m f g h e)
  memory_twice (Object zero) f g h e = refl
  memory_twice (Object (suc o)) f g h e = ap (λ os. let new : Memory = record { modules = mem.modules; objects = os; made = mem.made } in new) (twice_at mem.objects o f g h e)

  pub frames_like : (to : Root) (g h : List Cell → List Cell) → ((cs : List Cell) → at_root to (rooted fs mem) ≡ Some cs → g cs ≡ h cs) → frames_with to g fs ≡ frames_with to h fs
  frames_like (FrameRoot d) g h e =
      change_from_end d (with_cells g) fs ∙ ap reverse (like_at (reverse fs) d (with_cells g) (with_cells h) (λ x p. ap (λ cs. with_cells (λ _. cs) x) (e x.cells (frame_cells d x p)))) ∙ sym (change_from_end d (with_cells h) fs)
  frames_like (Module m) g h e = refl
  frames_like (Object o) g h e = refl

  pub memory_like : (to : Root) (g h : List Cell → List Cell) → ((cs : List Cell) → at_root to (rooted fs mem) ≡ Some cs → g cs ≡ h cs) → memory_with to g mem ≡ memory_with to h mem
  memory_like (FrameRoot d) g h e = refl
  memory_like (Module m) g h e = ap (λ ms. let new : Memory = record { modules = ms; objects = mem.objects; made = mem.made } in new) (like_at mem.modules m g h e)
  memory_like (Object zero) g h e = refl
  memory_like (Object (suc o)) g h e = ap (λ os. let new : Memory = record { modules = mem.modules; objects = os; made = mem.made } in new) (like_at mem.objects o g h e)

-- Cells one after the other.

-- one more of those that are put in a list
pub spliced_more : {A : Type 0} (t i : ℕ) (new : List A) (v : A) (xs : List A) → length new ≡ i → t + i < length xs → spliced (t + i) (v ∷ []) (spliced t new xs) ≡ spliced t (new ++ v ∷ []) xs
spliced_more t i new v xs e lt =
    let a = take t xs in
    let front = a ++ new in
    let back = drop (t + length new) xs in
    let long : t + i ≡ length front = omega (arith, length-append a new, length-take-le t xs (omega (arith, lt))) in
    let past : t + i + 1 ≡ length front + 1 = omega (arith, long) in
    let further : t + length new + 1 ≡ t + length (new ++ v ∷ []) = omega (arith, length-append new (v ∷ [])) in
    let whole : spliced t new xs ≡ front ++ back = sym (append_assoc a new back) in
    ap (spliced (t + i) (v ∷ [])) whole
    ∙ ap (λ ys. ys ++ (v ∷ drop (t + i + 1) (front ++ back))) (ap (λ n. take n (front ++ back)) long ∙ take-append_seam front back)
    ∙ ap (λ ys. front ++ (v ∷ ys)) (ap (λ n. drop n (front ++ back)) past ∙ sym (drop-drop 1 (length front) (front ++ back)) ∙ ap (drop 1) (drop-append_seam front back) ∙ drop-drop 1 (t + length new) xs ∙ ap (λ n. drop n xs) further)
    ∙ append_assoc a new (v ∷ drop (t + length (new ++ v ∷ [])) xs) ∙ ap (λ ys. a ++ ys) (sym (append_assoc new (v ∷ []) (drop (t + length (new ++ v ∷ [])) xs)))

pub length_spliced : {A : Type 0} (t : ℕ) (new xs : List A) → t + length new ≤ length xs → length (spliced t new xs) ≡ length xs
length_spliced t new xs le =
    omega (arith, le, length-append (take t xs) (new ++ drop (t + length new) xs), length-append new (drop (t + length new) xs), length-take-le t xs (omega (arith, le)), length-drop (t + length new) xs)

-- The loop that copies between roots.

-- so many cells are there to be read, and the next one is that after those
pub read_more : {A : Type 0} (cs : List A) (f i n : ℕ) → i < n → n ≤ length cs - f → (v : A) × (slice_get cs (f + i) ≡ Some v) × (take (i + 1) (take n (drop f cs)) ≡ take i (take n (drop f cs)) ++ v ∷ [])
read_more cs f i n lt le =
    let vs = take n (drop f cs) in
    let long : i < length vs = omega (arith, lt, le, length-drop f cs, length-take-le n (drop f cs) (omega (arith, le, length-drop f cs))) in
    let there : f + i < length cs = omega (arith, lt, le) in
    let d = first cs (omega (arith, there)) in
    let v = get_or cs (f + i) d in
    let same : get_or vs i d ≡ v = get_or-take n (drop f cs) i d lt ∙ get_or-drop f cs i d in
    (v, slice_get-get_or cs (f + i) d there, take_more vs i d long ∙ ap (λ x. take i vs ++ x ∷ []) same)
  where
    first : {A : Type 0} (xs : List A) → 0 < length xs → A
    first [] lt = absurd (omega (arith, lt))
    first (x ∷ xs) lt = x

pub there_are : (n f : ℕ) (o : Option (List Cell)) → has_all n f o ≡ true → (cs : List Cell) × (o ≡ Some cs) × (n ≤ length cs - f)
there_are n f None e = absurd (cc e)
there_are n f (Some cs) e =
    elim (leb_tells n (length cs - f)) [
      | inl p ↦ (cs, refl, p.1)
      | inr p ↦ (let z : true ≡ false = sym e ∙ p.0 in absurd (cc z))
    ]

length_read : (n f : ℕ) (o : Option (List Cell)) → length (read_all n f o) ≤ n
length_read n f None = omega arith
length_read n f (Some cs) = omega (arith, length-take n (drop f cs))

-- after as many rounds as there are cells all of them are written
pub all_read : (n f i : ℕ) (o : Option (List Cell)) → n ≤ i → take i (read_all n f o) ≡ read_all n f o
all_read n f i o le = take_all i (read_all n f o) (omega (arith, le, length_read n f o))

spliced_none : {A : Type 0} (t : ℕ) (xs : List A) → spliced t [] xs ≡ xs
spliced_none t xs = let z : t + 0 ≡ t = omega arith in ap (λ n. take t xs ++ drop n xs) z ∙ take-append-drop t xs

none_at : {A : Type 0} (xs : List A) (i : ℕ) (g : A → A) → ((x : A) → g x ≡ x) → change_at i g xs ≡ xs
none_at [] i g e = refl
none_at (x ∷ xs) zero g e = ap (λ y. y ∷ xs) (e x)
none_at (x ∷ xs) (suc i) g e = ap (λ ys. x ∷ ys) (none_at xs i g e)

-- before the first round none is written
pub none_frames : (to : Root) (t : ℕ) (fs : List Frame) → frames_with to (spliced t []) fs ≡ fs
none_frames (FrameRoot d) t fs =
    change_from_end d (with_cells (spliced t [])) fs ∙ ap reverse (none_at (reverse fs) d (with_cells (spliced t [])) (λ f. ap (λ cs. with_cells (λ _. cs) f) (spliced_none t f.cells))) ∙ reverse-reverse fs
none_frames (Module m) t fs = refl
none_frames (Object o) t fs = refl

pub none_memory : (to : Root) (t : ℕ) (mem : Memory) → memory_with to (spliced t []) mem ≡ mem
none_memory (FrameRoot d) t mem = refl
none_memory (Module m) t mem = ap (λ ms. let new : Memory = record { modules = ms; objects = mem.objects; made = mem.made } in new) (none_at mem.modules m (spliced t []) (spliced_none t))
none_memory (Object zero) t mem = refl
none_memory (Object (suc o)) t mem = ap (λ os. let new : Memory = record { modules = mem.modules; objects = os; made = mem.made } in new) (none_at mem.objects o (spliced t []) (spliced_none t))

-- one round
pub copied_more : (fs fs1 fs2 : List Frame) (mem mem1 mem2 : Memory) (from to : Root) (f t i n : ℕ) → from ≢ to → i < n → has_all n f (at_root from (rooted fs mem)) ≡ true → has_all n t (at_root to (rooted fs mem)) ≡ true →
    fs1 ≡ frames_with to (spliced t (take i (read_all n f (at_root from (rooted fs mem))))) fs → mem1 ≡ memory_with to (spliced t (take i (read_all n f (at_root from (rooted fs mem))))) mem →
    ((v : Cell) → load from (f + i) (rooted fs1 mem1) ≡ Some v → is_some (load to (t + i) (rooted fs1 mem1)) ≡ true → (fs2 ≡ frames_with to (spliced (t + i) (v ∷ [])) fs1) × (mem2 ≡ memory_with to (spliced (t + i) (v ∷ [])) mem1)) →
    (fs2 ≡ frames_with to (spliced t (take (i + 1) (read_all n f (at_root from (rooted fs mem))))) fs) × (mem2 ≡ memory_with to (spliced t (take (i + 1) (read_all n f (at_root from (rooted fs mem))))) mem)
copied_more fs fs1 fs2 mem mem1 mem2 from to f t i n apart lt hf ht e1 e2 h =
    let a = there_are n f (at_root from (rooted fs mem)) hf in
    let b = there_are n t (at_root to (rooted fs mem)) ht in
    let cs = a.0 in
    let ys = b.0 in
    let r = read_more cs f i n lt a.2 in
    let v = r.0 in
    let vs = read_all n f (at_root from (rooted fs mem)) in
    let vse : vs ≡ take n (drop f cs) = ap (read_all n f) a.1 in
    let long : i ≤ length (take n (drop f cs)) = omega (arith, lt, a.2, length-drop f cs, length-take n (drop f cs)) in
    let lenv : length (take i vs) ≡ i = ap (λ x. length (take i x)) vse ∙ length-take-le i (take n (drop f cs)) long in
    let more : take (i + 1) vs ≡ take i vs ++ v ∷ [] = ap (take (i + 1)) vse ∙ r.2 ∙ ap (λ x. take i x ++ v ∷ []) (sym vse) in
    let g = spliced t (take i vs) in
    let room : t + i < length ys = omega (arith, lt, b.2) in
    let x1 : rooted fs1 mem1 ≡ rooted (frames_with to g fs) (memory_with to g mem) = (λ j. rooted (e1 j) (e2 j)) in
    let source : at_root from (rooted fs1 mem1) ≡ Some cs = ap (at_root from) x1 ∙ other_root fs mem from to g apart ∙ a.1 in
    let target : at_root to (rooted fs1 mem1) ≡ Some (g ys) = ap (at_root to) x1 ∙ same_root fs mem to g ∙ ap (option_map g) b.1 in
    let same : length (g ys) ≡ length ys = length_spliced t (take i vs) ys (omega (arith, room, lenv)) in
    let within : nat_lt (t + i) (length (g ys)) ≡ true = elim (leb_tells (suc (t + i)) (length (g ys))) [ inl p ↦ p.0 | inr p ↦ absurd (omega (arith, p.1, same, room)) ] in
    let step =
    h v (ap (option_and_then (λ cells. slice_get cells (f + i))) source ∙ r.1)
    (ap (λ o. is_some (option_and_then (λ cells. slice_get cells (t + i)) o)) target ∙ sym (there_is (g ys) (t + i)) ∙ within) in
    let joined : (zs : List Cell) → at_root to (rooted fs mem) ≡ Some zs → spliced (t + i) (v ∷ []) (g zs) ≡ spliced t (take (i + 1) vs) zs =
    λ zs p.
    let q : Some ys ≡ Some zs = sym b.1 ∙ p in
    let z : ys ≡ zs = cc q in
    spliced_more t i (take i vs) v zs lenv (subst (λ ws. t + i < length ws) z room) ∙ ap (λ ws. spliced t ws zs) (sym more) in (
      step.0 ∙ ap (frames_with to (spliced (t + i) (v ∷ []))) e1 ∙ frames_twice fs mem to (spliced (t + i) (v ∷ [])) g (spliced t (take (i + 1) vs)) joined,
      step.1 ∙ ap (memory_with to (spliced (t + i) (v ∷ []))) e2 ∙ memory_twice fs mem to (spliced (t + i) (v ∷ [])) g (spliced t (take (i + 1) vs)) joined,
    )
