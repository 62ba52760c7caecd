-- The topmost frame goes on behind an instruction, and what answers to its question are.
use Rattle.std.proofs.Common.{◌≡◌, ℕ, List, [], ◌∷◌, ◌++◌, take, drop, length, ◌-◌, reverse, inl, inr, arith, refl, sym, ap, ◌∙◌, subst}
use Rattle.std.specs.Prelude.{nat_eq, nat_le, ◌&&◌, Option, Some, None, Bool, true, false, is_some, if◌then◌else◌}
use Rattle.std.specs.Option.{option_map, option_and_then}
use Rattle.std.proofs.lemmas.Bool.Decides.{leb_tells, eqb_tells}
use Rattle.std.proofs.lemmas.List.{append-nil, length-take, length-drop}
use Rattle.aos_base.specs.declared.kernel.Did.TheVariants.{Went, Trapped}
use Rattle.aos_base.specs.declared.root.Root.{Root}
use Rattle.aos_base.specs.declared.root.Root.TheVariants.{Frame as FrameRoot, Module as ModuleRoot, Object as ObjectRoot}
use Rattle.aos_base.specs.Rooted.{Rooted, change_from_last, load, spliced, at_root}
use Rattle.aos_base.specs.Question.{Stores, Copies, PutsText, PutsNothing}
use Rattle.aos_code.specs.declared.instr.Cell.{Cell}
use Rattle.aos_code.specs.Memory.{Memory, Addr}
use Rattle.aos_code.specs.Silent.{Stack, Keeps}
use Rattle.aos_code.specs.Machine.{asker, fitted_in, Frame, Frames, behind, writes, copies, cells_at, if_all, goes_on, leaves, stores_text, puts_text, text_at, length_in, character_cells, rooted, frames_with, memory_with}
use Rattle.aos_store.specs.declared.frames.Frames.{Frames as KeptFrames}
use Rattle.aos_store.specs.Store.{list_in, frames_in, with_frames, has_all, read_all}
use Rattle.aos_cpu.specs.Answers.{Made, IsAnswered, IsBehind, IsFitted}

-- no turn is made but a trap
pub lost_made : (old : KeptFrames) (f : Frame) (fs : List Frame) (mem : Memory) (n c : ℕ) (out : List ℕ) → list_in old.list.items ≡ f ∷ fs → Made (leaves (reverse old.following.items) (Trapped n c) (f ∷ fs) mem) false (Trapped n c) (frames_in old) mem out out
lost_made old f fs mem n c out is =
    record {
      store = refl;
      frames = λ i. (let x : Frames = record { following = reverse old.following.items; frames = sym is i } in x);
      output = sym (append-nil out);
      begun = refl;
      left = refl;
    }

went_made : (old new : KeptFrames) (f : Frame) (fs : List Frame) (mem : Memory) (at taken : ℕ) (above : Stack) (out : List ℕ) → list_in old.list.items ≡ f ∷ fs → IsBehind at taken above old new →
    Made (goes_on (reverse old.following.items) (behind (reverse old.following.items) at f.keeps (above ++ drop taken f.stack) f ∷ fs) mem) false Went (frames_in new) mem out out
went_made old new f fs mem at taken above out is b = record { store = refl; frames = sym (b f fs is); output = sym (append-nil out); begun = refl; left = refl }

pub nothing_made : (old new : KeptFrames) (mem : Memory) (at : ℕ) (out : List ℕ) → IsBehind at 0 [] old new → IsAnswered PutsNothing at 0 old new mem mem Went out out
nothing_made old new mem at out b shapes types f fs is = went_made old new f fs mem at 0 [] out is b

-- Cells are changed, and the topmost frame goes on behind.

-- in either order
after : (r : Root) (g : List Cell → List Cell) (at taken : ℕ) (f : Frame) (fs : List Frame) (following : List ℕ) (new : Frames) →
    ((f' : Frame) (fs' : List Frame) → frames_with r g (f ∷ fs) ≡ f' ∷ fs' → new ≡ record { following = following; frames = behind [] at f'.keeps (drop taken f'.stack) f' ∷ fs' }) →
    new ≡ record { following = following; frames = frames_with r g (behind [] at f.keeps (drop taken f.stack) f ∷ fs) }
after (FrameRoot d) g at taken f fs following new h = by (nat_eq d (length fs)) h
  where
    by : (b : Bool) →
        ((f' : Frame) (fs' : List Frame) → (if b then record f { cells = g f.cells } ∷ fs else f ∷ change_from_last d (λ x. record x { cells = g x.cells }) fs) ≡ f' ∷ fs' →
        new ≡ record { following = following; frames = behind [] at f'.keeps (drop taken f'.stack) f' ∷ fs' }) →
        new ≡ record { following = following; frames = (let b' = behind [] at f.keeps (drop taken f.stack) f in if b then record b' { cells = g b'.cells } ∷ fs else b' ∷ change_from_last d (λ x. record x { cells = g x.cells }) fs) }
    by true h = h (record f { cells = g f.cells }) fs refl
    by false h = h f (change_from_last d (λ x. record x { cells = g x.cells }) fs) refl
after (ModuleRoot m) g at taken f fs following new h = h f fs refl
after (ObjectRoot o) g at taken f fs following new h = h f fs refl

-- the cells are stored, or there are none to be stored in
pub stored_made : (old mid new : KeptFrames) (mem now : Memory) (f : Frame) (fs : List Frame) (to : Addr) (vs : List Cell) (at taken : ℕ) (out : List ℕ) → list_in old.list.items ≡ f ∷ fs →
    frames_in mid ≡ with_frames to.root (spliced to.cell vs) old → now ≡ memory_with to.root (spliced to.cell vs) mem → IsBehind at taken [] mid new →
    Made (writes (reverse old.following.items) true to vs (asker at f.keeps (drop taken f.stack) f fs mem)) false Went (frames_in new) now out out
stored_made old mid new mem now f fs to vs at taken out is ef em b =
    let fol = reverse old.following.items in
    let g = spliced to.cell vs in
    let list : list_in mid.list.items ≡ frames_with to.root g (f ∷ fs) = ap (λ (x : Frames). x.frames) ef ∙ ap (frames_with to.root g) is in
    let same : reverse mid.following.items ≡ fol = ap (λ (x : Frames). x.following) ef in
    record {
      store = sym em;
      frames = sym (after to.root g at taken f fs fol (frames_in new) (λ f' fs' e. b f' fs' (list ∙ e) ∙ (λ i. (let x : Frames = record { following = same i; frames = behind [] at f'.keeps (drop taken f'.stack) f' ∷ fs' } in x))));
      output = sym (append-nil out);
      begun = refl;
      left = refl;
    }

pub write_made : (old mid new : KeptFrames) (mem now : Memory) (a : Addr) (v : Cell) (at : ℕ) (out : List ℕ) → true ≡ is_some (load a.root a.cell (rooted (list_in old.list.items) mem)) →
    frames_in mid ≡ with_frames a.root (spliced a.cell (v ∷ [])) old → now ≡ memory_with a.root (spliced a.cell (v ∷ [])) mem → IsBehind at 2 [] mid new → IsAnswered (Stores a v) at 2 old new mem now Went out out
write_made old mid new mem now a v at out there ef em b shapes types f fs is =
    subst (λ b. Made (writes (reverse old.following.items) b a (v ∷ []) (asker at f.keeps (drop 2 f.stack) f fs mem)) false Went (frames_in new) now out out)
    (there ∙ ap (λ l. is_some (load a.root a.cell (rooted l mem))) is) (stored_made old mid new mem now f fs a (v ∷ []) at 2 out is ef em b)

-- Cells are copied, where there are such cells.

-- so many cells from a place on, where there are so many
cells_at_is : (n c : ℕ) (o : Option (List Cell)) → option_and_then (if_all n) (option_map (λ cells. take n (drop c cells)) o) ≡ (if has_all n c o then Some (read_all n c o) else None)
cells_at_is n c None = refl
cells_at_is n c (Some cs) = ap (λ b. if b then Some (take n (drop c cs)) else None) same
  where
    same : nat_eq (length (take n (drop c cs))) n ≡ nat_le n (length cs - c)
    same =
        elim (eqb_tells (length (take n (drop c cs))) n) [
          | inl p ↦ elim (leb_tells n (length cs - c)) [ inl q ↦ p.0 ∙ sym q.0 | inr q ↦ absurd (omega (arith, p.1, q.1, length-take n (drop c cs), length-drop c cs)) ]
          | inr p ↦ elim (leb_tells n (length cs - c)) [ inl q ↦ absurd (p.1 (omega (arith, q.1, length-take n (drop c cs), length-drop c cs))) | inr q ↦ p.0 ∙ sym q.0 ]
        ]

is_some_if : {A : Type 0} (b : Bool) (x : A) → is_some (if b then Some x else None) ≡ b
is_some_if true x = refl
is_some_if false x = refl

pub if_there : (n : ℕ) (a : Addr) (x : Rooted (List Cell)) → is_some (cells_at n a x) ≡ has_all n a.cell (at_root a.root x)
if_there n a x = ap is_some (cells_at_is n a.cell (at_root a.root x)) ∙ is_some_if (has_all n a.cell (at_root a.root x)) (read_all n a.cell (at_root a.root x))

-- how cells are copied, by whether there are both
copied_by : (following : List ℕ) (n : ℕ) (from to : Addr) (at : ℕ) (f : Frame) (fs : List Frame) (mem : Memory) (x : Rooted (List Cell)) (p q : Bool) → p ≡ has_all n from.cell (at_root from.root x) → q ≡ has_all n to.cell (at_root to.root x) →
    copies following (cells_at n from x) (is_some (cells_at n to x)) to (asker at f.keeps (drop 2 f.stack) f fs mem) ≡ writes following (p && q) to (read_all n from.cell (at_root from.root x)) (asker at f.keeps (drop 2 f.stack) f fs mem)
copied_by following n from to at f fs mem x true q p' q' =
    let o = at_root from.root x in
    let read : cells_at n from x ≡ Some (read_all n from.cell o) = cells_at_is n from.cell o ∙ ap (λ b. if b then Some (read_all n from.cell o) else None) (sym p') in
    (λ i. copies following (read i) (is_some (cells_at n to x)) to (asker at f.keeps (drop 2 f.stack) f fs mem)) ∙ ap (λ b. writes following b to (read_all n from.cell o) (asker at f.keeps (drop 2 f.stack) f fs mem)) (if_there n to x ∙ sym q')
copied_by following n from to at f fs mem x false q p' q' =
    let o = at_root from.root x in
    let read : cells_at n from x ≡ None = cells_at_is n from.cell o ∙ ap (λ b. if b then Some (read_all n from.cell o) else None) (sym p') in
    λ i. copies following (read i) (is_some (cells_at n to x)) to (asker at f.keeps (drop 2 f.stack) f fs mem)

-- whether there are both
abbrev both_there : ℕ → Addr → Addr → Rooted (List Cell) → Bool
both_there n from to x = has_all n from.cell (at_root from.root x) && has_all n to.cell (at_root to.root x)

pub copy_made : (old mid new : KeptFrames) (mem now : Memory) (n : ℕ) (from to : Addr) (at : ℕ) (out : List ℕ) → true ≡ both_there n from to (rooted (list_in old.list.items) mem) →
    frames_in mid ≡ with_frames to.root (spliced to.cell (read_all n from.cell (at_root from.root (rooted (list_in old.list.items) mem)))) old →
    now ≡ memory_with to.root (spliced to.cell (read_all n from.cell (at_root from.root (rooted (list_in old.list.items) mem)))) mem →
    IsBehind at 2 [] mid new → IsAnswered (Copies n from to) at 2 old new mem now Went out out
copy_made old mid new mem now n from to at out there ef em b shapes types f fs is =
    let fol = reverse old.following.items in
    let x = rooted (f ∷ fs) mem in
    let vs = read_all n from.cell (at_root from.root x) in
    let same : read_all n from.cell (at_root from.root (rooted (list_in old.list.items) mem)) ≡ vs = ap (λ l. read_all n from.cell (at_root from.root (rooted l mem))) is in
    let turn : writes fol true to vs (asker at f.keeps (drop 2 f.stack) f fs mem) ≡ copies fol (cells_at n from x) (is_some (cells_at n to x)) to (asker at f.keeps (drop 2 f.stack) f fs mem) =
    ap (λ b. writes fol b to vs (asker at f.keeps (drop 2 f.stack) f fs mem)) (there ∙ ap (λ l. both_there n from to (rooted l mem)) is) ∙ sym (copied_by fol n from to at f fs mem x _ _ refl refl) in
    subst (λ t. Made t false Went (frames_in new) now out out) turn
    (stored_made old mid new mem now f fs to vs at 2 out is (ef ∙ ap (λ ws. with_frames to.root (spliced to.cell ws) old) same) (em ∙ ap (λ ws. memory_with to.root (spliced to.cell ws) mem) same) b)

-- A text is stored, where it has room and there are such cells.

module _ (following : List ℕ) (strict : Bool) (to : Addr) (x : Rooted (List Cell)) (at : ℕ) (k : Keeps) (s : Stack) (f : Frame) (fs : List Frame) (mem : Memory) (cs : List ℕ) where
  text_stored : (b : Bool) (text : Option (List ℕ)) (room : Option ℕ) (trap : ℕ) → IsFitted strict text room cs trap → trap ≡ 0 → b ≡ has_all (length cs) to.cell (at_root to.root x) →
      puts_text following (fitted_in following strict text room) to x (asker at k s f fs mem) ≡ writes following b to (character_cells [] cs) (asker at k s f fs mem)
  text_stored b None room trap h z there = let w : 16 ≡ 0 = sym h ∙ z in absurd (cc w)
  text_stored b (Some text) None trap h z there = let w : 16 ≡ 0 = sym h ∙ z in absurd (cc w)
  text_stored b (Some text) (Some room) trap h z there =
      ap (λ o. stores_text following o to x (asker at k s f fs mem)) (h.0 ∙ ap (λ n. if nat_eq n 0 then Some cs else None) z)
      ∙ ap (λ c. writes following c to (character_cells [] cs) (asker at k s f fs mem)) (if_there (length cs) to x ∙ sym there)

pub text_lost : (old new : KeptFrames) (mem now : Memory) (strict : Bool) (from : Addr) (n : Cell) (to : Addr) (room : Cell) (at : ℕ) (out cs : List ℕ) (trap : ℕ) →
    IsFitted strict (text_at [] from n (rooted (list_in old.list.items) mem)) (length_in [] room) cs trap → trap ≡ 0 → false ≡ has_all (length cs) to.cell (at_root to.root (rooted (list_in old.list.items) mem)) →
    frames_in new ≡ frames_in old → now ≡ mem → IsAnswered (PutsText strict from n to room) at 4 old new mem now (Trapped 16 0) out out
text_lost old new mem now strict from n to room at out cs trap h z lost ef em shapes types f fs is =
    let fol = reverse old.following.items in
    let x = rooted (f ∷ fs) mem in
    let fits = subst (λ l. IsFitted strict (text_at [] from n (rooted l mem)) (length_in [] room) cs trap) is h in
    let turn = text_stored fol strict to x at f.keeps (drop 4 f.stack) f fs mem cs false (text_at [] from n x) (length_in [] room) trap fits z (lost ∙ ap (λ l. has_all (length cs) to.cell (at_root to.root (rooted l mem))) is) in
    subst (λ t. Made t false (Trapped 16 0) (frames_in new) now out out) (sym turn)
    (subst (λ (p : Frames × Memory). Made (leaves fol (Trapped 16 0) (f ∷ fs) mem) false (Trapped 16 0) p.0 p.1 out out) (λ i. (sym ef i, sym em i)) (lost_made old f fs mem 16 0 out is))

pub text_made : (old mid new : KeptFrames) (mem now : Memory) (strict : Bool) (from : Addr) (n : Cell) (to : Addr) (room : Cell) (at : ℕ) (out cs : List ℕ) (trap : ℕ) →
    IsFitted strict (text_at [] from n (rooted (list_in old.list.items) mem)) (length_in [] room) cs trap → trap ≡ 0 → true ≡ has_all (length cs) to.cell (at_root to.root (rooted (list_in old.list.items) mem)) →
    frames_in mid ≡ with_frames to.root (spliced to.cell (character_cells [] cs)) old → now ≡ memory_with to.root (spliced to.cell (character_cells [] cs)) mem → IsBehind at 4 [] mid new →
    IsAnswered (PutsText strict from n to room) at 4 old new mem now Went out out
text_made old mid new mem now strict from n to room at out cs trap h z there ef em b shapes types f fs is =
    let fol = reverse old.following.items in
    let x = rooted (f ∷ fs) mem in
    let fits = subst (λ l. IsFitted strict (text_at [] from n (rooted l mem)) (length_in [] room) cs trap) is h in
    let turn = text_stored fol strict to x at f.keeps (drop 4 f.stack) f fs mem cs true (text_at [] from n x) (length_in [] room) trap fits z (there ∙ ap (λ l. has_all (length cs) to.cell (at_root to.root (rooted l mem))) is) in
    subst (λ t. Made t false Went (frames_in new) now out out) (sym turn) (stored_made old mid new mem now f fs to (character_cells [] cs) at 4 out is ef em b)
