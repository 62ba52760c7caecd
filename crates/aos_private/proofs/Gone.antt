-- Whether an answer comes, by what it needs.
use Rattle.std.proofs.Common.{◌≡◌, ◌<◌, ◌≤◌, ℕ, zero, suc, ◌+◌, ◌-◌, List, [], ◌∷◌, ◌++◌, length, take, drop, reverse, get_or, refl, sym, ap, ◌∙◌, arith}
use Rattle.std.specs.Prelude.{Bool, true, false, not, ◌&&◌, nat_lt, Option, Some, None, is_some, option_map, if◌then◌else◌}
use Rattle.std.proofs.lemmas.List.{length-append, length-take, drop_all}
use Rattle.aos_base.specs.declared.kernel.Did.TheVariants.{Trapped}
use Rattle.aos_base.specs.declared.number.Relation.{Relation}
use Rattle.aos_base.specs.Rooted.{Rooted, at_root}
use Rattle.aos_code.specs.declared.instr.Cell.{Cell}
use Rattle.aos_code.specs.declared.instr.Kind.{Kind}
use Rattle.aos_code.specs.declared.image.Image.{Image}
use Rattle.aos_code.specs.declared.image.ProcShape.{ProcShape}
use Rattle.aos_code.specs.declared.image.TypeDesc.{TypeDesc}
use Rattle.aos_code.specs.Memory.{Memory, Addr}
use Rattle.aos_base.specs.Question.{Ends}
use Rattle.aos_code.specs.Silent.{Stack, Keeps, is_of}
use Rattle.aos_code.specs.Machine.{asker, fitted_in, object_of, arguments_of, Frame, Frames, works, rooted, cells_at, leaves, goes_on, behind, reads, writes, copies, stores_text, fitted, puts_text, compares, enters, called_frame, calls_with, calls, goes, stop_of, handed, text_in, code_in, character_then, character_cells}
use Rattle.aos_store.specs.declared.frames.Frames.{Frames as KeptFrames}
use Rattle.aos_store.specs.Store.{list_in, frames_in, has_all, deep}
use Rattle.aos_silent_steps.specs.declared.silent.Stop.{Stop as KeptStop}
use Rattle.aos_cpu.specs.Answers.{ordered}
use Rattle.aos_cpu.specs.Calls.{Gift, gifts, all_copied}
use Rattle.aos_cpu.specs.Turns.{Alike, StandsAtStop}
use Rattle.aos_cpu.specs.Private.{no_memory, made_by, has_gone, is_own_stop, is_own_turn, is_private}
use Rattle.aos_cpu.proofs.Behind.{if_there}
use Rattle.aos_cpu.proofs.Characters.{text_from}
use Rattle.aos_cpu.proofs.Handing.{handed_gifts, put_as}
use Rattle.aos_cpu.proofs.Own.{own_alike}
use Rattle.aos_cpu.proofs.Turns.{turn_alike}
use Rattle.aos_private.specs.Answered.{holds, stored_len, has_cells, takes_text, TellsStop}

-- whatever frames the activity has, and at whatever place it stands
module _ (following : List ℕ) (at : ℕ) (k : Keeps) (s : Stack) (f : Frame) (fs : List Frame) (mem : Memory) where
  if_gone : (b : Bool) (v : Cell) → b ≡ has_gone (if b then goes_on following (behind following at k (v ∷ s) f ∷ fs) mem else leaves following (Trapped 16 0) (f ∷ fs) mem).left
  if_gone true v = refl
  if_gone false v = refl

  pub read_gone : (kind : Kind) (o : Option Cell) → holds kind o ≡ has_gone (reads following kind o (asker at k s f fs mem)).left
  read_gone kind None = refl
  read_gone kind (Some v) = if_gone (is_of kind v) v

  pub write_gone : (b : Bool) (a : Addr) (vs : List Cell) → b ≡ has_gone (writes following b a vs (asker at k s f fs mem)).left
  write_gone true a vs = refl
  write_gone false a vs = refl

  copy_gone : (o : Option (List Cell)) (b : Bool) (to : Addr) → (is_some o && b) ≡ has_gone (copies following o b to (asker at k s f fs mem)).left
  copy_gone None b to = refl
  copy_gone (Some vs) b to = write_gone b to vs

  pub copies_gone : (n : ℕ) (from to : Addr) (x : Rooted (List Cell)) →
      (has_all n from.cell (at_root from.root x) && has_all n to.cell (at_root to.root x)) ≡ has_gone (copies following (cells_at n from x) (is_some (cells_at n to x)) to (asker at k s f fs mem)).left
  copies_gone n from to x = (λ i. sym (if_there n from x) i && sym (if_there n to x) i) ∙ copy_gone (cells_at n from x) (is_some (cells_at n to x)) to

  pub compare_gone : (r : Relation) (o p : Option (List ℕ)) → is_some (ordered o p) ≡ has_gone (compares following r o p (asker at k s f fs mem)).left
  compare_gone r (Some a) (Some b) = refl
  compare_gone r (Some a) None = refl
  compare_gone r None p = refl

  -- the end of a frame whose region isn't open
  pub end_gone : (shapes : List ProcShape) (types : List TypeDesc) (r : Option Cell) (b : Bool) → b ≡ has_gone (works following shapes types b (Ends r) (asker at k s f fs mem)).left
  end_gone shapes types r true = refl
  end_gone shapes types r false = refl

  -- as many characters are stored as the length of the text tells
  fitted_len : (strict : Bool) (room : ℕ) (cs : List ℕ) → stored_len strict room (length cs) ≡ option_map length (fitted following strict room cs)
  fitted_len true room cs = by (nat_lt (length cs) room)
    where
      by : (b : Bool) → (if b then Some (length cs + 1) else None) ≡ option_map length (if b then Some (cs ++ 0 ∷ []) else None)
      by true = ap Some (sym (length-append cs (0 ∷ [])))
      by false = refl
  fitted_len false room cs = ap Some (sym (length-append (take (room - 1) cs) (0 ∷ []) ∙ ap (λ n. n + 1) (length-take (room - 1) cs)))

  store_gone : (o : Option (List ℕ)) (to : Addr) (x : Rooted (List Cell)) → has_cells (option_map length o) to x ≡ has_gone (stores_text following o to x (asker at k s f fs mem)).left
  store_gone None to x = refl
  store_gone (Some cs) to x = sym (if_there (length cs) to x) ∙ write_gone (is_some (cells_at (length cs) to x)) to (character_cells following cs)

  pub text_gone : (strict : Bool) (o : Option (List ℕ)) (room : Option ℕ) (to : Addr) (x : Rooted (List Cell)) → takes_text strict (option_map length o) room to x ≡ has_gone (puts_text following (fitted_in following strict o room) to x (asker at k s f fs mem)).left
  text_gone strict None room to x = refl
  text_gone strict (Some cs) None to x = refl
  text_gone strict (Some cs) (Some room) to x = ap (λ o. has_cells o to x) (fitted_len strict room cs) ∙ store_gone (fitted following strict room cs) to x

  enter_gone : (b c : Bool) (g : Frame) → c ≡ not b → c ≡ has_gone (enters following b g (asker at k s f fs mem)).left
  enter_gone true c g e = e
  enter_gone false c g e = e

  handed_is : (shape : ProcShape) (vs : List Cell) (o : Option (List Gift)) → gifts (rooted (f ∷ fs) mem) shape.params.items vs ≡ o →
      handed following (suc (length fs)) (rooted (f ∷ fs) mem) shape.params.items vs (length shape.kinds.items)
      ≡ option_map (put_as following (suc (length fs)) (rooted (f ∷ fs) mem) (length shape.kinds.items)) o
  handed_is shape vs o e =
      handed_gifts following (suc (length fs)) (rooted (f ∷ fs) mem) shape.params.items vs (length shape.kinds.items)
      ∙ ap (option_map (put_as following (suc (length fs)) (rooted (f ∷ fs) mem) (length shape.kinds.items))) e

  -- a call whose arguments can't be handed over
  pub call_lost : (shape : ProcShape) (p : ℕ) (vs : List Cell) → gifts (rooted (f ∷ fs) mem) shape.params.items (arguments_of shape.method vs) ≡ None → false ≡ has_gone (calls following (Some shape) p vs (asker at k s f fs mem)).left
  call_lost shape p vs e = ap (λ h. has_gone (calls_with following (option_map (called_frame following p (object_of shape.method vs) shape) h) (asker at k s f fs mem)).left) (sym (handed_is shape (arguments_of shape.method vs) None e))

  -- one whose arguments can be, where the frame isn't one too many
  pub call_gone : (shape : ProcShape) (p : ℕ) (vs : List Cell) (gs : List Gift) (is : Bool) → gifts (rooted (f ∷ fs) mem) shape.params.items (arguments_of shape.method vs) ≡ Some gs →
      is ≡ not (deep (shape.counted + length (all_copied gs)) (f ∷ fs)) → is ≡ has_gone (calls following (Some shape) p vs (asker at k s f fs mem)).left
  call_gone shape p vs gs is e h =
      let given = put_as following (suc (length fs)) (rooted (f ∷ fs) mem) (length shape.kinds.items) gs in
      enter_gone (deep (shape.counted + length (all_copied gs)) (f ∷ fs)) is (called_frame following p (object_of shape.method vs) shape given) h
      ∙ ap (λ x. has_gone (calls_with following (option_map (called_frame following p (object_of shape.method vs) shape) x) (asker at k s f fs mem)).left) (sym (handed_is shape (arguments_of shape.method vs) (Some gs) e))

-- turns of frames that are alike are private alike
pub private_alike : (image : Image) (fs gs : Frames) → Alike image (made_by []) fs gs → is_private image fs ≡ is_private image gs
private_alike image fs gs h = λ i. own_alike image fs gs h i && has_gone ((turn_alike image no_memory fs gs h).left i)

-- How many characters a text has, one cell after the other.

pub len_first : (o : Option (List ℕ)) → option_map length o ≡ option_map (λ cs. 0 + length cs) o
len_first None = refl
len_first (Some cs) = let z : length cs ≡ 0 + length cs = omega arith in ap Some z

module _ (vs : List Cell) (i : ℕ) (d : Cell) (lt : i < length vs) (whole : Option ℕ) (so_far : whole ≡ option_map (λ (cs : List ℕ). i + length cs) (text_in [] (drop i vs))) where
  from_here : (c : Option ℕ) → c ≡ code_in [] (get_or vs i d) → whole ≡ option_map (λ (cs : List ℕ). i + length cs) (character_then [] c (text_in [] (drop (i + 1) vs)))
  from_here c e =
      so_far ∙ ap (option_map (λ (cs : List ℕ). i + length cs)) (text_from vs i d lt ∙ ap (λ x. character_then [] x (text_in [] (drop (i + 1) vs))) (sym e))

  pub len_lost : None ≡ code_in [] (get_or vs i d) → None ≡ whole
  len_lost e = sym (from_here None e)

  pub len_end : (c : ℕ) → Some c ≡ code_in [] (get_or vs i d) → c ≡ 0 → Some i ≡ whole
  len_end c e none = let z : i + 0 ≡ i = omega arith in sym (from_here (Some 0) (ap Some (sym none) ∙ e) ∙ ap Some z)

  pub len_more : (c : ℕ) → Some c ≡ code_in [] (get_or vs i d) → 0 < c → whole ≡ option_map (λ (cs : List ℕ). i + 1 + length cs) (text_in [] (drop (i + 1) vs))
  len_more zero e some = absurd (omega (arith, some))
  len_more (suc c) e some = from_here (Some (suc c)) e ∙ more (text_in [] (drop (i + 1) vs))
    where
      more : (o : Option (List ℕ)) → option_map (λ (cs : List ℕ). i + length cs) (option_map (λ (cs : List ℕ). suc c ∷ cs) o) ≡ option_map (λ (cs : List ℕ). i + 1 + length cs) o
      more None = refl
      more (Some cs) = let z : i + suc (length cs) ≡ i + 1 + length cs = omega arith in ap Some z

pub len_all : (vs : List Cell) (i : ℕ) (whole : Option ℕ) → length vs ≤ i → i ≤ length vs → whole ≡ option_map (λ (cs : List ℕ). i + length cs) (text_in [] (drop i vs)) → Some (length vs) ≡ whole
len_all vs i whole past within so_far =
    let z : i + 0 ≡ length vs = omega (arith, past, within) in
    sym (so_far ∙ ap (λ xs. option_map (λ (cs : List ℕ). i + length cs) (text_in [] xs)) (drop_all i vs past) ∙ ap Some z)

-- Turns of frames that stand where their silent work ends.

and_if : (a g h : Bool) → (a ≡ true → g ≡ h) → (a && g) ≡ (a && h)
and_if true g h e = e refl
and_if false g h e = refl

pub private_stop : (image : Image) (stop : KeptStop) (frames : KeptFrames) (mem : Memory) (is : Bool) → StandsAtStop image (made_by []) stop (list_in frames.list.items) → mem ≡ no_memory → TellsStop is image.shapes.items image.types.items stop frames mem →
    (is_own_turn image (frames_in frames) && is) ≡ is_private image (frames_in frames)
private_stop image stop frames mem is stands none tells = by_list (list_in frames.list.items) refl stands
  where
    by_list : (l : List Frame) → list_in frames.list.items ≡ l → StandsAtStop image (made_by []) stop l → (is_own_turn image (frames_in frames) && is) ≡ is_private image (frames_in frames)
    by_list [] e x = absurd x
    by_list (f ∷ fs) e x =
        let shapes = image.shapes.items in
        let fol = reverse frames.following.items in
        let now = λ (l : List Frame). let y : Frames = record { following = fol; frames = l } in y in
        let goes_so : is_own_stop shapes (stop_of image (made_by []) f fs) ≡ true → is ≡ has_gone (goes fol shapes image.types.items (stop_of image (made_by []) f fs) f fs no_memory).left =
        λ own. tells f fs e (ap (is_own_stop shapes) (sym x.0) ∙ own) fol ∙ (λ i. has_gone (goes fol shapes image.types.items (sym x.0 i) f fs (none i)).left) in
        ap (λ l. is_own_turn image (now l) && is) e ∙ and_if (is_own_stop shapes (stop_of image (made_by []) f fs)) is (has_gone (goes fol shapes image.types.items (stop_of image (made_by []) f fs) f fs no_memory).left) goes_so
        ∙ ap (λ l. is_private image (now l)) (sym e)
