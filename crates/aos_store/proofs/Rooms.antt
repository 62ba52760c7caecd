-- Room in frames of which one changes, or is put above the others, or ends.
use Rattle.std.proofs.Common.{◌≡◌, ◌<◌, ◌≤◌, ◌+◌, ◌-◌, ◌^◌, ◌⊎◌, ℕ, zero, suc, List, [], ◌∷◌, ◌++◌, length, replicate, reverse, refl, inl, inr, sym, ap, ◌∙◌, subst, arith, length-drop}
use Rattle.std.specs.Prelude.{Bool, true, false, Some, nat_lt, slice_get, slice_set, sum_by, pos, vec_capacity, if◌then◌else◌}
use Rattle.std.proofs.lemmas.Bool.{ltb-true}
use Rattle.std.proofs.lemmas.List.{length-append, length-map, length-replicate, length-reverse, length-set}
use Rattle.std.proofs.lemmas.Option.{slice_get_within}
use Rattle.aos_base.specs.declared.limits.TheConstants.{MOST_FRAME_SCALARS, MOST_FRAMES}
use Rattle.aos_code.specs.declared.instr.Cell.{Cell}
use Rattle.aos_code.specs.declared.instr.Cell.TheVariants.{Num}
use Rattle.aos_code.specs.Machine.{Frame}
use Rattle.aos_store.specs.declared.frames.Frame.{Frame as KeptFrame}
use Rattle.aos_store.specs.Store.{frame_in, list_in, kept_cells, deep}
use Rattle.aos_store.specs.Room.{HasMoreRoom, IsRoomyFor, AreRoomyFor, HasRoom}

-- what stands in a list in which one has been set, or that has one more, or is the front of another one
pub set_get : {A : Type 0} (xs : List A) (m i : ℕ) (y x : A) → slice_get (slice_set xs m y) i ≡ Some x → (x ≡ y) ⊎ (slice_get xs i ≡ Some x)
set_get [] m i y x e = inr e
set_get (z ∷ xs) zero zero y x e = let same : y ≡ x = cc e in inl (sym same)
set_get (z ∷ xs) zero (suc i) y x e = inr e
set_get (z ∷ xs) (suc m) zero y x e = inr e
set_get (z ∷ xs) (suc m) (suc i) y x e = set_get xs m i y x e

more_get : {A : Type 0} (xs : List A) (i : ℕ) (y x : A) → slice_get (xs ++ y ∷ []) i ≡ Some x → (x ≡ y) ⊎ (slice_get xs i ≡ Some x)
more_get [] zero y x e = let same : y ≡ x = cc e in inl (sym same)
more_get [] (suc i) y x e = absurd (cc e)
more_get (z ∷ xs) zero y x e = inr e
more_get (z ∷ xs) (suc i) y x e = more_get xs i y x e

front_get : {A : Type 0} (xs ys : List A) (i : ℕ) (x : A) → slice_get xs i ≡ Some x → slice_get (xs ++ ys) i ≡ Some x
front_get [] ys i x e = absurd (cc e)
front_get (z ∷ xs) ys zero x e = e
front_get (z ∷ xs) ys (suc i) x e = front_get xs ys i x e

last_get : {A : Type 0} (xs : List A) (y : A) → slice_get (xs ++ y ∷ []) (length xs) ≡ Some y
last_get [] y = refl
last_get (x ∷ xs) y = last_get xs y

-- no more room is lost by two steps than by each
pub more_room : (f g h : KeptFrame) → HasMoreRoom f g → HasMoreRoom g h → HasMoreRoom f h
more_room f g h a b =
    record { procedure = b.procedure ∙ a.procedure; operands = omega (arith, a.operands, b.operands); kept = omega (arith, a.kept, b.kept) }

module _ (depths keeps : ℕ → ℕ) where
  -- there is none
  pub none_roomy : (fs : List KeptFrame) → length fs ≡ 0 → AreRoomyFor depths keeps fs
  none_roomy fs none = record { each = λ i f at. (let lt = slice_get_within fs i f at in absurd (omega (arith, lt, none))); few = omega (arith, none) }

  pub still_roomy_for : (f g : KeptFrame) → HasMoreRoom f g → IsRoomyFor depths keeps f → IsRoomyFor depths keeps g
  still_roomy_for f g more roomy =
      let d : depths g.procedure ≡ depths f.procedure = ap depths more.procedure in
      let k : keeps g.procedure ≡ keeps f.procedure = ap keeps more.procedure in
      record { operands = omega (arith, d, more.operands, roomy.operands); kept = omega (arith, k, more.kept, roomy.kept) }

  -- one of them is another one now
  pub roomy_set : (fs : List KeptFrame) (m : ℕ) (f g : KeptFrame) → slice_get fs m ≡ Some f → HasMoreRoom f g → AreRoomyFor depths keeps fs → AreRoomyFor depths keeps (slice_set fs m g)
  roomy_set fs m f g here more roomy =
      record {
        each = λ i x e.
            elim (set_get fs m i g x e) [
              | inl same ↦ subst (IsRoomyFor depths keeps) (sym same) (still_roomy_for f g more (roomy.each m f here))
              | inr was ↦ roomy.each i x was
            ];
        few = omega (arith, roomy.few, length-set fs m g);
      }

  -- there is one more
  pub roomy_more : (fs : List KeptFrame) (f : KeptFrame) → AreRoomyFor depths keeps fs → IsRoomyFor depths keeps f → length fs + 1 < 2 ^ 32 → AreRoomyFor depths keeps (fs ++ f ∷ [])
  roomy_more fs f roomy one few =
      let long : length (fs ++ f ∷ []) ≡ length fs + 1 = length-append fs (f ∷ []) in
      record {
        each = λ i x e.
            elim (more_get fs i f x e) [ inl same ↦ subst (IsRoomyFor depths keeps) (sym same) one | inr was ↦ roomy.each i x was ];
        few = omega (arith, long, few);
      }

  -- those behind are gone
  pub roomy_front : (fs gs hs : List KeptFrame) → fs ≡ gs ++ hs → AreRoomyFor depths keeps fs → AreRoomyFor depths keeps gs
  roomy_front fs gs hs e roomy =
      let long : length fs ≡ length gs + length hs = ap length e ∙ length-append gs hs in
      record { each = λ i x at. roomy.each i x (ap (λ l. slice_get l i) e ∙ front_get gs hs i x at); few = omega (arith, long, roomy.few) }

  -- the last one is another one now
  last_roomy : (fs gs : List KeptFrame) (f : KeptFrame) → fs ≡ gs ++ f ∷ [] → AreRoomyFor depths keeps fs → IsRoomyFor depths keeps f
  last_roomy fs gs f e roomy = roomy.each (length gs) f (ap (λ l. slice_get l (length gs)) e ∙ last_get gs f)

  pub roomy_last : (fs gs hs : List KeptFrame) (f g : KeptFrame) → fs ≡ gs ++ f ∷ [] → hs ≡ gs ++ g ∷ [] → HasMoreRoom f g → AreRoomyFor depths keeps fs → AreRoomyFor depths keeps hs
  roomy_last fs gs hs f g e h more roomy =
      let long : length fs ≡ length gs + 1 = ap length e ∙ length-append gs (f ∷ []) in
      subst (AreRoomyFor depths keeps) (sym h)
      (roomy_more gs g (roomy_front fs gs (f ∷ []) e roomy) (still_roomy_for f g more (last_roomy fs gs f e roomy)) (omega (arith, long, roomy.few)))

  -- it is behind others now
  pub roomy_back : (fs gs hs ks : List KeptFrame) (f : KeptFrame) → fs ≡ gs ++ f ∷ [] → ks ≡ hs ++ f ∷ [] → length hs ≡ length gs → AreRoomyFor depths keeps hs → AreRoomyFor depths keeps fs →
      AreRoomyFor depths keeps ks
  roomy_back fs gs hs ks f e h len front roomy =
      let long : length fs ≡ length gs + 1 = ap length e ∙ length-append gs (f ∷ []) in
      subst (AreRoomyFor depths keeps) (sym h) (roomy_more hs f front (last_roomy fs gs f e roomy) (omega (arith, long, len, roomy.few)))

-- frames above which there may be one more
pub shallow : (counted : ℕ) (fs : List KeptFrame) → deep counted (list_in fs) ≡ false → length fs < MOST_FRAMES
shallow counted fs e = by (nat_lt (length (list_in fs)) MOST_FRAMES) refl e
  where
    by : (b : Bool) → nat_lt (length (list_in fs)) MOST_FRAMES ≡ b → (if b then nat_lt MOST_FRAME_SCALARS (counted + sum_by (λ (f : Frame). f.counted) (list_in fs)) else true) ≡ false → length fs < MOST_FRAMES
    by true lt g =
        let h = ltb-true (length (list_in fs)) MOST_FRAMES lt in
        let long = length-map (reverse fs) frame_in in
        let same = length-reverse fs in
        omega (arith, h, long, same)
    by false lt g = absurd (cc g)

-- a frame whose cells end with zeros keeps values in all of these
kept_made : (f : KeptFrame) (front : List Cell) → f.cells.items ≡ front ++ replicate f.keeps (Num (pos 0)) → length (kept_cells f) ≡ f.keeps
kept_made f front e =
    let back = replicate f.keeps (Num (pos 0)) in
    let long : length f.cells.items ≡ length front + length back = ap length e ∙ length-append front back in
    omega (arith, long, length-replicate f.keeps (Num (pos 0)), length-drop (length f.cells.items - f.keeps) f.cells.items)

pub made_roomy : (p d : ℕ) (f : KeptFrame) (front : List Cell) → f.procedure ≡ p → d ≤ vec_capacity f.operands → f.cells.items ≡ front ++ replicate f.keeps (Num (pos 0)) → HasRoom p d f.keeps f
made_roomy p d f front own cap e depths keeps le many =
    let kept = kept_made f front e in
    let a : depths f.procedure ≡ depths p = ap depths own in
    let b : keeps f.procedure ≡ keeps p = ap keeps own in
    record { operands = omega (arith, a, le, cap); kept = omega (arith, b, many, kept) }
