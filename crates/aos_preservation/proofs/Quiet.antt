-- Questions that are answered at once get answers of their sorts: the frame's own variables fit their shape, and what objects are made as is known.
use Rattle.std.proofs.Common.{◌≡◌, ℕ, List, Some, sym, ap, ◌∙◌, subst}
use Rattle.std.specs.Prelude.{option_and_then, option_map}
use Rattle.aos_base.specs.declared.root.Root.TheVariants.{Frame as FrameRoot, Object as ObjectRoot}
use Rattle.aos_base.specs.Question.{Val, Asks, Traps, bind, Reads, Stores, Copies, PutsText, ComparesTexts, Calls, Ends, Makes, Starts, Enters, Leaves, Awaits, PutsInt, PutsChar, PutsString, PutsNothing, PutsLn, Places, Lengths, Opens, Sizes, Tests}
use Rattle.aos_base.specs.Rooted.{Made, by_number}
use Rattle.aos_types.specs.Content.{Content, Scalar, Empty, Row, Fits, found}
use Rattle.aos_types.specs.Extension.{comes_to}
use Rattle.aos_types.specs.Shape.{Shape, One, inside}
use Rattle.aos_types.specs.World.{World}
use Rattle.aos_memory_laws.proofs.Zoom.{zoomed}
use Rattle.aos_typed.specs.Numbers.{id_of_made}
use Rattle.aos_typed.specs.Program.{Program}
use Rattle.aos_typed.specs.Sort.{Sort, Length}
use Rattle.aos_typed.specs.Location.{Location}
use Rattle.aos_typed.specs.Store.{scalar_in}
use Rattle.aos_typed.specs.Typing.{Is}
use Rattle.aos_typed.specs.Value.{Value, Flag}
use Rattle.aos_typed.specs.Meaning.{Here, Doing, object_in}
use Rattle.aos_typed.specs.Source.{has_type_in, known, length_in, made_shape, noted, object_place, type_in}
use Rattle.aos_sim.proofs.Does.{HasScalar, IsObject, Valid, bind_val}
use Rattle.aos_sim.proofs.States.{world_of}
use Rattle.aos_preservation.proofs.Trees.{AreTold, IsTold, Typed}

-- an object that was made has the shape of what it was made as
pub made_shaped : (p : Program) (made : List Made) (shapes : List (Shape Sort)) (o : ℕ) (m : Made) → by_number o made ≡ Some m → (world_of p made shapes).shape (ObjectRoot o) ≡ Some (made_shape p.types m)
made_shaped p made shapes o m e = ap (option_map (made_shape p.types)) e

module _ (p : Program) (w : World Sort) (here : Here) (s : Shape Sort) (c : Content Value) (at : w.shape (FrameRoot here.below) ≡ Some s) (fits : Fits (Is p w) s c) (objects : (o : ℕ) (m : Made) → w.made o ≡ Some m → w.shape (ObjectRoot o) ≡ Some (made_shape p.types m)) where
  -- a scalar of the frame
  known_is : (a : Location) (k : Sort) → a.root ≡ FrameRoot here.below → HasScalar p w a k → Is p w k (known c a)
  known_is a k root has =
      let here_is = ap w.shape root ∙ at in
      let way : inside a.path s ≡ Some (One k) = ap (option_and_then (inside a.path)) (sym here_is) ∙ has in
      let z = zoomed (Is p w) a.path s (One k) c way fits in
      by z.inner z.found z.fits
    where
      by : (inner : Content Value) → found a.path c ≡ Some inner → Fits (Is p w) (One k) inner → Is p w k (known c a)
      by (Scalar v) f h = subst (Is p w k) (sym (ap scalar_in f)) h
      by Empty f h = absurd h
      by (Row x y) f h = absurd h

  made_at : (v : Value) (m : Made) → IsObject w v m → w.made (object_in v) ≡ Some m
  made_at v m h = ap (λ u. w.made (object_in u)) h.is ∙ h.made

  pub places_told : (a : Location) → Valid p here w (Places a) → IsTold p w (Places a) (known c a)
  places_told a h = (h.1, h.3, known_is a h.1 h.0 h.3)

  pub lengths_told : (a : Location) → Valid p here w (Lengths a) → IsTold p w (Lengths a) (known c a)
  lengths_told a h = (Length h.1, h.2, known_is a (Length h.1) h.0 h.2)

  pub opens_told : (u : Value) → Valid p here w (Opens u) → IsTold p w (Opens u) (object_place (object_in u) (w.made (object_in u)))
  opens_told u h = let there = made_at u h.0 h.1 in (h.0, h.1, ap (object_place (object_in u)) there, objects (object_in u) h.0 there)

  pub sizes_told : (u : Value) (d : ℕ) → Valid p here w (Sizes u d) → IsTold p w (Sizes u d) (length_in d (w.made (object_in u)))
  sizes_told u d h = (h.0, h.1, ap (length_in d) (made_at u h.0 h.1))

  pub tests_told : (u : Value) (t : ℕ) → Valid p here w (Tests u t) → IsTold p w (Tests u t) (has_type_in p.types w.made c t (w.made (object_in u)))
  tests_told u t h = (h.0, h.1, ap (λ o. Flag (comes_to p.types (id_of_made (type_in o)) (id_of_made t))) (made_at u h.0 h.1))

  pub noted_told : {A B : Type 0} (R : A → Type 0) (d : Doing A) (k : A → Doing B) → Typed p w here R d → AreTold p w (noted p.types w.made c d) (bind d k)
  noted_told R (Val a) k h = tt
  noted_told R (Traps n code) k h = tt
  noted_told R (Asks (Places a) g) k h =
      let v = known c a in
      let t = places_told a h.0 in (t, noted_told R (g v) k (h.1 v t))
  noted_told R (Asks (Lengths a) g) k h =
      let v = known c a in
      let t = lengths_told a h.0 in (t, noted_told R (g v) k (h.1 v t))
  noted_told R (Asks (Opens u) g) k h =
      let v = object_place (object_in u) (w.made (object_in u)) in
      let t = opens_told u h.0 in (t, noted_told R (g v) k (h.1 v t))
  noted_told R (Asks (Sizes u d) g) k h =
      let v = length_in d (w.made (object_in u)) in
      let t = sizes_told u d h.0 in (t, noted_told R (g v) k (h.1 v t))
  noted_told R (Asks (Tests u ty) g) k h =
      let v = has_type_in p.types w.made c ty (w.made (object_in u)) in
      let t = tests_told u ty h.0 in (t, noted_told R (g v) k (h.1 v t))
  noted_told R (Asks (Reads t a) g) k h = tt
  noted_told R (Asks (Stores a v) g) k h = tt
  noted_told R (Asks (Copies t a b) g) k h = tt
  noted_told R (Asks (PutsText strict a i b j) g) k h = tt
  noted_told R (Asks (ComparesTexts o a i b j) g) k h = tt
  noted_told R (Asks (Calls how q vs) g) k h = tt
  noted_told R (Asks (Ends v) g) k h = tt
  noted_told R (Asks (Makes t vs) g) k h = tt
  noted_told R (Asks (Starts v) g) k h = tt
  noted_told R (Asks Enters g) k h = tt
  noted_told R (Asks Leaves g) k h = tt
  noted_told R (Asks (Awaits i) g) k h = tt
  noted_told R (Asks (PutsInt v i) g) k h = tt
  noted_told R (Asks (PutsChar v) g) k h = tt
  noted_told R (Asks (PutsString a i) g) k h = tt
  noted_told R (Asks PutsNothing g) k h = tt
  noted_told R (Asks PutsLn g) k h = tt

  pub noted_alone : {A : Type 0} (R : A → Type 0) (d : Doing A) → Typed p w here R d → AreTold p w (noted p.types w.made c d) d
  noted_alone R d h = subst (AreTold p w (noted p.types w.made c d)) (bind_val d) (noted_told R d (λ a. Val a) h)
