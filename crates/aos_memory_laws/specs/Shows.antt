-- When cells show contents: each scalar's cell, at the offset of its way, holds its value.
use Rattle.std.specs.Prelude.{◌≡◌, List, [], ◌∷◌, ◌++◌, map}
use Rattle.aos_base.specs.Rooted.{Made, Rooted}
use Rattle.aos_types.specs.Shape.{Shape}
use Rattle.aos_types.specs.Content.{Content, flatten, Fits}
use Rattle.aos_types.specs.World.{World, Grows, MadeAlike, Scheme, world}

-- S: sorts; V: values; C: cells. A value is of a sort in a world, and has a cell there
module _ {S V C : Type 0} (Is : World S → S → V → Type 0) (cell : World S → V → C) where
  -- contents of a shape, and their cells
  pub record Shown (w : World S) (s : Shape S) (c : Content V) (cells : List C) : Type 0 where
    pub fits : Fits (Is w) s c
    pub same : cells ≡ map (cell w) (flatten c)

  -- rows of contents and cells, in one world
  abbrev pub AllShown : World S → List (Shape S) → List (Content V) → List (List C) → Type 0
  AllShown w [] [] [] = Unit {0}
  AllShown w [] [] (y ∷ ys) = ⊥
  AllShown w [] (c ∷ cs) ys = ⊥
  AllShown w (s ∷ ss) [] ys = ⊥
  AllShown w (s ∷ ss) (c ∷ cs) [] = ⊥
  AllShown w (s ∷ ss) (c ∷ cs) (y ∷ ys) = Shown w s c y × AllShown w ss cs ys

  module _ (scheme : Scheme S) where
    -- frames, each in the world of those up to itself
    abbrev pub FramesShown : List Made → List (Shape S) → List (Content V) → List (List C) → Type 0
    FramesShown made [] [] [] = Unit {0}
    FramesShown made [] [] (y ∷ ys) = ⊥
    FramesShown made [] (c ∷ cs) ys = ⊥
    FramesShown made (s ∷ ss) [] ys = ⊥
    FramesShown made (s ∷ ss) (c ∷ cs) [] = ⊥
    FramesShown made (s ∷ ss) (c ∷ cs) (y ∷ ys) = Shown (world scheme made (s ∷ ss)) s c y × FramesShown made ss cs ys

    -- the memory shows the store
    pub record Shows (made : List Made) (frames : List (Shape S)) (x : Rooted (Content V)) (y : Rooted (List C)) : Type 0 where
      pub of_frames : FramesShown made frames x.frames y.frames
      pub of_modules : AllShown (world scheme made []) scheme.modules x.modules y.modules
      pub of_objects : AllShown (world scheme made []) (map scheme.made made) x.objects y.objects

-- what is known of values stays known as frames are put on top and objects are made; a plain value is no place
pub record AreKept {S V C : Type 0} (Is : World S → S → V → Type 0) (cell : World S → V → C) (IsPlain : S → Type 0) : Type 0 where
  pub is : (w w' : World S) → Grows w w' → (k : S) (v : V) → Is w k v → Is w' k v
  pub plain : (w w' : World S) → MadeAlike w w' → (k : S) (v : V) → IsPlain k → Is w k v → Is w' k v
  pub cells : (w w' : World S) → Grows w w' → (k : S) (v : V) → Is w k v → cell w v ≡ cell w' v
