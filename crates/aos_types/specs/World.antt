-- What is known of a store whatever it holds: the shape of what stands below each root, and what each object was made as.
use Rattle.std.specs.Prelude.{◌≡◌, ℕ, List, map, Option, Some, slice_get, option_and_then, option_map}
use Rattle.aos_base.specs.declared.root.Root.{Root}
use Rattle.aos_base.specs.declared.root.Root.TheVariants.{Frame, Module, Object}
use Rattle.aos_base.specs.Rooted.{Made, Rooted, from_last, by_number, at_root, change_root}
use Rattle.aos_types.specs.Shape.{Shape, inside, offset, number_of}
use Rattle.aos_types.specs.Content.{Content, found, placed, overlay}

-- S: sorts of scalars
pub record World (S : Type 0) : Type 0 where
  pub shape : Root → Option (Shape S)
  pub made : ℕ → Option Made  -- of an object, by its number from 1

-- what each object is known to be made as in one world, it is in the other
abbrev pub MadeAlike : {S : Type 0} → (w w' : World S) → Type 0
MadeAlike w w' = (o : ℕ) (m : Made) → w.made o ≡ Some m → w'.made o ≡ Some m

-- what is known in one world is known in the other
pub record Grows {S : Type 0} (w w' : World S) : Type 0 where
  pub shapes : (r : Root) (s : Shape S) → w.shape r ≡ Some s → w'.shape r ≡ Some s
  pub made : MadeAlike w w'

-- the shape of what a way below a root leads to, and the number of its first cell
abbrev pub shape_at : {S : Type 0} → World S → Root → List ℕ → Option (Shape S)
shape_at w r p = option_and_then (inside p) (w.shape r)

abbrev pub cell_at : {S : Type 0} → World S → Root → List ℕ → ℕ
cell_at w r p = number_of (offset p) (w.shape r)

-- the shapes of a program's modules, and of the objects that are made as this
pub record Scheme (S : Type 0) : Type 0 where
  pub modules : List (Shape S)
  pub made : Made → Shape S

-- the shape below a root, where these objects were made and the frames have these shapes, the topmost first
abbrev pub root_shape : {S : Type 0} → Scheme S → List Made → List (Shape S) → Root → Option (Shape S)
root_shape scheme made frames (Frame d) = from_last d frames
root_shape scheme made frames (Module m) = slice_get scheme.modules m
root_shape scheme made frames (Object o) = option_map scheme.made (by_number o made)

-- the world of the topmost of these frames, or of a module or an object where there is none
abbrev pub world : {S : Type 0} → Scheme S → List Made → List (Shape S) → World S
world scheme made frames = record { shape = root_shape scheme made frames; made = λ o. by_number o made }

-- Contents below roots.

abbrev pub read : {V : Type 0} → Root → List ℕ → Rooted (Content V) → Option (Content V)
read r p x = option_and_then (found p) (at_root r x)

abbrev pub write : {V : Type 0} → Root → List ℕ → Content V → Rooted (Content V) → Rooted (Content V)
write r p new x = change_root r (placed p new) x
