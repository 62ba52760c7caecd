-- What stands below roots: once what the variables of a program hold, once the cells of an image.
use Rattle.std.specs.Prelude.{ℕ, zero, suc, ◌+◌, List, [], ◌∷◌, ◌++◌, length, take, drop, Option, Some, None, option_map, option_and_then, slice_get, nat_eq, if◌then◌else◌}
use Rattle.aos_base.specs.declared.root.Root.{Root}
use Rattle.aos_base.specs.declared.root.Root.TheVariants.{Frame, Module, Object}

-- what an object was made as: a type, by its number from 1, and lengths if it is an open array
pub record Made : Type 0 where
  pub type : ℕ
  pub lengths : List ℕ

-- of one activity's frames, the topmost first, of the modules, and of the objects
pub record Rooted (X : Type 0) : Type 0 where
  pub frames : List X
  pub modules : List X
  pub objects : List X

-- the element above so many
abbrev pub from_last : {X : Type 0} → ℕ → List X → Option X
from_last d [] = None
from_last d (x ∷ xs) = if nat_eq d (length xs) then Some x else from_last d xs

abbrev pub change_from_last : {X : Type 0} → ℕ → (X → X) → List X → List X
change_from_last d f [] = []
change_from_last d f (x ∷ xs) = if nat_eq d (length xs) then f x ∷ xs else x ∷ change_from_last d f xs

abbrev pub change_at : {X : Type 0} → ℕ → (X → X) → List X → List X
change_at i f [] = []
change_at zero f (x ∷ xs) = f x ∷ xs
change_at (suc i) f (x ∷ xs) = x ∷ change_at i f xs

-- numbers begin with 1
abbrev pub by_number : {X : Type 0} → ℕ → List X → Option X
by_number zero xs = None
by_number (suc k) xs = slice_get xs k

abbrev pub change_by_number : {X : Type 0} → ℕ → (X → X) → List X → List X
change_by_number zero f xs = xs
change_by_number (suc k) f xs = change_at k f xs

abbrev pub at_root : {X : Type 0} → Root → Rooted X → Option X
at_root (Frame d) x = from_last d x.frames
at_root (Module m) x = slice_get x.modules m
at_root (Object o) x = by_number o x.objects

abbrev pub change_root : {X : Type 0} → Root → (X → X) → Rooted X → Rooted X
change_root (Frame d) f x = record x { frames = change_from_last d f x.frames }
change_root (Module m) f x = record x { modules = change_at m f x.modules }
change_root (Object o) f x = record x { objects = change_by_number o f x.objects }

-- one more object
abbrev pub with_object : {X : Type 0} → X → Rooted X → Rooted X
with_object o x = record x { objects = x.objects ++ o ∷ [] }

-- Cells below roots.

-- the same list with another one in it from this place on
abbrev pub spliced : {A : Type 0} → ℕ → List A → List A → List A
spliced at new xs = take at xs ++ (new ++ drop (at + length new) xs)

-- a cell, where there is such a cell
abbrev pub load : {A : Type 0} → Root → ℕ → Rooted (List A) → Option A
load r c x = option_and_then (λ cells. slice_get cells c) (at_root r x)

-- so many cells from this one on
abbrev pub load_all : {A : Type 0} → ℕ → Root → ℕ → Rooted (List A) → Option (List A)
load_all n r c x = option_map (λ cells. take n (drop c cells)) (at_root r x)

abbrev pub store_all : {A : Type 0} → Root → ℕ → List A → Rooted (List A) → Rooted (List A)
store_all r c new x = change_root r (spliced c new) x

-- so many cells copied, all read before any is written
abbrev pub copy_all : {A : Type 0} → ℕ → (from : Root) → ℕ → (to : Root) → ℕ → Rooted (List A) → Option (Rooted (List A))
copy_all n from c to d x = option_map (λ cells. store_all to d cells x) (load_all n from c x)
