-- What has been made of an object that is asked for.
use Rattle.std.specs.Prelude.{◌≡◌, ℕ, ℤ, List, [], ◌∷◌, take, drop, reverse, true, false, nat_le, Option, Some, None}
use Rattle.std.specs.List.{list_all}
use Rattle.aos_base.specs.declared.limits.TheConstants.{MOST_SCALARS}
use Rattle.aos_base.specs.declared.kernel.Did.{Did}
use Rattle.aos_base.specs.Number.{array_lengths}
use Rattle.aos_code.specs.declared.instr.Cell.{Cell}
use Rattle.aos_code.specs.declared.image.TypeDesc.{TypeDesc}
use Rattle.aos_code.specs.Memory.{Memory}
use Rattle.aos_code.specs.Machine.{asker, Frame, numbers_in, makes_with, makes_of}
use Rattle.aos_store.specs.declared.frames.Frames.{Frames as KeptFrames}
use Rattle.aos_store.specs.Store.{list_in, frames_in}
use Rattle.aos_cpu.specs.declared.makes.Lengths.{Lengths}
use Rattle.aos_cpu.specs.declared.makes.Lengths.TheVariants.{No, Short, Long, Are}
use Rattle.aos_cpu.specs.Answers.{Made}

-- operands are these lengths, none of which is greater than the heap
abbrev pub HasLengths : List Cell → List ℕ → Type 0
HasLengths vs ns = (zs : List ℤ) × (numbers_in [] vs ≡ Some zs) × (array_lengths zs ≡ Some ns) × (list_all (λ n. nat_le n MOST_SCALARS) ns ≡ true)

-- what operands are as lengths
abbrev pub AreLengths : List Cell → Lengths → Type 0
AreLengths vs No = numbers_in [] vs ≡ None
AreLengths vs Short = (zs : List ℤ) × (numbers_in [] vs ≡ Some zs) × (array_lengths zs ≡ None)
AreLengths vs Long = (zs : List ℤ) × (ns : List ℕ) × (numbers_in [] vs ≡ Some zs) × (array_lengths zs ≡ Some ns) × (list_all (λ n. nat_le n MOST_SCALARS) ns ≡ false)
AreLengths vs (Are lengths) = HasLengths vs lengths.items

-- an object of this type has been made, in place of so many operands
abbrev pub IsMade : Option TypeDesc → (type count at : ℕ) → (old new : KeptFrames) → (old_memory new_memory : Memory) → Did → List ℕ → Type 0
IsMade desc t count at old new old_memory new_memory did out =
    (f : Frame) (fs : List Frame) → list_in old.list.items ≡ f ∷ fs →
    Made (makes_of (reverse old.following.items) desc (numbers_in (reverse old.following.items) (reverse (take count f.stack))) t (asker at f.keeps (drop count f.stack) f fs old_memory)) false did (frames_in new) new_memory out out

-- with these lengths
abbrev pub IsMadeWith : List ℕ → TypeDesc → (type count at : ℕ) → (old new : KeptFrames) → (old_memory new_memory : Memory) → Did → List ℕ → Type 0
IsMadeWith ns desc t count at old new old_memory new_memory did out =
    list_all (λ n. nat_le n MOST_SCALARS) ns ≡ true → (f : Frame) (fs : List Frame) → list_in old.list.items ≡ f ∷ fs →
    Made (makes_with (reverse old.following.items) (Some ns) t desc (asker at f.keeps (drop count f.stack) f fs old_memory)) false did (frames_in new) new_memory out out
