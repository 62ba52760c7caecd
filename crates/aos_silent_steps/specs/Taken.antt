-- Operands of which an instruction takes many.
use Rattle.std.specs.Prelude.{ℕ, ℤ, pos, negsuc, List, ◌∷◌, map, Bool, true, false, Option, Some, None, reverse, take, drop}
use Rattle.aos_code.specs.declared.instr.Cell.{Cell}
use Rattle.aos_code.specs.declared.instr.Cell.TheVariants.{Num, Ref, Call as CallCell, Place}
use Rattle.aos_code.specs.declared.instr.Kind.{Kind}
use Rattle.aos_code.specs.Silent.{Stack, Act, Told, Invokes, Unheard, on_kinds}
use Rattle.aos_silent_steps.specs.declared.act.Way.{Way}
use Rattle.aos_silent_steps.specs.declared.act.Way.TheVariants.{Bound, Free}
use Rattle.aos_silent_steps.specs.Acts.{number_in}

-- a length, where a number is none below 0
abbrev pub length_of : Option ℤ → Option ℕ
length_of None = None
length_of (Some (pos n)) = Some n
length_of (Some (negsuc n)) = None

abbrev pub length_in : Option Cell → Option ℕ
length_in v = length_of (number_in v)

-- operands, the topmost first, as numbers, and 0 where one is none
abbrev pub number_or : Cell → ℤ
number_or (Num a) = a
number_or (Ref o) = pos 0
number_or (CallCell p o) = pos 0
number_or (Place root cell type) = pos 0

abbrev pub numbers_of : Stack → List ℤ
numbers_of s = map number_or s

-- as lengths, the topmost last
abbrev pub length_or : ℤ → ℕ
length_or (pos n) = n
length_or (negsuc n) = 0

abbrev pub rows_of : Stack → List ℕ
rows_of s = reverse (map (λ v. length_or (number_or v)) s)

-- operands of these kinds from one on that lies so deep
abbrev pub kinds_from : List Kind → ℕ → (List Cell → Stack → Act) → Stack → Act
kinds_from kinds depth k s = on_kinds kinds (reverse (take depth s)) k (drop depth s)

-- this method, if any, is called on the object with these arguments
abbrev pub invoking : Option ℕ → (object : ℕ) → List Cell → Told
invoking None o vs = Unheard
invoking (Some q) o vs = Invokes q (Ref o ∷ vs)

-- how a procedure is called through a value with an object or with none, if it may be called so
abbrev pub way_for : (is_same method has_object : Bool) → Option Way
way_for true true true = Some Bound
way_for true true false = None
way_for true false true = None
way_for true false false = Some Free
way_for false method has_object = None
