-- What soundness doesn't decide, so that sound code may trap where it finds such an operand: a place whose cell has no number of 32
-- bits, a length below 0, a number that an operator doesn't take, a flag that is neither 0 nor 1, no object on which the frame's
-- procedure is called, and a procedure value that stands for one with other formals, or has an object where that is no method. Code may
-- also ask for the trap. Nor does it decide what a type has in a slot.
use Rattle.std.specs.Prelude.{◌≡◌, ◌≤◌, ◌+◌, ◌*◌, ◌^◌, ℕ, zero, suc, ℤ, pos, negsuc, List, [], ◌∷◌, length, drop, Bool, true, false, Option, Some, None}
use Rattle.aos_base.specs.declared.operator.Given.TheVariants.{Undefined}
use Rattle.aos_base.specs.Operators.{unary, binary, natural}
use Rattle.aos_code.specs.declared.instr.Cell.TheVariants.{Num, Call as CallCell, Place}
use Rattle.aos_code.specs.declared.instr.Instr.{Instr}
use Rattle.aos_code.specs.declared.instr.Instr.TheVariants.{SelfRef, Offset, Index, IndexOpen, Unary, Binary, Fail, Assert, JumpFalse, CallValue}
use Rattle.aos_code.specs.declared.image.ProcShape.{ProcShape}
use Rattle.aos_code.specs.Numbered.{numbered}
use Rattle.aos_code.specs.Silent.{Here, Stack, cells_of, kinds_of, same_formals}

-- this holds of the number on top and of the operands below it
abbrev pub OfNumber : (ℤ → Stack → Type 0) → Stack → Type 0
OfNumber C (Num z ∷ s) = C z s
OfNumber C s = ⊥

-- this holds of the cell of the place on top
abbrev pub OfPlace : (ℕ → Type 0) → Stack → Type 0
OfPlace C (Place root cell type ∷ s) = C cell
OfPlace C s = ⊥

-- a cell has no number of 32 bits
abbrev pub IsFar : (cell : ℕ) → Type 0
IsFar cell = 2 ^ 32 ≤ cell

-- nor has the element of this number, each having so many cells
abbrev pub IsFarElement : Option ℕ → (cells first : ℕ) → Type 0
IsFarElement None k first = ⊥
IsFarElement (Some i) k first = IsFar (first + i * k)

-- it is below 0, or else this holds of it
abbrev pub IsBelowOr : (ℕ → Type 0) → ℤ → Type 0
IsBelowOr C (pos n) = C n
IsBelowOr C (negsuc n) = Unit {0}

-- of so many lengths before these one is below 0, or the element of this number is far
abbrev pub IsFarRow : (lengths : ℕ) → List ℕ → (z : ℤ) (cells : ℕ) → Stack → Type 0
IsFarRow zero [] z k s = ⊥
IsFarRow zero (n ∷ ns) z k s = OfPlace (λ first. IsFarElement (natural n z) (cells_of ns k) first) s
IsFarRow (suc j) ns z k s = OfNumber (λ y below. IsBelowOr (λ n. IsFarRow j (n ∷ ns) z k below) y) s

abbrev pub IsNoFlag : ℤ → Type 0
IsNoFlag (pos zero) = ⊥
IsNoFlag (pos (suc zero)) = ⊥
IsNoFlag (pos (suc (suc n))) = Unit {0}
IsNoFlag (negsuc n) = Unit {0}

-- this holds of the procedure value on top
abbrev pub OfCallable : (ℕ → ℕ → Type 0) → Stack → Type 0
OfCallable C (CallCell p o ∷ s) = C p o
OfCallable C s = ⊥

-- a method is called on an object, and another procedure on none
abbrev pub may_call : (is_same method : Bool) → (object : ℕ) → Bool
may_call true true zero = false
may_call true true (suc o) = true
may_call true false zero = true
may_call true false (suc o) = false
may_call false method o = false

-- a procedure of this shape, if any, may be called so as one of the other shape
abbrev pub may_call_as : Option ProcShape → ProcShape → (object : ℕ) → Bool
may_call_as None g o = false
may_call_as (Some f) g o = may_call (same_formals f g) f.method o

-- this one, which isn't NIL, may not
abbrev pub IsOther : List ProcShape → ProcShape → (procedure object : ℕ) → Type 0
IsOther shapes g zero o = ⊥
IsOther shapes g (suc p) o = may_call_as (numbered shapes (suc p)) g o ≡ false

-- nor may the one below the arguments for this shape
abbrev pub IsOtherBelow : List ProcShape → Option ProcShape → Stack → Type 0
IsOtherBelow shapes None s = ⊥
IsOtherBelow shapes (Some g) s = OfCallable (IsOther shapes g) (drop (length (kinds_of g.params.items)) s)

module _ (shapes : List ProcShape) (here : Here) where
  -- the instruction finds such an operand, or no such object
  abbrev pub IsUndecided : Instr → Stack → Type 0
  IsUndecided SelfRef s = here.self ≡ 0
  IsUndecided (Offset c t) s = OfPlace (λ cell. IsFar (cell + c)) s
  IsUndecided (Index n k) s = OfNumber (λ z below. OfPlace (λ first. IsFarElement (natural n z) k first) below) s
  IsUndecided (IndexOpen j k) s = OfNumber (λ z below. IsFarRow j [] z k below) s
  IsUndecided (Unary op) s = OfNumber (λ a below. unary op a ≡ Undefined) s
  IsUndecided (Binary op) s = OfNumber (λ b below. OfNumber (λ a rest. binary op a b ≡ Undefined) below) s
  IsUndecided (Fail n) s = n ≡ 16
  IsUndecided (Assert c) s = OfNumber (λ z below. IsNoFlag z) s
  IsUndecided (JumpFalse to) s = OfNumber (λ z below. IsNoFlag z) s
  IsUndecided (CallValue p) s = IsOtherBelow shapes (numbered shapes p) s
  IsUndecided _ s = ⊥
