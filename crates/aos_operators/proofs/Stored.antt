-- Classes of variables, which may be written or only be read, and of procedures that are named. What is made of other parts is neither.
use Rattle.std.proofs.Common.{Bool, true, false, Some, None}
use Rattle.aos_typed.specs.declared.tree.Literal.{Literal}
use Rattle.aos_known.specs.declared.known.Class.{Class}
use Rattle.aos_known.specs.declared.known.Class.TheVariants.{Unknown, Constant, Variable, ReadOnly, Computed, Procedure}
use Rattle.aos_operators.specs.declared.operations.Single.{Single}
use Rattle.aos_operators.specs.declared.operations.Joint.{Joint}
use Rattle.aos_operators.specs.Operations as op

abbrev pub IsStored : Class → Type 0
IsStored Variable = Unit {0}
IsStored ReadOnly = Unit {0}
IsStored c = ⊥

abbrev pub IsMade : Class → Type 0
IsMade Variable = ⊥
IsMade ReadOnly = ⊥
IsMade (Procedure m n) = ⊥
IsMade c = Unit {0}

pub not_stored : (c : Class) → IsMade c → IsStored c → ⊥
not_stored Variable m s = m
not_stored ReadOnly m s = m
not_stored (Procedure k n) m s = m
not_stored (Constant v) m s = s
not_stored Unknown m s = s
not_stored Computed m s = s

pub made_of_one : (s : Single) (c : Class) → IsMade (op.class_of_one s c)
made_of_one s (Constant (Some a)) = tt
made_of_one s (Constant None) = tt
made_of_one s Unknown = tt
made_of_one s Variable = tt
made_of_one s ReadOnly = tt
made_of_one s Computed = tt
made_of_one s (Procedure m n) = tt

made_with : (j : Joint) (a : Literal) (c : Class) → IsMade (op.class_with j a c)
made_with j a (Constant (Some b)) = tt
made_with j a (Constant None) = tt
made_with j a Unknown = tt
made_with j a Variable = tt
made_with j a ReadOnly = tt
made_with j a Computed = tt
made_with j a (Procedure m n) = tt

made_behind : (of_constant : Class) → IsMade of_constant → (c : Class) → IsMade (op.class_behind of_constant c)
made_behind k m Unknown = tt
made_behind k m (Constant v) = m
made_behind k m Variable = tt
made_behind k m ReadOnly = tt
made_behind k m Computed = tt
made_behind k m (Procedure l n) = tt

pub made_of : (j : Joint) (c d : Class) → IsMade (op.class_of j c d)
made_of j (Constant (Some a)) d = made_with j a d
made_of j (Constant None) d = made_behind (Constant None) tt d
made_of j Unknown d = made_behind Unknown tt d
made_of j Variable d = tt
made_of j ReadOnly d = tt
made_of j Computed d = tt
made_of j (Procedure m n) d = tt

made_broken : (c : Class) → IsMade (op.broken_class c)
made_broken Unknown = tt
made_broken (Constant v) = tt
made_broken Variable = tt
made_broken ReadOnly = tt
made_broken Computed = tt
made_broken (Procedure m n) = tt

pub made_kept : (b : Bool) (c : Class) → IsMade c → IsMade (op.kept_class b c)
made_kept true c m = m
made_kept false c m = made_broken c
