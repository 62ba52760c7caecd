-- Procedures that are named: the one of an expression is as the signature tells whose numbers its class has.
use Rattle.std.proofs.Common.{◌≡◌, Some}
use Rattle.aos_typed.specs.declared.tree.TType.{TType}
use Rattle.aos_typed.specs.Program.{Procedure, Expr}
use Rattle.aos_typed.specs.WellTyped.{IsProcedural}
use Rattle.aos_types.specs.declared.signature.Signature.{Signature}
use Rattle.aos_symbols.specs.declared.env.Env.{Env}
use Rattle.aos_symbols.specs.Env as env
use Rattle.aos_known.specs.declared.known.Class.{Class}
use Rattle.aos_known.specs.declared.known.Class.TheVariants as class
use Rattle.aos_known.proofs.Inside.{Inside, IsOf}
use Rattle.aos_operators.proofs.Stored.{IsStored, IsMade}
use Rattle.aos_check_expr.proofs.Whole.{IsSigned}

-- it is of each procedure type that has its formals
abbrev pub IsNaming : Inside → Env → Class → Expr → Type 0
IsNaming p e (class.Procedure m n) x =
    (s : Signature) → env.signature e m n ≡ Some s → (q : Procedure) × IsSigned e s q × ((t : TType) → IsProcedural p.program t q → IsOf p x t)
IsNaming p e c x = Unit {0}

pub naming_made : (p : Inside) (e : Env) (c : Class) (x : Expr) → IsMade c → IsNaming p e c x
naming_made p e (class.Procedure m n) x made = absurd made
naming_made p e (class.Constant v) x made = tt
naming_made p e class.Unknown x made = tt
naming_made p e class.Variable x made = tt
naming_made p e class.ReadOnly x made = tt
naming_made p e class.Computed x made = tt

pub naming_stored : (p : Inside) (e : Env) (c : Class) (x : Expr) → IsStored c → IsNaming p e c x
naming_stored p e (class.Procedure m n) x stored = absurd stored
naming_stored p e (class.Constant v) x stored = tt
naming_stored p e class.Unknown x stored = tt
naming_stored p e class.Variable x stored = tt
naming_stored p e class.ReadOnly x stored = tt
naming_stored p e class.Computed x stored = tt
