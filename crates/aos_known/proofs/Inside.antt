-- What is well typed in the body of a procedure of a program, or in one of none. The predeclared types stand first in its table.
use Rattle.std.proofs.Common.{◌≡◌, ◌<◌, ℕ, List, Option, slice_get}
use Rattle.aos_typed.specs.declared.tree.TType.{TType}
use Rattle.aos_typed.specs.Program.{Place, Rows, Arguments, Callee, Expr, Call, Stat, Stats, Arms, Cases, Parameter, Procedure, Program}
use Rattle.aos_typed.specs.Numbers.{predeclared_types, predeclared_rows}
use Rattle.aos_typed.specs.WellTyped as typed

pub record Inside : Type 0 where
  pub program : Program
  pub own : Option Procedure
  pub basic : (k : ℕ) → k < predeclared_types → slice_get program.types k ≡ slice_get predeclared_rows k

abbrev pub IsPlaceOf : Inside → Place → TType → Type 0
IsPlaceOf p = typed.IsPlaceOf p.program p.own

abbrev pub AreRows : Inside → Rows → ℕ → TType → Type 0
AreRows p = typed.AreRows p.program p.own

abbrev pub AreVariables : Inside → Rows → Type 0
AreVariables p = typed.AreVariables p.program

abbrev pub AreArguments : Inside → Arguments → List Parameter → Type 0
AreArguments p = typed.AreArguments p.program p.own

abbrev pub IsOf : Inside → Expr → TType → Type 0
IsOf p = typed.IsOf p.program p.own

abbrev pub IsCalled : Inside → Callee → Procedure → Type 0
IsCalled p = typed.IsCalled p.program p.own

abbrev pub IsNamed : Inside → Expr → Type 0
IsNamed p = typed.IsNamed p.program p.own

abbrev pub IsInitialized : Inside → (slot : Option ℕ) → (type : ℕ) → Arguments → Type 0
IsInitialized p = typed.IsInitialized p.program p.own

-- Statements.

abbrev pub IsCall : Inside → Call → Type 0
IsCall p = typed.IsCall p.program p.own

abbrev pub IsStatement : Inside → Stat → Type 0
IsStatement p = typed.IsStatement p.program p.own

abbrev pub AreStatements : Inside → Stats → Type 0
AreStatements p = typed.AreStatements p.program p.own

abbrev pub AreArms : Inside → Arms → Type 0
AreArms p = typed.AreArms p.program p.own

abbrev pub AreCases : Inside → Cases → Type 0
AreCases p = typed.AreCases p.program p.own
