-- The expression that is kept.
use Rattle.aos_typed.specs.declared.tree.TExpr.{TExpr}
use Rattle.aos_typed.specs.declared.tree.TExpr.TheVariants.{Lit, SelfRef, ProcedureOf, Read}
use Rattle.aos_made.specs.declared.typed.Kept.{Kept}
use Rattle.aos_made.specs.declared.typed.Kept.TheVariants as kept

abbrev pub value_of : Kept → TExpr
value_of (kept.Lit l) = Lit l
value_of kept.Itself = SelfRef
value_of (kept.Procedure m k) = ProcedureOf m k
value_of (kept.Read t p) = Read t p
value_of (kept.Made e) = e.value
