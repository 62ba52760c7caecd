-- The expression that is looked at.
use Rattle.aos_typed.specs.declared.tree.TExpr.{TExpr}
use Rattle.aos_typed.specs.declared.tree.TExpr.TheVariants.{Lit, SelfRef, ProcedureOf, Read}
use Rattle.aos_made.specs.declared.typed.Look.{Look}
use Rattle.aos_made.specs.declared.typed.Look.TheVariants as look

abbrev pub looked : Look → TExpr
looked (look.Lit l) = Lit l
looked look.Itself = SelfRef
looked (look.Procedure m k) = ProcedureOf m k
looked (look.Read t p) = Read t p.now
looked (look.Made e) = e.now
