-- A call with a bracket that stands last.
use Rattle.std.proofs.Common.{◌≡◌, List, Some, ap, ◌∙◌}
use Rattle.aos_base.specs.declared.text.Pos.{Pos}
use Rattle.aos_tree.specs.declared.expr.Expr.{Expr as TreeExpr}
use Rattle.aos_tree.specs.declared.expr.Desig.{Desig}
use Rattle.aos_tree.specs.declared.expr.Selector.{Selector, items_hidden-the_row-Expr-4}
use Rattle.aos_tree.specs.declared.expr.Selector.TheVariants as s
use Rattle.aos_symbols.specs.declared.env.Env.{Env}
use Rattle.aos_check_call.specs.Calls.{called_last, called_before}

-- a call with a bracket that stands last
pub called_bracket : (e : Env) (d : Desig) (x : Selector) (p : Pos) (es : List TreeExpr) → x ≡ s.Paren p es → called_last e d (Some x) ≡ called_before e d p es
called_bracket e d x p es same = ap (λ y. called_last e d (Some y)) same ∙ ap (called_before e d p) (items_hidden-the_row-Expr-4 es)
