use Rattle.aos_tree.specs.ExprGrammar.{desig_at, expr_at}
use Rattle.aos_parse_expr.specs.Symbols as m
use Rattle.aos_parse_expr.proofs.Above as above
use Rattle.aos_parse_expr.proofs.Compose.{itself}
use Rattle.aos_parse_expr.proofs.Exclusion.{exclude}
use Rattle.aos_parse_expr.proofs.ExprYields.{only_takes}
use Rattle.aos_parse_expr.proofs.laws.exclusive.Goals as goal

pub returns : goal.returns
returns c = record {
  expressions = λ d ts. exclude m.table (m.expr d) (expr_at d) (λ k. m.tok 0 k) only_takes
      (above.expr_reads m.table (λ x. x) (itself m.table) d) (above.expr_expected m.table (λ x. x) (itself m.table) d) (above.expr_deep m.table (λ x. x) (itself m.table) d) ts;
  designators = λ d ts. exclude m.table (m.desig d) (desig_at d) (λ k. m.tok 0 k) only_takes
      (above.desig_reads m.table (λ x. x) (itself m.table) d) (above.desig_expected m.table (λ x. x) (itself m.table) d) (above.desig_deep m.table (λ x. x) (itself m.table) d) ts;
}
