-- For the parsers above: what `expr` and `desig` ensure, as steps of the machine of a grammar that has theirs in it.
use Rattle.std.proofs.Common.{◌≡◌, ℕ, List, ◌∷◌, []}
use Rattle.aos_base.specs.declared.text.Pos.{Pos}
use Rattle.aos_scan.specs.declared.token.Token.{Token}
use Rattle.aos_tree.specs.declared.expr.Expr.{Expr}
use Rattle.aos_tree.specs.declared.expr.Desig.{Desig}
use Rattle.aos_tree.specs.Nesting.{shallow}
use Rattle.aos_tree.specs.ExprGrammar.{expr_at, desig_at}
use Rattle.aos_tree.specs.Begins.{CeasesAt, ExpectsAt, TooDeepAt}
use Rattle.aos_parse_expr.specs.declared.error.ParseErr.TheVariants as e
use Rattle.aos_parse_expr.specs.Machine.{Table, Refuses, run}
use Rattle.aos_parse_expr.specs.Symbols as m
use Rattle.aos_parse_expr.specs.Symbols.{Sym}
use Rattle.aos_parse_expr.proofs.Answer.{an_expr, a_desig, walk_expr, walk_desig}
use Rattle.aos_parse_expr.proofs.Compose as compose
use Rattle.aos_parse_expr.proofs.Compose.{Embeds}
use Rattle.aos_parse_expr.proofs.ExprWalk.{joins}
use Rattle.aos_parse_expr.proofs.ExprYields as y
use Rattle.aos_parse_expr.proofs.ExprYields.{Yields}

module _ {T : Type 0} (h : Table T) (f : Sym → T) (emb : Embeds m.table h f) (d : ℕ) where
  pub expr_reads : (a : Expr) (ts rest : List Token) → expr_at d shallow a ts rest → CeasesAt (expr_at d) ts rest → (k : List T) → run h shallow ts (f (m.expr d) ∷ k) ≡ run h shallow rest k
  expr_reads a ts rest tree at k = compose.reads_on m.table h f emb joins Yields y.sound y.empty y.sample (λ c. m.tok 0 c) y.only_takes (m.expr d) (expr_at d) (an_expr d) 4 (walk_expr d) a ts rest tree at k

  pub expr_expected : (ts : List Token) (p : Pos) → ExpectsAt (expr_at d) ts p → Refuses h (f (m.expr d) ∷ []) ts (e.Expected p)
  expr_expected ts p at = compose.expected_on m.table h f emb joins Yields y.sound y.empty y.sample (λ c. m.tok 0 c) y.only_takes (m.expr d) (expr_at d) (an_expr d) 4 (walk_expr d) y.depth_of y.low y.floor y.falls ts p at

  pub expr_deep : (ts : List Token) (p : Pos) → TooDeepAt (expr_at d) ts p → Refuses h (f (m.expr d) ∷ []) ts (e.Deep p)
  expr_deep ts p at = compose.deep_on m.table h f emb joins Yields y.sound y.empty y.sample (λ c. m.tok 0 c) y.only_takes (m.expr d) (expr_at d) (an_expr d) 4 (walk_expr d) y.depth_of y.low y.floor y.falls ts p at

  pub desig_reads : (a : Desig) (ts rest : List Token) → desig_at d shallow a ts rest → CeasesAt (desig_at d) ts rest → (k : List T) → run h shallow ts (f (m.desig d) ∷ k) ≡ run h shallow rest k
  desig_reads a ts rest tree at k = compose.reads_on m.table h f emb joins Yields y.sound y.empty y.sample (λ c. m.tok 0 c) y.only_takes (m.desig d) (desig_at d) (a_desig d) 1 (walk_desig d) a ts rest tree at k

  pub desig_expected : (ts : List Token) (p : Pos) → ExpectsAt (desig_at d) ts p → Refuses h (f (m.desig d) ∷ []) ts (e.Expected p)
  desig_expected ts p at = compose.expected_on m.table h f emb joins Yields y.sound y.empty y.sample (λ c. m.tok 0 c) y.only_takes (m.desig d) (desig_at d) (a_desig d) 1 (walk_desig d) y.depth_of y.low y.floor y.falls ts p at

  pub desig_deep : (ts : List Token) (p : Pos) → TooDeepAt (desig_at d) ts p → Refuses h (f (m.desig d) ∷ []) ts (e.Deep p)
  desig_deep ts p at = compose.deep_on m.table h f emb joins Yields y.sound y.empty y.sample (λ c. m.tok 0 c) y.only_takes (m.desig d) (desig_at d) (a_desig d) 1 (walk_desig d) y.depth_of y.low y.floor y.falls ts p at
