use Rattle.std.proofs.Common.{◌≡◌, ◌+◌, ◌*◌, ◌≤◌, ◌<◌, ◌++◌, List, ◌∷◌, length}
use Rattle.aos_scan.specs.declared.token.Token.{Token}
use Rattle.aos_tree.specs.declared.expr.Expr.{Expr}
use Rattle.aos_tree.specs.declared.expr.Elem.{Elem}
use Rattle.aos_tree.specs.declared.expr.Addition.{Addition}
use Rattle.aos_tree.specs.declared.expr.Product.{Product}
use Rattle.aos_tree.specs.declared.expr.Selector.{Selector}
use Rattle.aos_tree.specs.Nesting.{shallow}
use Rattle.aos_tree.specs.Ended.{IsEnded}
use Rattle.aos_tree.specs.ExprGrammar.{IsAdditions, IsProducts, IsElems, IsMoreElems, IsSelectors, IsExprs, IsMoreExprs}
use Rattle.aos_parse_expr.specs.Machine.{run}
use Rattle.aos_parse_expr.specs.Symbols as m
use Rattle.aos_parse_expr.proofs.descent.+descent.Given as goal

abbrev pub decreases-members : goal.decreases-members
decreases-members l = 16 * length l.tokens.now + 13

abbrev pub decreases-elems : goal.decreases-elems
decreases-elems l = 16 * length l.tokens.now + 12

abbrev pub decreases-elem : goal.decreases-elem
decreases-elem l = 16 * length l.tokens.now + 11

abbrev pub decreases-arguments : goal.decreases-arguments
decreases-arguments l = 16 * length l.tokens.now + 12

abbrev pub decreases-exprs : goal.decreases-exprs
decreases-exprs l = 16 * length l.tokens.now + 11

abbrev pub decreases-expr : goal.decreases-expr
decreases-expr l = 16 * length l.tokens.now + 10

abbrev pub decreases-simple : goal.decreases-simple
decreases-simple l = 16 * length l.tokens.now + 9

abbrev pub decreases-term : goal.decreases-term
decreases-term l = 16 * length l.tokens.now + 8

abbrev pub decreases-factor : goal.decreases-factor
decreases-factor l = 16 * length l.tokens.now + 7

abbrev pub decreases-desig : goal.decreases-desig
decreases-desig l = 16 * length l.tokens.now + 6

abbrev pub decreases-selectors : goal.decreases-selectors
decreases-selectors l = 16 * length l.tokens.now + 6

abbrev pub decreases-selector : goal.decreases-selector
decreases-selector l = 16 * length l.tokens.now + 5

abbrev pub decreases-additions : goal.decreases-additions
decreases-additions l = 16 * length l.tokens.now + 9

abbrev pub decreases-products : goal.decreases-products
decreases-products l = 16 * length l.tokens.now + 8

abbrev pub invariant-additions-loop-op : goal.invariant-additions-loop-op
invariant-additions-loop-op l = record {
  ended : IsEnded l.rest;
  shorter : length l.rest ≤ length l.tokens;
  tree : (more : List Addition) (end : List Token) → IsAdditions shallow l.depth more l.rest end → IsAdditions shallow l.depth (l.found ++ more) l.tokens end;
  moves : (k : m.Stack) → run m.table shallow l.tokens (m.additions l.depth ∷ k) ≡ run m.table shallow l.rest (m.additions l.depth ∷ k);
}

abbrev pub decreases-additions-loop-op : goal.decreases-additions-loop-op
decreases-additions-loop-op l = length l.rest

abbrev pub invariant-products-loop-op : goal.invariant-products-loop-op
invariant-products-loop-op l = record {
  ended : IsEnded l.rest;
  shorter : length l.rest ≤ length l.tokens;
  tree : (more : List Product) (end : List Token) → IsProducts shallow l.depth more l.rest end → IsProducts shallow l.depth (l.found ++ more) l.tokens end;
  moves : (k : m.Stack) → run m.table shallow l.tokens (m.products l.depth ∷ k) ≡ run m.table shallow l.rest (m.products l.depth ∷ k);
}

abbrev pub decreases-products-loop-op : goal.decreases-products-loop-op
decreases-products-loop-op l = length l.rest

abbrev pub invariant-elems-loop-found : goal.invariant-elems-loop-found
invariant-elems-loop-found l = record {
  ended : IsEnded l.rest;
  shorter : length l.rest < length l.tokens;
  tree : (more : List Elem) (end : List Token) → IsMoreElems shallow l.depth more l.rest end → IsElems shallow l.depth (l.found ++ more) l.tokens end;
  moves : (k : m.Stack) → run m.table shallow l.tokens (m.elems l.depth ∷ k) ≡ run m.table shallow l.rest (m.more_elems l.depth ∷ k);
}

abbrev pub decreases-elems-loop-found : goal.decreases-elems-loop-found
decreases-elems-loop-found l = length l.rest

abbrev pub invariant-selectors-loop-found : goal.invariant-selectors-loop-found
invariant-selectors-loop-found l = record {
  ended : IsEnded l.rest;
  shorter : length l.rest ≤ length l.tokens;
  tree : (more : List Selector) (end : List Token) → IsSelectors shallow l.depth more l.rest end → IsSelectors shallow l.depth (l.found ++ more) l.tokens end;
  moves : (k : m.Stack) → run m.table shallow l.tokens (m.selectors l.depth ∷ k) ≡ run m.table shallow l.rest (m.selectors l.depth ∷ k);
}

abbrev pub decreases-selectors-loop-found : goal.decreases-selectors-loop-found
decreases-selectors-loop-found l = length l.rest

abbrev pub invariant-exprs-loop-found : goal.invariant-exprs-loop-found
invariant-exprs-loop-found l = record {
  ended : IsEnded l.rest;
  shorter : length l.rest < length l.tokens;
  tree : (more : List Expr) (end : List Token) → IsMoreExprs shallow l.depth more l.rest end → IsExprs shallow l.depth (l.found ++ more) l.tokens end;
  moves : (k : m.Stack) → run m.table shallow l.tokens (m.exprs l.depth ∷ k) ≡ run m.table shallow l.rest (m.more_exprs l.depth ∷ k);
}

abbrev pub decreases-exprs-loop-found : goal.decreases-exprs-loop-found
decreases-exprs-loop-found l = length l.rest
