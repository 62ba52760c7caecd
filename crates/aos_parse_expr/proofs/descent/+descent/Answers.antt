use Rattle.std.proofs.Common.{◌≡◌, ◌+◌, ◌∷◌, [], rules, sym, ◌∙◌, refl, ap, arith, append_assoc, length, append-nil}
use Rattle.std.proofs.lemmas.Int.{to_z-of_z}
use mir.Val.{SFits}
use mir.Syntax.{w64}
use denote.Enum.Bare.{same_true, same_false}
use Rattle.aos_scan.specs.contracts.token.TokenKind.{the_type}
use Rattle.aos_scan.specs.declared.token.TokenKind.TheVariants as kind
use Rattle.aos_tree.specs.ExprGrammar as g
use Rattle.aos_tree.specs.Nesting.{shallow}
use Rattle.aos_parse_expr.specs.Symbols as m
use Rattle.aos_parse_expr.proofs.Steps as by
use Rattle.aos_parse_expr.proofs.Productions as q
use Rattle.aos_parse_expr.proofs.ExprYields as y
use Rattle.aos_parse_expr.proofs.descent.+descent.Goals as goal

pub expr-returns-then-depth-eq200-clause-moves : goal.expr-returns-then-depth-eq200-clause-moves
expr-returns-then-depth-eq200-clause-moves t c =
    by.too_deep (m.expr c.args.depth) (c.args.depth + 1) c.split.ensures.whole refl (omega arith) (λ d p is. y.floor (m.expr c.args.depth) d p (c.args.depth + 1) is refl)

pub expr-returns-in_err-left-clause-moves : goal.expr-returns-in_err-left-clause-moves
expr-returns-in_err-left-clause-moves t c =
    by.exits (λ r. r.1.now) c.from_residual.result (m.expr c.args.depth ∷ []) c.from_residual.ensures.1 (by.pass_on (m.relation (c.args.depth + 1) ∷ []) c.in_err-left.ensures.moves (λ k. q.to_expr _ c.requires.ended c.args.depth k))

pub expr-returns-in_err-right-in-Some-clause-moves : goal.expr-returns-in_err-right-in-Some-clause-moves
expr-returns-in_err-right-in-Some-clause-moves t c =
    by.exits (λ r. r.1.now) c.from_residual-in_err-right-in-Some.result (m.expr c.args.depth ∷ []) c.from_residual-in_err-right-in-Some.ensures.1 (by.pass_on ([]) c.in_err-right-in-Some.ensures.moves (λ k. q.to_expr _ c.requires.ended c.args.depth k ∙ c.in_ok-left.ensures.moves (m.relation (c.args.depth + 1) ∷ k) ∙ by.shifts m.table shallow c.split-2.ensures.whole (m.relation (c.args.depth + 1)) (c.args.depth + 1) (m.simple (c.args.depth + 1) ∷ []) (q.operator_by (c.args.depth + 1) (m.simple (c.args.depth + 1) ∷ []) (sym c.relation.ensures ∙ c.in-Some.is)) (by.fits_shallow (c.args.depth + 1) (omega arith)) (k)))

pub expr-returns-in_ok-new-in-Some-clause-moves : goal.expr-returns-in_ok-new-in-Some-clause-moves
expr-returns-in_ok-new-in-Some-clause-moves t c =
    λ k. q.to_expr _ c.requires.ended c.args.depth k ∙ c.in_ok-left.ensures.moves (m.relation (c.args.depth + 1) ∷ k) ∙ by.shifts m.table shallow c.split-2.ensures.whole (m.relation (c.args.depth + 1)) (c.args.depth + 1) (m.simple (c.args.depth + 1) ∷ []) (q.operator_by (c.args.depth + 1) (m.simple (c.args.depth + 1) ∷ []) (sym c.relation.ensures ∙ c.in-Some.is)) (by.fits_shallow (c.args.depth + 1) (omega arith)) (k) ∙ c.in_ok-right-in-Some.ensures.moves k

pub expr-returns-in-None-clause-moves : goal.expr-returns-in-None-clause-moves
expr-returns-in-None-clause-moves t c =
    λ k. q.to_expr _ c.requires.ended c.args.depth k ∙ c.in_ok-left.ensures.moves (m.relation (c.args.depth + 1) ∷ k) ∙ by.skips m.table shallow c.split-2.ensures.whole (m.relation (c.args.depth + 1)) (q.no_operator (c.args.depth + 1) (m.simple (c.args.depth + 1) ∷ []) (sym c.relation.ensures ∙ c.in-None.is)) refl (k)

pub expr-returns-in-None-clause-tree : goal.expr-returns-in-None-clause-tree
expr-returns-in-None-clause-tree t c =
    rw (c.split.ensures.whole, c.empty.ensures) (g.alone (rw c.split.ensures.whole at c.in_ok-left.ensures.tree))

pub expr-returns-in_ok-new-in-Some-clause-tree : goal.expr-returns-in_ok-new-in-Some-clause-tree
expr-returns-in_ok-new-in-Some-clause-tree t c =
    rw (c.split.ensures.whole, c.in_ok-new-in-Some.ensures) (g.related (rw (c.split.ensures.whole, c.split-2.ensures.whole) at c.in_ok-left.ensures.tree) (sym c.relation.ensures ∙ c.in-Some.is) (by.fits_shallow (c.args.depth + 1) (omega arith)) c.in_ok-right-in-Some.ensures.tree)

pub simple-returns-in_err-first-in-Some-clause-moves : goal.simple-returns-in_err-first-in-Some-clause-moves
simple-returns-in_err-first-in-Some-clause-moves t c =
    by.exits (λ r. r.1.now) c.from_residual.result (m.simple c.args.depth ∷ []) c.from_residual.ensures.1 (by.pass_on (m.additions c.args.depth ∷ []) c.in_err-first-in-Some.ensures.moves (λ k. by.shifts m.table shallow c.split.ensures.whole (m.simple c.args.depth) c.args.depth (m.term c.args.depth ∷ m.additions c.args.depth ∷ []) (q.sign_by c.args.depth _ (sym c.sign.ensures ∙ c.in-Some.is)) (by.fits_shallow _ c.requires.nested) (k)))

pub simple-returns-in_err-more-in-Some-clause-moves : goal.simple-returns-in_err-more-in-Some-clause-moves
simple-returns-in_err-more-in-Some-clause-moves t c =
    by.exits (λ r. r.1.now) c.from_residual-in_err-more-in-Some.result (m.simple c.args.depth ∷ []) c.from_residual-in_err-more-in-Some.ensures.1 (by.pass_on ([]) c.in_err-more-in-Some.ensures.moves (λ k. by.shifts m.table shallow c.split.ensures.whole (m.simple c.args.depth) c.args.depth (m.term c.args.depth ∷ m.additions c.args.depth ∷ []) (q.sign_by c.args.depth _ (sym c.sign.ensures ∙ c.in-Some.is)) (by.fits_shallow _ c.requires.nested) (k) ∙ c.in_ok-first-in-Some.ensures.moves (m.additions c.args.depth ∷ k)))

pub simple-returns-in_ok-more-in-Some-clause-moves : goal.simple-returns-in_ok-more-in-Some-clause-moves
simple-returns-in_ok-more-in-Some-clause-moves t c =
    λ k. by.shifts m.table shallow c.split.ensures.whole (m.simple c.args.depth) c.args.depth (m.term c.args.depth ∷ m.additions c.args.depth ∷ []) (q.sign_by c.args.depth _ (sym c.sign.ensures ∙ c.in-Some.is)) (by.fits_shallow _ c.requires.nested) (k) ∙ c.in_ok-first-in-Some.ensures.moves (m.additions c.args.depth ∷ k) ∙ c.in_ok-more-in-Some.ensures.moves k

pub simple-returns-in_ok-more-in-Some-clause-tree : goal.simple-returns-in_ok-more-in-Some-clause-tree
simple-returns-in_ok-more-in-Some-clause-tree t c =
    rw c.split.ensures.whole (g.signed (sym c.sign.ensures ∙ c.in-Some.is) (by.fits_shallow _ c.requires.nested) c.in_ok-first-in-Some.ensures.tree c.in_ok-more-in-Some.ensures.tree)

pub simple-returns-then-not-starts_factor-clause-moves : goal.simple-returns-then-not-starts_factor-clause-moves
simple-returns-then-not-starts_factor-clause-moves t c =
    record { refused = (_, by.refuses m.table shallow c.split.ensures.whole (m.simple c.args.depth) c.args.depth (q.no_simple c.args.depth _ (sym c.sign.ensures ∙ c.in-None.is) (sym c.starts_factor.ensures ∙ c.if-not-starts_factor.true)) refl (by.fits_shallow _ c.requires.nested)) }

pub simple-returns-in_err-first-in-None-clause-moves : goal.simple-returns-in_err-first-in-None-clause-moves
simple-returns-in_err-first-in-None-clause-moves t c =
    by.exits (λ r. r.1.now) c.from_residual-in_err-first-in-None.result (m.simple c.args.depth ∷ []) c.from_residual-in_err-first-in-None.ensures.1 (by.pass_on (m.additions c.args.depth ∷ []) c.in_err-first-in-None.ensures.moves (λ k. by.becomes m.table shallow c.split.ensures.whole (m.simple c.args.depth) (m.term c.args.depth) (m.additions c.args.depth ∷ []) (λ j. q.simple_at c.args.depth _ j (sym c.starts_factor.ensures ∙ c.if-not-starts_factor.false)) (k)))

pub simple-returns-in_err-more-in-None-clause-moves : goal.simple-returns-in_err-more-in-None-clause-moves
simple-returns-in_err-more-in-None-clause-moves t c =
    by.exits (λ r. r.1.now) c.from_residual-in_err-more-in-None.result (m.simple c.args.depth ∷ []) c.from_residual-in_err-more-in-None.ensures.1 (by.pass_on ([]) c.in_err-more-in-None.ensures.moves (λ k. by.becomes m.table shallow c.split.ensures.whole (m.simple c.args.depth) (m.term c.args.depth) (m.additions c.args.depth ∷ []) (λ j. q.simple_at c.args.depth _ j (sym c.starts_factor.ensures ∙ c.if-not-starts_factor.false)) (k) ∙ c.in_ok-first-in-None.ensures.moves (m.additions c.args.depth ∷ k)))

pub simple-returns-in_ok-more-in-None-clause-moves : goal.simple-returns-in_ok-more-in-None-clause-moves
simple-returns-in_ok-more-in-None-clause-moves t c =
    λ k. by.becomes m.table shallow c.split.ensures.whole (m.simple c.args.depth) (m.term c.args.depth) (m.additions c.args.depth ∷ []) (λ j. q.simple_at c.args.depth _ j (sym c.starts_factor.ensures ∙ c.if-not-starts_factor.false)) (k) ∙ c.in_ok-first-in-None.ensures.moves (m.additions c.args.depth ∷ k) ∙ c.in_ok-more-in-None.ensures.moves k

pub simple-returns-in_ok-more-in-None-clause-tree : goal.simple-returns-in_ok-more-in-None-clause-tree
simple-returns-in_ok-more-in-None-clause-tree t c =
    rw c.split.ensures.whole (g.unsigned (rw c.split.ensures.whole at c.in_ok-first-in-None.ensures.tree) c.in_ok-more-in-None.ensures.tree)

pub additions-returns-in_err-right-clause-moves : goal.additions-returns-in_err-right-clause-moves
additions-returns-in_err-right-clause-moves t c =
    by.exits (λ r. r.1.now) c.from_residual.result (m.additions c.args.depth ∷ []) c.from_residual.ensures.1 (by.pass_on (m.additions c.args.depth ∷ []) c.in_err-right.ensures.moves (λ k. c.loop-op.invariant.moves k ∙ by.shifts m.table shallow c.split.ensures.whole (m.additions c.args.depth) c.args.depth (m.term c.args.depth ∷ m.additions c.args.depth ∷ []) (q.operator_by c.args.depth (m.term c.args.depth ∷ m.additions c.args.depth ∷ []) (sym c.addition.ensures ∙ c.in-Some.is)) (by.fits_shallow _ c.requires.nested) (k)))

pub additions-loop-op-preserved : goal.additions-loop-op-preserved
additions-loop-op-preserved t c =
    record {
      ended = c.in_ok-right.ensures.rest.0;
      shorter = omega (arith, ap length c.split.ensures.whole, c.in_ok-right.ensures.rest.1, c.loop-op.invariant.shorter);
      tree = λ more end h. rw (c.in_ok-push.ensures.ok, append_assoc) (c.loop-op.invariant.tree _ end (rw c.split.ensures.whole (g.addition (sym c.addition.ensures ∙ c.in-Some.is) (by.fits_shallow _ c.requires.nested) c.in_ok-right.ensures.tree h)));
      moves = λ k. c.loop-op.invariant.moves k ∙ by.shifts m.table shallow c.split.ensures.whole (m.additions c.args.depth) c.args.depth (m.term c.args.depth ∷ m.additions c.args.depth ∷ []) (q.operator_by c.args.depth (m.term c.args.depth ∷ m.additions c.args.depth ∷ []) (sym c.addition.ensures ∙ c.in-Some.is)) (by.fits_shallow _ c.requires.nested) (k) ∙ c.in_ok-right.ensures.moves (m.additions c.args.depth ∷ k);
    }

pub additions-returns-in_default-clause-tree : goal.additions-returns-in_default-clause-tree
additions-returns-in_default-clause-tree t c =
    rw (sym (append-nil c.loop-op.found)) (c.loop-op.invariant.tree [] _ g.no_additions)

pub additions-returns-in_default-clause-moves : goal.additions-returns-in_default-clause-moves
additions-returns-in_default-clause-moves t c =
    λ k. c.loop-op.invariant.moves k ∙ by.skips m.table shallow c.split.ensures.whole (m.additions c.args.depth) (q.no_operator c.args.depth (m.term c.args.depth ∷ m.additions c.args.depth ∷ []) (sym c.addition.ensures ∙ c.in_default.is)) refl (k)

pub products-returns-in_err-right-clause-moves : goal.products-returns-in_err-right-clause-moves
products-returns-in_err-right-clause-moves t c =
    by.exits (λ r. r.1.now) c.from_residual.result (m.products c.args.depth ∷ []) c.from_residual.ensures.1 (by.pass_on (m.products c.args.depth ∷ []) c.in_err-right.ensures.moves (λ k. c.loop-op.invariant.moves k ∙ by.shifts m.table shallow c.split.ensures.whole (m.products c.args.depth) c.args.depth (m.factor c.args.depth ∷ m.products c.args.depth ∷ []) (q.operator_by c.args.depth (m.factor c.args.depth ∷ m.products c.args.depth ∷ []) (sym c.product.ensures ∙ c.in-Some.is)) (by.fits_shallow _ c.requires.nested) (k)))

pub products-loop-op-preserved : goal.products-loop-op-preserved
products-loop-op-preserved t c =
    record {
      ended = c.in_ok-right.ensures.rest.0;
      shorter = omega (arith, ap length c.split.ensures.whole, c.in_ok-right.ensures.rest.1, c.loop-op.invariant.shorter);
      tree = λ more end h. rw (c.in_ok-push.ensures.ok, append_assoc) (c.loop-op.invariant.tree _ end (rw c.split.ensures.whole (g.product (sym c.product.ensures ∙ c.in-Some.is) (by.fits_shallow _ c.requires.nested) c.in_ok-right.ensures.tree h)));
      moves = λ k. c.loop-op.invariant.moves k ∙ by.shifts m.table shallow c.split.ensures.whole (m.products c.args.depth) c.args.depth (m.factor c.args.depth ∷ m.products c.args.depth ∷ []) (q.operator_by c.args.depth (m.factor c.args.depth ∷ m.products c.args.depth ∷ []) (sym c.product.ensures ∙ c.in-Some.is)) (by.fits_shallow _ c.requires.nested) (k) ∙ c.in_ok-right.ensures.moves (m.products c.args.depth ∷ k);
    }

pub products-returns-in_default-clause-tree : goal.products-returns-in_default-clause-tree
products-returns-in_default-clause-tree t c =
    rw (sym (append-nil c.loop-op.found)) (c.loop-op.invariant.tree [] _ g.no_products)

pub products-returns-in_default-clause-moves : goal.products-returns-in_default-clause-moves
products-returns-in_default-clause-moves t c =
    λ k. c.loop-op.invariant.moves k ∙ by.skips m.table shallow c.split.ensures.whole (m.products c.args.depth) (q.no_operator c.args.depth (m.factor c.args.depth ∷ m.products c.args.depth ∷ []) (sym c.product.ensures ∙ c.in_default.is)) refl (k)

pub term-returns-in_err-first-clause-moves : goal.term-returns-in_err-first-clause-moves
term-returns-in_err-first-clause-moves t c =
    by.exits (λ r. r.1.now) c.from_residual.result (m.term c.args.depth ∷ []) c.from_residual.ensures.1 (by.pass_on (m.products c.args.depth ∷ []) c.in_err-first.ensures.moves (λ k. q.to_term _ c.requires.ended c.args.depth k))

pub term-returns-in_err-more-clause-moves : goal.term-returns-in_err-more-clause-moves
term-returns-in_err-more-clause-moves t c =
    by.exits (λ r. r.1.now) c.from_residual-in_err-more.result (m.term c.args.depth ∷ []) c.from_residual-in_err-more.ensures.1 (by.pass_on ([]) c.in_err-more.ensures.moves (λ k. q.to_term _ c.requires.ended c.args.depth k ∙ c.in_ok-first.ensures.moves (m.products c.args.depth ∷ k)))

pub term-returns-clause-moves : goal.term-returns-clause-moves
term-returns-clause-moves t c =
    λ k. q.to_term _ c.requires.ended c.args.depth k ∙ c.in_ok-first.ensures.moves (m.products c.args.depth ∷ k) ∙ c.in_ok-more.ensures.moves k

pub term-returns-clause-tree : goal.term-returns-clause-tree
term-returns-clause-tree t c =
    rw c.split.ensures.whole (g.term (rw c.split.ensures.whole at c.in_ok-first.ensures.tree) c.in_ok-more.ensures.tree)

pub factor-returns-then-depth-eq200-clause-moves : goal.factor-returns-then-depth-eq200-clause-moves
factor-returns-then-depth-eq200-clause-moves t c =
    by.too_deep (m.factor c.args.depth) (c.args.depth + 1) c.split.ensures.whole refl (omega arith) (λ d p is. y.floor (m.factor c.args.depth) d p (c.args.depth + 1) is refl)

pub factor-returns-in_err-inner-in-Ident-clause-moves : goal.factor-returns-in_err-inner-in-Ident-clause-moves
factor-returns-in_err-inner-in-Ident-clause-moves t c =
    by.exits (λ r. r.1.now) c.from_residual.result (m.factor c.args.depth ∷ []) c.from_residual.ensures.1 (by.pass_on ([]) c.in_err-inner-in-Ident.ensures.moves (λ k. by.becomes m.table shallow c.split.ensures.whole (m.factor c.args.depth) (m.desig (c.args.depth + 1)) ([]) (q.factor_ident c.args.depth _ c.in-Ident.is) (k)))

pub factor-returns-in_ok-inner-in-Ident-clause-moves : goal.factor-returns-in_ok-inner-in-Ident-clause-moves
factor-returns-in_ok-inner-in-Ident-clause-moves t c =
    λ k. by.becomes m.table shallow c.split.ensures.whole (m.factor c.args.depth) (m.desig (c.args.depth + 1)) ([]) (q.factor_ident c.args.depth _ c.in-Ident.is) (k) ∙ c.in_ok-inner-in-Ident.ensures.moves k

pub factor-returns-in_ok-inner-in-Ident-clause-tree : goal.factor-returns-in_ok-inner-in-Ident-clause-tree
factor-returns-in_ok-inner-in-Ident-clause-tree t c =
    g.desig c.in_ok-inner-in-Ident.ensures.tree

pub factor-returns-in-Number-clause-moves : goal.factor-returns-in-Number-clause-moves
factor-returns-in-Number-clause-moves t c =
    λ k. by.shifts m.table shallow c.split.ensures.whole (m.factor c.args.depth) (c.args.depth + 1) ([]) (ap (m.after_factor c.args.depth) c.in-Number.is) (by.fits_shallow (c.args.depth + 1) (omega arith)) (k)

pub factor-returns-in-Number-clause-tree : goal.factor-returns-in-Number-clause-tree
factor-returns-in-Number-clause-tree t c =
    let fit : SFits w64 c.split.result.0.now.value = search rules in rw (c.split.ensures.whole, to_z-of_z w64 c.split.result.0.now.value fit) (g.number c.in-Number.is (by.fits_shallow (c.args.depth + 1) (omega arith)))

pub factor-returns-in-Char-clause-moves : goal.factor-returns-in-Char-clause-moves
factor-returns-in-Char-clause-moves t c =
    λ k. by.shifts m.table shallow c.split.ensures.whole (m.factor c.args.depth) (c.args.depth + 1) ([]) (ap (m.after_factor c.args.depth) c.in-Char.is) (by.fits_shallow (c.args.depth + 1) (omega arith)) (k)

pub factor-returns-in-Char-clause-tree : goal.factor-returns-in-Char-clause-tree
factor-returns-in-Char-clause-tree t c =
    let fit : SFits w64 c.split.result.0.now.value = search rules in rw (c.split.ensures.whole, to_z-of_z w64 c.split.result.0.now.value fit) (g.char c.in-Char.is (by.fits_shallow (c.args.depth + 1) (omega arith)))

pub factor-returns-in-Text-clause-moves : goal.factor-returns-in-Text-clause-moves
factor-returns-in-Text-clause-moves t c =
    λ k. by.shifts m.table shallow c.split.ensures.whole (m.factor c.args.depth) (c.args.depth + 1) ([]) (ap (m.after_factor c.args.depth) c.in-Text.is) (by.fits_shallow (c.args.depth + 1) (omega arith)) (k)

pub factor-returns-in-Text-clause-tree : goal.factor-returns-in-Text-clause-tree
factor-returns-in-Text-clause-tree t c =
    rw (c.split.ensures.whole, c.text.ensures) (g.text c.in-Text.is (by.fits_shallow (c.args.depth + 1) (omega arith)))

pub factor-returns-in-KwNil-clause-moves : goal.factor-returns-in-KwNil-clause-moves
factor-returns-in-KwNil-clause-moves t c =
    λ k. by.shifts m.table shallow c.split.ensures.whole (m.factor c.args.depth) (c.args.depth + 1) ([]) (ap (m.after_factor c.args.depth) c.in-KwNil.is) (by.fits_shallow (c.args.depth + 1) (omega arith)) (k)

pub factor-returns-in-KwNil-clause-tree : goal.factor-returns-in-KwNil-clause-tree
factor-returns-in-KwNil-clause-tree t c =
    rw c.split.ensures.whole (g.nil c.in-KwNil.is (by.fits_shallow (c.args.depth + 1) (omega arith)))

pub factor-returns-in_err-all-in-OpenBrace-clause-moves : goal.factor-returns-in_err-all-in-OpenBrace-clause-moves
factor-returns-in_err-all-in-OpenBrace-clause-moves t c =
    by.exits (λ r. r.1.now) c.from_residual-in_err-all-in-OpenBrace.result (m.factor c.args.depth ∷ []) c.from_residual-in_err-all-in-OpenBrace.ensures.1 (by.pass_on ([]) c.in_err-all-in-OpenBrace.ensures.moves (λ k. by.shifts m.table shallow c.split.ensures.whole (m.factor c.args.depth) (c.args.depth + 1) (m.members (c.args.depth + 1) ∷ []) (ap (m.after_factor c.args.depth) c.in-OpenBrace.is) (by.fits_shallow (c.args.depth + 1) (omega arith)) (k)))

pub factor-returns-in_ok-all-in-OpenBrace-clause-moves : goal.factor-returns-in_ok-all-in-OpenBrace-clause-moves
factor-returns-in_ok-all-in-OpenBrace-clause-moves t c =
    λ k. by.shifts m.table shallow c.split.ensures.whole (m.factor c.args.depth) (c.args.depth + 1) (m.members (c.args.depth + 1) ∷ []) (ap (m.after_factor c.args.depth) c.in-OpenBrace.is) (by.fits_shallow (c.args.depth + 1) (omega arith)) (k) ∙ c.in_ok-all-in-OpenBrace.ensures.moves k

pub factor-returns-in_ok-all-in-OpenBrace-clause-tree : goal.factor-returns-in_ok-all-in-OpenBrace-clause-tree
factor-returns-in_ok-all-in-OpenBrace-clause-tree t c =
    rw c.split.ensures.whole (g.set c.in-OpenBrace.is (by.fits_shallow (c.args.depth + 1) (omega arith)) c.in_ok-all-in-OpenBrace.ensures.tree)

pub factor-returns-in_err-inner-in-OpenParen-clause-moves : goal.factor-returns-in_err-inner-in-OpenParen-clause-moves
factor-returns-in_err-inner-in-OpenParen-clause-moves t c =
    by.exits (λ r. r.1.now) c.from_residual-in_err-inner-in-OpenParen.result (m.factor c.args.depth ∷ []) c.from_residual-in_err-inner-in-OpenParen.ensures.1 (by.pass_on (m.tok (c.args.depth + 1) kind.CloseParen ∷ []) c.in_err-inner-in-OpenParen.ensures.moves (λ k. by.shifts m.table shallow c.split.ensures.whole (m.factor c.args.depth) (c.args.depth + 1) (m.expr (c.args.depth + 1) ∷ m.tok (c.args.depth + 1) kind.CloseParen ∷ []) (ap (m.after_factor c.args.depth) c.in-OpenParen.is) (by.fits_shallow (c.args.depth + 1) (omega arith)) (k)))

pub factor-returns-in_err-rest-in-OpenParen-clause-moves : goal.factor-returns-in_err-rest-in-OpenParen-clause-moves
factor-returns-in_err-rest-in-OpenParen-clause-moves t c =
    by.exits (λ r. r.1.now) c.from_residual-in_err-rest-in-OpenParen.result (m.factor c.args.depth ∷ []) c.from_residual-in_err-rest-in-OpenParen.ensures.1 (by.pass_on ([]) c.in_err-rest-in-OpenParen.ensures.moves (λ k. by.shifts m.table shallow c.split.ensures.whole (m.factor c.args.depth) (c.args.depth + 1) (m.expr (c.args.depth + 1) ∷ m.tok (c.args.depth + 1) kind.CloseParen ∷ []) (ap (m.after_factor c.args.depth) c.in-OpenParen.is) (by.fits_shallow (c.args.depth + 1) (omega arith)) (k) ∙ c.in_ok-inner-in-OpenParen.ensures.moves (m.tok (c.args.depth + 1) kind.CloseParen ∷ k)))

pub factor-returns-in_ok-new-in-OpenParen-clause-moves : goal.factor-returns-in_ok-new-in-OpenParen-clause-moves
factor-returns-in_ok-new-in-OpenParen-clause-moves t c =
    λ k. by.shifts m.table shallow c.split.ensures.whole (m.factor c.args.depth) (c.args.depth + 1) (m.expr (c.args.depth + 1) ∷ m.tok (c.args.depth + 1) kind.CloseParen ∷ []) (ap (m.after_factor c.args.depth) c.in-OpenParen.is) (by.fits_shallow (c.args.depth + 1) (omega arith)) (k) ∙ c.in_ok-inner-in-OpenParen.ensures.moves (m.tok (c.args.depth + 1) kind.CloseParen ∷ k) ∙ c.in_ok-rest-in-OpenParen.ensures.moves k

pub factor-returns-in_ok-new-in-OpenParen-clause-tree : goal.factor-returns-in_ok-new-in-OpenParen-clause-tree
factor-returns-in_ok-new-in-OpenParen-clause-tree t c =
    rw (c.split.ensures.whole, c.in_ok-new-in-OpenParen.ensures) (g.paren c.in-OpenParen.is (by.fits_shallow (c.args.depth + 1) (omega arith)) (rw c.in_ok-rest-in-OpenParen.ensures.whole.0 at c.in_ok-inner-in-OpenParen.ensures.tree) c.in_ok-rest-in-OpenParen.ensures.whole.1 (by.fits_shallow (c.args.depth + 1) (omega arith)))

pub factor-returns-in_err-inner-in-Tilde-clause-moves : goal.factor-returns-in_err-inner-in-Tilde-clause-moves
factor-returns-in_err-inner-in-Tilde-clause-moves t c =
    by.exits (λ r. r.1.now) c.from_residual-in_err-inner-in-Tilde.result (m.factor c.args.depth ∷ []) c.from_residual-in_err-inner-in-Tilde.ensures.1 (by.pass_on ([]) c.in_err-inner-in-Tilde.ensures.moves (λ k. by.shifts m.table shallow c.split.ensures.whole (m.factor c.args.depth) (c.args.depth + 1) (m.factor (c.args.depth + 1) ∷ []) (ap (m.after_factor c.args.depth) c.in-Tilde.is) (by.fits_shallow (c.args.depth + 1) (omega arith)) (k)))

pub factor-returns-in_ok-new-in-Tilde-clause-moves : goal.factor-returns-in_ok-new-in-Tilde-clause-moves
factor-returns-in_ok-new-in-Tilde-clause-moves t c =
    λ k. by.shifts m.table shallow c.split.ensures.whole (m.factor c.args.depth) (c.args.depth + 1) (m.factor (c.args.depth + 1) ∷ []) (ap (m.after_factor c.args.depth) c.in-Tilde.is) (by.fits_shallow (c.args.depth + 1) (omega arith)) (k) ∙ c.in_ok-inner-in-Tilde.ensures.moves k

pub factor-returns-in_ok-new-in-Tilde-clause-tree : goal.factor-returns-in_ok-new-in-Tilde-clause-tree
factor-returns-in_ok-new-in-Tilde-clause-tree t c =
    rw (c.split.ensures.whole, c.in_ok-new-in-Tilde.ensures) (g.not c.in-Tilde.is (by.fits_shallow (c.args.depth + 1) (omega arith)) c.in_ok-inner-in-Tilde.ensures.tree)

pub factor-returns-in_default : goal.factor-returns-in_default
factor-returns-in_default t c =
    record { tree = tt; rest = tt; moves = record { refused = (_, by.refuses m.table shallow c.split.ensures.whole (m.factor c.args.depth) (c.args.depth + 1) (q.none_factor _ _ c.in_default.not-Ident c.in_default.not-Number c.in_default.not-Char c.in_default.not-Text c.in_default.not-KwNil c.in_default.not-OpenBrace c.in_default.not-OpenParen c.in_default.not-Tilde) refl (by.fits_shallow (c.args.depth + 1) (omega arith))) } }

pub members-returns-then-eq-clause-moves : goal.members-returns-then-eq-clause-moves
members-returns-then-eq-clause-moves t c =
    λ k. by.shifts m.table shallow c.split.ensures.whole (m.members c.args.depth) c.args.depth ([]) (ap (m.after_members c.args.depth) (let is : c.split.result.0.now.kind ≡ kind.CloseBrace = same_true the_type (search rules) _ _ (sym c.eq.ensures ∙ c.if-eq.true) in is)) (by.fits_shallow _ c.requires.nested) (k)

pub members-returns-then-eq-clause-tree : goal.members-returns-then-eq-clause-tree
members-returns-then-eq-clause-tree t c =
    rw (c.split.ensures.whole, c.new.ensures) (g.no_members (let is : c.split.result.0.now.kind ≡ kind.CloseBrace = same_true the_type (search rules) _ _ (sym c.eq.ensures ∙ c.if-eq.true) in is) (by.fits_shallow _ c.requires.nested))

pub members-returns-then-not-starts_expr-clause-moves : goal.members-returns-then-not-starts_expr-clause-moves
members-returns-then-not-starts_expr-clause-moves t c =
    record { refused = (_, by.refuses m.table shallow c.split.ensures.whole (m.members c.args.depth) c.args.depth (q.no_members _ _ (same_false the_type _ _ (sym c.eq.ensures ∙ c.if-eq.false)) (sym c.starts_expr.ensures ∙ c.if-not-starts_expr.true)) refl (by.fits_shallow _ c.requires.nested)) }

pub members-returns-in_err-all-clause-moves : goal.members-returns-in_err-all-clause-moves
members-returns-in_err-all-clause-moves t c =
    by.exits (λ r. r.1.now) c.from_residual.result (m.members c.args.depth ∷ []) c.from_residual.ensures.1 (by.pass_on (m.tok c.args.depth kind.CloseBrace ∷ []) c.in_err-all.ensures.moves (λ k. by.becomes m.table shallow c.split.ensures.whole (m.members c.args.depth) (m.elems c.args.depth) (m.tok c.args.depth kind.CloseBrace ∷ []) (λ j. q.members_at c.args.depth _ j (sym c.starts_expr.ensures ∙ c.if-not-starts_expr.false)) (k)))

pub members-returns-in_err-rest-clause-moves : goal.members-returns-in_err-rest-clause-moves
members-returns-in_err-rest-clause-moves t c =
    by.exits (λ r. r.1.now) c.from_residual-in_err-rest.result (m.members c.args.depth ∷ []) c.from_residual-in_err-rest.ensures.1 (by.pass_on ([]) c.in_err-rest.ensures.moves (λ k. by.becomes m.table shallow c.split.ensures.whole (m.members c.args.depth) (m.elems c.args.depth) (m.tok c.args.depth kind.CloseBrace ∷ []) (λ j. q.members_at c.args.depth _ j (sym c.starts_expr.ensures ∙ c.if-not-starts_expr.false)) (k) ∙ c.in_ok-all.ensures.moves (m.tok c.args.depth kind.CloseBrace ∷ k)))

pub members-returns-clause-moves : goal.members-returns-clause-moves
members-returns-clause-moves t c =
    λ k. by.becomes m.table shallow c.split.ensures.whole (m.members c.args.depth) (m.elems c.args.depth) (m.tok c.args.depth kind.CloseBrace ∷ []) (λ j. q.members_at c.args.depth _ j (sym c.starts_expr.ensures ∙ c.if-not-starts_expr.false)) (k) ∙ c.in_ok-all.ensures.moves (m.tok c.args.depth kind.CloseBrace ∷ k) ∙ c.in_ok-rest.ensures.moves k

pub members-returns-clause-tree : goal.members-returns-clause-tree
members-returns-clause-tree t c =
    g.members (rw c.in_ok-rest.ensures.whole.0 at c.in_ok-all.ensures.tree) c.in_ok-rest.ensures.whole.1 (by.fits_shallow _ c.requires.nested)

pub arguments-returns-then-eq-clause-moves : goal.arguments-returns-then-eq-clause-moves
arguments-returns-then-eq-clause-moves t c =
    λ k. by.shifts m.table shallow c.split.ensures.whole (m.arguments c.args.depth) c.args.depth ([]) (ap (m.after_arguments c.args.depth) (let is : c.split.result.0.now.kind ≡ kind.CloseParen = same_true the_type (search rules) _ _ (sym c.eq.ensures ∙ c.if-eq.true) in is)) (by.fits_shallow _ c.requires.nested) (k)

pub arguments-returns-then-eq-clause-tree : goal.arguments-returns-then-eq-clause-tree
arguments-returns-then-eq-clause-tree t c =
    rw (c.split.ensures.whole, c.new.ensures) (g.no_arguments (let is : c.split.result.0.now.kind ≡ kind.CloseParen = same_true the_type (search rules) _ _ (sym c.eq.ensures ∙ c.if-eq.true) in is) (by.fits_shallow _ c.requires.nested))

pub arguments-returns-then-not-starts_expr-clause-moves : goal.arguments-returns-then-not-starts_expr-clause-moves
arguments-returns-then-not-starts_expr-clause-moves t c =
    record { refused = (_, by.refuses m.table shallow c.split.ensures.whole (m.arguments c.args.depth) c.args.depth (q.no_arguments _ _ (same_false the_type _ _ (sym c.eq.ensures ∙ c.if-eq.false)) (sym c.starts_expr.ensures ∙ c.if-not-starts_expr.true)) refl (by.fits_shallow _ c.requires.nested)) }

pub arguments-returns-in_err-all-clause-moves : goal.arguments-returns-in_err-all-clause-moves
arguments-returns-in_err-all-clause-moves t c =
    by.exits (λ r. r.1.now) c.from_residual.result (m.arguments c.args.depth ∷ []) c.from_residual.ensures.1 (by.pass_on (m.tok c.args.depth kind.CloseParen ∷ []) c.in_err-all.ensures.moves (λ k. by.becomes m.table shallow c.split.ensures.whole (m.arguments c.args.depth) (m.exprs c.args.depth) (m.tok c.args.depth kind.CloseParen ∷ []) (λ j. q.arguments_at c.args.depth _ j (sym c.starts_expr.ensures ∙ c.if-not-starts_expr.false)) (k)))

pub arguments-returns-in_err-rest-clause-moves : goal.arguments-returns-in_err-rest-clause-moves
arguments-returns-in_err-rest-clause-moves t c =
    by.exits (λ r. r.1.now) c.from_residual-in_err-rest.result (m.arguments c.args.depth ∷ []) c.from_residual-in_err-rest.ensures.1 (by.pass_on ([]) c.in_err-rest.ensures.moves (λ k. by.becomes m.table shallow c.split.ensures.whole (m.arguments c.args.depth) (m.exprs c.args.depth) (m.tok c.args.depth kind.CloseParen ∷ []) (λ j. q.arguments_at c.args.depth _ j (sym c.starts_expr.ensures ∙ c.if-not-starts_expr.false)) (k) ∙ c.in_ok-all.ensures.moves (m.tok c.args.depth kind.CloseParen ∷ k)))

pub arguments-returns-clause-moves : goal.arguments-returns-clause-moves
arguments-returns-clause-moves t c =
    λ k. by.becomes m.table shallow c.split.ensures.whole (m.arguments c.args.depth) (m.exprs c.args.depth) (m.tok c.args.depth kind.CloseParen ∷ []) (λ j. q.arguments_at c.args.depth _ j (sym c.starts_expr.ensures ∙ c.if-not-starts_expr.false)) (k) ∙ c.in_ok-all.ensures.moves (m.tok c.args.depth kind.CloseParen ∷ k) ∙ c.in_ok-rest.ensures.moves k

pub arguments-returns-clause-tree : goal.arguments-returns-clause-tree
arguments-returns-clause-tree t c =
    g.arguments (rw c.in_ok-rest.ensures.whole.0 at c.in_ok-all.ensures.tree) c.in_ok-rest.ensures.whole.1 (by.fits_shallow _ c.requires.nested)

pub elems-loop-found-init : goal.elems-loop-found-init
elems-loop-found-init t c =
    record {
      ended = c.in_ok-first.ensures.rest.0;
      shorter = omega (arith, c.in_ok-first.ensures.rest.1);
      tree = λ more end h. rw (c.in_ok-push.ensures.ok, c.new-found.ensures) (g.elems c.in_ok-first.ensures.tree h);
      moves = λ k. q.to_elems _ c.requires.ended c.args.depth k ∙ c.in_ok-first.ensures.moves (m.more_elems c.args.depth ∷ k);
    }

pub elems-returns-in_err-first-clause-moves : goal.elems-returns-in_err-first-clause-moves
elems-returns-in_err-first-clause-moves t c =
    by.exits (λ r. r.1.now) c.from_residual.result (m.elems c.args.depth ∷ []) c.from_residual.ensures.1 (by.pass_on (m.more_elems c.args.depth ∷ []) c.in_err-first.ensures.moves (λ k. q.to_elems _ c.requires.ended c.args.depth k))

pub elems-returns-in_err-one-in-Comma-clause-moves : goal.elems-returns-in_err-one-in-Comma-clause-moves
elems-returns-in_err-one-in-Comma-clause-moves t c =
    by.exits (λ r. r.1.now) c.from_residual-in_err-one-in-Comma.result (m.elems c.args.depth ∷ []) c.from_residual-in_err-one-in-Comma.ensures.1 (by.pass_on (m.more_elems c.args.depth ∷ []) c.in_err-one-in-Comma.ensures.moves (λ k. c.loop-found.invariant.moves k ∙ by.shifts m.table shallow c.split.ensures.whole (m.more_elems c.args.depth) c.args.depth (m.elem c.args.depth ∷ m.more_elems c.args.depth ∷ []) (ap (m.after_more_elems c.args.depth) c.in-Comma.is) (by.fits_shallow _ c.requires.nested) (k)))

pub elems-loop-found-preserved : goal.elems-loop-found-preserved
elems-loop-found-preserved t c =
    record {
      ended = c.in_ok-one-in-Comma.ensures.rest.0;
      shorter = omega (arith, ap length c.split.ensures.whole, c.in_ok-one-in-Comma.ensures.rest.1, c.loop-found.invariant.shorter);
      tree = λ more end h. rw (c.in_ok-push-in-Comma.ensures.ok, append_assoc) (c.loop-found.invariant.tree _ end (rw c.split.ensures.whole (g.another_elem c.in-Comma.is (by.fits_shallow _ c.requires.nested) c.in_ok-one-in-Comma.ensures.tree h)));
      moves = λ k. c.loop-found.invariant.moves k ∙ by.shifts m.table shallow c.split.ensures.whole (m.more_elems c.args.depth) c.args.depth (m.elem c.args.depth ∷ m.more_elems c.args.depth ∷ []) (ap (m.after_more_elems c.args.depth) c.in-Comma.is) (by.fits_shallow _ c.requires.nested) (k) ∙ c.in_ok-one-in-Comma.ensures.moves (m.more_elems c.args.depth ∷ k);
    }

pub elems-returns-in_default : goal.elems-returns-in_default
elems-returns-in_default t c =
    record {
      tree = rw (sym (append-nil c.loop-found.found)) (c.loop-found.invariant.tree [] _ g.no_more_elems);
      rest = (c.loop-found.invariant.ended, c.loop-found.invariant.shorter);
      moves = λ k. c.loop-found.invariant.moves k ∙ by.skips m.table shallow c.split.ensures.whole (m.more_elems c.args.depth) (q.no_more_elems _ _ c.in_default.not-Comma) refl (k);
    }

pub exprs-loop-found-init : goal.exprs-loop-found-init
exprs-loop-found-init t c =
    record {
      ended = c.in_ok-first.ensures.rest.0;
      shorter = omega (arith, c.in_ok-first.ensures.rest.1);
      tree = λ more end h. rw (c.in_ok-push.ensures.ok, c.new-found.ensures) (g.exprs c.in_ok-first.ensures.tree h);
      moves = λ k. q.to_exprs _ c.requires.ended c.args.depth k ∙ c.in_ok-first.ensures.moves (m.more_exprs c.args.depth ∷ k);
    }

pub exprs-returns-in_err-first-clause-moves : goal.exprs-returns-in_err-first-clause-moves
exprs-returns-in_err-first-clause-moves t c =
    by.exits (λ r. r.1.now) c.from_residual.result (m.exprs c.args.depth ∷ []) c.from_residual.ensures.1 (by.pass_on (m.more_exprs c.args.depth ∷ []) c.in_err-first.ensures.moves (λ k. q.to_exprs _ c.requires.ended c.args.depth k))

pub exprs-returns-in_err-one-in-Comma-clause-moves : goal.exprs-returns-in_err-one-in-Comma-clause-moves
exprs-returns-in_err-one-in-Comma-clause-moves t c =
    by.exits (λ r. r.1.now) c.from_residual-in_err-one-in-Comma.result (m.exprs c.args.depth ∷ []) c.from_residual-in_err-one-in-Comma.ensures.1 (by.pass_on (m.more_exprs c.args.depth ∷ []) c.in_err-one-in-Comma.ensures.moves (λ k. c.loop-found.invariant.moves k ∙ by.shifts m.table shallow c.split.ensures.whole (m.more_exprs c.args.depth) c.args.depth (m.expr c.args.depth ∷ m.more_exprs c.args.depth ∷ []) (ap (m.after_more_exprs c.args.depth) c.in-Comma.is) (by.fits_shallow _ c.requires.nested) (k)))

pub exprs-loop-found-preserved : goal.exprs-loop-found-preserved
exprs-loop-found-preserved t c =
    record {
      ended = c.in_ok-one-in-Comma.ensures.rest.0;
      shorter = omega (arith, ap length c.split.ensures.whole, c.in_ok-one-in-Comma.ensures.rest.1, c.loop-found.invariant.shorter);
      tree = λ more end h. rw (c.in_ok-push-in-Comma.ensures.ok, append_assoc) (c.loop-found.invariant.tree _ end (rw c.split.ensures.whole (g.another_expr c.in-Comma.is (by.fits_shallow _ c.requires.nested) c.in_ok-one-in-Comma.ensures.tree h)));
      moves = λ k. c.loop-found.invariant.moves k ∙ by.shifts m.table shallow c.split.ensures.whole (m.more_exprs c.args.depth) c.args.depth (m.expr c.args.depth ∷ m.more_exprs c.args.depth ∷ []) (ap (m.after_more_exprs c.args.depth) c.in-Comma.is) (by.fits_shallow _ c.requires.nested) (k) ∙ c.in_ok-one-in-Comma.ensures.moves (m.more_exprs c.args.depth ∷ k);
    }

pub exprs-returns-in_default : goal.exprs-returns-in_default
exprs-returns-in_default t c =
    record {
      tree = rw (sym (append-nil c.loop-found.found)) (c.loop-found.invariant.tree [] _ g.no_more_exprs);
      rest = (c.loop-found.invariant.ended, c.loop-found.invariant.shorter);
      moves = λ k. c.loop-found.invariant.moves k ∙ by.skips m.table shallow c.split.ensures.whole (m.more_exprs c.args.depth) (q.no_more_exprs _ _ c.in_default.not-Comma) refl (k);
    }

pub elem-returns-in_err-first-clause-moves : goal.elem-returns-in_err-first-clause-moves
elem-returns-in_err-first-clause-moves t c =
    by.exits (λ r. r.1.now) c.from_residual.result (m.elem c.args.depth ∷ []) c.from_residual.ensures.1 (by.pass_on (m.upper c.args.depth ∷ []) c.in_err-first.ensures.moves (λ k. q.to_elem _ c.requires.ended c.args.depth k))

pub elem-returns-in_err-last-in-Range-clause-moves : goal.elem-returns-in_err-last-in-Range-clause-moves
elem-returns-in_err-last-in-Range-clause-moves t c =
    by.exits (λ r. r.1.now) c.from_residual-in_err-last-in-Range.result (m.elem c.args.depth ∷ []) c.from_residual-in_err-last-in-Range.ensures.1 (by.pass_on ([]) c.in_err-last-in-Range.ensures.moves (λ k. q.to_elem _ c.requires.ended c.args.depth k ∙ c.in_ok-first.ensures.moves (m.upper c.args.depth ∷ k) ∙ by.shifts m.table shallow c.split.ensures.whole (m.upper c.args.depth) c.args.depth (m.expr c.args.depth ∷ []) (ap (m.after_upper c.args.depth) c.in-Range.is) (by.fits_shallow _ c.requires.nested) (k)))

pub elem-returns-in_ok-new-in-Range-clause-moves : goal.elem-returns-in_ok-new-in-Range-clause-moves
elem-returns-in_ok-new-in-Range-clause-moves t c =
    λ k. q.to_elem _ c.requires.ended c.args.depth k ∙ c.in_ok-first.ensures.moves (m.upper c.args.depth ∷ k) ∙ by.shifts m.table shallow c.split.ensures.whole (m.upper c.args.depth) c.args.depth (m.expr c.args.depth ∷ []) (ap (m.after_upper c.args.depth) c.in-Range.is) (by.fits_shallow _ c.requires.nested) (k) ∙ c.in_ok-last-in-Range.ensures.moves k

pub elem-returns-in_ok-new-in-Range-clause-tree : goal.elem-returns-in_ok-new-in-Range-clause-tree
elem-returns-in_ok-new-in-Range-clause-tree t c =
    rw c.in_ok-new-in-Range.ensures (g.range (rw c.split.ensures.whole at c.in_ok-first.ensures.tree) c.in-Range.is (by.fits_shallow _ c.requires.nested) c.in_ok-last-in-Range.ensures.tree)

pub elem-returns-in_default : goal.elem-returns-in_default
elem-returns-in_default t c =
    record {
      tree = rw c.empty.ensures (g.single c.in_ok-first.ensures.tree);
      rest = c.in_ok-first.ensures.rest;
      moves = λ k. q.to_elem _ c.requires.ended c.args.depth k ∙ c.in_ok-first.ensures.moves (m.upper c.args.depth ∷ k) ∙ by.skips m.table shallow c.split.ensures.whole (m.upper c.args.depth) (q.no_upper _ _ c.in_default.not-Range) refl (k);
    }

pub desig-returns-in_err-token-clause-moves : goal.desig-returns-in_err-token-clause-moves
desig-returns-in_err-token-clause-moves t c =
    by.exits (λ r. r.1.now) c.from_residual.result (m.desig c.args.depth ∷ []) c.from_residual.ensures.1 (by.pass_on (m.selectors c.args.depth ∷ []) c.in_err-token.ensures.moves (λ k. q.to_desig _ c.requires.ended c.args.depth k))

pub desig-returns-in_err-more-clause-moves : goal.desig-returns-in_err-more-clause-moves
desig-returns-in_err-more-clause-moves t c =
    by.exits (λ r. r.1.now) c.from_residual-in_err-more.result (m.desig c.args.depth ∷ []) c.from_residual-in_err-more.ensures.1 (by.pass_on ([]) c.in_err-more.ensures.moves (λ k. q.to_desig _ c.requires.ended c.args.depth k ∙ c.in_ok-token.ensures.moves (m.selectors c.args.depth ∷ k)))

pub desig-returns-clause-moves : goal.desig-returns-clause-moves
desig-returns-clause-moves t c =
    λ k. q.to_desig _ c.requires.ended c.args.depth k ∙ c.in_ok-token.ensures.moves (m.selectors c.args.depth ∷ k) ∙ c.in_ok-more.ensures.moves k

pub desig-returns-clause-tree : goal.desig-returns-clause-tree
desig-returns-clause-tree t c =
    rw (c.in_ok-token.ensures.whole.0, c.name.ensures) (g.named c.in_ok-token.ensures.whole.1 (by.fits_shallow _ c.requires.nested) c.in_ok-more.ensures.tree)

pub selectors-returns-in_err-one-in-Period-clause-moves : goal.selectors-returns-in_err-one-in-Period-clause-moves
selectors-returns-in_err-one-in-Period-clause-moves t c =
    by.exits (λ r. r.1.now) c.from_residual.result (m.selectors c.args.depth ∷ []) c.from_residual.ensures.1 (by.pass_on (m.selectors c.args.depth ∷ []) c.in_err-one-in-Period.ensures.moves (λ k. c.loop-found.invariant.moves k ∙ by.becomes m.table shallow c.split.ensures.whole (m.selectors c.args.depth) (m.selector c.args.depth) (m.selectors c.args.depth ∷ []) (q.selectors_go c.args.depth _ c.in-Period.is) (k)))

pub selectors-loop-found-preserved : goal.selectors-loop-found-preserved
selectors-loop-found-preserved t c =
    record {
      ended = c.in_ok-one-in-Period.ensures.rest.0;
      shorter = omega (arith, c.in_ok-one-in-Period.ensures.rest.1, c.loop-found.invariant.shorter);
      tree = λ more end h. rw (c.in_ok-push-in-Period.ensures.ok, append_assoc) (c.loop-found.invariant.tree _ end (g.selected c.in_ok-one-in-Period.ensures.tree h));
      moves = λ k. c.loop-found.invariant.moves k ∙ by.becomes m.table shallow c.split.ensures.whole (m.selectors c.args.depth) (m.selector c.args.depth) (m.selectors c.args.depth ∷ []) (q.selectors_go c.args.depth _ c.in-Period.is) (k) ∙ c.in_ok-one-in-Period.ensures.moves (m.selectors c.args.depth ∷ k);
    }

pub selectors-returns-in_default : goal.selectors-returns-in_default
selectors-returns-in_default t c =
    record {
      tree = rw (sym (append-nil c.loop-found.found)) (c.loop-found.invariant.tree [] _ g.no_selectors);
      rest = (c.loop-found.invariant.ended, c.loop-found.invariant.shorter);
      moves = λ k. c.loop-found.invariant.moves k ∙ by.skips m.table shallow c.split.ensures.whole (m.selectors c.args.depth) (q.no_selectors _ _ c.in_default.not-Period c.in_default.not-OpenBracket c.in_default.not-Caret c.in_default.not-OpenParen) refl (k);
    }

pub selector-returns-in_err-ident-in-Period-clause-moves : goal.selector-returns-in_err-ident-in-Period-clause-moves
selector-returns-in_err-ident-in-Period-clause-moves t c =
    by.exits (λ r. r.1.now) c.from_residual.result (m.selector c.args.depth ∷ []) c.from_residual.ensures.1 (by.pass_on ([]) c.in_err-ident-in-Period.ensures.moves (λ k. by.shifts m.table shallow c.split.ensures.whole (m.selector c.args.depth) c.args.depth (m.tok c.args.depth kind.Ident ∷ []) (ap (m.after_selector c.args.depth) c.in-Period.is) (by.fits_shallow _ c.requires.nested) (k)))

pub selector-returns-in_ok-ident-in-Period-clause-moves : goal.selector-returns-in_ok-ident-in-Period-clause-moves
selector-returns-in_ok-ident-in-Period-clause-moves t c =
    λ k. by.shifts m.table shallow c.split.ensures.whole (m.selector c.args.depth) c.args.depth (m.tok c.args.depth kind.Ident ∷ []) (ap (m.after_selector c.args.depth) c.in-Period.is) (by.fits_shallow _ c.requires.nested) (k) ∙ c.in_ok-ident-in-Period.ensures.moves k

pub selector-returns-in_ok-ident-in-Period-clause-tree : goal.selector-returns-in_ok-ident-in-Period-clause-tree
selector-returns-in_ok-ident-in-Period-clause-tree t c =
    rw (c.split.ensures.whole, c.in_ok-ident-in-Period.ensures.whole.0, c.name.ensures) (g.field c.in-Period.is (by.fits_shallow _ c.requires.nested) c.in_ok-ident-in-Period.ensures.whole.1 (by.fits_shallow _ c.requires.nested))

pub selector-returns-in_err-all-in-OpenBracket-clause-moves : goal.selector-returns-in_err-all-in-OpenBracket-clause-moves
selector-returns-in_err-all-in-OpenBracket-clause-moves t c =
    by.exits (λ r. r.1.now) c.from_residual-in_err-all-in-OpenBracket.result (m.selector c.args.depth ∷ []) c.from_residual-in_err-all-in-OpenBracket.ensures.1 (by.pass_on (m.tok c.args.depth kind.CloseBracket ∷ []) c.in_err-all-in-OpenBracket.ensures.moves (λ k. by.shifts m.table shallow c.split.ensures.whole (m.selector c.args.depth) c.args.depth (m.exprs c.args.depth ∷ m.tok c.args.depth kind.CloseBracket ∷ []) (ap (m.after_selector c.args.depth) c.in-OpenBracket.is) (by.fits_shallow _ c.requires.nested) (k)))

pub selector-returns-in_err-rest-in-OpenBracket-clause-moves : goal.selector-returns-in_err-rest-in-OpenBracket-clause-moves
selector-returns-in_err-rest-in-OpenBracket-clause-moves t c =
    by.exits (λ r. r.1.now) c.from_residual-in_err-rest-in-OpenBracket.result (m.selector c.args.depth ∷ []) c.from_residual-in_err-rest-in-OpenBracket.ensures.1 (by.pass_on ([]) c.in_err-rest-in-OpenBracket.ensures.moves (λ k. by.shifts m.table shallow c.split.ensures.whole (m.selector c.args.depth) c.args.depth (m.exprs c.args.depth ∷ m.tok c.args.depth kind.CloseBracket ∷ []) (ap (m.after_selector c.args.depth) c.in-OpenBracket.is) (by.fits_shallow _ c.requires.nested) (k) ∙ c.in_ok-all-in-OpenBracket.ensures.moves (m.tok c.args.depth kind.CloseBracket ∷ k)))

pub selector-returns-in_ok-rest-in-OpenBracket-clause-moves : goal.selector-returns-in_ok-rest-in-OpenBracket-clause-moves
selector-returns-in_ok-rest-in-OpenBracket-clause-moves t c =
    λ k. by.shifts m.table shallow c.split.ensures.whole (m.selector c.args.depth) c.args.depth (m.exprs c.args.depth ∷ m.tok c.args.depth kind.CloseBracket ∷ []) (ap (m.after_selector c.args.depth) c.in-OpenBracket.is) (by.fits_shallow _ c.requires.nested) (k) ∙ c.in_ok-all-in-OpenBracket.ensures.moves (m.tok c.args.depth kind.CloseBracket ∷ k) ∙ c.in_ok-rest-in-OpenBracket.ensures.moves k

pub selector-returns-in_ok-rest-in-OpenBracket-clause-tree : goal.selector-returns-in_ok-rest-in-OpenBracket-clause-tree
selector-returns-in_ok-rest-in-OpenBracket-clause-tree t c =
    rw c.split.ensures.whole (g.index c.in-OpenBracket.is (by.fits_shallow _ c.requires.nested) (rw c.in_ok-rest-in-OpenBracket.ensures.whole.0 at c.in_ok-all-in-OpenBracket.ensures.tree) c.in_ok-rest-in-OpenBracket.ensures.whole.1 (by.fits_shallow _ c.requires.nested))

pub selector-returns-in-Caret-clause-moves : goal.selector-returns-in-Caret-clause-moves
selector-returns-in-Caret-clause-moves t c =
    λ k. by.shifts m.table shallow c.split.ensures.whole (m.selector c.args.depth) c.args.depth ([]) (ap (m.after_selector c.args.depth) c.in-Caret.is) (by.fits_shallow _ c.requires.nested) (k)

pub selector-returns-in-Caret-clause-tree : goal.selector-returns-in-Caret-clause-tree
selector-returns-in-Caret-clause-tree t c =
    rw c.split.ensures.whole (g.follow c.in-Caret.is (by.fits_shallow _ c.requires.nested))

pub selector-returns-in_err-all-in-OpenParen-clause-moves : goal.selector-returns-in_err-all-in-OpenParen-clause-moves
selector-returns-in_err-all-in-OpenParen-clause-moves t c =
    by.exits (λ r. r.1.now) c.from_residual-in_err-all-in-OpenParen.result (m.selector c.args.depth ∷ []) c.from_residual-in_err-all-in-OpenParen.ensures.1 (by.pass_on ([]) c.in_err-all-in-OpenParen.ensures.moves (λ k. by.shifts m.table shallow c.split.ensures.whole (m.selector c.args.depth) c.args.depth (m.arguments c.args.depth ∷ []) (ap (m.after_selector c.args.depth) c.in-OpenParen.is) (by.fits_shallow _ c.requires.nested) (k)))

pub selector-returns-in_ok-all-in-OpenParen-clause-moves : goal.selector-returns-in_ok-all-in-OpenParen-clause-moves
selector-returns-in_ok-all-in-OpenParen-clause-moves t c =
    λ k. by.shifts m.table shallow c.split.ensures.whole (m.selector c.args.depth) c.args.depth (m.arguments c.args.depth ∷ []) (ap (m.after_selector c.args.depth) c.in-OpenParen.is) (by.fits_shallow _ c.requires.nested) (k) ∙ c.in_ok-all-in-OpenParen.ensures.moves k

pub selector-returns-in_ok-all-in-OpenParen-clause-tree : goal.selector-returns-in_ok-all-in-OpenParen-clause-tree
selector-returns-in_ok-all-in-OpenParen-clause-tree t c =
    rw c.split.ensures.whole (g.applied c.in-OpenParen.is (by.fits_shallow _ c.requires.nested) c.in_ok-all-in-OpenParen.ensures.tree)

pub selector-returns-in_default : goal.selector-returns-in_default
selector-returns-in_default t c =
    record { tree = tt; rest = tt; moves = record { refused = (_, by.refuses m.table shallow c.split.ensures.whole (m.selector c.args.depth) c.args.depth (q.no_selector _ _ c.in_default.not-Period c.in_default.not-OpenBracket c.in_default.not-Caret c.in_default.not-OpenParen) refl (by.fits_shallow _ c.requires.nested)) } }
