use Rattle.std.proofs.Common.{◌∷◌, [], sym, ◌∙◌, refl, ap, arith, append_assoc, append-nil, length}
use Rattle.aos_tree.specs.Nesting.{shallow}
use Rattle.aos_tree.specs.Words as g
use Rattle.aos_tree.specs.ExprGrammar as expression
use Rattle.aos_parse_expr.specs.Symbols as e
use Rattle.aos_parse_expr.proofs.Steps as by
use Rattle.aos_parse_mod.specs.Symbols as m
use Rattle.aos_parse_mod.proofs.ModSteps as q
use Rattle.aos_parse_mod.proofs.Trees as tree
use Rattle.aos_scan.specs.declared.token.TokenKind.TheVariants as kind
use Rattle.aos_parse_expr.proofs.Sight as sight
use Rattle.aos_parse_mod.proofs.phrases.exprs.Goals as goal

pub returns-in_err-first-clause-moves : goal.returns-in_err-first-clause-moves
returns-in_err-first-clause-moves c =
    by.exits (λ r. r.1.now) c.from_residual.result (m.of_expr (e.exprs c.args.depth) ∷ []) c.from_residual.ensures.1 (by.pass_on (m.of_expr (e.more_exprs c.args.depth) ∷ []) c.in_err-first.ensures.moves (λ k. q.to_exprs _ c.requires.ended c.args.depth k))

pub loop-found-init : goal.loop-found-init
loop-found-init c =
    record {
      ended = c.in_ok-first.ensures.rest.0;
      shorter = omega (arith, c.in_ok-first.ensures.rest.1);
      tree = λ more end h. rw (c.in_ok-push.ensures.ok, c.new-found.ensures) (expression.exprs c.in_ok-first.ensures.tree h);
      moves = λ k. q.to_exprs _ c.requires.ended c.args.depth k ∙ c.in_ok-first.ensures.moves (m.of_expr (e.more_exprs c.args.depth) ∷ k);
    }

pub returns-in_err-one-in-Comma-clause-moves : goal.returns-in_err-one-in-Comma-clause-moves
returns-in_err-one-in-Comma-clause-moves c =
    by.exits (λ r. r.1.now) c.from_residual-in_err-one-in-Comma.result (m.of_expr (e.exprs c.args.depth) ∷ []) c.from_residual-in_err-one-in-Comma.ensures.1 (by.pass_on (m.of_expr (e.more_exprs c.args.depth) ∷ []) c.in_err-one-in-Comma.ensures.moves (λ k. c.loop-found.invariant.moves k ∙ by.shifts m.table shallow c.split.ensures.whole (m.of_expr (e.more_exprs c.args.depth)) c.args.depth (m.of_expr (e.expr c.args.depth) ∷ m.of_expr (e.more_exprs c.args.depth) ∷ []) (ap (m.after (m.of_expr (e.more_exprs c.args.depth))) c.in-Comma.is) (by.fits_shallow _ c.requires.nested) k))

pub loop-found-preserved : goal.loop-found-preserved
loop-found-preserved c =
    record {
      ended = c.in_ok-one-in-Comma.ensures.rest.0;
      shorter = omega (arith, ap length c.split.ensures.whole, c.in_ok-one-in-Comma.ensures.rest.1, c.loop-found.invariant.shorter);
      tree = λ more end h. rw (c.in_ok-push-in-Comma.ensures.ok, append_assoc) (c.loop-found.invariant.tree _ end (rw c.split.ensures.whole (tree.another_expr (g.word c.in-Comma.is (by.fits_shallow _ c.requires.nested)) c.in_ok-one-in-Comma.ensures.tree h)));
      moves = λ k. c.loop-found.invariant.moves k ∙ by.shifts m.table shallow c.split.ensures.whole (m.of_expr (e.more_exprs c.args.depth)) c.args.depth (m.of_expr (e.expr c.args.depth) ∷ m.of_expr (e.more_exprs c.args.depth) ∷ []) (ap (m.after (m.of_expr (e.more_exprs c.args.depth))) c.in-Comma.is) (by.fits_shallow _ c.requires.nested) k ∙ c.in_ok-one-in-Comma.ensures.moves (m.of_expr (e.more_exprs c.args.depth) ∷ k);
    }

pub returns-in_default : goal.returns-in_default
returns-in_default c =
    record {
      tree = rw (sym (append-nil c.loop-found.found)) (c.loop-found.invariant.tree [] _ expression.no_more_exprs);
      rest = (c.loop-found.invariant.ended, c.loop-found.invariant.shorter);
      moves = λ k. c.loop-found.invariant.moves k ∙ by.skips m.table shallow c.split.ensures.whole (m.of_expr (e.more_exprs c.args.depth)) (q.no_more_exprs c.args.depth _ c.in_default.not-Comma) refl k;
    }

pub expression-requires-in-Comma-clause-ended : goal.expression-requires-in-Comma-clause-ended
expression-requires-in-Comma-clause-ended c =
    sight.behind kind.Comma c.split.ensures.whole c.in-Comma.is refl c.split.ensures.ended

pub loop-found-smaller : goal.loop-found-smaller
loop-found-smaller c =
    sight.less _ c.split.ensures.whole c.in_ok-one-in-Comma.ensures.rest.1
