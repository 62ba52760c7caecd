use Rattle.std.proofs.Common.{◌∷◌, [], sym, ◌∙◌, refl, ap, arith, append_assoc, append-nil, length}
use Rattle.aos_scan.specs.declared.token.TokenKind.TheVariants as kind
use Rattle.aos_tree.specs.Nesting.{shallow}
use Rattle.aos_tree.specs.Words as g
use Rattle.aos_tree.specs.DeclGrammar as declared
use Rattle.aos_parse_expr.proofs.Steps as by
use Rattle.aos_parse_mod.specs.Symbols as m
use Rattle.aos_parse_mod.proofs.Joins.{word_not}
use Rattle.aos_parse_expr.proofs.Sight as sight
use Rattle.aos_parse_mod.proofs.heading.arrays.Goals as goal

pub returns-in_err-next-in-KwArray-clause-moves : goal.returns-in_err-next-in-KwArray-clause-moves
returns-in_err-next-in-KwArray-clause-moves c =
    by.exits (λ r. r.1.now) c.from_residual.result (m.arrays c.args.depth ∷ []) c.from_residual.ensures.1 (by.pass_on (m.arrays c.args.depth ∷ []) c.in_err-next-in-KwArray.ensures.moves (λ k. c.loop-found.invariant.moves k ∙ by.shifts m.table shallow c.split.ensures.whole (m.arrays c.args.depth) c.args.depth (m.tok c.args.depth kind.KwOf ∷ m.arrays c.args.depth ∷ []) (ap (m.after (m.arrays c.args.depth)) c.in-KwArray.is) (by.fits_shallow _ c.requires.nested) k))

pub loop-found-preserved : goal.loop-found-preserved
loop-found-preserved c =
    record {
      ended = c.in_ok-next-in-KwArray.ensures.rest.0;
      shorter = omega (arith, ap length c.split.ensures.whole, c.in_ok-next-in-KwArray.ensures.rest.1, c.loop-found.invariant.shorter);
      tree = λ more end h. rw (c.in_ok-push-in-KwArray.ensures.ok, append_assoc) (c.loop-found.invariant.tree _ end (rw c.split.ensures.whole (declared.arrays (g.word c.in-KwArray.is (by.fits_shallow _ c.requires.nested)) c.in_ok-next-in-KwArray.ensures.tree h)));
      moves = λ k. c.loop-found.invariant.moves k ∙ by.shifts m.table shallow c.split.ensures.whole (m.arrays c.args.depth) c.args.depth (m.tok c.args.depth kind.KwOf ∷ m.arrays c.args.depth ∷ []) (ap (m.after (m.arrays c.args.depth)) c.in-KwArray.is) (by.fits_shallow _ c.requires.nested) k ∙ c.in_ok-next-in-KwArray.ensures.moves (m.arrays c.args.depth ∷ k);
    }

pub returns-in_default : goal.returns-in_default
returns-in_default c =
    record {
      tree = rw (sym (append-nil c.loop-found.found)) (c.loop-found.invariant.tree [] _ declared.no_arrays);
      rest = (c.loop-found.invariant.ended, c.loop-found.invariant.shorter);
      moves = λ k. c.loop-found.invariant.moves k ∙ by.skips m.table shallow c.split.ensures.whole (m.arrays c.args.depth) (word_not c.args.depth kind.KwArray _ (m.tok c.args.depth kind.KwOf ∷ m.arrays c.args.depth ∷ []) c.in_default.not-KwArray) refl k;
    }

pub word-requires-clause-ended : goal.word-requires-clause-ended
word-requires-clause-ended c =
    sight.behind kind.KwArray c.split.ensures.whole c.in-KwArray.is refl c.split.ensures.ended

pub loop-found-smaller : goal.loop-found-smaller
loop-found-smaller c =
    sight.less _ c.split.ensures.whole c.in_ok-next-in-KwArray.ensures.rest.1
