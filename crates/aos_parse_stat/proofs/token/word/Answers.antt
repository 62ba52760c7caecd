use Rattle.std.proofs.Common.{[], rules, sym, ◌∙◌, refl}
use denote.Enum.Bare.{same_true, same_false}
use Rattle.aos_scan.specs.contracts.token.TokenKind.{the_type}
use Rattle.aos_tree.specs.Nesting.{shallow}
use Rattle.aos_tree.specs.Words as words
use Rattle.aos_parse_expr.proofs.Steps as by
use Rattle.aos_parse_stat.specs.Symbols as m
use Rattle.aos_parse_stat.proofs.StatProductions as q
use Rattle.aos_parse_expr.proofs.Sight as sight
use Rattle.aos_parse_stat.proofs.token.word.Goals as goal

pub returns-then-eq-clause-tree : goal.returns-then-eq-clause-tree
returns-then-eq-clause-tree c =
    (c.split.result.0.now.pos, rw c.split.ensures.whole (words.word (same_true the_type (search rules) _ _ (sym c.eq.ensures ∙ c.if-eq.true)) (by.fits_shallow _ c.requires.nested)))

pub returns-then-eq-clause-moves : goal.returns-then-eq-clause-moves
returns-then-eq-clause-moves c =
    by.shifts m.table shallow c.split.ensures.whole (m.tok c.args.depth c.args.kind) c.args.depth []
    (q.word_is _ _ _ (same_true the_type (search rules) _ _ (sym c.eq.ensures ∙ c.if-eq.true))) (by.fits_shallow _ c.requires.nested)

pub returns-else-eq-clause-moves : goal.returns-else-eq-clause-moves
returns-else-eq-clause-moves c = record {
  refused = (
    _,
    by.refuses m.table shallow c.split.ensures.whole (m.tok c.args.depth c.args.kind) c.args.depth
        (q.word_not _ _ _ (same_false the_type _ _ (sym c.eq.ensures ∙ c.if-eq.false))) refl (by.fits_shallow _ c.requires.nested),
  );
}

pub returns-then-eq-clause-rest : goal.returns-then-eq-clause-rest
returns-then-eq-clause-rest c =
    sight.taken_of c.args.kind c.split.ensures.whole (same_true the_type (search rules) _ _ (sym c.eq.ensures ∙ c.if-eq.true)) c.requires.inner c.split.ensures.ended
