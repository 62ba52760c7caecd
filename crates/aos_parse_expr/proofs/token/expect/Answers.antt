use Rattle.std.proofs.Common.{[], rules, sym, ◌∙◌, refl}
use denote.Enum.Bare.{same_true, same_false}
use Rattle.aos_scan.specs.contracts.token.TokenKind.{the_type}
use Rattle.aos_tree.specs.Nesting.{shallow}
use Rattle.aos_parse_expr.specs.Symbols as m
use Rattle.aos_parse_expr.proofs.Sight as sight
use Rattle.aos_parse_expr.proofs.Steps as by
use Rattle.aos_parse_expr.proofs.Words.{tok_is, tok_not}
use Rattle.aos_parse_expr.proofs.token.expect.Goals as goal

pub returns-then-eq-clause-moves : goal.returns-then-eq-clause-moves
returns-then-eq-clause-moves c =
    by.shifts m.table shallow c.split.ensures.whole (m.tok c.args.depth c.args.kind) c.args.depth []
    (tok_is _ _ _ (same_true the_type (search rules) _ _ (sym c.eq.ensures ∙ c.if-eq.true))) (by.fits_shallow _ c.requires.nested)

pub returns-else-eq-clause-moves : goal.returns-else-eq-clause-moves
returns-else-eq-clause-moves c = record {
  refused = (
    _,
    by.refuses m.table shallow c.split.ensures.whole (m.tok c.args.depth c.args.kind) c.args.depth
        (tok_not _ _ _ (same_false the_type _ _ (sym c.eq.ensures ∙ c.if-eq.false))) refl (by.fits_shallow _ c.requires.nested),
  );
}

pub returns-then-eq-clause-whole : goal.returns-then-eq-clause-whole
returns-then-eq-clause-whole c = (c.split.ensures.whole, same_true the_type (search rules) _ _ (sym c.eq.ensures ∙ c.if-eq.true))

pub returns-then-eq-clause-rest : goal.returns-then-eq-clause-rest
returns-then-eq-clause-rest c =
    sight.behind_of c.args.kind c.split.ensures.whole (same_true the_type (search rules) _ _ (sym c.eq.ensures ∙ c.if-eq.true)) c.requires.inner c.split.ensures.ended
