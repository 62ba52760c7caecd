use Rattle.std.proofs.Common.{[], rules, sym, ◌∙◌, refl, ap}
use denote.Enum.Bare.{same_true, same_false}
use Rattle.aos_scan.specs.contracts.token.TokenKind.{the_type}
use Rattle.aos_tree.specs.Nesting.{shallow}
use Rattle.aos_tree.specs.Words as g
use Rattle.aos_parse_expr.proofs.Sight as sight
use Rattle.aos_parse_expr.proofs.Steps as by
use Rattle.aos_parse_mod.specs.Parts as part
use Rattle.aos_parse_mod.specs.Symbols as m
use Rattle.aos_parse_mod.proofs.Joins.{word_is, word_not}
use Rattle.aos_parse_mod.proofs.token.option.Goals as goal

pub returns-then-eq-clause-moves : goal.returns-then-eq-clause-moves
returns-then-eq-clause-moves c =
    λ k. by.shifts m.table shallow c.split.ensures.whole (m.option c.args.depth c.args.kind) c.args.depth ([]) (ap (m.after (m.option c.args.depth c.args.kind)) (same_true the_type (search rules) _ _ (sym c.eq.ensures ∙ c.if-eq.true)) ∙ word_is c.args.depth c.args.kind []) (by.fits_shallow _ c.requires.nested) k

pub returns-then-eq-clause-tree : goal.returns-then-eq-clause-tree
returns-then-eq-clause-tree c =
    rw c.split.ensures.whole (part.there (g.word (same_true the_type (search rules) _ _ (sym c.eq.ensures ∙ c.if-eq.true)) (by.fits_shallow _ c.requires.nested)))

pub returns-else-eq-clause-moves : goal.returns-else-eq-clause-moves
returns-else-eq-clause-moves c =
    λ k. by.skips m.table shallow c.split.ensures.whole (m.option c.args.depth c.args.kind) (word_not c.args.depth c.args.kind _ [] (same_false the_type _ _ (sym c.eq.ensures ∙ c.if-eq.false))) refl k

pub returns-else-eq-clause-tree : goal.returns-else-eq-clause-tree
returns-else-eq-clause-tree c =
    part.left_out

pub returns-then-eq-clause-rest : goal.returns-then-eq-clause-rest
returns-then-eq-clause-rest c =
    sight.at_most _ _ (sight.taken_of c.args.kind c.split.ensures.whole (same_true the_type (search rules) _ _ (sym c.eq.ensures ∙ c.if-eq.true)) c.requires.inner c.split.ensures.ended)

pub returns-else-eq-clause-rest : goal.returns-else-eq-clause-rest
returns-else-eq-clause-rest c =
    sight.all_left _ c.requires.ended
