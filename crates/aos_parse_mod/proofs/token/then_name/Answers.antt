use Rattle.std.proofs.Common.{◌∷◌, [], rules, sym, ◌∙◌, refl, ap}
use denote.Enum.Bare.{same_true, same_false}
use Rattle.aos_scan.specs.contracts.token.TokenKind.{the_type}
use Rattle.aos_scan.specs.declared.token.TokenKind.TheVariants as kind
use Rattle.aos_tree.specs.Nesting.{shallow}
use Rattle.aos_tree.specs.Words as g
use Rattle.aos_parse_expr.proofs.Sight as sight
use Rattle.aos_parse_expr.proofs.Steps as by
use Rattle.aos_parse_mod.specs.Parts as part
use Rattle.aos_parse_mod.specs.Symbols as m
use Rattle.aos_parse_mod.proofs.Joins.{word_is, word_not}
use Rattle.aos_parse_mod.proofs.token.then_name.Goals as goal

pub returns-in_err-name-clause-moves : goal.returns-in_err-name-clause-moves
returns-in_err-name-clause-moves c =
    by.exits (λ r. r.1.now) c.from_residual.result (m.then_name c.args.depth c.args.kind ∷ []) c.from_residual.ensures.1 (by.pass_on ([]) c.in_err-name.ensures.moves (λ k. by.shifts m.table shallow c.split.ensures.whole (m.then_name c.args.depth c.args.kind) c.args.depth (m.tok c.args.depth kind.Ident ∷ []) (ap (m.after (m.then_name c.args.depth c.args.kind)) (same_true the_type (search rules) _ _ (sym c.eq.ensures ∙ c.if-eq.true)) ∙ word_is c.args.depth c.args.kind (m.tok c.args.depth kind.Ident ∷ [])) (by.fits_shallow _ c.requires.nested) k))

pub returns-in_ok-name-clause-moves : goal.returns-in_ok-name-clause-moves
returns-in_ok-name-clause-moves c =
    λ k. by.shifts m.table shallow c.split.ensures.whole (m.then_name c.args.depth c.args.kind) c.args.depth (m.tok c.args.depth kind.Ident ∷ []) (ap (m.after (m.then_name c.args.depth c.args.kind)) (same_true the_type (search rules) _ _ (sym c.eq.ensures ∙ c.if-eq.true)) ∙ word_is c.args.depth c.args.kind (m.tok c.args.depth kind.Ident ∷ [])) (by.fits_shallow _ c.requires.nested) k ∙ c.in_ok-name.ensures.moves (k)

pub returns-in_ok-name-clause-tree : goal.returns-in_ok-name-clause-tree
returns-in_ok-name-clause-tree c =
    part.name {p = c.split.result.0.now.pos} (rw c.split.ensures.whole (g.word (same_true the_type (search rules) _ _ (sym c.eq.ensures ∙ c.if-eq.true)) (by.fits_shallow _ c.requires.nested))) c.in_ok-name.ensures.tree

pub returns-else-eq-clause-moves : goal.returns-else-eq-clause-moves
returns-else-eq-clause-moves c =
    λ k. by.skips m.table shallow c.split.ensures.whole (m.then_name c.args.depth c.args.kind) (word_not c.args.depth c.args.kind _ (m.tok c.args.depth kind.Ident ∷ []) (same_false the_type _ _ (sym c.eq.ensures ∙ c.if-eq.false))) refl k

pub returns-else-eq-clause-tree : goal.returns-else-eq-clause-tree
returns-else-eq-clause-tree c =
    part.no_name

pub ident-requires-clause-ended : goal.ident-requires-clause-ended
ident-requires-clause-ended c =
    sight.behind_of c.args.kind c.split.ensures.whole (same_true the_type (search rules) _ _ (sym c.eq.ensures ∙ c.if-eq.true)) c.requires.inner c.split.ensures.ended

pub returns-in_err-name-clause-tree : goal.returns-in_err-name-clause-tree
returns-in_err-name-clause-tree c =
    by.exit_ok _ c.from_residual.result _ c.from_residual.ensures.1

pub returns-in_err-name-clause-rest : goal.returns-in_err-name-clause-rest
returns-in_err-name-clause-rest c =
    by.exit_ok _ c.from_residual.result _ c.from_residual.ensures.1

pub returns-in_ok-name-clause-rest : goal.returns-in_ok-name-clause-rest
returns-in_ok-name-clause-rest c =
    sight.at_most _ _ (sight.past _ c.split.ensures.whole c.in_ok-name.ensures.rest)

pub returns-else-eq-clause-rest : goal.returns-else-eq-clause-rest
returns-else-eq-clause-rest c =
    sight.all_left _ c.requires.ended
