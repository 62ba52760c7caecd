use Rattle.std.proofs.Common.{◌∷◌, [], ◌∙◌, refl, ap, arith}
use Rattle.aos_scan.specs.declared.token.TokenKind.TheVariants as kind
use Rattle.aos_tree.specs.Nesting.{shallow}
use Rattle.aos_tree.specs.Words as g
use Rattle.aos_tree.specs.DeclGrammar as declared
use Rattle.aos_parse_expr.proofs.Steps as by
use Rattle.aos_parse_mod.specs.Symbols as m
use Rattle.aos_parse_mod.proofs.Joins.{word_not}
use Rattle.aos_parse_mod.proofs.Trees as tree
use Rattle.aos_parse_expr.proofs.Sight as sight
use Rattle.aos_parse_mod.proofs.heading.formals.Goals as goal

pub returns-in_err-sections-in-OpenParen-clause-moves : goal.returns-in_err-sections-in-OpenParen-clause-moves
returns-in_err-sections-in-OpenParen-clause-moves c =
    by.exits (λ r. r.1.now) c.from_residual.result (m.formals c.args.depth ∷ []) c.from_residual.ensures.1 (by.pass_on (m.result c.args.depth ∷ []) c.in_err-sections-in-OpenParen.ensures.moves (λ k. by.shifts m.table shallow c.split.ensures.whole (m.formals c.args.depth) c.args.depth (m.sections c.args.depth ∷ m.result c.args.depth ∷ []) (ap (m.after (m.formals c.args.depth)) c.in-OpenParen.is) (by.fits_shallow _ c.requires.nested) k))

pub returns-in_err-of-in-OpenParen-clause-moves : goal.returns-in_err-of-in-OpenParen-clause-moves
returns-in_err-of-in-OpenParen-clause-moves c =
    by.exits (λ r. r.1.now) c.from_residual-in_err-of-in-OpenParen.result (m.formals c.args.depth ∷ []) c.from_residual-in_err-of-in-OpenParen.ensures.1 (by.pass_on ([]) c.in_err-of-in-OpenParen.ensures.moves (λ k. by.shifts m.table shallow c.split.ensures.whole (m.formals c.args.depth) c.args.depth (m.sections c.args.depth ∷ m.result c.args.depth ∷ []) (ap (m.after (m.formals c.args.depth)) c.in-OpenParen.is) (by.fits_shallow _ c.requires.nested) k ∙ c.in_ok-sections-in-OpenParen.ensures.moves (m.result c.args.depth ∷ k)))

pub returns-in_ok-of-in-OpenParen-clause-moves : goal.returns-in_ok-of-in-OpenParen-clause-moves
returns-in_ok-of-in-OpenParen-clause-moves c =
    λ k. by.shifts m.table shallow c.split.ensures.whole (m.formals c.args.depth) c.args.depth (m.sections c.args.depth ∷ m.result c.args.depth ∷ []) (ap (m.after (m.formals c.args.depth)) c.in-OpenParen.is) (by.fits_shallow _ c.requires.nested) k ∙ c.in_ok-sections-in-OpenParen.ensures.moves (m.result c.args.depth ∷ k) ∙ c.in_ok-of-in-OpenParen.ensures.moves (k)

pub returns-in_ok-of-in-OpenParen-clause-tree : goal.returns-in_ok-of-in-OpenParen-clause-tree
returns-in_ok-of-in-OpenParen-clause-tree c =
    rw c.split.ensures.whole (declared.formals (tree.formals_of (g.word c.in-OpenParen.is (by.fits_shallow _ c.requires.nested)) c.in_ok-sections-in-OpenParen.ensures.tree c.in_ok-of-in-OpenParen.ensures.tree))

pub returns-in_default : goal.returns-in_default
returns-in_default c =
    record {
      tree = declared.no_formals;
      rest = (c.requires.ended, omega arith);
      moves = λ k. by.skips m.table shallow c.split.ensures.whole (m.formals c.args.depth) (word_not c.args.depth kind.OpenParen _ (m.sections c.args.depth ∷ m.result c.args.depth ∷ []) c.in_default.not-OpenParen) refl k;
    }

pub sections-requires-clause-ended : goal.sections-requires-clause-ended
sections-requires-clause-ended c =
    sight.behind kind.OpenParen c.split.ensures.whole c.in-OpenParen.is refl c.split.ensures.ended

pub returns-in_ok-of-in-OpenParen-clause-rest : goal.returns-in_ok-of-in-OpenParen-clause-rest
returns-in_ok-of-in-OpenParen-clause-rest c =
    sight.at_most _ _ (sight.past _ c.split.ensures.whole (sight.further_all _ _ _ c.in_ok-sections-in-OpenParen.ensures.rest c.in_ok-of-in-OpenParen.ensures.rest))
