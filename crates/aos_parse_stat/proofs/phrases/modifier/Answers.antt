use Rattle.std.proofs.Common.{◌∷◌, [], ◌∙◌, refl, ap}
use Rattle.aos_scan.specs.declared.token.TokenKind.TheVariants as kind
use Rattle.aos_tree.specs.StatGrammar as g
use Rattle.aos_tree.specs.Nesting.{shallow}
use Rattle.aos_parse_expr.proofs.Steps as by
use Rattle.aos_parse_stat.specs.Symbols as m
use Rattle.aos_parse_stat.proofs.StatProductions as q
use Rattle.aos_parse_stat.proofs.Trees as trees
use Rattle.aos_parse_expr.proofs.Sight as sight
use Rattle.aos_parse_stat.proofs.phrases.modifier.Goals as goal

pub returns-in_err-value-in-OpenParen-clause-moves : goal.returns-in_err-value-in-OpenParen-clause-moves
returns-in_err-value-in-OpenParen-clause-moves c =
    by.exits (λ r. r.1.now) c.from_residual-in_err-value-in-OpenParen.result (m.modifier c.args.depth) c.from_residual-in_err-value-in-OpenParen.ensures.1 (by.pass_on (m.tok c.args.depth kind.CloseParen ∷ []) c.in_err-value-in-OpenParen.ensures.moves (λ k. c.in_ok-name.ensures.moves (m.argument c.args.depth ∷ k) ∙ by.shifts m.table shallow c.split.ensures.whole (m.argument c.args.depth) c.args.depth (m.expr c.args.depth ∷ m.tok c.args.depth kind.CloseParen ∷ []) (ap (m.after_argument c.args.depth) c.in-OpenParen.is) (by.fits_shallow _ c.requires.nested) k))

pub returns-in_err-rest-in-OpenParen-clause-moves : goal.returns-in_err-rest-in-OpenParen-clause-moves
returns-in_err-rest-in-OpenParen-clause-moves c =
    by.exits (λ r. r.1.now) c.from_residual-in_err-rest-in-OpenParen.result (m.modifier c.args.depth) c.from_residual-in_err-rest-in-OpenParen.ensures.1 (by.pass_on ([]) c.in_err-rest-in-OpenParen.ensures.moves (λ k. c.in_ok-name.ensures.moves (m.argument c.args.depth ∷ k) ∙ by.shifts m.table shallow c.split.ensures.whole (m.argument c.args.depth) c.args.depth (m.expr c.args.depth ∷ m.tok c.args.depth kind.CloseParen ∷ []) (ap (m.after_argument c.args.depth) c.in-OpenParen.is) (by.fits_shallow _ c.requires.nested) k ∙ c.in_ok-value-in-OpenParen.ensures.moves (m.tok c.args.depth kind.CloseParen ∷ k)))

pub returns-in_ok-rest-in-OpenParen-clause-moves : goal.returns-in_ok-rest-in-OpenParen-clause-moves
returns-in_ok-rest-in-OpenParen-clause-moves c =
    λ k. c.in_ok-name.ensures.moves (m.argument c.args.depth ∷ k) ∙ by.shifts m.table shallow c.split.ensures.whole (m.argument c.args.depth) c.args.depth (m.expr c.args.depth ∷ m.tok c.args.depth kind.CloseParen ∷ []) (ap (m.after_argument c.args.depth) c.in-OpenParen.is) (by.fits_shallow _ c.requires.nested) k ∙ c.in_ok-value-in-OpenParen.ensures.moves (m.tok c.args.depth kind.CloseParen ∷ k) ∙ c.in_ok-rest-in-OpenParen.ensures.moves k

pub returns-in_ok-rest-in-OpenParen-clause-tree : goal.returns-in_ok-rest-in-OpenParen-clause-tree
returns-in_ok-rest-in-OpenParen-clause-tree c =
    g.valued c.in_ok-name.ensures.tree (trees.word_at c.args.depth c.split.ensures.whole c.in-OpenParen.is c.requires.nested) c.in_ok-value-in-OpenParen.ensures.tree c.in_ok-rest-in-OpenParen.ensures.tree.1

pub returns-in_default : goal.returns-in_default
returns-in_default c =
    record { tree = g.flag c.in_ok-name.ensures.tree; rest = c.in_ok-name.ensures.rest; moves = λ k. c.in_ok-name.ensures.moves (m.argument c.args.depth ∷ k) ∙ by.skips m.table shallow c.split.ensures.whole (m.argument c.args.depth) (q.no_argument _ _ c.in_default.not-OpenParen) refl k }

pub expression-requires-clause-ended : goal.expression-requires-clause-ended
expression-requires-clause-ended c =
    sight.behind kind.OpenParen c.split.ensures.whole c.in-OpenParen.is refl c.split.ensures.ended

pub returns-in_ok-rest-in-OpenParen-clause-rest : goal.returns-in_ok-rest-in-OpenParen-clause-rest
returns-in_ok-rest-in-OpenParen-clause-rest c =
    sight.further _ _ _ c.in_ok-name.ensures.rest (sight.past _ c.split.ensures.whole (sight.further _ _ _ c.in_ok-value-in-OpenParen.ensures.rest c.in_ok-rest-in-OpenParen.ensures.rest))
