use Rattle.std.proofs.Common.{◌∷◌, [], ◌∙◌, refl, ap}
use Rattle.aos_scan.specs.declared.token.TokenKind.TheVariants as kind
use Rattle.aos_tree.specs.Nesting.{shallow}
use Rattle.aos_tree.specs.Words as words
use Rattle.aos_parse_expr.proofs.Steps as by
use Rattle.aos_parse_stat.specs.Symbols as m
use Rattle.aos_parse_stat.proofs.StatProductions as q
use Rattle.aos_parse_stat.proofs.Trees as trees
use Rattle.aos_parse_expr.proofs.Sight as sight
use Rattle.aos_parse_stat.proofs.phrases.qualident.Goals as goal

pub returns-in_err-second-in-Period-clause-moves : goal.returns-in_err-second-in-Period-clause-moves
returns-in_err-second-in-Period-clause-moves c =
    by.exits (λ r. r.1.now) c.from_residual-in_err-second-in-Period.result (m.qualident c.args.depth) c.from_residual-in_err-second-in-Period.ensures.1 (by.pass_on ([]) c.in_err-second-in-Period.ensures.moves (λ k. c.in_ok-first.ensures.moves (m.second c.args.depth ∷ k) ∙ by.shifts m.table shallow c.split.ensures.whole (m.second c.args.depth) c.args.depth (m.tok c.args.depth kind.Ident ∷ []) (ap (m.after_second c.args.depth) c.in-Period.is) (by.fits_shallow _ c.requires.nested) k))

pub returns-in_ok-second-in-Period-clause-moves : goal.returns-in_ok-second-in-Period-clause-moves
returns-in_ok-second-in-Period-clause-moves c =
    λ k. c.in_ok-first.ensures.moves (m.second c.args.depth ∷ k) ∙ by.shifts m.table shallow c.split.ensures.whole (m.second c.args.depth) c.args.depth (m.tok c.args.depth kind.Ident ∷ []) (ap (m.after_second c.args.depth) c.in-Period.is) (by.fits_shallow _ c.requires.nested) k ∙ c.in_ok-second-in-Period.ensures.moves k

pub returns-in_ok-second-in-Period-clause-tree : goal.returns-in_ok-second-in-Period-clause-tree
returns-in_ok-second-in-Period-clause-tree c =
    words.qualified c.in_ok-first.ensures.tree (trees.word_at c.args.depth c.split.ensures.whole c.in-Period.is c.requires.nested) c.in_ok-second-in-Period.ensures.tree

pub returns-in_default : goal.returns-in_default
returns-in_default c =
    record { tree = words.plain c.in_ok-first.ensures.tree; rest = c.in_ok-first.ensures.rest; moves = λ k. c.in_ok-first.ensures.moves (m.second c.args.depth ∷ k) ∙ by.skips m.table shallow c.split.ensures.whole (m.second c.args.depth) (q.no_second _ _ c.in_default.not-Period) refl k }

pub ident-requires-in-Period-clause-ended : goal.ident-requires-in-Period-clause-ended
ident-requires-in-Period-clause-ended c =
    sight.behind kind.Period c.split.ensures.whole c.in-Period.is refl c.split.ensures.ended

pub returns-in_ok-second-in-Period-clause-rest : goal.returns-in_ok-second-in-Period-clause-rest
returns-in_ok-second-in-Period-clause-rest c =
    sight.further _ _ _ c.in_ok-first.ensures.rest (sight.past _ c.split.ensures.whole c.in_ok-second-in-Period.ensures.rest)
