use Rattle.std.proofs.Common.{◌∷◌, [], refl, ap}
use Rattle.aos_tree.specs.Nesting.{shallow}
use Rattle.aos_parse_expr.proofs.Steps as by
use Rattle.aos_parse_stat.specs.Grammar as v
use Rattle.aos_parse_stat.specs.Symbols as m
use Rattle.aos_parse_stat.proofs.Moving as moving
use Rattle.aos_parse_stat.proofs.StatProductions as q
use Rattle.aos_parse_stat.proofs.Trees as trees
use Rattle.aos_scan.specs.declared.token.TokenKind.TheVariants as kind
use Rattle.aos_parse_expr.proofs.Sight as sight
use Rattle.aos_parse_stat.proofs.phrases.marking.Goals as goal

pub returns-in-OpenBrace-clause-tree : goal.returns-in-OpenBrace-clause-tree
returns-in-OpenBrace-clause-tree c =
    trees.marked_by (λ r. r.0) (λ r. r.1.now) c.modifiers.result (trees.word_at c.args.depth c.split.ensures.whole c.in-OpenBrace.is c.requires.nested) c.modifiers.ensures.tree

pub returns-in-OpenBrace-clause-moves : goal.returns-in-OpenBrace-clause-moves
returns-in-OpenBrace-clause-moves c =
    moving.hands_on m.table (λ r. r.1.now) c.modifiers.result (m.modifiers c.args.depth) (m.marking c.args.depth ∷ []) _ _ c.modifiers.ensures.moves (λ k. by.shifts m.table shallow c.split.ensures.whole (m.marking c.args.depth) c.args.depth (m.modifiers c.args.depth) (ap (m.after_marking c.args.depth) c.in-OpenBrace.is) (by.fits_shallow _ c.requires.nested) k)

pub returns-in_default-clause-tree : goal.returns-in_default-clause-tree
returns-in_default-clause-tree c =
    rw c.new.ensures v.unmarked

pub returns-in_default-clause-moves : goal.returns-in_default-clause-moves
returns-in_default-clause-moves c =
    λ k. by.skips m.table shallow c.split.ensures.whole (m.marking c.args.depth) (q.no_marking _ _ c.in_default.not-OpenBrace) refl k

pub modifiers-requires-clause-ended : goal.modifiers-requires-clause-ended
modifiers-requires-clause-ended c =
    sight.behind kind.OpenBrace c.split.ensures.whole c.in-OpenBrace.is refl c.split.ensures.ended

pub returns-in-OpenBrace-clause-rest : goal.returns-in-OpenBrace-clause-rest
returns-in-OpenBrace-clause-rest c =
    sight.then_at_most (λ r. r.1.now) c.modifiers.result c.split.ensures.whole c.modifiers.ensures.rest
