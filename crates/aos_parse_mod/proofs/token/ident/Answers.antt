use Rattle.std.proofs.Common.{[], refl, ap}
use Rattle.aos_scan.specs.declared.token.TokenKind.TheVariants as kind
use Rattle.aos_tree.specs.Nesting.{shallow}
use Rattle.aos_tree.specs.Words as g
use Rattle.aos_parse_expr.proofs.Sight as sight
use Rattle.aos_parse_expr.proofs.Steps as by
use Rattle.aos_parse_mod.specs.Symbols as m
use Rattle.aos_parse_mod.proofs.Joins.{word_not}
use Rattle.aos_parse_mod.proofs.token.ident.Goals as goal

pub returns-in-Ident-clause-tree : goal.returns-in-Ident-clause-tree
returns-in-Ident-clause-tree c =
    rw c.split.ensures.whole (g.ident c.in-Ident.is (by.fits_shallow _ c.requires.nested))

pub returns-in-Ident-clause-moves : goal.returns-in-Ident-clause-moves
returns-in-Ident-clause-moves c =
    λ k. by.shifts m.table shallow c.split.ensures.whole (m.tok c.args.depth kind.Ident) c.args.depth ([]) (ap (m.after (m.tok c.args.depth kind.Ident)) c.in-Ident.is) (by.fits_shallow _ c.requires.nested) k

pub returns-in_default : goal.returns-in_default
returns-in_default c =
    record { tree = tt; rest = tt; moves = record { refused = (_, by.refuses m.table shallow c.split.ensures.whole (m.tok c.args.depth kind.Ident) c.args.depth (word_not c.args.depth kind.Ident _ [] c.in_default.not-Ident) refl (by.fits_shallow _ c.requires.nested)) } }

pub returns-in-Ident-clause-rest : goal.returns-in-Ident-clause-rest
returns-in-Ident-clause-rest c =
    sight.taken kind.Ident c.split.ensures.whole c.in-Ident.is refl c.split.ensures.ended
