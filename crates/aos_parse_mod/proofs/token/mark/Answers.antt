use Rattle.std.proofs.Common.{[], sym, ◌∙◌, refl, ap}
use Rattle.aos_tree.specs.Nesting.{shallow}
use Rattle.aos_parse_expr.proofs.Steps as by
use Rattle.aos_parse_mod.specs.Parts as part
use Rattle.aos_parse_mod.specs.Symbols as m
use Rattle.aos_parse_mod.proofs.token.mark.Goals as goal

pub returns-in-Some-clause-tree : goal.returns-in-Some-clause-tree
returns-in-Some-clause-tree c =
    rw c.split.ensures.whole (part.mark (sym c.export_of_kind.ensures ∙ c.in-Some.is) (by.fits_shallow _ c.requires.nested))

pub returns-in-Some-clause-moves : goal.returns-in-Some-clause-moves
returns-in-Some-clause-moves c =
    λ k. by.shifts m.table shallow c.split.ensures.whole (m.mark c.args.depth) c.args.depth ([]) (ap (λ o. m.by_operator o c.args.depth []) (sym c.export_of_kind.ensures ∙ c.in-Some.is)) (by.fits_shallow _ c.requires.nested) k

pub returns-in-None-clause-tree : goal.returns-in-None-clause-tree
returns-in-None-clause-tree c =
    part.no_mark

pub returns-in-None-clause-moves : goal.returns-in-None-clause-moves
returns-in-None-clause-moves c =
    λ k. by.skips m.table shallow c.split.ensures.whole (m.mark c.args.depth) (ap (λ o. m.by_operator o c.args.depth []) (sym c.export_of_kind.ensures ∙ c.in-None.is)) refl k
