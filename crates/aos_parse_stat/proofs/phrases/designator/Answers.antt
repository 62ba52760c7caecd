use Rattle.std.proofs.Common.{◌≡◌, ◌<◌, [], ◌∷◌, refl, length, subst, sym, arith, length-drop}
use Rattle.std.proofs.lemmas.List.{take_rest}
use Rattle.aos_tree.specs.Nesting.{shallow}
use Rattle.aos_parse_expr.specs.Machine.{run}
use Rattle.aos_tree.specs.Ended.{IsEnded}
use Rattle.aos_parse_expr.proofs.Above as above
use Rattle.aos_parse_expr.proofs.Answer.{ended_drop}
use Rattle.aos_parse_expr.proofs.Steps as by
use Rattle.aos_parse_stat.specs.Symbols as m
use Rattle.aos_parse_stat.proofs.Lower as lower
use Rattle.aos_parse_stat.proofs.StatProductions.{exprs_in}
use Rattle.aos_tree.specs.ExprGrammar.{IsDesig}
use Rattle.aos_parse_expr.proofs.Sight as sight
use Rattle.aos_parse_stat.proofs.phrases.designator.Goals as goal

pub returns-in_err-tree-clause-moves : goal.returns-in_err-tree-clause-moves
returns-in_err-tree-clause-moves c =
    by.exits (λ r. r.1.now) c.from_residual.result (m.desig c.args.depth ∷ []) c.from_residual.ensures.1
    (lower.desig_refused c.args.depth c.args.tokens.now _ c.in_err-tree.field-0.0 refl c.in_err-tree.ensures.expected c.in_err-tree.ensures.deep)

pub returns-clause-rest : goal.returns-clause-rest
returns-clause-rest c =
    subst (λ q. IsEnded q × (length q < length c.args.tokens.now)) (sym (take_rest c.args.tokens.now c.in_ok-tree.next))
    (ended_drop c.args.tokens.now c.in_ok-tree.next c.requires.ended c.in_ok-tree.ensures.place.1, omega (arith, length-drop c.in_ok-tree.next c.args.tokens.now, c.in_ok-tree.ensures.place))

pub returns-clause-moves : goal.returns-clause-moves
returns-clause-moves c = λ k.
    subst (λ q. run m.table shallow c.args.tokens.now (m.desig c.args.depth ∷ k) ≡ run m.table shallow q k) (sym (take_rest c.args.tokens.now c.in_ok-tree.next))
    (above.desig_reads m.table m.part exprs_in c.args.depth _ c.args.tokens.now _ c.in_ok-tree.ensures.tree c.in_ok-tree.ensures.longest k)

pub desig-requires-clause-inside : goal.desig-requires-clause-inside
desig-requires-clause-inside c =
    lower.some_token c.args.tokens.now c.requires.ended

pub returns-in_err-tree-clause-tree : goal.returns-in_err-tree-clause-tree
returns-in_err-tree-clause-tree c =
    by.exit_ok _ c.from_residual.result _ c.from_residual.ensures.1

pub returns-in_err-tree-clause-rest : goal.returns-in_err-tree-clause-rest
returns-in_err-tree-clause-rest c =
    by.exit_ok _ c.from_residual.result _ c.from_residual.ensures.1

pub slice_bounds-result-count : goal.slice_bounds-result-count
slice_bounds-result-count c =
    sight.before _ _ c.in_ok-tree.ensures.place.1

pub slice_bounds-result-start : goal.slice_bounds-result-start
slice_bounds-result-start c =
    sight.before _ _ c.in_ok-tree.ensures.place.1

pub returns-clause-tree : goal.returns-clause-tree
returns-clause-tree c =
    subst (λ q. IsDesig shallow c.args.depth c.in_ok-tree.tree c.args.tokens.now q) (sym (take_rest c.args.tokens.now c.in_ok-tree.next)) c.in_ok-tree.ensures.tree
