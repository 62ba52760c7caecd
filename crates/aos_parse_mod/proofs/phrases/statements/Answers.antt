use Rattle.std.proofs.Common.{◌≡◌, ◌<◌, ◌∷◌, [], sym, refl, arith, length, length-drop, subst}
use Rattle.std.proofs.lemmas.List.{take_rest}
use Rattle.aos_tree.specs.Ended.{IsEnded}
use Rattle.aos_tree.specs.Nesting.{shallow}
use Rattle.aos_parse_expr.specs.Machine.{run}
use Rattle.aos_parse_expr.proofs.Answer.{ended_drop}
use Rattle.aos_parse_expr.proofs.Steps as by
use Rattle.aos_parse_stat.specs.Symbols as s
use Rattle.aos_parse_stat.proofs.Above as blocks
use Rattle.aos_parse_mod.specs.Symbols as m
use Rattle.aos_parse_mod.proofs.Embedding.{with_stats}
use Rattle.aos_parse_mod.proofs.ModSteps as q
use Rattle.aos_tree.specs.StatGrammar.{IsBlock}
use Rattle.aos_parse_expr.proofs.Sight as sight
use Rattle.aos_parse_mod.proofs.phrases.statements.Goals as goal

pub returns-in_err-tree-clause-moves : goal.returns-in_err-tree-clause-moves
returns-in_err-tree-clause-moves c =
    by.exits (λ r. r.1.now) c.from_residual.result (m.of_stat (s.block c.args.depth) ∷ []) c.from_residual.ensures.1
    (q.block_refused c.args.depth c.args.tokens.now _ c.in_err-tree.field-0.0 refl c.in_err-tree.ensures.expected c.in_err-tree.ensures.deep)

pub returns-clause-rest : goal.returns-clause-rest
returns-clause-rest c =
    subst (λ z. IsEnded z × (length z < length c.args.tokens.now)) (sym (take_rest c.args.tokens.now c.in_ok-tree.next))
    (ended_drop c.args.tokens.now c.in_ok-tree.next c.requires.ended c.in_ok-tree.ensures.place.1, omega (arith, length-drop c.in_ok-tree.next c.args.tokens.now, c.in_ok-tree.ensures.place))

pub returns-clause-moves : goal.returns-clause-moves
returns-clause-moves c =
    λ k.
    subst (λ z. run m.table shallow c.args.tokens.now (m.of_stat (s.block c.args.depth) ∷ k) ≡ run m.table shallow z k) (sym (take_rest c.args.tokens.now c.in_ok-tree.next))
    (blocks.block_reads m.table m.of_stat with_stats c.args.depth _ c.args.tokens.now _ c.in_ok-tree.ensures.tree c.in_ok-tree.ensures.longest k)

pub block-requires-clause-inside : goal.block-requires-clause-inside
block-requires-clause-inside c =
    q.some_token c.args.tokens.now c.requires.ended

pub returns-in_err-tree-clause-tree : goal.returns-in_err-tree-clause-tree
returns-in_err-tree-clause-tree c =
    by.exit_ok _ c.from_residual.result _ c.from_residual.ensures.1

pub returns-in_err-tree-clause-rest : goal.returns-in_err-tree-clause-rest
returns-in_err-tree-clause-rest c =
    by.exit_ok _ c.from_residual.result _ c.from_residual.ensures.1

pub slice_bounds-result-count : goal.slice_bounds-result-count
slice_bounds-result-count c =
    sight.before _ _ c.in_ok-tree.ensures.place.1

pub slice_bounds-result-start : goal.slice_bounds-result-start
slice_bounds-result-start c =
    sight.before _ _ c.in_ok-tree.ensures.place.1

pub returns-clause-tree : goal.returns-clause-tree
returns-clause-tree c =
    subst (λ q. IsBlock shallow c.args.depth c.in_ok-tree.tree c.args.tokens.now q) (sym (take_rest c.args.tokens.now c.in_ok-tree.next)) c.in_ok-tree.ensures.tree
