use Rattle.std.proofs.Common.{◌≡◌, ◌∷◌, [], sym, subst, arith, drop}
use Rattle.std.proofs.lemmas.List.{take_rest}
use Rattle.aos_tree.specs.Ended.{IsEnded}
use Rattle.aos_tree.specs.Nesting.{shallow}
use Rattle.aos_tree.specs.Begins.{CeasesAt}
use Rattle.aos_parse_stat.specs.Grammar.{block_at}
use Rattle.aos_parse_expr.specs.Machine.{Refuses, run}
use Rattle.aos_parse_stat.specs.Symbols as m
use Rattle.aos_parse_expr.proofs.Answer.{ended_drop, left_at}
use Rattle.aos_parse_stat.proofs.StatAnswer as answer
use Rattle.aos_parse_stat.proofs.block.Goals as goal

pub block-requires-clause-ended : goal.block-requires-clause-ended
block-requires-clause-ended c =
    subst (λ q. IsEnded q) (sym (take_rest c.args.tokens.now c.args.at)) (ended_drop c.args.tokens.now c.args.at c.requires.ended c.requires.inside)

pub returns-in_err-tree-clause-expected : goal.returns-in_err-tree-clause-expected
returns-in_err-tree-clause-expected c =
    answer.exit_expects c.args.depth (drop c.args.at c.args.tokens.now) c.from_residual.result c.in_err-tree.field-0.0 c.from_residual.ensures.1
    (subst (λ q. Refuses m.table (m.block c.args.depth ∷ []) q c.in_err-tree.field-0.0) (take_rest c.args.tokens.now c.args.at) c.in_err-tree.ensures.moves)

pub returns-in_err-tree-clause-deep : goal.returns-in_err-tree-clause-deep
returns-in_err-tree-clause-deep c =
    answer.exit_deep c.args.depth (drop c.args.at c.args.tokens.now) c.from_residual.result c.in_err-tree.field-0.0 c.from_residual.ensures.1
    (subst (λ q. Refuses m.table (m.block c.args.depth ∷ []) q c.in_err-tree.field-0.0) (take_rest c.args.tokens.now c.args.at) c.in_err-tree.ensures.moves)

pub returns-clause-tree : goal.returns-clause-tree
returns-clause-tree c =
    let h = subst (λ q. block_at c.args.depth shallow c.in_ok-tree.tree q c.in_ok-tree.rest.now) (take_rest c.args.tokens.now c.args.at) c.in_ok-tree.ensures.tree in
    let left = left_at c.args.tokens.now c.in_ok-tree.rest.now c.args.at (omega arith) (answer.block_front c.args.depth c.in_ok-tree.tree (drop c.args.at c.args.tokens.now) c.in_ok-tree.rest.now h) in
    subst (λ q. block_at c.args.depth shallow c.in_ok-tree.tree (drop c.args.at c.args.tokens.now) q) (sym left) h

pub returns-clause-longest : goal.returns-clause-longest
returns-clause-longest c =
    let h = subst (λ q. block_at c.args.depth shallow c.in_ok-tree.tree q c.in_ok-tree.rest.now) (take_rest c.args.tokens.now c.args.at) c.in_ok-tree.ensures.tree in
    let left = left_at c.args.tokens.now c.in_ok-tree.rest.now c.args.at (omega arith) (answer.block_front c.args.depth c.in_ok-tree.tree (drop c.args.at c.args.tokens.now) c.in_ok-tree.rest.now h) in
    subst (λ q. CeasesAt (block_at c.args.depth) (drop c.args.at c.args.tokens.now) q) (sym left)
    (answer.block_ceases c.args.depth c.in_ok-tree.tree (drop c.args.at c.args.tokens.now) c.in_ok-tree.rest.now c.in_ok-tree.ensures.rest.0 h
    (subst (λ z. (k : m.Stack) → run m.table shallow z (m.block c.args.depth ∷ k) ≡ run m.table shallow c.in_ok-tree.rest.now k) (take_rest c.args.tokens.now c.args.at) c.in_ok-tree.ensures.moves))
