use Rattle.std.proofs.Common.{◌∷◌, [], sym, ◌∙◌, refl}
use Rattle.aos_tree.specs.Nesting.{shallow}
use Rattle.aos_parse_expr.specs.Symbols as e
use Rattle.aos_parse_expr.proofs.Steps as by
use Rattle.aos_parse_mod.specs.Parts as part
use Rattle.aos_parse_mod.specs.Symbols as m
use Rattle.aos_parse_mod.proofs.ModSteps as q
use Rattle.aos_parse_mod.proofs.phrases.lengths.Goals as goal

pub returns-then-not-starts_expr-clause-tree : goal.returns-then-not-starts_expr-clause-tree
returns-then-not-starts_expr-clause-tree c =
    rw c.new.ensures part.no_lengths

pub returns-then-not-starts_expr-clause-moves : goal.returns-then-not-starts_expr-clause-moves
returns-then-not-starts_expr-clause-moves c =
    λ k. by.skips m.table shallow c.split.ensures.whole (m.lengths c.args.depth) (q.no_lengths c.args.depth _ (sym c.starts_expr.ensures ∙ c.if-not-starts_expr.true)) refl k

pub returns-in_err-all-clause-moves : goal.returns-in_err-all-clause-moves
returns-in_err-all-clause-moves c =
    by.exits (λ r. r.1.now) c.from_residual.result (m.lengths c.args.depth ∷ []) c.from_residual.ensures.1 (by.pass_on ([]) c.in_err-all.ensures.moves (λ k. by.becomes m.table shallow c.split.ensures.whole (m.lengths c.args.depth) (m.of_expr (e.exprs c.args.depth)) ([]) (λ j. q.lengths_at c.args.depth _ (sym c.starts_expr.ensures ∙ c.if-not-starts_expr.false) j) k))

pub returns-clause-moves : goal.returns-clause-moves
returns-clause-moves c =
    λ k. by.becomes m.table shallow c.split.ensures.whole (m.lengths c.args.depth) (m.of_expr (e.exprs c.args.depth)) ([]) (λ j. q.lengths_at c.args.depth _ (sym c.starts_expr.ensures ∙ c.if-not-starts_expr.false) j) k ∙ c.in_ok-all.ensures.moves (k)

pub returns-clause-tree : goal.returns-clause-tree
returns-clause-tree c =
    part.lengths c.in_ok-all.ensures.tree
