use Rattle.std.proofs.Common.{◌∷◌, [], ◌∙◌, refl, arith}
use Rattle.aos_scan.specs.declared.token.TokenKind.TheVariants as kind
use Rattle.aos_tree.specs.Nesting.{shallow}
use Rattle.aos_tree.specs.DeclGrammar as declared
use Rattle.aos_parse_expr.proofs.Steps as by
use Rattle.aos_parse_mod.specs.Symbols as m
use Rattle.aos_parse_mod.proofs.Joins.{word_not}
use Rattle.aos_parse_mod.proofs.ModSteps as q
use Rattle.aos_parse_mod.proofs.declaration.end_name.Goals as goal

pub returns-in_err-name-in-Ident-clause-moves : goal.returns-in_err-name-in-Ident-clause-moves
returns-in_err-name-in-Ident-clause-moves c =
    by.exits (λ r. r.1.now) c.from_residual.result (m.option c.args.depth kind.Ident ∷ []) c.from_residual.ensures.1 (by.pass_on ([]) c.in_err-name-in-Ident.ensures.moves (λ k. by.becomes m.table shallow c.split.ensures.whole (m.option c.args.depth kind.Ident) (m.tok c.args.depth kind.Ident) ([]) (q.word_at (m.option c.args.depth kind.Ident) c.args.depth 0 kind.Ident [] refl _ c.in-Ident.is) k))

pub returns-in_ok-new-in-Ident-clause-moves : goal.returns-in_ok-new-in-Ident-clause-moves
returns-in_ok-new-in-Ident-clause-moves c =
    λ k. by.becomes m.table shallow c.split.ensures.whole (m.option c.args.depth kind.Ident) (m.tok c.args.depth kind.Ident) ([]) (q.word_at (m.option c.args.depth kind.Ident) c.args.depth 0 kind.Ident [] refl _ c.in-Ident.is) k ∙ c.in_ok-name-in-Ident.ensures.moves (k)

pub returns-in_ok-new-in-Ident-clause-tree : goal.returns-in_ok-new-in-Ident-clause-tree
returns-in_ok-new-in-Ident-clause-tree c =
    rw c.in_ok-new-in-Ident.ensures (declared.end_name c.in_ok-name-in-Ident.ensures.tree)

pub returns-in_default : goal.returns-in_default
returns-in_default c =
    record {
      tree = rw c.empty.ensures declared.no_end_name;
      rest = (c.requires.ended, omega arith);
      moves = λ k. by.skips m.table shallow c.split.ensures.whole (m.option c.args.depth kind.Ident) (word_not c.args.depth kind.Ident _ [] c.in_default.not-Ident) refl k;
    }
