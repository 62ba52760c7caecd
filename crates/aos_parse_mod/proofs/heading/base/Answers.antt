use Rattle.std.proofs.Common.{◌∷◌, [], ◌∙◌, refl, ap, arith}
use Rattle.aos_scan.specs.declared.token.TokenKind.TheVariants as kind
use Rattle.aos_tree.specs.Nesting.{shallow}
use Rattle.aos_tree.specs.Words as g
use Rattle.aos_tree.specs.DeclGrammar as declared
use Rattle.aos_parse_expr.proofs.Steps as by
use Rattle.aos_parse_mod.specs.Symbols as m
use Rattle.aos_parse_mod.proofs.Joins.{word_not}
use Rattle.aos_parse_expr.proofs.Sight as sight
use Rattle.aos_parse_mod.proofs.heading.base.Goals as goal

pub returns-in_err-of-in-OpenParen-clause-moves : goal.returns-in_err-of-in-OpenParen-clause-moves
returns-in_err-of-in-OpenParen-clause-moves c =
    by.exits (λ r. r.1.now) c.from_residual.result (m.base c.args.depth ∷ []) c.from_residual.ensures.1 (by.pass_on (m.tok c.args.depth kind.CloseParen ∷ []) c.in_err-of-in-OpenParen.ensures.moves (λ k. by.shifts m.table shallow c.split.ensures.whole (m.base c.args.depth) c.args.depth (m.tok c.args.depth kind.Ident ∷ m.then_name c.args.depth kind.Period ∷ m.tok c.args.depth kind.CloseParen ∷ []) (ap (m.after (m.base c.args.depth)) c.in-OpenParen.is) (by.fits_shallow _ c.requires.nested) k))

pub returns-in_err-rest-in-OpenParen-clause-moves : goal.returns-in_err-rest-in-OpenParen-clause-moves
returns-in_err-rest-in-OpenParen-clause-moves c =
    by.exits (λ r. r.1.now) c.from_residual-in_err-rest-in-OpenParen.result (m.base c.args.depth ∷ []) c.from_residual-in_err-rest-in-OpenParen.ensures.1 (by.pass_on ([]) c.in_err-rest-in-OpenParen.ensures.moves (λ k. by.shifts m.table shallow c.split.ensures.whole (m.base c.args.depth) c.args.depth (m.tok c.args.depth kind.Ident ∷ m.then_name c.args.depth kind.Period ∷ m.tok c.args.depth kind.CloseParen ∷ []) (ap (m.after (m.base c.args.depth)) c.in-OpenParen.is) (by.fits_shallow _ c.requires.nested) k ∙ c.in_ok-of-in-OpenParen.ensures.moves (m.tok c.args.depth kind.CloseParen ∷ k)))

pub returns-in_ok-new-in-OpenParen-clause-moves : goal.returns-in_ok-new-in-OpenParen-clause-moves
returns-in_ok-new-in-OpenParen-clause-moves c =
    λ k. by.shifts m.table shallow c.split.ensures.whole (m.base c.args.depth) c.args.depth (m.tok c.args.depth kind.Ident ∷ m.then_name c.args.depth kind.Period ∷ m.tok c.args.depth kind.CloseParen ∷ []) (ap (m.after (m.base c.args.depth)) c.in-OpenParen.is) (by.fits_shallow _ c.requires.nested) k ∙ c.in_ok-of-in-OpenParen.ensures.moves (m.tok c.args.depth kind.CloseParen ∷ k) ∙ c.in_ok-rest-in-OpenParen.ensures.moves (k)

pub returns-in_ok-new-in-OpenParen-clause-tree : goal.returns-in_ok-new-in-OpenParen-clause-tree
returns-in_ok-new-in-OpenParen-clause-tree c =
    rw (c.split.ensures.whole, c.in_ok-new-in-OpenParen.ensures) (declared.base (g.word c.in-OpenParen.is (by.fits_shallow _ c.requires.nested)) c.in_ok-of-in-OpenParen.ensures.tree c.in_ok-rest-in-OpenParen.ensures.tree)

pub returns-in_default : goal.returns-in_default
returns-in_default c =
    record {
      tree = rw c.empty.ensures declared.no_base;
      rest = (c.requires.ended, omega arith);
      moves = λ k. by.skips m.table shallow c.split.ensures.whole (m.base c.args.depth) (word_not c.args.depth kind.OpenParen _ (m.tok c.args.depth kind.Ident ∷ m.then_name c.args.depth kind.Period ∷ m.tok c.args.depth kind.CloseParen ∷ []) c.in_default.not-OpenParen) refl k;
    }

pub qualident-requires-clause-ended : goal.qualident-requires-clause-ended
qualident-requires-clause-ended c =
    sight.behind kind.OpenParen c.split.ensures.whole c.in-OpenParen.is refl c.split.ensures.ended

pub returns-in_ok-new-in-OpenParen-clause-rest : goal.returns-in_ok-new-in-OpenParen-clause-rest
returns-in_ok-new-in-OpenParen-clause-rest c =
    sight.at_most _ _ (sight.past _ c.split.ensures.whole (sight.further _ _ _ c.in_ok-of-in-OpenParen.ensures.rest c.in_ok-rest-in-OpenParen.ensures.rest))
