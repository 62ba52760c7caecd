use Rattle.std.proofs.Common.{◌∷◌, [], ◌∙◌, refl, ap, arith}
use Rattle.aos_scan.specs.declared.token.TokenKind.TheVariants as kind
use Rattle.aos_tree.specs.Nesting.{shallow}
use Rattle.aos_tree.specs.Words as g
use Rattle.aos_parse_expr.proofs.Steps as by
use Rattle.aos_parse_mod.specs.Parts as part
use Rattle.aos_parse_mod.specs.Symbols as m
use Rattle.aos_parse_mod.proofs.Joins.{word_not}
use Rattle.aos_parse_expr.proofs.Sight as sight
use Rattle.aos_parse_mod.proofs.heading.result_type.Goals as goal

pub returns-in_err-of-in-Colon-clause-moves : goal.returns-in_err-of-in-Colon-clause-moves
returns-in_err-of-in-Colon-clause-moves c =
    by.exits (λ r. r.1.now) c.from_residual.result (m.result c.args.depth ∷ []) c.from_residual.ensures.1 (by.pass_on ([]) c.in_err-of-in-Colon.ensures.moves (λ k. by.shifts m.table shallow c.split.ensures.whole (m.result c.args.depth) c.args.depth (m.tok c.args.depth kind.Ident ∷ m.then_name c.args.depth kind.Period ∷ []) (ap (m.after (m.result c.args.depth)) c.in-Colon.is) (by.fits_shallow _ c.requires.nested) k))

pub returns-in_ok-of-in-Colon-clause-moves : goal.returns-in_ok-of-in-Colon-clause-moves
returns-in_ok-of-in-Colon-clause-moves c =
    λ k. by.shifts m.table shallow c.split.ensures.whole (m.result c.args.depth) c.args.depth (m.tok c.args.depth kind.Ident ∷ m.then_name c.args.depth kind.Period ∷ []) (ap (m.after (m.result c.args.depth)) c.in-Colon.is) (by.fits_shallow _ c.requires.nested) k ∙ c.in_ok-of-in-Colon.ensures.moves (k)

pub returns-in_ok-of-in-Colon-clause-tree : goal.returns-in_ok-of-in-Colon-clause-tree
returns-in_ok-of-in-Colon-clause-tree c =
    rw c.split.ensures.whole (part.result_of (g.word c.in-Colon.is (by.fits_shallow _ c.requires.nested)) c.in_ok-of-in-Colon.ensures.tree)

pub returns-in_default : goal.returns-in_default
returns-in_default c =
    record {
      tree = part.no_result;
      rest = (c.requires.ended, omega arith);
      moves = λ k. by.skips m.table shallow c.split.ensures.whole (m.result c.args.depth) (word_not c.args.depth kind.Colon _ (m.tok c.args.depth kind.Ident ∷ m.then_name c.args.depth kind.Period ∷ []) c.in_default.not-Colon) refl k;
    }

pub qualident-requires-clause-ended : goal.qualident-requires-clause-ended
qualident-requires-clause-ended c =
    sight.behind kind.Colon c.split.ensures.whole c.in-Colon.is refl c.split.ensures.ended

pub returns-in_ok-of-in-Colon-clause-rest : goal.returns-in_ok-of-in-Colon-clause-rest
returns-in_ok-of-in-Colon-clause-rest c =
    sight.at_most _ _ (sight.past _ c.split.ensures.whole c.in_ok-of-in-Colon.ensures.rest)
