use Rattle.std.proofs.Common.{◌∷◌, [], ◌∙◌, refl, ap, arith}
use Rattle.aos_scan.specs.declared.token.TokenKind.TheVariants as kind
use Rattle.aos_tree.specs.Nesting.{shallow}
use Rattle.aos_tree.specs.Words as g
use Rattle.aos_tree.specs.DeclGrammar as declared
use Rattle.aos_parse_expr.proofs.Steps as by
use Rattle.aos_parse_mod.specs.Symbols as m
use Rattle.aos_parse_mod.proofs.Joins.{word_not}
use Rattle.aos_parse_expr.proofs.Sight as sight
use Rattle.aos_parse_mod.proofs.heading.flag.Goals as goal

pub returns-in_err-name-in-OpenBrace-clause-moves : goal.returns-in_err-name-in-OpenBrace-clause-moves
returns-in_err-name-in-OpenBrace-clause-moves c =
    by.exits (λ r. r.1.now) c.from_residual.result (m.flag c.args.depth ∷ []) c.from_residual.ensures.1 (by.pass_on (m.tok c.args.depth kind.CloseBrace ∷ []) c.in_err-name-in-OpenBrace.ensures.moves (λ k. by.shifts m.table shallow c.split.ensures.whole (m.flag c.args.depth) c.args.depth (m.tok c.args.depth kind.Ident ∷ m.tok c.args.depth kind.CloseBrace ∷ []) (ap (m.after (m.flag c.args.depth)) c.in-OpenBrace.is) (by.fits_shallow _ c.requires.nested) k))

pub returns-in_err-rest-in-OpenBrace-clause-moves : goal.returns-in_err-rest-in-OpenBrace-clause-moves
returns-in_err-rest-in-OpenBrace-clause-moves c =
    by.exits (λ r. r.1.now) c.from_residual-in_err-rest-in-OpenBrace.result (m.flag c.args.depth ∷ []) c.from_residual-in_err-rest-in-OpenBrace.ensures.1 (by.pass_on ([]) c.in_err-rest-in-OpenBrace.ensures.moves (λ k. by.shifts m.table shallow c.split.ensures.whole (m.flag c.args.depth) c.args.depth (m.tok c.args.depth kind.Ident ∷ m.tok c.args.depth kind.CloseBrace ∷ []) (ap (m.after (m.flag c.args.depth)) c.in-OpenBrace.is) (by.fits_shallow _ c.requires.nested) k ∙ c.in_ok-name-in-OpenBrace.ensures.moves (m.tok c.args.depth kind.CloseBrace ∷ k)))

pub returns-in_ok-rest-in-OpenBrace-clause-moves : goal.returns-in_ok-rest-in-OpenBrace-clause-moves
returns-in_ok-rest-in-OpenBrace-clause-moves c =
    λ k. by.shifts m.table shallow c.split.ensures.whole (m.flag c.args.depth) c.args.depth (m.tok c.args.depth kind.Ident ∷ m.tok c.args.depth kind.CloseBrace ∷ []) (ap (m.after (m.flag c.args.depth)) c.in-OpenBrace.is) (by.fits_shallow _ c.requires.nested) k ∙ c.in_ok-name-in-OpenBrace.ensures.moves (m.tok c.args.depth kind.CloseBrace ∷ k) ∙ c.in_ok-rest-in-OpenBrace.ensures.moves (k)

pub returns-in_ok-rest-in-OpenBrace-clause-tree : goal.returns-in_ok-rest-in-OpenBrace-clause-tree
returns-in_ok-rest-in-OpenBrace-clause-tree c =
    rw c.split.ensures.whole (declared.flag (g.word c.in-OpenBrace.is (by.fits_shallow _ c.requires.nested)) c.in_ok-name-in-OpenBrace.ensures.tree c.in_ok-rest-in-OpenBrace.ensures.tree)

pub returns-in_default : goal.returns-in_default
returns-in_default c =
    record {
      tree = declared.no_flag;
      rest = (c.requires.ended, omega arith);
      moves = λ k. by.skips m.table shallow c.split.ensures.whole (m.flag c.args.depth) (word_not c.args.depth kind.OpenBrace _ (m.tok c.args.depth kind.Ident ∷ m.tok c.args.depth kind.CloseBrace ∷ []) c.in_default.not-OpenBrace) refl k;
    }

pub ident-requires-clause-ended : goal.ident-requires-clause-ended
ident-requires-clause-ended c =
    sight.behind kind.OpenBrace c.split.ensures.whole c.in-OpenBrace.is refl c.split.ensures.ended

pub returns-in_ok-rest-in-OpenBrace-clause-rest : goal.returns-in_ok-rest-in-OpenBrace-clause-rest
returns-in_ok-rest-in-OpenBrace-clause-rest c =
    sight.at_most _ _ (sight.past _ c.split.ensures.whole (sight.further _ _ _ c.in_ok-name-in-OpenBrace.ensures.rest c.in_ok-rest-in-OpenBrace.ensures.rest))
