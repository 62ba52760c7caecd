use Rattle.std.proofs.Common.{[], ◌∙◌, refl, ap}
use Rattle.aos_scan.specs.declared.token.TokenKind.TheVariants as kind
use Rattle.aos_tree.specs.Nesting.{shallow}
use Rattle.aos_parse_expr.specs.Machine.{run}
use Rattle.aos_parse_expr.proofs.Steps as by
use Rattle.aos_parse_mod.specs.Symbols as m
use Rattle.aos_parse_mod.proofs.Joins.{word_not}
use Rattle.aos_parse_mod.proofs.ModSteps as q
use Rattle.aos_parse_mod.proofs.token.end.Goals as goal

pub returns-in-End-clause-moves : goal.returns-in-End-clause-moves
returns-in-End-clause-moves c =
    λ k. by.shifts m.table shallow c.split.ensures.whole (m.tok 0 kind.End) 0 ([]) (ap (m.after (m.tok 0 kind.End)) c.in-End.is) refl k ∙ ap (λ z. run m.table shallow z k) (q.ended_end c.args.tokens.now _ _ c.requires.ended c.split.ensures.whole c.in-End.is)

pub returns-in_default : goal.returns-in_default
returns-in_default c =
    record { whole = tt; moves = record { refused = (_, by.refuses m.table shallow c.split.ensures.whole (m.tok 0 kind.End) 0 (word_not 0 kind.End _ [] c.in_default.not-End) refl refl) } }
