use Rattle.std.proofs.Common.{ℕ, List, Option, None, Some, MatchOption, MatchResult}
use Rattle.std.specs.Option.{ok_or}
use Rattle.aos_scan.specs.declared.refusal.Rule.{Rule}
use Rattle.aos_scan.specs.declared.refusal.Rule.TheVariants as rules
use Rattle.aos_scan.specs.declared.lexeme.Found.{Found}
use Rattle.aos_scan.specs.Refusal.{BreaksAt}
use Rattle.aos_scan.specs.Found.{BeginsAt}
use Rattle.aos_scan.proofs.lexeme.lexeme_at.Goals as goal

or_rule : (text : List ℕ) (at : ℕ) (rule : Rule) (o : Option Found) → MatchOption o (BreaksAt rule text at) (BeginsAt text at) → MatchResult (ok_or o rule) (BeginsAt text at) (λ r. BreaksAt r text at)
or_rule text at rule None breaks = breaks
or_rule text at rule (Some found) begins = begins

pub returns-then-is_ascii_digit : goal.returns-then-is_ascii_digit
returns-then-is_ascii_digit c = rw c.ok_or.ensures.value (or_rule c.args.text.now c.args.at rules.TooBig c.number_at.result c.number_at.ensures)

pub returns-then-is_quote : goal.returns-then-is_quote
returns-then-is_quote c = rw c.ok_or-then-is_quote.ensures.value (or_rule c.args.text.now c.args.at rules.OpenString c.string_at.result c.string_at.ensures)

pub returns-else-is_quote : goal.returns-else-is_quote
returns-else-is_quote c = rw c.ok_or-else-is_quote.ensures.value (or_rule c.args.text.now c.args.at rules.Bad c.symbol_at.result c.symbol_at.ensures)
