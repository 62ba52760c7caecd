use Rattle.std.proofs.Common.{length, ap, ◌∙◌}
use Rattle.std.proofs.lemmas.Bool.{eq-eqb}
use Rattle.aos_script.specs.Words.{parts}
use Rattle.aos_script.proofs.Cuts.{lines_none, lines_some}
use Rattle.aos_script.proofs.script.all_lines.Goals as goal

pub returns-then-is_empty : goal.returns-then-is_empty
returns-then-is_empty c = lines_none c.args.bytes.now c.if-is_empty.ensures

pub returns-else-is_empty : goal.returns-else-is_empty
returns-else-is_empty c =
    ap (parts 10) c.without_last_end.ensures
    ∙ lines_some c.args.bytes.now (λ none. let yes = eq-eqb (length c.args.bytes.now) 0 none in let no = c.if-is_empty.ensures in absurd cc)
