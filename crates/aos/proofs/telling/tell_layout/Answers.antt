use Rattle.std.proofs.Common.{map, ap, ◌∙◌}
use Rattle.aos_code.specs.Lines.{seen_line}
use Rattle.aos_report.specs.Texts.{lines_text}
use Rattle.aos.proofs.telling.tell_layout.Goals as goal

pub returns : goal.returns
returns c =
    record {
      text = c.in_ok-text.text.items;
      such = c.in_ok-text.ensures ∙ ap (λ lines. lines_text (map seen_line lines)) c.deref.ensures.value ∙ ap lines_text c.in_ok-lines.ensures;
      is = c.telling.ensures;
    }
