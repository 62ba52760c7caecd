use Rattle.std.proofs.Common.{ap, ◌∙◌}
use Rattle.aos_words.specs.Words.{borrowed}
use Rattle.aos_report.specs.Texts.{awaits_text}
use Rattle.aos.specs.Shown.{module_names}
use Rattle.aos.proofs.telling.tell_locals.Goals as goal

pub returns : goal.returns
returns c =
    let awaits = c.in_ok-awaits.awaits.items in
    record {
      text = c.in_ok-text.text.items;
      such = record {
        awaits = awaits;
        each = c.in_ok-awaits.ensures.each;
        order = c.in_ok-awaits.ensures.order;
        is =
            c.in_ok-text.ensures ∙ (λ i. awaits_text (borrowed (c.deref-2.ensures.value i)) (c.deref.ensures.value i))
            ∙ ap (λ names. awaits_text names awaits) (c.in_ok-names.ensures ∙ ap module_names c.as_slice.ensures.value ∙ c.requires.names);
      };
      is = c.telling.ensures;
    }
