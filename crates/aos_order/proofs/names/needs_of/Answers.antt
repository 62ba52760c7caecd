use Rattle.std.proofs.Common.{◌≡◌, ◌<◌, length, get_or, None, arith, sym, ap, subst, ◌∙◌, below_more}
use Rattle.std.specs.List.{filter_map}
use Rattle.std.specs.Option.{option_map}
use Rattle.std.proofs.lemmas.List.{take_all, length-map}
use Rattle.std.proofs.lemmas.Result.{err_from_is_err_and}
use Rattle.aos_order.specs.Files.{files, file}
use Rattle.aos_order.specs.Order.{IsRefused, absence, names, needs, needed, first_absent}
use Rattle.aos_order.proofs.Reading.{length-files, file_at}
use Rattle.aos_order.proofs.Needing.{absent_at, needs_more, none_absent, refused_here}
use Rattle.aos_order.proofs.names.needs_of.Goals as goal

pub returns-in_err-file_needs-clause-absent : goal.returns-in_err-file_needs-clause-absent
returns-in_err-file_needs-clause-absent c =
    let p = err_from_is_err_and c.from_residual.result c.from_residual.ensures.1 in
    let ms = c.args.modules.now in
    let ts = c.args.texts.now in
    let all = files ms ts in
    let i = c.loop-number.number in
    let f = file c.deref.result.now c.index-modules-number.result in
    let lt : i < length all = omega (arith, length-files ms ts c.requires.texts) in
    let here : get_or all i f ≡ f = file_at ms ts c.requires.texts i c.index-modules-number.result c.index-texts-number.result c.deref.result.now f c.loop-number-test.true
    c.index-modules-number.is c.index-texts-number.is c.deref.ensures.value in
    rw (p.1, p.2) (refused_here all i c.in_err-file_needs.field-0.0 lt c.loop-number.invariant.given
    (subst (λ w. IsRefused None (option_map (absence i) w) c.in_err-file_needs.field-0.0)
    (ap (λ ns. first_absent ns f) c.requires.names ∙ sym (absent_at all i f lt here)) c.in_err-file_needs.ensures.absent))

pub loop-number-preserved : goal.loop-number-preserved
loop-number-preserved c =
    let ms = c.args.modules.now in
    let ts = c.args.texts.now in
    let all = files ms ts in
    let i = c.loop-number.number in
    let f = file c.deref.result.now c.index-modules-number.result in
    let lt : i < length all = omega (arith, length-files ms ts c.requires.texts) in
    let here : get_or all i f ≡ f = file_at ms ts c.requires.texts i c.index-modules-number.result c.index-texts-number.result c.deref.result.now f c.loop-number-test.true
    c.index-modules-number.is c.index-texts-number.is c.deref.ensures.value in
    record {
      given = below_more _ _ c.loop-number.invariant.given
          (absent_at all i f lt here ∙ ap (λ ns. first_absent ns f) (sym c.requires.names) ∙ c.in_ok-file_needs.ensures.given);
      needs = needs_more all i f c.loop-number.needs.items c.push.new.self.items c.in_ok-file_needs.field-0 lt here c.loop-number.invariant.needs
          (c.in_ok-file_needs.ensures.needs ∙ ap (λ ns. filter_map (needed ns) f.imports) c.requires.names) c.in_ok-push.ensures.items;
    }

pub returns-clause-given : goal.returns-clause-given
returns-clause-given c =
    let ms = c.args.modules.now in
    let ts = c.args.texts.now in
    none_absent (files ms ts) (λ j lt. c.loop-number.invariant.given j (omega (arith, length-files ms ts c.requires.texts)))

pub returns-clause-needs : goal.returns-clause-needs
returns-clause-needs c =
    let ms = c.args.modules.now in
    let ts = c.args.texts.now in
    let all = files ms ts in
    c.loop-number.invariant.needs ∙ take_all c.loop-number.number (needs all)
    (omega (arith, length-files ms ts c.requires.texts, length-map all (λ f. filter_map (needed (names all)) f.imports)))
