-- One parameter more.
use Rattle.std.proofs.Common.{[], ◌∷◌, ◌+◌, map, ap, ◌∙◌}
use Rattle.std.proofs.lemmas.List.{map-append}
use Rattle.aos_typed.specs.Seen.{seen_parameter}
use Rattle.aos_variables.specs.Parts as judge
use Rattle.aos_variables.proofs.Pairs.{pairs_step, drop_item}
use Rattle.aos_variables.proofs.headings.parameters_of.Goals as goal

pub loop-number-preserved : goal.loop-number-preserved
loop-number-preserved c =
    let p = c.in_ok-parameter_of.field-0 in
    pairs_step (judge.parameter_of c.args.text.now) (map seen_parameter c.loop-number.all.items) c.args.names.now c.args.parameters.now c.loop-number.number c.loop-number.number (c.loop-number.number + 1) _ c.in-Some.parameter.now
    (seen_parameter p) (map seen_parameter c.push.new.self.items) c.loop-number-test.true
    (drop_item c.args.parameters.now c.loop-number.number c.in-Some.parameter.now c.in-Some.ensures.lookup.3.0 c.in-Some.ensures.lookup.1)
    c.in_ok-parameter_of.ensures
    (ap (map seen_parameter) c.in_ok-push.ensures.items ∙ map-append seen_parameter c.loop-number.all.items (p ∷ []))
    ∙ c.loop-number.invariant
