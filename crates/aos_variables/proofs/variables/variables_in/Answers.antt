-- One variable more.
use Rattle.std.proofs.Common.{[], ◌∷◌, map, ap, sym, ◌∙◌}
use Rattle.std.proofs.lemmas.List.{map-append}
use Rattle.aos_typed.specs.Seen.{seen_variable}
use Rattle.aos_variables.specs.Parts as judge
use Rattle.aos_variables.proofs.Pairs.{pairs_step, drop_some}
use Rattle.aos_variables.proofs.variables.variables_in.Goals as goal

pub loop-def-preserved : goal.loop-def-preserved
loop-def-preserved c =
    let v = c.in_ok-variable_of.field-0 in
    pairs_step (judge.variable_of c.args.text.now) (map seen_variable c.loop-def.all.items) c.args.defs.now c.args.scope.now.variables c.loop-def.def-index c.loop-def.number c.in_ok-number.number _ c.in-Some.of
    (seen_variable v) (map seen_variable c.push.new.self.items) c.loop-def-test.true
    (drop_some c.args.scope.now.variables c.loop-def.number c.in_ok-number.number c.in-Some.of (sym c.in-Some.ensures) c.in_ok-number.ensures)
    c.in_ok-variable_of.ensures
    (ap (map seen_variable) c.in_ok-push.ensures.items ∙ map-append seen_variable c.loop-def.all.items (v ∷ []))
    ∙ c.loop-def.invariant
