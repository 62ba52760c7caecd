-- One definition more.
use Rattle.std.proofs.Common.{[], ◌∷◌, ◌++◌, map, ap, ◌∙◌}
use Rattle.std.proofs.lemmas.List.{map-append}
use Rattle.aos_symbols.specs.declared.env.Env.{Env}
use Rattle.aos_symbols.specs.Breaches.{first_after}
use Rattle.aos_compile.specs.Modules as judge
use Rattle.aos_compile.specs.Seen.{seen_beside}
use Rattle.aos_compile.proofs.Passes.{objects_noted, objects_answer}
use Rattle.aos_compile.proofs.objects.objects_of.Goals as goal

pub loop-def-preserved : goal.loop-def-preserved
loop-def-preserved c =
    let e = c.args.env.now in
    let k = c.args.first in
    let os = map seen_beside c.loop-def.objects.items in
    let d = c.def-item.result in
    let x = c.in_ok-beside_in.field-0 in
    let new = map seen_beside c.push.new.self.items in
    let same = c.loop-def.invariant.env in
    let told = ap (map seen_beside) c.in_ok-push.ensures.items
    ∙ map-append seen_beside c.loop-def.objects.items (x ∷ [])
    ∙ ap (λ z. os ++ z ∷ []) (c.in_ok-beside_in.ensures.answer ∙ ap (λ (v : Env). (judge.beside_in v k d.now (judge.defined_object v d.now)).answer) same) in
    let noted = c.in_ok-beside_in.ensures.noted ∙ ap (λ (v : Env). first_after c.loop-def.found (judge.beside_in v k d.now (judge.defined_object v d.now)).breaches) same in
    record {
      noted = objects_noted e k os new c.args.defs.now c.loop-def.def-index d c.loop-def.found c.beside_in.new.found c.loop-def-test.true c.def-item.is told noted
          ∙ c.loop-def.invariant.noted;
      answer = objects_answer e k os new c.args.defs.now c.loop-def.def-index d c.loop-def-test.true c.def-item.is told ∙ c.loop-def.invariant.answer;
      env = c.in_ok-beside_in.ensures.env ∙ same;
    }
