-- The loop over procedures: the statements are those of the bodies so far.
use Rattle.std.proofs.Common.{◌≡◌, [], drop, map}
use Rattle.aos_typed.specs.Seen.{seen_stats}
use Rattle.aos_symbols.specs.Breaches.{first_after}
use Rattle.aos_symbols.specs.Declarations.{procedures}
use Rattle.aos_compile.specs.Modules as judge
use Rattle.aos_compile.proofs.objects.procedure_bodies.Given as goal

abbrev pub invariant-loop-decl : goal.invariant-loop-decl
invariant-loop-decl l = record {
  noted : first_after l.found (judge.bodies_from l.initial.env l.scope (map (λ ss. seen_stats ss.items) l.bodies.items) (procedures (drop l.decl-index l.decls))).breaches
      ≡ first_after l.initial.found (judge.bodies_from l.initial.env l.first [] (procedures l.decls)).breaches;
  answer : (judge.bodies_from l.initial.env l.scope (map (λ ss. seen_stats ss.items) l.bodies.items) (procedures (drop l.decl-index l.decls))).answer
      ≡ (judge.bodies_from l.initial.env l.first [] (procedures l.decls)).answer;
  env : l.env ≡ l.initial.env;
}
