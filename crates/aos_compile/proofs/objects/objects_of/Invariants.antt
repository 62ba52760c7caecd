-- The loop over definitions: the object types are those of the walk so far.
use Rattle.std.proofs.Common.{◌≡◌, [], drop, map}
use Rattle.aos_symbols.specs.Breaches.{first_after}
use Rattle.aos_symbols.specs.Judged.{walk}
use Rattle.aos_symbols.specs.Declarations.{seen_types}
use Rattle.aos_compile.specs.Modules as judge
use Rattle.aos_compile.specs.Seen.{seen_beside}
use Rattle.aos_compile.proofs.objects.objects_of.Given as goal

abbrev pub invariant-loop-def : goal.invariant-loop-def
invariant-loop-def l = record {
  noted : first_after l.found (walk (judge.object_in l.initial.env l.first) (map seen_beside l.objects.items) (seen_types (drop l.def-index l.defs))).breaches
      ≡ first_after l.initial.found (walk (judge.object_in l.initial.env l.first) [] (seen_types l.defs)).breaches;
  answer : (walk (judge.object_in l.initial.env l.first) (map seen_beside l.objects.items) (seen_types (drop l.def-index l.defs))).answer
      ≡ (walk (judge.object_in l.initial.env l.first) [] (seen_types l.defs)).answer;
  env : l.env ≡ l.initial.env;
}
