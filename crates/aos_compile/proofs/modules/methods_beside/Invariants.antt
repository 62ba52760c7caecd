use Rattle.std.proofs.Common.{◌≡◌, map}
use Rattle.aos_typed.specs.Seen.{seen_method}
use Rattle.aos_compile.specs.Modules as judge
use Rattle.aos_compile.proofs.modules.methods_beside.Given as goal

abbrev pub invariant-loop-method : goal.invariant-loop-method
invariant-loop-method l = map seen_method l.all.items ≡ map (judge.method_beside l.number) (map seen_method l.yielded)
