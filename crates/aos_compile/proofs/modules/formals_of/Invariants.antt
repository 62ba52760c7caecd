use Rattle.std.proofs.Common.{◌≡◌, map, take}
use Rattle.aos_typed.specs.Seen.{seen_parameter}
use Rattle.aos_compile.specs.Modules as judge
use Rattle.aos_compile.proofs.modules.formals_of.Given as goal

abbrev pub invariant-loop-formal : goal.invariant-loop-formal
invariant-loop-formal l = map seen_parameter l.all.items ≡ map judge.formal_of (take l.formal-index l.formals)
