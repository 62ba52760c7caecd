use Rattle.std.proofs.Common.{◌≡◌, ◌++◌, drop, map}
use Rattle.aos_typed.specs.Seen.{seen_module}
use Rattle.aos_dispatch.specs.Dispatch.{firsts_from}
use Rattle.aos_dispatch.proofs.numbers.firsts_of.Given as goal

-- the numbers so far, and those of the modules that are left
abbrev pub invariant-loop-module : goal.invariant-loop-module
invariant-loop-module l =
    l.firsts.items ++ firsts_from l.next (map seen_module (drop l.module-index l.modules)) ≡ firsts_from l.fn.first (map seen_module l.fn.modules)
