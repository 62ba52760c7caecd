use Rattle.std.proofs.Common.{◌≡◌, ◌++◌, drop, length, map}
use Rattle.aos_typed.specs.Seen.{seen_object}
use Rattle.aos_dispatch.specs.Dispatch.{firsts_by}
use Rattle.aos_dispatch.proofs.numbers.method_firsts.Given as goal

-- the numbers so far, and those of the types that are left
abbrev pub invariant-loop-object : goal.invariant-loop-object
invariant-loop-object l =
    l.firsts.items ++ firsts_by (λ o. length o.methods) l.next (map seen_object (drop l.object-index l.objects)) ≡ firsts_by (λ o. length o.methods) l.fn.first (map seen_object l.fn.objects)
