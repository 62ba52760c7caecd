-- What the loop of values_uses keeps.
use Rattle.std.proofs.Common.{◌≡◌, ◌++◌, drop, map}
use Rattle.aos_typed.specs.Seen.{seen_expr, seen_program}
use Rattle.aos_uses.specs.Uses.{values_uses}
use Rattle.aos_uses.proofs.stats.values_uses.Given as goal

-- the uses so far and those of the rest are those of all
abbrev pub invariant-loop-value : goal.invariant-loop-value
invariant-loop-value l =
    let p = seen_program l.dispatch in
    l.uses.items ++ values_uses p (map seen_expr (drop l.value-index l.values)) ≡ l.fn.uses.items ++ values_uses p (map seen_expr l.fn.values)
