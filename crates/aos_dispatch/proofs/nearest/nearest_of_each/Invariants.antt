use Rattle.std.proofs.Common.{◌≡◌, map}
use Rattle.std.specs.List.{range_with_len}
use Rattle.aos_typed.specs.Methods.{nearest}
use Rattle.aos_typed.specs.Seen.{seen_program}
use Rattle.aos_dispatch.specs.Nearest.{told_by}
use Rattle.aos_dispatch.proofs.nearest.nearest_of_each.Given as goal

-- the types so far
abbrev pub invariant-loop-number : goal.invariant-loop-number
invariant-loop-number l =
    let p = seen_program l.program in
    l.table.items ≡ map (λ t. nearest p (told_by p l.asked) t) (range_with_len 0 l.number)
