use Rattle.std.proofs.Common.{◌≡◌, map}
use Rattle.std.specs.List.{range_with_len}
use Rattle.aos_typed.specs.Methods.{slots, own_numbers}
use Rattle.aos_typed.specs.Seen.{seen_program}
use Rattle.aos_dispatch.proofs.methods.tables_by.Given as goal

-- the tables so far
abbrev pub invariant-loop-number : goal.invariant-loop-number
invariant-loop-number l =
    let p = seen_program l.program in
    l.tables.items ≡ map (λ k. slots p (own_numbers p) k) (range_with_len 0 l.number)
