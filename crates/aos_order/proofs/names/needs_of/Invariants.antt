use Rattle.std.proofs.Common.{◌≡◌, ℕ, ◌<◌, None, map, take}
use Rattle.aos_order.specs.Files.{files}
use Rattle.aos_order.specs.Order.{absent_in, needs}
use Rattle.aos_order.proofs.names.needs_of.Given as goal

abbrev pub invariant-loop-number : goal.invariant-loop-number
invariant-loop-number l =
    let all = files l.modules l.texts in
    record { given : (j : ℕ) → j < l.number → absent_in all j ≡ None; needs : map (λ v. v.items) l.needs.items ≡ take l.number (needs all) }
