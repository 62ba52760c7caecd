use Rattle.std.proofs.Common.{◌≡◌, ℕ, ◌<◌, false, map, take}
use Rattle.aos_order.specs.Files.{files}
use Rattle.aos_order.specs.Order.{names, is_again}
use Rattle.aos_order.proofs.names.module_names.Given as goal

abbrev pub invariant-loop-file : goal.invariant-loop-file
invariant-loop-file l =
    let all = names (files l.modules l.texts) in
    record { names : map (λ k. k.now) l.names.keys ≡ take l.file all; once : (j : ℕ) → j < l.file → is_again all j ≡ false }
