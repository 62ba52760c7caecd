use Rattle.std.proofs.Common.{◌≡◌, ℕ, ◌<◌, false, map}
use Rattle.aos_order.specs.Placing.{is_ready, AreKnown}
use Rattle.aos_order.proofs.placing.next.Given as goal

abbrev pub invariant-loop-file : goal.invariant-loop-file
invariant-loop-file l =
    let all = map (λ v. v.items) l.needs in
    record { known : AreKnown all l.known l.placed.keys; not_before : (j : ℕ) → j < l.file-counter → is_ready all l.placed.keys j ≡ false }
