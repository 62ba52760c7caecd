use Rattle.std.proofs.Common.{◌≡◌, ◌-◌, ◌≤◌, length, map}
use Rattle.aos_order.specs.Placing.{placed_after, AreKnown}
use Rattle.aos_order.proofs.placing.place.Given as goal

abbrev pub invariant-loop-known : goal.invariant-loop-known
invariant-loop-known l =
    let all = map (λ v. v.items) l.needs in
    record {
      numbers : length l.known.items ≡ length l.needs;
      known : AreKnown all l.known.items l.placed.keys;
      placed : l.placed.keys ≡ placed_after all (length l.placed.keys);
      within : length l.placed.keys ≤ length l.needs;
    }

abbrev pub decreases-loop-known : goal.decreases-loop-known
decreases-loop-known l = length l.needs - length l.placed.keys
