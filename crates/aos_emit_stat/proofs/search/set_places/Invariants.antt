use Rattle.std.proofs.Common.{◌≡◌, ◌≤◌, ◌-◌, length, map}
use Rattle.aos_emit_stat.specs.Places.{place_in, led, led_behind}
use Rattle.aos_emit_stat.proofs.search.set_places.Given as goal

-- what is left to lead makes the whole of what was led
abbrev pub invariant-loop-at : goal.invariant-loop-at
invariant-loop-at l =
    (l.at ≤ length l.code) × (led_behind l.at (place_in 0 l.places) l.code ≡ map (led (place_in 0 l.fn.places)) l.fn.code)

abbrev pub decreases-loop-at : goal.decreases-loop-at
decreases-loop-at l = length l.code - l.at
