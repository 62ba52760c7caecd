use Rattle.std.proofs.Common.{◌≡◌, ◌+◌, ◌-◌, ◌≤◌, length}
use Rattle.aos_typed.specs.Open.{open_by, open_dimensions, behind, open_element}
use Rattle.aos_typed.proofs.open.open_array.Given as goal

abbrev pub invariant-loop-step : goal.invariant-loop-step
invariant-loop-step l =
    record {
      few : l.open.dimensions ≤ l._step;
      dimensions : l.open.dimensions + open_by (length l.types - l._step) l.types l.open.element ≡ open_dimensions l.types l.fn.t;
      element : behind (length l.types - l._step) l.types l.open.element ≡ open_element l.types l.fn.t;
    }
