-- What probes are told while a run goes on.
use Rattle.std.specs.Prelude.{◌≡◌, List, ◌++◌}
use Rattle.aos_base.specs.declared.kernel.Event.{Event}
use Rattle.aos_kernel.specs.Run.{Run, state_of}
use Rattle.aos_probe.specs.Meaning.{Seen}
use Rattle.aos_probe.specs.Told.{after_all}

-- Between the two these events happened, and the probes were told each of them once, in their order.
pub record Told (old new : Run) (before left : List Seen) : Type 0 where
  pub events : List Event
  pub between : (state_of new).book.events ≡ (state_of old).book.events ++ events
  pub told : left ≡ after_all events before
