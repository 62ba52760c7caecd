-- A queue of the numbers below a bound.
use Rattle.std.specs.Prelude.{ℕ, ◌<◌}
use Rattle.std.specs.List.{Contains}
use Rattle.aos_queue.specs.declared.links.Links.{Links}
use Rattle.aos_queue.specs.declared.queue.Queue.{Queue}
use Rattle.aos_queue.specs.Lists.{list_in, Belongs}

-- the numbers below this one stand in the queue, and no others
pub record Fills (links : Links) (queue : Queue) (count : ℕ) : Type 0 where
  pub belongs : Belongs links queue
  pub has : (n : ℕ) → n < count → Contains (list_in links queue) n
  pub below : (n : ℕ) → Contains (list_in links queue) n → n < count
