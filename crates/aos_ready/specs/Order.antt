-- Who is ready, and in which order (Muller 2002, the scheduler of the Active Object System).
use Rattle.std.specs.Prelude.{◌≢◌, ℕ, List, [], ◌∷◌, ◌++◌, Option, Some, None}
use Rattle.aos_base.specs.declared.priority.Priority.{Priority}
use Rattle.aos_base.specs.declared.priority.Priority.TheVariants.{Low, Normal, High}
pub use Rattle.aos_base.specs.Priority.{number_of}
use Rattle.aos_queue.specs.declared.links.Links.{Links}
use Rattle.aos_queue.specs.declared.queue.Queue.{Queue}
use Rattle.aos_queue.specs.Lists.{list_in, without, Belongs, Apart}
use Rattle.aos_ready.specs.declared.ready.Ready.{Ready}

abbrev pub queue_of : Ready → Priority → Queue
queue_of ready Low = ready.low
queue_of ready Normal = ready.normal
queue_of ready High = ready.high

-- who is ready at a priority, in the order in which they became so
unfoldable pub ready_in : Links → Ready → Priority → List ℕ
ready_in links ready p = list_in links (queue_of ready p)

-- all that are ready, in the order in which they go
abbrev pub all_ready : Links → Ready → List ℕ
all_ready links ready = ready_in links ready High ++ (ready_in links ready Normal ++ ready_in links ready Low)

-- the first of these lists in which somebody stands
abbrev pub highest_of : (high normal low : List ℕ) → Option Priority
highest_of (n ∷ ns) normal low = Some High
highest_of [] (n ∷ ns) low = Some Normal
highest_of [] [] (n ∷ ns) = Some Low
highest_of [] [] [] = None

-- the highest priority at which one is ready
abbrev pub highest_in : Links → Ready → Option Priority
highest_in links ready = highest_of (ready_in links ready High) (ready_in links ready Normal) (ready_in links ready Low)

-- a list without the one who goes
abbrev pub without_first : Option ℕ → List ℕ → List ℕ
without_first None ns = ns
without_first (Some n) ns = without n ns

-- the queues belong to the links, and nobody is ready twice
pub record Belong (links : Links) (ready : Ready) : Type 0 where
  pub belongs : (p : Priority) → Belongs links (queue_of ready p)
  pub apart : (p q : Priority) → p ≢ q → Apart (list_in links (queue_of ready p)) (list_in links (queue_of ready q))
