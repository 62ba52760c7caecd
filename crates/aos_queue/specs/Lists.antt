-- The lists that queues stand for: each queue is a list of numbers in the links to which it belongs.
use Rattle.std.specs.Prelude.{◌≡◌, ◌==◌, not, ℕ, zero, suc, ◌<◌, List, [], ◌∷◌, length, Option, Some, None, Bool, false, filter, slice_index_or}
use Rattle.std.specs.List.{Contains}
use Rattle.aos_queue.specs.declared.links.Links.{Links}
use Rattle.aos_queue.specs.declared.links.Node.{Node}
use Rattle.aos_queue.specs.declared.queue.Queue.{Queue}

-- what is linked ---------------------------------------------------------------------------

-- what a number has that isn't reserved
abbrev pub blank : Node
blank = record { next = None; before = 0; is_marked = false }

-- the number behind another one
abbrev pub next_in : List Node → ℕ → Option ℕ
next_in nodes n = (slice_index_or nodes n blank).next

-- the number before another one
abbrev pub prior_in : List Node → ℕ → ℕ
prior_in nodes n = (slice_index_or nodes n blank).before

abbrev pub mark_in : List Node → ℕ → Bool
mark_in nodes n = (slice_index_or nodes n blank).is_marked

-- how many numbers are reserved: those below
unfoldable pub room_of : Links → ℕ
room_of links = length links.nodes.items

-- a number's mark
unfoldable pub mark_of : Links → ℕ → Bool
mark_of links n = mark_in links.nodes.items n

-- at most so many numbers, each behind the one before
abbrev pub run : ℕ → (ℕ → Option ℕ) → Option ℕ → List ℕ
run zero next start = []
run (suc k) next None = []
run (suc k) next (Some n) = n ∷ run k next (next n)

-- a queue's numbers in their order
unfoldable pub list_in : Links → Queue → List ℕ
list_in links queue = run (length links.nodes.items) (next_in links.nodes.items) queue.first

-- lists ------------------------------------------------------------------------------------

-- the first number, each number behind the one before, and none behind the last
abbrev pub IsRun : (ℕ → Option ℕ) → Option ℕ → List ℕ → Type 0
IsRun next start [] = start ≡ None
IsRun next start (n ∷ ns) = (start ≡ Some n) × IsRun next (next n) ns

-- before each of these numbers the one in front of it, this one before the first
abbrev pub IsBehind : (ℕ → ℕ) → ℕ → List ℕ → Type 0
IsBehind before n [] = Unit {0}
IsBehind before n (m ∷ ms) = (before m ≡ n) × IsBehind before m ms

-- before each number the one in front of it; before the first there is any
abbrev pub IsBack : (ℕ → ℕ) → List ℕ → Type 0
IsBack before [] = Unit {0}
IsBack before (n ∷ ns) = IsBehind before n ns

-- no number twice
abbrev pub IsOnce : List ℕ → Type 0
IsOnce [] = Unit {0}
IsOnce (n ∷ ns) = (Contains ns n → ⊥) × IsOnce ns

-- the last number, or this one
abbrev pub last_of : ℕ → List ℕ → ℕ
last_of n [] = n
last_of n (m ∷ ms) = last_of m ms

-- the list without a number
abbrev pub without : ℕ → List ℕ → List ℕ
without n ns = filter (λ m. not (m == n)) ns

-- two lists share no number
pub record Apart (ns ms : List ℕ) : Type 0 where
  pub apart : (n : ℕ) → Contains ns n → Contains ms n → ⊥

-- by the links a queue is this list: its numbers are reserved, and each stands in it once
pub record Stands (next : ℕ → Option ℕ) (room : ℕ) (first : Option ℕ) (last : ℕ) (ns : List ℕ)
    : Type 0 where
  pub run : IsRun next first ns
  pub ends : last ≡ last_of last ns
  pub once : IsOnce ns
  pub reserved : (n : ℕ) → Contains ns n → n < room

-- a queue belongs to links: by them it is its list, forward and back
pub record Belongs (links : Links) (queue : Queue) : Type 0 where
  pub stands :
      Stands (next_in links.nodes.items) (length links.nodes.items) queue.first queue.last (list_in links queue)
  pub back : IsBack (prior_in links.nodes.items) (list_in links queue)

-- a queue that shares no number with these keeps its list and belongs to the links still
pub record KeepsOthers (old new : Links) (touched : List ℕ) : Type 0 where
  pub belongs : (other : Queue) → Belongs old other → Apart (list_in old other) touched →
      Belongs new other
  pub list : (other : Queue) → Belongs old other → Apart (list_in old other) touched →
      list_in new other ≡ list_in old other

-- the same numbers are reserved, and each has its mark
pub record SameTable (old new : Links) : Type 0 where
  pub room : room_of new ≡ room_of old
  pub marks : (n : ℕ) → mark_of new n ≡ mark_of old n
