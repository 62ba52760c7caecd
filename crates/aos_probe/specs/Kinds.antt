-- The kinds of probes.
use Rattle.std.specs.Prelude.{ℕ, ◌+◌, ◌^◌, ◌-◌, min, Bool, true, false, List, [], ◌∷◌, if◌then◌else◌}
use Rattle.aos_base.specs.declared.kernel.Event.{Event}
use Rattle.aos_base.specs.declared.kernel.Event.TheVariants as event
use Rattle.aos_probe.specs.declared.kind.EventKind.{EventKind}
use Rattle.aos_probe.specs.declared.kind.EventKind.TheVariants as kind
use Rattle.aos_probe.specs.Meaning.{Meaning}

-- the event is of this kind
abbrev pub is_of : EventKind → Event → Bool
is_of kind.Start (event.Start a) = true
is_of kind.Enter (event.Enter l a) = true
is_of kind.Wait (event.Wait l a w) = true
is_of kind.Pass (event.Pass l f t w) = true
is_of kind.Free (event.Free l f) = true
is_of kind.Trap (event.Trap a n) = true
is_of kind.End (event.End a) = true
is_of _ _ = false

-- one more, up to the greatest number of 64 bits
abbrev pub one_more : ℕ → ℕ
one_more n = min (n + 1) (2 ^ 64 - 1)

-- the first number
abbrev pub first : List ℕ → ℕ
first [] = 0
first (n ∷ ns) = n

-- ---- a Counter: its content is one number, the events of its kind that it saw

abbrev pub counted : EventKind → List ℕ → Event → List ℕ
counted k c e = (if is_of k e then one_more (first c) else first c) ∷ []

abbrev pub counter : EventKind → Meaning
counter k = record { step = counted k; leaves = λ c e. false; total = first }
