-- What probes come to that are told of events.
use Rattle.std.specs.Prelude.{ℕ, Bool, true, false, not, List, [], ◌∷◌, map}
use Rattle.aos_base.specs.declared.kernel.Event.{Event}
use Rattle.aos_probe.specs.declared.probe.Keep.{Keep}
use Rattle.aos_probe.specs.declared.probe.Keep.TheVariants.{Stays, Leaves}
use Rattle.aos_probe.specs.Meaning.{Seen}

-- a probe that is shown the event: its content made its step
abbrev pub told : Event → Seen → Seen
told e p = record { meaning = p.meaning; content = p.meaning.step p.content e }

-- what it answers to the event
abbrev pub is_staying : Keep → Bool
is_staying Stays = true
is_staying Leaves = false

-- it doesn't leave at the event
abbrev pub stays : Event → Seen → Bool
stays e p = not (p.meaning.leaves p.content e)

abbrev pub total_of : Seen → ℕ
total_of p = p.meaning.total p.content

-- those of the list after the event: all of them, whatever they answer
abbrev pub after : Event → List Seen → List Seen
after e ps = map (told e) ps

-- after each of these events, in their order
abbrev pub after_all : List Event → List Seen → List Seen
after_all [] ps = ps
after_all (e ∷ es) ps = after_all es (after e ps)

-- ---- the same, probe by probe

-- the fold of its step
abbrev pub told_all : List Event → Seen → Seen
told_all [] p = p
told_all (e ∷ es) p = told_all es (told e p)

abbrev pub those_left : List Event → List Seen → List Seen
those_left es ps = map (told_all es) ps
