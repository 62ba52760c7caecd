-- The kind of a probe that never stays.
use Rattle.std.specs.Prelude.{true, [], ◌∷◌}
use Rattle.aos_probe.specs.Kinds.{first, one_more}
use Rattle.aos_probe.specs.Meaning.{Meaning}

-- it counts each event, and leaves at each
abbrev pub restless : Meaning
restless = record { step = λ c e. one_more (first c) ∷ []; leaves = λ c e. true; total = first }
