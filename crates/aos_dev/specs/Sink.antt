-- What a sink means: the bytes that it took.
use Rattle.std.specs.Prelude.{◌≡◌, ℕ, List, ◌++◌, take, Option, Some, None}
use Rattle.aos_dev.specs.declared.sink.Put.{Put}
use Rattle.aos_dev.specs.declared.sink.Put.TheVariants.{Done, Failed}

-- the bytes with a piece after them, where they are told
abbrev pub appended : Option (List ℕ) → List ℕ → Option (List ℕ)
appended None piece = None
appended (Some bytes) piece = Some (bytes ++ piece)

-- some of the piece was written, from its beginning
abbrev pub WrotePart : (old new : Option (List ℕ)) → List ℕ → Type 0
WrotePart old new piece = (count : ℕ) × (new ≡ appended old (take count piece))

-- a fact on one answer
abbrev pub OnDone : Put → Type 0 → Type 0
OnDone Done fact = fact
OnDone Failed _ = Unit

abbrev pub OnFailed : Put → Type 0 → Type 0
OnFailed Failed fact = fact
OnFailed Done _ = Unit
