-- What a sink over a stream writes to, and how much of a piece it may write before it fails.
use Rattle.std.specs.Prelude.{ℕ, List, take, Option}
use Rattle.std.specs.Io.KnownBytes.{Appends}
use Rattle.aos_dev.specs.declared.std_sink.StdSink.{StdSink}

-- the writer of a sink
abbrev pub writer_of : {W : Type 0} → StdSink W → W
writer_of sink = sink.writer

-- how often it failed
abbrev pub faults_of : {W : Type 0} → StdSink W → ℕ
faults_of sink = sink.faults

-- known bytes grow by some of the piece, from its beginning
abbrev pub AppendsPart : (old new : Option (List ℕ)) → List ℕ → Type 0
AppendsPart old new piece = (count : ℕ) × Appends old new (take count piece)
