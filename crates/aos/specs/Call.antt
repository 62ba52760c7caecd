-- A call of the program as its caller sees it: the words, what the shelf and the sinks told before
-- and after, the probes, and the status.
use Rattle.std.specs.Prelude.{◌≡◌, ◌≢◌, ℕ, List, Option, IsSome}
use Rattle.aos_dev.specs.declared.shelf.Shelf as Shelf
use Rattle.aos_dev.specs.declared.sink.Sink as Sink
use Rattle.aos_dev.specs.Count.{Rose}
use Rattle.aos_dev.specs.Shelf.{Named}
use Rattle.aos_dev.specs.Sink.{appended, WrotePart}
use Rattle.aos_probe.specs.Meaning.{Seen}
use Rattle.aos_words.specs.Words.{Words}

-- the shelf's texts, where it tells them, and its count of faults before and after
pub record ShelfUse : Type 0 where
  pub texts : Option (List Named)
  pub faults_before : ℕ
  pub faults_after : ℕ

-- a sink's bytes, where it tells them, and its count of faults, each before and after
pub record SinkUse : Type 0 where
  pub before : Option (List ℕ)
  pub after : Option (List ℕ)
  pub faults_before : ℕ
  pub faults_after : ℕ

-- the probes as they are handed in, and as they are left
pub record ProbesUse : Type 0 where
  pub before : List Seen
  pub left : List Seen

pub record Call : Type 0 where
  pub words : Words
  pub shelf : ShelfUse
  pub out : SinkUse
  pub err : SinkUse
  pub probes : ProbesUse
  pub status : ℕ

-- what a shelf told, between two of its states
abbrev pub shelf_use : {S : Type 0} → Shelf.Ghosts S → (old new : S) → ShelfUse
shelf_use shelf old new =
    record {
      texts = shelf.texts old;
      faults_before = shelf.faults old;
      faults_after = shelf.faults new;
    }

-- what a sink told, between two of its states
abbrev pub sink_use : {S : Type 0} → Sink.Ghosts S → (old new : S) → SinkUse
sink_use sink old new =
    record {
      before = sink.written old;
      after = sink.written new;
      faults_before = sink.faults old;
      faults_after = sink.faults new;
    }

abbrev pub probes_use : (before left : List Seen) → ProbesUse
probes_use before left = record { before = before; left = left }

-- the shelf tells its texts
abbrev pub Tells : ShelfUse → Type 0
Tells shelf = IsSome shelf.texts

-- the shelf failed: its count rose
abbrev pub ShelfFailed : ShelfUse → Type 0
ShelfFailed shelf = Rose shelf.faults_before shelf.faults_after

-- the sink failed
abbrev pub SinkFailed : SinkUse → Type 0
SinkFailed sink = Rose sink.faults_before sink.faults_after

-- the sink got the whole text, behind what it had
abbrev pub GotWhole : SinkUse → List ℕ → Type 0
GotWhole sink text = sink.after ≡ appended sink.before text

-- it got a part of the text, from its beginning
abbrev pub GotPart : SinkUse → List ℕ → Type 0
GotPart sink text = WrotePart sink.before sink.after text

-- it got nothing
abbrev pub GotNothing : SinkUse → Type 0
GotNothing sink = sink.after ≡ sink.before

-- neither sink failed
pub record SinksWorked (call : Call) : Type 0 where
  pub out : ¬ SinkFailed call.out
  pub err : ¬ SinkFailed call.err

-- the status tells neither that a sink failed nor that memory was wanted
pub record IsUndisturbed (call : Call) : Type 0 where
  pub no_sink_failed : call.status ≢ 7
  pub no_memory_wanted : call.status ≢ 8
