-- What `check` and `list` tell of a program.
use Rattle.std.specs.Prelude.{◌≡◌, ℕ, List}
use Rattle.aos_typed.specs.Program.{Program}
use Rattle.aos_code.specs.declared.report.AwaitRec.{AwaitRec}
use Rattle.aos_guard.specs.Awaits.{TellsEach, AreInOrder}
use Rattle.aos_listing.specs.Listing.{listing}
use Rattle.aos_report.specs.Texts.{awaits_text, lines_text}
use Rattle.aos_compile.specs.Elaborates.{names_of}
use Rattle.aos_words.specs.Words.{Command, Run, Replay, Check, List_, Gen}

-- the lines of the program's AWAITs, each once, with whether its condition is local: the modules in
-- load order, and in each in the order of the text
pub record IsCheckOf (p : Program) (text : List ℕ) : Type 0 where
  pub awaits : List AwaitRec
  pub each : TellsEach p awaits
  pub order : AreInOrder awaits
  pub is : text ≡ awaits_text (names_of p) awaits

-- the lines of its storage layout
abbrev pub IsLayoutOf : Program → List ℕ → Type 0
IsLayoutOf p text = text ≡ lines_text (listing p)

-- what a command tells of a program; one that runs it tells nothing so
abbrev pub IsToldBy : Command → Program → List ℕ → Type 0
IsToldBy (Run workers budget log files) p text = ⊥
IsToldBy (Replay script watch files) p text = ⊥
IsToldBy (Check files) p text = IsCheckOf p text
IsToldBy (List_ files) p text = IsLayoutOf p text
IsToldBy (Gen workers pairs) p text = ⊥

-- a command that tells of programs, and runs nothing
abbrev pub IsTelling : Command → Type 0
IsTelling (Run workers budget log files) = ⊥
IsTelling (Replay script watch files) = ⊥
IsTelling (Check files) = Unit {0}
IsTelling (List_ files) = Unit {0}
IsTelling (Gen workers pairs) = ⊥
