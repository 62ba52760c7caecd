-- What texts stand for. Each text has one reading, so the texts have one outcome: one program, or one refusal.
use Rattle.std.specs.Prelude.{◌≡◌, ℕ, List, map}
use Rattle.aos_typed.specs.Program.{Program}
use Rattle.aos_symbols.specs.Outcome.{Outcome, went}
use Rattle.aos_reading.specs.Texts.{AreReadings}
pub use Rattle.aos_reading.specs.Sources.{OnRefused}
use Rattle.aos_reading.specs.Files.{Reading}
use Rattle.aos_compile.specs.Files.{elaborate}

-- the texts, in the order of the command, come to this
pub record ComesTo (texts : List (List ℕ)) (o : Outcome Program) : Type 0 where
  pub readings : List Reading
  pub are_readings : AreReadings texts readings
  pub is : elaborate texts readings ≡ o

-- the texts have a program
pub record IsAccepted (texts : List (List ℕ)) : Type 0 where
  pub program : Program
  pub comes : ComesTo texts (went program)

-- the names of a program's modules, in load order
abbrev pub names_of : Program → List (List ℕ)
names_of p = map (λ m. m.name) p.modules
