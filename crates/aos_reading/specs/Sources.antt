-- What the code's readings and files are seen as, and its refusals.
use Rattle.std.specs.Prelude.{ℕ, List, Vec, map, Option, Some, None}
use Rattle.std.specs.List.{zip}
use Rattle.std.specs.declared.alloc.Global.{Global}
use Rattle.aos_base.specs.declared.text.Refusal.{Refusal}
use Rattle.aos_scan.specs.declared.refusal.ScanErr.{ScanErr}
use Rattle.aos_scan.specs.declared.refusal.ScanErr.TheVariants as scan
use Rattle.aos_tree.specs.declared.module.Module.{Module as Tree}
use Rattle.aos_reading.specs.declared.compile_err.CompileErr.{CompileErr}
use Rattle.aos_reading.specs.declared.compile_err.CompileErr.TheVariants.{Refused, NoMemory}
use Rattle.aos_reading.specs.declared.front.Reading.{Reading as CodeReading}
use Rattle.aos_reading.specs.declared.front.Reading.TheVariants as code
use Rattle.aos_symbols.specs.declared.breach.Breach.{Breach}
use Rattle.aos_reading.specs.Files.{Reading, tree, broken, Source}
use Rattle.aos_reading.specs.Texts.{breach_at}

abbrev pub seen_reading : CodeReading → Reading
seen_reading (code.Tree m) = tree m
seen_reading (code.Broken b) = broken b

-- the rule that the scanner found broken; none where memory was wanted
abbrev pub breach_of_scan : ScanErr → Option Breach
breach_of_scan (scan.Bad p) = Some (breach_at 2 p)
breach_of_scan (scan.OpenComment p) = Some (breach_at 3 p)
breach_of_scan (scan.OpenString p) = Some (breach_at 4 p)
breach_of_scan (scan.TooBig p) = Some (breach_at 5 p)
breach_of_scan scan.NoMemory = None

-- texts by their bytes
abbrev pub bytes_of : List (Vec ℕ Global) → List (List ℕ)
bytes_of texts = map (λ t. t.items) texts

-- files, each with its tree
abbrev pub sources : List (Vec ℕ Global) → List Tree → List Source
sources texts trees = zip (bytes_of texts) trees

-- what an error that is a refusal tells; want of memory tells nothing
abbrev pub OnRefused : CompileErr → (Refusal → Type 0) → Type 0
OnRefused (Refused r) fact = fact r
OnRefused NoMemory fact = Unit {0}
