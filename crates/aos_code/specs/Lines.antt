-- Lines that tell how a program is laid out, as clauses see them: names are their bytes.
use Rattle.std.specs.Prelude.{ℕ, List}
use Rattle.std.specs.String.{string_bytes}
use Rattle.aos_code.specs.declared.report.LayoutLine.{LayoutLine}

-- what a line is of, 0 to 5 for a module, a variable of a module, a type, a field, a method and a procedure; the name of that; the first
-- cell of a variable or a field, the slot of a method, and else 0; and how many cells it has, which is 0 for a method
pub record Line : Type 0 where
  pub word : ℕ
  pub name : List ℕ
  pub at : ℕ
  pub cells : ℕ

abbrev pub seen_line : LayoutLine → Line
seen_line l = record { word = l.word; name = string_bytes l.name; at = l.at; cells = l.cells }
