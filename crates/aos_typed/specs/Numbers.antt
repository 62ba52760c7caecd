-- Numbers of what a program declares. Modules are numbered from 0 in load order, types from 0 in the table, a module's variables
-- and procedures, and a procedure's parameters and behind them its locals, from 0 in the order of the text, a record's fields
-- from 0, its base's first. Procedures that run are numbered from 1 over the whole program.
use Rattle.std.specs.Prelude.{ℕ, zero, suc, ◌+◌, List, [], ◌∷◌, length, sum_by, take}
use Rattle.aos_base.specs.declared.number.Width.{Width}
use Rattle.aos_base.specs.declared.number.Width.TheVariants.{W8, W16, W32, W64}
use Rattle.aos_types.specs.declared.row.Basic.TheVariants as basic
use Rattle.aos_types.specs.declared.row.TypeId.{TypeId}
use Rattle.aos_types.specs.declared.row.TypeRow.{TypeRow}
use Rattle.aos_types.specs.declared.row.TypeRow.TheVariants as row
use Rattle.aos_typed.specs.declared.tree.TType.{TType}
use Rattle.aos_typed.specs.declared.tree.TType.TheVariants.{Integer, Boolean, Char, Set, Any, Named}
use Rattle.aos_typed.specs.Program.{Program}

-- how many types are predeclared; they stand first in the table. The last one is that of all string constants but those of one
-- character, however long they are
abbrev pub predeclared_types : ℕ
predeclared_types = 10

abbrev pub predeclared_rows : List TypeRow
predeclared_rows =
    row.Basic basic.ShortInt ∷ row.Basic basic.Integer ∷ row.Basic basic.LongInt ∷ row.Basic basic.HugeInt
    ∷ row.Basic basic.Boolean ∷ row.Basic basic.Char ∷ row.Basic basic.Set ∷ row.Basic basic.Nil ∷ row.Any
    ∷ row.Basic (basic.Text 0) ∷ []

abbrev pub integer_id : Width → ℕ
integer_id W8 = 0
integer_id W16 = 1
integer_id W32 = 2
integer_id W64 = 3

-- the number of a type in the table
abbrev pub id_of : TType → TypeId
id_of (Integer w) = record { 0 = integer_id w }
id_of Boolean = record { 0 = 4 }
id_of Char = record { 0 = 5 }
id_of Set = record { 0 = 6 }
id_of Any = record { 0 = 8 }
id_of (Named k) = record { 0 = k + predeclared_types }

-- the number in the table of the type that is numbered from 1 in the program
abbrev pub id_of_made : ℕ → TypeId
id_of_made zero = record { 0 = 0 }
id_of_made (suc k) = record { 0 = k + predeclared_types }

-- first come the bodies of the modules, then those beside the types, then the procedures of each module
abbrev pub procedures_before : Program → ℕ → ℕ
procedures_before p m = sum_by (λ x. length x.procedures) (take m p.modules)

abbrev pub body_number : Program → (type : ℕ) → ℕ
body_number p t = suc (length p.modules + t)

abbrev pub procedure_number : Program → (home number : ℕ) → ℕ
procedure_number p m k = suc (length p.modules + length p.objects + procedures_before p m + k)
