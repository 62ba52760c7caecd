-- Places: that of a variable, that which an expression reads, those that VAR parameters stand for, and the rows of open arrays.
use Rattle.std.specs.Prelude.{[], Bool, true, false}
use Rattle.aos_typed.specs.Program.{Place, ModuleVar, Passed, Of, Guarded, Rows, Known, Expr, Read}
use Rattle.aos_known.specs.Known.{Held, Stands, Value}

-- the place of a variable, and that which an expression reads
abbrev pub place_of : Held → Place
place_of (Stands p) = p
place_of (Value e) = ModuleVar 0 0

abbrev pub place_in : Expr → Place
place_in (Read t p) = p
place_in e = ModuleVar 0 0

-- a place that a VAR parameter stands for, guarded or not
abbrev pub is_passed : Place → Bool
is_passed (Passed k) = true
is_passed (Guarded q t) = is_passed q
is_passed p = false

-- the rows of an open array; what is no open array has no open dimensions
abbrev pub rows_of : Place → Rows
rows_of (Of r) = r
rows_of place = Known place []
