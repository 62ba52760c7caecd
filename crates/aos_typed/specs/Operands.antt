-- How many operands what is handed over has: one for a value or a place, and one more for each length behind the place of an array.
use Rattle.std.specs.Prelude.{ℕ, suc, ◌+◌, ◌-◌, length}
use Rattle.aos_typed.specs.Program.{Rows, Known, Opened, Row, Spread, Longer, Arguments, NoMore, Scalar, Whole, Opening}

-- how many dimensions of an array have their lengths behind its place
abbrev pub dimensions : Rows → ℕ
dimensions (Known p ns) = length ns
dimensions (Opened k j) = j
dimensions (Row r t e) = dimensions r - 1
dimensions (Spread e j) = j
dimensions (Longer r ns) = dimensions r + length ns

-- how many operands are handed over
abbrev pub operands : Arguments → ℕ
operands NoMore = 0
operands (Scalar e more) = suc (operands more)
operands (Whole p more) = suc (operands more)
operands (Opening r more) = suc (dimensions r + operands more)
