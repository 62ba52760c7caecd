-- How a CASE's arm is found: its labels in order, halved again and again, so that few comparisons tell where a value is.
use Rattle.std.specs.Prelude.{ℕ, zero, suc, ℤ, ◌+◌, ◌/◌, int_le, int_lt, if◌then◌else◌, List, [], ◌∷◌, ◌++◌, length, take, drop}
use Rattle.std.specs.Ordering.{int_eq}
use Rattle.aos_base.specs.declared.number.Relation.TheVariants.{Equal, Less, LessEqual, GreaterEqual}
use Rattle.aos_base.specs.declared.operator.Binary.TheVariants.{Cmp}
use Rattle.aos_typed.specs.declared.tree.LabelRange.{LabelRange}
use Rattle.aos_typed.specs.declared.tree.LabelRow.{LabelRow}
use Rattle.aos_typed.specs.Meaning.{is_in}
use Rattle.aos_typed.specs.Program.{Cases, NoElse, Else, OfLabels}
use Rattle.aos_code.specs.declared.instr.Kind.TheVariants.{N}
use Rattle.aos_code.specs.declared.instr.Instr.{Instr}
use Rattle.aos_code.specs.declared.instr.Instr.TheVariants.{Num, Kept, Binary, Jump, JumpFalse}

-- labels without a value are none
abbrev pub rows_to : ℕ → List LabelRange → List LabelRow
rows_to arm [] = []
rows_to arm (r ∷ rs) = if int_le r.low r.high then record { labels = r; arm = arm } ∷ rows_to arm rs else rows_to arm rs

-- the labels of all arms, which are numbered from this number on
abbrev pub rows_from : ℕ → Cases → List LabelRow
rows_from arm NoElse = []
rows_from arm (Else ss) = []
rows_from arm (OfLabels rs ss cases) = rows_to arm rs ++ rows_from (suc arm) cases

-- how many arms have labels; the arm behind them is ELSE, or trap 4
abbrev pub arms_in : Cases → ℕ
arms_in NoElse = 0
arms_in (Else ss) = 0
arms_in (OfLabels rs ss cases) = suc (arms_in cases)

-- in the order of the first labels
abbrev pub put_row : LabelRow → List LabelRow → List LabelRow
put_row r [] = r ∷ []
put_row r (s ∷ rows) = if int_le r.labels.low s.labels.low then r ∷ s ∷ rows else s ∷ put_row r rows

abbrev pub in_order : List LabelRow → List LabelRow
in_order [] = []
in_order (r ∷ rows) = put_row r (in_order rows)

pub data Search : Type 0 where
  Nowhere : Search  -- there are no labels
  At : LabelRow → Search
  Split : ℤ → Search → Search → Search  -- what is below a value, and what isn't

abbrev pub lowest : List LabelRow → ℤ → ℤ
lowest [] z = z
lowest (r ∷ rows) z = r.labels.low

-- so many rows, or fewer, in two halves
abbrev pub halved : ℕ → List LabelRow → Search
halved deep [] = Nowhere
halved deep (r ∷ []) = At r
halved zero (r ∷ s ∷ rows) = Nowhere
halved (suc deep) (r ∷ s ∷ rows) =
    let all = r ∷ s ∷ rows in
    let half = length all / 2 in
    Split (lowest (drop half all) r.labels.low) (halved deep (take half all)) (halved deep (drop half all))

abbrev pub search_of : Cases → Search
search_of cases = let rows = in_order (rows_from 0 cases) in halved (length rows) rows

-- the arm of a value, and another where no labels have it
abbrev pub found : ℤ → (other : ℕ) → Search → ℕ
found z other Nowhere = other
found z other (At r) = if is_in z r.labels then r.arm else other
found z other (Split middle below above) = if int_lt z middle then found z other below else found z other above

-- a value, and a range of labels: where the selector's value, which is kept, is it or is in it the code goes on there
abbrev pub one_code : ℤ → (level at hit : ℕ) → List Instr
one_code z level at hit = Kept level N ∷ Num z ∷ Binary (Cmp Equal) ∷ JumpFalse (at + 5) ∷ Jump hit ∷ []

abbrev pub range_code : LabelRange → (level at hit : ℕ) → List Instr
range_code r level at hit =
    Kept level N ∷ Num r.low ∷ Binary (Cmp GreaterEqual) ∷ JumpFalse (at + 9)
    ∷ Kept level N ∷ Num r.high ∷ Binary (Cmp LessEqual) ∷ JumpFalse (at + 9) ∷ Jump hit ∷ []

-- a label, which has one value or more
abbrev pub label_code : LabelRange → (level at hit : ℕ) → List Instr
label_code r level at hit = if int_eq r.low r.high then one_code r.low level at hit else range_code r level at hit

abbrev pub label_size : LabelRange → ℕ
label_size r = if int_eq r.low r.high then 5 else 9

abbrev pub search_size : Search → ℕ
search_size Nowhere = 1
search_size (At r) = suc (label_size r.labels)
search_size (Split middle below above) = 4 + search_size below + search_size above

-- the search, from which the code goes on at the place of the arm that has the selector's value, or of the other one
abbrev pub search_code : (place : ℕ → ℕ) (other : ℕ) → Search → (level at : ℕ) → List Instr
search_code place other Nowhere level at = Jump (place other) ∷ []
search_code place other (At r) level at = label_code r.labels level at (place r.arm) ++ Jump (place other) ∷ []
search_code place other (Split middle below above) level at =
    Kept level N ∷ Num middle ∷ Binary (Cmp Less) ∷ JumpFalse (at + 4 + search_size below)
    ∷ (search_code place other below level (at + 4) ++ search_code place other above level (at + 4 + search_size below))
