-- LEN of an array, and of one of its dimensions, which a constant integer tells. Its value is no constant.
use Rattle.std.specs.Prelude.{ℕ, ◌-◌, ◌++◌, Bool, true, false, ◌||◌, nat_lt, Option, Some, None, is_some, if◌then◌else◌}
use Rattle.std.specs.Option.{unwrap_or}
use Rattle.aos_base.specs.declared.text.Pos.{Pos}
use Rattle.aos_types.specs.declared.row.TypeId.{TypeId}
use Rattle.aos_typed.specs.Open.{open_dimensions, open_element}
use Rattle.aos_typed.specs.Program.{Rows, Expr, Len, LenBehind}
use Rattle.aos_symbols.specs.declared.env.Env.{Env}
use Rattle.aos_symbols.specs.Breaches.{breach_unless}
use Rattle.aos_symbols.specs.Judged.{Judged, judged}
use Rattle.aos_symbols.specs.Env as env
use Rattle.aos_known.specs.declared.known.Class.{Class}
use Rattle.aos_known.specs.declared.known.Class.TheVariants.{Unknown, Computed}
use Rattle.aos_known.specs.Known.{Answer, answered}
use Rattle.aos_operators.specs.Operations as op
use Rattle.aos_known.specs.Places.{place_in, rows_of}
use Rattle.aos_values.specs.Arrays.{is_array, length_of, number_in}

-- the length of a dimension behind the open ones of a type
abbrev pub length_behind : Env → TypeId → ℕ → Option ℕ
length_behind e t d = length_of e (Some (open_element e.types t)) (d - open_dimensions e.types t)

abbrev pub len_typed : Env → Option TypeId → Rows → ℕ → Expr
len_typed e None r d = LenBehind r 0
len_typed e (Some t) r d = if nat_lt d (open_dimensions e.types t) then Len r d else LenBehind r (unwrap_or (length_behind e t d) 0)

abbrev pub len_answer : Env → Answer → (dimension : ℕ) → Answer
len_answer e a d =
    let takes = is_array e a.known.of in
    answered Computed (op.kept_type takes (Some env.longint))
    (len_typed e a.known.of (rows_of (place_in a.typed)) d)

-- an array's type has a dimension of this number
abbrev pub has_dimension : Env → TypeId → ℕ → Bool
has_dimension e t d = nat_lt d (open_dimensions e.types t) || is_some (length_behind e t d)

-- it is one of the array's, where that is known
abbrev pub is_dimension : Env → Option TypeId → Class → Bool
is_dimension e of Unknown = true
is_dimension e of c = by of (number_in c)
  where
    by : Option TypeId → Option ℕ → Bool
    by of None = false
    by None (Some d) = true
    by (Some t) (Some d) = has_dimension e t d

abbrev pub len_alone : Env → Pos → Answer → Judged Answer
len_alone e at a = judged (op.argument (is_array e a.known.of) at) (len_answer e a 0)

abbrev pub len_in : Env → (first second : Pos) → Answer → Answer → Judged Answer
len_in e first second a d =
    judged
    (op.argument (is_array e a.known.of) first ++ breach_unless (is_dimension e a.known.of d.known.class) 20 second)
    (len_answer e a (unwrap_or (number_in d.known.class) 0))
