-- What a designator, an array or an expression begins with: the variable that it names, and what it uses.
use Rattle.std.specs.Prelude.{Option, Some, None, List, []}
use Rattle.aos_typed.specs.Program.{Program}
use Rattle.aos_typed.specs.Seen.{seen_place, seen_rows, seen_expr}
use Rattle.aos_dispatch.specs.declared.prefixes.Prefix.{Prefix}
use Rattle.aos_dispatch.specs.declared.prefixes.Prefix.TheVariants.{Value, Place as Located, Rows as Spanned}
use Rattle.aos_uses.specs.declared.uses.Target.{Target}
use Rattle.aos_uses.specs.declared.uses.Use.{Use}
use Rattle.aos_uses.specs.declared.uses.Variable.TheVariants.{Heap}
use Rattle.aos_uses.specs.Uses.{plainly, target, rows_target, place_uses, rows_uses, expr_uses}

module _ (p : Program) where
  -- the variable that it names
  abbrev pub front_target : Prefix → Target
  front_target (Value e) = plainly Heap
  front_target (Located q) = target p (seen_place q.now)
  front_target (Spanned r) = rows_target p (seen_rows r.now)

  abbrev pub rest_target : Target → Option Prefix → Target
  rest_target t None = t
  rest_target t (Some f) = front_target f

  -- and what it uses
  abbrev pub front_uses : Prefix → List Use
  front_uses (Value e) = expr_uses p (seen_expr e.now)
  front_uses (Located q) = place_uses p (seen_place q.now)
  front_uses (Spanned r) = rows_uses p (seen_rows r.now)

  abbrev pub rest_uses : Option Prefix → List Use
  rest_uses None = []
  rest_uses (Some f) = front_uses f
