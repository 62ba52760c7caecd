-- How much there is of a designator, an array, what is handed over and an expression, so that what is in one of them is less.
use Rattle.std.specs.Prelude.{ℕ, suc, ◌+◌, Option, Some, None}
use Rattle.aos_typed.specs.Program.{Place, ModuleVar, Local, Passed, Field, Index, Of, Deref, Typed, Guarded, Rows, Known, Opened, Row, Spread, Longer, Arguments, NoMore, Scalar, Whole, Opening, Callee, Plain, Dispatched, Upper, Through, Expr, Lit, SelfRef, Read, Unary, Binary, And, Or, Element, Ord, Chr, CompareTexts, Len, LenBehind, Function, Same, Is, IsRecord, Guard, ProcedureOf, MethodOf, SameProcedure, Had}
use Rattle.aos_typed.specs.Seen.{seen_place, seen_rows, seen_expr}
use Rattle.aos_dispatch.specs.declared.prefixes.Prefix.{Prefix}
use Rattle.aos_dispatch.specs.declared.prefixes.Prefix.TheVariants.{Value, Place as Located, Rows as Spanned}

abbrev mutual
  pub place_size : Place → ℕ
  place_size (ModuleVar m k) = 0
  place_size (Local k) = 0
  place_size (Passed k) = 0
  place_size (Field p t k) = suc (place_size p)
  place_size (Index p n t e) = suc (place_size p + value_size e)
  place_size (Of r) = suc (rows_size r)
  place_size (Deref e t) = suc (value_size e)
  place_size (Typed p t) = suc (place_size p)
  place_size (Guarded p t) = suc (place_size p)

  pub rows_size : Rows → ℕ
  rows_size (Known p ns) = suc (place_size p)
  rows_size (Opened k j) = 0
  rows_size (Row r t e) = suc (rows_size r + value_size e)
  rows_size (Spread e j) = suc (value_size e)
  rows_size (Longer r ns) = suc (rows_size r)

  pub arguments_size : Arguments → ℕ
  arguments_size NoMore = 0
  arguments_size (Scalar e more) = suc (value_size e + arguments_size more)
  arguments_size (Whole p more) = suc (place_size p + arguments_size more)
  arguments_size (Opening r more) = suc (rows_size r + arguments_size more)

  pub callee_size : Callee → ℕ
  callee_size (Plain m k) = 0
  callee_size (Dispatched e t k) = value_size e
  callee_size (Upper t k) = 0
  callee_size (Through e t) = value_size e

  pub value_size : Expr → ℕ
  value_size (Lit l) = 0
  value_size SelfRef = 0
  value_size (Read t p) = suc (place_size p)
  value_size (Unary op a) = suc (value_size a)
  value_size (Binary op a b) = suc (value_size a + value_size b)
  value_size (And a b) = suc (value_size a + value_size b)
  value_size (Or a b) = suc (value_size a + value_size b)
  value_size (Element a) = suc (value_size a)
  value_size (Ord a) = suc (value_size a)
  value_size (Chr a) = suc (value_size a)
  value_size (CompareTexts r a b) = suc (rows_size a + rows_size b)
  value_size (Len r d) = suc (rows_size r)
  value_size (LenBehind r n) = suc (rows_size r)
  value_size (Function c more) = suc (callee_size c + arguments_size more)
  value_size (Same a b) = suc (value_size a + value_size b)
  value_size (Is a t) = suc (value_size a)
  value_size (IsRecord p t) = suc (place_size p)
  value_size (Guard a t) = suc (value_size a)
  value_size (ProcedureOf m k) = 0
  value_size (MethodOf a t k) = suc (value_size a)
  value_size (SameProcedure a b) = suc (value_size a + value_size b)
  value_size (Had v) = 0

abbrev pub front_size : Prefix → ℕ
front_size (Value e) = value_size (seen_expr e.now)
front_size (Located p) = place_size (seen_place p.now)
front_size (Spanned r) = rows_size (seen_rows r.now)

-- with what it is found by
abbrev pub rest_size : Option Prefix → ℕ
rest_size None = 0
rest_size (Some f) = suc (front_size f)
