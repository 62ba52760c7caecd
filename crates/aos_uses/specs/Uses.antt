-- What the text of a program uses, as one list: the rules on guarded variables, initializers and conditions range over it. No order is
-- meant.
use Rattle.std.specs.Prelude.{ℕ, suc, List, [], ◌∷◌, ◌++◌, Bool, true, false, Option, Some, None, if◌then◌else◌, option_map, slice_get, is_some, ◌||◌}
use Rattle.std.specs.Option.{unwrap_or}
use Rattle.aos_types.specs.Table.{row_of, is_object}
use Rattle.aos_typed.specs.Fields.{declarer}
use Rattle.aos_typed.specs.Methods.{body_type, initializer, method_number}
use Rattle.aos_typed.specs.Numbers.{id_of, body_number, procedure_number}
use Rattle.aos_typed.specs.Program.{Place, ModuleVar, Local, Passed, Field, Index, Of, Deref, Typed, Guarded, Rows, Known, Opened, Row, Spread, Longer, Arguments, NoMore, Scalar, Whole, Opening, Callee, Plain, Dispatched, Upper, Through, Expr, Lit, SelfRef, Read, Unary, Binary, And, Or, Element, Ord, Chr, CompareTexts, Len, LenBehind, Function, Same, Is, IsRecord, Guard, ProcedureOf, MethodOf, SameProcedure, Had, Call, Open, Char, Int, String, Ln, Stat, Assign, Copy, PutText, If, Case, While, Repeat, Loop, Exit, For, Block, Await, Assert, Halt, Change, Perform, Return, New, Make, With, WithRecord, Out, Stats, Nothing, Then, Arms, Otherwise, Arm, Cases, NoElse, Else, OfLabels, Program}
use Rattle.aos_typed.specs.Routines.{Routine, parameters_at}
use Rattle.aos_uses.specs.declared.uses.Variable.{Variable}
use Rattle.aos_uses.specs.declared.uses.Variable.TheVariants as variable
use Rattle.aos_uses.specs.declared.uses.Target.{Target}
use Rattle.aos_uses.specs.declared.uses.Use.{Use}
use Rattle.aos_uses.specs.declared.uses.Use.TheVariants.{Writes, Reads, Varies, Follows, SelfValue, Calls, Raises, Finds, Binds, Makes}

-- SELF, and the object whose method or body it is with its fields
abbrev pub is_self : Expr → Bool
is_self SelfRef = true
is_self e = false

abbrev pub is_own : Place → Bool
is_own (Deref e t) = is_self e
is_own q = false

abbrev pub plainly : Variable → Target
plainly v = record { of = v; through_self = false }

-- a parameter of what runs under this number is one by reference
abbrev pub is_variable : Program → (number parameter : ℕ) → Bool
is_variable p n i = unwrap_or (option_map (λ a. a.by_reference) (slice_get (parameters_at p n) i)) false

abbrev pub varies : (by_reference : Bool) → Target → List Use
varies true t = Varies t ∷ []
varies false t = []

-- an object other than SELF is followed
abbrev pub follows : Expr → List Use
follows e = if is_self e then [] else Follows ∷ []

-- a call names a method by the type that is known of the object
abbrev pub called : Callee → List Use
called (Plain m k) = Calls ∷ []
called (Dispatched e t k) = Calls ∷ Finds t k ∷ []
called (Upper t k) = Raises t k ∷ []
called (Through e t) = Calls ∷ []

-- In a program.
module _ (p : Program) where
  -- the variable that a designator names, in whole or in part, and whether it does so through SELF: a field of an object is one, and what
  -- follows behind it are fields of records and indices of arrays
  abbrev mutual
    pub target : Place → Target
    target (ModuleVar m k) = plainly (variable.Module m k)
    target (Local k) = plainly variable.Local
    target (Passed k) = plainly variable.Passed
    target (Field q t k) =
        if is_object (row_of p.types (id_of t))
        then record { of = variable.Field (declarer p.types (id_of t) k).0 k; through_self = is_own q }
        else target q
    target (Index q n t e) = target q
    target (Of r) = rows_target r
    target (Deref e t) = plainly variable.Heap
    target (Typed q t) = target q
    target (Guarded q t) = target q

    pub rows_target : Rows → Target
    rows_target (Known q ns) = target q
    rows_target (Opened k j) = plainly (variable.Opened k)
    rows_target (Row r t e) = rows_target r
    rows_target (Spread e j) = plainly variable.Heap
    rows_target (Longer r ns) = rows_target r

  -- the number under which runs what a call names
  abbrev pub callee_number : Callee → ℕ
  callee_number (Plain m k) = procedure_number p m k
  callee_number (Dispatched e t k) = method_number p t k
  callee_number (Upper t k) = method_number p t k
  callee_number (Through e t) = body_number p t

  -- and the initializer of a type, 0 where it has none
  abbrev pub initial_number : (slot : Option ℕ) → (type : ℕ) → ℕ
  initial_number None t = 0
  initial_number (Some k) t = method_number p t k

  -- a type has an initializer or a body
  abbrev pub is_begun : (type : ℕ) → Bool
  is_begun t = is_some (initializer p t) || is_some (body_type p t)

  abbrev pub makes : (type : ℕ) → List Use
  makes t = if is_begun t then Makes ∷ [] else []

  -- what finding a place, evaluating an expression and handing over arguments use
  abbrev mutual
    -- SELF that is followed by a field is no value
    pub place_uses : Place → List Use
    place_uses (ModuleVar m k) = []
    place_uses (Local k) = []
    place_uses (Passed k) = []
    place_uses (Field q t k) = if is_own q then [] else place_uses q
    place_uses (Index q n t e) = expr_uses e ++ place_uses q
    place_uses (Of r) = rows_uses r
    place_uses (Deref e t) = Follows ∷ expr_uses e
    place_uses (Typed q t) = place_uses q
    place_uses (Guarded q t) = place_uses q

    pub rows_uses : Rows → List Use
    rows_uses (Known q ns) = place_uses q
    rows_uses (Opened k j) = []
    rows_uses (Row r t e) = expr_uses e ++ rows_uses r
    rows_uses (Spread e j) = Follows ∷ expr_uses e
    rows_uses (Longer r ns) = rows_uses r

    -- arguments of what runs under this number, from the parameter with the second number on
    pub arguments_uses : (number parameter : ℕ) → Arguments → List Use
    arguments_uses n i NoMore = []
    arguments_uses n i (Scalar e more) = expr_uses e ++ arguments_uses n (suc i) more
    arguments_uses n i (Whole q more) = (varies (is_variable p n i) (target q) ++ place_uses q) ++ arguments_uses n (suc i) more
    arguments_uses n i (Opening r more) = (varies (is_variable p n i) (rows_target r) ++ rows_uses r) ++ arguments_uses n (suc i) more

    pub receiver_uses : Callee → List Use
    receiver_uses (Plain m k) = []
    receiver_uses (Dispatched e t k) = expr_uses e
    receiver_uses (Upper t k) = []
    receiver_uses (Through e t) = expr_uses e

    -- a test of a record's type reads the variable, and a length is no part of what is read
    pub expr_uses : Expr → List Use
    expr_uses (Lit l) = []
    expr_uses SelfRef = SelfValue ∷ []
    expr_uses (Read t q) = Reads (target q) ∷ place_uses q
    expr_uses (Unary op a) = expr_uses a
    expr_uses (Binary op a b) = expr_uses b ++ expr_uses a
    expr_uses (And a b) = expr_uses b ++ expr_uses a
    expr_uses (Or a b) = expr_uses b ++ expr_uses a
    expr_uses (Element a) = expr_uses a
    expr_uses (Ord a) = expr_uses a
    expr_uses (Chr a) = expr_uses a
    expr_uses (CompareTexts r a b) = (Reads (rows_target b) ∷ rows_uses b) ++ (Reads (rows_target a) ∷ rows_uses a)
    expr_uses (Len r d) = rows_uses r
    expr_uses (LenBehind r n) = rows_uses r
    expr_uses (Function c more) = (called c ++ arguments_uses (callee_number c) 0 more) ++ receiver_uses c
    expr_uses (Same a b) = expr_uses b ++ expr_uses a
    expr_uses (Is a t) = expr_uses a
    expr_uses (IsRecord q t) = Reads (target q) ∷ place_uses q
    expr_uses (Guard a t) = expr_uses a
    expr_uses (ProcedureOf m k) = []
    expr_uses (MethodOf a t k) = (Binds ∷ Finds t k ∷ follows a) ++ expr_uses a
    expr_uses (SameProcedure a b) = expr_uses b ++ expr_uses a
    expr_uses (Had v) = []

  abbrev pub call_uses : Callee → Arguments → List Use
  call_uses c more = (called c ++ arguments_uses (callee_number c) 0 more) ++ receiver_uses c

  abbrev pub values_uses : List Expr → List Use
  values_uses [] = []
  values_uses (e ∷ es) = expr_uses e ++ values_uses es

  abbrev pub result_uses : Option Expr → List Use
  result_uses None = []
  result_uses (Some e) = expr_uses e

  -- those of module Out aren't predeclared
  abbrev pub out_uses : Call → List Use
  out_uses Open = Calls ∷ []
  out_uses (Char e) = Calls ∷ expr_uses e
  out_uses (Int e n) = (Calls ∷ expr_uses e) ++ expr_uses n
  out_uses (String r) = (Calls ∷ Reads (rows_target r) ∷ []) ++ rows_uses r
  out_uses Ln = Calls ∷ []

  abbrev pub written : (exclusive : Bool) → Place → List Use
  written x q = Writes (target q) x ∷ place_uses q

  -- what statements use, in an exclusive block or not. They write what they assign, and what predeclared procedures store in
  abbrev mutual
    pub stat_uses : (exclusive : Bool) → Stat → List Use
    stat_uses x (Assign at t q e) = written x q ++ expr_uses e
    stat_uses x (Copy at t to from) = written x to ++ (Reads (target from) ∷ place_uses from)
    stat_uses x (PutText at strict from to) = (Writes (rows_target to) x ∷ rows_uses to) ++ (Reads (rows_target from) ∷ rows_uses from)
    stat_uses x (If at arms) = arms_uses x arms
    stat_uses x (Case at e cases) = expr_uses e ++ cases_uses x cases
    stat_uses x (While at e body) = expr_uses e ++ stats_uses x body
    stat_uses x (Repeat at body e) = expr_uses e ++ stats_uses x body
    stat_uses x (Loop at body) = stats_uses x body
    stat_uses x (Exit at) = []
    stat_uses x (For at w q from to step body) = (written x q ++ (expr_uses from ++ expr_uses to)) ++ stats_uses x body
    stat_uses x (Block at exclusive body) = stats_uses (exclusive || x) body
    stat_uses x (Await at n e) = expr_uses e
    stat_uses x (Assert at e code) = expr_uses e
    stat_uses x (Halt at code) = []
    stat_uses x (Change at c q e) = written x q ++ expr_uses e
    stat_uses x (Perform at c more) = call_uses c more
    stat_uses x (Return at e) = result_uses e
    stat_uses x (New at q t more) = (written x q ++ makes t) ++ arguments_uses (initial_number (initializer p t) t) 0 more
    stat_uses x (Make at q t ns) = written x q ++ values_uses ns
    stat_uses x (With at e body) = expr_uses e ++ stats_uses x body
    stat_uses x (WithRecord at q body) = place_uses q ++ stats_uses x body
    stat_uses x (Out at call) = out_uses call

    pub stats_uses : (exclusive : Bool) → Stats → List Use
    stats_uses x Nothing = []
    stats_uses x (Then s ss) = stat_uses x s ++ stats_uses x ss

    pub arms_uses : (exclusive : Bool) → Arms → List Use
    arms_uses x (Otherwise ss) = stats_uses x ss
    arms_uses x (Arm e ss arms) = (expr_uses e ++ stats_uses x ss) ++ arms_uses x arms

    pub cases_uses : (exclusive : Bool) → Cases → List Use
    cases_uses x NoElse = []
    cases_uses x (Else ss) = stats_uses x ss
    cases_uses x (OfLabels rs ss cases) = stats_uses x ss ++ cases_uses x cases

  abbrev pub routine_uses : Routine → List Use
  routine_uses r = stats_uses r.body.is_exclusive r.body.statements
