-- Calls that break no rule are sound, where their arguments are: predeclared functions, conversions, and MAX and MIN of a type.
use Rattle.std.proofs.Common.{◌≡◌, List, [], ◌∷◌, length, Bool, true, false, Option, Some, None, if◌then◌else◌, refl}
use Rattle.aos_base.specs.declared.text.Pos.{Pos}
use Rattle.aos_tree.specs.declared.name.Name.{Name}
use Rattle.aos_tree.specs.declared.expr.Expr.{Expr, out-Expr}
use Rattle.aos_types.specs.declared.row.TypeId.{TypeId}
use Rattle.aos_typed.specs.declared.tree.Literal.{Literal}
use Rattle.aos_typed.specs.Program.{Plain}
use Rattle.aos_symbols.specs.declared.scope.Meaning.{Meaning}
use Rattle.aos_symbols.specs.declared.scope.Meaning.TheVariants as means
use Rattle.aos_symbols.specs.declared.scope.Function.{Function}
use Rattle.aos_symbols.specs.declared.scope.Function.TheVariants as function
use Rattle.aos_tree.specs.declared.decl.Export.{Export}
use Rattle.aos_symbols.specs.declared.env.Open.{Open}
use Rattle.aos_symbols.specs.declared.env.Symbol.{Symbol}
use Rattle.aos_symbols.specs.declared.env.Lookup.{Lookup}
use Rattle.aos_symbols.specs.declared.env.Lookup.TheVariants.{Unknown as NoName, NotExported, Found}
use Rattle.aos_symbols.specs.declared.env.Env.{Env}
use Rattle.aos_symbols.specs.Judged.{Judged, bind}
use Rattle.aos_symbols.proofs.Each.{Each}
use Rattle.aos_symbols.proofs.Holds.{Holds, holds_bind}
use Rattle.aos_known.proofs.Inside.{Inside}
use Rattle.aos_operators.specs.declared.operations.Step.{Step}
use Rattle.aos_known.specs.Known.{Answer, is_integer}
use Rattle.aos_operators.specs.Operations as op
use Rattle.aos_operators.proofs.Good.{IsGood, MayBe, greatest_good, least_good}
use Rattle.aos_operators.proofs.Sound.{IsStep, TestsOne, applied_step, applied_tests, converted_step, converted_tests}
use Rattle.aos_arguments.specs.declared.functions.Taking.TheVariants as taking
use Rattle.aos_designators.specs.declared.designators.Head.{Head}
use Rattle.aos_bound.specs.declared.methods.Heading.TheVariants as heading
use Rattle.aos_designators.specs.Designators as desig
use Rattle.aos_check_expr.specs.Expressions as judge
use Rattle.aos_check_expr.specs.Expressions.{Callee, Calls, Invokes, Converts, Neither}
use Rattle.aos_check_expr.proofs.Parts.{argument_part, arguments_part, limit_part}
use Rattle.aos_check_expr.proofs.Entities.{IsWhole, GoodConstants, IsProcedure, MayFind, Part, Valued, Denoted, refused_part, refused_value_part, denoted, named_entity, guarded_part}
use Rattle.aos_check_expr.proofs.Worded.{len_alone_part, len_in_part}
use Rattle.aos_check_expr.proofs.Called.{IsCalling}
use Rattle.aos_check_expr.proofs.Passed.{invoked_part}

module _ (p : Inside) (e : Env) where
  -- a conversion is into an integer type, and a procedure is that of its signature
  abbrev IsRightCallee : Callee → Type 0
  IsRightCallee (Calls f) = Unit {0}
  IsRightCallee (Invokes m k) = IsWhole p e → IsCalling p e (Plain m k) (heading.Declared m k)
  IsRightCallee (Converts t) = is_integer t ≡ true
  IsRightCallee Neither = Unit {0}

  conversion_right : (of : Option TypeId) → IsRightCallee (judge.conversion of)
  conversion_right None = tt
  conversion_right (Some t) = by (is_integer t) refl
    where
      by : (b : Bool) → is_integer t ≡ b → IsRightCallee (if b then Converts t else Neither)
      by true i = i
      by false i = tt

  meant_right : (x : Symbol) → (IsWhole p e → IsProcedure p e x) → (m : Meaning) → x.means ≡ m → IsRightCallee (judge.callee_meant x m)
  meant_right x seen (means.Function f) is = tt
  meant_right x seen (means.Type of) is = conversion_right of
  meant_right x seen (means.Procedure k) is = by (desig.is_of_module x) refl
    where
      by : (b : Bool) → desig.is_of_module x ≡ b → IsRightCallee (if b then Invokes x.at.home k else Neither)
      by true own = λ whole. seen whole k is own
      by false own = tt
  meant_right x seen m is = tt

  callee_right : (l : Lookup) → MayFind p e l → IsRightCallee (judge.callee l)
  callee_right NoName may = tt
  callee_right NotExported may = tt
  callee_right (Found x) may = meant_right x (λ whole. (may whole x refl).1) x.means refl

  abbrev IsFine : Judged Answer → Type 0
  IsFine = Holds (Valued p e)

  abbrev pub Parts : List (Judged Answer) → Type 0
  Parts = Each (Holds (Part p e))

  -- MAX and MIN of a type.

  abbrev GivesGood : (TypeId → Option Literal) → Type 0
  GivesGood value = (t : TypeId) → MayBe IsGood (value t)

  limit_meant : (value : TypeId → Option Literal) → GivesGood value → (m : Meaning) (at first : Pos) → IsFine (judge.limit_of value m at first)
  limit_meant value good (means.Type None) at first = refused_part p e 99 at
  limit_meant value good (means.Type (Some t)) at first = limit_part p e (value t) (good t) first
  limit_meant value good m at first = refused_part p e 16 at

  limit_found : (value : TypeId → Option Literal) → GivesGood value → (l : Lookup) (at first : Pos) → IsFine (judge.limit_found value l at first)
  limit_found value good NoName at first = refused_part p e 14 at
  limit_found value good NotExported at first = refused_part p e 15 at
  limit_found value good (Found x) at first = limit_meant value good x.means at first

  limit_named : (value : TypeId → Option Literal) → GivesGood value → (o : Option Head) (first : Pos) → IsFine (judge.limit_named value o first)
  limit_named value good None first = refused_part p e 35 first
  limit_named value good (Some h) first = limit_found value good h.found h.name.pos h.first

  limit_of_type : (value : TypeId → Option Literal) → GivesGood value → (xs : List Expr) (at : Pos) → IsFine (judge.limit e value xs at)
  limit_of_type value good [] at = refused_part p e 34 at
  limit_of_type value good (x ∷ []) at = limit_named value good (judge.name_alone e x) (out-Expr x).pos
  limit_of_type value good (x ∷ y ∷ xs) at = refused_part p e 34 at

  -- Functions of one argument and of two.

  of_one : (f : Option TypeId → Step) → IsStep p f → TestsOne f → (at : Pos) (js : List (Judged Answer)) → Parts js → (xs : List Expr) → IsFine (judge.one_of f at js xs)
  of_one f right tests at [] parts xs = refused_part p e 34 at
  of_one f right tests at (j ∷ []) parts [] = refused_part p e 34 at
  of_one f right tests at (j ∷ []) parts (x ∷ []) =
      holds_bind (Part p e) (Valued p e) j (λ a. judge.one_argument at (out-Expr x).pos (f a.known.of) a) parts.0
      (λ a h. argument_part p e f right tests at (out-Expr x).pos a h)
  of_one f right tests at (j ∷ []) parts (x ∷ y ∷ xs) = refused_part p e 34 at
  of_one f right tests at (j ∷ k ∷ js) parts xs = refused_part p e 34 at

  of_two : (at : Pos) (js : List (Judged Answer)) → Parts js → (xs : List Expr) → IsFine (judge.two_of at js xs)
  of_two at [] parts xs = refused_part p e 34 at
  of_two at (j ∷ []) parts xs = refused_part p e 34 at
  of_two at (j ∷ k ∷ []) parts [] = refused_part p e 34 at
  of_two at (j ∷ k ∷ []) parts (x ∷ []) = refused_part p e 34 at
  of_two at (j ∷ k ∷ []) parts (x ∷ y ∷ []) =
      holds_bind (Part p e) (Valued p e) j (λ a. bind k (λ b. judge.two_arguments at (out-Expr x).pos (out-Expr y).pos a b)) parts.0
      (λ a g. holds_bind (Part p e) (Valued p e) k (λ b. judge.two_arguments at (out-Expr x).pos (out-Expr y).pos a b) parts.1.0
      (λ b h. arguments_part p e at (out-Expr x).pos (out-Expr y).pos a b g h))
  of_two at (j ∷ k ∷ []) parts (x ∷ y ∷ z ∷ xs) = refused_part p e 34 at
  of_two at (j ∷ k ∷ l ∷ js) parts xs = refused_part p e 34 at

  -- LEN of an array, and of one of its dimensions
  length_of : (at : Pos) (js : List (Judged Answer)) → Parts js → (xs : List Expr) → IsFine (judge.len_of e at js xs)
  length_of at [] parts xs = refused_value_part p e 34 at
  length_of at (j ∷ []) parts [] = refused_value_part p e 34 at
  length_of at (j ∷ []) parts (x ∷ []) =
      holds_bind (Part p e) (Valued p e) j (λ a. judge.len_alone e (out-Expr x).pos a) parts.0 (λ a g. len_alone_part p e (out-Expr x).pos a g)
  length_of at (j ∷ []) parts (x ∷ y ∷ xs) = refused_value_part p e 34 at
  length_of at (j ∷ k ∷ []) parts [] = refused_value_part p e 34 at
  length_of at (j ∷ k ∷ []) parts (x ∷ []) = refused_value_part p e 34 at
  length_of at (j ∷ k ∷ []) parts (x ∷ y ∷ []) =
      holds_bind (Part p e) (Valued p e) j (λ a. bind k (λ d. judge.len_in e (out-Expr x).pos (out-Expr y).pos a d)) parts.0
      (λ a g. holds_bind (Part p e) (Valued p e) k (λ d. judge.len_in e (out-Expr x).pos (out-Expr y).pos a d) parts.1.0
      (λ d h. len_in_part p e (out-Expr x).pos (out-Expr y).pos a d g h))
  length_of at (j ∷ k ∷ []) parts (x ∷ y ∷ z ∷ xs) = refused_value_part p e 34 at
  length_of at (j ∷ k ∷ l ∷ js) parts xs = refused_value_part p e 34 at

  -- what can't be called
  module _ (good : GoodConstants e) where
    value_called : (h : Head) → MayFind p e h.found → (at : Pos) (xs : List Expr) → Holds (Denoted p e) (bind (desig.named e h) (λ a. desig.guarded e h.first at a (judge.guard_type e xs)))
    value_called h may at xs =
        holds_bind (Denoted p e) (Denoted p e) (desig.named e h) (λ a. desig.guarded e h.first at a (judge.guard_type e xs)) (named_entity p e good h may)
        (λ a x. guarded_part p e h.first at a x (judge.guard_type e xs))

    not_called_of : (l : Lookup) (place : Name) (first : Pos) → MayFind p e l → (at : Pos) (xs : List Expr) → Holds (Denoted p e) (judge.not_called e (record { found = l; name = place; first = first }) at xs)
    not_called_of NoName place first may at xs = value_called (record { found = NoName; name = place; first = first }) may at xs
    not_called_of NotExported place first may at xs = value_called (record { found = NotExported; name = place; first = first }) may at xs
    not_called_of (Found x) place first may at xs = by x.at x.mark x.means may
      where
        head : Open → Option Export → Meaning → Head
        head o mark m = record { found = Found (record { at = o; mark = mark; means = m }); name = place; first = first }

        by : (o : Open) (mark : Option Export) (m : Meaning) → MayFind p e (head o mark m).found → Holds (Denoted p e) (judge.not_called e (head o mark m) at xs)
        by o mark (means.Type None) may = denoted p e first (desig.refused 99 first) (refused_part p e 99 first)
        by o mark (means.Type (Some t)) may = denoted p e first (desig.refused 36 first) (refused_part p e 36 first)
        by o mark m may = value_called (head o mark m) may at xs

    not_called_part : (h : Head) → MayFind p e h.found → (at : Pos) (xs : List Expr) → Holds (Denoted p e) (judge.not_called e h at xs)
    not_called_part h may at xs = not_called_of h.found h.name h.first may at xs

    function_part : (f : Function) (first : Pos) (js : List (Judged Answer)) → Parts js → (xs : List Expr) → IsFine (judge.function_called e f first js xs)
    function_part function.Max first js parts xs = limit_of_type op.greatest_value greatest_good xs first
    function_part function.Len first js parts xs = length_of first js parts xs
    function_part function.Min first js parts xs = limit_of_type op.least_value least_good xs first
    function_part function.Ash first js parts xs = of_two first js parts xs
    function_part function.Abs first js parts xs = of_one (op.applied function.Abs) (applied_step p function.Abs) (applied_tests function.Abs tt) first js parts xs
    function_part function.Odd first js parts xs = of_one (op.applied function.Odd) (applied_step p function.Odd) (applied_tests function.Odd tt) first js parts xs
    function_part function.Cap first js parts xs = of_one (op.applied function.Cap) (applied_step p function.Cap) (applied_tests function.Cap tt) first js parts xs
    function_part function.Ord first js parts xs = of_one (op.applied function.Ord) (applied_step p function.Ord) (applied_tests function.Ord tt) first js parts xs
    function_part function.Chr first js parts xs = of_one (op.applied function.Chr) (applied_step p function.Chr) (applied_tests function.Chr tt) first js parts xs
    function_part function.Long first js parts xs = of_one (op.applied function.Long) (applied_step p function.Long) (applied_tests function.Long tt) first js parts xs
    function_part function.Short first js parts xs = of_one (op.applied function.Short) (applied_step p function.Short) (applied_tests function.Short tt) first js parts xs

    called : (c : Callee) → IsRightCallee c → (h : Head) → MayFind p e h.found → (at : Pos) (js : List (Judged Answer)) → Parts js → (xs : List Expr) → length js ≡ length xs →
        Holds (Denoted p e) (judge.called_by e c h at js xs)
    called (Calls f) right h may at js parts xs many = denoted p e h.first (judge.function_called e f h.first js xs) (function_part f h.first js parts xs)
    called (Invokes m k) right h may at js parts xs many =
        denoted p e h.first (judge.invoked e h.first (Plain m k) (heading.Declared m k) js xs) (invoked_part p e h.first (Plain m k) (heading.Declared m k) right js parts xs many)
    called (Converts t) right h may at js parts xs many =
        denoted p e h.first (judge.one_of (judge.step_in (taking.Into t)) h.first js xs) (of_one (op.converted t) (converted_step p t right) (converted_tests t) h.first js parts xs)
    called Neither right h may at js parts xs many = not_called_part h may at xs

    pub called_part : (h : Head) → MayFind p e h.found → (at : Pos) (js : List (Judged Answer)) → Parts js → (xs : List Expr) → length js ≡ length xs → Holds (Denoted p e) (judge.called e h at js xs)
    called_part h may at js parts xs many = called (judge.callee h.found) (callee_right h.found may) h may at js parts xs many
