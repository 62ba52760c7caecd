-- Operators whose operands are sound: where they break no rule, what they give is sound.
use Rattle.std.proofs.Common.{◌≡◌, ◌<◌, ◌≤◌, Bool, true, false, not, ◌&&◌, ◌||◌, ◌⊎◌, inl, inr, nat_lt, length, Option, Some, None, if◌then◌else◌, refl, sym, ap, ◌∙◌, subst, ltb-true, ltb-false, arith}
use Rattle.std.proofs.lemmas.Bool.{and_parts}
use Rattle.std.proofs.lemmas.Int.{ints}
use Rattle.aos_base.specs.declared.number.Width.{Width}
use Rattle.aos_base.specs.declared.number.Width.TheVariants.{W8, W16, W32, W64}
use Rattle.aos_base.specs.declared.number.Relation.{Relation}
use Rattle.aos_base.specs.declared.number.Relation.TheVariants as rel
use Rattle.aos_base.specs.declared.operator.Binary.{Binary as BinaryOperator}
use Rattle.aos_base.specs.declared.operator.Binary.TheVariants as two
use Rattle.aos_tree.specs.declared.expr.RelationOp.{RelationOp}
use Rattle.aos_tree.specs.declared.expr.RelationOp.TheVariants as relation
use Rattle.aos_tree.specs.declared.expr.AddOp.{AddOp}
use Rattle.aos_tree.specs.declared.expr.AddOp.TheVariants as add
use Rattle.aos_tree.specs.declared.expr.MulOp.{MulOp}
use Rattle.aos_tree.specs.declared.expr.MulOp.TheVariants as mul
use Rattle.aos_tree.specs.declared.expr.Sign.{Sign}
use Rattle.aos_tree.specs.declared.expr.Sign.TheVariants as sign
use Rattle.aos_types.specs.declared.row.TypeId.{TypeId}
use Rattle.aos_typed.specs.declared.tree.Literal.{Literal}
use Rattle.aos_typed.specs.declared.tree.Literal.TheVariants as literal
use Rattle.aos_typed.specs.declared.tree.TType.{TType}
use Rattle.aos_typed.specs.declared.tree.TType.TheVariants as type
use Rattle.aos_typed.specs.Numbers.{id_of}
use Rattle.aos_typed.specs.Open.{open_dimensions, open_element}
use Rattle.aos_typed.specs.Program.{Place, Of, Rows, Expr, Lit, Read, Binary}
use Rattle.aos_typed.specs.WellTyped.{HaveLengths, Includes, FitsObject, FitsProcedure, IsLiteral, HasRange, is_ordered, is_reference as is_reference_type, is_basic as is_basic_type, is_compared}
use Rattle.aos_symbols.specs.declared.scope.Function.{Function}
use Rattle.aos_symbols.specs.declared.scope.Function.TheVariants as function
use Rattle.aos_symbols.specs.Env.{shortint, integer, longint, hugeint, boolean, char, set, nil, text}
use Rattle.aos_types.specs.Table.{row_of, is_open, is_procedure}
use Rattle.aos_known.proofs.Inside.{Inside, IsPlaceOf, AreRows, AreVariables, IsOf, IsNamed}
use Rattle.aos_known.specs.declared.known.Class.{Class}
use Rattle.aos_known.specs.declared.known.Class.TheVariants.{Unknown, Constant, Variable, ReadOnly, Computed, Procedure}
use Rattle.aos_operators.specs.declared.operations.Joint.TheVariants as joint
use Rattle.aos_operators.specs.declared.operations.Step.{Step}
use Rattle.aos_operators.specs.declared.operations.Operation.{Operation}
use Rattle.aos_known.specs.Known.{Answer, is_nil, is_lost, is_basic, is_integer, is, is_number, is_boolean, is_char, is_set, larger, width_of_type, width_of, least_of, greatest_of, type_of_literal, type_as, answered}
use Rattle.aos_operators.specs.Operations as op
pub use Rattle.aos_known.proofs.Types.{not_both}
use Rattle.aos_known.proofs.Types.{most_includes, includes_itself, integer_itself, as_basic, wider, same_type, integer_cases, basic_cases, integer_basic, as_integer, order_includes}
use Rattle.aos_operators.proofs.Stored.{IsMade, made_of_one, made_of}
use Rattle.aos_operators.proofs.Good.{IsGood, IsKnownClass, literal_kind, single_good, joint_good, class_of_one_known, class_of_known}
use Rattle.aos_operators.specs.Forms.{is_test}

both_true : (a b : Bool) → (a && b) ≡ true → (a ≡ true) × (b ≡ true)
both_true a b e = and_parts a b e

either_true : (a b : Bool) → (a || b) ≡ true → (a ≡ true) ⊎ (b ≡ true)
either_true true b e = inl refl
either_true false b e = inr e

-- the integers of a width are of its type
range_of : (w : Width) → HasRange (type.Integer w) (least_of w) (greatest_of w)
range_of W8 = omega (arith, ints)
range_of W16 = omega (arith, ints)
range_of W32 = omega (arith, ints)
range_of W64 = omega (arith, ints)

-- Operators take operands of basic types alone.

abbrev AreBasic : TypeId → TypeId → Type 0
AreBasic t u = (is_basic t ≡ true) × (is_basic u ≡ true)

basic_same : (s t : TypeId) → is_basic s ≡ true → is s t ≡ true → is_basic t ≡ true
basic_same s t b k = subst (λ u. is_basic u ≡ true) (same_type s t k) b

abbrev pub TestsOne : (Option TypeId → Step) → Type 0
TestsOne f = (t : TypeId) → (f (Some t)).is_kept ≡ true → is_basic t ≡ true

abbrev pub TestsTwo : (Option TypeId → Option TypeId → Operation) → Type 0
TestsTwo f = (t u : TypeId) → (f (Some t) (Some u)).is_kept ≡ true → AreBasic t u

number_or_set : (t : TypeId) → (is_integer t ≡ true) ⊎ (is set t ≡ true) → is_basic t ≡ true
number_or_set t (inl k) = integer_basic t k
number_or_set t (inr k) = basic_same set t refl k

pub signed_tests : (g : Sign) → TestsOne (op.signed g)
signed_tests sign.Plus t k = integer_basic t k
signed_tests sign.Minus t k = number_or_set t (either_true (is_integer t) (is set t) k)

pub opposite_tests : TestsOne op.opposite
opposite_tests t k = basic_same boolean t refl k

pub converted_tests : (u : TypeId) → TestsOne (op.converted u)
converted_tests u t k = integer_basic t k

-- each function but those whose argument isn't one value
abbrev pub IsOfOne : Function → Type 0
IsOfOne function.Ash = ⊥
IsOfOne function.Max = ⊥
IsOfOne function.Min = ⊥
IsOfOne function.Len = ⊥
IsOfOne f = Unit {0}

pub applied_tests : (f : Function) → IsOfOne f → TestsOne (op.applied f)
applied_tests function.Abs one t k = integer_basic t k
applied_tests function.Odd one t k = integer_basic t k
applied_tests function.Cap one t k = basic_same char t refl k
applied_tests function.Ord one t k = basic_same char t refl k
applied_tests function.Chr one t k = integer_basic t k
applied_tests function.Long one t k = integer_basic t (both_true (is_integer t) _ k).0
applied_tests function.Short one t k = integer_basic t (both_true (is_integer t) _ k).0
applied_tests function.Ash one t k = absurd one
applied_tests function.Max one t k = absurd one
applied_tests function.Min one t k = absurd one
applied_tests function.Len one t k = absurd one

numbers_basic : (t u : TypeId) → op.are_numbers (Some t) (Some u) ≡ true → AreBasic t u
numbers_basic t u k = let i = both_true (is_integer t) (is_integer u) k in (integer_basic t i.0, integer_basic u i.1)

same_basic : (s : TypeId) → is_basic s ≡ true → (t u : TypeId) → (is s t && is s u) ≡ true → AreBasic t u
same_basic s b t u k = let i = both_true (is s t) (is s u) k in (basic_same s t b i.0, basic_same s u b i.1)

either_basic : (a b : Bool) (t u : TypeId) → (a ≡ true → AreBasic t u) → (b ≡ true → AreBasic t u) → (a || b) ≡ true → AreBasic t u
either_basic a b t u f g k = by (either_true a b k)
  where
    by : (a ≡ true) ⊎ (b ≡ true) → AreBasic t u
    by (inl e) = f e
    by (inr e) = g e

sums_basic : (t u : TypeId) → (op.are_numbers (Some t) (Some u) || op.are_sets (Some t) (Some u)) ≡ true → AreBasic t u
sums_basic t u k = either_basic (op.are_numbers (Some t) (Some u)) (op.are_sets (Some t) (Some u)) t u (numbers_basic t u) (same_basic set refl t u) k

ordered_basic : (t u : TypeId) → (op.are_numbers (Some t) (Some u) || op.are_chars (Some t) (Some u)) ≡ true → AreBasic t u
ordered_basic t u k = either_basic (op.are_numbers (Some t) (Some u)) (op.are_chars (Some t) (Some u)) t u (numbers_basic t u) (same_basic char refl t u) k

compared_basic : (t u : TypeId) → ((op.are_numbers (Some t) (Some u) || op.are_chars (Some t) (Some u)) || (op.are_booleans (Some t) (Some u) || op.are_sets (Some t) (Some u))) ≡ true → AreBasic t u
compared_basic t u k =
    either_basic (op.are_numbers (Some t) (Some u) || op.are_chars (Some t) (Some u)) (op.are_booleans (Some t) (Some u) || op.are_sets (Some t) (Some u)) t u (ordered_basic t u)
    (λ l. either_basic (op.are_booleans (Some t) (Some u)) (op.are_sets (Some t) (Some u)) t u (same_basic boolean refl t u) (same_basic set refl t u) l) k

pub added_tests : (o : AddOp) → TestsTwo (op.added o)
added_tests add.Plus t u k = sums_basic t u k
added_tests add.Minus t u k = sums_basic t u k
added_tests add.Or t u k = same_basic boolean refl t u k

pub multiplied_tests : (o : MulOp) → TestsTwo (op.multiplied o)
multiplied_tests mul.Times t u k = sums_basic t u k
multiplied_tests mul.Divide t u k = same_basic set refl t u k
multiplied_tests mul.Div t u k = numbers_basic t u k
multiplied_tests mul.Mod t u k = numbers_basic t u k
multiplied_tests mul.And t u k = same_basic boolean refl t u k

pub related_tests : (o : RelationOp) → is_test o ≡ false → TestsTwo (op.related o)
related_tests relation.Equal n t u k = compared_basic t u k
related_tests relation.NotEqual n t u k = compared_basic t u k
related_tests relation.Less n t u k = ordered_basic t u k
related_tests relation.LessEqual n t u k = ordered_basic t u k
related_tests relation.Greater n t u k = ordered_basic t u k
related_tests relation.GreaterEqual n t u k = ordered_basic t u k
related_tests relation.In n t u k = let i = both_true (is_integer t) (is set u) k in (integer_basic t i.0, basic_same set u refl i.1)
related_tests relation.Is n t u k = absurd (cc)

pub shifted_tests : TestsTwo op.shifted
shifted_tests t u k = numbers_basic t u k

module _ (p : Inside) where
  -- a value of a basic type
  abbrev pub IsScalar : TypeId → Expr → Type 0
  IsScalar t x = (is_basic t ≡ true) × IsOf p x (type_as t)

  -- a whole variable, and an open array, which has its rows
  abbrev pub IsClosedPlace : TypeId → Place → Type 0
  IsClosedPlace t place =
      IsPlaceOf p place (type_as t) × (id_of (type_as t) ≡ t) × (is_open (row_of p.program.types t) ≡ false) × (row_of p.program.types t ≡ None → ⊥)

  abbrev pub IsOpenPlace : TypeId → Place → Type 0
  IsOpenPlace t place =
      (r : Rows) × (place ≡ Of r) × (is_open (row_of p.program.types t) ≡ true)
      × AreRows p r (open_dimensions p.program.types t) (type_as (open_element p.program.types t)) × HaveLengths r × AreVariables p r

  abbrev pub IsWholeRead : TypeId → Expr → Type 0
  IsWholeRead t x = (is_basic t ≡ false) × (place : Place) × (x ≡ Read (type_as t) place) × (IsClosedPlace t place ⊎ IsOpenPlace t place)

  -- an object, or NIL, which is of each type that its own type fits
  abbrev pub TakesObject : TType → TypeId → Type 0
  TakesObject u t = (is_reference_type p.program.types u ≡ true) × ((t ≡ nil) ⊎ FitsObject p.program.types u (type_as t))

  abbrev pub IsObject : TypeId → Expr → Type 0
  IsObject t x = (is_basic t ≡ false) × (is_reference_type p.program.types (type_as t) ≡ true) × ((u : TType) → TakesObject u t → IsOf p x u)

  -- a value of a procedure type, which is of each type that has the same formals, and a procedure that is named, which has the number
  -- behind those of all types
  abbrev pub IsCallable : TypeId → Expr → Type 0
  IsCallable t x = (is_procedure (row_of p.program.types t) ≡ true) × ((u : TType) → FitsProcedure p.program u (type_as t) → IsOf p x u)

  abbrev pub IsNamedAs : TypeId → Expr → Type 0
  IsNamedAs t x = (t.0 ≡ length p.program.types) × IsNamed p x

  abbrev pub IsRoutine : TypeId → Expr → Type 0
  IsRoutine t x = (is_basic t ≡ false) × (IsCallable t x ⊎ IsNamedAs t x)

  -- a string constant that is no character, an object, or a procedure
  abbrev pub IsOther : TypeId → Expr → Type 0
  IsOther t x = (t ≡ text) ⊎ (IsObject t x ⊎ IsRoutine t x)

  -- an expression whose type is known, and which is of it; NIL alone is of its type
  pub record IsSound (a : Answer) : Type 0 where
    pub of : TypeId
    pub known : a.known.of ≡ Some of
    pub none : of ≡ nil → is_nil a.known.class ≡ true
    pub typed : IsScalar of a.typed ⊎ (IsWholeRead of a.typed ⊎ IsOther of a.typed)

  -- one that is no variable
  pub record IsPlain (a : Answer) : Type 0 where
    pub of : TypeId
    pub known : a.known.of ≡ Some of
    pub none : of ≡ nil → is_nil a.known.class ≡ true
    pub typed : IsScalar of a.typed ⊎ IsOther of a.typed

  -- a basic type isn't that of NIL
  pub basic_some : {A : Type 0} (t : TypeId) → is_basic t ≡ true → t ≡ nil → A
  basic_some t low is = absurd (not_both (sym low ∙ ap is_basic is))

  pub plain_sound : (a : Answer) → IsPlain a → IsSound a
  plain_sound a x = record { of = x.of; known = x.known; none = x.none; typed = by x.typed }
    where
      by : IsScalar x.of a.typed ⊎ IsOther x.of a.typed → IsScalar x.of a.typed ⊎ (IsWholeRead x.of a.typed ⊎ IsOther x.of a.typed)
      by (inl s) = inl s
      by (inr t) = inr (inr t)

  -- whose type is a basic one is a value of it
  pub scalar_of : (t : TypeId) (x : Expr) → IsScalar t x ⊎ (IsWholeRead t x ⊎ IsOther t x) → is_basic t ≡ true → IsOf p x (type_as t)
  scalar_of t x (inl s) b = s.1
  scalar_of t x (inr (inl w)) b = absurd (not_both (sym b ∙ w.0))
  scalar_of t x (inr (inr (inl e))) b = absurd (not_both (sym b ∙ ap is_basic e))
  scalar_of t x (inr (inr (inr (inl o)))) b = absurd (not_both (sym b ∙ o.0))
  scalar_of t x (inr (inr (inr (inr r)))) b = absurd (not_both (sym b ∙ r.0))

  -- a good literal is of the type of its value
  pub literal_typed : (v : Literal) → IsGood v → IsScalar (type_of_literal v) (Lit v) ⊎ IsOther (type_of_literal v) (Lit v)
  literal_typed v g = by (literal_kind v g)
    where
      nothing : IsObject nil (Lit literal.Nil)
      nothing = (refl, refl, λ u takes. inr (inl (refl, takes.0)))

      by : ((is_basic (type_of_literal v) ≡ true) × IsLiteral v (type_as (type_of_literal v))) ⊎ ((type_of_literal v ≡ text) ⊎ (v ≡ literal.Nil)) →
          IsScalar (type_of_literal v) (Lit v) ⊎ IsOther (type_of_literal v) (Lit v)
      by (inl s) = inl (s.0, inl s.1)
      by (inr (inl t)) = inr (inl t)
      by (inr (inr e)) = subst (λ v. IsScalar (type_of_literal v) (Lit v) ⊎ IsOther (type_of_literal v) (Lit v)) (sym e) (inr (inr (inl nothing)))

  pub literal_none : (v : Literal) → IsGood v → type_of_literal v ≡ nil → is_nil (Constant (Some v)) ≡ true
  literal_none v g is = by (literal_kind v g)
    where
      by : ((is_basic (type_of_literal v) ≡ true) × IsLiteral v (type_as (type_of_literal v))) ⊎ ((type_of_literal v ≡ text) ⊎ (v ≡ literal.Nil)) → is_nil (Constant (Some v)) ≡ true
      by (inl s) = basic_some (type_of_literal v) s.0 is
      by (inr (inl t)) = let n : 9 ≡ 7 = ap (λ (u : TypeId). u.0) (sym t ∙ is) in absurd (omega (arith, n))
      by (inr (inr e)) = ap (λ v. is_nil (Constant (Some v))) e

  -- Operands, by the types that they are tested to have.

  as_number : (t : TypeId) (x : Expr) → IsOf p x (type_as t) → is_integer t ≡ true → IsOf p x (type.Integer W64)
  as_number t x h k = wider p x (type_as t) (type.Integer W64) h (subst (λ u. Includes (type.Integer W64) u) (sym (as_integer t k)) (most_includes (width_of_type t)))

  as_width : (t : TypeId) (x : Expr) → IsOf p x (type_as t) → is_integer t ≡ true → IsOf p x (type.Integer (width_of_type t))
  as_width t x h k = subst (IsOf p x) (as_integer t k) h

  of_width : (t : TypeId) (x : Expr) → IsOf p x (type.Integer (width_of_type t)) → is_integer t ≡ true → IsOf p x (type_as t)
  of_width t x h k = subst (IsOf p x) (sym (as_integer t k)) h

  same_as : (u t : TypeId) (x : Expr) → IsOf p x (type_as t) → is u t ≡ true → IsOf p x (type_as u)
  same_as u t x h k = subst (λ t. IsOf p x (type_as t)) (sym (same_type u t k)) h

  as_boolean : (t : TypeId) (x : Expr) → IsOf p x (type_as t) → is_boolean (Some t) ≡ true → IsOf p x type.Boolean
  as_boolean t x h k = same_as boolean t x h k

  as_char : (t : TypeId) (x : Expr) → IsOf p x (type_as t) → is_char (Some t) ≡ true → IsOf p x type.Char
  as_char t x h k = same_as char t x h k

  as_set : (t : TypeId) (x : Expr) → IsOf p x (type_as t) → is_set (Some t) ≡ true → IsOf p x type.Set
  as_set t x h k = same_as set t x h k

  -- Steps: what is done to one operand.

  -- a step that takes its operand gives what is of its type
  abbrev Gives : Step → Expr → Type 0
  Gives s x = s.is_kept ≡ true → (t : TypeId) × (s.of ≡ Some t) × (is_basic t ≡ true) × IsOf p (op.single_typed s.single x) (type_as t)

  -- so does a step that is chosen by the type of its operand
  abbrev pub IsStep : (Option TypeId → Step) → Type 0
  IsStep f = (t : TypeId) (x : Expr) → is_basic t ≡ true → IsOf p x (type_as t) → Gives (f (Some t)) x

  negated : (t : TypeId) (x : Expr) → is_basic t ≡ true → IsOf p x (type_as t) → Gives (op.signed sign.Minus (Some t)) x
  negated t x b = basic_cases (λ t. IsOf p x (type_as t) → Gives (op.signed sign.Minus (Some t)) x) numbers (λ h k. absurd (cc)) (λ h k. absurd (cc)) (λ h k. (set, refl, refl, (h, refl))) t b
    where
      numbers : (t : TypeId) → is_integer t ≡ true → IsOf p x (type_as t) → Gives (op.signed sign.Minus (Some t)) x
      numbers =
          integer_cases (λ t. IsOf p x (type_as t) → Gives (op.signed sign.Minus (Some t)) x)
          (λ h k. (shortint, refl, refl, (h, refl))) (λ h k. (integer, refl, refl, (h, refl))) (λ h k. (longint, refl, refl, (h, refl))) (λ h k. (hugeint, refl, refl, (h, refl)))

  pub signed_step : (g : Sign) → IsStep (op.signed g)
  signed_step sign.Plus t x b h k = (t, refl, b, h)
  signed_step sign.Minus t x b h k = negated t x b h k

  pub opposite_step : IsStep op.opposite
  opposite_step t x b h k = (boolean, refl, refl, (as_boolean t x h k, refl))

  pub element_step : IsStep op.one_element
  element_step t x b h k = (set, refl, refl, (as_number t x h k, refl))

  -- a number that is moved into an integer type
  into_type : (u : TypeId) (x : Expr) → is_integer u ≡ true → IsOf p x (type.Integer W64) → IsOf p (op.single_typed (op.into (Some u)) x) (type_as u)
  into_type u x i h = integer_cases (λ t. IsOf p (op.single_typed (op.into (Some t)) x) (type_as t)) (h, range_of W8) (h, range_of W16) (h, range_of W32) h u i

  pub converted_step : (u : TypeId) → is_integer u ≡ true → IsStep (op.converted u)
  converted_step u i t x b h k = (u, refl, integer_basic u i, into_type u x i (as_number t x h k))

  long_step : (t : TypeId) → is_integer t ≡ true → (x : Expr) → IsOf p x (type_as t) → Gives (op.applied function.Long (Some t)) x
  long_step =
      integer_cases (λ t. (x : Expr) → IsOf p x (type_as t) → Gives (op.applied function.Long (Some t)) x)
      (λ x h k. (integer, refl, refl, wider p x (type.Integer W8) (type.Integer W16) h refl)) (λ x h k. (longint, refl, refl, wider p x (type.Integer W16) (type.Integer W32) h refl))
      (λ x h k. (hugeint, refl, refl, wider p x (type.Integer W32) (type.Integer W64) h refl)) (λ x h k. absurd (cc))

  short_step : (t : TypeId) → is_integer t ≡ true → (x : Expr) → IsOf p x (type.Integer W64) → Gives (op.applied function.Short (Some t)) x
  short_step =
      integer_cases (λ t. (x : Expr) → IsOf p x (type.Integer W64) → Gives (op.applied function.Short (Some t)) x)
      (λ x h k. absurd (cc)) (λ x h k. (shortint, refl, refl, into_type shortint x refl h))
      (λ x h k. (integer, refl, refl, into_type integer x refl h)) (λ x h k. (longint, refl, refl, into_type longint x refl h))

  abs_step : IsStep (op.applied function.Abs)
  abs_step t x b h k = (t, refl, b, (as_width t x h k, subst (λ u. Includes u (type.Integer (width_of_type t))) (sym (as_integer t k)) (integer_itself (width_of_type t))))

  pub applied_step : (f : Function) → IsStep (op.applied f)
  applied_step function.Abs t x b h k = abs_step t x b h k
  applied_step function.Odd t x b h k = (boolean, refl, refl, (as_number t x h k, refl))
  applied_step function.Cap t x b h k = (char, refl, refl, (as_char t x h k, refl))
  applied_step function.Ord t x b h k = (integer, refl, refl, (as_char t x h k, refl))
  applied_step function.Chr t x b h k = (char, refl, refl, (as_number t x h k, refl))
  applied_step function.Long t x b h k = long_step t (both_true _ _ k).0 x h k
  applied_step function.Short t x b h k = let i = (both_true (is_integer t) _ k).0 in short_step t i x (as_number t x h i) k
  applied_step function.Ash t x b h k = (t, refl, b, h)
  applied_step function.Max t x b h k = (t, refl, b, h)
  applied_step function.Min t x b h k = (t, refl, b, h)
  applied_step function.Len t x b h k = (t, refl, b, h)

  -- Operations: what is done to two operands.

  -- an operation that takes its operands gives what is of its type
  abbrev Yields : Operation → Expr → Expr → Type 0
  Yields o x y = o.is_kept ≡ true → (t : TypeId) × (o.of ≡ Some t) × (is_basic t ≡ true) × IsOf p (op.joint_typed o.joint x y) (type_as t)

  abbrev pub IsOperation : (Option TypeId → Option TypeId → Operation) → Type 0
  IsOperation f = (t u : TypeId) (x y : Expr) → is_basic t ≡ true → is_basic u ≡ true → IsOf p x (type_as t) → IsOf p y (type_as u) → Yields (f (Some t) (Some u)) x y

  -- the larger of two integer types has the values of both
  abbrev IsLarger : TypeId → TypeId → TypeId → Type 0
  IsLarger t u r = (larger (Some t) (Some u) ≡ Some r) × (is_integer r ≡ true) × Includes (type_as r) (type_as t) × Includes (type_as r) (type_as u)

  larger_type : (t u : TypeId) → is_integer t ≡ true → is_integer u ≡ true → (r : TypeId) × IsLarger t u r
  larger_type t u i j = by (nat_lt t.0 u.0) refl
    where
      by : (b : Bool) → nat_lt t.0 u.0 ≡ b → (r : TypeId) × (((if b then Some u else Some t) ≡ Some r) × (is_integer r ≡ true) × Includes (type_as r) (type_as t) × Includes (type_as r) (type_as u))
      by true e = let less : t.0 < u.0 = ltb-true t.0 u.0 e in (u, (refl, j, order_includes t u i j (omega arith), includes_itself (type_as u) (as_basic u (integer_basic u j))))
      by false e = let le : u.0 ≤ t.0 = ltb-false t.0 u.0 e in (t, (refl, i, includes_itself (type_as t) (as_basic t (integer_basic t i)), order_includes u t j i le))

  -- an operator on numbers of one width, and one on sets
  abbrev IsArithmetic : (Width → BinaryOperator) → Type 0
  IsArithmetic on_width = (w : Width) (x y : Expr) → IsOf p x (type.Integer w) → IsOf p y (type.Integer w) → IsOf p (Binary (on_width w) x y) (type.Integer w)

  abbrev IsOnSets : BinaryOperator → Type 0
  IsOnSets on_sets = (x y : Expr) → IsOf p x type.Set → IsOf p y type.Set → IsOf p (Binary on_sets x y) type.Set

  numbers_joined : (on_width : Width → BinaryOperator) → IsArithmetic on_width → (t u r : TypeId) (x y : Expr) → IsLarger t u r → IsOf p x (type_as t) → IsOf p y (type_as u) →
      IsOf p (Binary (on_width (width_of_type r)) x y) (type_as r)
  numbers_joined on_width right t u r x y l h k =
      of_width r (Binary (on_width (width_of_type r)) x y)
      (right (width_of_type r) x y (as_width r x (wider p x (type_as t) (type_as r) h l.2) l.1) (as_width r y (wider p y (type_as u) (type_as r) k l.3) l.1))
      l.1

  -- an operator on numbers alone
  number_operation : (on_width : Width → BinaryOperator) → IsArithmetic on_width →
      IsOperation (λ a b. op.operation (op.are_numbers a b) (larger a b) (joint.On (on_width (width_of (larger a b)))))
  number_operation on_width right t u x y b c h k kept =
      let i = both_true (is_integer t) (is_integer u) kept in
      let l = larger_type t u i.0 i.1 in (
        l.0,
        l.1.0,
        integer_basic l.0 l.1.1,
        subst (λ a. IsOf p (Binary (on_width (width_of a)) x y) (type_as l.0)) (sym l.1.0) (numbers_joined on_width right t u l.0 x y l.1 h k),
      )

  -- and one on numbers or sets
  abbrev IsSum : (Width → BinaryOperator) → BinaryOperator → Expr → Expr → TypeId → TypeId → Type 0
  IsSum on_width on_sets x y t u =
      (r : TypeId) × (larger (Some t) (Some u) ≡ Some r) × (is_basic r ≡ true)
      × IsOf p (Binary (if op.is_the_set (larger (Some t) (Some u)) then on_sets else on_width (width_of (larger (Some t) (Some u)))) x y) (type_as r)

  sum_operation : (on_width : Width → BinaryOperator) (on_sets : BinaryOperator) → IsArithmetic on_width → IsOnSets on_sets →
      IsOperation (λ a b. op.operation (op.are_numbers a b || op.are_sets a b) (larger a b) (op.on_both on_width on_sets (larger a b)))
  sum_operation on_width on_sets right sets t u x y b c h k kept = by (either_true (op.are_numbers (Some t) (Some u)) (op.are_sets (Some t) (Some u)) kept)
    where
      not_set : (r : TypeId) → is_integer r ≡ true → is set r ≡ false
      not_set = integer_cases (λ r. is set r ≡ false) refl refl refl refl

      of_numbers : (l : (r : TypeId) × IsLarger t u r) → IsSum on_width on_sets x y t u
      of_numbers l = (
        l.0,
        l.1.0,
        integer_basic l.0 l.1.1,
        subst (λ a. IsOf p (Binary (if op.is_the_set a then on_sets else on_width (width_of a)) x y) (type_as l.0)) (sym l.1.0)
            (subst (λ w. IsOf p (Binary (if w then on_sets else on_width (width_of_type l.0)) x y) (type_as l.0)) (sym (not_set l.0 l.1.1)) (numbers_joined on_width right t u l.0 x y l.1 h k)),
      )

      of_sets : is_set (Some t) ≡ true → is_set (Some u) ≡ true → IsSum on_width on_sets x y t u
      of_sets i j =
          subst (λ t. IsSum on_width on_sets x y t u) (same_type set t i)
          (subst (λ u. IsSum on_width on_sets x y set u) (same_type set u j) (set, refl, refl, sets x y (as_set t x h i) (as_set u y k j)))

      by : (op.are_numbers (Some t) (Some u) ≡ true) ⊎ (op.are_sets (Some t) (Some u) ≡ true) → IsSum on_width on_sets x y t u
      by (inl e) = let i = both_true (is_integer t) (is_integer u) e in of_numbers (larger_type t u i.0 i.1)
      by (inr e) = let i = both_true (is_set (Some t)) (is_set (Some u)) e in of_sets i.0 i.1

  pub added_operation : (o : AddOp) → IsOperation (op.added o)
  added_operation add.Plus = sum_operation (λ w. two.Add w) two.Union (λ w x y h k. ((h, k), integer_itself w)) (λ x y h k. ((h, k), refl))
  added_operation add.Minus = sum_operation (λ w. two.Sub w) two.Minus (λ w x y h k. ((h, k), integer_itself w)) (λ x y h k. ((h, k), refl))
  added_operation add.Or = λ t u x y b c h k kept. let i = both_true (is_boolean (Some t)) (is_boolean (Some u)) kept in (boolean, refl, refl, (as_boolean t x h i.0, as_boolean u y k i.1, refl))

  -- of two sets the larger type is that of sets
  larger_set : (t u : TypeId) → is_set (Some t) ≡ true → is_set (Some u) ≡ true → larger (Some t) (Some u) ≡ Some set
  larger_set t u i j = subst (λ t. larger (Some t) (Some u) ≡ Some set) (same_type set t i) (subst (λ u. larger (Some set) (Some u) ≡ Some set) (same_type set u j) refl)

  pub multiplied_operation : (o : MulOp) → IsOperation (op.multiplied o)
  multiplied_operation mul.Times = sum_operation (λ w. two.Mul w) two.Meet (λ w x y h k. ((h, k), integer_itself w)) (λ x y h k. ((h, k), refl))
  multiplied_operation mul.Divide = λ t u x y b c h k kept. let i = both_true (is_set (Some t)) (is_set (Some u)) kept in (set, larger_set t u i.0 i.1, refl, ((as_set t x h i.0, as_set u y k i.1), refl))
  multiplied_operation mul.Div = number_operation (λ w. two.Div w) (λ w x y h k. ((h, k), integer_itself w))
  multiplied_operation mul.Mod = number_operation (λ w. two.Mod w) (λ w x y h k. ((h, k), integer_itself w))
  multiplied_operation mul.And = λ t u x y b c h k kept. let i = both_true (is_boolean (Some t)) (is_boolean (Some u)) kept in (boolean, refl, refl, (as_boolean t x h i.0, as_boolean u y k i.1, refl))

  -- Relations.

  abbrev AreCompared : Relation → Expr → Expr → Type 0
  AreCompared r x y = (t : TType) × (is_compared r t ≡ true) × IsOf p x t × IsOf p y t

  numbers_compared : (r : Relation) → is_compared r (type.Integer W64) ≡ true → (t u : TypeId) (x y : Expr) → IsOf p x (type_as t) → IsOf p y (type_as u) →
      op.are_numbers (Some t) (Some u) ≡ true → AreCompared r x y
  numbers_compared r c t u x y h k e = let i = both_true (is_integer t) (is_integer u) e in (type.Integer W64, c, as_number t x h i.0, as_number u y k i.1)

  -- operands of one type that isn't a number's
  same_compared : (r : Relation) (s : TypeId) → is_compared r (type_as s) ≡ true → (t u : TypeId) (x y : Expr) → IsOf p x (type_as t) → IsOf p y (type_as u) →
      (is s t && is s u) ≡ true → AreCompared r x y
  same_compared r s c t u x y h k e = let i = both_true (is s t) (is s u) e in (type_as s, c, same_as s t x h i.0, same_as s u y k i.1)

  ordered_operands : (r : Relation) → ((t : TType) → is_ordered t ≡ true → is_compared r t ≡ true) → (t u : TypeId) (x y : Expr) → IsOf p x (type_as t) → IsOf p y (type_as u) →
      (op.are_numbers (Some t) (Some u) || op.are_chars (Some t) (Some u)) ≡ true → AreCompared r x y
  ordered_operands r each t u x y h k kept = by (either_true (op.are_numbers (Some t) (Some u)) (op.are_chars (Some t) (Some u)) kept)
    where
      by : (op.are_numbers (Some t) (Some u) ≡ true) ⊎ (op.are_chars (Some t) (Some u) ≡ true) → AreCompared r x y
      by (inl e) = numbers_compared r (each (type.Integer W64) refl) t u x y h k e
      by (inr e) = same_compared r char (each type.Char refl) t u x y h k e

  ordered_operation : (r : Relation) → ((t : TType) → is_ordered t ≡ true → is_compared r t ≡ true) → IsOperation (op.ordered r)
  ordered_operation r each t u x y b c h k kept = (boolean, refl, refl, (ordered_operands r each t u x y h k kept, refl))

  compared_operation : (r : Relation) → ((t : TType) → is_basic_type t ≡ true → is_compared r t ≡ true) → IsOperation (op.compared r)
  compared_operation r each t u x y b c h k kept =
      (boolean, refl, refl, (by (either_true (op.are_numbers (Some t) (Some u) || op.are_chars (Some t) (Some u)) (op.are_booleans (Some t) (Some u) || op.are_sets (Some t) (Some u)) kept), refl))
    where
      ordered_basic : (t : TType) → is_ordered t ≡ true → is_basic_type t ≡ true
      ordered_basic (type.Integer w) e = refl
      ordered_basic type.Boolean e = refl
      ordered_basic type.Char e = refl
      ordered_basic type.Set e = refl
      ordered_basic type.Any e = e
      ordered_basic (type.Named o) e = e

      by_others : (op.are_booleans (Some t) (Some u) ≡ true) ⊎ (op.are_sets (Some t) (Some u) ≡ true) → AreCompared r x y
      by_others (inl e) = same_compared r boolean (each type.Boolean refl) t u x y h k e
      by_others (inr e) = same_compared r set (each type.Set refl) t u x y h k e

      by :
          ((op.are_numbers (Some t) (Some u) || op.are_chars (Some t) (Some u)) ≡ true) ⊎ ((op.are_booleans (Some t) (Some u) || op.are_sets (Some t) (Some u)) ≡ true) → AreCompared r x y
      by (inl e) = ordered_operands r (λ t i. each t (ordered_basic t i)) t u x y h k e
      by (inr e) = by_others (either_true (op.are_booleans (Some t) (Some u)) (op.are_sets (Some t) (Some u)) e)

  -- each but a type test
  pub related_operation : (o : RelationOp) → is_test o ≡ false → IsOperation (op.related o)
  related_operation relation.Equal n = compared_operation rel.Equal (λ t i. i)
  related_operation relation.NotEqual n = compared_operation rel.NotEqual (λ t i. i)
  related_operation relation.Less n = ordered_operation rel.Less (λ t i. i)
  related_operation relation.LessEqual n = ordered_operation rel.LessEqual (λ t i. i)
  related_operation relation.Greater n = ordered_operation rel.Greater (λ t i. i)
  related_operation relation.GreaterEqual n = ordered_operation rel.GreaterEqual (λ t i. i)
  related_operation relation.In n = λ t u x y b c h k kept. let i = both_true (is_integer t) (is_set (Some u)) kept in (boolean, refl, refl, ((as_number t x h i.0, as_set u y k i.1), refl))
  related_operation relation.Is n = absurd (cc)

  pub shifted_operation : IsOperation op.shifted
  shifted_operation t u x y b c h k kept =
      let i = both_true (is_integer t) (is_integer u) kept in
      let y' = as_number u y k i.1 in
      integer_cases (λ t. IsOf p x (type_as t) → (r : TypeId) × (op.shifted_type (Some t) ≡ Some r) × (is_basic r ≡ true) × IsOf p (Binary (two.Ash (width_of (op.shifted_type (Some t)))) x y) (type_as r))
      (λ h. (longint, refl, refl, ((wider p x (type.Integer W8) (type.Integer W32) h refl, y'), refl))) (λ h. (longint, refl, refl, ((wider p x (type.Integer W16) (type.Integer W32) h refl, y'), refl)))
      (λ h. (longint, refl, refl, ((h, y'), refl))) (λ h. (hugeint, refl, refl, ((h, y'), refl)))
      t i.0 h

  -- Parts.

  -- one that is no constant without a value
  abbrev IsValued : Answer → Type 0
  IsValued a = not (is_lost a.known.class) ≡ true

  pub answered_plain : (c : Class) (t : TypeId) (x : Expr) → IsValued (answered c (Some t) x) → IsKnownClass IsGood c → IsMade c → is_basic t ≡ true → IsOf p x (type_as t) →
      IsPlain (answered c (Some t) x)
  answered_plain (Constant (Some v)) t x l g m b h = record { of = type_of_literal v; known = refl; none = literal_none v g; typed = literal_typed v g }
  answered_plain (Constant None) t x l g m b h = absurd (not_both (sym l))
  answered_plain Unknown t x l g m b h = absurd g
  answered_plain Variable t x l g m b h = absurd m
  answered_plain ReadOnly t x l g m b h = absurd m
  answered_plain Computed t x l g m b h = record { of = t; known = refl; none = basic_some t b; typed = inl (b, h) }
  answered_plain (Procedure k n) t x l g m b h = absurd m

  -- a value that is tested to be of a type
  pub sound_number : (a : Answer) → IsSound a → is_number a.known.of ≡ true → IsOf p a.typed (type.Integer W64)
  sound_number a x k =
      let i : is_integer x.of ≡ true = sym (ap is_number x.known) ∙ k in
      as_number x.of a.typed (scalar_of x.of a.typed x.typed (integer_basic x.of i)) i

  pub sound_char : (a : Answer) → IsSound a → is_char a.known.of ≡ true → IsOf p a.typed type.Char
  sound_char a x k =
      let i : is_char (Some x.of) ≡ true = sym (ap is_char x.known) ∙ k in
      as_char x.of a.typed (scalar_of x.of a.typed x.typed (basic_same char x.of refl i)) i

  pub sound_boolean : (a : Answer) → IsSound a → is_boolean a.known.of ≡ true → IsOf p a.typed type.Boolean
  sound_boolean a x k =
      let i : is_boolean (Some x.of) ≡ true = sym (ap is_boolean x.known) ∙ k in
      as_boolean x.of a.typed (scalar_of x.of a.typed x.typed (basic_same boolean x.of refl i)) i

  kept_plain : (kept : Bool) (c : Class) (of : Option TypeId) (t : TypeId) (x : Expr) → kept ≡ true → IsKnownClass IsGood c → IsMade c → of ≡ Some t → is_basic t ≡ true → IsOf p x (type_as t) →
      IsValued (answered (op.kept_class kept c) (op.kept_type kept of) x) → IsPlain (answered (op.kept_class kept c) (op.kept_type kept of) x)
  kept_plain true c of t x k g m is b h l = (subst (λ o. IsValued (answered c o x) → IsPlain (answered c o x)) (sym is) (λ l. answered_plain c t x l g m b h)) l
  kept_plain false c of t x k g m is b h l = absurd (cc)

  pub stepped_plain : (f : Option TypeId → Step) → IsStep f → TestsOne f → (a : Answer) → IsSound a → IsKnownClass IsGood a.known.class → (f a.known.of).is_kept ≡ true →
      IsValued (op.stepped (f a.known.of) a) → IsPlain (op.stepped (f a.known.of) a)
  stepped_plain f right tests a x g k = subst (λ of. (f of).is_kept ≡ true → IsValued (op.stepped (f of) a) → IsPlain (op.stepped (f of) a)) (sym x.known) at k
    where
      at : (f (Some x.of)).is_kept ≡ true → IsValued (op.stepped (f (Some x.of)) a) → IsPlain (op.stepped (f (Some x.of)) a)
      at k =
          let s = f (Some x.of) in
          let b = tests x.of k in
          let r = right x.of a.typed b (scalar_of x.of a.typed x.typed b) k in
          kept_plain s.is_kept (op.class_of_one s.single a.known.class) s.of r.0 (op.single_typed s.single a.typed) k (class_of_one_known IsGood s.single (single_good s.single) a.known.class g) (made_of_one s.single a.known.class) r.1 r.2 r.3

  pub joined_plain : (f : Option TypeId → Option TypeId → Operation) → IsOperation f → TestsTwo f → (a b : Answer) → IsSound a → IsSound b → IsKnownClass IsGood a.known.class →
      IsKnownClass IsGood b.known.class → (f a.known.of b.known.of).is_kept ≡ true → IsValued (op.joined (f a.known.of b.known.of) a b) → IsPlain (op.joined (f a.known.of b.known.of) a b)
  joined_plain f right tests a b x y g h k =
      subst (λ of. (f of b.known.of).is_kept ≡ true → IsValued (op.joined (f of b.known.of) a b) → IsPlain (op.joined (f of b.known.of) a b)) (sym x.known)
      (subst (λ of. (f (Some x.of) of).is_kept ≡ true → IsValued (op.joined (f (Some x.of) of) a b) → IsPlain (op.joined (f (Some x.of) of) a b)) (sym y.known) at) k
    where
      at : (f (Some x.of) (Some y.of)).is_kept ≡ true → IsValued (op.joined (f (Some x.of) (Some y.of)) a b) → IsPlain (op.joined (f (Some x.of) (Some y.of)) a b)
      at k =
          let o = f (Some x.of) (Some y.of) in
          let t = tests x.of y.of k in
          let r = right x.of y.of a.typed b.typed t.0 t.1 (scalar_of x.of a.typed x.typed t.0) (scalar_of y.of b.typed y.typed t.1) k in
          kept_plain o.is_kept (op.class_of o.joint a.known.class b.known.class) o.of r.0 (op.joint_typed o.joint a.typed b.typed) k
          (class_of_known IsGood o.joint (joint_good o.joint) a.known.class b.known.class g h) (made_of o.joint a.known.class b.known.class) r.1 r.2 r.3
