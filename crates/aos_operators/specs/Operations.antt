-- The operators and predeclared functions on values (Oberon-2 report, 8.2 and 10.3; Reali 2002): which types they take, of
-- which type their result is, and what they are in the typed program. Constants are computed by the same operators, on 64 bits.
use Rattle.std.specs.Prelude.{◌^◌, ℤ, pos, List, ◌++◌, Bool, true, false, not, ◌&&◌, ◌||◌, Option, Some, None, if◌then◌else◌}
use Rattle.std.specs.Option.{option_map}
use Rattle.std.specs.Ordering.{int_eq}
use Rattle.aos_base.specs.declared.text.Pos.{Pos}
use Rattle.aos_base.specs.declared.number.Width.{Width}
use Rattle.aos_base.specs.declared.number.Width.TheVariants.{W64}
use Rattle.aos_base.specs.declared.number.Relation.{Relation}
use Rattle.aos_base.specs.declared.number.Relation.TheVariants as rel
use Rattle.aos_base.specs.declared.operator.Unary.{Unary as UnaryOperator}
use Rattle.aos_base.specs.declared.operator.Unary.TheVariants as one
use Rattle.aos_base.specs.declared.operator.Binary.{Binary as BinaryOperator}
use Rattle.aos_base.specs.declared.operator.Binary.TheVariants as two
use Rattle.aos_base.specs.declared.operator.Given.{Given}
use Rattle.aos_base.specs.declared.operator.Given.TheVariants.{Number, Trap, Undefined}
use Rattle.aos_base.specs.Operators.{natural, unary as unary_of, binary as binary_of}
use Rattle.aos_tree.specs.declared.expr.RelationOp.{RelationOp}
use Rattle.aos_tree.specs.declared.expr.RelationOp.TheVariants as relation
use Rattle.aos_tree.specs.declared.expr.AddOp.{AddOp}
use Rattle.aos_tree.specs.declared.expr.AddOp.TheVariants as add
use Rattle.aos_tree.specs.declared.expr.MulOp.{MulOp}
use Rattle.aos_tree.specs.declared.expr.MulOp.TheVariants as mul
use Rattle.aos_tree.specs.declared.expr.Sign.{Sign}
use Rattle.aos_tree.specs.declared.expr.Sign.TheVariants as sign
use Rattle.aos_types.specs.declared.row.TypeId.{TypeId}
use Rattle.aos_typed.specs.declared.tree.Literal.{Literal}
use Rattle.aos_typed.specs.declared.tree.Literal.TheVariants as literal
use Rattle.aos_typed.specs.Program.{Expr, Unary, Binary, And, Or, Same, SameProcedure, Element, Ord, Chr}
use Rattle.aos_typed.specs.Value.{Sort, Integer, Boolean, Character, Elements, unary_sort, binary_sort, number_of, literal_value}
use Rattle.aos_symbols.specs.declared.breach.Breach.{Breach}
use Rattle.aos_symbols.specs.declared.scope.Function.{Function}
use Rattle.aos_symbols.specs.declared.scope.Function.TheVariants as function
use Rattle.aos_symbols.specs.Breaches.{breach_unless}
use Rattle.aos_symbols.specs.Judged.{Judged, judged}
use Rattle.aos_symbols.specs.Env.{shortint, integer, longint, hugeint, boolean, char, set}
use Rattle.aos_known.specs.declared.known.Class.{Class}
use Rattle.aos_known.specs.declared.known.Class.TheVariants.{Unknown, Constant, Variable, ReadOnly, Computed, Procedure}
use Rattle.aos_operators.specs.declared.operations.Single.{Single}
use Rattle.aos_operators.specs.declared.operations.Single.TheVariants as single
use Rattle.aos_operators.specs.declared.operations.Joint.{Joint}
use Rattle.aos_operators.specs.declared.operations.Joint.TheVariants as joint
use Rattle.aos_operators.specs.declared.operations.Step.{Step}
use Rattle.aos_operators.specs.declared.operations.Operation.{Operation}
use Rattle.aos_known.specs.Known.{Answer, is_integer, width_of_type, is_number, is_boolean, is_char, is_set, is, larger, width_of, next, previous, least_of, greatest_of, lost, answered, constant_answer}

-- Constants.

-- the number that a literal's value is given as
abbrev pub number : Literal → ℤ
number l = number_of (literal_value l)

abbrev pub is_true : Literal → Bool
is_true l = not (int_eq (number l) (pos 0))

-- the literal of a sort whose value is given as this number
abbrev pub literal_as : Sort → ℤ → Option Literal
literal_as Integer z = Some (literal.Int z)
literal_as Boolean z = Some (literal.Bool (not (int_eq z (pos 0))))
literal_as Character z = option_map (λ c. literal.Char c) (natural 256 z)
literal_as Elements z = option_map (λ s. literal.Set s) (natural (2 ^ 32) z)

-- what an operator gives, if it gives a value
abbrev pub literal_given : Sort → Given → Option Literal
literal_given s (Number z) = literal_as s z
literal_given s (Trap n) = None
literal_given s Undefined = None

-- an operator on constants has 64 bits
abbrev pub widened_one : UnaryOperator → UnaryOperator
widened_one (one.Neg w) = one.Neg W64
widened_one (one.Abs w) = one.Abs W64
widened_one one.Not = one.Not
widened_one one.Odd = one.Odd
widened_one one.Cap = one.Cap
widened_one one.Compl = one.Compl
widened_one (one.Range low high) = one.Range low high

abbrev pub widened : BinaryOperator → BinaryOperator
widened (two.Add w) = two.Add W64
widened (two.Sub w) = two.Sub W64
widened (two.Mul w) = two.Mul W64
widened (two.Div w) = two.Div W64
widened (two.Mod w) = two.Mod W64
widened (two.Ash w) = two.Ash W64
widened (two.Cmp r) = two.Cmp r
widened two.Union = two.Union
widened two.Minus = two.Minus
widened two.Meet = two.Meet
widened two.Xor = two.Xor
widened two.SetSpan = two.SetSpan
widened two.In = two.In

abbrev pub computed_one : UnaryOperator → Literal → Option Literal
computed_one op a = literal_given (unary_sort op) (unary_of (widened_one op) (number a))

abbrev pub computed : BinaryOperator → Literal → Literal → Option Literal
computed op a b = literal_given (binary_sort op) (binary_of (widened op) (number a) (number b))

-- What is done to one operand, and to two.

-- the codes of characters
abbrev pub codes_alone : UnaryOperator
codes_alone = one.Range (pos 0) (pos 255)

abbrev pub single_value : Single → Literal → Option Literal
single_value (single.On op) a = computed_one op a
single_value single.Ord a = Some (literal.Int (number a))
single_value single.Chr a = literal_given Character (unary_of codes_alone (number a))
single_value single.Element a = computed two.SetSpan a a
single_value single.Same a = Some a

abbrev pub single_typed : Single → Expr → Expr
single_typed (single.On op) e = Unary op e
single_typed single.Ord e = Ord e
single_typed single.Chr e = Chr e
single_typed single.Element e = Element e
single_typed single.Same e = e

abbrev pub joint_value : Joint → Literal → Literal → Option Literal
joint_value (joint.On op) a b = computed op a b
joint_value joint.And a b = Some (literal.Bool (is_true a && is_true b))
joint_value joint.Or a b = Some (literal.Bool (is_true a || is_true b))
joint_value joint.Same a b = Some (literal.Bool true)  -- NIL is the one constant that is an object's, or none's
joint_value joint.Differ a b = Some (literal.Bool false)
joint_value joint.SameProcedure a b = Some (literal.Bool true)
joint_value joint.OtherProcedure a b = Some (literal.Bool false)

abbrev pub joint_typed : Joint → Expr → Expr → Expr
joint_typed (joint.On op) e f = Binary op e f
joint_typed joint.And e f = And e f
joint_typed joint.Or e f = Or e f
joint_typed joint.Same e f = Same e f
joint_typed joint.Differ e f = Unary one.Not (Same e f)
joint_typed joint.SameProcedure e f = SameProcedure e f
joint_typed joint.OtherProcedure e f = Unary one.Not (SameProcedure e f)

-- what is made of constants is constant, and of what is none computed, whatever else it is made of
abbrev pub class_of_one : Single → Class → Class
class_of_one s (Constant (Some a)) = Constant (single_value s a)
class_of_one s (Constant None) = Constant None
class_of_one s Unknown = Unknown
class_of_one s Variable = Computed
class_of_one s ReadOnly = Computed
class_of_one s Computed = Computed
class_of_one s (Procedure m n) = Computed

-- of two constants, of which the first has a value
abbrev pub class_with : Joint → Literal → Class → Class
class_with j a (Constant (Some b)) = Constant (joint_value j a b)
class_with j a (Constant None) = Constant None
class_with j a Unknown = Unknown
class_with j a Variable = Computed
class_with j a ReadOnly = Computed
class_with j a Computed = Computed
class_with j a (Procedure m n) = Computed

-- of a second operand, where the first has no value or may be anything
abbrev pub class_behind : Class → Class → Class
class_behind of_constant Unknown = Unknown
class_behind of_constant (Constant v) = of_constant
class_behind of_constant Variable = Computed
class_behind of_constant ReadOnly = Computed
class_behind of_constant Computed = Computed
class_behind of_constant (Procedure m n) = Computed

abbrev pub class_of : Joint → Class → Class → Class
class_of j (Constant (Some a)) c = class_with j a c
class_of j (Constant None) c = class_behind (Constant None) c
class_of j Unknown c = class_behind Unknown c
class_of j Variable c = Computed
class_of j ReadOnly c = Computed
class_of j Computed c = Computed
class_of j (Procedure m n) c = Computed

-- what isn't taken is no constant where a part of it is none
abbrev pub broken_class : Class → Class
broken_class Unknown = Unknown
broken_class (Constant v) = Unknown
broken_class Variable = Computed
broken_class ReadOnly = Computed
broken_class Computed = Computed
broken_class (Procedure m n) = Computed

-- what a step makes of its operand, where it takes it
abbrev pub kept_class : Bool → Class → Class
kept_class true c = c
kept_class false c = broken_class c

abbrev pub kept_type : Bool → Option TypeId → Option TypeId
kept_type true of = of
kept_type false of = None

abbrev pub stepped : Step → Answer → Answer
stepped s a =
    answered (kept_class s.is_kept (class_of_one s.single a.known.class)) (kept_type s.is_kept s.of) (single_typed s.single a.typed)

abbrev pub joined : Operation → Answer → Answer → Answer
joined o a b =
    answered (kept_class o.is_kept (class_of o.joint a.known.class b.known.class)) (kept_type o.is_kept o.of) (joint_typed o.joint a.typed b.typed)

-- with the breaches of its own, and refused at its first token where it is a constant that has no value
abbrev pub told : Pos → List Breach → Answer → Judged Answer
told first own a = judged (own ++ lost a.known.class first) a

-- an operator that stands here and doesn't take its operands is refused
abbrev pub operand : Pos → Pos → Step → Answer → Judged Answer
operand first at s a = told first (breach_unless s.is_kept 30 at) (stepped s a)

abbrev pub operands : Pos → Pos → Operation → Answer → Answer → Judged Answer
operands first at o a b = told first (breach_unless o.is_kept 30 at) (joined o a b)

-- The operators.

abbrev pub step : Bool → Option TypeId → Single → Step
step takes of s = record { is_kept = takes; of = of; single = s }

abbrev pub operation : Bool → Option TypeId → Joint → Operation
operation takes of j = record { is_kept = takes; of = of; joint = j }

abbrev pub is_the_set : Option TypeId → Bool
is_the_set None = false
is_the_set (Some t) = is set t

abbrev pub are_numbers : Option TypeId → Option TypeId → Bool
are_numbers a b = is_number a && is_number b

abbrev pub are_booleans : Option TypeId → Option TypeId → Bool
are_booleans a b = is_boolean a && is_boolean b

abbrev pub are_chars : Option TypeId → Option TypeId → Bool
are_chars a b = is_char a && is_char b

abbrev pub are_sets : Option TypeId → Option TypeId → Bool
are_sets a b = is_set a && is_set b

-- on numbers, by the width of the larger type, or on sets
abbrev pub on_both : (Width → BinaryOperator) → BinaryOperator → Option TypeId → Joint
on_both on_width on_sets of = joint.On (if is_the_set of then on_sets else on_width (width_of of))

abbrev pub added : AddOp → Option TypeId → Option TypeId → Operation
added add.Plus a b = operation (are_numbers a b || are_sets a b) (larger a b) (on_both (λ w. two.Add w) two.Union (larger a b))
added add.Minus a b = operation (are_numbers a b || are_sets a b) (larger a b) (on_both (λ w. two.Sub w) two.Minus (larger a b))
added add.Or a b = operation (are_booleans a b) (Some boolean) joint.Or

abbrev pub multiplied : MulOp → Option TypeId → Option TypeId → Operation
multiplied mul.Times a b = operation (are_numbers a b || are_sets a b) (larger a b) (on_both (λ w. two.Mul w) two.Meet (larger a b))
multiplied mul.Divide a b = operation (are_sets a b) (larger a b) (joint.On two.Xor)
multiplied mul.Div a b = operation (are_numbers a b) (larger a b) (joint.On (two.Div (width_of (larger a b))))
multiplied mul.Mod a b = operation (are_numbers a b) (larger a b) (joint.On (two.Mod (width_of (larger a b))))
multiplied mul.And a b = operation (are_booleans a b) (Some boolean) joint.And

-- numbers and characters have an order; truth values and sets are the same or differ
abbrev pub ordered : Relation → Option TypeId → Option TypeId → Operation
ordered r a b = operation (are_numbers a b || are_chars a b) (Some boolean) (joint.On (two.Cmp r))

abbrev pub compared : Relation → Option TypeId → Option TypeId → Operation
compared r a b =
    operation ((are_numbers a b || are_chars a b) || (are_booleans a b || are_sets a b)) (Some boolean) (joint.On (two.Cmp r))

-- a type test has no operation: this one is never looked at
abbrev pub related : RelationOp → Option TypeId → Option TypeId → Operation
related relation.Equal a b = compared rel.Equal a b
related relation.NotEqual a b = compared rel.NotEqual a b
related relation.Less a b = ordered rel.Less a b
related relation.LessEqual a b = ordered rel.LessEqual a b
related relation.Greater a b = ordered rel.Greater a b
related relation.GreaterEqual a b = ordered rel.GreaterEqual a b
related relation.In a b = operation (is_number a && is_set b) (Some boolean) (joint.On two.In)
related relation.Is a b = operation true (Some boolean) joint.And

-- whether two operands are one object, or both NIL
abbrev pub identified : Relation → (takes : Bool) → Operation
identified rel.NotEqual takes = operation takes (Some boolean) joint.Differ
identified r takes = operation takes (Some boolean) joint.Same

-- whether two operands stand for one procedure, and for methods of one object, or are both NIL
abbrev pub matched : Relation → (takes : Bool) → Operation
matched rel.NotEqual takes = operation takes (Some boolean) joint.OtherProcedure
matched r takes = operation takes (Some boolean) joint.SameProcedure

abbrev pub signed : Sign → Option TypeId → Step
signed sign.Plus a = step (is_number a) a single.Same
signed sign.Minus a = step (is_number a || is_set a) a (single.On (if is_the_set a then one.Compl else one.Neg (width_of a)))

abbrev pub opposite : Option TypeId → Step
opposite a = step (is_boolean a) (Some boolean) (single.On one.Not)

-- The predeclared functions, and conversions.

abbrev pub is_not : TypeId → Option TypeId → Bool
is_not t None = true
is_not t (Some u) = not (is t u)

-- into the integers of a width, where the value is in it; each is in the widest
abbrev pub into_width : Width → Single
into_width W64 = single.Same
into_width w = single.On (one.Range (least_of w) (greatest_of w))

-- into an integer type
abbrev pub into : Option TypeId → Single
into of = into_width (width_of of)

-- those of one value; ASH has two, MAX and MIN have a type, and LEN an array
abbrev pub applied : Function → Option TypeId → Step
applied function.Abs a = step (is_number a) a (single.On (one.Abs (width_of a)))
applied function.Odd a = step (is_number a) (Some boolean) (single.On one.Odd)
applied function.Cap a = step (is_char a) (Some char) (single.On one.Cap)
applied function.Ord a = step (is_char a) (Some integer) single.Ord
applied function.Chr a = step (is_number a) (Some char) single.Chr
applied function.Long a = step (is_number a && is_not hugeint a) (next a) single.Same
applied function.Short a = step (is_number a && is_not shortint a) (previous a) (into (previous a))
applied function.Ash a = step true a single.Same
applied function.Max a = step true a single.Same
applied function.Min a = step true a single.Same
applied function.Len a = step true a single.Same

abbrev pub converted : TypeId → Option TypeId → Step
converted t a = step (is_number a) (Some t) (into (Some t))

-- LONGINT, or HUGEINT where the first argument is; none that is known where the argument's isn't
abbrev pub shifted_type : Option TypeId → Option TypeId
shifted_type None = None
shifted_type (Some t) = Some (if is hugeint t then hugeint else longint)

abbrev pub shifted : Option TypeId → Option TypeId → Operation
shifted a b = operation (are_numbers a b) (shifted_type a) (joint.On (two.Ash (width_of (shifted_type a))))

-- an argument of another type is refused at its first token
abbrev pub argument : Bool → Pos → List Breach
argument takes at = breach_unless takes 35 at

-- the greatest and the least value of a type that has an order, and of the elements of a set
abbrev pub greatest_value : TypeId → Option Literal
greatest_value t =
    if is_integer t then Some (literal.Int (greatest_of (width_of_type t)))
    else if is char t then Some (literal.Char 255)
    else if is set t then Some (literal.Int (pos 31))
    else None

abbrev pub least_value : TypeId → Option Literal
least_value t =
    if is_integer t then Some (literal.Int (least_of (width_of_type t)))
    else if is char t then Some (literal.Char 0)
    else if is set t then Some (literal.Int (pos 0))
    else None

-- Sets.

-- `{a}` and `{a..b}`, which trap where an element isn't 0 to 31
abbrev pub one_element : Option TypeId → Step
one_element a = step (is_number a) (Some set) single.Element

abbrev pub span : Option TypeId → Option TypeId → Operation
span a b = operation (are_numbers a b) (Some set) (joint.On two.SetSpan)

abbrev pub union : Operation
union = operation true (Some set) (joint.On two.Union)

abbrev pub no_elements : Answer
no_elements = constant_answer (literal.Set 0)
