-- The values of functions, by their arguments: predeclared ones of one and of two, MAX and MIN of a type, and those that are declared.
use Rattle.std.specs.Prelude.{List, ◌++◌, Bool, true, false, not, Option, Some, None, if◌then◌else◌}
use Rattle.aos_base.specs.declared.text.Pos.{Pos}
use Rattle.aos_types.specs.declared.row.TypeId.{TypeId}
use Rattle.aos_typed.specs.declared.tree.Literal.{Literal}
use Rattle.aos_typed.specs.Program.{Callee as TypedCallee, Expr as Typed, Function as Invoked}
use Rattle.aos_symbols.specs.declared.scope.Meaning.{Meaning}
use Rattle.aos_symbols.specs.declared.scope.Meaning.TheVariants as means
use Rattle.aos_symbols.specs.declared.env.Env.{Env}
use Rattle.aos_symbols.specs.declared.breach.Breach.{Breach}
use Rattle.aos_symbols.specs.Breaches.{breach_unless}
use Rattle.aos_symbols.specs.Judged.{Judged, judged, kept}
use Rattle.aos_known.specs.declared.known.Class.{Class}
use Rattle.aos_known.specs.declared.known.Class.TheVariants.{Variable, Computed}
use Rattle.aos_operators.specs.declared.operations.Step.{Step}
use Rattle.aos_known.specs.Known.{Answer, passes, is_number, constant_answer, answered, nothing, refused}
use Rattle.aos_operators.specs.Operations as op
use Rattle.aos_known.specs.Kinds as kinds
use Rattle.aos_arguments.specs.declared.functions.Limit.{Limit}
use Rattle.aos_arguments.specs.declared.functions.Limit.TheVariants as which
use Rattle.aos_arguments.specs.declared.functions.Taking.{Taking}
use Rattle.aos_arguments.specs.declared.functions.Taking.TheVariants as taking
use Rattle.aos_arguments.specs.Arguments.{Given, Handing, listed}

-- MAX and MIN of a type.

abbrev pub limit_in : Limit → TypeId → Option Literal
limit_in which.Greatest = op.greatest_value
limit_in which.Least = op.least_value

abbrev pub limit_value : Option Literal → Pos → Judged Answer
limit_value None at = refused 35 at
limit_value (Some v) at = kept (constant_answer v)

abbrev pub limit_of : (TypeId → Option Literal) → Meaning → Pos → Pos → Judged Answer
limit_of value (means.Type None) at first = refused 99 at
limit_of value (means.Type (Some t)) at first = limit_value (value t) first
limit_of value m at first = refused 16 at

-- a function's value, of an argument that stands here
abbrev pub one_argument : Pos → Pos → Step → Answer → Judged Answer
one_argument at first s a = op.told at (op.argument s.is_kept first) (op.stepped s a)

abbrev pub two_arguments : Pos → Pos → Pos → Answer → Answer → Judged Answer
two_arguments at first second a b =
    op.told at (op.argument (is_number a.known.of) first ++ op.argument (is_number b.known.of) second)
    (op.joined (op.shifted a.known.of b.known.of) a b)

-- The value of a function that is declared, whose result is a scalar.

-- in the condition of an AWAIT nothing is called: a call breaks a rule there, and stands for nothing
abbrev pub function_typed : (is_condition : Bool) → TypedCallee → List Given → Typed
function_typed is_condition c given = if is_condition then nothing else Invoked c (listed given)

-- the result of a function is no constant, and may be anything else where a rule of the call is broken
abbrev pub function_class : Bool → Class
function_class true = Computed
function_class false = Variable

-- the result of a function with these arguments, which has no type where a rule of the call is broken
abbrev pub function_answer : (is_condition : Bool) → TypedCallee → Option TypeId → Handing → Answer
function_answer is_condition c of h =
    answered (function_class h.are_kept) (op.kept_type h.are_kept of) (function_typed is_condition c h.given)

-- a result that isn't of a basic type and no object isn't built
abbrev pub function_breaches : Env → (first : Pos) → Option TypeId → List Breach
function_breaches e first of = breach_unless (passes (kinds.is_value e) of) 99 first ++ breach_unless (not e.is_condition) 44 first

abbrev pub function_told : Env → (first : Pos) → TypedCallee → Option TypeId → Handing → Judged Answer
function_told e first c of h = judged (function_breaches e first of) (function_answer e.is_condition c of h)

-- what has one argument does this to one of a type
abbrev pub step_in : Taking → Option TypeId → Step
step_in (taking.By f) of = op.applied f of
step_in (taking.Into t) of = op.converted t of
