-- Forms of expressions that ask nothing of the place where they stand, by the answers of their parts (Oberon-2 report, section 8).
use Rattle.std.specs.Prelude.{ℕ, ℤ, [], Bool, true, false, Option, Some, None}
use Rattle.aos_base.specs.declared.text.Pos.{Pos}
use Rattle.aos_tree.specs.declared.expr.RelationOp.{RelationOp}
use Rattle.aos_tree.specs.declared.expr.RelationOp.TheVariants as relation_op
use Rattle.aos_tree.specs.declared.expr.Sign.{Sign}
use Rattle.aos_tree.specs.declared.expr.AddOp.{AddOp}
use Rattle.aos_tree.specs.declared.expr.MulOp.{MulOp}
use Rattle.aos_typed.specs.declared.tree.Literal.TheVariants as literal
use Rattle.aos_typed.specs.declared.tree.TextConstant.{TextConstant}
use Rattle.aos_symbols.specs.Breaches.{breach_unless}
use Rattle.aos_symbols.specs.Judged.{Judged, judged, kept}
use Rattle.aos_known.specs.Known.{Answer, constant_answer, refused}
use Rattle.aos_operators.specs.Operations as op

-- Forms without parts.

abbrev pub not_yet : Pos → Judged Answer
not_yet at = refused 99 at

-- a number, which the scanner has found to be one of 64 bits
abbrev pub number : Option ℤ → Pos → Judged Answer
number None at = not_yet at
number (Some n) at = kept (constant_answer (literal.Int n))

-- a character by its code
abbrev pub character : Option ℕ → Pos → Judged Answer
character None at = not_yet at
character (Some c) at = kept (constant_answer (literal.Char c))

-- a string constant, which the parser has found to be one of its text's
abbrev pub string : Option TextConstant → Pos → Judged Answer
string None at = not_yet at
string (Some t) at = kept (constant_answer (literal.Text t))

-- The tables at a place.

abbrev pub added : Pos → Pos → AddOp → Answer → Answer → Judged Answer
added first at o a b = op.operands first at (op.added o a.known.of b.known.of) a b

abbrev pub multiplied : Pos → Pos → MulOp → Answer → Answer → Judged Answer
multiplied first at o a b = op.operands first at (op.multiplied o a.known.of b.known.of) a b

-- a type test, whose right operand is the name of a type
abbrev pub is_test : RelationOp → Bool
is_test relation_op.Is = true
is_test o = false

abbrev pub signed : Option Sign → Pos → Answer → Judged Answer
signed None at a = kept a
signed (Some g) at a = op.operand at at (op.signed g a.known.of) a

abbrev pub opposite : Pos → Answer → Judged Answer
opposite at a = op.operand at at (op.opposite a.known.of) a

-- the elements of a set so far, and one more; a constant set is computed as a whole
abbrev pub with_element : Pos → Answer → Answer → Judged Answer
with_element at a x =
    let s = op.one_element x.known.of in
    judged (breach_unless s.is_kept 30 at) (op.joined op.union a (op.stepped s x))

abbrev pub with_span : Pos → Answer → Answer → Answer → Judged Answer
with_span at a x y =
    let o = op.span x.known.of y.known.of in
    judged (breach_unless o.is_kept 30 at) (op.joined op.union a (op.joined o x y))

abbrev pub whole_set : Pos → Answer → Judged Answer
whole_set at a = op.told at [] a

-- an expression in parentheses, of which the first stands here
abbrev pub enclosed : Pos → Answer → Judged Answer
enclosed at a = op.told at [] a
