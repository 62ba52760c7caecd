-- Relations and type tests, by what is known of the operands: those of texts, of objects, and of procedure values.
use Rattle.std.specs.Prelude.{pos, [], Bool, true, false, ◌&&◌, ◌||◌, Option, Some, None, if◌then◌else◌}
use Rattle.aos_base.specs.declared.text.Pos.{Pos}
use Rattle.aos_base.specs.declared.number.Relation.{Relation}
use Rattle.aos_base.specs.declared.number.Relation.TheVariants as rel
use Rattle.aos_base.specs.Number.{holds}
use Rattle.aos_base.specs.Text.{order}
use Rattle.aos_tree.specs.declared.name.Qualident.{Qualident}
use Rattle.aos_tree.specs.declared.expr.RelationOp.{RelationOp}
use Rattle.aos_tree.specs.declared.expr.RelationOp.TheVariants as relation_op
use Rattle.aos_types.specs.declared.row.TypeId.{TypeId}
use Rattle.aos_typed.specs.declared.tree.Literal.TheVariants as literal
use Rattle.aos_typed.specs.declared.tree.TextConstant.{TextConstant}
use Rattle.aos_typed.specs.Program.{Expr as Typed, CompareTexts, Is, IsRecord}
use Rattle.aos_symbols.specs.declared.env.Env.{Env}
use Rattle.aos_symbols.specs.Breaches.{breach_unless}
use Rattle.aos_symbols.specs.Judged.{Judged, judged, bind}
use Rattle.aos_symbols.specs.Env as env
use Rattle.aos_known.specs.declared.known.Class.{Class}
use Rattle.aos_known.specs.declared.known.Class.TheVariants.{Constant, Computed}
use Rattle.aos_known.specs.declared.known.Known.{Known}
use Rattle.aos_operators.specs.declared.operations.Joint.TheVariants as joint
use Rattle.aos_operators.specs.declared.operations.Operation.{Operation}
use Rattle.aos_known.specs.Known.{Answer, passes, is, is_of_any, object_number, answered, nothing, as_procedure, refused_value}
use Rattle.aos_operators.specs.Operations as op
use Rattle.aos_known.specs.Kinds as kinds
use Rattle.aos_known.specs.Places as places
use Rattle.aos_values.specs.TypeNames.{known_type}
pub use Rattle.aos_values.specs.Arrays.{is_characters, string_in, is_text, is_only_text, may_be_text, are_texts, string_rows, rows_in, text_rows, has_room, text_for}

-- Type tests: the right operand is the name of a type. They are no constants.

abbrev pub test_typed : Env → Answer → Option TypeId → Typed
test_typed e a t = by a.known.of t
  where
    by : Option TypeId → Option TypeId → Typed
    by (Some of) (Some t) =
        if kinds.is_record_type e of then IsRecord (places.place_in a.typed) (object_number t) else Is a.typed (kinds.made_number e t)
    by _ _ = nothing

abbrev pub may_test : Env → Answer → Option TypeId → Bool
may_test e a t = kinds.may_test e (places.is_passed (places.place_in a.typed)) a.known.of t

-- with this type
abbrev pub tested_with : Env → Pos → Answer → Option TypeId → Judged Answer
tested_with e at a t =
    let takes = may_test e a t in
    judged (breach_unless takes 41 at)
    (answered Computed (op.kept_type takes (Some env.boolean)) (test_typed e a t))

abbrev pub tested : Env → Pos → Answer → Option Qualident → Judged Answer
tested e at a None = refused_value 41 at
tested e at a (Some q) = bind (known_type e q) (λ t. tested_with e at a t)

abbrev pub compares_texts : Env → RelationOp → Known → Known → Bool
compares_texts e relation_op.In a b = false
compares_texts e relation_op.Is a b = false
compares_texts e o a b = are_texts e a b

-- the relation of an operator; a type test has none, and isn't asked for it
abbrev pub relation_in : RelationOp → Relation
relation_in relation_op.Equal = rel.Equal
relation_in relation_op.NotEqual = rel.NotEqual
relation_in relation_op.Less = rel.Less
relation_in relation_op.LessEqual = rel.LessEqual
relation_in relation_op.Greater = rel.Greater
relation_in relation_op.GreaterEqual = rel.GreaterEqual
relation_in relation_op.In = rel.Equal
relation_in relation_op.Is = rel.Equal

-- two string constants are compared when the text is checked
abbrev pub constants_related : Env → Relation → TextConstant → TextConstant → Bool
constants_related e r a b = holds r (order (env.characters e a) (env.characters e b)) (pos 0)

abbrev pub texts_class : Env → Relation → Class → Class → Class
texts_class e r a b = by (string_in e a) (string_in e b)
  where
    by : Option TextConstant → Option TextConstant → Class
    by (Some s) (Some t) = Constant (Some (literal.Bool (constants_related e r s t)))
    by s t = op.class_of joint.And a b

abbrev pub texts_related : Env → Relation → Answer → Answer → Answer
texts_related e r a b =
    answered (texts_class e r a.known.class b.known.class) (Some env.boolean) (CompareTexts r (text_rows e a) (text_rows e b))

-- Objects are the same or differ: those of two pointers, or of two object types.

abbrev pub may_be_pointer : Env → Option TypeId → Bool
may_be_pointer e = passes (λ t. is_of_any t || kinds.is_pointer_type e t)

abbrev pub may_be_object : Env → Option TypeId → Bool
may_be_object e = passes (λ t. is_of_any t || kinds.is_object_type e t)

abbrev pub are_comparable : Env → Option TypeId → Option TypeId → Bool
are_comparable e a b = (may_be_pointer e a && may_be_pointer e b) || (may_be_object e a && may_be_object e b)

abbrev pub is_the_reference : Env → Option TypeId → Bool
is_the_reference e None = false
is_the_reference e (Some t) = kinds.is_reference e t

abbrev pub is_equality : RelationOp → Bool
is_equality relation_op.Equal = true
is_equality relation_op.NotEqual = true
is_equality o = false

abbrev pub compares_objects : Env → RelationOp → Option TypeId → Option TypeId → Bool
compares_objects e o a b = is_equality o && (is_the_reference e a || is_the_reference e b)

-- Procedure values are the same or differ, whatever the formals of their types: those of variables, procedures that are named, and NIL.

abbrev pub is_the_procedure : Env → Option TypeId → Bool
is_the_procedure e None = false
is_the_procedure e (Some t) = is (env.procedure e) t || kinds.is_procedural e t

abbrev pub may_be_procedure : Env → Option TypeId → Bool
may_be_procedure e = passes (λ t. is env.nil t || (is (env.procedure e) t || kinds.is_procedural e t))

abbrev pub compares_procedures : Env → RelationOp → Option TypeId → Option TypeId → Bool
compares_procedures e o a b = is_equality o && (is_the_procedure e a || is_the_procedure e b)

abbrev pub procedure_operand : Answer → Answer
procedure_operand a = record { known = a.known; typed = as_procedure a }

abbrev pub procedures_related : Env → Pos → Pos → RelationOp → Answer → Answer → Judged Answer
procedures_related e first at o a b =
    op.operands first at (op.matched (relation_in o) (may_be_procedure e a.known.of && may_be_procedure e b.known.of)) (procedure_operand a)
    (procedure_operand b)

abbrev pub operation_of : Env → RelationOp → Option TypeId → Option TypeId → Operation
operation_of e o a b =
    if compares_objects e o a b then op.identified (relation_in o) (are_comparable e a b) else op.related o a b

abbrev pub related_by : Env → Pos → Pos → RelationOp → Answer → Answer → Judged Answer
related_by e first at o a b =
    if compares_texts e o a.known b.known then op.told first [] (texts_related e (relation_in o) a b)
    else if compares_procedures e o a.known.of b.known.of then procedures_related e first at o a b
    else op.operands first at (operation_of e o a.known.of b.known.of) a b
