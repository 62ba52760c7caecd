-- In the condition of an AWAIT an expression stands for one that calls nothing, whatever rules it breaks.
use Rattle.std.proofs.Common.{◌≡◌, ℕ, ℤ, nat_lt, List, [], ◌∷◌, Bool, true, false, ◌&&◌, ◌||◌, Option, Some, None, is_some, fold, option_and_then, if◌then◌else◌, refl, subst}
use Rattle.std.specs.Option.{option_or, option_map, unwrap_or}
use Rattle.std.proofs.lemmas.Option.{none-some, same_Some}
use Rattle.aos_base.specs.declared.text.Pos.{Pos}
use Rattle.aos_base.specs.declared.number.Width.TheVariants.{W64}
use Rattle.aos_base.specs.Number.{if_within}
use Rattle.aos_base.specs.Operators.{natural}
use Rattle.aos_tree.specs.declared.name.Name.{Name}
use Rattle.aos_tree.specs.declared.name.Qualident.{Qualident}
use Rattle.aos_tree.specs.declared.decl.Export.{Export}
use Rattle.aos_tree.specs.declared.expr.Expr.{Expr as TreeExpr, Expr', Row_of-Relation, end_of-Relation, more_of-Relation, out-Expr}
use Rattle.aos_tree.specs.declared.expr.Relation.{Relation as TreeRelation, Relation'}
use Rattle.aos_tree.specs.declared.expr.RelationOp.{RelationOp}
use Rattle.aos_tree.specs.declared.expr.Sign.{Sign}
use Rattle.aos_tree.specs.declared.expr.Simple.{Simple, Simple', Row_of-Addition, end_of-Addition, more_of-Addition}
use Rattle.aos_tree.specs.declared.expr.Addition.{Addition, Addition'}
use Rattle.aos_tree.specs.declared.expr.Term.{Term, Term', Row_of-Product, end_of-Product, more_of-Product}
use Rattle.aos_tree.specs.declared.expr.Factor.{Factor, Row_of-Expr, end_of-Expr, more_of-Expr, Row_of-Factor, end_of-Factor, more_of-Factor, Row_of-Elem, end_of-Elem, more_of-Elem}
use Rattle.aos_tree.specs.declared.expr.Factor.TheVariants as f
use Rattle.aos_tree.specs.declared.expr.Elem.{Elem, Elem'}
use Rattle.aos_tree.specs.declared.expr.Desig.{Row_of-Selector, end_of-Selector, more_of-Selector}
use Rattle.aos_tree.specs.declared.expr.Selector.{Selector, items-the_row-Expr}
use Rattle.aos_tree.specs.declared.expr.Selector.TheVariants as s
use Rattle.aos_types.specs.declared.row.TypeId.{TypeId}
use Rattle.aos_types.specs.declared.row.TypeRow.{TypeRow}
use Rattle.aos_types.specs.declared.row.TypeRow.TheVariants as row
use Rattle.aos_types.specs.Table.{row_of, base_of}
use Rattle.aos_typed.specs.declared.tree.Literal.{Literal}
use Rattle.aos_typed.specs.declared.tree.TextConstant.{TextConstant}
use Rattle.aos_typed.specs.Program.{Place, Field as FieldOf, Index, Of, Rows, Row, Callee, Plain, Dispatched, Upper, Through, Expr, SelfRef, Read, CompareTexts, ProcedureOf, MethodOf}
use Rattle.aos_typed.specs.Open.{open_dimensions, open_element}
use Rattle.aos_typed.specs.Conditions.{HasNoCalls, HasNoCallsInPlace, HasNoCallsInRows}
use Rattle.aos_types.specs.declared.signature.Gives.{Gives}
use Rattle.aos_types.specs.declared.signature.Gives.TheVariants as gives
use Rattle.aos_types.specs.declared.signature.Parameter.{Parameter}
use Rattle.aos_types.specs.declared.signature.Signature.{Signature}
use Rattle.aos_symbols.specs.declared.scope.Meaning.{Meaning}
use Rattle.aos_symbols.specs.declared.scope.Meaning.TheVariants as means
use Rattle.aos_symbols.specs.declared.scope.Function.{Function}
use Rattle.aos_symbols.specs.declared.scope.Function.TheVariants as function
use Rattle.aos_symbols.specs.declared.env.Open.{Open}
use Rattle.aos_symbols.specs.declared.env.Symbol.{Symbol}
use Rattle.aos_members.specs.declared.fields.Field.{Field}
use Rattle.aos_members.specs.declared.objects.Method.{Method}
use Rattle.aos_symbols.specs.declared.env.Narrowed.{Narrowed}
use Rattle.aos_symbols.specs.declared.env.Lookup.{Lookup}
use Rattle.aos_symbols.specs.declared.env.Lookup.TheVariants.{Unknown as NoName, NotExported, Found}
use Rattle.aos_symbols.specs.declared.env.Env.{Env}
use Rattle.aos_symbols.specs.Judged.{Judged, bind}
use Rattle.aos_members.specs.Members as members
use Rattle.aos_symbols.specs.Env as env
use Rattle.aos_symbols.proofs.Each.{Each}
use Rattle.aos_known.specs.declared.known.Class.{Class}
use Rattle.aos_known.specs.declared.known.Class.TheVariants.{Unknown, Constant, Variable, ReadOnly, Computed, Procedure}
use Rattle.aos_operators.specs.declared.operations.Single.{Single}
use Rattle.aos_operators.specs.declared.operations.Single.TheVariants as single
use Rattle.aos_operators.specs.declared.operations.Joint.{Joint}
use Rattle.aos_operators.specs.declared.operations.Joint.TheVariants as joint
use Rattle.aos_operators.specs.declared.operations.Step.{Step}
use Rattle.aos_operators.specs.declared.operations.Operation.{Operation}
use Rattle.aos_known.specs.Known.{Answer, Entity, Held, Stands, Value, read_from, type_as, typed_as, is_basic, is_nil, is_number, as_procedure}
use Rattle.aos_operators.specs.Operations as op
use Rattle.aos_arguments.specs.declared.functions.Taking.TheVariants as taking
use Rattle.aos_arguments.specs.Arguments.{Given}
use Rattle.aos_designators.specs.declared.designators.Head.{Head}
use Rattle.aos_bound.specs.declared.methods.Heading.{Heading}
use Rattle.aos_bound.specs.declared.methods.Heading.TheVariants as heading
use Rattle.aos_designators.specs.Designators as desig
use Rattle.aos_check_expr.specs.Expressions as judge

-- What calls nothing.

abbrev Calm : Answer → Type 0
Calm a = HasNoCalls a.typed

abbrev IsCalmHeld : Held → Type 0
IsCalmHeld (Stands p) = HasNoCallsInPlace p
IsCalmHeld (Value x) = HasNoCalls x

abbrev IsCalm : Entity → Type 0
IsCalm a = IsCalmHeld a.held

abbrev IsCalmCallee : Callee → Type 0
IsCalmCallee (Plain m k) = Unit {0}
IsCalmCallee (Dispatched x t k) = HasNoCalls x
IsCalmCallee (Upper t k) = Unit {0}
IsCalmCallee (Through x t) = HasNoCalls x

abbrev IsCalmPart : judge.Part → Type 0
IsCalmPart (judge.Begun h) = Unit {0}
IsCalmPart (judge.Meant a) = IsCalm a
IsCalmPart (judge.Waits b) = IsCalmCallee b.callee

abbrev IsCalmTyped : Judged Answer → Type 0
IsCalmTyped j = Calm j.answer

abbrev IsCalmEntity : Judged Entity → Type 0
IsCalmEntity j = IsCalm j.answer

abbrev IsCalmBehind : Judged judge.Part → Type 0
IsCalmBehind j = IsCalmPart j.answer

abbrev AreCalm : List (Judged Answer) → Type 0
AreCalm = Each IsCalmTyped

either : {A : Type 0} (P : A → Type 0) (b : Bool) (x y : A) → P x → P y → P (if b then x else y)
either P true x y p q = p
either P false x y p q = q

-- a designator of this type and class
abbrev entity : Option TypeId → Class → Held → Pos → Entity
entity of c h at = record { known = record { of = of; class = c }; held = h; at = at }

typed_calm : (c : Class) (x : Expr) → HasNoCalls x → HasNoCalls (typed_as c x)
typed_calm (Constant (Some v)) x calm = tt
typed_calm (Constant None) x calm = calm
typed_calm Unknown x calm = calm
typed_calm Variable x calm = calm
typed_calm ReadOnly x calm = calm
typed_calm Computed x calm = calm
typed_calm (Procedure m n) x calm = calm

read_calm : (of : Option TypeId) (h : Held) → IsCalmHeld h → HasNoCalls (read_from of h)
read_calm of (Stands p) calm = calm
read_calm of (Value x) calm = calm

place_of_calm : (h : Held) → IsCalmHeld h → HasNoCallsInPlace (desig.place_of h)
place_of_calm (Stands p) calm = calm
place_of_calm (Value x) calm = tt

place_in_calm : (x : Expr) → HasNoCalls x → HasNoCallsInPlace (desig.place_in x)
place_in_calm (Read t p) calm = calm
place_in_calm x calm = tt

rows_calm : (p : Place) → HasNoCallsInPlace p → HasNoCallsInRows (desig.rows_of p)
rows_calm (Of r) calm = calm
rows_calm p calm = calm

-- Operators.

single_calm : (o : Single) (x : Expr) → HasNoCalls x → HasNoCalls (op.single_typed o x)
single_calm (single.On o) x calm = calm
single_calm single.Ord x calm = calm
single_calm single.Chr x calm = calm
single_calm single.Element x calm = calm
single_calm single.Same x calm = calm

joint_calm : (o : Joint) (x y : Expr) → HasNoCalls x → HasNoCalls y → HasNoCalls (op.joint_typed o x y)
joint_calm (joint.On o) x y a b = (a, b)
joint_calm joint.And x y a b = (a, b)
joint_calm joint.Or x y a b = (a, b)
joint_calm joint.Same x y a b = (a, b)
joint_calm joint.Differ x y a b = (a, b)
joint_calm joint.SameProcedure x y a b = (a, b)
joint_calm joint.OtherProcedure x y a b = (a, b)

stepped_calm : (o : Step) (a : Answer) → Calm a → Calm (op.stepped o a)
stepped_calm o a calm = typed_calm (op.kept_class o.is_kept (op.class_of_one o.single a.known.class)) (op.single_typed o.single a.typed) (single_calm o.single a.typed calm)

joined_calm : (o : Operation) (a b : Answer) → Calm a → Calm b → Calm (op.joined o a b)
joined_calm o a b x y =
    typed_calm (op.kept_class o.is_kept (op.class_of o.joint a.known.class b.known.class)) (op.joint_typed o.joint a.typed b.typed) (joint_calm o.joint a.typed b.typed x y)

signed_calm : (g : Option Sign) (at : Pos) (a : Answer) → Calm a → Calm (judge.signed g at a).answer
signed_calm None at a calm = calm
signed_calm (Some g) at a calm = stepped_calm (op.signed g a.known.of) a calm

number_calm : (o : Option ℤ) (at : Pos) → Calm (judge.number o at).answer
number_calm None at = tt
number_calm (Some n) at = tt

character_calm : (o : Option ℕ) (at : Pos) → Calm (judge.character o at).answer
character_calm None at = tt
character_calm (Some c) at = tt

string_calm : (o : Option TextConstant) (at : Pos) → Calm (judge.string o at).answer
string_calm None at = tt
string_calm (Some t) at = tt

module _ (e : Env) where
  -- Parts of variables, and guards.

  part_calm : (may : Bool) (of : Option TypeId) (part : Place → Place) (at : Pos) (a : Entity) → ((p : Place) → HasNoCallsInPlace p → HasNoCallsInPlace (part p)) →
      IsCalm a → IsCalm (desig.part_entity may of part at a)
  part_calm may of part at a each = by a.held
    where
      by : (h : Held) → IsCalmHeld h → IsCalmHeld (desig.part_held part h)
      by (Stands p) calm = each p calm
      by (Value x) calm = calm

  followed_calm : (u : TypeId) (a : Entity) → IsCalm a → IsCalm (desig.followed_entity e u a)
  followed_calm u a calm =
      let x = read_calm a.known.of a.held calm in
      either HasNoCallsInPlace (desig.is_opened e u) _ _ x x

  through_calm : (of : Option TypeId) (c : Class) (h : Held) (at : Pos) → IsCalmHeld h → IsCalm (desig.through e (entity of c h at))
  through_calm None c h at calm = calm
  through_calm (Some t) c h at calm = by (desig.pointed e t) refl
    where
      by : (o : Option TypeId) → desig.pointed e t ≡ o → IsCalm (desig.through e (entity (Some t) c h at))
      by None is = rw is calm
      by (Some u) is = rw is (followed_calm u (entity (Some t) c h at) calm)

  lacking_calm : (t : TypeId) (at : Pos) → IsCalm (desig.lacking e t at).answer
  lacking_calm t at = tt

  followed_answer : (of : Option TypeId) (c : Class) (h : Held) (at p : Pos) → IsCalmHeld h → IsCalm (desig.followed e (entity of c h at) p).answer
  followed_answer None c h at p calm = calm
  followed_answer (Some t) c h at p calm = by (desig.pointed e t)
    where
      by : (o : Option TypeId) → IsCalm (desig.followed_type e (entity (Some t) c h at) p t o).answer
      by None = tt
      by (Some u) = followed_calm u (entity (Some t) c h at) calm

  guarded_calm : (t : TypeId) (of : Option TypeId) (c : Class) (h : Held) (at : Pos) → IsCalmHeld h → IsCalm (desig.guarded_entity e t (entity of c h at))
  guarded_calm t None c h at calm = calm
  guarded_calm t (Some of) c h at calm =
      either IsCalm (desig.is_record_type e of) _ _ (record_calm h calm) (read_calm (Some of) h calm)
    where
      record_calm : (h : Held) → IsCalmHeld h → IsCalm (desig.guarded_record t (entity (Some of) c h at))
      record_calm (Stands p) calm = calm
      record_calm (Value x) calm = calm

  guarded_with_calm : (t : Option TypeId) (a : Entity) → IsCalm a → IsCalm (desig.guarded_with e t a)
  guarded_with_calm None a calm = calm
  guarded_with_calm (Some t) a calm = guarded_calm t a.known.of a.known.class a.held a.at calm

  guard_calm : (at : Pos) (a : Entity) (t : Option TypeId) → IsCalm a → IsCalm (desig.guard e at a t).answer
  guard_calm at a t calm = either IsCalmEntity (desig.may_test e (desig.is_passed (desig.place_of a.held)) a.known.of t) _ _ (guarded_with_calm t a calm) tt

  bracket_calm : (first p : Pos) (of : Option TypeId) (c : Class) (h : Held) (at : Pos) (t : Option (Option TypeId)) → IsCalmHeld h →
      IsCalm (desig.guarded e first p (entity of c h at) t).answer
  bracket_calm first p None c h at t calm = calm
  bracket_calm first p (Some of) c h at None calm = tt
  bracket_calm first p (Some of) c h at (Some None) calm = tt
  bracket_calm first p (Some of) c h at (Some (Some t)) calm = guard_calm p (entity (Some of) c h at) (Some t) calm

  -- Variables.

  unopened_calm : (k : ℕ) (a : Parameter) → HasNoCallsInPlace (desig.unopened_place k a)
  unopened_calm k a = either HasNoCallsInPlace a.by_reference _ _ tt tt

  parameter_calm : (k : ℕ) (b : Bool) (of : Option TypeId) → HasNoCallsInPlace (desig.parameter_place e k (record { by_reference = b; of = of }))
  parameter_calm k b None = unopened_calm k (record { by_reference = b; of = None })
  parameter_calm k b (Some t) = either HasNoCallsInPlace (desig.is_opened e t) _ _ tt (unopened_calm k (record { by_reference = b; of = Some t }))

  own_calm : (k : ℕ) → HasNoCallsInPlace (desig.own_place e k)
  own_calm k = by (desig.own_parameter e k) refl
    where
      by : (o : Option Parameter) → desig.own_parameter e k ≡ o → HasNoCallsInPlace (desig.own_place e k)
      by None is = rw is tt
      by (Some a) is = rw is (parameter_calm k a.by_reference a.of)

  declared_calm : (a b : Option TypeId) (k : ℕ) → HasNoCallsInPlace (desig.declared_place e a b k)
  declared_calm (Some t) (Some b) k = tt
  declared_calm (Some t) None k = tt
  declared_calm None b k = tt

  variable_calm : (x : Symbol) (k : ℕ) (at : Pos) → IsCalm (desig.variable e x k at)
  variable_calm x k at =
      either HasNoCallsInPlace (desig.is_of_module x) _ _ tt
      (either HasNoCallsInPlace (desig.is_own_scope e x.at) _ _ (own_calm k) (declared_calm e.self_type (members.object_at e x.at) k))

  narrowed_calm : (x : Symbol) (k : ℕ) (vs : List Narrowed) (a : Entity) → IsCalm a → IsCalm (fold (desig.narrowed_by e x k) a vs)
  narrowed_calm x k [] a calm = calm
  narrowed_calm x k (v ∷ vs) a calm =
      narrowed_calm x k vs (desig.narrowed_by e x k a v)
      (either IsCalm (desig.is_narrowed x k v) _ _ (guarded_calm v.of a.known.of a.known.class a.held a.at calm) calm)

  variable_entity_calm : (x : Symbol) (k : ℕ) (at : Pos) → IsCalm (desig.variable_entity e x k at)
  variable_entity_calm x k at = narrowed_calm x k e.narrowed (desig.variable e x k at) (variable_calm x k at)

  constant_calm : (v : Option (Option Literal)) (at : Pos) → Calm (desig.constant_of v at).answer
  constant_calm None at = tt
  constant_calm (Some None) at = tt
  constant_calm (Some (Some v)) at = tt

  procedure_calm : (m k : ℕ) (x : Expr) (first at : Pos) → HasNoCalls x → IsCalm (desig.procedure_entity e m k x first at).answer
  procedure_calm m k x first at calm = by (env.signature e m k) refl
    where
      by : (o : Option Signature) → env.signature e m k ≡ o → IsCalm (desig.procedure_entity e m k x first at).answer
      by None is = rw is tt
      by (Some g) is = rw is calm

  self_calm : (of : Option TypeId) (at : Pos) → IsCalm (desig.self_of of at).answer
  self_calm None at = tt
  self_calm (Some t) at = tt

  meant_calm : (x : Symbol) (m : Meaning) (h : Head) → IsCalm (desig.meant e x m h).answer
  meant_calm x (means.Variable k) h = variable_entity_calm x k h.name.pos
  meant_calm x (means.Constant k) h = constant_calm (env.constant e x.at k h.first) h.name.pos
  meant_calm x (means.Procedure k) h =
      either IsCalmEntity (desig.is_of_module x) _ _
      (procedure_calm x.at.home k (ProcedureOf x.at.home k) h.first h.name.pos tt) tt
  meant_calm x means.Itself h = self_calm e.self_type h.name.pos
  meant_calm x m h = tt

  found_calm : (l : Lookup) (h : Head) → IsCalm (desig.found e l h).answer
  found_calm NoName h = tt
  found_calm NotExported h = tt
  found_calm (Found x) h = meant_calm x x.means h

  named_calm : (h : Head) → IsCalm (desig.named e h).answer
  named_calm h = found_calm h.found h

  -- Fields and elements.

  field_entity_calm : (t : TypeId) (g : Field) (at : Pos) (a : Entity) → IsCalm a → IsCalm (desig.field_entity e t g at a)
  field_entity_calm t g at a calm =
      either IsCalm (desig.is_object_type e t) _ _ (read_calm a.known.of a.held calm)
      (part_calm (desig.may_write g) g.of (λ p. FieldOf p (type_as t) g.number) at a (λ p calm. calm) calm)

  field_found_calm : (a : Entity) (p : Pos) (n : Name) (t : TypeId) (o : Option Field) → IsCalm a → IsCalm (desig.field_found e a p n t o).answer
  field_found_calm a p n t None calm = tt
  field_found_calm a p n t (Some g) calm = either IsCalmEntity (g.is_own || is_some g.mark) _ _ (field_entity_calm t g n.pos a calm) tt

  field_of_calm : (of : Option TypeId) (c : Class) (h : Held) (at p : Pos) (n : Name) → IsCalmHeld h → IsCalm (desig.field_of e (entity of c h at) p n).answer
  field_of_calm None c h at p n calm = calm
  field_of_calm (Some t) c h at p n calm =
      either IsCalmEntity (desig.has_fields e t) _ _ (field_found_calm (entity (Some t) c h at) p n t (members.field e t n) calm) tt

  field_calm : (a : Entity) (p : Pos) (n : Name) → IsCalm a → IsCalm (desig.field e a p n).answer
  field_calm a p n calm =
      let b = desig.through e a in
      field_of_calm b.known.of b.known.class b.held b.at p n (through_calm a.known.of a.known.class a.held a.at calm)

  row_calm : (p : Pos) (a : Entity) (i : Answer) (t : TypeId) (o : Option TypeRow) → IsCalm a → Calm i → IsCalm (desig.element_in_row e p a i t o).answer
  row_calm p a i t (Some (row.Array m u)) calm is = either IsCalmEntity (is_number i.known.of) _ _ (part_calm true (Some u) (λ q. Index q m (type_as u) i.typed) a.at a (λ q calm. (calm, is)) calm) tt
  row_calm p a i t (Some (row.Open u)) calm is = either IsCalmEntity (is_number i.known.of) _ _ (part_calm true (Some u) (λ q. Of (Row (desig.rows_of q) (type_as (open_element e.types t)) i.typed)) a.at a (λ q calm. (rows_calm q calm, is)) calm) tt
  row_calm p a i t o calm is = tt

  element_of_calm : (p : Pos) (of : Option TypeId) (c : Class) (h : Held) (at : Pos) (i : Answer) → IsCalmHeld h → Calm i → IsCalm (desig.element_of e p (entity of c h at) i).answer
  element_of_calm p None c h at i calm is = calm
  element_of_calm p (Some t) c h at i calm is =
      either IsCalmEntity (is_basic t) _ _ tt (row_calm p (entity (Some t) c h at) i t (env.row_of e (Some t)) calm is)

  element_calm : (p : Pos) (a : Entity) (i : Answer) → IsCalm a → Calm i → IsCalm (desig.element e p a i).answer
  element_calm p a i calm is =
      let b = desig.through e a in
      element_of_calm p b.known.of b.known.class b.held b.at i (through_calm a.known.of a.known.class a.held a.at calm) is

  -- LEN, texts and type tests.

  array_rows_calm : (n : ℕ) (of : Option TypeId) (p : Place) → HasNoCallsInPlace p → HasNoCallsInRows (judge.array_rows e n of p)
  array_rows_calm n None p calm = calm
  array_rows_calm n (Some t) p calm = either HasNoCallsInRows (desig.is_opened e t) _ _ (rows_calm p calm) calm

  text_rows_calm : (a : Answer) → Calm a → HasNoCallsInRows (judge.text_rows e a)
  text_rows_calm a calm = by (judge.string_in e a.known.class) refl
    where
      by : (o : Option TextConstant) → judge.string_in e a.known.class ≡ o → HasNoCallsInRows (judge.text_rows e a)
      by (Some t) is = rw is tt
      by None is = rw is (array_rows_calm 1 a.known.of (desig.place_in a.typed) (place_in_calm a.typed calm))

  len_typed_calm : (of : Option TypeId) (r : Rows) (d : ℕ) → HasNoCallsInRows r → HasNoCalls (judge.len_typed e of r d)
  len_typed_calm None r d calm = calm
  len_typed_calm (Some t) r d calm = either HasNoCalls (nat_lt d (open_dimensions e.types t)) _ _ calm calm

  len_calm : (a : Answer) (d : ℕ) → Calm a → Calm (judge.len_answer e a d)
  len_calm a d calm =
      let r = desig.rows_of (desig.place_in a.typed) in
      typed_calm Computed (judge.len_typed e a.known.of r d)
      (len_typed_calm a.known.of r d (rows_calm (desig.place_in a.typed) (place_in_calm a.typed calm)))

  test_calm : (of : Option TypeId) (c : Class) (x : Expr) (t : Option TypeId) → HasNoCalls x → HasNoCalls (judge.test_typed e (record { known = record { of = of; class = c }; typed = x }) t)
  test_calm (Some of) c x (Some t) calm = either HasNoCalls (desig.is_record_type e of) _ _ (place_in_calm x calm) calm
  test_calm (Some of) c x None calm = tt
  test_calm None c x t calm = tt

  tested_calm : (at : Pos) (a : Answer) (q : Option Qualident) → Calm a → Calm (judge.tested e at a q).answer
  tested_calm at a None calm = tt
  tested_calm at a (Some q) calm =
      let t = (judge.known_type e q).answer in
      typed_calm Computed (judge.test_typed e a t) (test_calm a.known.of a.known.class a.typed t calm)

  operand_calm : (a : Answer) → Calm a → HasNoCalls (as_procedure a)
  operand_calm a calm = either HasNoCalls (is_nil a.known.class) _ _ tt calm

  related_calm : (first at : Pos) (o : RelationOp) (a b : Answer) → Calm a → Calm b → Calm (judge.related_by e first at o a b).answer
  related_calm first at o a b x y =
      either IsCalmTyped (judge.compares_texts e o a.known b.known) _ _
      (typed_calm (judge.texts_class e (judge.relation_in o) a.known.class b.known.class) (CompareTexts (judge.relation_in o) (judge.text_rows e a) (judge.text_rows e b))
      (text_rows_calm a x, text_rows_calm b y))
      (either IsCalmTyped (judge.compares_procedures e o a.known.of b.known.of) _ _
      (joined_calm (op.matched (judge.relation_in o) (judge.may_be_procedure e a.known.of && judge.may_be_procedure e b.known.of)) (judge.procedure_operand a) (judge.procedure_operand b) (operand_calm a x) (operand_calm b y))
      (joined_calm (judge.operation_of e o a.known.of b.known.of) a b x y))

  -- Predeclared functions and conversions.

  one_calm : (g : Option TypeId → Step) (at : Pos) (js : List (Judged Answer)) (xs : List TreeExpr) → AreCalm js → Calm (judge.one_of g at js xs).answer
  one_calm g at [] xs are = tt
  one_calm g at (j ∷ []) [] are = tt
  one_calm g at (j ∷ []) (x ∷ []) are = stepped_calm (g j.answer.known.of) j.answer are.0
  one_calm g at (j ∷ []) (x ∷ y ∷ xs) are = tt
  one_calm g at (j ∷ k ∷ js) xs are = tt

  two_calm : (at : Pos) (js : List (Judged Answer)) (xs : List TreeExpr) → AreCalm js → Calm (judge.two_of at js xs).answer
  two_calm at [] xs are = tt
  two_calm at (j ∷ []) xs are = tt
  two_calm at (j ∷ k ∷ []) [] are = tt
  two_calm at (j ∷ k ∷ []) (x ∷ []) are = tt
  two_calm at (j ∷ k ∷ []) (x ∷ y ∷ []) are = joined_calm (op.shifted j.answer.known.of k.answer.known.of) j.answer k.answer are.0 are.1.0
  two_calm at (j ∷ k ∷ []) (x ∷ y ∷ z ∷ xs) are = tt
  two_calm at (j ∷ k ∷ l ∷ js) xs are = tt

  len_of_calm : (at : Pos) (js : List (Judged Answer)) (xs : List TreeExpr) → AreCalm js → Calm (judge.len_of e at js xs).answer
  len_of_calm at [] xs are = tt
  len_of_calm at (j ∷ []) [] are = tt
  len_of_calm at (j ∷ []) (x ∷ []) are = len_calm j.answer 0 are.0
  len_of_calm at (j ∷ []) (x ∷ y ∷ xs) are = tt
  len_of_calm at (j ∷ k ∷ []) [] are = tt
  len_of_calm at (j ∷ k ∷ []) (x ∷ []) are = tt
  len_of_calm at (j ∷ k ∷ []) (x ∷ y ∷ []) are = len_calm j.answer (unwrap_or (judge.number_in k.answer.known.class) 0) are.0
  len_of_calm at (j ∷ k ∷ []) (x ∷ y ∷ z ∷ xs) are = tt
  len_of_calm at (j ∷ k ∷ l ∷ js) xs are = tt

  -- MAX and MIN are constants
  limit_meant_calm : (value : TypeId → Option Literal) (m : Meaning) (at first : Pos) → Calm (judge.limit_of value m at first).answer
  limit_meant_calm value (means.Type None) at first = tt
  limit_meant_calm value (means.Type (Some t)) at first = by (value t)
    where
      by : (o : Option Literal) → Calm (judge.limit_value o first).answer
      by None = tt
      by (Some v) = tt
  limit_meant_calm value m at first = tt

  limit_found_calm : (value : TypeId → Option Literal) (l : Lookup) (at first : Pos) → Calm (judge.limit_found value l at first).answer
  limit_found_calm value NoName at first = tt
  limit_found_calm value NotExported at first = tt
  limit_found_calm value (Found x) at first = limit_meant_calm value x.means at first

  limit_named_calm : (value : TypeId → Option Literal) (o : Option Head) (first : Pos) → Calm (judge.limit_named value o first).answer
  limit_named_calm value None first = tt
  limit_named_calm value (Some h) first = limit_found_calm value h.found h.name.pos h.first

  limit_calm : (value : TypeId → Option Literal) (xs : List TreeExpr) (at : Pos) → Calm (judge.limit e value xs at).answer
  limit_calm value [] at = tt
  limit_calm value (x ∷ []) at = limit_named_calm value (judge.name_alone e x) (out-Expr x).pos
  limit_calm value (x ∷ y ∷ xs) at = tt

  function_calm : (g : Function) (first : Pos) (js : List (Judged Answer)) (xs : List TreeExpr) → AreCalm js → Calm (judge.function_called e g first js xs).answer
  function_calm function.Max first js xs are = limit_calm op.greatest_value xs first
  function_calm function.Min first js xs are = limit_calm op.least_value xs first
  function_calm function.Len first js xs are = len_of_calm first js xs are
  function_calm function.Ash first js xs are = two_calm first js xs are
  function_calm g first js xs are = one_calm (judge.step_in (taking.By g)) first js xs are

  value_called : (h : Head) (at : Pos) (xs : List TreeExpr) → IsCalm (bind (desig.named e h) (λ a. desig.guarded e h.first at a (judge.guard_type e xs))).answer
  value_called h at xs =
      let a = (desig.named e h).answer in
      bracket_calm h.first at a.known.of a.known.class a.held a.at (judge.guard_type e xs) (named_calm h)

  not_called_of : (l : Lookup) (n : Name) (first at : Pos) (xs : List TreeExpr) → IsCalm (judge.not_called e (record { found = l; name = n; first = first }) at xs).answer
  not_called_of NoName n first at xs = value_called (record { found = NoName; name = n; first = first }) at xs
  not_called_of NotExported n first at xs = value_called (record { found = NotExported; name = n; first = first }) at xs
  not_called_of (Found x) n first at xs = by x.at x.mark x.means
    where
      head : Open → Option Export → Meaning → Head
      head o mark m = record { found = Found (record { at = o; mark = mark; means = m }); name = n; first = first }

      by : (o : Open) (mark : Option Export) (m : Meaning) → IsCalm (judge.not_called e (head o mark m) at xs).answer
      by o mark (means.Type None) = tt
      by o mark (means.Type (Some t)) = tt
      by o mark m = value_called (head o mark m) at xs

-- Calls, and the walk over an expression, in the condition of an AWAIT.

module _ (e : Env) (within : e.is_condition ≡ true) where
  result_calm : (first : Pos) (c : Callee) (g : Gives) (ps : List Parameter) (js : List (Judged Answer)) (xs : List TreeExpr) → Calm (judge.value_given e first c g ps js xs).answer
  result_calm first c gives.Nothing ps js xs = tt
  result_calm first c (gives.Value of) ps js xs =
      let h = (judge.arguments_for e first ps js xs).answer in
      typed_calm (judge.function_class h.are_kept) (judge.function_typed e.is_condition c h.given) (called_nothing h.given)
    where
      called_nothing : (given : List Given) → HasNoCalls (judge.function_typed e.is_condition c given)
      called_nothing given = rw within tt

  invoked_calm : (first : Pos) (c : Callee) (h : Heading) (js : List (Judged Answer)) (xs : List TreeExpr) → Calm (judge.invoked e first c h js xs).answer
  invoked_calm first c h js xs = by (judge.signature_of e h) refl
    where
      by : (o : Option Signature) → judge.signature_of e h ≡ o → Calm (judge.invoked e first c h js xs).answer
      by None is = rw is tt
      by (Some g) is = rw is (result_calm first c g.gives g.parameters js xs)

  called_calm : (c : judge.Callee) (h : Head) (at : Pos) (js : List (Judged Answer)) (xs : List TreeExpr) → AreCalm js → IsCalm (judge.called_by e c h at js xs).answer
  called_calm (judge.Calls g) h at js xs are = function_calm e g h.first js xs are
  called_calm (judge.Invokes m k) h at js xs are = invoked_calm h.first (Plain m k) (heading.Declared m k) js xs
  called_calm (judge.Converts t) h at js xs are = one_calm e (judge.step_in (taking.Into t)) h.first js xs are
  called_calm judge.Neither h at js xs are = not_called_of e h.found h.name h.first at xs

  -- what a designator is so far

  unbound_calm : (c : Callee) (h : Heading) (first : Pos) → IsCalmCallee c → IsCalm (judge.unbound e (record { callee = c; heading = h; first = first })).answer
  unbound_calm c (heading.OfType t) first calm = tt
  unbound_calm (Plain m n) (heading.Declared i k) first calm = procedure_calm e i k (ProcedureOf m n) first first tt
  unbound_calm (Dispatched x t n) (heading.Declared i k) first calm = procedure_calm e i k (MethodOf x t n) first first calm
  unbound_calm (Upper t n) (heading.Declared i k) first calm = tt
  unbound_calm (Through x t) (heading.Declared i k) first calm = tt

  abbrev MayBeCalm : Option judge.Bound → Type 0
  MayBeCalm None = Unit {0}
  MayBeCalm (Some b) = IsCalmCallee b.callee

  -- methods of SELF and of its base
  own_method_calm : (h : Head) → MayBeCalm (judge.own_method e h)
  own_method_calm h = either MayBeCalm (judge.is_method h.found) _ _ (of_self e.self_type) tt
    where
      of_method : (t : TypeId) (o : Option Method) → MayBeCalm (option_map (judge.dispatched h.first SelfRef t) o)
      of_method t None = tt
      of_method t (Some m) = tt

      of_self : (o : Option TypeId) → MayBeCalm (option_and_then (λ t. judge.method_on e t h) o)
      of_self None = tt
      of_self (Some t) = of_method t (members.method e t h.name)

  raised_calm : (h : Head) (p : Pos) → IsCalmPart (judge.raised e h p).answer
  raised_calm h p = raised (judge.upper_here e h) (of_self e.self_type)
    where
      of_method : (b : TypeId) (o : Option Method) → MayBeCalm (option_map (judge.upper_method h.first b) o)
      of_method b None = tt
      of_method b (Some m) = tt

      of_base : (o : Option TypeId) → MayBeCalm (option_and_then (λ b. option_map (judge.upper_method h.first b) (members.method e b h.name)) o)
      of_base None = tt
      of_base (Some b) = of_method b (members.method e b h.name)

      of_self : (o : Option TypeId) → MayBeCalm (option_and_then (λ t. judge.upper_of e h t) o)
      of_self None = tt
      of_self (Some t) = either MayBeCalm (judge.declares t (members.method e t h.name)) _ _ (of_base (base_of (row_of e.types t))) tt

      raised : (o : Option judge.Bound) → MayBeCalm o → IsCalmPart (judge.raised_to o h.first p).answer
      raised None calm = tt
      raised (Some b) calm = calm

  named_part_calm : (h : Head) → IsCalm (judge.entity_of_part e (judge.Begun h)).answer
  named_part_calm h = by (judge.own_method e h) (own_method_calm h)
    where
      by : (o : Option judge.Bound) → MayBeCalm o → IsCalm (judge.named_or_bound e h o).answer
      by None calm = named_calm e h
      by (Some b) calm = unbound_calm b.callee b.heading b.first calm

  entity_calm : (a : judge.Part) → IsCalmPart a → IsCalm (judge.entity_of_part e a).answer
  entity_calm (judge.Begun h) calm = named_part_calm h
  entity_calm (judge.Meant a) calm = calm
  entity_calm (judge.Waits b) calm = unbound_calm b.callee b.heading b.first calm

  selected_name_calm : (p : Pos) (h : Head) → IsCalm (judge.selected_name e p h).answer
  selected_name_calm p h = either IsCalmEntity (judge.is_callable h.found) _ _ tt (named_calm e h)

  selected_calm : (p : Pos) (a : judge.Part) → IsCalmPart a → IsCalm (judge.selected e p a).answer
  selected_calm p (judge.Begun h) calm = selected_name_calm p h
  selected_calm p (judge.Meant a) calm = calm
  selected_calm p (judge.Waits b) calm = tt

  pointed_entity_calm : (first : Pos) (a : Entity) → IsCalm a → (p : Pos) (n : Name) → IsCalmPart (judge.pointed_entity e first a p n).answer
  pointed_entity_calm first a calm p n = by a.known.of (judge.method_of e a.known.of n)
    where
      by : (of : Option TypeId) (o : Option Method) → IsCalmPart (judge.pointed_as e first a p n of o).answer
      by None o = field_calm e a p n calm
      by (Some t) None = field_calm e a p n calm
      by (Some t) (Some m) = either IsCalmBehind (m.is_own || is_some m.mark) _ _ (read_calm a.known.of a.held calm) tt

  pointed_calm : (first : Pos) (a : judge.Part) → IsCalmPart a → (p : Pos) (n : Name) → IsCalmPart (judge.pointed e first a p n).answer
  pointed_calm first (judge.Begun h) calm p n =
      either IsCalmBehind (desig.is_module h.found) _ _ tt
      (pointed_entity_calm first (judge.selected_name e p h).answer (selected_name_calm p h) p n)
  pointed_calm first (judge.Meant a) calm p n = pointed_entity_calm first a calm p n
  pointed_calm first (judge.Waits b) calm p n = tt

  followed_entity_calm : (a : judge.Part) → IsCalmPart a → (p : Pos) → IsCalmPart (judge.followed_entity e a p).answer
  followed_entity_calm a calm p =
      let b = (judge.selected e p a).answer in
      followed_answer e b.known.of b.known.class b.held b.at p (selected_calm p a calm)

  followed_part_calm : (a : judge.Part) → IsCalmPart a → (p : Pos) → IsCalmPart (judge.followed_part e a p).answer
  followed_part_calm (judge.Begun h) calm p =
      either IsCalmBehind (judge.is_method h.found) _ _ (raised_calm h p) (followed_entity_calm (judge.Begun h) tt p)
  followed_part_calm (judge.Meant a) calm p = followed_entity_calm (judge.Meant a) calm p
  followed_part_calm (judge.Waits b) calm p = followed_entity_calm (judge.Waits b) calm p

  -- a bracket behind it
  bound_value_calm : (first : Pos) (of : Option TypeId) (c : Class) (h : Held) (at : Pos) → IsCalmHeld h → MayBeCalm (judge.bound_value e first (entity of c h at))
  bound_value_calm first None c h at calm = tt
  bound_value_calm first (Some t) c h at calm = either MayBeCalm (desig.is_procedural e t) _ _ (read_calm (Some t) h calm) tt

  bound_head_calm : (h : Head) → MayBeCalm (judge.bound_head e h)
  bound_head_calm h = by (judge.own_method e h) (own_method_calm h)
    where
      value : (o : Option Entity) → ((a : Entity) → o ≡ Some a → IsCalm a) → MayBeCalm (option_and_then (judge.bound_value e h.first) o)
      value None calm = tt
      value (Some a) calm = bound_value_calm h.first a.known.of a.known.class a.held a.at (calm a refl)

      meant : (x : Symbol) (m : Meaning) (at : Pos) (a : Entity) → desig.variable_meant e x m at ≡ Some a → IsCalm a
      meant x (means.Variable k) at a is = subst IsCalm (same_Some (desig.variable_entity e x k at) a is) (variable_entity_calm e x k at)
      meant x m at a is = absurd (none-some a is)

      found : (l : Lookup) (n : Name) (first : Pos) (a : Entity) → desig.variable_named e (record { found = l; name = n; first = first }) ≡ Some a → IsCalm a
      found NoName n first a is = absurd (none-some a is)
      found NotExported n first a is = absurd (none-some a is)
      found (Found x) n first a is = meant x x.means n.pos a is

      by : (o : Option judge.Bound) → MayBeCalm o → MayBeCalm (option_or o (option_and_then (judge.bound_value e h.first) (desig.variable_named e h)))
      by (Some b) calm = calm
      by None calm = value (desig.variable_named e h) (found h.found h.name h.first)

  bound_calm : (first : Pos) (a : judge.Part) → IsCalmPart a → IsCalmPart (judge.bound_part e first a)
  bound_calm first a calm = by a calm
    where
      bound_or : (a : judge.Part) → IsCalmPart a → (o : Option judge.Bound) → MayBeCalm o → IsCalmPart (judge.bound_or a o)
      bound_or a calm None other = calm
      bound_or a calm (Some b) other = other

      by : (a : judge.Part) → IsCalmPart a → IsCalmPart (judge.bound_part e first a)
      by (judge.Begun h) calm = bound_or (judge.Begun h) calm (judge.bound_head e h) (bound_head_calm h)
      by (judge.Meant a) calm = bound_or (judge.Meant a) calm (judge.bound_value e first a) (bound_value_calm first a.known.of a.known.class a.held a.at calm)
      by (judge.Waits b) calm = calm

  bracketed_calm : (first : Pos) (a : judge.Part) → IsCalmPart a → (p : Pos) (js : List (Judged Answer)) → AreCalm js → (xs : List TreeExpr) →
      IsCalmPart (judge.bracketed_as e first a p js xs).answer
  bracketed_calm first (judge.Begun h) calm p js are xs =
      either IsCalmBehind (desig.is_module h.found) _ _ (named_calm e h)
      (called_calm (judge.callee h.found) h p js xs are)
  bracketed_calm first (judge.Meant a) calm p js are xs = bracket_calm e first p a.known.of a.known.class a.held a.at (judge.guard_type e xs) calm
  bracketed_calm first (judge.Waits b) calm p js are xs = invoked_calm b.first b.callee b.heading js xs

  relation_by : (first at : Pos) (o : RelationOp) (a : Answer) → Calm a → (right : Simple) → Calm (judge.simple e right).answer → (b : Bool) →
      Calm (if b then judge.tested e at a (judge.qualident_in right) else bind (judge.simple e right) (λ b. judge.related_by e first at o a b)).answer
  relation_by first at o a calm right is true = tested_calm e at a (judge.qualident_in right) calm
  relation_by first at o a calm right is false = related_calm e first at o a (judge.simple e right).answer calm is

  mutual
    expr_calm : (x : TreeExpr) → Calm (judge.expr e x).answer
    expr_calm (Expr' at left shape row) = relation_of_calm at (judge.simple e left).answer (simple_calm left) row

    relation_of_calm : {m : _} (first : Pos) (a : Answer) → Calm a → (r : Row_of-Relation m) → Calm (judge.relation_of e first a r).answer
    relation_of_calm first a calm end_of-Relation = calm
    relation_of_calm first a calm (more_of-Relation r rs) = relation_calm first a calm r

    relation_calm : (first : Pos) (a : Answer) → Calm a → (r : TreeRelation) → Calm (judge.relation e first a r).answer
    relation_calm first a calm (Relation' at o right) = relation_by first at o a calm right (simple_calm right) (judge.is_test o)

    simple_calm : (x : Simple) → Calm (judge.simple e x).answer
    simple_calm (Simple' at sign first shape rest) =
        let a = (judge.term e first).answer in
        additions_calm at (judge.signed sign at a).answer (signed_calm sign at a (term_calm first)) rest

    additions_calm : {m : _} (first : Pos) (a : Answer) → Calm a → (r : Row_of-Addition m) → Calm (judge.additions e first a r).answer
    additions_calm first a calm end_of-Addition = calm
    additions_calm first a calm (more_of-Addition x xs) = additions_calm first (judge.addition e first a x).answer (addition_calm first a calm x) xs

    addition_calm : (first : Pos) (a : Answer) → Calm a → (x : Addition) → Calm (judge.addition e first a x).answer
    addition_calm first a calm (Addition' at o right) = joined_calm (op.added o a.known.of (judge.term e right).answer.known.of) a (judge.term e right).answer calm (term_calm right)

    term_calm : (x : Term) → Calm (judge.term e x).answer
    term_calm (Term' at first shape rest) = products_calm at (judge.factor e first).answer (factor_calm first) rest

    products_calm : {m : _} (first : Pos) (a : Answer) → Calm a → (r : Row_of-Product m) → Calm (judge.products e first a r).answer
    products_calm first a calm end_of-Product = calm
    products_calm first a calm (more_of-Product at o right xs) =
        let b = (judge.factor e right).answer in
        products_calm first (judge.multiplied first at o a b).answer (joined_calm (op.multiplied o a.known.of b.known.of) a b calm (factor_calm right)) xs

    factor_calm : (x : Factor) → Calm (judge.factor e x).answer
    factor_calm (f.Desig' n shape row) =
        let a = (judge.selectors e n.pos (judge.Begun (desig.plain e n)) row).answer in
        let b = (judge.entity_of_part e a).answer in
        read_calm b.known.of b.held (entity_calm a (selectors_calm n.pos (judge.Begun (desig.plain e n)) tt row))
    factor_calm (f.Number p n) = number_calm (if_within W64 n) p
    factor_calm (f.Char p n) = character_calm (natural 256 n) p
    factor_calm (f.Text t) = string_calm (env.text_constant e t.start) t.pos
    factor_calm (f.Nil p) = tt
    factor_calm (f.Set' p shape row) = elements_calm p op.no_elements tt row
    factor_calm (f.Paren' p shape row) = held_calm row
    factor_calm (f.Not' p shape row) = stepped_calm (op.opposite (judge.held_factor e row).answer.known.of) (judge.held_factor e row).answer (held_factor_calm row)

    held_calm : {m : _} (r : Row_of-Expr m) → Calm (judge.held e r).answer
    held_calm end_of-Expr = tt
    held_calm (more_of-Expr x xs) = expr_calm x

    held_factor_calm : {m : _} (r : Row_of-Factor m) → Calm (judge.held_factor e r).answer
    held_factor_calm end_of-Factor = tt
    held_factor_calm (more_of-Factor x xs) = factor_calm x

    elements_calm : {m : _} (at : Pos) (a : Answer) → Calm a → (r : Row_of-Elem m) → Calm (judge.elements e at a r).answer
    elements_calm at a calm end_of-Elem = calm
    elements_calm at a calm (more_of-Elem x xs) = elements_calm at (judge.element e at a x).answer (element_of_set_calm at a calm x) xs

    element_of_set_calm : (at : Pos) (a : Answer) → Calm a → (x : Elem) → Calm (judge.element e at a x).answer
    element_of_set_calm at a calm (Elem' x shape row) = up_to_calm at a (judge.expr e x).answer calm (expr_calm x) row

    up_to_calm : {m : _} (at : Pos) (a b : Answer) → Calm a → Calm b → (r : Row_of-Expr m) → Calm (judge.up_to e at a b r).answer
    up_to_calm at a b calm is end_of-Expr = joined_calm op.union a (op.stepped (op.one_element b.known.of) b) calm (stepped_calm (op.one_element b.known.of) b is)
    up_to_calm at a b calm is (more_of-Expr y ys) =
        let c = (judge.expr e y).answer in
        let o = op.span b.known.of c.known.of in
        joined_calm op.union a (op.joined o b c) calm (joined_calm o b c is (expr_calm y))

    selectors_calm : {m : _} (first : Pos) (a : judge.Part) → IsCalmPart a → (r : Row_of-Selector m) → IsCalmPart (judge.selectors e first a r).answer
    selectors_calm first a calm end_of-Selector = calm
    selectors_calm first a calm (more_of-Selector x xs) = selectors_calm first (judge.selector e first a x).answer (selector_calm first a calm x) xs

    selector_calm : (first : Pos) (a : judge.Part) → IsCalmPart a → (x : Selector) → IsCalmPart (judge.selector e first a x).answer
    selector_calm first a calm (s.Field p n) = pointed_calm first a calm p n
    selector_calm first a calm (s.Index' p shape row) = indices_calm p (judge.selected e p a).answer (selected_calm p a calm) row
    selector_calm first a calm (s.Follow p) = followed_part_calm a calm p
    selector_calm first a calm (s.Paren' p shape row) =
        bracketed_calm first (judge.bound_part e first a) (bound_calm first a calm) p (judge.arguments e row) (arguments_calm row) (items-the_row-Expr _ row)

    indices_calm : {m : _} (at : Pos) (a : Entity) → IsCalm a → (r : Row_of-Expr m) → IsCalm (judge.indices e at a r).answer
    indices_calm at a calm end_of-Expr = calm
    indices_calm at a calm (more_of-Expr x xs) =
        indices_calm at (desig.element e at a (judge.expr e x).answer).answer (element_calm e at a (judge.expr e x).answer calm (expr_calm x)) xs

    arguments_calm : {m : _} (r : Row_of-Expr m) → AreCalm (judge.arguments e r)
    arguments_calm end_of-Expr = tt
    arguments_calm (more_of-Expr x xs) = (expr_calm x, arguments_calm xs)

  pub condition_calm : (x : TreeExpr) → HasNoCalls (judge.condition e x).answer
  condition_calm x = expr_calm x
