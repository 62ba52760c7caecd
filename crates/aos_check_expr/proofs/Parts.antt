-- Parts of expressions that break no rule: what is known of their values, and that they are sound where the environment is whole.
use Rattle.std.proofs.Common.{◌≡◌, ℕ, ◌<◌, ℤ, List, [], ◌++◌, Bool, true, false, ◌&&◌, not, inl, Option, Some, None, if◌then◌else◌, refl, sym, ap, subst, arith}
use Rattle.std.proofs.lemmas.Bool.{and_parts}
use Rattle.aos_base.specs.declared.text.Pos.{Pos}
use Rattle.aos_base.specs.declared.number.Width.TheVariants.{W64}
use Rattle.aos_base.specs.declared.operator.Binary.TheVariants as two
use Rattle.aos_base.specs.Number.{IsWithin}
use Rattle.aos_base.specs.Operators.{binary as binary_of}
use Rattle.aos_tree.specs.declared.expr.RelationOp.{RelationOp}
use Rattle.aos_tree.specs.declared.expr.AddOp.{AddOp}
use Rattle.aos_tree.specs.declared.expr.MulOp.{MulOp}
use Rattle.aos_tree.specs.declared.expr.Sign.{Sign}
use Rattle.aos_types.specs.declared.row.TypeId.{TypeId}
use Rattle.aos_typed.specs.declared.tree.Literal.{Literal}
use Rattle.aos_typed.specs.declared.tree.Literal.TheVariants as literal
use Rattle.aos_typed.specs.declared.tree.TextConstant.{TextConstant}
use Rattle.aos_typed.specs.declared.tree.TType.TheVariants as type
use Rattle.aos_typed.specs.Program.{Place, Expr, Read, Binary, Element}
use Rattle.aos_symbols.specs.declared.breach.Breach.{Breach}
use Rattle.aos_symbols.specs.declared.env.Env.{Env}
use Rattle.aos_symbols.specs.Breaches.{breach_unless}
use Rattle.aos_symbols.specs.Judged.{Judged}
use Rattle.aos_symbols.specs.Env.{set}
use Rattle.aos_symbols.proofs.Holds.{Holds, none_left, none_right, test_is, broken}
use Rattle.aos_known.proofs.Inside.{Inside, IsOf}
use Rattle.aos_known.specs.declared.known.Class.{Class}
use Rattle.aos_known.specs.declared.known.Class.TheVariants.{Unknown, Constant, Variable, ReadOnly, Computed, Procedure}
use Rattle.aos_operators.specs.declared.operations.Single.TheVariants as single
use Rattle.aos_operators.specs.declared.operations.Joint.TheVariants as joint
use Rattle.aos_operators.specs.declared.operations.Step.{Step}
use Rattle.aos_operators.specs.declared.operations.Operation.{Operation}
use Rattle.aos_known.specs.Known.{Answer, is_number, is_lost, lost, answered, constant_answer, type_of_literal, type_of}
use Rattle.aos_operators.specs.Operations as op
use Rattle.aos_operators.proofs.Stored.{IsStored, IsMade, not_stored, made_of_one, made_of, made_kept}
use Rattle.aos_operators.proofs.Good.{IsGood, IsSet, MayBe, IsKnownClass, number_good, set_type, set_good, set_given, single_good, joint_good, class_of_one_known, class_of_known}
use Rattle.aos_operators.proofs.Sound.{not_both, IsSound, IsPlain, basic_some, literal_none, literal_typed, plain_sound, sound_number, IsStep, IsOperation, TestsOne, TestsTwo, stepped_plain, joined_plain, signed_step, signed_tests, opposite_step, opposite_tests, added_operation, added_tests, multiplied_operation, multiplied_tests, related_operation, related_tests, shifted_operation, shifted_tests}
use Rattle.aos_check_expr.specs.Expressions as judge
use Rattle.aos_check_expr.proofs.Whole.{IsWhole}
use Rattle.aos_check_expr.proofs.Naming.{IsNaming, naming_made}

-- of a part's class, that it is known, with a good value where it is constant; a variable is read; the part is sound in an environment of
-- bodies, and where it is a procedure that is named, it is the one whose signature it names
pub record IsPart (p : Inside) (e : Env) (a : Answer) : Type 0 where
  pub class : IsKnownClass IsGood a.known.class
  pub valued : not (is_lost a.known.class) ≡ true
  pub read : IsStored a.known.class → (place : Place) × (a.typed ≡ Read (type_of a.known.of) place)
  pub sound : IsWhole p e → IsSound p a
  pub named : IsWhole p e → IsNaming p e a.known.class a.typed

-- the same of one whose value is of a basic type
pub record IsValue (p : Inside) (e : Env) (a : Answer) : Type 0 where
  pub class : IsKnownClass IsGood a.known.class
  pub valued : not (is_lost a.known.class) ≡ true
  pub made : IsMade a.known.class
  pub plain : IsWhole p e → IsPlain p a

-- of the elements of a set so far: they may be constants that have no value, since the whole needn't be constant
pub record AreElements (p : Inside) (e : Env) (a : Answer) : Type 0 where
  pub class : IsKnownClass IsSet a.known.class
  pub made : IsMade a.known.class
  pub known : not (is_lost a.known.class) ≡ true → a.known.of ≡ Some set
  pub typed : IsWhole p e → IsOf p a.typed type.Set

-- the class of an answer
pub class_answered : (P : Class → Type 0) (c : Class) (of : Option TypeId) (x : Expr) → P c → P (answered c of x).known.class
class_answered P (Constant (Some v)) of x h = h
class_answered P (Constant None) of x h = h
class_answered P Unknown of x h = h
class_answered P Variable of x h = h
class_answered P ReadOnly of x h = h
class_answered P Computed of x h = h
class_answered P (Procedure m n) of x h = h

kept_class_is : (P : Class → Type 0) (b : Bool) (c : Class) → b ≡ true → P c → P (op.kept_class b c)
kept_class_is P true c e h = h
kept_class_is P false c e h = absurd (cc)

-- the class of what is done to one operand, and to two
stepped_class : (P : Literal → Type 0) (s : Step) (a : Answer) → ((l : Literal) → IsGood l → MayBe P (op.single_value s.single l)) → s.is_kept ≡ true →
    IsKnownClass IsGood a.known.class → IsKnownClass P (op.stepped s a).known.class
stepped_class P s a each k g =
    let c = op.class_of_one s.single a.known.class in
    class_answered (IsKnownClass P) (op.kept_class s.is_kept c) (op.kept_type s.is_kept s.of) (op.single_typed s.single a.typed)
    (kept_class_is (IsKnownClass P) s.is_kept c k (class_of_one_known P s.single each a.known.class g))

joined_class : (P : Literal → Type 0) (o : Operation) (a b : Answer) → ((l m : Literal) → IsGood l → IsGood m → MayBe P (op.joint_value o.joint l m)) → o.is_kept ≡ true →
    IsKnownClass IsGood a.known.class → IsKnownClass IsGood b.known.class → IsKnownClass P (op.joined o a b).known.class
joined_class P o a b each k g h =
    let c = op.class_of o.joint a.known.class b.known.class in
    class_answered (IsKnownClass P) (op.kept_class o.is_kept c) (op.kept_type o.is_kept o.of) (op.joint_typed o.joint a.typed b.typed)
    (kept_class_is (IsKnownClass P) o.is_kept c k (class_of_known P o.joint each a.known.class b.known.class g h))

-- and that it is no variable's
stepped_made : (s : Step) (a : Answer) → IsMade (op.stepped s a).known.class
stepped_made s a =
    let c = op.class_of_one s.single a.known.class in
    class_answered IsMade (op.kept_class s.is_kept c) (op.kept_type s.is_kept s.of) (op.single_typed s.single a.typed)
    (made_kept s.is_kept c (made_of_one s.single a.known.class))

joined_made : (o : Operation) (a b : Answer) → IsMade (op.joined o a b).known.class
joined_made o a b =
    let c = op.class_of o.joint a.known.class b.known.class in
    class_answered IsMade (op.kept_class o.is_kept c) (op.kept_type o.is_kept o.of) (op.joint_typed o.joint a.typed b.typed)
    (made_kept o.is_kept c (made_of o.joint a.known.class b.known.class))

and_true : (a b : Bool) → a ≡ true → b ≡ true → (a && b) ≡ true
and_true true b e f = f
and_true false b e f = absurd (cc)

known_class_on : (P Q : Literal → Type 0) → ((l : Literal) → P l → Q l) → (c : Class) → IsKnownClass P c → IsKnownClass Q c
known_class_on P Q on (Constant (Some v)) h = on v h
known_class_on P Q on (Constant None) h = tt
known_class_on P Q on Unknown h = absurd h
known_class_on P Q on Variable h = tt
known_class_on P Q on ReadOnly h = tt
known_class_on P Q on Computed h = tt
known_class_on P Q on (Procedure m n) h = tt

module _ (p : Inside) (e : Env) where
  abbrev Part : Answer → Type 0
  Part = IsPart p e

  abbrev Valued : Answer → Type 0
  Valued = IsValue p e

  pub as_part : (j : Judged Answer) → Holds Valued j → Holds Part j
  as_part j h none =
      let x = h none in
      record {
        class = x.class;
        valued = x.valued;
        read = λ s. absurd (not_stored j.answer.known.class x.made s);
        sound = λ w. plain_sound p j.answer (x.plain w);
        named = λ w. naming_made p e j.answer.known.class j.answer.typed x.made;
      }

  -- Operators.

  step_part : (f : Option TypeId → Step) → IsStep p f → TestsOne f → (first : Pos) (own : List Breach) (a : Answer) → (own ≡ [] → (f a.known.of).is_kept ≡ true) → Part a →
      Holds Valued (op.told first own (op.stepped (f a.known.of) a))
  step_part f right tests first own a test x free =
      let s = f a.known.of in
      let k : s.is_kept ≡ true = test (none_left own (lost (op.stepped s a).known.class first) free) in
      let v = test_is (not (is_lost (op.stepped s a).known.class)) 20 first (none_right own (lost (op.stepped s a).known.class first) free) in
      record {
        class = stepped_class IsGood s a (single_good s.single) k x.class;
        valued = v;
        made = stepped_made s a;
        plain = λ w. stepped_plain p f right tests a (x.sound w) x.class k v;
      }

  operation_part : (f : Option TypeId → Option TypeId → Operation) → IsOperation p f → TestsTwo f → (first : Pos) (own : List Breach) (a b : Answer) →
      (own ≡ [] → (f a.known.of b.known.of).is_kept ≡ true) → Part a → Part b → Holds Valued (op.told first own (op.joined (f a.known.of b.known.of) a b))
  operation_part f right tests first own a b test x y free =
      let o = f a.known.of b.known.of in
      let k : o.is_kept ≡ true = test (none_left own (lost (op.joined o a b).known.class first) free) in
      let v = test_is (not (is_lost (op.joined o a b).known.class)) 20 first (none_right own (lost (op.joined o a b).known.class first) free) in
      record {
        class = joined_class IsGood o a b (joint_good o.joint) k x.class y.class;
        valued = v;
        made = joined_made o a b;
        plain = λ w. joined_plain p f right tests a b (x.sound w) (y.sound w) x.class y.class k v;
      }

  pub added_part : (first at : Pos) (o : AddOp) (a b : Answer) → Part a → Part b → Holds Part (judge.added first at o a b)
  added_part first at o a b x y =
      as_part (judge.added first at o a b)
      (operation_part (op.added o) (added_operation p o) (added_tests o) first (breach_unless (op.added o a.known.of b.known.of).is_kept 30 at) a b (test_is _ 30 at) x y)

  pub multiplied_part : (first at : Pos) (o : MulOp) (a b : Answer) → Part a → Part b → Holds Part (judge.multiplied first at o a b)
  multiplied_part first at o a b x y =
      as_part (judge.multiplied first at o a b)
      (operation_part (op.multiplied o) (multiplied_operation p o) (multiplied_tests o) first (breach_unless (op.multiplied o a.known.of b.known.of).is_kept 30 at) a b (test_is _ 30 at) x y)

  -- a relation, where that of two texts is a part
  abbrev pub related_texts : Pos → RelationOp → Answer → Answer → Judged Answer
  related_texts first o a b = op.told first [] (judge.texts_related e (judge.relation_in o) a b)

  -- and one of two objects
  abbrev pub related_objects : Pos → Pos → RelationOp → Answer → Answer → Judged Answer
  related_objects first at o a b = op.operands first at (op.identified (judge.relation_in o) (judge.are_comparable e a.known.of b.known.of)) a b

  pub related_part : (first at : Pos) (o : RelationOp) (a b : Answer) → judge.is_test o ≡ false →
      (judge.compares_texts e o a.known b.known ≡ true → Holds Part (related_texts first o a b)) →
      (judge.compares_procedures e o a.known.of b.known.of ≡ true → Holds Part (judge.procedures_related e first at o a b)) →
      (judge.compares_objects e o a.known.of b.known.of ≡ true → Holds Part (related_objects first at o a b)) →
      Part a → Part b → Holds Part (judge.related_by e first at o a b)
  related_part first at o a b i texts procedures objects x y =
      by (judge.compares_texts e o a.known b.known) refl (judge.compares_procedures e o a.known.of b.known.of) refl (judge.compares_objects e o a.known.of b.known.of) refl
    where
      operated : Judged Answer
      operated = op.operands first at (op.related o a.known.of b.known.of) a b

      by : (v : Bool) → judge.compares_texts e o a.known b.known ≡ v → (u : Bool) → judge.compares_procedures e o a.known.of b.known.of ≡ u →
          (w : Bool) → judge.compares_objects e o a.known.of b.known.of ≡ w →
          Holds Part (if v then related_texts first o a b else if u then judge.procedures_related e first at o a b else op.operands first at (if w then op.identified (judge.relation_in o) (judge.are_comparable e a.known.of b.known.of) else op.related o a.known.of b.known.of) a b)
      by true k u h w l = texts k
      by false k true h w l = procedures h
      by false k false h true l = objects l
      by false k false h false l =
          as_part operated
          (operation_part (op.related o) (related_operation p o i) (related_tests o i) first (breach_unless (op.related o a.known.of b.known.of).is_kept 30 at) a b (test_is _ 30 at) x y)

  pub signed_part : (g : Option Sign) (at : Pos) (a : Answer) → Part a → Holds Part (judge.signed g at a)
  signed_part None at a x = λ none. x
  signed_part (Some g) at a x =
      as_part (judge.signed (Some g) at a) (step_part (op.signed g) (signed_step p g) (signed_tests g) at (breach_unless (op.signed g a.known.of).is_kept 30 at) a (test_is _ 30 at) x)

  pub opposite_part : (at : Pos) (a : Answer) → Part a → Holds Part (judge.opposite at a)
  opposite_part at a x =
      as_part (judge.opposite at a) (step_part op.opposite (opposite_step p) opposite_tests at (breach_unless (op.opposite a.known.of).is_kept 30 at) a (test_is _ 30 at) x)

  -- Predeclared functions and conversions, of one argument and of two.

  pub argument_part : (f : Option TypeId → Step) → IsStep p f → TestsOne f → (at first : Pos) (a : Answer) → Part a → Holds Valued (judge.one_argument at first (f a.known.of) a)
  argument_part f right tests at first a x = step_part f right tests at (op.argument (f a.known.of).is_kept first) a (test_is _ 35 first) x

  pub arguments_part : (at first second : Pos) (a b : Answer) → Part a → Part b → Holds Valued (judge.two_arguments at first second a b)
  arguments_part at first second a b = operation_part op.shifted (shifted_operation p) shifted_tests at (op.argument (is_number a.known.of) first ++ op.argument (is_number b.known.of) second) a b both
    where
      both : (op.argument (is_number a.known.of) first ++ op.argument (is_number b.known.of) second) ≡ [] → (op.shifted a.known.of b.known.of).is_kept ≡ true
      both free =
          let i = test_is (is_number a.known.of) 35 first (none_left (op.argument (is_number a.known.of) first) (op.argument (is_number b.known.of) second) free) in
          let j = test_is (is_number b.known.of) 35 second (none_right (op.argument (is_number a.known.of) first) (op.argument (is_number b.known.of) second) free) in
          and_true (is_number a.known.of) (is_number b.known.of) i j

  -- Literals.

  pub constant_part : (v : Literal) → IsGood v → Valued (constant_answer v)
  constant_part v g = record { class = g; valued = refl; made = tt; plain = λ w. record { of = type_of_literal v; known = refl; none = literal_none p v g; typed = literal_typed p v g } }

  pub number_part : (o : Option ℤ) → MayBe (IsWithin W64) o → (at : Pos) → Holds Part (judge.number o at)
  number_part None h at = broken Part _ [] _
  number_part (Some n) h at = as_part (judge.number (Some n) at) (λ none. constant_part (literal.Int n) (number_good n h))

  pub character_part : (o : Option ℕ) → MayBe (λ c. c < 256) o → (at : Pos) → Holds Part (judge.character o at)
  character_part None h at = broken Part _ [] _
  character_part (Some c) h at = as_part (judge.character (Some c) at) (λ none. constant_part (literal.Char c) h)

  pub string_part : (o : Option TextConstant) → MayBe (λ t. t.first < 256) o → (at : Pos) → Holds Part (judge.string o at)
  string_part None h at = broken Part _ [] _
  string_part (Some t) h at = as_part (judge.string (Some t) at) (λ none. constant_part (literal.Text t) h)

  pub limit_part : (o : Option Literal) → MayBe IsGood o → (at : Pos) → Holds Valued (judge.limit_value o at)
  limit_part None h at = broken Valued _ [] _
  limit_part (Some v) h at = λ none. constant_part v h

  -- Sets.

  abbrev pub Elements : Answer → Type 0
  Elements = AreElements p e

  set_answered : (c : Class) (x : Expr) → IsKnownClass IsSet c → IsMade c → (IsWhole p e → IsOf p x type.Set) → Elements (answered c (Some set) x)
  set_answered (Constant (Some v)) x g m h = record { class = g; made = m; known = λ l. ap (λ t. Some t) (set_type v g); typed = λ w. inl g }
  set_answered (Constant None) x g m h = record { class = g; made = m; known = λ l. absurd (not_both (sym l)); typed = h }
  set_answered Unknown x g m h = absurd g
  set_answered Variable x g m h = absurd m
  set_answered ReadOnly x g m h = absurd m
  set_answered (Procedure k n) x g m h = absurd m
  set_answered Computed x g m h = record { class = g; made = m; known = λ l. refl; typed = h }

  pub no_elements : Elements op.no_elements
  no_elements = record { class = omega arith; made = tt; known = λ l. refl; typed = λ w. inl (omega arith) }

  -- one element, and those from one to another
  element_of : (x : Answer) → Part x → (op.one_element x.known.of).is_kept ≡ true → Elements (op.stepped (op.one_element x.known.of) x)
  element_of x h k =
      let c = class_of_one_known IsSet single.Element (λ a g. set_given (binary_of two.SetSpan (op.number a) (op.number a))) x.known.class h.class in
      subst (λ b. Elements (answered (op.kept_class b (op.class_of_one single.Element x.known.class)) (op.kept_type b (Some set)) (Element x.typed))) (sym k)
      (set_answered (op.class_of_one single.Element x.known.class) (Element x.typed) c (made_of_one single.Element x.known.class) (λ w. (sound_number p x (h.sound w) k, refl)))

  span_of : (x y : Answer) → Part x → Part y → (op.span x.known.of y.known.of).is_kept ≡ true → Elements (op.joined (op.span x.known.of y.known.of) x y)
  span_of x y g h k =
      let j = joint.On two.SetSpan in
      let c = class_of_known IsSet j (λ a b u v. set_given (binary_of two.SetSpan (op.number a) (op.number b))) x.known.class y.known.class g.class h.class in
      let i = and_parts (is_number x.known.of) (is_number y.known.of) k in
      subst (λ b. Elements (answered (op.kept_class b (op.class_of j x.known.class y.known.class)) (op.kept_type b (Some set)) (Binary two.SetSpan x.typed y.typed))) (sym k)
      (set_answered (op.class_of j x.known.class y.known.class) (Binary two.SetSpan x.typed y.typed) c (made_of j x.known.class y.known.class) (λ w. ((sound_number p x (g.sound w) i.0, sound_number p y (h.sound w) i.1), refl)))

  union_of : (a x : Answer) → Elements a → Elements x → Elements (op.joined op.union a x)
  union_of a x g h =
      let j = joint.On two.Union in
      let c =
      class_of_known IsSet j (λ a b u v. set_given (binary_of two.Union (op.number a) (op.number b))) a.known.class x.known.class
      (known_class_on IsSet IsGood set_good a.known.class g.class) (known_class_on IsSet IsGood set_good x.known.class h.class) in
      set_answered (op.class_of j a.known.class x.known.class) (Binary two.Union a.typed x.typed) c (made_of j a.known.class x.known.class) (λ w. ((g.typed w, h.typed w), refl))

  pub with_element_part : (at : Pos) (a x : Answer) → Elements a → Part x → Holds Elements (judge.with_element at a x)
  with_element_part at a x g h none = union_of a (op.stepped (op.one_element x.known.of) x) g (element_of x h (test_is (op.one_element x.known.of).is_kept 30 at none))

  pub with_span_part : (at : Pos) (a x y : Answer) → Elements a → Part x → Part y → Holds Elements (judge.with_span at a x y)
  with_span_part at a x y g h k none = union_of a (op.joined (op.span x.known.of y.known.of) x y) g (span_of x y h k (test_is (op.span x.known.of y.known.of).is_kept 30 at none))

  pub whole_part : (at : Pos) (a : Answer) → Elements a → Holds Part (judge.whole_set at a)
  whole_part at a h free = record {
    class = known_class_on IsSet IsGood set_good a.known.class h.class;
    valued = v;
    read = λ s. absurd (not_stored a.known.class h.made s);
    sound = λ w. record { of = set; known = h.known v; none = basic_some p set refl; typed = inl (refl, h.typed w) };
    named = λ w. naming_made p e a.known.class a.typed h.made;
  }
    where
      v : not (is_lost a.known.class) ≡ true
      v = test_is (not (is_lost a.known.class)) 20 at free
