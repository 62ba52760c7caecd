-- Objects that are compared or tested, and records that are tested, are sound where no rule is broken.
use Rattle.std.proofs.Common.{◌≡◌, ◌<◌, length, Bool, true, false, ◌&&◌, ◌||◌, ◌⊎◌, inl, inr, not, [], Option, Some, None, is_some, if◌then◌else◌, refl, sym, ap, ◌∙◌, subst, arith}
use Rattle.std.proofs.lemmas.Bool.{and_parts}
use Rattle.aos_base.specs.declared.text.Pos.{Pos}
use Rattle.aos_base.specs.declared.number.Relation.{Relation}
use Rattle.aos_base.specs.declared.number.Relation.TheVariants as rel
use Rattle.aos_tree.specs.declared.name.Qualident.{Qualident}
use Rattle.aos_tree.specs.declared.expr.RelationOp.{RelationOp}
use Rattle.aos_types.specs.declared.row.TypeId.{TypeId}
use Rattle.aos_types.specs.declared.row.TypeRow.{TypeRow}
use Rattle.aos_types.specs.declared.row.TypeRow.TheVariants as row
use Rattle.aos_types.specs.Table.{row_of, is_record, is_open}
use Rattle.aos_typed.specs.declared.tree.TType.{TType}
use Rattle.aos_typed.specs.declared.tree.TType.TheVariants as type
use Rattle.aos_typed.specs.Program.{Place, Expr, Lit, Is, IsRecord}
use Rattle.aos_typed.specs.declared.tree.Literal.TheVariants as literal
use Rattle.aos_typed.specs.WellTyped.{is_reference as is_reference_type, is_procedural as is_procedural_type}
use Rattle.aos_symbols.specs.declared.env.Env.{Env}
use Rattle.aos_symbols.specs.Env as env
use Rattle.aos_symbols.specs.Env.{boolean, nil}
use Rattle.aos_symbols.proofs.Holds.{Holds, holds_bind, none_left, none_right, test_is, broken}
use Rattle.aos_known.proofs.Inside.{Inside, IsPlaceOf, IsOf, IsNamed}
use Rattle.aos_known.specs.declared.known.Class.TheVariants.{Computed}
use Rattle.aos_operators.specs.declared.operations.Operation.{Operation}
use Rattle.aos_known.specs.Known.{Answer, is, is_basic, is_of_any, is_lost, is_nil, type_as, answered, as_procedure, object_number}
use Rattle.aos_operators.specs.Operations as op
use Rattle.aos_known.proofs.Types.{not_both, same_type}
use Rattle.aos_operators.proofs.Good.{IsGood, IsKnownClass, joint_good, class_of_known}
use Rattle.aos_operators.proofs.Stored.{IsMade, not_stored, made_of}
use Rattle.aos_operators.proofs.Sound.{IsScalar, IsClosedPlace, IsOpenPlace, IsWholeRead, IsOther, IsSound, plain_sound, answered_plain}
use Rattle.aos_values.specs.TypeNames.{last_name}
use Rattle.aos_designators.specs.Designators as desig
use Rattle.aos_check_expr.specs.Expressions as judge
use Rattle.aos_check_expr.proofs.Naming.{naming_made}
use Rattle.aos_check_expr.proofs.Parts.{class_answered, related_objects}
use Rattle.aos_check_expr.proofs.Whole.{IsWhole}
use Rattle.aos_check_expr.proofs.Objects.{either_is, IsReference, IsPartsRow, high_row, reference_kind, of_any_type, sound_object, parts_no_reference, record_no_reference, routine_no_parts}
use Rattle.aos_check_expr.proofs.Pointed.{extends_reference, no_extension, made_there, names_passed, record_told, extension_named}
use Rattle.aos_check_expr.proofs.Callable.{procedural_row, procedural_typed, callable_own, named_held}
use Rattle.aos_check_expr.proofs.Entities.{Part}

module _ (p : Inside) (e : Env) where
  abbrev HasObject : Expr → Type 0
  HasObject x = (u : TType) × IsOf p x u × (is_reference_type p.program.types u ≡ true)

  object_held : IsWhole p e → (a : Answer) (s : IsSound p a) → desig.is_reference e s.of ≡ true → HasObject a.typed
  object_held whole a s is = (type.Any, of_any_type p e whole s.of a.typed (sound_object p e whole a s is), refl)

  -- operands that are comparable are objects
  pointer_object : (t : TypeId) → (is_of_any t || desig.is_pointer_type e t) ≡ true → desig.is_reference e t ≡ true
  pointer_object t is = by (is_of_any t) (desig.is_pointer_type e t) (desig.is_object_type e t) is
    where
      by : (a b c : Bool) → (a || b) ≡ true → (a || (b || c)) ≡ true
      by true b c is = refl
      by false true c is = refl
      by false false c is = absurd (not_both (sym is))

  object_object : (t : TypeId) → (is_of_any t || desig.is_object_type e t) ≡ true → desig.is_reference e t ≡ true
  object_object t is = by (is_of_any t) (desig.is_pointer_type e t) (desig.is_object_type e t) is
    where
      by : (a b c : Bool) → (a || c) ≡ true → (a || (b || c)) ≡ true
      by true b c is = refl
      by false true c is = refl
      by false false c is = is

  comparable : (t u : TypeId) → judge.are_comparable e (Some t) (Some u) ≡ true → (desig.is_reference e t ≡ true) × (desig.is_reference e u ≡ true)
  comparable t u are = by (either_is _ _ are)
    where
      by : ((judge.may_be_pointer e (Some t) && judge.may_be_pointer e (Some u)) ≡ true) ⊎ ((judge.may_be_object e (Some t) && judge.may_be_object e (Some u)) ≡ true) →
          (desig.is_reference e t ≡ true) × (desig.is_reference e u ≡ true)
      by (inl is) = let two = and_parts (judge.may_be_pointer e (Some t)) (judge.may_be_pointer e (Some u)) is in (pointer_object t two.0, pointer_object u two.1)
      by (inr is) = let two = and_parts (judge.may_be_object e (Some t)) (judge.may_be_object e (Some u)) is in (object_object t two.0, object_object u two.1)

  -- what is made of two objects is a truth value
  compared : (r : Relation) (b : Bool) (x y : Expr) → HasObject x → HasObject y → IsOf p (op.joint_typed (op.identified r b).joint x y) type.Boolean
  compared rel.NotEqual b x y h k = ((h, k, refl), refl)
  compared rel.Equal b x y h k = (h, k, refl)
  compared rel.Less b x y h k = (h, k, refl)
  compared rel.LessEqual b x y h k = (h, k, refl)
  compared rel.Greater b x y h k = (h, k, refl)
  compared rel.GreaterEqual b x y h k = (h, k, refl)

  identified_kept : (r : Relation) (b : Bool) → (op.identified r b).is_kept ≡ b
  identified_kept rel.NotEqual b = refl
  identified_kept rel.Equal b = refl
  identified_kept rel.Less b = refl
  identified_kept rel.LessEqual b = refl
  identified_kept rel.Greater b = refl
  identified_kept rel.GreaterEqual b = refl

  identified_of : (r : Relation) (b : Bool) → (op.identified r b).of ≡ Some boolean
  identified_of rel.NotEqual b = refl
  identified_of rel.Equal b = refl
  identified_of rel.Less b = refl
  identified_of rel.LessEqual b = refl
  identified_of rel.Greater b = refl
  identified_of rel.GreaterEqual b = refl

  -- an operation that gives a truth value, where it takes its operands
  operated : (first at : Pos) (q : Operation) → q.of ≡ Some boolean → (a b : Answer) → IsKnownClass IsGood a.known.class → IsKnownClass IsGood b.known.class →
      (IsWhole p e → q.is_kept ≡ true → IsOf p (op.joint_typed q.joint a.typed b.typed) type.Boolean) → Holds (Part p e) (op.operands first at q a b)
  operated first at q of a b g h right none =
      let kept : q.is_kept ≡ true = test_is q.is_kept 30 at (none_left _ _ none) in
      let c = op.class_of q.joint a.known.class b.known.class in
      let typed = op.joint_typed q.joint a.typed b.typed in
      let class = class_of_known IsGood q.joint (joint_good q.joint) a.known.class b.known.class g h in
      let made = made_of q.joint a.known.class b.known.class in
      let own : IsMade (answered c (Some boolean) typed).known.class = class_answered IsMade c (Some boolean) typed made in
      let v = subst (λ z. not (is_lost z.known.class) ≡ true) (joined_is kept) (test_is (not (is_lost (op.joined q a b).known.class)) 20 first (none_right _ _ none)) in
      subst (Part p e) (sym (joined_is kept)) (record {
        class = class_answered (IsKnownClass IsGood) c (Some boolean) typed class;
        valued = v;
        read = λ s. absurd (not_stored (answered c (Some boolean) typed).known.class own s);
        sound = λ w. plain_sound p (answered c (Some boolean) typed) (answered_plain p c boolean typed v class made refl (right w kept));
        named = λ w. naming_made p e (answered c (Some boolean) typed).known.class (answered c (Some boolean) typed).typed own;
      })
    where
      joined_is : q.is_kept ≡ true → op.joined q a b ≡ answered (op.class_of q.joint a.known.class b.known.class) (Some boolean) (op.joint_typed q.joint a.typed b.typed)
      joined_is kept = rw (kept, of) refl

  pub objects_part : (first at : Pos) (o : RelationOp) (a b : Answer) → Part p e a → Part p e b → Holds (Part p e) (related_objects p e first at o a b)
  objects_part first at o a b x y =
      let r = judge.relation_in o in
      let are = judge.are_comparable e a.known.of b.known.of in
      operated first at (op.identified r are) (identified_of r are) a b x.class y.class (λ w kept.
      let s = x.sound w in
      let t = y.sound w in
      let refs = comparable s.of t.of (subst (λ k. judge.are_comparable e (Some s.of) k ≡ true) t.known (subst (λ k. judge.are_comparable e k b.known.of ≡ true) s.known (sym (identified_kept r are) ∙ kept))) in
      compared r are a.typed b.typed (object_held w a s refs.0) (object_held w b t refs.1))

  -- Procedure values that are compared: of procedure types, or procedures that are named, or NIL.

  abbrev HasProcedure : Expr → Type 0
  HasProcedure x = ((u : TType) × IsOf p x u × (is_procedural_type p.program.types u ≡ true)) ⊎ IsNamed p x

  procedure_held : IsWhole p e → (a : Answer) (s : IsSound p a) → judge.may_be_procedure e (Some s.of) ≡ true → HasProcedure (as_procedure a)
  procedure_held whole a s may = by (is_nil a.known.class) refl
    where
      procedural : desig.is_procedural e s.of ≡ true → HasProcedure a.typed
      procedural is = let r = procedural_row p e whole s.of is in inl (type_as s.of, callable_own p e whole a s r.0 r.1 r.2, procedural_typed p e whole s.of r.0 r.1 r.2)

      known : (is (env.procedure e) s.of ≡ true) ⊎ (desig.is_procedural e s.of ≡ true) → HasProcedure a.typed
      known (inl q) = inr (named_held p e whole a s (sym (same_type (env.procedure e) s.of q)))
      known (inr q) = procedural q

      some : is_nil a.known.class ≡ false → (is nil s.of ≡ true) ⊎ ((is (env.procedure e) s.of || desig.is_procedural e s.of) ≡ true) → HasProcedure a.typed
      some other (inl n) = absurd (not_both (sym (s.none (sym (same_type nil s.of n))) ∙ other))
      some other (inr q) = known (either_is (is (env.procedure e) s.of) (desig.is_procedural e s.of) q)

      by : (b : Bool) → is_nil a.known.class ≡ b → HasProcedure (if b then Lit literal.NoProcedure else a.typed)
      by true none = inr refl
      by false other = some other (either_is (is nil s.of) (is (env.procedure e) s.of || desig.is_procedural e s.of) may)

  matched : (r : Relation) (b : Bool) (x y : Expr) → HasProcedure x → HasProcedure y → IsOf p (op.joint_typed (op.matched r b).joint x y) type.Boolean
  matched rel.NotEqual b x y h k = ((h, k, refl), refl)
  matched rel.Equal b x y h k = (h, k, refl)
  matched rel.Less b x y h k = (h, k, refl)
  matched rel.LessEqual b x y h k = (h, k, refl)
  matched rel.Greater b x y h k = (h, k, refl)
  matched rel.GreaterEqual b x y h k = (h, k, refl)

  matched_kept : (r : Relation) (b : Bool) → (op.matched r b).is_kept ≡ b
  matched_kept rel.NotEqual b = refl
  matched_kept rel.Equal b = refl
  matched_kept rel.Less b = refl
  matched_kept rel.LessEqual b = refl
  matched_kept rel.Greater b = refl
  matched_kept rel.GreaterEqual b = refl

  matched_of : (r : Relation) (b : Bool) → (op.matched r b).of ≡ Some boolean
  matched_of rel.NotEqual b = refl
  matched_of rel.Equal b = refl
  matched_of rel.Less b = refl
  matched_of rel.LessEqual b = refl
  matched_of rel.Greater b = refl
  matched_of rel.GreaterEqual b = refl

  pub procedures_part : (first at : Pos) (o : RelationOp) (a b : Answer) → Part p e a → Part p e b → Holds (Part p e) (judge.procedures_related e first at o a b)
  procedures_part first at o a b x y =
      let r = judge.relation_in o in
      let are = judge.may_be_procedure e a.known.of && judge.may_be_procedure e b.known.of in
      operated first at (op.matched r are) (matched_of r are) (judge.procedure_operand a) (judge.procedure_operand b) x.class y.class (λ w kept.
      let s = x.sound w in
      let t = y.sound w in
      let may = and_parts (judge.may_be_procedure e a.known.of) (judge.may_be_procedure e b.known.of) (sym (matched_kept r are) ∙ kept) in
      matched r are (as_procedure a) (as_procedure b)
      (procedure_held w a s (sym (ap (judge.may_be_procedure e) s.known) ∙ may.0)) (procedure_held w b t (sym (ap (judge.may_be_procedure e) t.known) ∙ may.1)))

  -- Type tests.

  pub known_some : (q : Qualident) → Holds (λ (t : Option TypeId). (u : TypeId) × (t ≡ Some u)) (judge.known_type e q)
  known_some q none = by (judge.named_type e q).answer (test_is (is_some (judge.named_type e q).answer) 99 (last_name q).pos (none_right (judge.named_type e q).breaches _ none))
    where
      by : (o : Option TypeId) → is_some o ≡ true → (u : TypeId) × (o ≡ Some u)
      by (Some u) is = (u, refl)
      by None is = absurd (not_both (sym is))

  -- a record that a VAR parameter stands for, in an expression that reads it
  record_tested : IsWhole p e → (a : Answer) (s : IsSound p a) (u : TypeId) → desig.is_record_type e s.of ≡ true → desig.is_extension e s.of u ≡ true → desig.is_passed (desig.place_in a.typed) ≡ true →
      IsOf p (IsRecord (desig.place_in a.typed) (object_number u)) type.Boolean
  record_tested whole a s u of_record extends passed = by s.typed
    where
      own : is_record (row_of e.types s.of) ≡ true
      own = (and_parts (not (is_basic s.of)) _ of_record).1

      named : (place : Place) → IsPlaceOf p place (type_as s.of) → desig.is_passed place ≡ true → IsOf p (IsRecord place (object_number u)) type.Boolean
      named place typed passed =
          (type_as s.of, typed, names_passed p e whole place (type_as s.of) passed (ap is_record (high_row p e whole s.of (record_told p e whole s.of own).0) ∙ own), extension_named p e whole s.of u of_record extends, refl)

      held : (place : Place) → IsClosedPlace p s.of place ⊎ IsOpenPlace p s.of place → desig.is_passed place ≡ true → IsOf p (IsRecord place (object_number u)) type.Boolean
      held place (inl c) passed = named place c.0 passed
      held place (inr o) passed = absurd (no_both (row_of e.types s.of) own (ap (λ rows. is_open (row_of rows s.of)) (sym whole.rows) ∙ o.2))
        where
          no_both : (o : Option TypeRow) → is_record o ≡ true → is_open o ≡ true → ⊥
          no_both (Some (row.Record base fs)) i j = not_both (sym j)
          no_both o i j = not_both (sym i)

      record_row : (o : Option TypeRow) → is_record o ≡ true → (r : TypeRow) × (o ≡ Some r) × IsPartsRow r
      record_row (Some (row.Record base fs)) is = (row.Record base fs, refl, tt)
      record_row o is = absurd (not_both (sym is))

      by : IsScalar p s.of a.typed ⊎ (IsWholeRead p s.of a.typed ⊎ IsOther p s.of a.typed) → IsOf p (IsRecord (desig.place_in a.typed) (object_number u)) type.Boolean
      by (inl c) = absurd (not_both (sym (and_parts (not (is_basic s.of)) _ of_record).0 ∙ ap not c.0))
      by (inr (inl w)) = subst (λ x. IsOf p (IsRecord (desig.place_in x) (object_number u)) type.Boolean) (sym w.2) (held w.1 w.3 (ap (λ x. desig.is_passed (desig.place_in x)) (sym w.2) ∙ passed))
      by (inr (inr (inl t))) = let r = record_row (row_of e.types s.of) own in absurd ((parts_no_reference p e whole s.of r.0 r.1 r.2).0 t)
      by (inr (inr (inr (inl o)))) = let r = record_row (row_of e.types s.of) own in absurd (not_both (sym o.1 ∙ (parts_no_reference p e whole s.of r.0 r.1 r.2).1))
      by (inr (inr (inr (inr q)))) = let r = record_row (row_of e.types s.of) own in absurd (routine_no_parts p e whole s.of a.typed q r.0 r.1 r.2)

  test_typed : IsWhole p e → (a : Answer) (s : IsSound p a) (u : TypeId) → judge.may_test e a (Some u) ≡ true → IsOf p (judge.test_typed e a (Some u)) type.Boolean
  test_typed whole a s u may = rw s.known (by (desig.is_record_type e s.of) refl)
    where
      test : (desig.has_dynamic_type e (desig.is_passed (desig.place_in a.typed)) s.of ≡ true) × (desig.is_extension e s.of u ≡ true)
      test = and_parts _ _ (sym (ap (λ o. desig.may_test e (desig.is_passed (desig.place_in a.typed)) o (Some u)) s.known) ∙ may)

      object : desig.is_reference e s.of ≡ true → IsOf p (Is a.typed (desig.made_number e u)) type.Boolean
      object ref = (object_held whole a s ref, few (reference_kind p e whole u (extends_reference p e whole s.of u (reference_kind p e whole s.of ref) ref test.1)), refl)
        where
          few : IsReference p e whole u → desig.made_number e u < length p.program.objects
          few (inl none) = absurd (no_extension p e whole s.of u (inl none) ref test.1)
          few (inr (inl any)) = absurd (no_extension p e whole s.of u (inr any) ref test.1)
          few (inr (inr m)) = let at = made_there p e whole u m in let objects = whole.objects in let low = at.0 in let high = at.1 in omega (arith, objects, low, high)

      by : (b : Bool) → desig.is_record_type e s.of ≡ b → IsOf p (if b then IsRecord (desig.place_in a.typed) (object_number u) else Is a.typed (desig.made_number e u)) type.Boolean
      by true of_record = record_tested whole a s u of_record test.1 (last (sym (ap (λ r. r || (desig.is_record_type e s.of && desig.is_passed (desig.place_in a.typed))) (record_no_reference p e whole s.of of_record)) ∙ test.0))
        where
          last : (desig.is_record_type e s.of && desig.is_passed (desig.place_in a.typed)) ≡ true → desig.is_passed (desig.place_in a.typed) ≡ true
          last is = (and_parts (desig.is_record_type e s.of) _ is).1
      by false other = object (first (desig.is_reference e s.of) (sym (ap (λ r. desig.is_reference e s.of || (r && desig.is_passed (desig.place_in a.typed))) other) ∙ test.0))
        where
          first : (b : Bool) → (b || false) ≡ true → b ≡ true
          first true is = refl
          first false is = is

  pub tested_part : (at : Pos) (a : Answer) → Part p e a → (q : Option Qualident) → Holds (Part p e) (judge.tested e at a q)
  tested_part at a x None = broken (Part p e) _ [] _
  tested_part at a x (Some q) =
      holds_bind (λ (t : Option TypeId). (u : TypeId) × (t ≡ Some u)) (Part p e) (judge.known_type e q) (λ t. judge.tested_with e at a t) (known_some q)
      (λ t known. subst (λ t. Holds (Part p e) (judge.tested_with e at a t)) (sym known.1) (with_type known.0))
    where
      with_type : (u : TypeId) → Holds (Part p e) (judge.tested_with e at a (Some u))
      with_type u none =
          let takes = judge.may_test e a (Some u) in
          let may : takes ≡ true = test_is takes 41 at none in
          rw may (record {
            class = tt;
            valued = refl;
            read = λ w. absurd w;
            sound = λ w. plain_sound p (answered Computed (Some boolean) (judge.test_typed e a (Some u))) (answered_plain p Computed boolean (judge.test_typed e a (Some u)) refl tt tt refl (test_typed w a (x.sound w) u may));
            named = λ w. tt;
          })
