-- The predeclared procedures that change a variable or trap are well typed.
use Rattle.std.proofs.Common.{◌≡◌, ◌<◌, inl, pos, negsuc, List, [], ◌∷◌, Bool, true, false, ◌&&◌, Option, Some, None, nat_lt, refl, sym, ap, ◌∙◌, subst, ltb-true, arith, if◌then◌else◌}
use Rattle.std.specs.Option.{unwrap_or}
use Rattle.std.proofs.lemmas.Bool.{and_parts}
use Rattle.std.proofs.lemmas.Int.{ints}
use Rattle.std.proofs.lemmas.Option.{none-some}
use Rattle.aos_base.specs.declared.text.Pos.{Pos}
use Rattle.aos_base.specs.declared.number.Width.{Width}
use Rattle.aos_base.specs.declared.number.Width.TheVariants.{W8, W16, W32, W64}
use Rattle.aos_base.specs.Number.{IsWithin}
use Rattle.aos_tree.specs.declared.expr.Expr.{Expr as TreeExpr, out-Expr}
use Rattle.aos_tree.specs.declared.expr.Desig.{Desig}
use Rattle.aos_types.specs.declared.row.TypeId.{TypeId}
use Rattle.aos_typed.specs.declared.tree.Literal.TheVariants as literal
use Rattle.aos_typed.specs.declared.tree.Change.{Change}
use Rattle.aos_typed.specs.declared.tree.Change.TheVariants as change
use Rattle.aos_typed.specs.declared.tree.TType.TheVariants as type
use Rattle.aos_typed.specs.Meaning.{changed_type}
use Rattle.aos_typed.specs.Program.{Place, Lit, Assert, Halt}
use Rattle.aos_typed.specs.WellTyped.{amount_type}
use Rattle.aos_symbols.specs.declared.env.Env.{Env}
use Rattle.aos_symbols.specs.Env.{set}
use Rattle.aos_symbols.specs.declared.scope.Routine.{Routine}
use Rattle.aos_symbols.specs.declared.scope.Routine.TheVariants as routine
use Rattle.aos_symbols.specs.Breaches.{breach_unless}
use Rattle.aos_symbols.specs.Judged.{judged, kept, bind}
use Rattle.aos_symbols.proofs.Holds.{Holds, holds_bind, none_left, none_right, test_is}
use Rattle.aos_known.specs.declared.known.Class.{Class}
use Rattle.aos_known.specs.declared.known.Class.TheVariants.{Constant}
use Rattle.aos_known.specs.Known.{Answer, Entity, is_basic, is_number, is_set, fits, type_as, width_of}
use Rattle.aos_known.specs.Places.{place_of}
use Rattle.aos_known.proofs.Inside.{Inside, IsPlaceOf, IsOf}
use Rattle.aos_known.proofs.Types.{as_integer, integer_basic, same_type}
use Rattle.aos_operators.proofs.Sound.{not_both, IsSound, sound_number}
use Rattle.aos_designators.specs.Designators.{written}
use Rattle.aos_check_expr.specs.Expressions.{expr, condition, designator, desig_alone}
use Rattle.aos_check_expr.proofs.Entities.{IsTyped, closed, opened, opened_row}
use Rattle.aos_check_expr.proofs.Typing.{IsWhole, expr_sound, condition_sound}
use Rattle.aos_check_stat.specs.Called.{changing, is_changed_set, is_amount, is_changed, changed_breaches, changed_by, amount, change_of, change_at, change_call, code_in, trap_code, assert_call, halt_call, refused}
use Rattle.aos_check_stat.proofs.Places.{MayBe, IsRead, read_sound, written_typed, fits_basic}

-- What is changed.

number_changed : (t : TypeId) → is_number (Some t) ≡ true → type_as t ≡ type.Integer (width_of (Some t))
number_changed t is = as_integer t is

set_changed : (t : TypeId) → is_set (Some t) ≡ true → type_as t ≡ type.Set
set_changed t is = ap type_as (sym (same_type set t is))

changed_as : (r : Routine) (t : TypeId) → is_changed r (Some t) ≡ true → type_as t ≡ changed_type (changing r (Some t))
changed_as routine.Dec = number_changed
changed_as routine.Incl = set_changed
changed_as routine.Excl = set_changed
changed_as routine.Inc = number_changed
changed_as routine.Assert = number_changed
changed_as routine.Copy = number_changed
changed_as routine.Halt = number_changed
changed_as routine.New = number_changed

-- 1 is of each width
pub one_within : (w : Width) → IsWithin w (pos 1)
one_within W8 = record { low = omega (arith, ints); high = omega (arith, ints) }
one_within W16 = record { low = omega (arith, ints); high = omega (arith, ints) }
one_within W32 = record { low = omega (arith, ints); high = omega (arith, ints) }
one_within W64 = record { low = omega (arith, ints); high = omega (arith, ints) }

module _ (p : Inside) (e : Env) (whole : IsWhole p e) where
  one_of : (c : Change) → IsOf p (Lit (literal.Int (pos 1))) (amount_type c)
  one_of (change.Add w) = inl (one_within w)
  one_of (change.Subtract w) = inl (one_within w)
  one_of change.Include = inl (one_within W64)
  one_of change.Exclude = inl (one_within W64)

  -- a variable that is changed
  abbrev IsChanged : Routine → Entity → Type 0
  IsChanged r a = IsTyped p e (place_of a.held) a.known.of × (is_changed r a.known.of ≡ true)

  -- no open array is changed
  low_changed : (r : Routine) (t : TypeId) → is_changed r (Some t) ≡ true → is_basic t ≡ true
  low_changed r t is = by (is_changed_set r) is
    where
      by : (b : Bool) → (if b then is_set (Some t) else is_number (Some t)) ≡ true → is_basic t ≡ true
      by true i = ap is_basic (sym (same_type set t i))
      by false i = integer_basic t i

  changed_known : (r : Routine) (place : Place) (of : Option TypeId) → IsTyped p e place of → is_changed r of ≡ true →
      (t : TypeId) × (of ≡ Some t) × IsPlaceOf p place (type_as t)
  changed_known r place None (closed typed known) is = absurd known
  changed_known r place (Some t) (closed typed known) is = (t, refl, typed)
  changed_known r place of (opened t q same at opening rows lengths variables) is =
      absurd (not_both (sym (low_changed r t (subst (λ o. is_changed r o ≡ true) same is)) ∙ (opened_row e t opening).1))

  pub place_changed : (r : Routine) (place : Place) (of : Option TypeId) → IsTyped p e place of → is_changed r of ≡ true → IsPlaceOf p place (changed_type (changing r of))
  place_changed r place of typed is = let c = changed_known r place of typed is in subst (λ o. IsPlaceOf p place (changed_type (changing r o))) (sym c.1) (subst (IsPlaceOf p place) (changed_as r c.0 (subst (λ o. is_changed r o ≡ true) c.1 is)) c.2)

  -- what it is changed by
  element_of : (of : Option TypeId) (v : Answer) → IsSound p v → (is_number v.known.of && true) ≡ true → IsOf p v.typed (type.Integer W64)
  element_of of v sound is = sound_number p v sound (and_parts (is_number v.known.of) true is).0

  number_of : (t : TypeId) (v : Answer) → is_number (Some t) ≡ true → IsSound p v → (is_number v.known.of && fits v.known.of (Some t)) ≡ true →
      IsOf p v.typed (type.Integer (width_of (Some t)))
  number_of t v i sound is =
      subst (IsOf p v.typed) (number_changed t i) (fits_basic p e whole t v (integer_basic t i) sound (and_parts (is_number v.known.of) (fits v.known.of (Some t)) is).1)

  amount_of : (r : Routine) (t : TypeId) → is_changed r (Some t) ≡ true → (v : Answer) → IsSound p v → is_amount r (Some t) v.known.of ≡ true →
      IsOf p v.typed (amount_type (changing r (Some t)))
  amount_of routine.Dec t i v sound is = number_of t v i sound is
  amount_of routine.Incl t i v sound is = element_of (Some t) v sound is
  amount_of routine.Excl t i v sound is = element_of (Some t) v sound is
  amount_of routine.Inc t i v sound is = number_of t v i sound is
  amount_of routine.Assert t i v sound is = number_of t v i sound is
  amount_of routine.Copy t i v sound is = number_of t v i sound is
  amount_of routine.Halt t i v sound is = number_of t v i sound is
  amount_of routine.New t i v sound is = number_of t v i sound is

  amount_sound : (r : Routine) (place : Place) (of : Option TypeId) → IsTyped p e place of → is_changed r of ≡ true → (x : Option TreeExpr) →
      Holds (λ n. IsOf p n (amount_type (changing r of))) (amount e r of x)
  amount_sound r place of typed is None = λ h. one_of (changing r of)
  amount_sound r place None (closed typed known) is (Some x) = absurd known
  amount_sound r place None (opened t q same at opening rows lengths variables) is (Some x) = absurd (none-some t same)
  amount_sound r place (Some t) typed is (Some x) =
      holds_bind (IsSound p) (λ n. IsOf p n (amount_type (changing r (Some t)))) (expr e x)
      (λ v. judged (breach_unless (is_amount r (Some t) v.known.of) 35 (out-Expr x).pos) v.typed) (expr_sound p e whole x)
      (λ v sound h. amount_of r t is v sound (test_is (is_amount r (Some t) v.known.of) 35 (out-Expr x).pos h))

  change_sound : (r : Routine) (at first : Pos) (a : Entity) → IsRead p e whole a → (x : Option TreeExpr) → Holds (MayBe p) (change_of e r at first a x)
  change_sound r at first a is x =
      holds_bind (IsChanged r) (MayBe p) (judged (changed_breaches r first a) a) (λ b. bind (amount e r b.known.of x) (λ n. kept (Some (changed_by r at b n))))
      (λ h. let own = breach_unless (is_changed r a.known.of) 35 first in
      (written_typed p e whole a first is (none_left (written a.known.class first) own h), test_is (is_changed r a.known.of) 35 first (none_right (written a.known.class first) own h)))
      (λ b changed. holds_bind (λ n. IsOf p n (amount_type (changing r b.known.of))) (MayBe p) (amount e r b.known.of x) (λ n. kept (Some (changed_by r at b n)))
      (amount_sound r (place_of b.held) b.known.of changed.0 changed.1 x)
      (λ n is h. (place_changed r (place_of b.held) b.known.of changed.0 changed.1, is)))

  change_at_sound : (r : Routine) (at : Pos) (y : TreeExpr) (o : Option Desig) (x : Option TreeExpr) → Holds (MayBe p) (change_at e r at y o x)
  change_at_sound r at y None x = holds_bind (IsSound p) (MayBe p) (expr e y) (λ _. refused 32 (out-Expr y).pos) (expr_sound p e whole y) (λ _ sound h. tt)
  change_at_sound r at y (Some d) x =
      let first = (out-Expr y).pos in
      holds_bind (IsRead p e whole) (MayBe p) (designator e d) (λ a. change_of e r at first a x) (read_sound p e whole d) (λ a is. change_sound r at first a is x)

  pub change_call_sound : (r : Routine) (at : Pos) (xs : List TreeExpr) → Holds (MayBe p) (change_call e r at xs)
  change_call_sound r at [] = λ h. tt
  change_call_sound r at (y ∷ []) = by (is_changed_set r)
    where
      by : (b : Bool) → Holds (MayBe p) (if b then refused 34 at else change_at e r at y (desig_alone y) None)
      by true = λ h. tt
      by false = change_at_sound r at y (desig_alone y) None
  change_call_sound r at (y ∷ x ∷ []) = change_at_sound r at y (desig_alone y) (Some x)
  change_call_sound r at (y ∷ x ∷ z ∷ xs) = λ h. tt

  -- Traps.

  code_within : (c : Class) → code_in c < 256
  code_within (Constant (Some (literal.Int (pos n)))) = by (nat_lt n 256) refl
    where
      by : (b : Bool) → nat_lt n 256 ≡ b → unwrap_or (if b then Some n else None) 0 < 256
      by true lt = ltb-true n 256 lt
      by false lt = omega arith
  code_within (Constant (Some (literal.Int (negsuc n)))) = omega arith
  code_within c = omega arith

  trap_sound : (x : TreeExpr) → Holds (λ n. n < 256) (trap_code e x)
  trap_sound x = λ h. code_within (expr e x).answer.known.class

  pub assert_sound : (at : Pos) (xs : List TreeExpr) → Holds (MayBe p) (assert_call e at xs)
  assert_sound at [] = λ h. tt
  assert_sound at (x ∷ []) =
      holds_bind (λ b. IsOf p b type.Boolean) (MayBe p) (condition e x) (λ b. kept (Some (Assert at b 0))) (condition_sound p e whole x) (λ b is h. (is, omega arith))
  assert_sound at (x ∷ y ∷ []) =
      holds_bind (λ b. IsOf p b type.Boolean) (MayBe p) (condition e x) (λ b. bind (trap_code e y) (λ n. kept (Some (Assert at b n)))) (condition_sound p e whole x)
      (λ b is. holds_bind (λ n. n < 256) (MayBe p) (trap_code e y) (λ n. kept (Some (Assert at b n))) (trap_sound y) (λ n below h. (is, below)))
  assert_sound at (x ∷ y ∷ z ∷ xs) = λ h. tt

  pub halt_sound : (at : Pos) (xs : List TreeExpr) → Holds (MayBe p) (halt_call e at xs)
  halt_sound at [] = λ h. tt
  halt_sound at (x ∷ []) = holds_bind (λ n. n < 256) (MayBe p) (trap_code e x) (λ n. kept (Some (Halt at n))) (trap_sound x) (λ n below h. below)
  halt_sound at (x ∷ y ∷ xs) = λ h. tt
