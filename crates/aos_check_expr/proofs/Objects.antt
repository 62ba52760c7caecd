-- Types whose values are objects, in an environment of bodies: what their objects are made as, and what is an object.
use Rattle.std.proofs.Common.{◌≡◌, ℕ, zero, suc, ◌≤◌, ◌<◌, ◌==◌, List, length, Bool, true, false, ◌&&◌, ◌||◌, ◌⊎◌, inl, inr, not, nat_lt, Option, Some, None, slice_get, if◌then◌else◌, refl, sym, ap, ◌∙◌, subst, eq-eqb, ltb-true, ltb-false, arith}
use Rattle.std.proofs.lemmas.Option.{none-some, same_Some}
use Rattle.std.proofs.lemmas.Bool.{and_parts}
use Rattle.aos_types.specs.declared.row.Basic.TheVariants as basic
use Rattle.aos_types.specs.declared.row.TypeId.{TypeId}
use Rattle.aos_types.specs.declared.row.TypeRow.{TypeRow}
use Rattle.aos_types.specs.declared.row.TypeRow.TheVariants as row
use Rattle.aos_types.specs.Table.{row_of, is_open, is_record, is_pointer, is_object, is_procedure, on_both}
use Rattle.aos_types.specs.Extension.{comes_to}
use Rattle.aos_types.specs.Sameness.{are_one, are_predeclared, element_of, same_by, same}
use Rattle.aos_types.proofs.Steps.{comes_here}
use Rattle.aos_typed.specs.declared.tree.TType.{TType}
use Rattle.aos_typed.specs.declared.tree.TType.TheVariants as type
use Rattle.aos_typed.specs.Numbers.{id_of}
use Rattle.aos_typed.specs.Open.{first_from, first_same}
use Rattle.aos_typed.specs.Program.{Expr, Read}
use Rattle.aos_typed.specs.WellTyped.{FitsObject, target, target_in, is_any as is_any_type, is_reference as is_reference_type, is_value as is_value_type, is_procedural, is_basic as is_basic_type, is_whole}
use Rattle.aos_symbols.specs.declared.env.Env.{Env}
use Rattle.aos_symbols.specs.Env as env
use Rattle.aos_symbols.specs.Env.{nil, any, text}
use Rattle.aos_known.proofs.Inside.{Inside, IsOf}
use Rattle.aos_known.specs.Known.{Answer, is, is_basic, is_of_any, type_as}
use Rattle.aos_known.proofs.Types.{not_both, same_type, basic_cases, integer_cases, as_named, id_above}
use Rattle.aos_operators.proofs.Sound.{IsScalar, IsClosedPlace, IsOpenPlace, IsWholeRead, IsOther, IsObject, IsCallable, IsNamedAs, IsRoutine, TakesObject, IsSound}
use Rattle.aos_designators.specs.Designators as desig
use Rattle.aos_check_expr.proofs.Whole.{IsWhole, IsWritten, no_row}

pub either_is : (a b : Bool) → (a || b) ≡ true → (a ≡ true) ⊎ (b ≡ true)
either_is true b e = inl refl
either_is false b e = inr e

-- The first type that is the same.

no_predeclared : (r s : Option TypeRow) → is_whole s ≡ true → are_predeclared r s ≡ false
no_predeclared r None w = absurd (not_both (sym w))
no_predeclared None (Some (row.Array n t)) w = refl
no_predeclared (Some (row.Basic b)) (Some (row.Array n t)) w = refl
no_predeclared (Some row.Any) (Some (row.Array n t)) w = refl
no_predeclared (Some r) (Some (row.Array n t)) w = refl
no_predeclared None (Some (row.Record b fs)) w = refl
no_predeclared (Some (row.Basic c)) (Some (row.Record b fs)) w = refl
no_predeclared (Some row.Any) (Some (row.Record b fs)) w = refl
no_predeclared (Some r) (Some (row.Record b fs)) w = refl
no_predeclared r (Some s) w = absurd (not_both (sym w))

whole_element : (s : Option TypeRow) → is_whole s ≡ true → element_of s ≡ None
whole_element (Some (row.Open u)) w = absurd (not_both (sym w))
whole_element None w = refl
whole_element s w = refl

on_none : (f : TypeId → TypeId → Bool) (a b : Option TypeId) → b ≡ None → on_both f a b ≡ false
on_none f None b is = refl
on_none f (Some a) None is = refl
on_none f (Some a) (Some b) is = absurd (none-some b (sym is))

module _ (rows : List TypeRow) (t : TypeId) (w : is_whole (row_of rows t) ≡ true) where
  one_whole : (k : TypeId) → are_one rows k t ≡ true → k ≡ t
  one_whole k is = by (either_is (k.0 == t.0) (are_predeclared (row_of rows k) (row_of rows t)) is)
    where
      by : ((k.0 == t.0) ≡ true) ⊎ (are_predeclared (row_of rows k) (row_of rows t) ≡ true) → k ≡ t
      by (inl e) = same_type k t e
      by (inr e) = absurd (not_both (sym e ∙ no_predeclared (row_of rows k) (row_of rows t) w))

  same_whole : (n : ℕ) (k : TypeId) → same_by n rows k t ≡ true → k ≡ t
  same_whole zero k is = one_whole k is
  same_whole (suc n) k is = by (either_is (are_one rows k t) (on_both (same_by n rows) (element_of (row_of rows k)) (element_of (row_of rows t))) is)
    where
      by : (are_one rows k t ≡ true) ⊎ (on_both (same_by n rows) (element_of (row_of rows k)) (element_of (row_of rows t)) ≡ true) → k ≡ t
      by (inl e) = one_whole k e
      by (inr e) = absurd (not_both (sym e ∙ on_none (same_by n rows) (element_of (row_of rows k)) (element_of (row_of rows t)) (whole_element (row_of rows t) w)))

  first_whole : (n k : ℕ) → first_from n k rows t ≡ t
  first_whole zero k = refl
  first_whole (suc n) k = by (same rows (record { 0 = k }) t) refl (first_whole n (suc k))
    where
      by : (b : Bool) → same rows (record { 0 = k }) t ≡ b → first_from n (suc k) rows t ≡ t → (if b then record { 0 = k } else first_from n (suc k) rows t) ≡ t
      by true e more = same_whole (length rows) (record { 0 = k }) e
      by false e more = more

  -- a record or a fixed array is the same as itself alone
  pub first_is : first_same rows t ≡ t
  first_is = first_whole (length rows) 0

-- Rows that modules write.

predeclared_none : (k : ℕ) → k < 10 → (r : TypeRow) → slice_get env.basic_rows k ≡ Some r → IsWritten r → ⊥
predeclared_none zero b r e w = subst IsWritten (sym (same_Some (row.Basic basic.ShortInt) r e)) w
predeclared_none (suc zero) b r e w = subst IsWritten (sym (same_Some (row.Basic basic.Integer) r e)) w
predeclared_none (suc (suc zero)) b r e w = subst IsWritten (sym (same_Some (row.Basic basic.LongInt) r e)) w
predeclared_none (suc (suc (suc zero))) b r e w = subst IsWritten (sym (same_Some (row.Basic basic.HugeInt) r e)) w
predeclared_none (suc (suc (suc (suc zero)))) b r e w = subst IsWritten (sym (same_Some (row.Basic basic.Boolean) r e)) w
predeclared_none (suc (suc (suc (suc (suc zero))))) b r e w = subst IsWritten (sym (same_Some (row.Basic basic.Char) r e)) w
predeclared_none (suc (suc (suc (suc (suc (suc zero)))))) b r e w = subst IsWritten (sym (same_Some (row.Basic basic.Set) r e)) w
predeclared_none (suc (suc (suc (suc (suc (suc (suc zero))))))) b r e w = subst IsWritten (sym (same_Some (row.Basic basic.Nil) r e)) w
predeclared_none (suc (suc (suc (suc (suc (suc (suc (suc zero)))))))) b r e w = subst IsWritten (sym (same_Some row.Any r e)) w
predeclared_none (suc (suc (suc (suc (suc (suc (suc (suc (suc zero))))))))) b r e w = subst IsWritten (sym (same_Some (row.Basic (basic.Text 0)) r e)) w
predeclared_none (suc (suc (suc (suc (suc (suc (suc (suc (suc (suc k)))))))))) b r e w = omega (arith, b)

-- a basic type has no objects
low_no_reference : (e : Env) (t : TypeId) → is_basic t ≡ true → desig.is_reference e t ≡ false
low_no_reference e = basic_cases (λ t. desig.is_reference e t ≡ false) (integer_cases (λ t. desig.is_reference e t ≡ false) refl refl refl refl) refl refl refl

comes_itself : (rows : List TypeRow) (t : TypeId) → comes_to rows t t ≡ true
comes_itself rows t = comes_here (length rows) rows t t (eq-eqb t.0 t.0 refl)

-- the row of a type that has parts
abbrev pub IsPartsRow : TypeRow → Type 0
IsPartsRow (row.Array n u) = Unit {0}
IsPartsRow (row.Open u) = Unit {0}
IsPartsRow (row.Record base fs) = Unit {0}
IsPartsRow r = ⊥

-- values of basic types, and objects, are values
pub basic_value : (rows : List TypeRow) (t : TType) → is_basic_type t ≡ true → is_value_type rows t ≡ true
basic_value rows t is = ap (λ b. b || (is_reference_type rows t || is_procedural rows t)) is

pub value_typed : (rows : List TypeRow) (t : TType) → is_reference_type rows t ≡ true → is_value_type rows t ≡ true
value_typed rows t is = by (is_basic_type t)
  where
    by : (b : Bool) → (b || (is_reference_type rows t || is_procedural rows t)) ≡ true
    by true = refl
    by false = ap (λ r. r || is_procedural rows t) is

module _ (p : Inside) (e : Env) (whole : IsWhole p e) where
  -- a row that a module writes stands behind the predeclared ones
  pub row_high : (t : TypeId) (r : TypeRow) → row_of e.types t ≡ Some r → IsWritten r → 10 ≤ t.0
  row_high t r there written = by (nat_lt t.0 10) refl
    where
      by : (b : Bool) → nat_lt t.0 10 ≡ b → 10 ≤ t.0
      by true low = let below = ltb-true t.0 10 low in absurd (predeclared_none t.0 below r (sym (whole.basic t.0 below) ∙ there) written)
      by false high = ltb-false t.0 10 high

  -- such a type in the program
  pub high_row : (t : TypeId) → 10 ≤ t.0 → row_of p.program.types (id_of (type_as t)) ≡ row_of e.types t
  high_row t high = ap (row_of p.program.types) (id_above t high) ∙ ap (λ rows. row_of rows t) whole.rows

  pub high_target : (t : TypeId) → 10 ≤ t.0 → target p.program.types (type_as t) ≡ target_in e.types t (row_of e.types t)
  high_target t high =
      ap (λ k. target_in p.program.types k (row_of p.program.types k)) (id_above t high) ∙ ap (λ rows. target_in rows t (row_of rows t)) whole.rows

  pub high_any : (t : TypeId) → 10 ≤ t.0 → is_any_type (type_as t) ≡ false
  high_any t high = ap is_any_type (as_named t (omega (arith, high)))

  -- Types whose values are objects: that of NIL, ANY, and pointers and object types, whose objects are made as a type.

  abbrev pub IsMadeAs : TypeId → Type 0
  IsMadeAs t = (10 ≤ t.0) × (target p.program.types (type_as t) ≡ Some (desig.made_as e t))

  abbrev pub IsReference : TypeId → Type 0
  IsReference t = (t ≡ nil) ⊎ ((t ≡ any) ⊎ IsMadeAs t)

  pub pointer_kind : (t u : TypeId) → is_basic t ≡ false → row_of e.types t ≡ Some (row.Pointer u) → IsMadeAs t
  pointer_kind t u low there =
      let high = row_high t (row.Pointer u) there tt in
      (high, high_target t high ∙ ap (target_in e.types t) there ∙ rw (low, there) refl)

  pub object_kind : (t : TypeId) (base : Option TypeId) (fs : List TypeId) → is_basic t ≡ false → row_of e.types t ≡ Some (row.Object base fs) → IsMadeAs t
  object_kind t base fs low there =
      let high = row_high t (row.Object base fs) there tt in
      (high, high_target t high ∙ ap (target_in e.types t) there ∙ rw (low, there) refl)

  not_low : (t : TypeId) (b : Bool) → (not (is_basic t) && b) ≡ true → is_basic t ≡ false
  not_low t b is = by (is_basic t) (and_parts (not (is_basic t)) b is).0
    where
      by : (c : Bool) → not c ≡ true → c ≡ false
      by true h = absurd (not_both (sym h))
      by false h = refl

  pub reference_kind : (t : TypeId) → desig.is_reference e t ≡ true → IsReference t
  reference_kind t ref = by (either_is (is_of_any t) (desig.is_pointer_type e t || desig.is_object_type e t) ref)
    where
      pointer : (r : Option TypeRow) → row_of e.types t ≡ r → is_pointer r ≡ true → is_basic t ≡ false → IsMadeAs t
      pointer (Some (row.Pointer u)) there is low = pointer_kind t u low there
      pointer r there is low = absurd (not_both (sym is))

      object : (r : Option TypeRow) → row_of e.types t ≡ r → is_object r ≡ true → is_basic t ≡ false → IsMadeAs t
      object (Some (row.Object base fs)) there is low = object_kind t base fs low there
      object r there is low = absurd (not_both (sym is))

      made : (desig.is_pointer_type e t ≡ true) ⊎ (desig.is_object_type e t ≡ true) → IsMadeAs t
      made (inl is) = pointer (row_of e.types t) refl (and_parts (not (is_basic t)) _ is).1 (not_low t _ is)
      made (inr is) = object (row_of e.types t) refl (and_parts (not (is_basic t)) _ is).1 (not_low t _ is)

      predeclared : (is nil t ≡ true) ⊎ (is any t ≡ true) → IsReference t
      predeclared (inl is) = inl (sym (same_type nil t is))
      predeclared (inr is) = inr (inl (sym (same_type any t is)))

      by : (is_of_any t ≡ true) ⊎ ((desig.is_pointer_type e t || desig.is_object_type e t) ≡ true) → IsReference t
      by (inl is') = predeclared (either_is (is nil t) (is any t) is')
      by (inr is') = inr (inr (made (either_is (desig.is_pointer_type e t) (desig.is_object_type e t) is')))

  -- their types in the program
  pub reference_typed : (t : TypeId) → IsReference t → is_reference_type p.program.types (type_as t) ≡ true
  reference_typed t (inl is) = subst (λ t. is_reference_type p.program.types (type_as t) ≡ true) (sym is) refl
  reference_typed t (inr (inl is)) = subst (λ t. is_reference_type p.program.types (type_as t) ≡ true) (sym is) refl
  reference_typed t (inr (inr made)) = rw (high_any t made.0, made.1) refl

  -- a type's own values fit it
  pub fits_itself : (t : TypeId) → IsMadeAs t → FitsObject p.program.types (type_as t) (type_as t)
  fits_itself t made =
      (reference_typed t (inr (inr made)), inr (desig.made_as e t, desig.made_as e t, made.1, made.1, comes_itself p.program.types (desig.made_as e t)))

  -- Objects are of their own type, and of ANY.

  pub of_own_type : (t : TypeId) (x : Expr) → IsObject p t x → IsMadeAs t → IsOf p x (type_as t)
  of_own_type t x o made = o.2 (type_as t) (o.1, inr (fits_itself t made))

  pub of_any_type : (t : TypeId) (x : Expr) → IsObject p t x → IsOf p x type.Any
  of_any_type t x o = o.2 type.Any (refl, inr (o.1, inl refl))

  -- a type that has objects is no open array
  reference_closed : (t : TypeId) → IsReference t → is_open (row_of e.types t) ≡ true → ⊥
  reference_closed t (inl is) opening = not_both (sym opening ∙ ap (λ (u : TypeId). is_open (row_of e.types u)) is ∙ ap is_open (whole.basic 7 (omega arith)))
  reference_closed t (inr (inl is)) opening = not_both (sym opening ∙ ap (λ (u : TypeId). is_open (row_of e.types u)) is ∙ ap is_open (whole.basic 8 (omega arith)))
  reference_closed t (inr (inr made)) opening = by (row_of e.types t) refl opening
    where
      none : (o : Option TypeId) → o ≡ None → o ≡ Some (desig.made_as e t) → ⊥
      none o a b = none-some (desig.made_as e t) (sym a ∙ b)

      by : (r : Option TypeRow) → row_of e.types t ≡ r → is_open r ≡ true → ⊥
      by (Some (row.Open u)) there is = none (target p.program.types (type_as t)) (high_target t made.0 ∙ ap (target_in e.types t) there) made.1
      by r there is = not_both (sym is)

  -- a variable that is read
  read_object : (t : TypeId) (x : Expr) → IsWholeRead p t x → IsReference t → IsObject p t x
  read_object t x w kind = (w.0, reference_typed t kind, λ u takes. subst (λ y. IsOf p y u) (sym w.2) (by w.3 u takes))
    where
      no_nil : id_of (type_as t) ≡ t → t ≡ nil → ⊥
      no_nil same is =
          let n : 8 ≡ 7 = ap (λ (v : TypeId). v.0) (subst (λ t. id_of (type_as t) ≡ t) is same) in omega (arith, n)

      by : IsClosedPlace p t w.1 ⊎ IsOpenPlace p t w.1 → (u : TType) → TakesObject p u t → IsOf p (Read (type_as t) w.1) u
      by (inl c) u (ref, inl is) = absurd (no_nil c.1 is)
      by (inl c) u (ref, inr fits) = (c.0, value, inr (inl fits))
        where
          value : is_value_type p.program.types (type_as t) ≡ true
          value = value_typed p.program.types (type_as t) (reference_typed t kind)
      by (inr o) u takes = absurd (reference_closed t kind (ap (λ rows. is_open (row_of rows t)) (sym whole.rows) ∙ o.2))

  -- A procedure is no object, and has no parts.

  pub routine_row : (t : TypeId) (x : Expr) → IsRoutine p t x → (r : TypeRow) → row_of e.types t ≡ Some r → is_procedure (Some r) ≡ true
  routine_row t x o r there = by o.1
    where
      by : IsCallable p t x ⊎ IsNamedAs p t x → is_procedure (Some r) ≡ true
      by (inl c) = ap is_procedure (sym there) ∙ ap (λ rows. is_procedure (row_of rows t)) (sym whole.rows) ∙ c.0
      by (inr n) = absurd (none-some r (sym (no_row p e whole t n.0) ∙ there))

  pub routine_no_reference : (t : TypeId) (x : Expr) → IsRoutine p t x → IsReference t → ⊥
  routine_no_reference t x o (inl is) = not_both (sym (routine_row t x o (row.Basic basic.Nil) (ap (row_of e.types) is ∙ whole.basic 7 (omega arith))))
  routine_no_reference t x o (inr (inl is)) = not_both (sym (routine_row t x o row.Any (ap (row_of e.types) is ∙ whole.basic 8 (omega arith))))
  routine_no_reference t x o (inr (inr made)) = at (row_of e.types t) refl
    where
      led : (r : Option TypeRow) → row_of e.types t ≡ r → target_in e.types t r ≡ Some (desig.made_as e t)
      led r there = ap (target_in e.types t) (sym there) ∙ sym (high_target t made.0) ∙ made.1

      by : (r : TypeRow) → is_procedure (Some r) ≡ true → target_in e.types t (Some r) ≡ Some (desig.made_as e t) → ⊥
      by (row.Procedure fs s) is to = none-some (desig.made_as e t) to
      by r is to = not_both (sym is)

      at : (r : Option TypeRow) → row_of e.types t ≡ r → ⊥
      at None there = none-some (desig.made_as e t) (led None there)
      at (Some r) there = by r (routine_row t x o r there) (led (Some r) there)

  pub routine_no_parts : (t : TypeId) (x : Expr) → IsRoutine p t x → (r : TypeRow) → row_of e.types t ≡ Some r → IsPartsRow r → ⊥
  routine_no_parts t x o r there parts = by r parts (routine_row t x o r there)
    where
      by : (r : TypeRow) → IsPartsRow r → is_procedure (Some r) ≡ true → ⊥
      by (row.Procedure fs s) parts is = parts
      by r parts is = not_both (sym is)

  no_text : desig.is_reference e text ≡ false
  no_text = rw (whole.basic 9 (omega arith)) refl

  -- what is sound and of such a type is an object
  pub sound_object : (a : Answer) (s : IsSound p a) → desig.is_reference e s.of ≡ true → IsObject p s.of a.typed
  sound_object a s is = by s.typed
    where
      by : IsScalar p s.of a.typed ⊎ (IsWholeRead p s.of a.typed ⊎ IsOther p s.of a.typed) → IsObject p s.of a.typed
      by (inl scalar) = absurd (not_both (sym is ∙ low_no_reference e s.of scalar.0))
      by (inr (inl w)) = read_object s.of a.typed w (reference_kind s.of is)
      by (inr (inr (inl t))) = absurd (not_both (sym is ∙ ap (desig.is_reference e) t ∙ no_text))
      by (inr (inr (inr (inl o)))) = o
      by (inr (inr (inr (inr r)))) = absurd (routine_no_reference s.of a.typed r (reference_kind s.of is))

  -- what is sound and of a type whose values are objects is one
  pub object_of : (a : Answer) (s : IsSound p a) → is_basic s.of ≡ false → IsReference s.of → IsObject p s.of a.typed
  object_of a s high kind = by s.typed
    where
      no_string : IsReference s.of → s.of ≡ text → ⊥
      no_string (inl none) is = let n : 7 ≡ 9 = ap (λ (t : TypeId). t.0) (sym none ∙ is) in omega (arith, n)
      no_string (inr (inl any)) is = let n : 8 ≡ 9 = ap (λ (t : TypeId). t.0) (sym any ∙ is) in omega (arith, n)
      no_string (inr (inr made)) is = let n : s.of.0 ≡ 9 = ap (λ (t : TypeId). t.0) is in let high = made.0 in omega (arith, high, n)

      by : IsScalar p s.of a.typed ⊎ (IsWholeRead p s.of a.typed ⊎ IsOther p s.of a.typed) → IsObject p s.of a.typed
      by (inl scalar) = absurd (not_both (sym scalar.0 ∙ high))
      by (inr (inl w)) = read_object s.of a.typed w kind
      by (inr (inr (inl t))) = absurd (no_string kind t)
      by (inr (inr (inr (inl o)))) = o
      by (inr (inr (inr (inr r)))) = absurd (routine_no_reference s.of a.typed r kind)

  -- What has parts is no object.

  pub parts_no_reference : (t : TypeId) (r : TypeRow) → row_of e.types t ≡ Some r → IsPartsRow r →
      (t ≡ text → ⊥) × (is_reference_type p.program.types (type_as t) ≡ false)
  parts_no_reference t r there parts = by r there parts
    where
      told : (r : TypeRow) → row_of e.types t ≡ Some r → IsWritten r → target_in e.types t (Some r) ≡ None →
          (t ≡ text → ⊥) × (is_reference_type p.program.types (type_as t) ≡ false)
      told r there written none =
          let high = row_high t r there written in (
            λ is. (let n : t.0 ≡ 9 = ap (λ (u : TypeId). u.0) is in omega (arith, high, n)),
            rw (high_any t high, high_target t high ∙ ap (target_in e.types t) there ∙ none) refl,
          )

      by : (r : TypeRow) → row_of e.types t ≡ Some r → IsPartsRow r → (t ≡ text → ⊥) × (is_reference_type p.program.types (type_as t) ≡ false)
      by (row.Array n u) there parts = told (row.Array n u) there tt refl
      by (row.Open u) there parts = told (row.Open u) there tt refl
      by (row.Record base fs) there parts = told (row.Record base fs) there tt refl
      by r there parts = absurd parts

  pub record_no_reference : (t : TypeId) → desig.is_record_type e t ≡ true → desig.is_reference e t ≡ false
  record_no_reference t of_record = by (desig.is_reference e t) refl
    where
      row_is : (o : Option TypeRow) → row_of e.types t ≡ o → is_record o ≡ true → is_reference_type p.program.types (type_as t) ≡ false
      row_is (Some (row.Record base fs)) there is = (parts_no_reference t (row.Record base fs) there tt).1
      row_is o there is = absurd (not_both (sym is))

      by : (b : Bool) → desig.is_reference e t ≡ b → b ≡ false
      by false is = refl
      by true is =
          absurd (not_both (sym (reference_typed t (reference_kind t is)) ∙ row_is (row_of e.types t) refl (and_parts (not (is_basic t)) _ of_record).1))
