-- Values that may be assigned to variables whose type is no basic one: objects, and records and arrays that are copied.
use Rattle.std.proofs.Common.{◌≡◌, ℕ, zero, suc, ◌<◌, ◌==◌, List, length, Bool, true, false, ◌&&◌, ◌||◌, ◌⊎◌, inl, inr, not, nat_le, nat_lt, Option, Some, None, slice_get, if◌then◌else◌, refl, sym, ap, ◌∙◌, subst, eq-eqb, ltb-true, ltb-false, le-ltb, arith}
use Rattle.std.proofs.lemmas.Option.{none-some, same_Some}
use Rattle.std.proofs.lemmas.Bool.{and_parts}
use Rattle.aos_types.specs.declared.row.Basic.TheVariants as basic
use Rattle.aos_types.specs.declared.row.TypeId.{TypeId}
use Rattle.aos_types.specs.declared.row.TypeRow.{TypeRow}
use Rattle.aos_types.specs.declared.row.TypeRow.TheVariants as row
use Rattle.aos_types.specs.Table.{row_of, is_record, is_pointer, is_object, is_char, base_of, on_both}
use Rattle.aos_types.specs.Extension.{comes_by, comes_to, on_base, record_below, extends, extends_pointer}
use Rattle.aos_types.specs.Sameness.{are_one, are_predeclared, element_of, same_by, same}
use Rattle.aos_types.specs.Fit.{fits as fits_of, fits_row, fits_rows, is_nil, text_of, has_room, is_reference as is_reference_row}
use Rattle.aos_types.proofs.Steps.{comes_here}
use Rattle.aos_typed.specs.declared.tree.TType.TheVariants as type
use Rattle.aos_typed.specs.WellTyped.{FitsObject, target, target_in, is_whole}
use Rattle.aos_symbols.specs.declared.env.Env.{Env}
use Rattle.aos_symbols.specs.Env as env
use Rattle.aos_symbols.specs.Env.{nil, any}
use Rattle.aos_known.proofs.Inside.{Inside}
use Rattle.aos_known.specs.Known.{is, is_basic, is_integer, is_long_text, fits_type, type_as}
use Rattle.aos_known.proofs.Types.{not_both, same_type, integer_basic}
use Rattle.aos_operators.proofs.Sound.{TakesObject}
use Rattle.aos_values.specs.Assignable as assignable
use Rattle.aos_designators.specs.Designators as desig
use Rattle.aos_check_expr.proofs.Whole.{IsWhole, IsWritten}
use Rattle.aos_check_expr.proofs.Objects.{either_is, first_is, IsMadeAs, IsReference, row_high, high_target, pointer_kind, object_kind, reference_kind, reference_typed, fits_itself}
use Rattle.aos_check_expr.proofs.Pointed.{predeclared_unique, comes_object}

-- a type that fits another one by numbers is basic where that is
fit_low : (t u : TypeId) → fits_type t u ≡ true → is_basic t ≡ true → is_basic u ≡ true
fit_low t u fit low = by (is_integer t) refl (is_integer u) refl fit
  where
    by : (a : Bool) → is_integer t ≡ a → (b : Bool) → is_integer u ≡ b → (if a && b then nat_le t.0 u.0 else is t u) ≡ true → is_basic u ≡ true
    by true i true j fit = integer_basic u j
    by true i false j fit = subst (λ v. is_basic v ≡ true) (same_type t u fit) low
    by false i b j fit = subst (λ v. is_basic v ≡ true) (same_type t u fit) low

module _ (p : Inside) (e : Env) (whole : IsWhole p e) where
  abbrev Fit : TypeId → TypeId → Type 0
  Fit from to = assignable.is_compatible e (Some from) (Some to) ≡ true

  -- the table decides where neither is basic
  pub by_table : (from to : TypeId) → is_basic to ≡ false → Fit from to → (is_basic from ≡ false) × (is_long_text from ≡ false) × (fits_of e.types from to ≡ true)
  by_table from to high fit = by (is_basic from) refl fit
    where
      isnt : (b : Bool) → not b ≡ true → b ≡ false
      isnt true h = absurd (not_both (sym h))
      isnt false h = refl

      by : (b : Bool) → is_basic from ≡ b → (if b || is_basic to then fits_type from to else not (is_long_text from) && fits_of e.types from to) ≡ true →
          (is_basic from ≡ false) × (is_long_text from ≡ false) × (fits_of e.types from to ≡ true)
      by true low fit = absurd (not_both (sym (fit_low from to fit low) ∙ high))
      by false low fit =
          let two = and_parts (not (is_long_text from)) (fits_of e.types from to) (sym (ap (λ b. if b then fits_type from to else not (is_long_text from) && fits_of e.types from to) high) ∙ fit) in
          (low, isnt (is_long_text from) two.0, two.1)

  -- a type that is no open array is the same as itself alone
  pub same_closed : (n : ℕ) (a b : TypeId) → element_of (row_of e.types b) ≡ None → same_by n e.types a b ≡ true → a ≡ b
  same_closed n a b shut is = by n is
    where
      one : are_one e.types a b ≡ true → a ≡ b
      one is = at (either_is (a.0 == b.0) (are_predeclared (row_of e.types a) (row_of e.types b)) is)
        where
          at : ((a.0 == b.0) ≡ true) ⊎ (are_predeclared (row_of e.types a) (row_of e.types b) ≡ true) → a ≡ b
          at (inl f) = same_type a b f
          at (inr f) = predeclared_unique p e whole a b f

      none : (f : TypeId → TypeId → Bool) (x : Option TypeId) → on_both f x None ≡ true → ⊥
      none f None is = not_both (sym is)
      none f (Some x) is = not_both (sym is)

      by : (n : ℕ) → same_by n e.types a b ≡ true → a ≡ b
      by zero is = one is
      by (suc n) is = at (either_is (are_one e.types a b) (on_both (same_by n e.types) (element_of (row_of e.types a)) (element_of (row_of e.types b))) is)
        where
          at : (are_one e.types a b ≡ true) ⊎ (on_both (same_by n e.types) (element_of (row_of e.types a)) (element_of (row_of e.types b)) ≡ true) → a ≡ b
          at (inl f) = one f
          at (inr f) = absurd (none (same_by n e.types) (element_of (row_of e.types a)) (sym (ap (on_both (same_by n e.types) (element_of (row_of e.types a))) shut) ∙ f))

  -- the type of NIL alone has its row
  pub nil_row : (t : TypeId) → row_of e.types t ≡ Some (row.Basic basic.Nil) → t ≡ nil
  nil_row t there = predeclared_unique p e whole t nil (rw (there, whole.basic 7 (omega arith)) refl)

  pub is_nil_row : (o : Option TypeRow) (r : TypeRow) → o ≡ Some r → is_nil r ≡ true → o ≡ Some (row.Basic basic.Nil)
  is_nil_row o (row.Basic basic.Nil) is none = is
  is_nil_row o r is none = absurd (not_both (sym none))

  -- what a pointer's record extends
  below_record : (t : TypeId) (a : TypeId) → record_below e.types (row_of e.types t) ≡ Some a → (row_of e.types t ≡ Some (row.Pointer a)) × (is_record (row_of e.types a) ≡ true)
  below_record t a is = by (row_of e.types t) refl is
    where
      led : (u : TypeId) → row_of e.types t ≡ Some (row.Pointer u) → (b : Bool) → is_record (row_of e.types u) ≡ b → (if b then Some u else None) ≡ Some a →
          (row_of e.types t ≡ Some (row.Pointer a)) × (is_record (row_of e.types a) ≡ true)
      led u there true of_record is = let same = same_Some u a is in (there ∙ ap (λ v. Some (row.Pointer v)) same, ap (λ v. is_record (row_of e.types v)) (sym same) ∙ of_record)
      led u there false of_record is = absurd (none-some a is)

      by : (o : Option TypeRow) → row_of e.types t ≡ o → record_below e.types o ≡ Some a → (row_of e.types t ≡ Some (row.Pointer a)) × (is_record (row_of e.types a) ≡ true)
      by (Some (row.Pointer u)) there is = led u there (is_record (row_of e.types u)) refl is
      by o there is = absurd (none-some a is)

  record_whole : (o : Option TypeRow) → is_record o ≡ true → is_whole o ≡ true
  record_whole (Some (row.Record base fs)) is = refl
  record_whole o is = absurd (not_both (sym is))

  written_not_low : (t : TypeId) (r : TypeRow) → row_of e.types t ≡ Some r → IsWritten r → is_basic t ≡ false
  written_not_low t r there w = let high = row_high p e whole t r there w in le-ltb t.0 7 (omega (arith, high))

  -- a pointer to a record
  pointer_target : (t a : TypeId) → record_below e.types (row_of e.types t) ≡ Some a → IsMadeAs p e whole t × (target p.program.types (type_as t) ≡ Some a)
  pointer_target t a is =
      let two = below_record t a is in
      let made = pointer_kind p e whole t a (written_not_low t (row.Pointer a) two.0 tt) two.0 in (
        made,
        high_target p e whole t made.0 ∙ ap (target_in e.types t) two.0 ∙ ap (λ v. Some v) (first_is e.types a (record_whole (row_of e.types a) two.1)),
      )

  pub pointers_fit : (from to a b : TypeId) → record_below e.types (row_of e.types from) ≡ Some a → record_below e.types (row_of e.types to) ≡ Some b → comes_to e.types a b ≡ true →
      FitsObject p.program.types (type_as to) (type_as from)
  pointers_fit from to a b i j comes =
      let f = pointer_target from a i in
      let t = pointer_target to b j in
      (reference_typed p e whole from (inr (inr f.0)), inr (b, a, t.1, f.1, ap (λ rows. comes_to rows a b) whole.rows ∙ comes))

  -- A value that fits a variable of objects is one.

  -- what bases lead to a type that is neither a record nor an object type is it
  pub comes_alone : (b : TypeId) → is_record (row_of e.types b) ≡ false → is_object (row_of e.types b) ≡ false → (n : ℕ) (a : TypeId) → comes_by n e.types a b ≡ true → a ≡ b
  comes_alone b record_no object_no zero a is = same_type a b is
  comes_alone b record_no object_no (suc n) a is =
      by (either_is (a.0 == b.0) (on_base (λ c. comes_by n e.types c b) (base_of (row_of e.types a))) is) (comes_alone b record_no object_no n)
    where
      no_base : (c : TypeId) → c ≡ b → (is_record (row_of e.types c) ≡ true) ⊎ (is_object (row_of e.types c) ≡ true) → ⊥
      no_base c same (inl r) = not_both (sym r ∙ ap (λ v. is_record (row_of e.types v)) same ∙ record_no)
      no_base c same (inr r) = not_both (sym r ∙ ap (λ v. is_object (row_of e.types v)) same ∙ object_no)

      up : (o : Option TypeRow) → row_of e.types a ≡ o → on_base (λ c. comes_by n e.types c b) (base_of o) ≡ true →
          ((a : TypeId) → comes_by n e.types a b ≡ true → a ≡ b) → a ≡ b
      up (Some (row.Record (Some c) fs)) there is more = absurd (no_base c (more c is) (inl (whole.parts a.0 (row.Record (Some c) fs) there).0))
      up (Some (row.Object (Some c) fs)) there is more = absurd (no_base c (more c is) (inr (whole.parts a.0 (row.Object (Some c) fs) there).0))
      up (Some (row.Record None fs)) there is more = absurd (not_both (sym is))
      up (Some (row.Object None fs)) there is more = absurd (not_both (sym is))
      up o there is more = absurd (not_both (sym is))

      by : ((a.0 == b.0) ≡ true) ⊎ (on_base (λ c. comes_by n e.types c b) (base_of (row_of e.types a)) ≡ true) → ((a : TypeId) → comes_by n e.types a b ≡ true → a ≡ b) → a ≡ b
      by (inl f) more = same_type a b f
      by (inr f) more = up (row_of e.types a) refl f more

  comes_any : (n : ℕ) (a : TypeId) → comes_by n e.types a any ≡ true → a ≡ any
  comes_any n a is = let there = whole.basic 8 (omega arith) in comes_alone any (ap is_record there) (ap is_object there) n a is

  abbrev pub IsTaken : (from to : TypeId) → Type 0
  IsTaken from to = IsReference p e whole from × TakesObject p (type_as to) from

  -- each object fits ANY, and NIL each type of objects
  fits_any : (from : TypeId) → IsReference p e whole from → TakesObject p type.Any from
  fits_any from kind = (refl, inr (reference_typed p e whole from kind, inl refl))

  nil_fits : (from to : TypeId) → IsReference p e whole to → from ≡ nil → IsTaken from to
  nil_fits from to kind none = (inl none, (reference_typed p e whole to kind, inl none))

  same_fits : (from to : TypeId) → IsReference p e whole to → (to ≡ nil → ⊥) → from ≡ to → IsTaken from to
  same_fits from to kind not_nil is = (subst (IsReference p e whole) (sym is) kind, by kind)
    where
      by : IsReference p e whole to → TakesObject p (type_as to) from
      by (inl none) = absurd (not_nil none)
      by (inr (inl any)) = subst (λ t. TakesObject p (type_as t) from) (sym any) (fits_any from (inr (inl (is ∙ any))))
      by (inr (inr made)) = subst (TakesObject p (type_as to)) (sym is) (reference_typed p e whole to (inr (inr made)), inr (fits_itself p e whole to made))

  objects_fit : (from to : TypeId) → is_object (row_of e.types from) ≡ true → is_object (row_of e.types to) ≡ true → comes_to e.types from to ≡ true →
      FitsObject p.program.types (type_as to) (type_as from)
  objects_fit from to i j comes = (reference_typed p e whole from (inr (inr (made from i).0)), inr (to, from, (made to j).1, (made from i).1, ap (λ rows. comes_to rows from to) whole.rows ∙ comes))
    where
      made : (t : TypeId) → is_object (row_of e.types t) ≡ true → IsMadeAs p e whole t × (target p.program.types (type_as t) ≡ Some t)
      made t is = by (row_of e.types t) refl is
        where
          by : (o : Option TypeRow) → row_of e.types t ≡ o → is_object o ≡ true → IsMadeAs p e whole t × (target p.program.types (type_as t) ≡ Some t)
          by (Some (row.Object base fs)) there is =
              let m = object_kind p e whole t base fs (written_not_low t (row.Object base fs) there tt) there in
              (m, high_target p e whole t m.0 ∙ ap (target_in e.types t) there)
          by o there is = absurd (not_both (sym is))

  object_made : (t : TypeId) → is_object (row_of e.types t) ≡ true → IsReference p e whole t
  object_made t is = by (row_of e.types t) refl is
    where
      by : (o : Option TypeRow) → row_of e.types t ≡ o → is_object o ≡ true → IsReference p e whole t
      by (Some (row.Object base fs)) there is = inr (inr (object_kind p e whole t base fs (written_not_low t (row.Object base fs) there tt) there))
      by o there is = absurd (not_both (sym is))

  pub object_fits : (from to : TypeId) → desig.is_reference e to ≡ true → is_basic to ≡ false → (to ≡ nil → ⊥) → Fit from to → IsTaken from to
  object_fits from to ref high not_nil fit = by (row_of e.types to) refl (either_is (same e.types from to || extends e.types from to) (fits_rows e.types (row_of e.types from) (row_of e.types to)) (by_table from to high fit).2)
    where
      kind : IsReference p e whole to
      kind = reference_kind p e whole to ref

      AreFit : Option TypeRow → Type 0
      AreFit r = ((same e.types from to || extends e.types from to) ≡ true) ⊎ (fits_rows e.types (row_of e.types from) r ≡ true)

      alike : element_of (row_of e.types to) ≡ None → same e.types from to ≡ true → IsTaken from to
      alike shut is = same_fits from to kind not_nil (same_closed (length e.types) from to shut is)

      nil_from : (o : Option TypeRow) → row_of e.types from ≡ o → (r : TypeRow) → o ≡ Some r → is_nil r ≡ true → IsTaken from to
      nil_from o there r some is = nil_fits from to kind (nil_row from (is_nil_row (row_of e.types from) r (there ∙ some) is))

      rows_some : (o : Option TypeRow) (r : TypeRow) → (fits_rows e.types o (Some r) ≡ true) → (f : TypeRow) × (o ≡ Some f) × (fits_row e.types f r ≡ true)
      rows_some (Some f) r is = (f, refl, is)
      rows_some None r is = absurd (not_both (sym is))

      pointer : (u : TypeId) → row_of e.types to ≡ Some (row.Pointer u) → AreFit (Some (row.Pointer u)) → IsTaken from to
      pointer u there (inr is) = let f = rows_some (row_of e.types from) (row.Pointer u) is in nil_from (row_of e.types from) refl f.0 f.1 f.2
      pointer u there (inl is) = at (either_is (same e.types from to) (extends e.types from to) is)
        where
          below : (a b : Option TypeId) → record_below e.types (row_of e.types from) ≡ a → record_below e.types (row_of e.types to) ≡ b → on_both (comes_to e.types) a b ≡ true → IsTaken from to
          below (Some a) (Some b) i j is = (inr (inr (pointer_target from a i).0), (reference_typed p e whole to kind, inr (pointers_fit from to a b i j is)))
          below None b i j is = absurd (not_both (sym is))
          below (Some a) None i j is = absurd (not_both (sym is))

          led : extends_pointer e.types from to ≡ true → IsTaken from to
          led is = by (either_is (from.0 == to.0) (on_both (comes_to e.types) (record_below e.types (row_of e.types from)) (record_below e.types (row_of e.types to))) is)
            where
              by : ((from.0 == to.0) ≡ true) ⊎ (on_both (comes_to e.types) (record_below e.types (row_of e.types from)) (record_below e.types (row_of e.types to)) ≡ true) → IsTaken from to
              by (inl f) = same_fits from to kind not_nil (same_type from to f)
              by (inr f) = below (record_below e.types (row_of e.types from)) (record_below e.types (row_of e.types to)) refl refl f

          at : (same e.types from to ≡ true) ⊎ (extends e.types from to ≡ true) → IsTaken from to
          at (inl f) = alike (ap element_of there) f
          at (inr f) = led (sym (ap (λ o. if is_pointer o then extends_pointer e.types from to else comes_to e.types from to) there) ∙ f)

      object : (base : Option TypeId) (fs : List TypeId) → row_of e.types to ≡ Some (row.Object base fs) → AreFit (Some (row.Object base fs)) → IsTaken from to
      object base fs there (inr is) = let f = rows_some (row_of e.types from) (row.Object base fs) is in nil_from (row_of e.types from) refl f.0 f.1 f.2
      object base fs there (inl is) = at (either_is (same e.types from to) (extends e.types from to) is)
        where
          at : (same e.types from to ≡ true) ⊎ (extends e.types from to ≡ true) → IsTaken from to
          at (inl f) = alike (ap element_of there) f
          at (inr f) =
              let comes = sym (ap (λ o. if is_pointer o then extends_pointer e.types from to else comes_to e.types from to) there) ∙ f in
              let own = comes_object p e whole (length e.types) from to comes (ap is_object there) in
              (object_made from own, (reference_typed p e whole to kind, inr (objects_fit from to own (ap is_object there) comes)))

      held_any : row_of e.types to ≡ Some row.Any → AreFit (Some row.Any) → IsTaken from to
      held_any there is = (from_kind is, subst (λ t. TakesObject p (type_as t) from) (sym to_any) (fits_any from (from_kind is)))
        where
          to_any : to ≡ any
          to_any = predeclared_unique p e whole to any (rw (there, whole.basic 8 (omega arith)) refl)

          of_row : (f : TypeRow) → row_of e.types from ≡ Some f → (is_nil f || is_reference_row f) ≡ true → IsReference p e whole from
          of_row f there is = at (either_is (is_nil f) (is_reference_row f) is)
            where
              written : (f : TypeRow) → row_of e.types from ≡ Some f → is_reference_row f ≡ true → IsReference p e whole from
              written (row.Pointer u) there is = inr (inr (pointer_kind p e whole from u (written_not_low from (row.Pointer u) there tt) there))
              written (row.Object base fs) there is = inr (inr (object_kind p e whole from base fs (written_not_low from (row.Object base fs) there tt) there))
              written f there is = absurd (not_both (sym is))

              at : (is_nil f ≡ true) ⊎ (is_reference_row f ≡ true) → IsReference p e whole from
              at (inl n) = inl (nil_row from (is_nil_row (row_of e.types from) f there n))
              at (inr r) = written f there r

          from_kind : AreFit (Some row.Any) → IsReference p e whole from
          from_kind (inr is) = let f = rows_some (row_of e.types from) row.Any is in of_row f.0 f.1 f.2
          from_kind (inl is) = at (either_is (same e.types from to) (extends e.types from to) is)
            where
              at : (same e.types from to ≡ true) ⊎ (extends e.types from to ≡ true) → IsReference p e whole from
              at (inl f) = inr (inl (same_closed (length e.types) from to (ap element_of there) f ∙ to_any))
              at (inr f) =
                  let comes = sym (ap (λ o. if is_pointer o then extends_pointer e.types from to else comes_to e.types from to) there) ∙ f in
                  inr (inl (comes_any (length e.types) from (ap (comes_to e.types from) (sym to_any) ∙ comes)))

      -- the row is a pointer's, an object type's or that of ANY
      Kinds : Option TypeRow → Type 0
      Kinds o = (is_pointer o ≡ true) ⊎ ((is_object o ≡ true) ⊎ (o ≡ Some row.Any))

      kinds : (o : Option TypeRow) → row_of e.types to ≡ o → IsReference p e whole to → Kinds o
      kinds o there (inl none) = absurd (not_nil none)
      kinds o there (inr (inl is)) = inr (inr (sym there ∙ ap (row_of e.types) is ∙ whole.basic 8 (omega arith)))
      kinds o there (inr (inr made)) = led o (ap (target_in e.types to) (sym there) ∙ sym (high_target p e whole to made.0) ∙ made.1)
        where
          led : (o : Option TypeRow) → target_in e.types to o ≡ Some (desig.made_as e to) → Kinds o
          led (Some (row.Pointer u)) is = inl refl
          led (Some (row.Object base fs)) is = inr (inl refl)
          led o is = absurd (none-some (desig.made_as e to) is)

      by : (o : Option TypeRow) → row_of e.types to ≡ o → AreFit (row_of e.types to) → IsTaken from to
      by o there fit = at o there (kinds o there kind) (subst AreFit there fit)
        where
          at : (o : Option TypeRow) → row_of e.types to ≡ o → Kinds o → AreFit o → IsTaken from to
          at (Some (row.Pointer u)) there k fit = pointer u there fit
          at (Some (row.Object base fs)) there k fit = object base fs there fit
          at (Some row.Any) there k fit = held_any there fit
          at o there (inl i) fit = absurd (not_both (sym i))
          at o there (inr (inl i)) fit = absurd (not_both (sym i))
          at o there (inr (inr i)) fit = absurd (cc)

  -- A record or an array fits where it begins with one of the variable's type.

  -- the row of string constants is that of one type
  text_low : (k : ℕ) → k < 10 → (n : ℕ) → slice_get env.basic_rows k ≡ Some (row.Basic (basic.Text n)) → k ≡ 9
  text_low zero l n e = absurd (cc)
  text_low (suc zero) l n e = absurd (cc)
  text_low (suc (suc zero)) l n e = absurd (cc)
  text_low (suc (suc (suc zero))) l n e = absurd (cc)
  text_low (suc (suc (suc (suc zero)))) l n e = absurd (cc)
  text_low (suc (suc (suc (suc (suc zero))))) l n e = absurd (cc)
  text_low (suc (suc (suc (suc (suc (suc zero)))))) l n e = absurd (cc)
  text_low (suc (suc (suc (suc (suc (suc (suc zero))))))) l n e = absurd (cc)
  text_low (suc (suc (suc (suc (suc (suc (suc (suc zero)))))))) l n e = absurd (cc)
  text_low (suc (suc (suc (suc (suc (suc (suc (suc (suc zero))))))))) l n e = refl
  text_low (suc (suc (suc (suc (suc (suc (suc (suc (suc (suc k)))))))))) l n e = absurd (omega (arith, l))

  is_text : (t : TypeId) (n : ℕ) → row_of e.types t ≡ Some (row.Basic (basic.Text n)) → is_long_text t ≡ true
  is_text t n there = by (nat_lt t.0 10) refl
    where
      by : (b : Bool) → nat_lt t.0 10 ≡ b → is_long_text t ≡ true
      by true is = let low = ltb-true t.0 10 is in eq-eqb 9 t.0 (sym (text_low t.0 low n (sym (whole.basic t.0 low) ∙ there)))
      by false is = absurd (whole.written t.0 (row.Basic (basic.Text n)) (ltb-false t.0 10 is) there)

  has_text : (f : TypeRow) (m : ℕ) → has_room m (text_of f) ≡ true → (n : ℕ) × (f ≡ row.Basic (basic.Text n))
  has_text (row.Basic (basic.Text n)) m is = (n, refl)
  has_text f m is = absurd (not_both (sym is))

  pub whole_fits : (from to : TypeId) → desig.has_parts e to ≡ true → Fit from to → comes_to e.types from to ≡ true
  whole_fits from to parts fit = by (row_of e.types to) refl two.1 (either_is (same e.types from to || extends e.types from to) (fits_rows e.types (row_of e.types from) (row_of e.types to)) fits.2)
    where
      two : (not (is_basic to) ≡ true) × (is_whole (row_of e.types to) ≡ true)
      two = and_parts (not (is_basic to)) _ parts

      low : (b : Bool) → not b ≡ true → b ≡ false
      low true h = absurd (not_both (sym h))
      low false h = refl

      fits : (is_basic from ≡ false) × (is_long_text from ≡ false) × (fits_of e.types from to ≡ true)
      fits = by_table from to (low (is_basic to) two.0) fit

      itself : from ≡ to → comes_to e.types from to ≡ true
      itself is = subst (λ t. comes_to e.types t to ≡ true) (sym is) (comes_here (length e.types) e.types to to (eq-eqb to.0 to.0 refl))

      by_types : element_of (row_of e.types to) ≡ None → is_pointer (row_of e.types to) ≡ false → (same e.types from to || extends e.types from to) ≡ true → comes_to e.types from to ≡ true
      by_types shut other is = at (either_is (same e.types from to) (extends e.types from to) is)
        where
          at : (same e.types from to ≡ true) ⊎ (extends e.types from to ≡ true) → comes_to e.types from to ≡ true
          at (inl f) = itself (same_closed (length e.types) from to shut f)
          at (inr f) = sym (ap (λ b. if b then extends_pointer e.types from to else comes_to e.types from to) other) ∙ f

      no_string : (o : Option TypeRow) → row_of e.types from ≡ o → (m : ℕ) (u : TypeId) → fits_rows e.types o (Some (row.Array m u)) ≡ true → ⊥
      no_string (Some f) there m u is =
          let text = has_text f m (and_parts (is_char (row_of e.types u)) _ is).1 in
          not_both (sym (is_text from text.0 (there ∙ ap (λ r. Some r) text.1)) ∙ fits.1)
      no_string None there m u is = not_both (sym is)

      no_record : (o : Option TypeRow) (base : Option TypeId) (fs : List TypeId) → fits_rows e.types o (Some (row.Record base fs)) ≡ true → ⊥
      no_record (Some f) base fs is = not_both (sym is)
      no_record None base fs is = not_both (sym is)

      by : (o : Option TypeRow) → row_of e.types to ≡ o → is_whole o ≡ true → ((same e.types from to || extends e.types from to) ≡ true) ⊎ (fits_rows e.types (row_of e.types from) (row_of e.types to) ≡ true) →
          comes_to e.types from to ≡ true
      by (Some (row.Array m u)) there w (inl is) = by_types (ap element_of there) (ap is_pointer there) is
      by (Some (row.Record base fs)) there w (inl is) = by_types (ap element_of there) (ap is_pointer there) is
      by (Some (row.Array m u)) there w (inr is) = absurd (no_string (row_of e.types from) refl m u (ap (fits_rows e.types (row_of e.types from)) (sym there) ∙ is))
      by (Some (row.Record base fs)) there w (inr is) = absurd (no_record (row_of e.types from) base fs (ap (fits_rows e.types (row_of e.types from)) (sym there) ∙ is))
      by o there w is = absurd (not_both (sym w))
