-- What pointers lead to, and what is guarded, in an environment of bodies.
use Rattle.std.proofs.Common.{◌≡◌, ℕ, zero, suc, ◌≤◌, ◌<◌, ◌==◌, List, length, Bool, true, false, ◌&&◌, ◌||◌, ◌⊎◌, inl, inr, not, nat_lt, Option, Some, None, slice_get, if◌then◌else◌, refl, sym, ap, ◌∙◌, subst, eqb-true, eq-eqb, ltb-true, ltb-false, le-ltb, arith}
use Rattle.std.proofs.lemmas.Option.{none-some, same_Some, slice_get_within}
use Rattle.std.proofs.lemmas.Bool.{and_parts}
use Rattle.aos_types.specs.declared.row.Basic.{Basic}
use Rattle.aos_types.specs.declared.row.Basic.TheVariants as basic
use Rattle.aos_types.specs.declared.row.TypeId.{TypeId}
use Rattle.aos_types.specs.declared.row.TypeRow.{TypeRow}
use Rattle.aos_types.specs.declared.row.TypeRow.TheVariants as row
use Rattle.aos_types.specs.Table.{row_of, is_open, is_record, is_pointer, is_object, base_of, on_both}
use Rattle.aos_types.specs.Extension.{comes_by, comes_to, on_base, record_below, extends, extends_pointer}
use Rattle.aos_types.specs.Sameness.{place, are_one, are_predeclared, element_of, same_by, same}
use Rattle.aos_types.proofs.Steps.{same_here}
use Rattle.aos_typed.specs.declared.tree.TType.{TType}
use Rattle.aos_typed.specs.declared.tree.TType.TheVariants as type
use Rattle.aos_typed.specs.Numbers.{id_of}
use Rattle.aos_typed.specs.Open.{open_dimensions, open_element, first_from, first_same}
use Rattle.aos_typed.specs.Program.{Place, Passed, Guarded, Of, Deref, Spread, Expr, Guard}
use Rattle.aos_typed.specs.WellTyped.{NamesType, target, target_in, is_reference as is_reference_type, is_whole}
use Rattle.aos_symbols.specs.declared.env.Env.{Env}
use Rattle.aos_symbols.specs.Env as env
use Rattle.aos_symbols.specs.Env.{nil}
use Rattle.aos_symbols.proofs.Told.{IsTold, defined, IsTarget}
use Rattle.aos_known.proofs.Inside.{Inside, IsOf}
use Rattle.aos_known.specs.Known.{is, is_basic, is_of_any, type_as, object_number}
use Rattle.aos_known.proofs.Types.{not_both, same_type, as_named, id_above}
use Rattle.aos_operators.proofs.Sound.{IsObject, TakesObject}
use Rattle.aos_designators.specs.Designators as desig
use Rattle.aos_check_expr.proofs.Opens.{OpensFall, open_is, next_dimensions, next_element}
use Rattle.aos_check_expr.proofs.Whole.{IsTyped, closed, opened, IsWhole, IsWritten, opened_row, elements_id}
use Rattle.aos_check_expr.proofs.Objects.{either_is, first_is, IsMadeAs, IsReference, row_high, high_row, high_target, pointer_kind, reference_kind, reference_typed, of_own_type, of_any_type}

-- Open arrays that are the same have as many open dimensions, and the same elements behind them.

module _ (rows : List TypeRow) (falls : OpensFall rows) (unique : (a b : TypeId) → are_predeclared (row_of rows a) (row_of rows b) ≡ true → a ≡ b) where
  one_same : (a b : TypeId) → are_one rows a b ≡ true → a ≡ b
  one_same a b is = by (either_is (a.0 == b.0) (are_predeclared (row_of rows a) (row_of rows b)) is)
    where
      by : ((a.0 == b.0) ≡ true) ⊎ (are_predeclared (row_of rows a) (row_of rows b) ≡ true) → a ≡ b
      by (inl e) = same_type a b e
      by (inr e) = unique a b e

  abbrev AreAlike : TypeId → TypeId → Type 0
  AreAlike a b =
      (open_dimensions rows a ≡ open_dimensions rows b) × (open_element rows a ≡ open_element rows b)
      × (is_open (row_of rows b) ≡ true → is_open (row_of rows a) ≡ true)

  alike_one : (a b : TypeId) → a ≡ b → AreAlike a b
  alike_one a b e = (ap (open_dimensions rows) e, ap (open_element rows) e, λ is. ap (λ t. is_open (row_of rows t)) e ∙ is)

  alike : (n : ℕ) (a b : TypeId) → same_by n rows a b ≡ true → AreAlike a b
  alike zero a b is = alike_one a b (one_same a b is)
  alike (suc n) a b is = by (either_is (are_one rows a b) (on_both (same_by n rows) (element_of (row_of rows a)) (element_of (row_of rows b))) is) (alike n)
    where
      opened : (v w : Option TypeId) → element_of (row_of rows a) ≡ v → element_of (row_of rows b) ≡ w → on_both (same_by n rows) v w ≡ true →
          ((c d : TypeId) → same_by n rows c d ≡ true → AreAlike c d) → AreAlike a b
      opened (Some v) (Some w) i j is more =
          let ra = open_is (row_of rows a) v i in
          let rb = open_is (row_of rows b) w j in
          let m = more v w is in
          (next_dimensions rows falls a v ra ∙ ap suc m.0 ∙ sym (next_dimensions rows falls b w rb), next_element rows falls a v ra ∙ m.1 ∙ sym (next_element rows falls b w rb), λ q. ap is_open ra)
      opened None w i j is more = absurd (not_both (sym is))
      opened (Some v) None i j is more = absurd (not_both (sym is))

      by : (are_one rows a b ≡ true) ⊎ (on_both (same_by n rows) (element_of (row_of rows a)) (element_of (row_of rows b)) ≡ true) →
          ((c d : TypeId) → same_by n rows c d ≡ true → AreAlike c d) → AreAlike a b
      by (inl e) more = alike_one a b (one_same a b e)
      by (inr e) more = opened (element_of (row_of rows a)) (element_of (row_of rows b)) refl refl e more

  same_itself : (t : TypeId) → same rows t t ≡ true
  same_itself t = same_here (length rows) rows t t (ap (λ b. b || are_predeclared (row_of rows t) (row_of rows t)) (eq-eqb t.0 t.0 refl))

  first_found : (t : TypeId) (n k : ℕ) → same rows (first_from n k rows t) t ≡ true
  first_found t zero k = same_itself t
  first_found t (suc n) k = by (same rows (record { 0 = k }) t) refl (first_found t n (suc k))
    where
      by : (b : Bool) → same rows (record { 0 = k }) t ≡ b → same rows (first_from n (suc k) rows t) t ≡ true →
          same rows (if b then record { 0 = k } else first_from n (suc k) rows t) t ≡ true
      by true e more = e
      by false e more = more

  pub first_alike : (t : TypeId) → AreAlike (first_same rows t) t
  first_alike t = alike (length rows) (first_same rows t) t (first_found t (length rows) 0)

-- The predeclared types have one row each.

abbrev from_place : ℕ → ℕ
from_place n = if n == 8 then 9 else n

placed_number : (k : ℕ) → k < 10 → (b : Basic) → slice_get env.basic_rows k ≡ Some (row.Basic b) → k ≡ from_place (place b)
placed_number k below b is = by k below is
  where
    basic_same : (a b : Basic) → Some (row.Basic a) ≡ Some (row.Basic b) → a ≡ b
    basic_same a b e = let f : row.Basic a ≡ row.Basic b = same_Some (row.Basic a) (row.Basic b) e in cc

    at : (n : ℕ) (a : Basic) → n ≡ from_place (place a) → Some (row.Basic a) ≡ Some (row.Basic b) → n ≡ from_place (place b)
    at n a here e = here ∙ ap (λ c. from_place (place c)) (basic_same a b e)

    by : (k : ℕ) → k < 10 → slice_get env.basic_rows k ≡ Some (row.Basic b) → k ≡ from_place (place b)
    by zero l e = at 0 basic.ShortInt refl e
    by (suc zero) l e = at 1 basic.Integer refl e
    by (suc (suc zero)) l e = at 2 basic.LongInt refl e
    by (suc (suc (suc zero))) l e = at 3 basic.HugeInt refl e
    by (suc (suc (suc (suc zero)))) l e = at 4 basic.Boolean refl e
    by (suc (suc (suc (suc (suc zero))))) l e = at 5 basic.Char refl e
    by (suc (suc (suc (suc (suc (suc zero)))))) l e = at 6 basic.Set refl e
    by (suc (suc (suc (suc (suc (suc (suc zero))))))) l e = at 7 basic.Nil refl e
    by (suc (suc (suc (suc (suc (suc (suc (suc zero)))))))) l e = absurd (cc)
    by (suc (suc (suc (suc (suc (suc (suc (suc (suc zero))))))))) l e = at 9 (basic.Text 0) refl e
    by (suc (suc (suc (suc (suc (suc (suc (suc (suc (suc k)))))))))) l e = absurd (omega (arith, l))

any_number : (k : ℕ) → k < 10 → slice_get env.basic_rows k ≡ Some row.Any → k ≡ 8
any_number zero l e = absurd (cc)
any_number (suc zero) l e = absurd (cc)
any_number (suc (suc zero)) l e = absurd (cc)
any_number (suc (suc (suc zero))) l e = absurd (cc)
any_number (suc (suc (suc (suc zero)))) l e = absurd (cc)
any_number (suc (suc (suc (suc (suc zero))))) l e = absurd (cc)
any_number (suc (suc (suc (suc (suc (suc zero)))))) l e = absurd (cc)
any_number (suc (suc (suc (suc (suc (suc (suc zero))))))) l e = absurd (cc)
any_number (suc (suc (suc (suc (suc (suc (suc (suc zero)))))))) l e = refl
any_number (suc (suc (suc (suc (suc (suc (suc (suc (suc zero))))))))) l e = absurd (cc)
any_number (suc (suc (suc (suc (suc (suc (suc (suc (suc (suc k)))))))))) l e = absurd (omega (arith, l))

number_same : (a b : TypeId) → a.0 ≡ b.0 → a ≡ b
number_same a b e = ap (λ (n : ℕ). record { 0 = n }) e

module _ (p : Inside) (e : Env) (whole : IsWhole p e) where
  -- a predeclared row is one of the first
  low_row : (t : TypeId) (r : TypeRow) → row_of e.types t ≡ Some r → (IsWritten r → ⊥) → t.0 < 10
  low_row t r there un = by (nat_lt t.0 10) refl
    where
      by : (b : Bool) → nat_lt t.0 10 ≡ b → t.0 < 10
      by true low = ltb-true t.0 10 low
      by false high = absurd (un (whole.written t.0 r (ltb-false t.0 10 high) there))

  pub predeclared_unique : (a b : TypeId) → are_predeclared (row_of e.types a) (row_of e.types b) ≡ true → a ≡ b
  predeclared_unique a b is = by (row_of e.types a) (row_of e.types b) refl refl is
    where
      low : (t : TypeId) (r : TypeRow) → row_of e.types t ≡ Some r → (IsWritten r → ⊥) → slice_get env.basic_rows t.0 ≡ Some r
      low t r there un = sym (whole.basic t.0 (low_row t r there un)) ∙ there

      by : (r s : Option TypeRow) → row_of e.types a ≡ r → row_of e.types b ≡ s → are_predeclared r s ≡ true → a ≡ b
      by (Some (row.Basic x)) (Some (row.Basic y)) i j is =
          number_same a b
          (placed_number a.0 (low_row a (row.Basic x) i (λ w. w)) x (low a (row.Basic x) i (λ w. w))
          ∙ ap from_place (eqb-true (place x) (place y) is)
          ∙ sym (placed_number b.0 (low_row b (row.Basic y) j (λ w. w)) y (low b (row.Basic y) j (λ w. w))))
      by (Some row.Any) (Some row.Any) i j is =
          number_same a b
          (any_number a.0 (low_row a row.Any i (λ w. w)) (low a row.Any i (λ w. w)) ∙ sym (any_number b.0 (low_row b row.Any j (λ w. w)) (low b row.Any j (λ w. w))))
      by r s i j is = absurd (not_both (sym is))

  -- What a pointer leads to.

  pub pointed_row : (t u : TypeId) → desig.pointed e t ≡ Some u → (is_basic t ≡ false) × (row_of e.types t ≡ Some (row.Pointer u))
  pointed_row t u is = by (is_basic t) refl is
    where
      leads : is_basic t ≡ false → (r : Option TypeRow) → row_of e.types t ≡ r → desig.pointed_in r ≡ Some u → (is_basic t ≡ false) × (row_of e.types t ≡ Some (row.Pointer u))
      leads low (Some (row.Pointer v)) there is = (low, there ∙ ap (λ w. Some (row.Pointer w)) (same_Some v u is))
      leads low r there is = absurd (none-some u is)

      by : (b : Bool) → is_basic t ≡ b → (if b then None else desig.pointed_in (row_of e.types t)) ≡ Some u → (is_basic t ≡ false) × (row_of e.types t ≡ Some (row.Pointer u))
      by true low is = absurd (none-some u is)
      by false low is = leads low (row_of e.types t) refl is

  pub pointed_kind : (t u : TypeId) → desig.pointed e t ≡ Some u → (desig.is_reference e t ≡ true) × IsMadeAs p e whole t × (desig.made_as e t ≡ first_same e.types u)
  pointed_kind t u is =
      let r = pointed_row t u is in (
        rw (r.0, r.1) (or_last (is_of_any t)),
        pointer_kind p e whole t u r.0 r.1,
        rw (r.0, r.1) refl,
      )
    where
      or_last : (b : Bool) → (b || true) ≡ true
      or_last true = refl
      or_last false = refl

  -- the type is known, or an open array
  pub followed_typed : (t u : TypeId) (x : Expr) → desig.pointed e t ≡ Some u → IsObject p t x → IsTyped p e (desig.followed_place e u x) (Some u)
  followed_typed t u x is o = by (desig.is_opened e u) refl
    where
      kind : (desig.is_reference e t ≡ true) × IsMadeAs p e whole t × (desig.made_as e t ≡ first_same e.types u)
      kind = pointed_kind t u is

      led : IsTarget e.types u
      led = whole.parts t.0 (row.Pointer u) (pointed_row t u is).1

      own : IsOf p x (type_as t)
      own = of_own_type p e whole t x o kind.1

      -- what its objects are made as, in the program
      made : target p.program.types (type_as t) ≡ Some (first_same e.types u)
      made = kind.1.1 ∙ ap (λ v. Some v) kind.2

      no_low : is_basic u ≡ false
      no_low = le-ltb u.0 7 (let high = led.0 in omega (arith, high))

      shut : desig.is_opened e u ≡ false → is_open (row_of e.types u) ≡ false
      shut is = sym (ap (λ b. not b && is_open (row_of e.types u)) no_low) ∙ is

      closed_whole : desig.is_opened e u ≡ false → is_whole (row_of e.types u) ≡ true
      closed_whole is = or_false (is_whole (row_of e.types u)) (is_open (row_of e.types u)) (shut is) led.1
        where
          or_false : (a b : Bool) → b ≡ false → (a || b) ≡ true → a ≡ true
          or_false true b e h = refl
          or_false false b e h = absurd (not_both (sym h ∙ e))

      told : desig.is_opened e u ≡ false → IsTold e.types u
      told is = by (row_of e.types u) refl (closed_whole is)
        where
          by : (r : Option TypeRow) → row_of e.types u ≡ r → is_whole r ≡ true → IsTold e.types u
          by None there w = absurd (not_both (sym w))
          by (Some r) there w = defined r led.0 there (ap is_open (sym there) ∙ shut is)

      high : 10 ≤ u.0
      high = led.0

      leads : desig.is_opened e u ≡ false → target p.program.types (type_as t) ≡ Some (id_of (type_as u))
      leads is = made ∙ ap (λ v. Some v) (first_is e.types u (closed_whole is) ∙ sym (id_above u high))

      alike : (open_dimensions e.types (first_same e.types u) ≡ open_dimensions e.types u) × (open_element e.types (first_same e.types u) ≡ open_element e.types u)
          × (is_open (row_of e.types u) ≡ true → is_open (row_of e.types (first_same e.types u)) ≡ true)
      alike = first_alike e.types whole.opens.falls predeclared_unique u

      by : (b : Bool) → desig.is_opened e u ≡ b → IsTyped p e (if b then Of (Spread x (open_dimensions e.types u)) else Deref x (type_as u)) (Some u)
      by false is =
          closed (type_as t, own, leads is, ap is_whole (high_row p e whole u high) ∙ closed_whole is, refl) (told is)
      by true is =
          let r = opened_row e u is in
          opened u (Spread x (open_dimensions e.types u)) refl refl is (
            refl,
            (
              type_as t,
              first_same e.types u,
              own,
              made,
              ap (λ rows. is_open (row_of rows (first_same e.types u))) whole.rows ∙ alike.2 (ap is_open r.2),
              sym alike.0 ∙ ap (λ rows. open_dimensions rows (first_same e.types u)) (sym whole.rows),
              ap (λ rows. open_element rows (first_same e.types u)) whole.rows ∙ alike.1 ∙ sym (elements_id e whole.opens u is),
            ),
          )
          tt tt

  -- Bases of records are records, and those of object types are object types.

  pub comes_record : (n : ℕ) (a b : TypeId) → comes_by n e.types a b ≡ true → is_record (row_of e.types b) ≡ true → is_record (row_of e.types a) ≡ true
  comes_record zero a b is r = ap (λ t. is_record (row_of e.types t)) (same_type a b is) ∙ r
  comes_record (suc n) a b is r = by (either_is (a.0 == b.0) (on_base (λ c. comes_by n e.types c b) (base_of (row_of e.types a))) is) (comes_record n)
    where
      up : (o : Option TypeRow) → row_of e.types a ≡ o → on_base (λ c. comes_by n e.types c b) (base_of o) ≡ true →
          ((a b : TypeId) → comes_by n e.types a b ≡ true → is_record (row_of e.types b) ≡ true → is_record (row_of e.types a) ≡ true) → is_record o ≡ true
      up (Some (row.Record base fs)) there is more = refl
      up (Some (row.Object None fs)) there is more = absurd (not_both (sym is))
      up (Some (row.Object (Some c) fs)) there is more = absurd (both (row_of e.types c) (whole.parts a.0 (row.Object (Some c) fs) there).0 (more c b is r))
        where
          both : (o : Option TypeRow) → is_object o ≡ true → is_record o ≡ true → ⊥
          both (Some (row.Object base gs)) i j = not_both (sym j)
          both o i j = not_both (sym i)
      up o there is more = absurd (not_both (sym is))

      by : ((a.0 == b.0) ≡ true) ⊎ (on_base (λ c. comes_by n e.types c b) (base_of (row_of e.types a)) ≡ true) →
          ((a b : TypeId) → comes_by n e.types a b ≡ true → is_record (row_of e.types b) ≡ true → is_record (row_of e.types a) ≡ true) → is_record (row_of e.types a) ≡ true
      by (inl f) more = ap (λ t. is_record (row_of e.types t)) (same_type a b f) ∙ r
      by (inr f) more = up (row_of e.types a) refl f more

  -- so what has parts does so by bases that have parts, too
  pub comes_whole : (n : ℕ) (a b : TypeId) → comes_by n e.types a b ≡ true → is_whole (row_of e.types b) ≡ true → is_whole (row_of e.types a) ≡ true
  comes_whole zero a b is r = ap (λ t. is_whole (row_of e.types t)) (same_type a b is) ∙ r
  comes_whole (suc n) a b is r = by (either_is (a.0 == b.0) (on_base (λ c. comes_by n e.types c b) (base_of (row_of e.types a))) is) (comes_whole n)
    where
      up : (o : Option TypeRow) → row_of e.types a ≡ o → on_base (λ c. comes_by n e.types c b) (base_of o) ≡ true →
          ((a b : TypeId) → comes_by n e.types a b ≡ true → is_whole (row_of e.types b) ≡ true → is_whole (row_of e.types a) ≡ true) → is_whole o ≡ true
      up (Some (row.Record base fs)) there is more = refl
      up (Some (row.Object None fs)) there is more = absurd (not_both (sym is))
      up (Some (row.Object (Some c) fs)) there is more = absurd (both (row_of e.types c) (whole.parts a.0 (row.Object (Some c) fs) there).0 (more c b is r))
        where
          both : (o : Option TypeRow) → is_object o ≡ true → is_whole o ≡ true → ⊥
          both (Some (row.Object base gs)) i j = not_both (sym j)
          both o i j = not_both (sym i)
      up o there is more = absurd (not_both (sym is))

      by : ((a.0 == b.0) ≡ true) ⊎ (on_base (λ c. comes_by n e.types c b) (base_of (row_of e.types a)) ≡ true) →
          ((a b : TypeId) → comes_by n e.types a b ≡ true → is_whole (row_of e.types b) ≡ true → is_whole (row_of e.types a) ≡ true) → is_whole (row_of e.types a) ≡ true
      by (inl f) more = ap (λ t. is_whole (row_of e.types t)) (same_type a b f) ∙ r
      by (inr f) more = up (row_of e.types a) refl f more

  pub comes_object : (n : ℕ) (a b : TypeId) → comes_by n e.types a b ≡ true → is_object (row_of e.types b) ≡ true → is_object (row_of e.types a) ≡ true
  comes_object zero a b is r = ap (λ t. is_object (row_of e.types t)) (same_type a b is) ∙ r
  comes_object (suc n) a b is r = by (either_is (a.0 == b.0) (on_base (λ c. comes_by n e.types c b) (base_of (row_of e.types a))) is) (comes_object n)
    where
      up : (o : Option TypeRow) → row_of e.types a ≡ o → on_base (λ c. comes_by n e.types c b) (base_of o) ≡ true →
          ((a b : TypeId) → comes_by n e.types a b ≡ true → is_object (row_of e.types b) ≡ true → is_object (row_of e.types a) ≡ true) → is_object o ≡ true
      up (Some (row.Object base fs)) there is more = refl
      up (Some (row.Record None fs)) there is more = absurd (not_both (sym is))
      up (Some (row.Record (Some c) fs)) there is more = absurd (both (row_of e.types c) (whole.parts a.0 (row.Record (Some c) fs) there).0 (more c b is r))
        where
          both : (o : Option TypeRow) → is_record o ≡ true → is_object o ≡ true → ⊥
          both (Some (row.Record base gs)) i j = not_both (sym j)
          both o i j = not_both (sym i)
      up o there is more = absurd (not_both (sym is))

      by : ((a.0 == b.0) ≡ true) ⊎ (on_base (λ c. comes_by n e.types c b) (base_of (row_of e.types a)) ≡ true) →
          ((a b : TypeId) → comes_by n e.types a b ≡ true → is_object (row_of e.types b) ≡ true → is_object (row_of e.types a) ≡ true) → is_object (row_of e.types a) ≡ true
      by (inl f) more = ap (λ t. is_object (row_of e.types t)) (same_type a b f) ∙ r
      by (inr f) more = up (row_of e.types a) refl f more

  -- What extends what.

  is_pointer_row : (o : Option TypeRow) → is_pointer o ≡ true → (u : TypeId) × (o ≡ Some (row.Pointer u))
  is_pointer_row (Some (row.Pointer u)) is = (u, refl)
  is_pointer_row o is = absurd (not_both (sym is))

  is_object_row : (o : Option TypeRow) → is_object o ≡ true → (base : Option TypeId) × (fs : List TypeId) × (o ≡ Some (row.Object base fs))
  is_object_row (Some (row.Object base fs)) is = (base, fs, refl)
  is_object_row o is = absurd (not_both (sym is))

  -- of a row that a module writes, the number isn't a basic type's
  written_low : (t : TypeId) (r : TypeRow) → row_of e.types t ≡ Some r → IsWritten r → is_basic t ≡ false
  written_low t r there w = let high = row_high p e whole t r there w in le-ltb t.0 7 (omega (arith, high))

  or_right : (a b : Bool) → b ≡ true → (a || b) ≡ true
  or_right true b is = refl
  or_right false b is = is

  or_left : (a b : Bool) → a ≡ true → (a || b) ≡ true
  or_left true b is = refl
  or_left false b is = absurd (not_both (sym is))

  pointer_reference : (t : TypeId) → is_pointer (row_of e.types t) ≡ true → desig.is_reference e t ≡ true
  pointer_reference t is =
      let u = is_pointer_row (row_of e.types t) is in
      or_right (is_of_any t) _ (or_left (desig.is_pointer_type e t) _ (rw (written_low t (row.Pointer u.0) u.1 tt) is))

  object_reference : (t : TypeId) → is_object (row_of e.types t) ≡ true → desig.is_reference e t ≡ true
  object_reference t is =
      let u = is_object_row (row_of e.types t) is in
      or_right (is_of_any t) _ (or_right (desig.is_pointer_type e t) _ (rw (written_low t (row.Object u.0 u.1) u.2 tt) is))

  below_pointer : (t : TypeId) (o : Option TypeId) → record_below e.types (row_of e.types t) ≡ o → (a : TypeId) → o ≡ Some a → is_pointer (row_of e.types t) ≡ true
  below_pointer t o below a some = by (row_of e.types t) below
    where
      by : (r : Option TypeRow) → record_below e.types r ≡ o → is_pointer r ≡ true
      by (Some (row.Pointer u)) is = refl
      by r is = absurd (none-some a (is ∙ some))

  -- what extends a type of objects is one
  pub extends_reference : (of t : TypeId) → IsReference p e whole of → desig.is_reference e of ≡ true → desig.is_extension e of t ≡ true → desig.is_reference e t ≡ true
  extends_reference of t kind ref is = by (is_of_any of) refl is
    where
      both : (b : Option TypeId) → record_below e.types (row_of e.types of) ≡ b → (a : Option TypeId) → record_below e.types (row_of e.types t) ≡ a → on_both (comes_to e.types) a b ≡ true → desig.is_reference e t ≡ true
      both b j (Some x) i is = pointer_reference t (below_pointer t (Some x) i x refl)
      both b j None i is = absurd (not_both (sym is))

      pointers : extends_pointer e.types t of ≡ true → desig.is_reference e t ≡ true
      pointers is = at (either_is (t.0 == of.0) (on_both (comes_to e.types) (record_below e.types (row_of e.types t)) (record_below e.types (row_of e.types of))) is)
        where
          at : ((t.0 == of.0) ≡ true) ⊎ (on_both (comes_to e.types) (record_below e.types (row_of e.types t)) (record_below e.types (row_of e.types of)) ≡ true) → desig.is_reference e t ≡ true
          at (inl f) = ap (desig.is_reference e) (same_type t of f) ∙ ref
          at (inr f) = both (record_below e.types (row_of e.types of)) refl (record_below e.types (row_of e.types t)) refl f

      objects : is_object (row_of e.types of) ≡ true → comes_to e.types t of ≡ true → desig.is_reference e t ≡ true
      objects object is = object_reference t (comes_object (length e.types) t of is object)

      extended : is_of_any of ≡ false → (b : Bool) → is_pointer (row_of e.types of) ≡ b → (if b then extends_pointer e.types t of else comes_to e.types t of) ≡ true → desig.is_reference e t ≡ true
      extended none true pointer is = pointers is
      extended none false other is = objects (object none (either_is (desig.is_pointer_type e of) (desig.is_object_type e of) (left none ref))) is
        where
          left : is_of_any of ≡ false → (is_of_any of || (desig.is_pointer_type e of || desig.is_object_type e of)) ≡ true → (desig.is_pointer_type e of || desig.is_object_type e of) ≡ true
          left none is = sym (ap (λ b. b || (desig.is_pointer_type e of || desig.is_object_type e of)) none) ∙ is

          object : is_of_any of ≡ false → (desig.is_pointer_type e of ≡ true) ⊎ (desig.is_object_type e of ≡ true) → is_object (row_of e.types of) ≡ true
          object none (inl is) = absurd (not_both (sym (and_parts (not (is_basic of)) _ is).1 ∙ other))
          object none (inr is) = (and_parts (not (is_basic of)) _ is).1

      by : (b : Bool) → is_of_any of ≡ b → (if b then desig.is_pointer_type e t || desig.is_object_type e t else extends e.types t of) ≡ true → desig.is_reference e t ≡ true
      by true any is = or_right (is_of_any t) _ is
      by false none is = extended none (is_pointer (row_of e.types of)) refl is

  -- what extends a record is one
  pub extends_record : (of t : TypeId) → desig.is_record_type e of ≡ true → desig.is_extension e of t ≡ true → is_record (row_of e.types t) ≡ true
  extends_record of t of_record does = by (is_of_any of) refl does
    where
      own : is_record (row_of e.types of) ≡ true
      own = (and_parts (not (is_basic of)) _ of_record).1

      no_any : is_of_any of ≡ true → ⊥
      no_any any = at (either_is (is nil of) (is any_type of) any)
        where
          any_type : TypeId
          any_type = env.any

          at : (is nil of ≡ true) ⊎ (is any_type of ≡ true) → ⊥
          at (inl f) = not_both (sym own ∙ ap (λ t. is_record (row_of e.types t)) (sym (same_type nil of f)) ∙ ap is_record (whole.basic 7 (omega arith)))
          at (inr f) = not_both (sym own ∙ ap (λ t. is_record (row_of e.types t)) (sym (same_type any_type of f)) ∙ ap is_record (whole.basic 8 (omega arith)))

      no_pointer : (o : Option TypeRow) → is_record o ≡ true → is_pointer o ≡ false
      no_pointer (Some (row.Record base fs)) is = refl
      no_pointer o is = absurd (not_both (sym is))

      by : (b : Bool) → is_of_any of ≡ b → (if b then desig.is_pointer_type e t || desig.is_object_type e t else extends e.types t of) ≡ true → is_record (row_of e.types t) ≡ true
      by true any is = absurd (no_any any)
      by false none is =
          comes_record (length e.types) t of (sym (ap (λ b. if b then extends_pointer e.types t of else comes_to e.types t of) (no_pointer (row_of e.types of) own)) ∙ is) own

  -- NIL's type and ANY extend no type of objects but themselves
  predeclared_row : (t : TypeId) → (t ≡ nil) ⊎ (t ≡ env.any) →
      (is_pointer (row_of e.types t) ≡ false) × (is_object (row_of e.types t) ≡ false) × (base_of (row_of e.types t) ≡ None) × (record_below e.types (row_of e.types t) ≡ None)
  predeclared_row t (inl is) = rw (is, whole.basic 7 (omega arith)) (refl, refl, refl, refl)
  predeclared_row t (inr is) = rw (is, whole.basic 8 (omega arith)) (refl, refl, refl, refl)

  pub no_extension : (of t : TypeId) → (t ≡ nil) ⊎ (t ≡ env.any) → desig.is_reference e of ≡ true → desig.is_extension e of t ≡ true → ⊥
  no_extension of t low ref is = by (is_of_any of) refl is
    where
      rows : (is_pointer (row_of e.types t) ≡ false) × (is_object (row_of e.types t) ≡ false) × (base_of (row_of e.types t) ≡ None) × (record_below e.types (row_of e.types t) ≡ None)
      rows = predeclared_row t low

      itself : is_of_any of ≡ false → t ≡ of → ⊥
      itself none same = at low
        where
          at : (t ≡ nil) ⊎ (t ≡ env.any) → ⊥
          at (inl f) = not_both (ap is_of_any (sym f ∙ same) ∙ none)
          at (inr f) = not_both (ap is_of_any (sym f ∙ same) ∙ none)

      comes : is_of_any of ≡ false → (n : ℕ) → comes_by n e.types t of ≡ true → ⊥
      comes none zero is = itself none (same_type t of is)
      comes none (suc n) is = at (either_is (t.0 == of.0) (on_base (λ c. comes_by n e.types c of) (base_of (row_of e.types t))) is)
        where
          at : ((t.0 == of.0) ≡ true) ⊎ (on_base (λ c. comes_by n e.types c of) (base_of (row_of e.types t)) ≡ true) → ⊥
          at (inl f) = itself none (same_type t of f)
          at (inr f) = not_both (sym f ∙ ap (on_base (λ c. comes_by n e.types c of)) rows.2)

      extended : is_of_any of ≡ false → (b : Bool) → (if b then extends_pointer e.types t of else comes_to e.types t of) ≡ true → ⊥
      extended none false is = comes none (length e.types) is
      extended none true is = at (either_is (t.0 == of.0) (on_both (comes_to e.types) (record_below e.types (row_of e.types t)) (record_below e.types (row_of e.types of))) is)
        where
          at : ((t.0 == of.0) ≡ true) ⊎ (on_both (comes_to e.types) (record_below e.types (row_of e.types t)) (record_below e.types (row_of e.types of)) ≡ true) → ⊥
          at (inl f) = itself none (same_type t of f)
          at (inr f) = not_both (sym f ∙ ap (λ o. on_both (comes_to e.types) o (record_below e.types (row_of e.types of))) rows.3)

      by : (b : Bool) → is_of_any of ≡ b → (if b then desig.is_pointer_type e t || desig.is_object_type e t else extends e.types t of) ≡ true → ⊥
      by true any is = at (either_is (desig.is_pointer_type e t) (desig.is_object_type e t) is)
        where
          at : (desig.is_pointer_type e t ≡ true) ⊎ (desig.is_object_type e t ≡ true) → ⊥
          at (inl f) = not_both (sym (and_parts (not (is_basic t)) _ f).1 ∙ rows.0)
          at (inr f) = not_both (sym (and_parts (not (is_basic t)) _ f).1 ∙ rows.1)
      by false none is = extended none (is_pointer (row_of e.types of)) is

  -- Guards.

  -- the type as which objects are made is one of the program's
  pub made_there : (t : TypeId) → IsMadeAs p e whole t → (10 ≤ (desig.made_as e t).0) × ((desig.made_as e t).0 < length e.types)
  made_there t made = by (desig.pointed e t) refl
    where
      there : (m : TypeId) → (r : Option TypeRow) → row_of e.types m ≡ r → (r ≡ None → ⊥) → m.0 < length e.types
      there m None is some = absurd (some refl)
      there m (Some r) is some = slice_get_within e.types m.0 r is

      none_whole : (r : Option TypeRow) → (is_whole r || is_open r) ≡ true → r ≡ None → ⊥
      none_whole None is e = not_both (sym is)
      none_whole (Some r) is e = none-some r (sym e)

      -- of a pointer
      pointer : (u : TypeId) → desig.pointed e t ≡ Some u → (10 ≤ (first_same e.types u).0) × ((first_same e.types u).0 < length e.types)
      pointer u is = at (is_open (row_of e.types u)) refl
        where
          led : IsTarget e.types u
          led = whole.parts t.0 (row.Pointer u) (pointed_row t u is).1

          at : (b : Bool) → is_open (row_of e.types u) ≡ b → (10 ≤ (first_same e.types u).0) × ((first_same e.types u).0 < length e.types)
          at true opening =
              let alike = (first_alike e.types whole.opens.falls predeclared_unique u).2 opening in
              let r = open_here (row_of e.types (first_same e.types u)) alike in
              (whole.opens.above (first_same e.types u) r.0 r.1, slice_get_within e.types (first_same e.types u).0 (row.Open r.0) r.1)
            where
              open_here : (o : Option TypeRow) → is_open o ≡ true → (v : TypeId) × (o ≡ Some (row.Open v))
              open_here (Some (row.Open v)) is = (v, refl)
              open_here o is = absurd (not_both (sym is))
          at false shut =
              let same = first_is e.types u (or_none (is_whole (row_of e.types u)) (is_open (row_of e.types u)) shut led.1) in
              subst (λ (v : TypeId). (10 ≤ v.0) × (v.0 < length e.types)) (sym same) (led.0, there u (row_of e.types u) refl (none_whole (row_of e.types u) led.1))
            where
              or_none : (a b : Bool) → b ≡ false → (a || b) ≡ true → a ≡ true
              or_none true b e h = refl
              or_none false b e h = absurd (not_both (sym h ∙ e))

      by : (o : Option TypeId) → desig.pointed e t ≡ o → (10 ≤ (desig.made_as e t).0) × ((desig.made_as e t).0 < length e.types)
      by (Some u) is = rw is (pointer u is)
      by None is = rw is (made.0, there t (row_of e.types t) refl (λ none. none-some (desig.made_as e t) (sym (high_target p e whole t made.0 ∙ ap (target_in e.types t) none) ∙ made.1)))

  -- what a pointer's objects are made as is no object type, and has as many open dimensions as what it leads to
  pub made_pointed : (t u : TypeId) → desig.pointed e t ≡ Some u →
      (is_object (row_of e.types (desig.made_as e t)) ≡ false) × (open_dimensions e.types (desig.made_as e t) ≡ open_dimensions e.types u)
  made_pointed t u is = rw is (at (is_open (row_of e.types u)) refl, (first_alike e.types whole.opens.falls predeclared_unique u).0)
    where
      led : IsTarget e.types u
      led = whole.parts t.0 (row.Pointer u) (pointed_row t u is).1

      open_no : (o : Option TypeRow) → is_open o ≡ true → is_object o ≡ false
      open_no (Some (row.Open v)) is = refl
      open_no o is = absurd (not_both (sym is))

      whole_no : (o : Option TypeRow) → is_whole o ≡ true → is_object o ≡ false
      whole_no (Some (row.Array n v)) is = refl
      whole_no (Some (row.Record base fs)) is = refl
      whole_no o is = absurd (not_both (sym is))

      left : (a b : Bool) → b ≡ false → (a || b) ≡ true → a ≡ true
      left true b none is = refl
      left false b none is = absurd (not_both (sym is ∙ none))

      at : (b : Bool) → is_open (row_of e.types u) ≡ b → is_object (row_of e.types (first_same e.types u)) ≡ false
      at true opening = open_no (row_of e.types (first_same e.types u)) ((first_alike e.types whole.opens.falls predeclared_unique u).2 opening)
      at false shut =
          let own = left (is_whole (row_of e.types u)) (is_open (row_of e.types u)) shut led.1 in
          ap (λ v. is_object (row_of e.types v)) (first_is e.types u own) ∙ whole_no (row_of e.types u) own

  -- a type by its number in the program
  pub number_back : (t : TypeId) → 10 ≤ t.0 → id_of (type.Named (object_number t)) ≡ t
  number_back t high = ap id_of (sym (as_named t (omega (arith, high)))) ∙ id_above t high

  pub guard_object : (of t : TypeId) (x : Expr) → IsObject p of x → desig.is_reference e of ≡ true → desig.is_extension e of t ≡ true →
      IsObject p t (Guard x (desig.made_number e t))
  guard_object of t x o ref is = by (reference_kind p e whole t ref_t)
    where
      ref_t : desig.is_reference e t ≡ true
      ref_t = extends_reference of t (reference_kind p e whole of ref) ref is

      held : (u : TType) × IsOf p x u × (is_reference_type p.program.types u ≡ true)
      held = (type.Any, of_any_type p e whole of x o, refl)

      made : IsMadeAs p e whole t → IsObject p t (Guard x (desig.made_number e t))
      made m = (high_low, reference_typed p e whole t (inr (inr m)), each)
        where
          at : (10 ≤ (desig.made_as e t).0) × ((desig.made_as e t).0 < length e.types)
          at = made_there t m

          high_low : is_basic t ≡ false
          high_low = let high = m.0 in le-ltb t.0 7 (omega (arith, high))

          few : desig.made_number e t < length p.program.objects
          few = let objects = whole.objects in let low = at.0 in let high = at.1 in omega (arith, objects, low, high)

          each : (u : TType) → TakesObject p u t → IsOf p (Guard x (desig.made_number e t)) u
          each u (ref_u, inl none) = absurd (let n : t.0 ≡ 7 = ap (λ (v : TypeId). v.0) none in let high = m.0 in omega (arith, n, high))
          each u (ref_u, inr (fits, inl any)) = (held, few, inl any)
          each u (ref_u, inr (fits, inr (a, c, ta, tc, comes))) =
              let same : desig.made_as e t ≡ c = same_Some (desig.made_as e t) c (sym m.1 ∙ tc) in
              (held, few, inr (a, ta, ap (λ v. comes_to p.program.types v a) (number_back (desig.made_as e t) at.0 ∙ same) ∙ comes))

      -- NIL's type and ANY extend nothing
      not_made : (t ≡ nil) ⊎ (t ≡ env.any) → ⊥
      not_made low = no_extension of t low ref is

      by : IsReference p e whole t → IsObject p t (Guard x (desig.made_number e t))
      by (inl none) = absurd (not_made (inl none))
      by (inr (inl any)) = absurd (not_made (inr any))
      by (inr (inr m)) = made m

  -- a record that a VAR parameter stands for
  pub names_passed : (place : Place) (u : TType) → desig.is_passed place ≡ true → is_record (row_of p.program.types (id_of u)) ≡ true → NamesType p.program p.own place u
  names_passed (Passed k) u passed of_record = of_record
  names_passed (Guarded q k) u passed of_record = of_record
  names_passed place u passed of_record = absurd (not_both (sym passed))

  -- the type of a record is told
  pub record_told : (t : TypeId) → is_record (row_of e.types t) ≡ true → (10 ≤ t.0) × IsTold e.types t
  record_told t of_record = by (row_of e.types t) refl of_record
    where
      by : (r : Option TypeRow) → row_of e.types t ≡ r → is_record r ≡ true → (10 ≤ t.0) × IsTold e.types t
      by (Some (row.Record base fs)) there is =
          let high = row_high p e whole t (row.Record base fs) there tt in (high, defined (row.Record base fs) high there refl)
      by r there is = absurd (not_both (sym is))

  -- and so is what extends it
  pub extension_named : (of t : TypeId) → desig.is_record_type e of ≡ true → desig.is_extension e of t ≡ true →
      is_record (row_of p.program.types (id_of (type.Named (object_number t)))) ≡ true
  extension_named of t of_record is =
      let new = extends_record of t of_record is in
      ap (λ v. is_record (row_of p.program.types v)) (number_back t (record_told t new).0) ∙ ap (λ rows. is_record (row_of rows t)) whole.rows ∙ new

  pub guard_record : (of t : TypeId) (place : Place) → IsTyped p e place (Some of) → desig.is_passed place ≡ true → desig.is_record_type e of ≡ true →
      desig.is_extension e of t ≡ true → IsTyped p e (Guarded place (object_number t)) (Some t)
  guard_record of t place (closed typed known) passed of_record is =
      let own = record_told of (and_parts (not (is_basic of)) _ of_record).1 in
      let new = record_told t (extends_record of t of_record is) in
      closed (
        type_as of,
        typed,
        names_passed place (type_as of) passed (ap is_record (high_row p e whole of own.0) ∙ (and_parts (not (is_basic of)) _ of_record).1),
        extension_named of t of_record is,
        as_named t (let high = new.0 in omega (arith, high)),
      ) new.1
  guard_record of t place (opened v r same at opening rows lengths variables) passed of_record is =
      absurd (no_both (row_of e.types of) (and_parts (not (is_basic of)) _ of_record).1
      (ap (λ u. is_open (row_of e.types u)) (same_Some of v same) ∙ ap is_open (opened_row e v opening).2))
    where
      no_both : (o : Option TypeRow) → is_record o ≡ true → is_open o ≡ true → ⊥
      no_both (Some (row.Record base fs)) i j = not_both (sym j)
      no_both o i j = not_both (sym i)
