-- A step along the bases of a type, and their end: which types it comes to, and how many fields it has.
use Rattle.std.proofs.Common.{◌≡◌, ℕ, suc, ◌+◌, ◌-◌, ◌<◌, ◌≤◌, List, [], length, Option, Some, None, Bool, true, false, ◌||◌, inl, inr, refl, sym, ap, ◌∙◌, arith}
use Rattle.std.specs.Prelude.{◌==◌, ◌≢◌, nat_lt}
use Rattle.std.proofs.lemmas.Bool.{eq-eqb, lt-ltb, le-ltb, ltb-true, ltb-false}
use Rattle.std.proofs.lemmas.Bool.Decides.{eqb_tells}
use Rattle.std.proofs.lemmas.List.{length-append}
use Rattle.aos_types.specs.declared.row.TypeId.{TypeId}
use Rattle.aos_types.specs.declared.row.TypeRow.{TypeRow}
use Rattle.aos_types.specs.declared.row.TypeRow.TheVariants as row
use Rattle.aos_types.specs.Extension.{comes_by, on_base}
use Rattle.aos_types.specs.Table.{row_of, base_of}
use Rattle.aos_typed.specs.Fields.{declarer_in, field_types, fields_in, fields_by}

differ : (a b : ℕ) → a ≢ b → (a == b) ≡ false
differ a b ne = elim (eqb_tells a b) [
  | inl h ↦ absurd (ne h.1)
  | inr h ↦ h.0
]

-- of which as many are left as there are rows behind number i
module _ (rows : List TypeRow) (i : ℕ) (a b : TypeId) where
  comes_step : i < length rows → comes_by (length rows - i) rows a b ≡ ((a.0 == b.0) || on_base (λ c. comes_by (length rows - (i + 1)) rows c b) (base_of (row_of rows a)))
  comes_step lt = let e : length rows - i ≡ suc (length rows - (i + 1)) = omega (arith, lt) in ap (λ m. comes_by m rows a b) e

  pub comes_here : i < length rows → a.0 ≡ b.0 → comes_by (length rows - i) rows a b ≡ true
  comes_here lt same = comes_step lt ∙ ap (λ x. x || on_base (λ c. comes_by (length rows - (i + 1)) rows c b) (base_of (row_of rows a))) (eq-eqb a.0 b.0 same)

  pub comes_on : (base : TypeId) → i < length rows → a.0 ≢ b.0 → base_of (row_of rows a) ≡ Some base → comes_by (length rows - (i + 1)) rows base b ≡ comes_by (length rows - i) rows a b
  comes_on base lt ne is = sym (comes_step lt ∙ (λ j. differ a.0 b.0 ne j || on_base (λ c. comes_by (length rows - (i + 1)) rows c b) (is j)))

  pub comes_never : i < length rows → a.0 ≢ b.0 → base_of (row_of rows a) ≡ None → comes_by (length rows - i) rows a b ≡ false
  comes_never lt ne is = comes_step lt ∙ (λ j. differ a.0 b.0 ne j || on_base (λ c. comes_by (length rows - (i + 1)) rows c b) (is j))

  pub comes_last : length rows ≤ i → comes_by (length rows - i) rows a b ≡ (a.0 == b.0)
  comes_last le = let e : length rows - i ≡ 0 = omega (arith, le) in ap (λ m. comes_by m rows a b) e

-- the fields of a base stand before a type's own
abbrev own_fields : Option TypeRow → ℕ
own_fields r = length (fields_in (λ b. []) r)

fields_on : (f : TypeId → List TypeId) (r : Option TypeRow) (base : TypeId) → base_of r ≡ Some base → length (fields_in f r) ≡ length (f base) + own_fields r
fields_on f None base e = absurd (cc e)
fields_on f (Some (row.Basic b)) base e = absurd (cc e)
fields_on f (Some (row.Array n t)) base e = absurd (cc e)
fields_on f (Some (row.Open t)) base e = absurd (cc e)
fields_on f (Some (row.Record None fields)) base e = absurd (cc e)
fields_on f (Some (row.Record (Some c) fields)) base e = let same : c ≡ base = cc e in length-append (f c) fields ∙ ap (λ x. length (f x) + length fields) same
fields_on f (Some (row.Pointer t)) base e = absurd (cc e)
fields_on f (Some (row.Object None fields)) base e = absurd (cc e)
fields_on f (Some (row.Object (Some c) fields)) base e = let same : c ≡ base = cc e in length-append (f c) fields ∙ ap (λ x. length (f x) + length fields) same
fields_on f (Some (row.Procedure formals t)) base e = absurd (cc e)
fields_on f (Some row.Any) base e = absurd (cc e)

fields_off : (f : TypeId → List TypeId) (r : Option TypeRow) → base_of r ≡ None → length (fields_in f r) ≡ own_fields r
fields_off f None e = refl
fields_off f (Some (row.Basic b)) e = refl
fields_off f (Some (row.Array n t)) e = refl
fields_off f (Some (row.Open t)) e = refl
fields_off f (Some (row.Record None fields)) e = refl
fields_off f (Some (row.Record (Some c) fields)) e = absurd (cc e)
fields_off f (Some (row.Pointer t)) e = refl
fields_off f (Some (row.Object None fields)) e = refl
fields_off f (Some (row.Object (Some c) fields)) e = absurd (cc e)
fields_off f (Some (row.Procedure formals t)) e = refl
fields_off f (Some row.Any) e = refl

own_less : (f : TypeId → List TypeId) (r : Option TypeRow) → own_fields r ≤ length (fields_in f r)
own_less f None = omega arith
own_less f (Some (row.Basic b)) = omega arith
own_less f (Some (row.Array n t)) = omega arith
own_less f (Some (row.Open t)) = omega arith
own_less f (Some (row.Record None fields)) = omega arith
own_less f (Some (row.Record (Some c) fields)) = let l = length-append (f c) fields in omega (arith, l)
own_less f (Some (row.Pointer t)) = omega arith
own_less f (Some (row.Object None fields)) = omega arith
own_less f (Some (row.Object (Some c) fields)) = let l = length-append (f c) fields in omega (arith, l)
own_less f (Some (row.Procedure formals t)) = omega arith
own_less f (Some row.Any) = omega arith

same_test : (a b c d : ℕ) → (a < b → c < d) → (c < d → a < b) → nat_lt a b ≡ nat_lt c d
same_test a b c d f g = by (nat_lt a b) (nat_lt c d) refl refl
  where
    by : (x y : Bool) → nat_lt a b ≡ x → nat_lt c d ≡ y → nat_lt a b ≡ nat_lt c d
    by true true e h = e ∙ sym h
    by false false e h = e ∙ sym h
    by true false e h = absurd (let lt = f (ltb-true a b e) in let le = ltb-false c d h in omega (arith, lt, le))
    by false true e h = absurd (let lt = g (ltb-true c d h) in let le = ltb-false a b e in omega (arith, lt, le))

-- with so many fields of its own
module _ (rows : List TypeRow) (i : ℕ) (t : TypeId) (left own : ℕ) (own_is : own ≡ length (fields_in (λ b. []) (row_of rows t))) where
  abbrev deeper : TypeId → List TypeId
  deeper c = fields_by (length rows - (i + 1)) rows c

  fields_step : i < length rows → fields_by (length rows - i) rows t ≡ fields_in deeper (row_of rows t)
  fields_step lt = let e : length rows - i ≡ suc (length rows - (i + 1)) = omega (arith, lt) in ap (λ m. fields_by m rows t) e

  pub has_here : i < length rows → left < own → nat_lt left (length (fields_by (length rows - i) rows t)) ≡ true
  has_here lt less =
      let all = ap length (fields_step lt) in
      let most = own_less deeper (row_of rows t) in
      lt-ltb left (length (fields_by (length rows - i) rows t)) (omega (arith, all, most, own_is, less))

  pub has_on : (base : TypeId) → i < length rows → own ≤ left → base_of (row_of rows t) ≡ Some base → nat_lt (left - own) (length (fields_by (length rows - (i + 1)) rows base)) ≡ nat_lt left (length (fields_by (length rows - i) rows t))
  has_on base lt le is =
      let all = ap length (fields_step lt) in
      let split = fields_on deeper (row_of rows t) base is in
      same_test (left - own) (length (deeper base)) left (length (fields_by (length rows - i) rows t))
      (λ h. omega (arith, all, split, own_is, le, h)) (λ h. omega (arith, all, split, own_is, le, h))

  pub has_never : i < length rows → own ≤ left → base_of (row_of rows t) ≡ None → nat_lt left (length (fields_by (length rows - i) rows t)) ≡ false
  has_never lt le is =
      let all = ap length (fields_step lt) in
      let split = fields_off deeper (row_of rows t) is in
      le-ltb left (length (fields_by (length rows - i) rows t)) (omega (arith, all, split, own_is, le))

  pub has_last : length rows ≤ i → nat_lt left (length (fields_by (length rows - i) rows t)) ≡ nat_lt left own
  has_last le =
      let e : length rows - i ≡ 0 = omega (arith, le) in
      ap (λ m. nat_lt left (length (fields_by m rows t))) e ∙ ap (λ m. nat_lt left m) (sym own_is)

-- the type that declares a field
module _ (rows : List TypeRow) (i : ℕ) (t : TypeId) (k : ℕ) where
  declarer_step : i < length rows → declarer_in (length rows - i) rows t k ≡ declarer_in (suc (length rows - (i + 1))) rows t k
  declarer_step lt = let e : length rows - i ≡ suc (length rows - (i + 1)) = omega (arith, lt) in ap (λ m. declarer_in m rows t k) e

  pub declarer_none : i < length rows → base_of (row_of rows t) ≡ None → declarer_in (length rows - i) rows t k ≡ t
  declarer_none lt none = declarer_step lt ∙ last (length rows - (i + 1))
    where
      last : (m : ℕ) → declarer_in (suc m) rows t k ≡ t
      last m = rw none refl

  pub declarer_here : (base : TypeId) (b : Bool) → i < length rows → base_of (row_of rows t) ≡ Some base → b ≡ nat_lt k (length (field_types rows base)) → b ≡ false → declarer_in (length rows - i) rows t k ≡ t
  declarer_here base b lt is says not = declarer_step lt ∙ last (length rows - (i + 1)) (sym says ∙ not)
    where
      last : (m : ℕ) → nat_lt k (length (field_types rows base)) ≡ false → declarer_in (suc m) rows t k ≡ t
      last m e = rw is (rw e refl)

  pub declarer_on : (base : TypeId) (b : Bool) → i < length rows → base_of (row_of rows t) ≡ Some base → b ≡ nat_lt k (length (field_types rows base)) → b ≡ true → declarer_in (length rows - (i + 1)) rows base k ≡ declarer_in (length rows - i) rows t k
  declarer_on base b lt is says so = sym (declarer_step lt ∙ next (length rows - (i + 1)) (sym says ∙ so))
    where
      next : (m : ℕ) → nat_lt k (length (field_types rows base)) ≡ true → declarer_in (suc m) rows t k ≡ declarer_in m rows base k
      next m e = rw is (rw e refl)

  pub declarer_last : length rows ≤ i → declarer_in (length rows - i) rows t k ≡ t
  declarer_last le = let e : length rows - i ≡ 0 = omega (arith, le) in ap (λ m. declarer_in m rows t k) e
