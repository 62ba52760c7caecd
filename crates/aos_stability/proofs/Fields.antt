-- The type that declares a field is the same one for each type that has it, and what extends an object type is one.
use Rattle.std.proofs.Common.{◌≡◌, ◌<◌, ◌≤◌, ℕ, zero, suc, List, [], ◌∷◌, ◌++◌, length, Bool, true, false, Option, Some, None, refl, sym, ap, ◌∙◌, subst, arith, length-append}
use Rattle.std.specs.Prelude.{nat_lt}
use Rattle.std.proofs.lemmas.Bool.{lt-ltb}
use Rattle.aos_types.specs.declared.row.TypeId.{TypeId}
use Rattle.aos_types.specs.declared.row.TypeRow.{TypeRow}
use Rattle.aos_types.specs.declared.row.TypeRow.TheVariants as row
use Rattle.aos_types.specs.Chain.{IsRanked}
use Rattle.aos_types.specs.Extension.{comes_to, AreBases}
use Rattle.aos_types.specs.Table.{row_of, base_of, has_fields, is_object, is_record}
use Rattle.aos_types.proofs.Tables.{bases_of, base_part}
use Rattle.aos_typed.specs.Fields.{declarer, declarer_in, field_types, fields_by, fields_in}
use Rattle.aos_typed.specs.WellTyped.{is_whole}

-- fields by what the base has
in_same : (f g : TypeId → List TypeId) (r : Option TypeRow) → ((b : TypeId) → base_of r ≡ Some b → f b ≡ g b) → fields_in f r ≡ fields_in g r
in_same f g None h = refl
in_same f g (Some (row.Basic b)) h = refl
in_same f g (Some (row.Array n t)) h = refl
in_same f g (Some (row.Open t)) h = refl
in_same f g (Some (row.Pointer t)) h = refl
in_same f g (Some (row.Procedure fs t)) h = refl
in_same f g (Some row.Any) h = refl
in_same f g (Some (row.Record None fields)) h = refl
in_same f g (Some (row.Object None fields)) h = refl
in_same f g (Some (row.Record (Some c) fields)) h = ap (λ l. l ++ fields) (h c refl)
in_same f g (Some (row.Object (Some c) fields)) h = ap (λ l. l ++ fields) (h c refl)

in_more : (f : TypeId → List TypeId) (r : Option TypeRow) (x : TypeId) → base_of r ≡ Some x → length (f x) ≤ length (fields_in f r)
in_more f None x e = absurd (cc e)
in_more f (Some (row.Basic b)) x e = absurd (cc e)
in_more f (Some (row.Array n t)) x e = absurd (cc e)
in_more f (Some (row.Open t)) x e = absurd (cc e)
in_more f (Some (row.Pointer t)) x e = absurd (cc e)
in_more f (Some (row.Procedure fs t)) x e = absurd (cc e)
in_more f (Some row.Any) x e = absurd (cc e)
in_more f (Some (row.Record None fields)) x e = absurd (cc e)
in_more f (Some (row.Object None fields)) x e = absurd (cc e)
in_more f (Some (row.Record (Some c) fields)) x e = let s : c ≡ x = cc e in let l = length-append (f c) fields in let same = ap (λ y. length (f y)) s in omega (arith, l, same)
in_more f (Some (row.Object (Some c) fields)) x e = let s : c ≡ x = cc e in let l = length-append (f c) fields in let same = ap (λ y. length (f y)) s in omega (arith, l, same)

module _ (rows : List TypeRow) (h : IsRanked rows) where
  falls : (t b : TypeId) → base_of (row_of rows t) ≡ Some b → h.rank b < h.rank t
  falls t b e = h.falls t b (base_part rows (row_of rows t) b e)

  fields_same : (n m : ℕ) (t : TypeId) → h.rank t ≤ n → h.rank t ≤ m → fields_by n rows t ≡ fields_by m rows t
  fields_same zero zero t a b = refl
  fields_same zero (suc m) t a b = in_same (λ c. []) (λ c. fields_by m rows c) (row_of rows t) (λ c e. let f = falls t c e in absurd (omega (arith, a, f)))
  fields_same (suc n) zero t a b = in_same (λ c. fields_by n rows c) (λ c. []) (row_of rows t) (λ c e. let f = falls t c e in absurd (omega (arith, b, f)))
  fields_same (suc n) (suc m) t a b =
      in_same (λ c. fields_by n rows c) (λ c. fields_by m rows c) (row_of rows t) (λ c e. let f = falls t c e in fields_same n m c (omega (arith, f, a)) (omega (arith, f, b)))

  declarer_alone : (n : ℕ) (t : TypeId) (k : ℕ) → base_of (row_of rows t) ≡ None → declarer_in n rows t k ≡ t
  declarer_alone zero t k none = refl
  declarer_alone (suc n) t k none = rw none refl

  declarer_here : (n : ℕ) (t b : TypeId) (k : ℕ) → base_of (row_of rows t) ≡ Some b → nat_lt k (length (field_types rows b)) ≡ false → declarer_in (suc n) rows t k ≡ t
  declarer_here n t b k is e = rw is (rw e refl)

  declarer_next : (n : ℕ) (t b : TypeId) (k : ℕ) → base_of (row_of rows t) ≡ Some b → nat_lt k (length (field_types rows b)) ≡ true → declarer_in (suc n) rows t k ≡ declarer_in n rows b k
  declarer_next n t b k is e = rw is (rw e refl)

  -- without a base the type itself
  base_none : (t : TypeId) → h.rank t ≤ 0 → base_of (row_of rows t) ≡ None
  base_none t a = by (base_of (row_of rows t)) refl
    where
      by : (o : Option TypeId) → base_of (row_of rows t) ≡ o → o ≡ None
      by None e = refl
      by (Some c) e = let f = falls t c e in absurd (omega (arith, a, f))

  declarer_step : (n m : ℕ) (t : TypeId) (k : ℕ) (o : Option TypeId) → base_of (row_of rows t) ≡ o → ((c : TypeId) → base_of (row_of rows t) ≡ Some c → declarer_in n rows c k ≡ declarer_in m rows c k) → declarer_in (suc n) rows t k ≡ declarer_in (suc m) rows t k
  declarer_step n m t k None e up = declarer_alone (suc n) t k e ∙ sym (declarer_alone (suc m) t k e)
  declarer_step n m t k (Some c) e up = tested (nat_lt k (length (field_types rows c))) refl
    where
      tested : (x : Bool) → nat_lt k (length (field_types rows c)) ≡ x → declarer_in (suc n) rows t k ≡ declarer_in (suc m) rows t k
      tested true is = declarer_next n t c k e is ∙ up c e ∙ sym (declarer_next m t c k e is)
      tested false is = declarer_here n t c k e is ∙ sym (declarer_here m t c k e is)

  declarer_same : (n m : ℕ) (t : TypeId) (k : ℕ) → h.rank t ≤ n → h.rank t ≤ m → declarer_in n rows t k ≡ declarer_in m rows t k
  declarer_same zero m t k a b = declarer_alone zero t k (base_none t a) ∙ sym (declarer_alone m t k (base_none t a))
  declarer_same (suc n) zero t k a b = declarer_alone (suc n) t k (base_none t b) ∙ sym (declarer_alone zero t k (base_none t b))
  declarer_same (suc n) (suc m) t k a b =
      declarer_step n m t k (base_of (row_of rows t)) refl
      (λ c e. let f = falls t c e in declarer_same n m c k (omega (arith, f, a)) (omega (arith, f, b)))

  -- one base up
  module _ (a x : TypeId) (k : ℕ) (is : base_of (row_of rows a) ≡ Some x) where
    fields_more : length (field_types rows x) ≤ length (field_types rows a)
    fields_more = by (length rows) refl
      where
        by : (n : ℕ) → length rows ≡ n → length (field_types rows x) ≤ length (field_types rows a)
        by zero e = let f = falls a x is in let b = h.bound a in absurd (omega (arith, e, f, b))
        by (suc n) e =
            let f = falls a x is in
            let b = h.bound a in
            let all : field_types rows a ≡ fields_in (λ c. fields_by n rows c) (row_of rows a) = ap (λ m. fields_by m rows a) e in
            let same = ap length (fields_same (length rows) n x (omega (arith, f, b)) (omega (arith, f, b, e))) in
            let more = in_more (λ c. fields_by n rows c) (row_of rows a) x is in
            let l = ap length all in omega (arith, same, more, l)

    declarer_up : k < length (field_types rows x) → declarer rows a k ≡ declarer rows x k
    declarer_up lt = by (length rows) refl
      where
        by : (n : ℕ) → length rows ≡ n → declarer rows a k ≡ declarer rows x k
        by zero e = let f = falls a x is in let b = h.bound a in absurd (omega (arith, e, f, b))
        by (suc n) e =
            let f = falls a x is in
            let b = h.bound a in
            ap (λ m. declarer_in m rows a k) e ∙ declarer_next n a x k is (lt-ltb k (length (field_types rows x)) lt)
            ∙ declarer_same n (length rows) x k (omega (arith, f, b, e)) (omega (arith, f, b))

  declarer_bases : (bs : List TypeId) (a b : TypeId) (k : ℕ) → AreBases rows a bs b → k < length (field_types rows b) → (declarer rows a k ≡ declarer rows b k) × (k < length (field_types rows a))
  declarer_bases [] a b k e lt = (ap (λ t. declarer rows t k) e, subst (λ t. k < length (field_types rows t)) (sym e) lt)
  declarer_bases (x ∷ bs) a b k e lt =
      let up = declarer_bases bs x b k e.1 lt in
      let more = fields_more a x k e.0 in
      let less = up.1 in (declarer_up a x k e.0 less ∙ up.0, omega (arith, more, less))

  pub declarer_on : (a b : TypeId) (k : ℕ) → comes_to rows a b ≡ true → k < length (field_types rows b) → declarer rows a k ≡ declarer rows b k
  declarer_on a b k e lt = let r = bases_of rows (length rows) a b e in (declarer_bases r.bases a b k r.are lt).0

  -- Kinds of types along bases.

  object_no_record : (r : Option TypeRow) → is_object r ≡ true → is_record r ≡ false
  object_no_record None e = refl
  object_no_record (Some (row.Basic b)) e = refl
  object_no_record (Some (row.Array n t)) e = refl
  object_no_record (Some (row.Open t)) e = refl
  object_no_record (Some (row.Pointer t)) e = refl
  object_no_record (Some (row.Procedure fs t)) e = refl
  object_no_record (Some row.Any) e = refl
  object_no_record (Some (row.Record base fields)) e = absurd (cc e)
  object_no_record (Some (row.Object base fields)) e = refl

  fielded_object : (r : Option TypeRow) → has_fields r ≡ true → is_record r ≡ false → is_object r ≡ true
  fielded_object None e n = absurd (cc e)
  fielded_object (Some (row.Basic b)) e n = absurd (cc e)
  fielded_object (Some (row.Array k t)) e n = absurd (cc e)
  fielded_object (Some (row.Open t)) e n = absurd (cc e)
  fielded_object (Some (row.Pointer t)) e n = absurd (cc e)
  fielded_object (Some (row.Procedure fs t)) e n = absurd (cc e)
  fielded_object (Some row.Any) e n = absurd (cc e)
  fielded_object (Some (row.Record base fields)) e n = absurd (cc n)
  fielded_object (Some (row.Object base fields)) e n = refl

  based_object : (r : Option TypeRow) (x : TypeId) → base_of r ≡ Some x → is_record r ≡ false → is_object r ≡ true
  based_object None x e n = absurd (cc e)
  based_object (Some (row.Basic b)) x e n = absurd (cc e)
  based_object (Some (row.Array k t)) x e n = absurd (cc e)
  based_object (Some (row.Open t)) x e n = absurd (cc e)
  based_object (Some (row.Pointer t)) x e n = absurd (cc e)
  based_object (Some (row.Procedure fs t)) x e n = absurd (cc e)
  based_object (Some row.Any) x e n = absurd (cc e)
  based_object (Some (row.Record base fields)) x e n = absurd (cc n)
  based_object (Some (row.Object base fields)) x e n = refl

  pub whole_object : (r : Option TypeRow) → is_whole r ≡ true → is_object r ≡ true → ⊥
  whole_object None w o = cc w
  whole_object (Some (row.Basic b)) w o = cc w
  whole_object (Some (row.Array k t)) w o = cc o
  whole_object (Some (row.Open t)) w o = cc w
  whole_object (Some (row.Pointer t)) w o = cc w
  whole_object (Some (row.Procedure fs t)) w o = cc w
  whole_object (Some row.Any) w o = cc w
  whole_object (Some (row.Record base fields)) w o = cc o
  whole_object (Some (row.Object base fields)) w o = cc w

  module _ (bases : (t b : TypeId) → base_of (row_of rows t) ≡ Some b → has_fields (row_of rows b) ≡ true) (records : (t b : TypeId) → base_of (row_of rows t) ≡ Some b → is_record (row_of rows b) ≡ is_record (row_of rows t)) where
    object_bases : (bs : List TypeId) (a b : TypeId) → AreBases rows a bs b → is_object (row_of rows b) ≡ true → is_object (row_of rows a) ≡ true
    object_bases [] a b e o = subst (λ t. is_object (row_of rows t) ≡ true) (sym e) o
    object_bases (x ∷ bs) a b e o =
        let up = object_bases bs x b e.1 o in
        based_object (row_of rows a) x e.0 (sym (records a x e.0) ∙ object_no_record (row_of rows x) up)

    -- and so is what an object type extends
    object_down : (bs : List TypeId) (a b : TypeId) → AreBases rows a bs b → is_object (row_of rows a) ≡ true → is_object (row_of rows b) ≡ true
    object_down [] a b e o = subst (λ t. is_object (row_of rows t) ≡ true) e o
    object_down (x ∷ bs) a b e o =
        object_down bs x b e.1 (fielded_object (row_of rows x) (bases a x e.0) (records a x e.0 ∙ object_no_record (row_of rows a) o))

    -- what extends an object type is one, and what one extends
    pub object_extends : (a b : TypeId) → comes_to rows a b ≡ true → is_object (row_of rows b) ≡ true → is_object (row_of rows a) ≡ true
    object_extends a b e o = let r = bases_of rows (length rows) a b e in object_bases r.bases a b r.are o

    pub object_extended : (a b : TypeId) → comes_to rows a b ≡ true → is_object (row_of rows a) ≡ true → is_object (row_of rows b) ≡ true
    object_extended a b e o = let r = bases_of rows (length rows) a b e in object_down r.bases a b r.are o
