-- Types of an image extend one another as those of its program do: the number of a type's base stands beside it, and there are no more
-- bases in a row than the program has types of its own.
use Rattle.std.proofs.Common.{◌≡◌, ℕ, zero, suc, ◌+◌, ◌-◌, ◌<◌, ◌≤◌, List, [], ◌∷◌, length, drop, map, Bool, true, false, if◌then◌else◌, Option, Some, None, refl, sym, ap, ◌∙◌, subst, arith}
use Rattle.std.proofs.Common.{◌⊎◌, inl, inr}
use Rattle.std.specs.Prelude.{eqb, ◌||◌, slice_get, option_map}
use Rattle.std.specs.List.{IsDistinct}
use Rattle.std.proofs.lemmas.Bool.{cases_lt, eqb-true, eq-eqb}
use Rattle.std.proofs.lemmas.List.{length-drop, length-map}
use Rattle.std.proofs.lemmas.Option.{slice_get-map}
use Rattle.std.proofs.lemmas.Map.Steps.{length-le_from_distinct_below}
use Rattle.aos_types.specs.declared.row.TypeId.{TypeId}
use Rattle.aos_types.specs.declared.row.TypeRow.{TypeRow}
use Rattle.aos_types.specs.declared.row.TypeRow.TheVariants as row
use Rattle.aos_types.specs.Table.{row_of, base_of, has_fields}
use Rattle.aos_types.specs.Extension.{on_base, comes_by, comes_to, AreBases}
use Rattle.aos_types.proofs.Reached.{has_row}
use Rattle.aos_types.proofs.Ranks.{IsNumber, all_differ, is_number}
use Rattle.aos_types.proofs.Tables.{bases_of, comes_of, comes_by_bases, base_part}
use Rattle.aos_typed.specs.Numbers.{id_of_made, predeclared_types, predeclared_rows}
use Rattle.aos_typed.specs.Program.{Program}
use Rattle.aos_code.specs.declared.image.TypeDesc.{TypeDesc}
use Rattle.aos_code.specs.Silent.{extends_by, extends}
use Rattle.aos_code.specs.Silent as silent
use Rattle.aos_sim.specs.Shows.{base_number}
use Rattle.aos_sim.proofs.Does.{HasTypes}

-- tests that hold together are one
one_test : (x y : Bool) → (x ≡ true → y ≡ true) → (y ≡ true → x ≡ true) → x ≡ y
one_test true y f g = sym (f refl)
one_test false true f g = absurd (let h = g refl in cc)
one_test false false f g = refl

-- two tests of numbers
same_test : (a b c d : ℕ) → (a ≡ b → c ≡ d) → (c ≡ d → a ≡ b) → eqb a b ≡ eqb c d
same_test a b c d f g = one_test (eqb a b) (eqb c d) (λ e. eq-eqb c d (f (eqb-true a b e))) (λ e. eq-eqb a b (g (eqb-true c d e)))

both_or : (b : Bool) (x y : Bool) → x ≡ y → (if b then true else x) ≡ (b || y)
both_or true x y e = refl
both_or false x y e = e

get_behind : {X : Type 0} (n : ℕ) (xs : List X) (k : ℕ) → slice_get (drop n xs) k ≡ slice_get xs (k + n)
get_behind zero xs k = let e : k ≡ k + 0 = omega arith in ap (slice_get xs) e
get_behind (suc n) [] k = refl
get_behind (suc n) (x ∷ xs) k = let e : suc (k + n) ≡ k + suc n = omega arith in get_behind n xs k ∙ ap (slice_get (x ∷ xs)) e

-- no predeclared type has fields
abbrev NoneHasFields : List TypeRow → Type 0
NoneHasFields [] = Unit {0}
NoneHasFields (r ∷ rs) = (has_fields (Some r) ≡ false) × NoneHasFields rs

none_has : (rs : List TypeRow) (k : ℕ) → NoneHasFields rs → has_fields (slice_get rs k) ≡ false
none_has [] k h = refl
none_has (r ∷ rs) zero h = h.0
none_has (r ∷ rs) (suc k) h = none_has rs k h.1

predeclared_plain : NoneHasFields predeclared_rows
predeclared_plain = (refl, (refl, (refl, (refl, (refl, (refl, (refl, (refl, (refl, (refl, tt))))))))))

has_base : (o : Option TypeRow) (b : TypeId) → base_of o ≡ Some b → has_fields o ≡ true
has_base None b e = absurd (cc)
has_base (Some (row.Basic k)) b e = absurd (cc)
has_base (Some (row.Array n of)) b e = absurd (cc)
has_base (Some (row.Open of)) b e = absurd (cc)
has_base (Some (row.Record base fields)) b e = refl
has_base (Some (row.Pointer to)) b e = absurd (cc)
has_base (Some (row.Object base fields)) b e = refl
has_base (Some (row.Procedure formals r)) b e = absurd (cc)
has_base (Some row.Any) b e = absurd (cc)

module _ (p : Program) (typed : HasTypes p) where
  abbrev rows : List TypeRow
  rows = p.types

  -- what has fields is no predeclared type
  own_type : (t : TypeId) → has_fields (row_of rows t) ≡ true → predeclared_types ≤ t.0
  own_type t h = by (cases_lt t.0 predeclared_types)
    where
      by : (t.0 < predeclared_types) ⊎ (predeclared_types ≤ t.0) → predeclared_types ≤ t.0
      by (inr le) = le
      by (inl lt) = let e = ap has_fields (typed.predeclared t.0 lt) in let n = none_has predeclared_rows t.0 predeclared_plain in absurd (cc)

  own_made : (t : TypeId) → has_fields (row_of rows t) ≡ true → id_of_made (suc t.0 - predeclared_types) ≡ t
  own_made t h = let le = own_type t h in by (suc t.0 - predeclared_types) refl
    where
      by : (n : ℕ) → suc t.0 - predeclared_types ≡ n → id_of_made n ≡ t
      by zero e = let le = own_type t h in absurd (omega (arith, e, le))
      by (suc k) e = let f : k + predeclared_types ≡ t.0 = (let le = own_type t h in omega (arith, e, le)) in λ i. record { 0 = f i }

  -- the numbers of all types of a chain of bases but the last, among the program's own
  abbrev heads : TypeId → List TypeId → List ℕ
  heads a [] = []
  heads a (x ∷ bs) = (a.0 - predeclared_types) ∷ heads x bs

  heads_long : (bs : List TypeId) (a : TypeId) → length (heads a bs) ≡ length bs
  heads_long [] a = refl
  heads_long (x ∷ bs) a = ap (λ n. suc n) (heads_long bs x)

  -- each of them is of a type that has a base, and of no greater rank than the first
  record Head (n r : ℕ) : Type 0 where
    of : TypeId
    number : n ≡ of.0 - predeclared_types
    own : predeclared_types ≤ of.0
    there : of.0 < length rows
    low : typed.ranked.rank of ≤ r

  head_is : (a x : TypeId) → base_of (row_of rows a) ≡ Some x → Head (a.0 - predeclared_types) (typed.ranked.rank a)
  head_is a x e =
      record {
        of = a;
        number = refl;
        own = own_type a (has_base (row_of rows a) x e);
        there = has_row rows a x (base_part rows (row_of rows a) x e);
        low = omega arith;
      }

  heads_are : (bs : List TypeId) (a b : TypeId) → AreBases rows a bs b → (n : ℕ) → IsNumber n (heads a bs) → Head n (typed.ranked.rank a)
  heads_are [] a b h n i = absurd i
  heads_are (x ∷ bs) a b h n (inl e) = subst (λ m. Head m (typed.ranked.rank a)) e (head_is a x h.0)
  heads_are (x ∷ bs) a b h n (inr i) =
      let r = heads_are bs x b h.1 n i in
      let f = typed.ranked.falls a x (base_part rows (row_of rows a) x h.0) in
      record { of = r.of; number = r.number; own = r.own; there = r.there; low = let l = r.low in omega (arith, l, f) }

  distinct : (bs : List TypeId) (a b : TypeId) → AreBases rows a bs b → IsDistinct eqb (heads a bs)
  unfolding IsDistinct
  distinct [] a b h = tt
  distinct (x ∷ bs) a b h = (all_differ (a.0 - predeclared_types) (heads x bs) (λ i. apart (heads_are bs x b h.1 (a.0 - predeclared_types) i)), distinct bs x b h.1)
    where
      apart : Head (a.0 - predeclared_types) (typed.ranked.rank x) → ⊥
      apart r =
          let f = typed.ranked.falls a x (base_part rows (row_of rows a) x h.0) in
          let l = r.low in
          let n = r.number in
          let o = r.own in
          let u = own_type a (has_base (row_of rows a) x h.0) in
          let e : a.0 ≡ r.of.0 = omega (arith, n, o, u) in
          let same : a ≡ r.of = λ i. record { 0 = e i } in
          let k = ap typed.ranked.rank same in
          omega (arith, f, l, k)

  few : (bs : List TypeId) (a b : TypeId) → AreBases rows a bs b → length bs ≤ length p.objects
  few bs a b h =
      let l = length-le_from_distinct_below (heads a bs) (length p.objects) (distinct bs a b h) (λ q e. below q (heads_are bs a b h q (is_number q (heads a bs) e))) in
      let n = heads_long bs a in
      omega (arith, l, n)
    where
      below : (q : ℕ) → Head q (typed.ranked.rank a) → q < length p.objects
      below q r = let n = r.number in let o = r.own in let t = r.there in let s = typed.beside in omega (arith, n, o, t, s)

  -- so many bases are enough
  enough : (a b : TypeId) → comes_by (length p.objects) rows a b ≡ comes_to rows a b
  enough a b =
      one_test (comes_by (length p.objects) rows a b) (comes_to rows a b)
      (λ e. comes_by_bases rows typed.ranked a b (bases_of rows (length p.objects) a b e))
      (λ e. let r = bases_of rows (length rows) a b e in comes_of rows r.bases (length p.objects) a b r.are (few r.bases a b r.are))

  -- the predeclared types have no bases
  apart_first : (t : ℕ) → eqb 0 (t + predeclared_types) ≡ false
  apart_first t = by (eqb 0 (t + predeclared_types)) refl
    where
      by : (x : Bool) → eqb 0 (t + predeclared_types) ≡ x → x ≡ false
      by false e = refl
      by true e = let h = eqb-true 0 (t + predeclared_types) e in absurd (omega (arith, h))

  comes_first : (n t : ℕ) → comes_by n rows (id_of_made zero) (id_of_made (suc t)) ≡ false
  comes_first zero t = apart_first t
  comes_first (suc n) t =
      ap (λ x. x || on_base (λ c. comes_by n rows c (id_of_made (suc t))) (base_of (row_of rows (id_of_made zero)))) (apart_first t)
      ∙ ap (λ o. on_base (λ c. comes_by n rows c (id_of_made (suc t))) (base_of o)) (typed.predeclared 0 (omega arith))

  module _ (types : List TypeDesc) (has : map (λ t. t.base) types ≡ map (λ r. base_number (base_of (Some r))) (drop predeclared_types p.types)) where
    many : length types ≡ length p.objects
    many =
        let a = length-map types (λ (t : TypeDesc). t.base) in
        let b = ap length has in
        let c = length-map (drop predeclared_types p.types) (λ (r : TypeRow). base_number (base_of (Some r))) in
        let d = length-drop predeclared_types p.types in
        let e = typed.beside in
        omega (arith, a, b, c, d, e)

    -- the base beside a type
    base_at : (k : ℕ) → option_map (λ t. t.base) (slice_get types k) ≡ option_map (λ r. base_number (base_of (Some r))) (slice_get rows (k + predeclared_types))
    base_at k =
        sym (slice_get-map (λ (t : TypeDesc). t.base) types k) ∙ ap (λ l. slice_get l k) has
        ∙ slice_get-map (λ (r : TypeRow). base_number (base_of (Some r))) (drop predeclared_types rows) k
        ∙ ap (option_map (λ r. base_number (base_of (Some r)))) (get_behind predeclared_types rows k)

    -- two types are one where their numbers are
    same_number : (d t : ℕ) → eqb d (suc t) ≡ eqb (id_of_made d).0 (t + predeclared_types)
    same_number zero t = same_test 0 (suc t) 0 (t + predeclared_types) (λ e. absurd (omega (arith, e))) (λ e. absurd (omega (arith, e)))
    same_number (suc k) t = same_test (suc k) (suc t) (k + predeclared_types) (t + predeclared_types) (λ e. omega (arith, e)) (λ e. omega (arith, e))

    abbrev Extend : ℕ → ℕ → ℕ → Type 0
    Extend n t d = extends_by n types d (suc t) ≡ comes_by n rows (id_of_made d) (id_of_made (suc t))

    -- where this is so of fewer bases
    module _ (n t : ℕ) (fewer : (d : ℕ) → Extend n t d) where
      of_base : (k b : ℕ) (r : TypeRow) (o : Option TypeId) → base_of (Some r) ≡ o → slice_get rows (k + predeclared_types) ≡ Some r → b ≡ base_number o → extends_by n types b (suc t) ≡ on_base (λ c. comes_by n rows c (id_of_made (suc t))) o
      of_base k b r None e there h = ap (λ z. extends_by n types z (suc t)) h ∙ fewer zero ∙ comes_first n t
      of_base k b r (Some c) e there h =
          let fields = typed.bases (id_of_made (suc k)) c (ap base_of there ∙ e) in
          fewer b ∙ ap (λ z. comes_by n rows z (id_of_made (suc t))) (ap id_of_made h ∙ own_made c fields)

      on_bases : (k : ℕ) (x : Option TypeDesc) (y : Option TypeRow) → slice_get rows (k + predeclared_types) ≡ y → option_map (λ t. t.base) x ≡ option_map (λ r. base_number (base_of (Some r))) y → silent.on_base (λ b. extends_by n types b (suc t)) x ≡ on_base (λ c. comes_by n rows c (id_of_made (suc t))) (base_of y)
      on_bases k None None e h = refl
      on_bases k None (Some r) e h = absurd (cc)
      on_bases k (Some x) None e h = absurd (cc)
      on_bases k (Some x) (Some r) e h = let b : x.base ≡ base_number (base_of (Some r)) = cc in of_base k x.base r (base_of (Some r)) refl e b

      extend_more : (d : ℕ) → Extend (suc n) t d
      extend_more zero =
          ap (λ b. if b then true else false) (same_number zero t)
          ∙ both_or (eqb 0 (t + predeclared_types)) false (on_base (λ c. comes_by n rows c (id_of_made (suc t))) (base_of (row_of rows (id_of_made zero))))
          (sym (ap (λ o. on_base (λ c. comes_by n rows c (id_of_made (suc t))) (base_of o)) (typed.predeclared 0 (omega arith))))
      extend_more (suc k) =
          ap (λ b. if b then true else silent.on_base (λ b. extends_by n types b (suc t)) (slice_get types k)) (same_number (suc k) t)
          ∙ both_or (eqb (k + predeclared_types) (t + predeclared_types)) (silent.on_base (λ b. extends_by n types b (suc t)) (slice_get types k)) (on_base (λ c. comes_by n rows c (id_of_made (suc t))) (base_of (row_of rows (id_of_made (suc k)))))
          (on_bases k (slice_get types k) (slice_get rows (k + predeclared_types)) refl (base_at k))

    extends_same : (n t d : ℕ) → Extend n t d
    extends_same zero t d = same_number d t
    extends_same (suc n) t d = extend_more n t (λ d. extends_same n t d) d

    pub extends_alike : (d t : ℕ) → extends types d (suc t) ≡ comes_to rows (id_of_made d) (id_of_made (suc t))
    extends_alike d t = ap (λ n. extends_by n types d (suc t)) many ∙ extends_same (length p.objects) t d ∙ enough (id_of_made d) (id_of_made (suc t))
