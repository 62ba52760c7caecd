-- Texts: arrays of characters, and string constants, which their modules have; and LEN, which tells the lengths of arrays.
use Rattle.std.proofs.Common.{◌≡◌, ℕ, zero, suc, ◌+◌, ◌-◌, ◌≤◌, ◌<◌, ◌==◌, ◌^◌, pos, List, [], ◌∷◌, length, map, Bool, true, false, ◌&&◌, ◌||◌, not, ◌⊎◌, inl, inr, Option, Some, None, is_some, nat_lt, slice_get, option_map, option_and_then, if◌then◌else◌, refl, sym, ap, ◌∙◌, subst, ltb-true, lt-ltb, arith}
use Rattle.std.specs.Option.{is_none, unwrap_or}
use Rattle.std.proofs.lemmas.Bool.{and_parts}
use Rattle.std.proofs.lemmas.Int.{ints}
use Rattle.std.proofs.lemmas.List.{length-map}
use Rattle.std.proofs.lemmas.Option.{none-some, same_Some, option_and_then_some, slice_get-map}
use Rattle.aos_base.specs.declared.limits.TheConstants.{MOST_SCALARS}
use Rattle.aos_base.specs.declared.text.Pos.{Pos}
use Rattle.aos_base.specs.declared.number.Relation.{Relation}
use Rattle.aos_base.specs.declared.number.Width.TheVariants.{W32}
use Rattle.aos_base.specs.Number.{IsWithin}
use Rattle.aos_base.specs.Operators.{natural}
use Rattle.aos_tree.specs.declared.expr.RelationOp.{RelationOp}
use Rattle.aos_tree.specs.declared.expr.RelationOp.TheVariants as relation
use Rattle.aos_types.specs.declared.row.TypeId.{TypeId}
use Rattle.aos_types.specs.declared.row.TypeRow.{TypeRow}
use Rattle.aos_types.specs.declared.row.TypeRow.TheVariants as row
use Rattle.aos_types.specs.Table.{row_of, is_open}
use Rattle.aos_types.specs.Sameness.{element_of}
use Rattle.aos_typed.specs.declared.tree.Literal.TheVariants as literal
use Rattle.aos_typed.specs.declared.tree.TextConstant.{TextConstant}
use Rattle.aos_typed.specs.declared.tree.TType.TheVariants as type
use Rattle.aos_typed.specs.Numbers.{id_of}
use Rattle.aos_typed.specs.declared.tree.TType.{TType}
use Rattle.aos_typed.specs.Open.{open_dimensions, open_element}
use Rattle.aos_typed.specs.Program.{Place, ModuleVar, Local, Passed, Field, Index, Of, Rows, Known as KnownRows, Longer, Expr, CompareTexts, Len, LenBehind, Deref, Typed, Guarded}
use Rattle.aos_typed.specs.WellTyped.{HaveLengths, IsLength as IsArrayLength, dimension, IsConstantText, IsNoConstant}
use Rattle.aos_symbols.specs.declared.env.Env.{Env}
use Rattle.aos_symbols.specs.Home.{Home, character, between_quotes, string_number, string_in}
use Rattle.aos_symbols.specs.Env as env
use Rattle.aos_symbols.specs.Env.{boolean, char, text, longint}
use Rattle.aos_symbols.proofs.Each.{Each, all_of}
use Rattle.aos_symbols.proofs.Found.{some_found}
use Rattle.aos_symbols.proofs.Told.{IsLength, get_front}
use Rattle.aos_symbols.proofs.Holds.{Holds, none_left, none_right, test_is}
use Rattle.aos_known.proofs.Inside.{Inside, IsPlaceOf, AreRows, AreVariables, IsOf}
use Rattle.aos_known.specs.declared.known.Class.{Class}
use Rattle.aos_known.specs.declared.known.Class.TheVariants.{Unknown, Constant}
use Rattle.aos_known.specs.declared.known.Known.{Known}
use Rattle.aos_operators.specs.declared.operations.Joint.TheVariants as joint
use Rattle.aos_known.specs.Known.{Answer, is_basic, is_lost, type_as}
use Rattle.aos_operators.specs.Operations as op
use Rattle.aos_known.proofs.Types.{same_type}
use Rattle.aos_operators.proofs.Good.{IsGood, MayBe, IsKnownClass, natural_below, joint_good, class_of_known}
use Rattle.aos_operators.proofs.Stored.{IsMade, not_stored, made_of}
use Rattle.aos_operators.proofs.Sound.{not_both, IsScalar, IsClosedPlace, IsOpenPlace, IsWholeRead, IsOther, IsObject, IsRoutine, IsSound, basic_some, plain_sound, answered_plain}
use Rattle.aos_known.specs.Places.{place_in, rows_of}
use Rattle.aos_known.specs.Kinds.{is_opened}
use Rattle.aos_check_expr.specs.Expressions as judge
use Rattle.aos_check_expr.proofs.Opens.{closed_row, closed_dimensions, closed_element, next_dimensions, next_element}
use Rattle.aos_check_expr.proofs.Naming.{naming_made}
use Rattle.aos_check_expr.proofs.Parts.{class_answered, related_texts}
use Rattle.aos_check_expr.proofs.Objects.{routine_no_parts, IsPartsRow, parts_no_reference}
use Rattle.aos_check_expr.proofs.Entities.{IsTyped, IsWhole, text_row, no_array, no_open, opened_row, held_place, Part, Valued}

-- The first character of a string constant.

pub character_below : (b : ℕ) → character b < 256
character_below b = by (natural 256 (pos b)) (natural_below 256 (pos b))
  where
    by : (o : Option ℕ) → MayBe (λ n. n < 256) o → unwrap_or o 0 < 256
    by None h = omega arith
    by (Some n) h = h

pub first_below : (e : Env) (start : ℕ) → MayBe (λ t. t.first < 256) (env.text_constant e start)
first_below e start = by (string_number e.here start) refl
  where
    zero_below : 0 < 256
    zero_below = omega arith

    there : (k : ℕ) → string_number e.here start ≡ Some k → (bs : List ℕ) → string_in e.here k ≡ bs → MayBe (λ t. t.first < 256) (env.text_constant e start)
    there k is [] at = rw (is, at) zero_below
    there k is (b ∷ bs) at = rw (is, at) (character_below b)

    by : (o : Option ℕ) → string_number e.here start ≡ o → MayBe (λ t. t.first < 256) (env.text_constant e start)
    by None is = rw is tt
    by (Some k) is = there k is (string_in e.here k) refl

module _ (p : Inside) (e : Env) (whole : IsWhole p e) where
  -- Arrays.

  -- the row of an array, fixed or open
  abbrev pub IsArrayRow : TypeId → TypeId → Option TypeRow → Type 0
  IsArrayRow t u r = ((n : ℕ) × (r ≡ Some (row.Array n u))) ⊎ (r ≡ Some (row.Open u))

  abbrev pub HasArray : TypeId → Type 0
  HasArray t = (u : TypeId) × (is_basic t ≡ false) × IsArrayRow t u (row_of e.types t)

  not_true : (b : Bool) → not b ≡ true → b ≡ false
  not_true true h = absurd (not_both (sym h))
  not_true false h = refl

  pub array_row : (t : TypeId) → judge.is_array e (Some t) ≡ true → HasArray t
  array_row t = by (row_of e.types t) refl
    where
      by : (r : Option TypeRow) → row_of e.types t ≡ r → judge.is_array e (Some t) ≡ true → HasArray t
      by (Some (row.Array n u)) q = rw q (λ is. (u, not_true (is_basic t) is, inl (n, refl)))
      by (Some (row.Open u)) q = rw q (λ is. (u, not_true (is_basic t) is, inr refl))
      by r q = rw q (λ is. absurd (not_both (sym is)))

  pub no_text : (t : TypeId) → t ≡ text → HasArray t → ⊥
  no_text t is has = by has.2
    where
      by : IsArrayRow t has.0 (row_of e.types t) → ⊥
      by (inl n) = no_array n.0 has.0 (text_row p e whole t (row.Array n.0 has.0) is n.1)
      by (inr at) = no_open has.0 (text_row p e whole t (row.Open has.0) is at)

  -- an array is no object
  pub no_object : (t : TypeId) (x : Expr) → HasArray t → IsObject p t x → ⊥
  no_object t x has o = by has.2
    where
      none : (r : TypeRow) → row_of e.types t ≡ Some r → IsPartsRow r → ⊥
      none r there parts = not_both (sym o.1 ∙ (parts_no_reference p e whole t r there parts).1)

      by : IsArrayRow t has.0 (row_of e.types t) → ⊥
      by (inl n) = none (row.Array n.0 has.0) n.1 tt
      by (inr at) = none (row.Open has.0) at tt

  -- nor a procedure
  pub no_routine : (t : TypeId) (x : Expr) → HasArray t → IsRoutine p t x → ⊥
  no_routine t x has o = by has.2
    where
      by : IsArrayRow t has.0 (row_of e.types t) → ⊥
      by (inl n) = routine_no_parts p e whole t x o (row.Array n.0 has.0) n.1 tt
      by (inr at) = routine_no_parts p e whole t x o (row.Open has.0) at tt

  -- Arrays of characters.

  abbrev pub AreChars : TypeId → Class → Type 0
  AreChars t c = judge.is_characters e (record { of = Some t; class = c }) ≡ true

  pub characters_row : (t : TypeId) (c : Class) → AreChars t c → (has : HasArray t) × (has.0 ≡ char)
  characters_row t c = by (row_of e.types t) refl
    where
      by : (r : Option TypeRow) → row_of e.types t ≡ r → AreChars t c → (has : HasArray t) × (has.0 ≡ char)
      by (Some (row.Array n u)) q = rw q (λ is. let i = and_parts (not (is_basic t)) (u.0 == char.0) is in ((u, not_true (is_basic t) i.0, inl (n, refl)), same_type u char i.1))
      by (Some (row.Open u)) q = rw q (λ is. let i = and_parts (not (is_basic t)) (u.0 == char.0) is in ((u, not_true (is_basic t) i.0, inr refl), same_type u char i.1))
      by r q = rw q (λ is. absurd (not_both (sym (and_parts (not (is_basic t)) false is).1)))

  -- CHAR has no dimension
  pub char_row : element_of (row_of e.types char) ≡ None
  char_row = ap element_of (whole.basic 5 (omega arith))

  -- a fixed array with the length of its first dimension
  fixed_rows : (t : TypeId) (place : Place) (n : ℕ) → IsPlaceOf p place (type_as t) → id_of (type_as t) ≡ t → row_of e.types t ≡ Some (row.Array n char) →
      AreRows p (KnownRows place (judge.lengths_from e.types 1 (row_of e.types t))) 1 type.Char
  fixed_rows t place n typed same is = rw is (refl, inl (type_as t, typed, (char, ap (row_of p.program.types) same ∙ ap (λ rows. row_of rows t) whole.rows ∙ is, refl)))

  -- an open array of characters has one dimension
  open_text : (t : TypeId) (r : Rows) → row_of e.types t ≡ Some (row.Open char) → AreRows p r (open_dimensions e.types t) (type_as (open_element e.types t)) →
      AreRows p (Longer r (judge.lengths_from e.types (1 - open_dimensions e.types t) (row_of e.types (open_element e.types t)))) 1 type.Char
  open_text t r is rows =
      let falls = whole.opens.falls in
      let many : open_dimensions e.types t ≡ 1 = next_dimensions e.types falls t char is ∙ ap suc (closed_dimensions e.types char char_row) in
      let of : open_element e.types t ≡ char = next_element e.types falls t char is ∙ closed_element e.types char char_row in
      subst (λ ns. AreRows p (Longer r ns) 1 type.Char) (ap (λ n. judge.lengths_from e.types (1 - n) (row_of e.types (open_element e.types t))) (sym many))
      (1, type.Char, refl, subst (λ T. AreRows p r 1 T) (ap type_as of) (subst (λ n. AreRows p r n (type_as (open_element e.types t))) many rows), refl)

  -- a whole variable of such a type, as rows
  rows_read : (t : TypeId) (c : Class) (place : Place) → IsClosedPlace p t place ⊎ IsOpenPlace p t place → AreChars t c → AreRows p (judge.array_rows e 1 (Some t) place) 1 type.Char
  rows_read t c place held is = by held r.0.2
    where
      r : (has : HasArray t) × (has.0 ≡ char)
      r = characters_row t c is

      at : Bool → Rows
      at b = if b then judge.open_rows e 1 t place else KnownRows place (judge.lengths_from e.types 1 (row_of e.types t))

      fixed : (n : ℕ) → row_of e.types t ≡ Some (row.Array n r.0.0) → is_opened e t ≡ false
      fixed n a = ap (λ b. not b && is_open (row_of e.types t)) r.0.1 ∙ ap is_open a

      opening : row_of e.types t ≡ Some (row.Open r.0.0) → is_opened e t ≡ true
      opening a = ap (λ b. not b && is_open (row_of e.types t)) r.0.1 ∙ ap is_open a

      shut : is_open (row_of p.program.types t) ≡ is_open (row_of e.types t)
      shut = ap (λ rows. is_open (row_of rows t)) whole.rows

      by : IsClosedPlace p t place ⊎ IsOpenPlace p t place → IsArrayRow t r.0.0 (row_of e.types t) → AreRows p (at (is_opened e t)) 1 type.Char
      by (inl c) (inl n) =
          subst (λ b. AreRows p (at b) 1 type.Char) (sym (fixed n.0 n.1))
          (fixed_rows t place n.0 c.0 c.1 (n.1 ∙ ap (λ u. Some (row.Array n.0 u)) r.1))
      by (inl c) (inr o) = absurd (not_both (sym (shut ∙ ap is_open o) ∙ c.2))
      by (inr o) (inl n) = absurd (not_both (sym o.2 ∙ (shut ∙ ap is_open n.1)))
      by (inr o) (inr a) =
          subst (λ b. AreRows p (at b) 1 type.Char) (sym (opening a))
          (subst (λ place. AreRows p (judge.open_rows e 1 t place) 1 type.Char) (sym o.1)
          (open_text t o.0 (a ∙ ap (λ u. Some (row.Open u)) r.1)
          (subst (λ types. AreRows p o.0 (open_dimensions types t) (type_as (open_element types t))) whole.rows o.3)))

  -- The lengths of arrays.

  length_kept : (n : ℕ) → IsLength n → IsArrayLength n
  length_kept n is = let le = is.1 in (is.0, record { low = omega (arith, ints); high = omega (arith, ints, le) })

  -- a fixed array's are those of types
  fixed_lengths_kept : (n : ℕ) (r : Option TypeRow) (k : ℕ) → slice_get e.types k ≡ r → Each IsArrayLength (judge.lengths_from e.types n r)
  fixed_lengths_kept zero r k is = tt
  fixed_lengths_kept (suc n) (Some (row.Array m t)) k is =
      (length_kept m (whole.parts k (row.Array m t) is).0, fixed_lengths_kept n (row_of e.types t) t.0 refl)
  fixed_lengths_kept (suc n) r k is = tt

  fixed_kept : (n : ℕ) (t : TypeId) (place : Place) → HaveLengths (KnownRows place (judge.lengths_from e.types n (row_of e.types t)))
  fixed_kept n t place = all_of IsArrayLength (judge.lengths_from e.types n (row_of e.types t)) (fixed_lengths_kept n (row_of e.types t) t.0 refl)

  -- the lengths of an array of a type, by whether it is open
  lengths_by : (n : ℕ) (t : TypeId) (place : Place) → (is_opened e t ≡ true → HaveLengths (rows_of place)) → HaveLengths (judge.array_rows e n (Some t) place)
  lengths_by n t place opening = by (is_opened e t) refl
    where
      by : (b : Bool) → is_opened e t ≡ b → HaveLengths (if b then judge.open_rows e n t place else KnownRows place (judge.lengths_from e.types n (row_of e.types t)))
      by true is = (opening is, fixed_kept (n - open_dimensions e.types t) (open_element e.types t) place)
      by false is = fixed_kept n t place

  -- of a whole variable
  pub lengths_held : (n : ℕ) (t : TypeId) (place : Place) → IsClosedPlace p t place ⊎ IsOpenPlace p t place → HaveLengths (judge.array_rows e n (Some t) place)
  lengths_held n t place held = lengths_by n t place (λ opening. by held opening)
    where
      by : IsClosedPlace p t place ⊎ IsOpenPlace p t place → is_opened e t ≡ true → HaveLengths (rows_of place)
      by (inl c) opening = absurd (not_both (sym (ap (λ rows. is_open (row_of rows t)) whole.rows ∙ (and_parts (not (is_basic t)) _ opening).1) ∙ c.2))
      by (inr o) opening = subst (λ place. HaveLengths (rows_of place)) (sym o.1) o.4

  -- of what is sound
  pub lengths_read : (n : ℕ) (t : TypeId) (x : Expr) → IsScalar p t x ⊎ (IsWholeRead p t x ⊎ IsOther p t x) → HaveLengths (judge.array_rows e n (Some t) (place_in x))
  lengths_read n t x (inl s) = lengths_by n t (place_in x) (λ opening. absurd (not_both (sym s.0 ∙ (opened_row e t opening).1)))
  lengths_read n t x (inr (inl w)) = subst (λ y. HaveLengths (judge.array_rows e n (Some t) (place_in y))) (sym w.2) (lengths_held n t w.1 w.3)
  lengths_read n t x (inr (inr (inr (inl o)))) = lengths_by n t (place_in x) (λ opening. let u = opened_row e t opening in absurd (no_object t x (u.0, u.1, inr u.2) o))
  lengths_read n t x (inr (inr (inr (inr r)))) = lengths_by n t (place_in x) (λ opening. let u = opened_row e t opening in absurd (no_routine t x (u.0, u.1, inr u.2) r))
  lengths_read n t x (inr (inr (inl q))) = lengths_by n t (place_in x) (λ opening. let u = opened_row e t opening in absurd (no_open u.0 (text_row p e whole t (row.Open u.0) q u.2)))

  -- an array of characters that is a variable has the length of its first dimension
  pub room_kept : (n : ℕ) (place : Place) (k : Known) → IsTyped p e place k.of → judge.is_characters e k ≡ true → HaveLengths (judge.array_rows e n k.of place)
  room_kept n place k = by k.of k.class
    where
      by : (of : Option TypeId) (c : Class) → IsTyped p e place of → judge.is_characters e (record { of = of; class = c }) ≡ true → HaveLengths (judge.array_rows e n of place)
      by None c typed is = absurd (not_both (sym is))
      by (Some t) c typed is = lengths_held n t place (held_place p e whole place t (characters_row t c is).0.1 typed)

  -- an array of characters that is a variable
  pub characters_are : (place : Place) (k : Known) → IsTyped p e place k.of → judge.is_characters e k ≡ true →
      AreRows p (judge.array_rows e 1 k.of place) 1 type.Char
  characters_are place k = by k.of k.class
    where
      by : (of : Option TypeId) (c : Class) → IsTyped p e place of → judge.is_characters e (record { of = of; class = c }) ≡ true →
          AreRows p (judge.array_rows e 1 of place) 1 type.Char
      by None c typed is = absurd (not_both (sym is))
      by (Some t) c typed is = rows_read t c place (held_place p e whole place t (characters_row t c is).0.1 typed) is

  -- What may be written: a place of a type is no string constant, and no rows of an array there are one's.

  abbrev IsWritable : Place → Type 0
  IsWritable place = IsNoConstant p.program place × AreVariables p (rows_of place)

  placed_writable : (place : Place) (t : TType) → IsPlaceOf p place t → IsWritable place
  placed_writable (ModuleVar m k) t typed = ((t, typed), (t, typed))
  placed_writable (Of r) t typed = (tt, typed.1)
  placed_writable (Local k) t typed = (tt, tt)
  placed_writable (Passed k) t typed = (tt, tt)
  placed_writable (Field q u k) t typed = (tt, tt)
  placed_writable (Index q n u i) t typed = (tt, tt)
  placed_writable (Deref x u) t typed = (tt, tt)
  placed_writable (Typed q k) t typed = (tt, tt)
  placed_writable (Guarded q k) t typed = (tt, tt)

  held_writable : (t : TypeId) (place : Place) → IsClosedPlace p t place ⊎ IsOpenPlace p t place → IsWritable place
  held_writable t place (inl c) = placed_writable place (type_as t) c.0
  held_writable t place (inr o) = subst IsWritable (sym o.1) (tt, o.5)

  pub variables_held : (n : ℕ) (t : TypeId) (place : Place) → IsClosedPlace p t place ⊎ IsOpenPlace p t place → AreVariables p (judge.array_rows e n (Some t) place)
  variables_held n t place held = by (is_opened e t)
    where
      by : (b : Bool) → AreVariables p (if b then judge.open_rows e n t place else KnownRows place (judge.lengths_from e.types n (row_of e.types t)))
      by true = (held_writable t place held).1
      by false = (held_writable t place held).0

  -- an array of characters that is a variable
  pub room_writable : (n : ℕ) (place : Place) (k : Known) → IsTyped p e place k.of → judge.is_characters e k ≡ true → AreVariables p (judge.array_rows e n k.of place)
  room_writable n place k = by k.of k.class
    where
      by : (of : Option TypeId) (c : Class) → IsTyped p e place of → judge.is_characters e (record { of = of; class = c }) ≡ true → AreVariables p (judge.array_rows e n of place)
      by None c typed is = absurd (not_both (sym is))
      by (Some t) c typed is = variables_held n t place (held_place p e whole place t (characters_row t c is).0.1 typed)

  -- String constants.

  string_is : (t : TextConstant) → env.has_string e t ≡ true → IsConstantText p.program (ModuleVar t.home (env.string_place e t)) (suc (length (env.characters e t)))
  string_is t has =
      let s = some_found (option_and_then (λ (h : Home). slice_get h.strings t.number) (env.home e t.home)) has in
      option_and_then_some (λ (h : Home). slice_get h.strings t.number) (env.home e t.home) s.0 s.1 (λ h there is. in_home h s.0 there is)
    where
      codes : Home → ℕ × ℕ → List ℕ
      codes h s = map character (between_quotes h.text s)

      long : (h : Home) (s : ℕ × ℕ) → env.home e t.home ≡ Some h → slice_get h.strings t.number ≡ Some s → length (env.characters e t) ≡ length (codes h s)
      long h s there is = rw there (rw is (sym (length-map (between_quotes h.text s) character)))

      in_home : (h : Home) (s : ℕ × ℕ) → env.home e t.home ≡ Some h → slice_get h.strings t.number ≡ Some s →
          IsConstantText p.program (ModuleVar t.home (env.string_place e t)) (suc (length (env.characters e t)))
      in_home h s there is =
          let m = whole.strings t.home h there in (
            m.0,
            m.1,
            record {
              behind = t.number;
              is = ap (λ n. n + t.number) (sym m.2);
              characters = codes h s;
              there = ap (λ ts. slice_get ts t.number) m.4
                  ∙ get_front (map (codes h) h.strings) m.3 t.number (codes h s) (slice_get-map (codes h) h.strings t.number ∙ ap (option_map (codes h)) is);
              long = ap suc (long h s there is);
            },
          )

  -- as an array it has one element more than characters
  pub string_rows_are : (t : TextConstant) → env.has_string e t ≡ true → AreRows p (judge.string_rows e t) 1 type.Char
  string_rows_are t has = (refl, inr (suc (length (env.characters e t)), refl, string_is t has, refl))

  pub string_kept : (t : TextConstant) → nat_lt (length (env.characters e t)) MOST_SCALARS ≡ true → HaveLengths (judge.string_rows e t)
  string_kept t few =
      let less : length (env.characters e t) < MOST_SCALARS = ltb-true (length (env.characters e t)) MOST_SCALARS few in
      all_of IsArrayLength (suc (length (env.characters e t)) ∷ []) (length_kept (suc (length (env.characters e t))) (omega arith, omega (arith, less)), tt)

  pub has_in : (c : Class) (t : TextConstant) → judge.string_in e c ≡ Some t → env.has_string e t ≡ true
  has_in (Constant (Some (literal.Text u))) t is = by (env.has_string e u) refl is
    where
      by : (b : Bool) → env.has_string e u ≡ b → (if b then Some u else None) ≡ Some t → env.has_string e t ≡ true
      by true has is = subst (λ t. env.has_string e t ≡ true) (same_Some u t is) has
      by false has is = absurd (none-some t is)
  has_in c t is = absurd (none-some t is)

  -- What is sound and may be a text is one.

  -- the part that is left of the test where there is no string constant
  array_left : (of : Option TypeId) (u : TypeId) (b : Bool) (o : Option TextConstant) → of ≡ Some u → o ≡ None → (is_none of || (b || is_some o)) ≡ true → b ≡ true
  array_left None u b o known none may = absurd (none-some u known)
  array_left (Some t) u true o known none may = refl
  array_left (Some t) u false None known none may = may
  array_left (Some t) u false (Some s) known none may = absurd (none-some s (sym none))

  array_in : (a : Answer) (sound : IsSound p a) → judge.is_characters e a.known ≡ true →
      AreRows p (judge.array_rows e 1 a.known.of (place_in a.typed)) 1 type.Char
  array_in a sound is =
      subst (λ of. AreRows p (judge.array_rows e 1 of (place_in a.typed)) 1 type.Char) (sym sound.known)
      (by sound.typed (subst (λ of. judge.is_characters e (record { of = of; class = a.known.class }) ≡ true) sound.known is))
    where
      Array : Type 0
      Array = AreRows p (judge.array_rows e 1 (Some sound.of) (place_in a.typed)) 1 type.Char

      Is : Type 0
      Is = judge.is_characters e (record { of = Some sound.of; class = a.known.class }) ≡ true

      by : IsScalar p sound.of a.typed ⊎ (IsWholeRead p sound.of a.typed ⊎ IsOther p sound.of a.typed) → Is → Array
      by (inl s) is = absurd (not_both (sym s.0 ∙ (characters_row sound.of a.known.class is).0.1))
      by (inr (inl w)) is =
          subst (λ x. AreRows p (judge.array_rows e 1 (Some sound.of) (place_in x)) 1 type.Char) (sym w.2)
          (rows_read sound.of a.known.class w.1 w.3 is)
      by (inr (inr (inl t))) is = absurd (no_text sound.of t (characters_row sound.of a.known.class is).0)
      by (inr (inr (inr (inl o)))) is = absurd (no_object sound.of a.typed (characters_row sound.of a.known.class is).0 o)
      by (inr (inr (inr (inr r)))) is = absurd (no_routine sound.of a.typed (characters_row sound.of a.known.class is).0 r)

  pub text_rows_are : (a : Answer) → IsSound p a → judge.may_be_text e a.known ≡ true → AreRows p (judge.text_rows e a) 1 type.Char
  text_rows_are a sound may = by (judge.string_in e a.known.class) refl
    where
      by : (o : Option TextConstant) → judge.string_in e a.known.class ≡ o → AreRows p (judge.text_rows e a) 1 type.Char
      by (Some t) is = rw is (string_rows_are t (has_in a.known.class t is))
      by None is = rw is (array_in a sound (array_left a.known.of sound.of (judge.is_characters e a.known) (judge.string_in e a.known.class) sound.known is may))

  -- LEN.

  -- a length of a dimension is that of a type
  bounded : (d : ℕ) (r : Option TypeRow) (k : ℕ) → slice_get e.types k ≡ r → (n : ℕ) → dimension e.types d r ≡ Some n → n ≤ MOST_SCALARS
  bounded zero (Some (row.Array m t)) k is n e' = subst (λ n. n ≤ MOST_SCALARS) (same_Some m n e') (whole.parts k (row.Array m t) is).0.1
  bounded (suc d) (Some (row.Array m t)) k is n e' = bounded d (row_of e.types t) t.0 refl n e'
  bounded zero r k is n e' = absurd (none-some n e')
  bounded (suc d) r k is n e' = absurd (none-some n e')

  within_length : (d : ℕ) (t : TypeId) (n : ℕ) → judge.length_of e (Some t) d ≡ Some n → IsWithin W32 (pos n)
  within_length d t n is =
      let le : n ≤ MOST_SCALARS = bounded d (row_of e.types t) t.0 refl n is in record { low = omega (arith, ints); high = omega (arith, ints, le) }

  -- the rows of a whole variable, whatever its dimensions; those that are open have lengths
  abbrev pub HasRows : TypeId → Rows → Type 0
  HasRows t r = (m : ℕ) × (u : TType) × AreRows p r m u × ((d : ℕ) → d < open_dimensions e.types t → (d < m) × HaveLengths r)

  rows_held : (t : TypeId) (place : Place) → IsClosedPlace p t place ⊎ IsOpenPlace p t place → HasRows t (rows_of place)
  rows_held t place (inl c) = by place c.0
    where
      none : (d : ℕ) → d < open_dimensions e.types t → ⊥
      none d below =
          let zero = closed_dimensions e.types t (closed_row (row_of e.types t) (ap (λ rows. is_open (row_of rows t)) (sym whole.rows) ∙ c.2)) in
          omega (arith, below, zero)

      known : (place : Place) → IsPlaceOf p place (type_as t) → HasRows t (KnownRows place [])
      known place typed = (0, type_as t, (refl, inl (type_as t, typed, refl)), λ d below. absurd (none d below))

      by : (place : Place) → IsPlaceOf p place (type_as t) → HasRows t (rows_of place)
      by (Of r) typed = (0, type_as t, typed.0, λ d below. absurd (none d below))
      by (ModuleVar m k) typed = known (ModuleVar m k) typed
      by (Local k) typed = known (Local k) typed
      by (Passed k) typed = known (Passed k) typed
      by (Field q u k) typed = known (Field q u k) typed
      by (Index q n u i) typed = known (Index q n u i) typed
      by (Deref x u) typed = known (Deref x u) typed
      by (Typed q k) typed = known (Typed q k) typed
      by (Guarded q k) typed = known (Guarded q k) typed
  rows_held t place (inr o) =
      subst (λ place. HasRows t (rows_of place)) (sym o.1) (
        open_dimensions e.types t,
        type_as (open_element e.types t),
        subst (λ types. AreRows p o.0 (open_dimensions types t) (type_as (open_element types t))) whole.rows o.3,
        λ d below. (below, o.4),
      )

  len_is : (a : Answer) (sound : IsSound p a) (d : ℕ) → judge.is_array e (Some sound.of) ≡ true → judge.has_dimension e sound.of d ≡ true →
      IsOf p (judge.len_typed e (Some sound.of) (rows_of (place_in a.typed)) d) (type.Integer W32)
  len_is a sound d array there = by sound.typed
    where
      t : TypeId
      t = sound.of

      at : Rows → Bool → Expr
      at r b = if b then Len r d else LenBehind r (unwrap_or (judge.length_behind e t d) 0)

      behind : (r : Rows) → HasRows t r → (o : Option ℕ) → judge.length_behind e t d ≡ o → (nat_lt d (open_dimensions e.types t) || is_some o) ≡ true →
          nat_lt d (open_dimensions e.types t) ≡ false → IsOf p (LenBehind r (unwrap_or o 0)) (type.Integer W32)
      behind r h None is there isnt = absurd (not_both (sym there ∙ ap (λ b. b || false) isnt))
      behind r h (Some n) is there isnt = (h.0, h.1, h.2, within_length (d - open_dimensions e.types t) (open_element e.types t) n is, refl)

      of_rows : (r : Rows) → HasRows t r → (b : Bool) → nat_lt d (open_dimensions e.types t) ≡ b → IsOf p (at r b) (type.Integer W32)
      of_rows r h true is = let within = h.3 d (ltb-true d (open_dimensions e.types t) is) in (h.0, h.1, h.2, within.1, within.0, refl)
      of_rows r h false is = behind r h (judge.length_behind e t d) refl there is

      by : IsScalar p t a.typed ⊎ (IsWholeRead p t a.typed ⊎ IsOther p t a.typed) → IsOf p (judge.len_typed e (Some t) (rows_of (place_in a.typed)) d) (type.Integer W32)
      by (inl s) = absurd (not_both (sym s.0 ∙ (array_row t array).1))
      by (inr (inl w)) =
          of_rows (rows_of (place_in a.typed)) (subst (λ x. HasRows t (rows_of (place_in x))) (sym w.2) (rows_held t w.1 w.3))
          (nat_lt d (open_dimensions e.types t)) refl
      by (inr (inr (inl q))) = absurd (no_text t q (array_row t array))
      by (inr (inr (inr (inl o)))) = absurd (no_object t a.typed (array_row t array) o)
      by (inr (inr (inr (inr r)))) = absurd (no_routine t a.typed (array_row t array) r)

module _ (p : Inside) (e : Env) where
  -- Texts compared.

  both_may : (o : RelationOp) (k l : Known) → judge.compares_texts e o k l ≡ true → (judge.may_be_text e k ≡ true) × (judge.may_be_text e l ≡ true)
  both_may o k l = by o
    where
      each : judge.are_texts e k l ≡ true → (judge.may_be_text e k ≡ true) × (judge.may_be_text e l ≡ true)
      each are = and_parts (judge.may_be_text e k) (judge.may_be_text e l) (and_parts (judge.may_be_text e k && judge.may_be_text e l) (judge.is_only_text e k || judge.is_only_text e l) are).0

      by : (o : RelationOp) → judge.compares_texts e o k l ≡ true → (judge.may_be_text e k ≡ true) × (judge.may_be_text e l ≡ true)
      by relation.In are = absurd (not_both (sym are))
      by relation.Is are = absurd (not_both (sym are))
      by relation.Equal are = each are
      by relation.NotEqual are = each are
      by relation.Less are = each are
      by relation.LessEqual are = each are
      by relation.Greater are = each are
      by relation.GreaterEqual are = each are

  texts_class_known : (r : Relation) (c d : Class) → IsKnownClass IsGood c → IsKnownClass IsGood d → IsKnownClass IsGood (judge.texts_class e r c d)
  texts_class_known r c d g h = by (judge.string_in e c) (judge.string_in e d) refl refl
    where
      by : (s t : Option TextConstant) → judge.string_in e c ≡ s → judge.string_in e d ≡ t → IsKnownClass IsGood (judge.texts_class e r c d)
      by (Some s) (Some t) i j = rw (i, j) tt
      by (Some s) None i j = rw (i, j) (class_of_known IsGood joint.And (joint_good joint.And) c d g h)
      by None t i j = rw i (class_of_known IsGood joint.And (joint_good joint.And) c d g h)

  texts_made : (r : Relation) (c d : Class) → IsMade (judge.texts_class e r c d)
  texts_made r c d = by (judge.string_in e c) (judge.string_in e d) refl refl
    where
      by : (s t : Option TextConstant) → judge.string_in e c ≡ s → judge.string_in e d ≡ t → IsMade (judge.texts_class e r c d)
      by (Some s) (Some t) i j = rw (i, j) tt
      by (Some s) None i j = rw (i, j) (made_of joint.And c d)
      by None t i j = rw i (made_of joint.And c d)

  pub texts_part : (first : Pos) (o : RelationOp) (a b : Answer) → Part p e a → Part p e b → judge.compares_texts e o a.known b.known ≡ true →
      Holds (Part p e) (related_texts p e first o a b)
  texts_part first o a b x y are none =
      let r = judge.relation_in o in
      let whole = judge.texts_related e r a b in
      let c = judge.texts_class e r a.known.class b.known.class in
      let known = texts_class_known r a.known.class b.known.class x.class y.class in
      let may = both_may o a.known b.known are in
      let compared = CompareTexts r (judge.text_rows e a) (judge.text_rows e b) in
      let made : IsMade whole.known.class = class_answered IsMade c (Some boolean) compared (texts_made r a.known.class b.known.class) in
      let v = test_is (not (is_lost whole.known.class)) 20 first none in
      record {
        class = class_answered (IsKnownClass IsGood) c (Some boolean) compared known;
        valued = v;
        read = λ s. absurd (not_stored whole.known.class made s);
        sound = λ w. plain_sound p whole
            (answered_plain p c boolean compared v known (texts_made r a.known.class b.known.class) refl (text_rows_are p e w a (x.sound w) may.0, text_rows_are p e w b (y.sound w) may.1, refl));
        named = λ w. naming_made p e whole.known.class whole.typed made;
      }

  -- LEN.

  abbrev HasLength : Answer → ℕ → Type 0
  HasLength a d = (t : TypeId) → a.known.of ≡ Some t → judge.has_dimension e t d ≡ true

  len_valued : (a : Answer) (d : ℕ) → Part p e a → judge.is_array e a.known.of ≡ true → (IsWhole p e → HasLength a d) → Valued p e (judge.len_answer e a d)
  len_valued a d x array has = rw array (record {
    class = tt;
    valued = refl;
    made = tt;
    plain = λ w. record { of = longint; known = refl; none = basic_some p longint refl; typed = inl (refl, typed w) };
  })
    where
      typed : IsWhole p e → IsOf p (judge.len_typed e a.known.of (rows_of (place_in a.typed)) d) (type.Integer W32)
      typed w =
          let sound = x.sound w in
          subst (λ of. IsOf p (judge.len_typed e of (rows_of (place_in a.typed)) d) (type.Integer W32)) (sym sound.known)
          (len_is p e w a sound d (subst (λ of. judge.is_array e of ≡ true) sound.known array) (has w sound.of sound.known))

  -- an array has a first dimension
  first_dimension : (w : IsWhole p e) (t : TypeId) (r : HasArray p e w t) → judge.has_dimension e t 0 ≡ true
  first_dimension w t r = by r.2
    where
      opening : (n : ℕ) → open_dimensions e.types t ≡ suc n → judge.has_dimension e t 0 ≡ true
      opening n is = ap (λ k. nat_lt 0 k || is_some (judge.length_of e (Some (open_element e.types t)) (0 - k))) is
          ∙ ap (λ b. b || is_some (judge.length_of e (Some (open_element e.types t)) (0 - suc n))) (lt-ltb 0 (suc n) (omega arith))

      fixed : element_of (row_of e.types t) ≡ None → (n : ℕ) → row_of e.types t ≡ Some (row.Array n r.0) → judge.has_dimension e t 0 ≡ true
      fixed none n is =
          ap (λ k. nat_lt 0 k || is_some (judge.length_of e (Some (open_element e.types t)) (0 - k))) (closed_dimensions e.types t none)
          ∙ ap (λ u. is_some (judge.length_of e (Some u) 0)) (closed_element e.types t none) ∙ ap (λ r. is_some (dimension e.types 0 r)) is

      by : IsArrayRow p e w t r.0 (row_of e.types t) → judge.has_dimension e t 0 ≡ true
      by (inl n) = fixed (ap element_of n.1) n.0 n.1
      by (inr at) = opening (open_dimensions e.types r.0) (next_dimensions e.types w.opens.falls t r.0 at)

  pub len_alone_part : (at : Pos) (a : Answer) → Part p e a → Holds (Valued p e) (judge.len_alone e at a)
  len_alone_part at a x none = len_valued a 0 x array first
    where
      array : judge.is_array e a.known.of ≡ true
      array = test_is (judge.is_array e a.known.of) 35 at none

      first : IsWhole p e → HasLength a 0
      first w t known = first_dimension w t (array_row p e w t (subst (λ of. judge.is_array e of ≡ true) known array))

  -- a dimension that is told is there
  dimension_there : (t : TypeId) (c : Class) → IsKnownClass IsGood c → judge.is_dimension e (Some t) c ≡ true →
      judge.has_dimension e t (unwrap_or (judge.number_in c) 0) ≡ true
  dimension_there t (Constant (Some (literal.Int z))) known there = by (natural (2 ^ 32) z) refl there
    where
      by : (o : Option ℕ) → natural (2 ^ 32) z ≡ o → judge.is_dimension e (Some t) (Constant (Some (literal.Int z))) ≡ true →
          judge.has_dimension e t (unwrap_or (judge.number_in (Constant (Some (literal.Int z)))) 0) ≡ true
      by (Some d) is = rw is (λ there. there)
      by None is = rw is (λ there. absurd (not_both (sym there)))
  dimension_there t Unknown known there = absurd known
  dimension_there t c known there = absurd (not_both (sym there))

  pub len_in_part : (first second : Pos) (a d : Answer) → Part p e a → Part p e d → Holds (Valued p e) (judge.len_in e first second a d)
  len_in_part first second a d x y none = len_valued a (unwrap_or (judge.number_in d.known.class) 0) x array there
    where
      array : judge.is_array e a.known.of ≡ true
      array = test_is (judge.is_array e a.known.of) 35 first (none_left (op.argument (judge.is_array e a.known.of) first) _ none)

      is : judge.is_dimension e a.known.of d.known.class ≡ true
      is = test_is (judge.is_dimension e a.known.of d.known.class) 20 second (none_right (op.argument (judge.is_array e a.known.of) first) _ none)

      there : IsWhole p e → HasLength a (unwrap_or (judge.number_in d.known.class) 0)
      there w t known = dimension_there t d.known.class y.class (subst (λ of. judge.is_dimension e of d.known.class ≡ true) known is)
