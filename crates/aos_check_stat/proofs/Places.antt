-- Variables that are assigned, those in which COPY puts a text, and those of which NEW makes an object, have the types that their
-- statements ask for.
use Rattle.std.proofs.Common.{◌≡◌, ℕ, ◌≤◌, ◌<◌, ◌==◌, List, [], ◌∷◌, ◌++◌, length, Bool, true, false, not, ◌&&◌, ◌||◌, Option, Some, None, is_some, refl, sym, ap, ◌∙◌, subst, eqb-true, ne_eqb, arith, if◌then◌else◌}
use Rattle.std.proofs.lemmas.Bool.{and_parts}
use Rattle.std.specs.Option.{is_none}
use Rattle.std.proofs.lemmas.Option.{none-some, same_Some, slice_get_within}
use Rattle.aos_base.specs.declared.text.Pos.{Pos}
use Rattle.aos_tree.specs.declared.expr.Desig.{Desig}
use Rattle.aos_types.specs.declared.row.TypeId.{TypeId}
use Rattle.aos_types.specs.declared.row.TypeRow.{TypeRow}
use Rattle.aos_types.specs.declared.row.TypeRow.TheVariants as row
use Rattle.aos_types.specs.Table.{row_of, is_pointer as is_pointer_row, is_object as is_object_row}
use Rattle.aos_types.specs.Extension.{comes_to}
use Rattle.aos_typed.specs.declared.tree.TextConstant.{TextConstant}
use Rattle.aos_typed.specs.declared.tree.TType.{TType}
use Rattle.aos_typed.specs.declared.tree.TType.TheVariants as type
use Rattle.aos_typed.specs.Open.{open_dimensions}
use Rattle.aos_typed.specs.Numbers.{id_of}
use Rattle.aos_typed.specs.Program.{Place, Stat}
use Rattle.aos_typed.specs.WellTyped.{is_whole, target}
use Rattle.aos_symbols.specs.declared.env.Env.{Env}
use Rattle.aos_symbols.specs.Env as env
use Rattle.aos_symbols.specs.Env.{nil}
use Rattle.aos_symbols.specs.declared.breach.Breach.{Breach}
use Rattle.aos_symbols.specs.Breaches.{breach_unless}
use Rattle.aos_symbols.proofs.Holds.{Holds, none_left, none_right, test_is}
use Rattle.aos_symbols.proofs.Told.{IsTold, basic, of_any, defined}
use Rattle.aos_known.specs.declared.known.Class.{Class}
use Rattle.aos_known.specs.declared.known.Class.TheVariants.{Unknown, Constant, Variable, ReadOnly, Computed, Procedure}
use Rattle.aos_known.specs.declared.known.Known.{Known}
use Rattle.aos_known.specs.Known.{Answer, Entity, Held, Stands, Value, passes, is as is_the, is_basic, is_long_text, fits, fits_type, object_number, type_as}
use Rattle.aos_known.specs.Kinds.{has_parts, is_opened, is_built, is_pointer_type, is_object_type}
use Rattle.aos_known.specs.Places.{place_of, place_in}
use Rattle.aos_known.proofs.Inside.{Inside, IsPlaceOf, IsOf, IsStatement}
use Rattle.aos_operators.proofs.Good.{IsGood, IsKnownClass}
use Rattle.aos_operators.proofs.Stored.{IsStored}
use Rattle.aos_known.proofs.Types.{id_as, id_above, as_named, wider, fits_includes}
use Rattle.aos_operators.proofs.Sound.{IsSound, scalar_of}
use Rattle.aos_values.specs.Assignable.{is_assignable}
use Rattle.aos_values.specs.Arrays.{is_characters, string_in}
use Rattle.aos_designators.specs.Designators as desig
use Rattle.aos_designators.specs.Designators.{assigned, written}
use Rattle.aos_check_expr.specs.Expressions.{designator}
use Rattle.aos_check_expr.proofs.Objects.{IsMadeAs, pointer_kind, object_kind}
use Rattle.aos_check_expr.proofs.Pointed.{made_there, made_pointed, number_back}
use Rattle.aos_check_expr.proofs.Passed.{basic_fit, whole_place}
use Rattle.aos_check_expr.proofs.Entities.{IsTyped, closed, opened, IsStoredHeld, opened_row}
use Rattle.aos_check_expr.proofs.Worded.{room_kept, room_writable}
use Rattle.aos_check_expr.proofs.Typing.{IsWhole, IsSoundEntity, IsTextAt, characters_are, text_rows_are, designator_sound, designator_known, designator_stored}
use Rattle.aos_check_stat.specs.Called.{is_made, made_type, lengths_wanted, new_breaches, count_breaches, put_text}
use Rattle.aos_check_stat.specs.Called as judge

not_both : false ≡ true → ⊥
not_both e = cc

pub some_breach : {b : Breach} {bs : List Breach} → b ∷ bs ≡ [] → ⊥
some_breach e = cc

-- no variable is told to be of the type of string constants
pub not_long : (types : List TypeRow) (t : TypeId) → IsTold types t → is_long_text t ≡ false
not_long types t told = ne_eqb 9 t.0 (by told)
  where
    by : IsTold types t → 9 ≡ t.0 → ⊥
    by (basic below) h = omega (arith, h)
    by (of_any any) h = omega (arith, any, h)
    by (defined r from there shut) h = omega (arith, h)

-- nor of that of NIL
pub not_nil : (types : List TypeRow) (t : TypeId) → IsTold types t → t ≡ nil → ⊥
not_nil types t told is = by told
  where
    n : t.0 ≡ 7
    n = ap (λ (u : TypeId). u.0) is

    by : IsTold types t → ⊥
    by (basic below) = let m = n in omega (arith, below, m)
    by (of_any any) = let m = n in omega (arith, any, m)
    by (defined r from there shut) = let m = n in omega (arith, from, m)

-- nor has one the number of procedures that are named
pub not_named : (e : Env) → 10 ≤ length e.types → (t : TypeId) → IsTold e.types t → is_the (env.procedure e) t ≡ false
not_named e many t told = ne_eqb (length e.types) t.0 (by told)
  where
    by : IsTold e.types t → length e.types ≡ t.0 → ⊥
    by (basic below) h = omega (arith, below, h, many)
    by (of_any any) h = omega (arith, any, h, many)
    by (defined r from there shut) h = let within = slice_get_within e.types t.0 r there in omega (arith, within, h)

-- a value is nothing that is assigned
no_value : (c : Class) (first : Pos) → IsKnownClass IsGood c → (IsStored c → ⊥) → written c first ≡ [] → ⊥
no_value (Constant v) first known is e = cc
no_value Computed first known is e = cc
no_value Unknown first known is e = known
no_value Variable first known is e = is tt
no_value ReadOnly first known is e = is tt
no_value (Procedure m n) first known is e = cc

-- what breaks a rule is no statement
abbrev pub MayBe : Inside → Option Stat → Type 0
MayBe p None = Unit {0}
MayBe p (Some x) = IsStatement p x

module _ (p : Inside) (e : Env) (whole : IsWhole p e) where
  -- what a designator that breaks no rule is
  pub record IsRead (a : Entity) : Type 0 where
    pub class : IsKnownClass IsGood a.known.class
    pub held : IsStoredHeld a.held a.known.class
    pub sound : IsSoundEntity p e a

  pub read_sound : (d : Desig) → Holds IsRead (designator e d)
  read_sound d none = record { class = designator_known p e whole d none; held = designator_stored p e whole d none; sound = designator_sound p e whole d none }

  -- a variable of a basic type, one that has parts, or an open array
  pub record IsAssigned (a : Entity) : Type 0 where
    pub of : TypeId
    pub known : a.known.of ≡ Some of
    pub built : is_built e of ≡ true
    pub typed : IsTyped p e (place_of a.held) (Some of)

  variable_assigned : (a : Entity) (of : Option TypeId) → of ≡ a.known.of → IsTyped p e (place_of a.held) of → passes (is_built e) of ≡ true → IsAssigned a
  variable_assigned a None is (closed typed known) test = absurd known
  variable_assigned a None is (opened t r same at opening rows lengths variables) test = absurd (none-some t same)
  variable_assigned a (Some t) is typed test = record { of = t; known = sym is; built = test; typed = typed }

  -- what isn't an open array is of its type, which is told
  pub told_typed : (place : Place) (t : TypeId) → is_opened e t ≡ false → IsTyped p e place (Some t) → IsTold e.types t × IsPlaceOf p place (type_as t)
  told_typed place t isnt (closed typed known) = (known, typed)
  told_typed place t isnt (opened u r same at opening rows lengths variables) = absurd (not_both (sym isnt ∙ ap (is_opened e) (same_Some t u same) ∙ opening))

  -- what is written is a variable of its type
  pub written_typed : (a : Entity) (first : Pos) → IsRead a → written a.known.class first ≡ [] → IsTyped p e (place_of a.held) a.known.of
  written_typed a first is kept = by a.held refl is.held is.sound
    where
      by : (h : Held) → h ≡ a.held → IsStoredHeld h a.known.class → IsSoundEntity p e (record { known = a.known; held = h; at = a.at }) →
          IsTyped p e (place_of a.held) a.known.of
      by (Stands place) same held sound = subst (λ h. IsTyped p e (place_of h) a.known.of) same sound
      by (Value x) same held sound = absurd (no_value a.known.class first is.class held kept)

  pub assigned_sound : (a : Entity) (first : Pos) → IsRead a → Holds IsAssigned (assigned e first a)
  assigned_sound a first is h =
      let own = breach_unless (passes (is_built e) a.known.of) 99 a.at in
      let typed = written_typed a first is (none_left (written a.known.class first) own h) in
      variable_assigned a a.known.of refl typed (test_is (passes (is_built e) a.known.of) 99 a.at (none_right (written a.known.class first) own h))

  -- Values that fit.

  -- a basic type
  pub fits_basic : (t : TypeId) (v : Answer) → is_basic t ≡ true → IsSound p v → fits v.known.of (Some t) ≡ true → IsOf p v.typed (type_as t)
  fits_basic t v low sound h =
      let fit : fits_type sound.of t ≡ true = ap (λ o. fits o (Some t)) (sym sound.known) ∙ h in
      wider p v.typed (type_as sound.of) (type_as t) (scalar_of p sound.of v.typed sound.typed (basic_fit sound.of t low fit)) (fits_includes sound.of t (basic_fit sound.of t low fit) fit)

  -- of a variable of a basic type
  pub fitting : (a : Entity) (v : Answer) (is : IsAssigned a) → is_basic is.of ≡ true → IsSound p v → fits v.known.of a.known.of ≡ true → IsOf p v.typed (type_as is.of)
  fitting a v is low sound h = fits_basic is.of v low sound (ap (fits v.known.of) (sym is.known) ∙ h)

  -- of one that has parts
  pub record IsCopied (a : Entity) (v : Answer) (t : TypeId) : Type 0 where
    pub from : (u : TType) × IsPlaceOf p (place_in v.typed) u × (comes_to p.program.types (id_of u) (id_of (type_as t)) ≡ true)
    pub row : is_whole (row_of p.program.types (id_of (type_as t))) ≡ true

  has_row : (t : TypeId) → IsTold e.types t → has_parts e t ≡ true → is_whole (row_of p.program.types (id_of (type_as t))) ≡ true
  has_row t told parts =
      ap (λ u. is_whole (row_of p.program.types u)) (id_as e.types t told) ∙ ap (λ rows. is_whole (row_of rows t)) whole.rows ∙ (and_parts _ _ parts).1

  pub copying : (a : Entity) (v : Answer) (is : IsAssigned a) → IsTold e.types is.of → has_parts e is.of ≡ true → IsSound p v → is_assignable e v.known a.known.of ≡ true → IsCopied a v is.of
  copying a v is told parts sound h =
      let place = whole_place p e whole is.of parts v sound (ap (is_assignable e v.known) (sym is.known) ∙ h) in
      record {
        from = (
          type_as sound.of,
          place.1,
          ap (λ rows. comes_to rows (id_of (type_as sound.of)) (id_of (type_as is.of))) whole.rows
              ∙ ap (λ u. comes_to e.types u (id_of (type_as is.of))) (id_above sound.of place.0)
              ∙ ap (comes_to e.types sound.of) (id_as e.types is.of told)
              ∙ place.2,
        );
        row = has_row is.of told parts;
      }

  -- Texts.

  -- a string constant that is stored in an array of characters
  text_stored : (b : Bool) (o : Option TextConstant) (t : TextConstant) → (if b then o else None) ≡ Some t → (b ≡ true) × (o ≡ Some t)
  text_stored true o t h = (refl, h)
  text_stored false o t h = absurd (none-some t h)

  always : (b c : Bool) → (b || (c || true)) ≡ true
  always true c = refl
  always false true = refl
  always false false = refl

  pub putting : (first : Pos) (a : Entity) (v : Answer) (t : TextConstant) → IsAssigned a → IsSound p v → judge.text_to e a v ≡ Some t →
      IsStatement p (put_text e first true v a)
  putting first a v t is sound found =
      let one = text_stored (is_characters e a.known) (string_in e v.known.class) t found in
      let may = ap (λ o. is_none v.known.of || (is_characters e v.known || is_some o)) one.1 ∙ always (is_none v.known.of) (is_characters e v.known) in
      let typed : IsTyped p e (place_of a.held) a.known.of =
      subst (IsTyped p e (place_of a.held)) (sym is.known) is.typed in
      let place = place_of a.held in
      (text_rows_are p e whole v sound may, characters_are p e whole place a.known typed one.0, room_kept p e whole 1 place a.known typed one.0, room_writable p e whole 1 place a.known typed one.0)

  -- what COPY stores
  characters_of : (place : Place) (k : Known) → IsTyped p e place k.of → passes (λ t. is_characters e k) k.of ≡ true → is_characters e k ≡ true
  characters_of place k = by k.of
    where
      by : (of : Option TypeId) → IsTyped p e place of → passes (λ t. is_characters e k) of ≡ true → is_characters e k ≡ true
      by None (closed typed known) h = absurd known
      by None (opened t r same at opening rows lengths variables) h = absurd (none-some t same)
      by (Some t) typed h = h

  pub copied_text : (at : Pos) (v : Answer) (second : Pos) (a : Entity) → IsTextAt p e v → IsRead a →
      written a.known.class second ++ breach_unless (passes (λ t. is_characters e a.known) a.known.of) 35 second ≡ [] → IsStatement p (put_text e at false v a)
  copied_text at v second a text is h =
      let test = passes (λ t. is_characters e a.known) a.known.of in
      let typed = written_typed a second is (none_left (written a.known.class second) (breach_unless test 35 second) h) in
      let are = characters_of (place_of a.held) a.known typed (test_is test 35 second (none_right (written a.known.class second) (breach_unless test 35 second) h)) in
      let place = place_of a.held in
      (text, characters_are p e whole place a.known typed are, room_kept p e whole 1 place a.known typed are, room_writable p e whole 1 place a.known typed are)

  -- NEW: what it makes for a variable.

  abbrev Made : Option TypeId → TypeId
  Made of = id_of (type.Named (made_type e of))

  -- an object of an object type
  abbrev pub IsMade : Option TypeId → Place → Type 0
  IsMade of place = IsPlaceOf p place (type.Named (made_type e of)) × (is_object_row (row_of p.program.types (Made of)) ≡ true)

  -- what a pointer leads to, an array with so many lengths
  abbrev pub IsLed : Option TypeId → Place → ℕ → Type 0
  IsLed of place n =
      ((u : TType) × IsPlaceOf p place u × (target p.program.types u ≡ Some (Made of))) × (made_type e of < length p.program.objects)
      × (is_object_row (row_of p.program.types (Made of)) ≡ false) × (n ≡ open_dimensions p.program.types (Made of))

  -- by the number of the type as which objects are made
  made_number_few : (t : TypeId) → IsMadeAs p e whole t →
      (id_of (type.Named (desig.made_number e t)) ≡ desig.made_as e t) × (desig.made_number e t < length p.program.objects)
  made_number_few t made =
      let at = made_there p e whole t made in
      let objects = whole.objects in
      let low = at.0 in
      let high = at.1 in
      (number_back p e whole (desig.made_as e t) low, omega (arith, objects, low, high))

  low : (b : Bool) → not b ≡ true → b ≡ false
  low true h = absurd (not_both h)
  low false h = refl

  -- an object type is made as itself
  pub object_itself : (t : TypeId) → is_object_type e t ≡ true → (is_object_row (row_of e.types t) ≡ true) × (desig.made_number e t ≡ object_number t)
  object_itself t is = by (row_of e.types t) refl two.1
    where
      two : (not (is_basic t) ≡ true) × (is_object_row (row_of e.types t) ≡ true)
      two = and_parts (not (is_basic t)) _ is

      by : (o : Option TypeRow) → row_of e.types t ≡ o → is_object_row o ≡ true → (is_object_row (row_of e.types t) ≡ true) × (desig.made_number e t ≡ object_number t)
      by (Some (row.Object base fs)) there object = (two.1, rw (low (is_basic t) two.0, there) refl)
      by o there object = absurd (not_both object)

  pub object_made : (t : TypeId) (place : Place) → is_object_type e t ≡ true → IsPlaceOf p place (type_as t) → IsMade (Some t) place
  object_made t place is typed = by (row_of e.types t) refl two.1
    where
      two : (not (is_basic t) ≡ true) × (is_object_row (row_of e.types t) ≡ true)
      two = and_parts (not (is_basic t)) _ is

      by : (o : Option TypeRow) → row_of e.types t ≡ o → is_object_row o ≡ true → IsMade (Some t) place
      by (Some (row.Object base fs)) there object =
          let made = object_kind p e whole t base fs (low (is_basic t) two.0) there in
          let above = made.0 in
          let number = (object_itself t is).1 in (
            subst (IsPlaceOf p place) (as_named t (omega (arith, above)) ∙ ap type.Named (sym number)) typed,
            ap (λ k. is_object_row (row_of p.program.types (id_of (type.Named k)))) number ∙ ap (λ u. is_object_row (row_of p.program.types u)) (number_back p e whole t above)
                ∙ ap (λ rows. is_object_row (row_of rows t)) whole.rows ∙ two.1,
          )
      by o there object = absurd (not_both object)

  pub pointer_made : (t : TypeId) (place : Place) (n : ℕ) → is_pointer_type e t ≡ true → IsPlaceOf p place (type_as t) → (lengths_wanted e t == n) ≡ true → IsLed (Some t) place n
  pointer_made t place n is typed many = by (row_of e.types t) refl two.1
    where
      two : (not (is_basic t) ≡ true) × (is_pointer_row (row_of e.types t) ≡ true)
      two = and_parts (not (is_basic t)) _ is

      by : (o : Option TypeRow) → row_of e.types t ≡ o → is_pointer_row o ≡ true → IsLed (Some t) place n
      by (Some (row.Pointer u)) there pointer =
          let high = low (is_basic t) two.0 in
          let made = pointer_kind p e whole t u high there in
          let led : desig.pointed e t ≡ Some u = rw (high, there) refl in
          let few = made_number_few t made in
          let own = made_pointed p e whole t u led in
          let wanted : lengths_wanted e t ≡ open_dimensions e.types u = rw led refl in (
            (type_as t, typed, made.1 ∙ ap (λ v. Some v) (sym few.0)),
            few.1,
            ap (λ v. is_object_row (row_of p.program.types v)) few.0 ∙ ap (λ rows. is_object_row (row_of rows (desig.made_as e t))) whole.rows ∙ own.0,
            sym (eqb-true (lengths_wanted e t) n many) ∙ wanted ∙ sym own.1 ∙ ap (λ rows. open_dimensions rows (desig.made_as e t)) (sym whole.rows)
                ∙ ap (open_dimensions p.program.types) (sym few.0),
          )
      by o there pointer = absurd (not_both pointer)

  -- what NEW makes something for is of a pointer type, or of an object type
  pub record IsTarget (a : Entity) : Type 0 where
    pub of : TypeId
    pub known : a.known.of ≡ Some of
    pub kind : (is_pointer_type e of || is_object_type e of) ≡ true
    pub typed : IsPlaceOf p (place_of a.held) (type_as of)

  pub target_sound : (at first : Pos) (a : Entity) → IsRead a → new_breaches e at first a.known.of a.known.class ≡ [] → IsTarget a
  target_sound at first a is none =
      by a.known.of refl (written_typed a first is (none_right (breach_unless (is_made e a.known.of) 47 at) (written a.known.class first) none))
    where
      kind : is_made e a.known.of ≡ true
      kind = test_is (is_made e a.known.of) 47 at (none_left (breach_unless (is_made e a.known.of) 47 at) _ none)

      not_open : (t : TypeId) → (is_pointer_type e t || is_object_type e t) ≡ true → is_opened e t ≡ true → ⊥
      not_open t kind opening =
          let u = opened_row e t opening in not_both (sym (ap (λ b. (not b && is_pointer_row (row_of e.types t)) || (not b && is_object_row (row_of e.types t))) u.1 ∙ ap (λ o. is_pointer_row o || is_object_row o) u.2) ∙ kind)

      none_typed : (of : Option TypeId) → of ≡ None → IsTyped p e (place_of a.held) of → ⊥
      none_typed None is (closed typed known) = known
      none_typed None is (opened t r same also opening rows lengths variables) = none-some t same
      none_typed (Some t) is held = none-some t (sym is)

      by : (of : Option TypeId) → a.known.of ≡ of → IsTyped p e (place_of a.held) a.known.of → IsTarget a
      by None known held = absurd (none_typed a.known.of known held)
      by (Some t) known held =
          let one = sym (ap (is_made e) known) ∙ kind in record {
            of = t;
            known = known;
            kind = one;
            typed = (told_typed (place_of a.held) t (shut (is_opened e t) refl one) (subst (IsTyped p e (place_of a.held)) known held)).1;
          }
        where
          shut : (b : Bool) → is_opened e t ≡ b → (is_pointer_type e t || is_object_type e t) ≡ true → is_opened e t ≡ false
          shut true opening one = absurd (not_open t one opening)
          shut false other one = other

  -- there are as many lengths as open dimensions
  pub lengths_counted : (at : Pos) (t : TypeId) (n : ℕ) → (is_pointer_type e t || is_object_type e t) ≡ true → count_breaches e at (Some t) n ≡ [] → (lengths_wanted e t == n) ≡ true
  lengths_counted at t n kind none =
      sym (ap (λ c. not c || lengths_wanted e t == n) kind) ∙ test_is (not (is_pointer_type e t || is_object_type e t) || lengths_wanted e t == n) 34 at none
