-- Records with a base, and what extends a type: the fields of a record stand behind its base's, and an extension begins with what it
-- extends. What is made as an open array or a fixed one is of that very type.
use Rattle.std.proofs.Common.{◌≡◌, ℕ, zero, suc, ◌+◌, ◌≤◌, ◌<◌, List, [], ◌∷◌, ◌++◌, length, map, Bool, true, false, Option, Some, None, refl, sym, ap, ◌∙◌, arith}
use Rattle.std.specs.Prelude.{slice_get, option_map, option_and_then}
use Rattle.std.proofs.lemmas.Bool.{false≢true}
use Rattle.std.proofs.lemmas.List.{map-append}
use Rattle.std.proofs.lemmas.Option.{slice_get-map, slice_get_within}
use Rattle.aos_base.specs.Rooted.{Made}
use Rattle.aos_types.specs.declared.row.TypeId.{TypeId}
use Rattle.aos_types.specs.declared.row.TypeRow.{TypeRow}
use Rattle.aos_types.specs.declared.row.TypeRow.TheVariants as row
use Rattle.aos_types.specs.Table.{row_of, base_of, has_fields, is_open, is_object, is_record}
use Rattle.aos_types.specs.Shape as shape
use Rattle.aos_types.specs.Shape.{Shape, One, Nothing, Pair, join, part, before, inside, offset, shaped}
use Rattle.aos_types.specs.Contents.{of_variable, of_base, with_parts, contents}
use Rattle.aos_types.specs.Extension.{comes_to, AreBases}
use Rattle.aos_types.proofs.Tables.{by_parts, bases_of, base_part, front}
use Rattle.aos_typed.specs.Numbers.{id_of_made}
use Rattle.aos_types.specs.Sameness.{element_of}
use Rattle.aos_typed.specs.Open.{open_by, open_dimensions, open_element}
use Rattle.aos_typed.proofs.Opens.{open_more}
use Rattle.aos_typed.specs.Program.{Program}
use Rattle.aos_typed.specs.Sort.{Sort, Plain, variable_shape, object_shape}
use Rattle.aos_typed.specs.Typing.{nested}
use Rattle.aos_typed.specs.Source.{shape_made, made_shape}
use Rattle.aos_typed.specs.WellTyped.{with_base, fields_by, fields_in, field_type, is_whole}
use Rattle.aos_sim.proofs.Parts.{before_step, part_of_row, own_contents, part_shaped, before_shaped, shaped_join, whole_ends}
use Rattle.aos_sim.proofs.Does.{HasTypes}

module _ {S : Type 0} where
  -- a part of a row is a part of a longer one, and stands at the same place
  pub part_join : (i : ℕ) (s more m : Shape S) → part i s ≡ Some m → part i (join s more) ≡ Some m
  part_join i (One k) more m e = absurd (cc)
  part_join i Nothing more m e = absurd (cc)
  part_join zero (Pair a b) more m e = e
  part_join (suc i) (Pair a b) more m e = part_join i b more m e

  before_join : (i : ℕ) (s more m : Shape S) → part i s ≡ Some m → before i (join s more) ≡ before i s
  before_join i (One k) more m e = absurd (cc)
  before_join i Nothing more m e = absurd (cc)
  before_join zero (Pair a b) more m e = refl
  before_join (suc i) (Pair a b) more m e = ap (λ n. shape.size a + n) (before_join i b more m e)

  join_rows : (xs ys : List (Shape S)) → join (shape.row xs) (shape.row ys) ≡ shape.row (xs ++ ys)
  join_rows [] ys = refl
  join_rows (x ∷ xs) ys = ap (Pair x) (join_rows xs ys)

-- a type that has fields as a record, an array or an open array is no object type
record_is : (o : Option TypeRow) → is_record o ≡ true → (base : Option TypeId) × (fields : List TypeId) × (o ≡ Some (row.Record base fields))
record_is None e = absurd (cc)
record_is (Some (row.Basic b)) e = absurd (cc)
record_is (Some (row.Array n of)) e = absurd (cc)
record_is (Some (row.Open of)) e = absurd (cc)
record_is (Some (row.Record base fields)) e = (base, fields, refl)
record_is (Some (row.Pointer to)) e = absurd (cc)
record_is (Some (row.Object base fields)) e = absurd (cc)
record_is (Some (row.Procedure formals r)) e = absurd (cc)
record_is (Some row.Any) e = absurd (cc)

pub record_fields : (o : Option TypeRow) → is_record o ≡ true → has_fields o ≡ true
record_fields o e = let r = record_is o e in ap has_fields r.2

-- what has a base has fields, and what has fields is no open array
based_fields : (o : Option TypeRow) (b : TypeId) → base_of o ≡ Some b → has_fields o ≡ true
based_fields None b e = absurd (cc)
based_fields (Some (row.Basic k)) b e = absurd (cc)
based_fields (Some (row.Array n of)) b e = absurd (cc)
based_fields (Some (row.Open of)) b e = absurd (cc)
based_fields (Some (row.Record base fields)) b e = refl
based_fields (Some (row.Pointer to)) b e = absurd (cc)
based_fields (Some (row.Object base fields)) b e = refl
based_fields (Some (row.Procedure formals r)) b e = absurd (cc)
based_fields (Some row.Any) b e = absurd (cc)

pub object_fields : (o : Option TypeRow) → is_object o ≡ true → has_fields o ≡ true
object_fields None e = absurd (cc)
object_fields (Some (row.Basic k)) e = absurd (cc)
object_fields (Some (row.Array n of)) e = absurd (cc)
object_fields (Some (row.Open of)) e = absurd (cc)
object_fields (Some (row.Record base fields)) e = refl
object_fields (Some (row.Pointer to)) e = absurd (cc)
object_fields (Some (row.Object base fields)) e = refl
object_fields (Some (row.Procedure formals r)) e = absurd (cc)
object_fields (Some row.Any) e = absurd (cc)

pub fields_closed : (o : Option TypeRow) → has_fields o ≡ true → is_open o ≡ false
fields_closed None e = absurd (cc)
fields_closed (Some (row.Basic k)) e = absurd (cc)
fields_closed (Some (row.Array n of)) e = absurd (cc)
fields_closed (Some (row.Open of)) e = absurd (cc)
fields_closed (Some (row.Record base fields)) e = refl
fields_closed (Some (row.Pointer to)) e = absurd (cc)
fields_closed (Some (row.Object base fields)) e = refl
fields_closed (Some (row.Procedure formals r)) e = absurd (cc)
fields_closed (Some row.Any) e = absurd (cc)

pub record_no_object : (o : Option TypeRow) → is_record o ≡ true → is_object o ≡ false
record_no_object o e = let r = record_is o e in ap is_object r.2

pub whole_no_object : (o : Option TypeRow) → is_whole o ≡ true → is_object o ≡ false
whole_no_object None e = refl
whole_no_object (Some (row.Basic b)) e = refl
whole_no_object (Some (row.Array n of)) e = refl
whole_no_object (Some (row.Open of)) e = refl
whole_no_object (Some (row.Record base fields)) e = refl
whole_no_object (Some (row.Pointer to)) e = refl
whole_no_object (Some (row.Object base fields)) e = absurd (cc)
whole_no_object (Some (row.Procedure formals r)) e = refl
whole_no_object (Some row.Any) e = refl

-- an array has no fields
pub whole_or : (o : Option TypeRow) → is_whole o ≡ true → is_record o ≡ false → has_fields o ≡ false
whole_or None e f = refl
whole_or (Some (row.Basic b)) e f = refl
whole_or (Some (row.Array n of)) e f = refl
whole_or (Some (row.Open of)) e f = refl
whole_or (Some (row.Record base fields)) e f = absurd (cc)
whole_or (Some (row.Pointer to)) e f = refl
whole_or (Some (row.Object base fields)) e f = absurd (cc)
whole_or (Some (row.Procedure formals r)) e f = refl
whole_or (Some row.Any) e f = refl

open_no_fields : (o : Option TypeRow) → is_open o ≡ true → has_fields o ≡ false
open_no_fields None e = refl
open_no_fields (Some (row.Basic b)) e = refl
open_no_fields (Some (row.Array n of)) e = refl
open_no_fields (Some (row.Open of)) e = refl
open_no_fields (Some (row.Record base fields)) e = absurd (cc)
open_no_fields (Some (row.Pointer to)) e = refl
open_no_fields (Some (row.Object base fields)) e = absurd (cc)
open_no_fields (Some (row.Procedure formals r)) e = refl
open_no_fields (Some row.Any) e = refl

-- the shape of what is made as a type that is no open array, and as one
closed_made : (rows : List TypeRow) (m : Made) (o : Option TypeRow) → is_open o ≡ false → shape_made rows m o ≡ object_shape rows (id_of_made m.type)
closed_made rows m None e = refl
closed_made rows m (Some (row.Basic b)) e = refl
closed_made rows m (Some (row.Array n of)) e = refl
closed_made rows m (Some (row.Open of)) e = absurd (cc)
closed_made rows m (Some (row.Record base fields)) e = refl
closed_made rows m (Some (row.Pointer to)) e = refl
closed_made rows m (Some (row.Object base fields)) e = refl
closed_made rows m (Some (row.Procedure formals r)) e = refl
closed_made rows m (Some row.Any) e = refl

pub open_made : (rows : List TypeRow) (m : Made) (o : Option TypeRow) → is_open o ≡ true → shape_made rows m o ≡ nested m.lengths (variable_shape rows (open_element rows (id_of_made m.type)))
open_made rows m None e = absurd (cc)
open_made rows m (Some (row.Basic b)) e = absurd (cc)
open_made rows m (Some (row.Array n of)) e = absurd (cc)
open_made rows m (Some (row.Open of)) e = refl
open_made rows m (Some (row.Record base fields)) e = absurd (cc)
open_made rows m (Some (row.Pointer to)) e = absurd (cc)
open_made rows m (Some (row.Object base fields)) e = absurd (cc)
open_made rows m (Some (row.Procedure formals r)) e = absurd (cc)
open_made rows m (Some row.Any) e = absurd (cc)

-- an open array has an open dimension
pub open_some : (rows : List TypeRow) (t : TypeId) → is_open (row_of rows t) ≡ true → 0 < open_dimensions rows t
open_some rows t e = by (row_of rows t) refl e
  where
    by_length : (of : TypeId) → element_of (row_of rows t) ≡ Some of → t.0 < length rows → (n : ℕ) → length rows ≡ n → 0 < open_by n rows t
    by_length of f l zero m = absurd (omega (arith, l, m))
    by_length of f l (suc n) m = let k = open_more rows t of f n in omega (arith, k)

    by : (o : Option TypeRow) → row_of rows t ≡ o → is_open o ≡ true → 0 < open_dimensions rows t
    by None f h = absurd (cc)
    by (Some (row.Basic b)) f h = absurd (cc)
    by (Some (row.Array n of)) f h = absurd (cc)
    by (Some (row.Open of)) f h = by_length of (ap element_of f) (slice_get_within rows t.0 (row.Open of) f) (length rows) refl
    by (Some (row.Record base fields)) f h = absurd (cc)
    by (Some (row.Pointer to)) f h = absurd (cc)
    by (Some (row.Object base fields)) f h = absurd (cc)
    by (Some (row.Procedure formals r)) f h = absurd (cc)
    by (Some row.Any) f h = absurd (cc)

module _ (p : Program) (typed : HasTypes p) where
  abbrev rows : List TypeRow
  rows = p.types

  abbrev of : TypeId → Shape TypeId
  of = of_variable (contents rows) rows

  -- the fields of a record, its base's first, are the parts of its contents
  abbrev FieldsAre : ℕ → TypeId → Type 0
  FieldsAre n t = contents rows t ≡ shape.row (map of (fields_by n rows t))

  -- a record or an object type has its base's fields, and its own behind them
  record IsFielded (t : TypeId) (o : Option TypeRow) : Type 0 where
    base : Option TypeId
    own : List TypeId
    base_is : base_of o ≡ base
    fields_are : (f : TypeId → List TypeId) → fields_in f o ≡ with_base f base own
    parts_are : with_parts (contents rows) rows t o ≡ join (of_base (contents rows) base) (shape.row (map of own))

  fielded : (t : TypeId) (o : Option TypeRow) → has_fields o ≡ true → IsFielded t o
  fielded t None e = absurd (cc)
  fielded t (Some (row.Basic b)) e = absurd (cc)
  fielded t (Some (row.Array n x)) e = absurd (cc)
  fielded t (Some (row.Open x)) e = absurd (cc)
  fielded t (Some (row.Record base fields)) e = record { base = base; own = fields; base_is = refl; fields_are = λ f. refl; parts_are = refl }
  fielded t (Some (row.Pointer to)) e = absurd (cc)
  fielded t (Some (row.Object base fields)) e = record { base = base; own = fields; base_is = refl; fields_are = λ f. refl; parts_are = refl }
  fielded t (Some (row.Procedure formals r)) e = absurd (cc)
  fielded t (Some row.Any) e = absurd (cc)

  module _ (t : TypeId) (h : IsFielded t (row_of rows t)) where
    no_base : (n : ℕ) → h.base ≡ None → FieldsAre n t
    no_base n e =
        by_parts rows typed.ranked t ∙ h.parts_are ∙ ap (λ b. join (of_base (contents rows) b) (shape.row (map of h.own))) e
        ∙ ap (λ fs. shape.row (map of fs)) (sym (own_fields n))
      where
        own_fields : (n : ℕ) → fields_by n rows t ≡ h.own
        own_fields zero = h.fields_are (λ b. []) ∙ ap (λ b. with_base (λ b. []) b h.own) e
        own_fields (suc n) = h.fields_are (λ b. fields_by n rows b) ∙ ap (λ b. with_base (λ b. fields_by n rows b) b h.own) e

    on_base : (n : ℕ) (b : TypeId) → h.base ≡ Some b → FieldsAre n b → FieldsAre (suc n) t
    on_base n b e k =
        by_parts rows typed.ranked t ∙ h.parts_are ∙ ap (λ b. join (of_base (contents rows) b) (shape.row (map of h.own))) e
        ∙ ap (λ s. join s (shape.row (map of h.own))) k
        ∙ join_rows (map of (fields_by n rows b)) (map of h.own)
        ∙ ap (λ l. shape.row l) (sym (map-append of (fields_by n rows b) h.own))
        ∙ ap (λ fs. shape.row (map of fs)) (sym (h.fields_are (λ b. fields_by n rows b) ∙ ap (λ b. with_base (λ b. fields_by n rows b) b h.own) e))

    base_falls : (b : TypeId) → h.base ≡ Some b → typed.ranked.rank b < typed.ranked.rank t
    base_falls b e = typed.ranked.falls t b (base_part rows (row_of rows t) b (h.base_is ∙ e))

  fields_are : (n : ℕ) (t : TypeId) → typed.ranked.rank t ≤ n → has_fields (row_of rows t) ≡ true → FieldsAre n t
  fields_are zero t low is = let h = fielded t (row_of rows t) is in by h h.base refl
    where
      by : (h : IsFielded t (row_of rows t)) (base : Option TypeId) → h.base ≡ base → FieldsAre zero t
      by h None e = no_base t h zero e
      by h (Some b) e = let f = base_falls t h b e in absurd (omega (arith, f, low))
  fields_are (suc n) t low is = let h = fielded t (row_of rows t) is in by (λ b l k. fields_are n b l k) h h.base refl
    where
      by : ((b : TypeId) → typed.ranked.rank b ≤ n → has_fields (row_of rows b) ≡ true → FieldsAre n b) → (h : IsFielded t (row_of rows t)) (base : Option TypeId) → h.base ≡ base → FieldsAre (suc n) t
      by more h None e = no_base t h (suc n) e
      by more h (Some b) e =
          let f = base_falls t h b e in
          on_base t h n b e (more b (omega (arith, f, low)) (typed.bases t b (h.base_is ∙ e)))

  -- what has a field is a record or an object type
  field_fielded : (n : ℕ) (t u : TypeId) (k : ℕ) → slice_get (fields_by n rows t) k ≡ Some u → has_fields (row_of rows t) ≡ true
  field_fielded n t u k e = with_fuel n e
    where
      by : (f : TypeId → List TypeId) (o : Option TypeRow) → slice_get (fields_in f o) k ≡ Some u → has_fields o ≡ true
      by f None e = absurd (cc)
      by f (Some (row.Basic b)) e = absurd (cc)
      by f (Some (row.Array n x)) e = absurd (cc)
      by f (Some (row.Open x)) e = absurd (cc)
      by f (Some (row.Record base fields)) e = refl
      by f (Some (row.Pointer to)) e = absurd (cc)
      by f (Some (row.Object base fields)) e = refl
      by f (Some (row.Procedure formals r)) e = absurd (cc)
      by f (Some row.Any) e = absurd (cc)

      with_fuel : (n : ℕ) → slice_get (fields_by n rows t) k ≡ Some u → has_fields (row_of rows t) ≡ true
      with_fuel zero e = by (λ b. []) (row_of rows t) e
      with_fuel (suc n) e = by (λ b. fields_by n rows b) (row_of rows t) e

  module _ (t u : TypeId) (k : ℕ) (has : field_type rows t k ≡ Some u) where
    is_fielded : has_fields (row_of rows t) ≡ true
    is_fielded = field_fielded (length rows) t u k has

    field_there : part k (contents rows t) ≡ Some (of u)
    field_there =
        let low = typed.ranked.bound t in
        ap (part k) (fields_are (length rows) t (omega (arith, low)) is_fielded)
        ∙ part_of_row k (map of (fields_by (length rows) rows t)) ∙ slice_get-map of (fields_by (length rows) rows t) k ∙ ap (option_map of) has

    field_shape : part k (object_shape rows t) ≡ Some (variable_shape rows u)
    field_shape = part_shaped Plain k (contents rows t) ∙ ap (option_map (shaped Plain)) field_there

    -- a field of the record or the object, whatever stands behind its fields
    module _ (more : Shape Sort) where
      pub field_part : inside (k ∷ []) (join (object_shape rows t) more) ≡ Some (variable_shape rows u)
      field_part = ap (option_and_then (λ s. Some s)) (part_join k (object_shape rows t) more (variable_shape rows u) field_shape)

      pub field_offset : offset (k ∷ []) (join (object_shape rows t) more) ≡ offset (k ∷ []) (contents rows t)
      field_offset =
          before_step k (join (object_shape rows t) more) ∙ before_join k (object_shape rows t) more (variable_shape rows u) field_shape
          ∙ before_shaped Plain k (contents rows t) ∙ sym (before_step k (contents rows t))

  -- What extends a type

  one_type : (bs : List TypeId) (a b : TypeId) → has_fields (row_of rows b) ≡ false → AreBases rows a bs b → a ≡ b
  one_type [] a b n h = h
  one_type (x ∷ bs) a b n h = let e = one_type bs x b n h.1 in let f = typed.bases a x h.0 in absurd (false≢true (sym n ∙ (ap (λ y. has_fields (row_of rows y)) (sym e) ∙ f)))

  -- nothing but itself extends a type without fields
  pub no_extension : (a b : TypeId) → has_fields (row_of rows b) ≡ false → comes_to rows a b ≡ true → a ≡ b
  no_extension a b n e = let r = bases_of rows (length rows) a b e in one_type r.bases a b n r.are

  records : (bs : List TypeId) (a b : TypeId) → is_record (row_of rows b) ≡ true → AreBases rows a bs b → is_record (row_of rows a) ≡ true
  records [] a b is h = ap (λ y. is_record (row_of rows y)) h ∙ is
  records (x ∷ bs) a b is h = sym (typed.record_bases a x h.0) ∙ records bs x b is h.1

  -- what extends a record is a record
  pub record_extension : (a b : TypeId) → is_record (row_of rows b) ≡ true → comes_to rows a b ≡ true → is_record (row_of rows a) ≡ true
  record_extension a b is e = let r = bases_of rows (length rows) a b e in records r.bases a b is r.are

  below : (bs : List TypeId) (a b : TypeId) → is_record (row_of rows a) ≡ true → AreBases rows a bs b → is_record (row_of rows b) ≡ true
  below [] a b is h = ap (λ y. is_record (row_of rows y)) (sym h) ∙ is
  below (x ∷ bs) a b is h = below bs x b (typed.record_bases a x h.0 ∙ is) h.1

  -- and so is what a record extends
  pub record_base : (a b : TypeId) → is_record (row_of rows a) ≡ true → comes_to rows a b ≡ true → is_record (row_of rows b) ≡ true
  record_base a b is e = let r = bases_of rows (length rows) a b e in below r.bases a b is r.are

  fielded_bases : (bs : List TypeId) (a b : TypeId) → has_fields (row_of rows b) ≡ true → AreBases rows a bs b → has_fields (row_of rows a) ≡ true
  fielded_bases [] a b is h = ap (λ y. has_fields (row_of rows y)) h ∙ is
  fielded_bases (x ∷ bs) a b is h = based_fields (row_of rows a) x h.0

  -- an object of what extends a type with fields begins with one of that
  pub begins_object : (a b : TypeId) → has_fields (row_of rows b) ≡ true → comes_to rows a b ≡ true → (more : Shape Sort) × (object_shape rows a ≡ join (object_shape rows b) more)
  begins_object a b is e =
      let f = front rows typed.ranked a b is e in (shaped Plain f.more, ap (shaped Plain) f.is ∙ shaped_join Plain (contents rows b) f.more)

  pub object_made : (m : Made) (t : TypeId) → comes_to rows (id_of_made m.type) t ≡ true → has_fields (row_of rows t) ≡ true → made_shape rows m ≡ object_shape rows (id_of_made m.type)
  object_made m t e is =
      let d = id_of_made m.type in
      let r = bases_of rows (length rows) d t e in
      closed_made rows m (row_of rows d) (fields_closed (row_of rows d) (fielded_bases r.bases d t is r.are))

  -- and begins with it
  pub begins_with : (a b : TypeId) → is_record (row_of rows b) ≡ true → comes_to rows a b ≡ true → (more : Shape Sort) × (object_shape rows a ≡ join (variable_shape rows b) more)
  begins_with a b is e =
      let f = front rows typed.ranked a b (record_fields (row_of rows b) is) e in (
        shaped Plain f.more,
        ap (shaped Plain) f.is ∙ shaped_join Plain (contents rows b) f.more
            ∙ ap (λ s. join s (shaped Plain f.more)) (sym (own_contents rows b (record_no_object (row_of rows b) is))),
      )

  -- a whole variable of an extension begins with one of the type
  pub whole_begins : (a b : TypeId) → is_whole (row_of rows b) ≡ true → comes_to rows a b ≡ true → (more : Shape Sort) × (variable_shape rows a ≡ join (variable_shape rows b) more)
  whole_begins a b whole e = by (is_record (row_of rows b)) refl
    where
      by : (x : Bool) → is_record (row_of rows b) ≡ x → (more : Shape Sort) × (variable_shape rows a ≡ join (variable_shape rows b) more)
      by true is =
          let r = begins_with a b is e in
          (r.0, own_contents rows a (record_no_object (row_of rows a) (record_extension a b is e)) ∙ r.1)
      by false is =
          let same = no_extension a b (whole_or (row_of rows b) whole is) e in
          (Nothing, ap (variable_shape rows) same ∙ sym (whole_ends rows typed.ranked b whole))

  -- the shape of what is made as an extension of a record, as an array, and as an open array
  module _ (m : Made) (t : TypeId) (e : comes_to rows (id_of_made m.type) t ≡ true) where
    not_open : (o : Option TypeRow) → is_record o ≡ true → is_open o ≡ false
    not_open o is = let r = record_is o is in ap is_open r.2

    pub record_made : is_record (row_of rows t) ≡ true → made_shape rows m ≡ object_shape rows (id_of_made m.type)
    record_made is = closed_made rows m (row_of rows (id_of_made m.type)) (not_open (row_of rows (id_of_made m.type)) (record_extension (id_of_made m.type) t is e))

    whole_closed : (o : Option TypeRow) → is_whole o ≡ true → is_open o ≡ false
    whole_closed None h = refl
    whole_closed (Some (row.Basic b)) h = refl
    whole_closed (Some (row.Array n x)) h = refl
    whole_closed (Some (row.Open x)) h = absurd (cc)
    whole_closed (Some (row.Record base fields)) h = refl
    whole_closed (Some (row.Pointer to)) h = refl
    whole_closed (Some (row.Object base fields)) h = refl
    whole_closed (Some (row.Procedure formals r)) h = refl
    whole_closed (Some row.Any) h = refl

    pub array_made : is_whole (row_of rows t) ≡ true → is_record (row_of rows t) ≡ false → made_shape rows m ≡ variable_shape rows t
    array_made whole is =
        let same = no_extension (id_of_made m.type) t (whole_or (row_of rows t) whole is) e in
        closed_made rows m (row_of rows (id_of_made m.type)) (ap (λ y. is_open (row_of rows y)) same ∙ whole_closed (row_of rows t) whole)
        ∙ ap (object_shape rows) same ∙ sym (own_contents rows t (whole_no_object (row_of rows t) whole))

    pub rows_made : is_open (row_of rows t) ≡ true → id_of_made m.type ≡ t
    rows_made is = no_extension (id_of_made m.type) t (open_no_fields (row_of rows t) is) e
