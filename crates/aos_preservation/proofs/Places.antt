-- What designators find in a world: places of variables of their types, and of rows, and what parts these have.
use Rattle.std.proofs.Common.{◌≡◌, ℕ, suc, ◌+◌, ◌<◌, Bool, true, false, List, [], ◌∷◌, ◌++◌, length, map, Some, if◌then◌else◌, refl, sym, ap, ◌∙◌, subst, arith, length-append}
use Rattle.std.specs.Prelude.{All, option_and_then, pos, slice_get}
use Rattle.std.specs.Option.{unwrap_or}
use Rattle.std.proofs.lemmas.Bool.{false≢true}
use Rattle.std.proofs.lemmas.List.{map-append}
use Rattle.std.proofs.lemmas.List.Elements.{All-append}
use Rattle.aos_base.specs.declared.root.Root.TheVariants.{Object as ObjectRoot}
use Rattle.aos_base.specs.Rooted.{Made}
use Rattle.aos_types.specs.declared.row.TypeId.{TypeId}
use Rattle.aos_types.specs.declared.row.TypeRow.TheVariants as row
use Rattle.aos_types.specs.Content.{EachSort}
use Rattle.aos_types.specs.Extension.{comes_to}
use Rattle.aos_types.specs.Shape.{Shape, One, Nothing, inside, join, repeated}
use Rattle.aos_types.specs.Table.{is_object, is_open, is_record, row_of}
use Rattle.aos_types.specs.World.{World, shape_at}
use Rattle.aos_typed.specs.declared.tree.TType.{TType}
use Rattle.aos_typed.specs.declared.tree.TType.TheVariants as type
use Rattle.aos_typed.specs.Numbers.{id_of, id_of_made}
use Rattle.aos_typed.specs.Open.{open_element}
use Rattle.aos_typed.specs.Program.{Program}
use Rattle.aos_typed.specs.Sort.{Sort, Plain, Variable, Alias, Elements, object_shape, variable_shape}
use Rattle.aos_typed.specs.Location.{Location}
use Rattle.aos_typed.specs.Typing.{Is, IsPlain, Names, nested}
use Rattle.aos_typed.specs.Value.{Value, Int, Flag, Char, Set, Object, Callable, Place}
use Rattle.aos_typed.specs.WellTyped.{IsArrayOf, IsLength, field_type, is_whole}
use Rattle.aos_typed.specs.Meaning.{Found, field_of, has_type, part_of, place_in, text_length}
use Rattle.aos_typed.specs.Source.{made_shape}
use Rattle.aos_sim.proofs.Designators.{HoldsType, RowsHold, holds_exactly, holds_record, names_hold, nested_shape, record_whole, rows_hold, variable_holds}
use Rattle.aos_sim.proofs.Does.{HasRoom, HasText, HasTypes, alias_sort, characters}
use Rattle.aos_sim.proofs.Extended.{array_made, begins_object, field_part, object_fields, object_made, open_made, record_extension, record_made, record_no_object}
use Rattle.aos_sim.proofs.Objects.{location_of}
use Rattle.aos_sim.proofs.Parts.{each_join, each_nested, each_repeated, each_rest, element_part, object_plain, own_contents, shape_on, variable_plain, whole_ends}
use Rattle.aos_sim.proofs.References.{comes_same}
use Rattle.aos_sim.proofs.Variables.{basic_is_one}

module _ (p : Program) (w : World Sort) where
  -- a variable of this type is there; where it names the type of a record, that extends this one
  pub record IsFound (named : Type 0) (t : TType) (s : Location) : Type 0 where
    pub shape : Shape Sort
    pub there : shape_at w s.root s.path ≡ Some shape
    pub holds : HoldsType p (id_of t) shape
    pub plain : EachSort IsPlain shape
    pub names : named → Names p w (id_of t) s

  -- the fields of a record or an object of this type are there
  pub record HasFields (t : TypeId) (s : Location) : Type 0 where
    pub shape : Shape Sort
    pub there : shape_at w s.root s.path ≡ Some shape
    pub more : Shape Sort
    pub begins : shape ≡ join (object_shape p.types t) more

  -- rows of these lengths are there, with elements of this type
  pub record AreRowsAt (ns : List ℕ) (t : TType) (s : Location) : Type 0 where
    pub shape : Shape Sort
    pub there : shape_at w s.root s.path ≡ Some shape
    pub holds : RowsHold p ns (id_of t) shape
    pub plain : EachSort IsPlain shape

  -- they have so many dimensions; where they are bounded so, their lengths are those of open arrays
  pub record AreFound (bounded : Type 0) (n : ℕ) (t : TType) (x : Found) : Type 0 where
    pub lengths : List ℕ
    pub are : x.lengths ≡ map (λ n. Int (pos n)) lengths
    pub many : length lengths ≡ n
    pub at : AreRowsAt lengths t x.place
    pub bound : bounded → All IsLength lengths

  -- a part of what stands at a place
  pub part_at : (s : Location) (whole inner : Shape Sort) (k : ℕ) → shape_at w s.root s.path ≡ Some whole → inside (k ∷ []) whole ≡ Some inner → shape_at w s.root (s.path ++ k ∷ []) ≡ Some inner
  part_at s whole inner k there is = shape_on w s.root s.path whole there (k ∷ []) ∙ is

  module _ (typed : HasTypes p) where
    -- a variable of just this type
    pub exact_found : (named : Type 0) (t : TType) (s : Location) → shape_at w s.root s.path ≡ Some (variable_shape p.types (id_of t)) → (named → ⊥) → IsFound named t s
    exact_found named t s there never =
        record {
          shape = variable_shape p.types (id_of t);
          there = there;
          holds = variable_holds p typed (id_of t);
          plain = variable_plain p.types (id_of t);
          names = λ n. absurd (never n);
        }

    -- a place that names the type of its record
    pub names_found : (named : Type 0) (t : TType) (s : Location) → is_record (row_of p.types (id_of t)) ≡ true → Names p w (id_of t) s → IsFound named t s
    names_found named t s is n =
        record {
          shape = join (object_shape p.types (id_of_made s.type)) n.more;
          there = n.there;
          holds = names_hold p typed (id_of t) w s is n;
          plain = each_join IsPlain (object_shape p.types (id_of_made s.type)) n.more (object_plain p.types (id_of_made s.type)) n.plain;
          names = λ h. n;
        }

    -- what a parameter stands for
    alias_by : (t : TType) (b : Bool) → is_record (row_of p.types (id_of t)) ≡ b → (v : Value) → Is p w (if b then Variable (id_of t) else Alias (id_of t)) v → IsFound (is_record (row_of p.types (id_of t)) ≡ true) t (place_in v)
    alias_by t true is (Place s) h = names_found (is_record (row_of p.types (id_of t)) ≡ true) t s is h
    alias_by t false isnt (Place s) h = exact_found (is_record (row_of p.types (id_of t)) ≡ true) t s h (λ is. false≢true (sym isnt ∙ is))
    alias_by t true is (Int z) h = absurd h
    alias_by t true is (Flag b) h = absurd h
    alias_by t true is (Char c) h = absurd h
    alias_by t true is (Set e) h = absurd h
    alias_by t true is (Object o) h = absurd h
    alias_by t true is (Callable q o) h = absurd h
    alias_by t false is (Int z) h = absurd h
    alias_by t false is (Flag b) h = absurd h
    alias_by t false is (Char c) h = absurd h
    alias_by t false is (Set e) h = absurd h
    alias_by t false is (Object o) h = absurd h
    alias_by t false is (Callable q o) h = absurd h

    pub alias_found : (t : TType) (v : Value) → Is p w (alias_sort p.types (id_of t)) v → IsFound (is_record (row_of p.types (id_of t)) ≡ true) t (place_in v)
    alias_found t v h = alias_by t (is_record (row_of p.types (id_of t))) refl v h

    -- a record has its fields
    pub fields_found : (named : Type 0) (t : TType) (s : Location) → is_record (row_of p.types (id_of t)) ≡ true → IsFound named t s → HasFields (id_of t) s
    fields_found named t s is found =
        let holds = holds_record p typed (id_of t) found.shape is found.holds in
        let same = own_contents p.types (id_of t) (record_no_object (row_of p.types (id_of t)) is) in
        record { shape = found.shape; there = found.there; more = holds.0; begins = holds.1 ∙ ap (λ z. join z holds.0) same }

    pub field_found : (t u : TType) (k : ℕ) (s : Location) → HasFields (id_of t) s → field_type p.types (id_of t) k ≡ Some (id_of u) → IsFound ⊥ u (field_of p.types (id_of t) k s)
    field_found t u k s has of =
        let is = ap (inside (k ∷ [])) has.begins ∙ field_part p typed (id_of t) (id_of u) k of has.more in
        exact_found ⊥ u (field_of p.types (id_of t) k s) (part_at s has.shape (variable_shape p.types (id_of u)) k has.there is) (λ n. n)

    -- an array has its elements
    pub element_found : (named : Type 0) (t u : TType) (n : ℕ) (s : Location) → row_of p.types (id_of t) ≡ Some (row.Array n (id_of u)) → IsFound named t s → (j : ℕ) → j < n → IsFound ⊥ u (part_of j s)
    element_found named t u n s array found j less =
        let whole = variable_shape p.types (id_of t) in
        let exact = holds_exactly p typed (id_of t) found.shape (ap is_record array) found.holds in
        exact_found ⊥ u (part_of j s) (part_at s whole (variable_shape p.types (id_of u)) j (found.there ∙ ap (λ z. Some z) exact) (element_part p.types typed.ranked (id_of t) (id_of u) n array j less)) (λ n. n)

    -- a record gets the name of its type
    pub typed_found : (named : Type 0) (t : ℕ) (s : Location) → is_record (row_of p.types (id_of (type.Named t))) ≡ true → IsFound named (type.Named t) s → IsFound (is_record (row_of p.types (id_of (type.Named t))) ≡ true) (type.Named t) (record s { type = suc t })
    typed_found named t s is found =
        let id = id_of (type.Named t) in
        let holds = holds_record p typed id found.shape is found.holds in
        let same = own_contents p.types id (record_no_object (row_of p.types id) is) in
        let names : Names p w id (record s { type = suc t }) = record {
          extends = comes_same p.types id;
          more = holds.0;
          plain = each_rest IsPlain (variable_shape p.types id) holds.0 (subst (EachSort IsPlain) holds.1 found.plain);
          there = found.there ∙ ap (λ z. Some z) (holds.1 ∙ ap (λ z. join z holds.0) same);
        } in
        record { shape = found.shape; there = found.there; holds = found.holds; plain = found.plain; names = λ n. names }

    -- and is known to be of another where its own type extends that
    pub guarded_found : (named : Type 0) (u : TType) (t : ℕ) (s : Location) → named → is_record (row_of p.types (id_of (type.Named t))) ≡ true → has_type p.types s t ≡ true → IsFound named u s → IsFound (is_record (row_of p.types (id_of (type.Named t))) ≡ true) (type.Named t) s
    guarded_found named u t s name is extends found =
        let n = found.names name in
        names_found (is_record (row_of p.types (id_of (type.Named t))) ≡ true) (type.Named t) s is (record { extends = extends; more = n.more; plain = n.plain; there = n.there })

    -- Rows.

    -- an array of a type is rows
    pub array_rows : (named : Type 0) (u t : TType) (ns : List ℕ) (s : Location) → IsArrayOf p.types ns (id_of u) (id_of t) → IsFound named u s → AreRowsAt ns t s
    array_rows named u t ns s of found = record { shape = found.shape; there = found.there; holds = with_shape ns of found.shape found.holds; plain = found.plain }
      where
        with_shape : (ns : List ℕ) → IsArrayOf p.types ns (id_of u) (id_of t) → (m : Shape Sort) → HoldsType p (id_of u) m → RowsHold p ns (id_of t) m
        with_shape [] of m h = subst (λ v. HoldsType p v m) of h
        with_shape (n ∷ ns) of m h = holds_exactly p typed (id_of u) m (ap is_record of.1) h ∙ nested_shape p.types typed.ranked (n ∷ ns) (id_of u) (id_of t) of

    -- and so are characters
    pub text_rows : (n : ℕ) (s : Location) → shape_at w s.root s.path ≡ Some (characters n) → AreRowsAt (n ∷ []) type.Char s
    text_rows n s there =
        record {
          shape = characters n;
          there = there;
          holds = ap (repeated n) (sym (basic_is_one p typed.predeclared type.Char refl));
          plain = each_repeated IsPlain n (One (Plain (id_of type.Char))) tt;
        }

    -- rows whose elements are of just this type
    pub nested_rows : (ns : List ℕ) (t : TType) (s : Location) → shape_at w s.root s.path ≡ Some (nested ns (variable_shape p.types (id_of t))) → AreRowsAt ns t s
    nested_rows ns t s there =
        record {
          shape = nested ns (variable_shape p.types (id_of t));
          there = there;
          holds = rows_hold p typed ns (id_of t);
          plain = each_nested IsPlain ns (variable_shape p.types (id_of t)) (variable_plain p.types (id_of t));
        }

    nested_more : (ls ns : List ℕ) (m : Shape Sort) → nested ls (nested ns m) ≡ nested (ls ++ ns) m
    nested_more [] ns m = refl
    nested_more (l ∷ ls) ns m = ap (repeated l) (nested_more ls ns m)

    -- rows of arrays have these dimensions too
    longer_rows : (ls ns : List ℕ) (u t : TType) → IsArrayOf p.types ns (id_of u) (id_of t) → (m : Shape Sort) → RowsHold p ls (id_of u) m → RowsHold p (ls ++ ns) (id_of t) m
    longer_rows [] [] u t of m h = subst (λ v. HoldsType p v m) of h
    longer_rows [] (n ∷ ns) u t of m h = holds_exactly p typed (id_of u) m (ap is_record of.1) h ∙ nested_shape p.types typed.ranked (n ∷ ns) (id_of u) (id_of t) of
    longer_rows (l ∷ ls) ns u t of m h =
        h ∙ ap (nested (l ∷ ls)) (nested_shape p.types typed.ranked ns (id_of u) (id_of t) of) ∙ nested_more (l ∷ ls) ns (variable_shape p.types (id_of t))

    pub longer_found : (bounded more : Type 0) (n : ℕ) (u t : TType) (ns : List ℕ) (x : Found) → (more → All IsLength ns) → IsArrayOf p.types ns (id_of u) (id_of t) → AreFound bounded n u x → AreFound (bounded × more) (n + length ns) t (record { place = x.place; lengths = x.lengths ++ map (λ n. Int (pos n)) ns })
    longer_found bounded more n u t ns x bound of is =
        record {
          lengths = is.lengths ++ ns;
          are = ap (λ l. l ++ map (λ (n : ℕ). Int (pos n)) ns) is.are ∙ sym (map-append (λ n. Int (pos n)) is.lengths ns);
          many = length-append is.lengths ns ∙ ap (λ j. j + length ns) is.many;
          at = record { shape = is.at.shape; there = is.at.there; holds = longer_rows is.lengths ns u t of is.at.shape is.at.holds; plain = is.at.plain };
          bound = λ b. All-append IsLength is.lengths ns (is.bound b.0) (bound b.1);
        }

    -- what an open array parameter stands for
    pub elements_found : (ns : List ℕ) (of : TypeId) (t : TType) → of ≡ id_of t → (v : Value) → Is p w (Elements of ns) v → AreRowsAt ns t (place_in v)
    elements_found ns of t e (Place s) h = nested_rows ns t s (h ∙ ap (λ u. Some (nested ns (variable_shape p.types u))) e)
    elements_found ns of t e (Int z) h = absurd h
    elements_found ns of t e (Flag b) h = absurd h
    elements_found ns of t e (Char c) h = absurd h
    elements_found ns of t e (Set x) h = absurd h
    elements_found ns of t e (Object o) h = absurd h
    elements_found ns of t e (Callable q o) h = absurd h

    -- what is behind all dimensions
    last_found : (t : TType) (s : Location) → AreRowsAt [] t s → IsFound ⊥ t s
    last_found t s at = record { shape = at.shape; there = at.there; holds = at.holds; plain = at.plain; names = λ n. absurd n }

    pub none_found : (bounded : Type 0) (t : TType) (x : Found) → AreFound bounded 0 t x → IsFound ⊥ t x.place
    none_found bounded t x f = by f.lengths f.many f.at
      where
        by : (ls : List ℕ) → length ls ≡ 0 → AreRowsAt ls t x.place → IsFound ⊥ t x.place
        by (l ∷ ls) n at = absurd (omega (arith, n))
        by [] n at = last_found t x.place at

    -- What an object holds that is made so: its number is o.
    module _ (o : ℕ) (m : Made) (shape : w.shape (ObjectRoot o) ≡ Some (made_shape p.types m)) where
      -- a record or an array that a pointer leads to
      module _ (t : TType) (extends : comes_to p.types (id_of_made m.type) (id_of t) ≡ true) (whole : is_whole (row_of p.types (id_of t)) ≡ true) where
        record_names : is_record (row_of p.types (id_of t)) ≡ true → Names p w (id_of t) (location_of o m)
        record_names is =
            let d = id_of_made m.type in
            let dynamic = record_extension p typed d (id_of t) is extends in
            let same = own_contents p.types d (record_no_object (row_of p.types d) dynamic) in
            record {
              extends = extends;
              more = Nothing;
              plain = tt;
              there = ap (option_and_then (inside [])) shape
                  ∙ ap (λ s. Some s) (record_made p typed m (id_of t) extends is ∙ sym same ∙ sym (whole_ends p.types typed.ranked d (record_whole (row_of p.types d) dynamic)) ∙ ap (λ s. join s Nothing) same);
            }

        pub pointed_found : IsFound (is_record (row_of p.types (id_of t)) ≡ true) t (location_of o m)
        pointed_found = by (is_record (row_of p.types (id_of t))) refl
          where
            by : (b : Bool) → is_record (row_of p.types (id_of t)) ≡ b → IsFound (is_record (row_of p.types (id_of t)) ≡ true) t (location_of o m)
            by true is = names_found (is_record (row_of p.types (id_of t)) ≡ true) t (location_of o m) is (record_names is)
            by false isnt =
                exact_found (is_record (row_of p.types (id_of t)) ≡ true) t (location_of o m) (ap (option_and_then (inside [])) shape ∙ ap (λ s. Some s) (array_made p typed m (id_of t) extends whole isnt))
                (λ is. false≢true (sym isnt ∙ is))

      -- the fields of an object
      pub object_found : (t : TypeId) → comes_to p.types (id_of_made m.type) t ≡ true → is_object (row_of p.types t) ≡ true → HasFields t (location_of o m)
      object_found t extends is =
          let has = object_fields (row_of p.types t) is in
          let begins = begins_object p typed (id_of_made m.type) t has extends in
          record {
            shape = object_shape p.types (id_of_made m.type);
            there = ap (option_and_then (inside [])) shape ∙ ap (λ s. Some s) (object_made p typed m t extends has);
            more = begins.0;
            begins = begins.1;
          }

      -- the elements of an open array
      pub opened_found : (u : TypeId) (t : TType) → id_of_made m.type ≡ u → is_open (row_of p.types u) ≡ true → open_element p.types u ≡ id_of t → AreRowsAt m.lengths t (record (location_of o m) { type = 0 })
      opened_found u t same opens element =
          let is : made_shape p.types m ≡ nested m.lengths (variable_shape p.types (id_of t)) = open_made p.types m (row_of p.types (id_of_made m.type)) (ap (λ y. is_open (row_of p.types y)) same ∙ opens)
          ∙ ap (λ y. nested m.lengths (variable_shape p.types (open_element p.types y))) same ∙ ap (λ y. nested m.lengths (variable_shape p.types y)) element in
          nested_rows m.lengths t (record (location_of o m) { type = 0 }) (ap (option_and_then (inside [])) shape ∙ ap (λ z. Some z) is)

    -- Texts are rows of characters.

    one_row : (n : ℕ) (x : Found) → AreRowsAt (n ∷ []) type.Char x.place → shape_at w x.place.root x.place.path ≡ Some (characters n)
    one_row n x at = at.there ∙ ap (λ z. Some z) at.holds ∙ ap (λ z. Some (repeated n z)) (basic_is_one p typed.predeclared type.Char refl)

    text_is : (x : Found) (n : ℕ) → x.lengths ≡ map (λ n. Int (pos n)) (n ∷ []) → text_length x ≡ Int (pos n)
    text_is x n are = ap (λ vs. unwrap_or (slice_get vs 0) (Int (pos 0))) are

    pub text_found : (bounded : Type 0) (x : Found) → AreFound bounded 1 type.Char x → HasText w x.place (text_length x)
    text_found bounded x f = by f.lengths f.are f.many f.at
      where
        by : (ls : List ℕ) → x.lengths ≡ map (λ n. Int (pos n)) ls → length ls ≡ 1 → AreRowsAt ls type.Char x.place → HasText w x.place (text_length x)
        by [] are n at = absurd (omega (arith, n))
        by (l ∷ m ∷ ls) are n at = absurd (omega (arith, n))
        by (l ∷ []) are n at = (l, text_is x l are, one_row l x at)

    pub room_found : (bounded : Type 0) (x : Found) → bounded → AreFound bounded 1 type.Char x → HasRoom w x.place (text_length x)
    room_found bounded x b f = by f.lengths f.are f.many f.at (f.bound b)
      where
        by : (ls : List ℕ) → x.lengths ≡ map (λ n. Int (pos n)) ls → length ls ≡ 1 → AreRowsAt ls type.Char x.place → All IsLength ls → HasRoom w x.place (text_length x)
        by [] are n at long = absurd (omega (arith, n))
        by (l ∷ m ∷ ls) are n at long = absurd (omega (arith, n))
        by (l ∷ []) are n at long = (l, text_is x l are, one_row l x at, (let h = (long 0 l (omega arith)).0 in omega (arith, h)))
