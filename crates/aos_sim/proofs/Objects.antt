-- What objects are asked for: the record or the array that one is, its lengths, and whether its type extends another; and the same of
-- records whose place names their type.
use Rattle.std.proofs.Common.{◌≡◌, ℕ, suc, pos, ◌+◌, ◌<◌, ◌^◌, Bool, true, false, List, [], ◌∷◌, ◌++◌, length, map, Option, Some, None, if◌then◌else◌, refl, sym, ap, ◌∙◌, subst, arith, length-append}
use Rattle.std.proofs.Common.{◌⊎◌, inl, inr}
use Rattle.std.specs.Prelude.{All, ◌==◌, nat_eq, slice_get, option_and_then}
use Rattle.std.specs.Option.{unwrap_or}
use Rattle.std.proofs.lemmas.Bool.{false≢true, lt-ltb, eq-eqb}
use Rattle.aos_base.specs.declared.root.Root.TheVariants.{Object as ObjectRoot}
use Rattle.aos_base.specs.Operators.{flag}
use Rattle.aos_base.specs.Question.{Val, Traps, bind}
use Rattle.aos_base.specs.Rooted.{Made}
use Rattle.aos_types.specs.declared.row.TypeId.{TypeId}
use Rattle.aos_types.specs.declared.row.TypeRow.{TypeRow}
use Rattle.aos_types.specs.declared.row.TypeRow.TheVariants as row
use Rattle.aos_types.specs.Extension.{comes_to}
use Rattle.aos_types.specs.Shape.{Nothing, size, join, inside, offset, number_of as number_of_shape}
use Rattle.aos_types.specs.Table.{row_of, is_open, is_record, is_object}
use Rattle.aos_types.proofs.Tables.{comes_on}
use Rattle.aos_types.specs.World.{World, shape_at, cell_at}
use Rattle.aos_typed.specs.declared.tree.TType.{TType}
use Rattle.aos_typed.specs.declared.tree.TType.TheVariants as type
use Rattle.aos_typed.specs.Numbers.{id_of, id_of_made}
use Rattle.aos_typed.specs.Open.{open_dimensions, open_element}
use Rattle.aos_typed.specs.Program.{Procedure, Program}
use Rattle.aos_typed.specs.Sort.{Sort, Plain, variable_shape, object_shape}
use Rattle.aos_typed.specs.Source.{object_place, made_shape}
use Rattle.aos_typed.specs.Location.{Location, OnHeap}
use Rattle.aos_types.specs.Content.{EachSort}
use Rattle.aos_typed.specs.Typing.{Is, IsPlain, IsReference, Extends, HasLengths, Names, OnPlace, nested}
use Rattle.aos_typed.specs.Value.{Value, Int, Flag, Object, is_true}
use Rattle.aos_typed.specs.Meaning.{Here, Doing, Found, found, object_in, dereferenced, sizes_from, spread, is_instance, guarded, has_type, record_guarded}
use Rattle.aos_typed.specs.Meaning as source
use Rattle.aos_typed.specs.WellTyped.{target_in, target, is_reference, is_whole, IsLength}
use Rattle.aos_code.specs.declared.instr.Cell.TheVariants as cell
use Rattle.aos_code.specs.declared.instr.Instr.{Instr}
use Rattle.aos_code.specs.declared.instr.Instr.TheVariants as i
use Rattle.aos_code.specs.Silent.{Stack, gives_place, Goes, Stops, Fails}
use Rattle.aos_sim.specs.Cells.{place_in, cell_of}
use Rattle.aos_sim.specs.Code.{operands_code}
use Rattle.aos_sim.proofs.Runs.{Run, Onward, Tables, on_run, runs, at_cell, at_elements, asks_sizes, if_as_many, if_passed}
use Rattle.aos_sim.proofs.Types.{IsValueOf, number_cell}
use Rattle.aos_sim.proofs.Parts.{each_nested, each_rest, variable_plain, whole_ends, own_contents}
use Rattle.aos_sim.proofs.Extended.{object_fields, begins_object, object_made, record_no_object, record_extension, record_made, array_made, rows_made, open_made}
use Rattle.aos_sim.proofs.Does.{HasTypes, HasShapes, IsObject, IsReached, Does, does_bind, object_grows, location_cell}
use Rattle.aos_sim.proofs.References.{IsMadeAs, nil_or, made_reference, some_object, of_target, to_target, to_any, comes_same}
use Rattle.aos_sim.proofs.Evaluates.{OfSort, ComesTo, OnStack, Pushed, Yields, Evaluates, pushed, piece_does, pieces_do, sorts_stay}
use Rattle.aos_sim.proofs.Designators.{IsFound, HasFields, AreRowsAt, Named, Finds, WithRows, FindsRows, record_whole, variable_holds, holds_record, rows_hold, names_hold, names_found, rows_grow}

-- what an object is made as
abbrev pub location_of : ℕ → Made → Location
location_of o m = record { root = ObjectRoot o; path = []; type = m.type; of = OnHeap }

pub some_same : {A : Type 0} (x y : A) → Some x ≡ Some y → x ≡ y
some_same x y e = cc

-- an open array has its lengths
pub open_lengths : (program : Program) (m : Made) (o : Option TypeRow) → is_open o ≡ true → HasLengths program o m → (length m.lengths ≡ open_dimensions program.types (id_of_made m.type)) × All IsLength m.lengths
open_lengths program m None e h = absurd (cc)
open_lengths program m (Some (row.Basic b)) e h = absurd (cc)
open_lengths program m (Some (row.Array n of)) e h = absurd (cc)
open_lengths program m (Some (row.Open of)) e h = h
open_lengths program m (Some (row.Record base fields)) e h = absurd (cc)
open_lengths program m (Some (row.Pointer to)) e h = absurd (cc)
open_lengths program m (Some (row.Object base fields)) e h = absurd (cc)
open_lengths program m (Some (row.Procedure formals r)) e h = absurd (cc)
open_lengths program m (Some row.Any) e h = absurd (cc)

-- an object type is what its values are made as
pub object_target : (rows : List TypeRow) (t : TypeId) (o : Option TypeRow) → is_object o ≡ true → target_in rows t o ≡ Some t
object_target rows t None e = absurd (cc)
object_target rows t (Some (row.Basic b)) e = absurd (cc)
object_target rows t (Some (row.Array n of)) e = absurd (cc)
object_target rows t (Some (row.Open of)) e = absurd (cc)
object_target rows t (Some (row.Record base fields)) e = absurd (cc)
object_target rows t (Some (row.Pointer to)) e = absurd (cc)
object_target rows t (Some (row.Object base fields)) e = refl
object_target rows t (Some (row.Procedure formals r)) e = absurd (cc)
object_target rows t (Some row.Any) e = absurd (cc)

module _ (program : Program) (own : Option Procedure) (tables : Tables) (number : ℕ) (here : Here) (code : List Instr) where
  abbrev onward : List Instr → Onward
  onward = runs tables number here code

  abbrev rows : List TypeRow
  rows = program.types

  -- an object of this number, which isn't NIL
  made_so : (w : World Sort) (o : ℕ) (m : Made) → w.made (suc o) ≡ Some m → IsObject w (Object (suc o)) m
  made_so w o m e = record { number = o; is = refl; made = e }

  -- the place of what it holds
  module _ (typed : HasTypes program) (w : World Sort) (o : ℕ) (m : Made) (t : TType) (extends : comes_to rows (id_of_made m.type) (id_of t) ≡ true) (whole : is_whole (row_of rows (id_of t)) ≡ true) (shape : w.shape (ObjectRoot o) ≡ Some (made_shape rows m)) (reached : IsReached w (location_of o m)) where
    object_names : is_record (row_of rows (id_of t)) ≡ true → Names program w (id_of t) (location_of o m)
    object_names is =
        let d = id_of_made m.type in
        let dynamic = record_extension program typed d (id_of t) is extends in
        let same = own_contents rows d (record_no_object (row_of rows d) dynamic) in
        record {
          extends = extends;
          more = Nothing;
          plain = tt;
          there = ap (option_and_then (inside [])) shape
              ∙ ap (λ s. Some s) (record_made program typed m (id_of t) extends is ∙ sym same ∙ sym (whole_ends rows typed.ranked d (record_whole (row_of rows d) dynamic)) ∙ ap (λ s. join s Nothing) same);
        }

    object_found : IsFound program (is_record (row_of rows (id_of t)) ≡ true) t w (location_of o m)
    object_found = by (is_record (row_of rows (id_of t))) refl
      where
        by : (b : Bool) → is_record (row_of rows (id_of t)) ≡ b → IsFound program (is_record (row_of rows (id_of t)) ≡ true) t w (location_of o m)
        by true is = names_found program own tables number here code typed (is_record (row_of rows (id_of t)) ≡ true) t w (location_of o m) is (object_names is) reached
        by false isnt =
            let there : shape_at w (ObjectRoot o) [] ≡ Some (variable_shape rows (id_of t)) = ap (option_and_then (inside [])) shape ∙ ap (λ s. Some s) (array_made program typed m (id_of t) extends whole isnt) in
            record {
              shape = variable_shape rows (id_of t);
              there = there;
              few = reached (variable_shape rows (id_of t)) there;
              holds = variable_holds program typed (id_of t);
              plain = variable_plain rows (id_of t);
              names = λ is. absurd (false≢true (sym isnt ∙ is));
            }

  -- what is so of the place of each object of a type is so of what is found behind a reference
  deref_goes : (P : World Sort → Location → Type 0) (u t : TType) → ((w : World Sort) (o : ℕ) (m : Made) → comes_to rows (id_of_made m.type) (id_of t) ≡ true → w.shape (ObjectRoot o) ≡ Some (made_shape rows m) → IsReached w (location_of o m) → P w (location_of o m)) → (xs : List Instr) (r : Doing Value) (at : ℕ) → target rows u ≡ Some (id_of t) → Yields program own tables number here code u xs r at → ComesTo program own tables number here code P place_in (xs ++ i.Deref 0 ∷ []) (bind r (λ v. dereferenced v)) at
  deref_goes P u t so xs r at to h w known rest k s =
      let x = i.Deref 0 in
      let p = at + length xs in
      let q = at + length (xs ++ x ∷ []) in
      let behind : p + 1 ≡ q = omega (arith, length-append xs (x ∷ [])) in
      let Q = OnStack tables number here code P place_in rest q k s in
      piece_does program own tables number here code (OfSort program own tables number here code u) cell_of Q (λ v. dereferenced v) xs (x ∷ []) r at rest k s h w known
      (λ w1 up v m is e. by p q behind w1 v m (nil_or program w1 (Extends program (id_of t)) v (of_target program w1 u (id_of t) v to is)) e)
    where
      Reached : ℕ → World Sort → Location → Run → Type 0
      Reached q = OnStack tables number here code P place_in rest q k s

      placed_so : (w2 : World Sort) (o : ℕ) (made : Made) (q p : ℕ) → p + 1 ≡ q → comes_to rows (id_of_made made.type) (id_of t) ≡ true → w2.shape (ObjectRoot o) ≡ Some (made_shape rows made) → (y : Value) → y ≡ object_place o (Some made) → OnPlace (IsReached w2) y → Reached q w2 (source.place_in y) (onward rest 0 (p + 1) k (at_cell 0 (cell_of w2 y) ∷ s))
      placed_so w2 o made q p behind ext shape y is reached =
          subst (λ z. OnPlace (IsReached w2) z → Reached q w2 (source.place_in z) (onward rest 0 (p + 1) k (at_cell 0 (cell_of w2 z) ∷ s))) (sym is)
          (λ on. record {
            is = so w2 o made ext shape on;
            run = ap (λ n. onward rest 0 n k (cell.Place (ObjectRoot o) 0 made.type ∷ s)) behind
                ∙ ap (λ n. onward rest 0 q k (cell.Place (ObjectRoot o) n made.type ∷ s)) (sym (ap (number_of_shape (offset [])) shape));
          }) reached

      by : (p q : ℕ) → p + 1 ≡ q → (w1 : World Sort) (v : Value) (m : Run) → (v ≡ Object 0) ⊎ IsMadeAs program w1 (Extends program (id_of t)) v → m ≡ onward (i.Deref 0 ∷ rest) 0 p k (cell_of w1 v ∷ s) → Does program here (Reached q) w1 m (dereferenced v)
      by p q behind w1 v m (inl nil) e =
          subst (λ z. m ≡ onward (i.Deref 0 ∷ rest) 0 p k (cell_of w1 z ∷ s) → Does program here (Reached q) w1 m (dereferenced z)) (sym nil) (λ f. (f, omega arith)) e
      by p q behind w1 v m (inr a) e =
          let o = a.object.number in
          let obj = made_so w1 o a.made a.object.made in
          subst (λ z. m ≡ onward (i.Deref 0 ∷ rest) 0 p k (cell_of w1 z ∷ s) → Does program here (Reached q) w1 m (dereferenced z)) (sym a.object.is)
          (λ f. (
            (λ c. onward rest 0 (p + 1) k (at_cell 0 c ∷ s)),
            f,
            (a.made, obj),
            λ w2 up y conforms.
                let c = conforms a.made (object_grows program here w1 w2 up (Object (suc o)) a.made obj) in
                placed_so w2 (suc o) a.made q p behind a.is c.1 y c.0 c.2,
          )) e

  pub deref_does : HasTypes program → (u t : TType) (xs : List Instr) (r : Doing Value) (at : ℕ) → target rows u ≡ Some (id_of t) → is_whole (row_of rows (id_of t)) ≡ true → Yields program own tables number here code u xs r at → Finds program own tables number here code (is_record (row_of rows (id_of t)) ≡ true) t (xs ++ i.Deref 0 ∷ []) (bind r (λ v. dereferenced v)) at
  deref_does typed u t xs r at to whole h =
      deref_goes (IsFound program (is_record (row_of rows (id_of t)) ≡ true) t) u t (λ w o m ext shape reached. object_found typed w o m t ext whole shape reached) xs r at to h

  -- the fields of an object
  pub object_does : HasTypes program → (t : TType) (xs : List Instr) (r : Doing Value) (at : ℕ) → is_object (row_of rows (id_of t)) ≡ true → Yields program own tables number here code t xs r at → ComesTo program own tables number here code (HasFields program (id_of t)) place_in (xs ++ i.Deref 0 ∷ []) (bind r (λ v. dereferenced v)) at
  object_does typed t xs r at is h = deref_goes (HasFields program (id_of t)) t t fields xs r at (object_target rows (id_of t) (row_of rows (id_of t)) is) h
    where
      fields : (w : World Sort) (o : ℕ) (m : Made) → comes_to rows (id_of_made m.type) (id_of t) ≡ true → w.shape (ObjectRoot o) ≡ Some (made_shape rows m) → IsReached w (location_of o m) → HasFields program (id_of t) w (location_of o m)
      fields w o m ext shape reached =
          let has = object_fields (row_of rows (id_of t)) is in
          let d = id_of_made m.type in
          let r = begins_object program typed d (id_of t) has ext in
          let there : shape_at w (ObjectRoot o) [] ≡ Some (object_shape rows d) = ap (option_and_then (inside [])) shape ∙ ap (λ s. Some s) (object_made program typed m (id_of t) ext has) in
          record { shape = object_shape rows d; there = there; few = reached (object_shape rows d) there; more = r.0; begins = r.1 }

  -- An open array that is an object

  -- its lengths from this dimension on, above what lies on the stack
  abbrev WithSizes : List ℕ → (Stack → Run) → Stack → World Sort → List Value → Run → Type 0
  WithSizes ns go st w vs m = (vs ≡ map (λ n. Int (pos n)) ns) × (m ≡ go (pushed (map (cell_of w) vs) st))

  sizes_do : (o : ℕ) (m : Made) (go : Stack → Run) (ns : List ℕ) (d : ℕ) → ((j : ℕ) → slice_get ns j ≡ slice_get m.lengths (d + j)) → d + length ns ≡ length m.lengths → (w : World Sort) → w.made (suc o) ≡ Some m → (st : Stack) → Does program here (WithSizes ns go st) w (asks_sizes (cell.Ref (suc o)) d (length ns) go st) (sizes_from (Object (suc o)) d (length ns))
  sizes_do o m go [] d all long w made st = (refl, refl)
  sizes_do o m go (n ∷ ns) d all long w made st = (
    (λ c. asks_sizes (cell.Ref (suc o)) (suc d) (length ns) go (c ∷ st)),
    refl,
    (m, made_so w o m made, omega (arith, long)),
    λ w1 up y conforms.
        let made1 = up.made (suc o) m made in
        let z : d + 0 ≡ d = omega arith in
        let get : slice_get m.lengths d ≡ Some n = ap (slice_get m.lengths) (sym z) ∙ sym (all 0) in
        let is : y ≡ Int (pos n) = conforms m (made_so w1 o m made1) ∙ ap (λ l. Int (pos (unwrap_or l 0))) get in
        does_bind program here (WithSizes ns go (cell_of w1 y ∷ st)) (WithSizes (n ∷ ns) go st) w1 (asks_sizes (cell.Ref (suc o)) (suc d) (length ns) go (cell_of w1 y ∷ st)) (sizes_from (Object (suc o)) (suc d) (length ns)) (λ vs. Val (y ∷ vs))
        (sizes_do o m go ns (suc d) (λ j. let f : d + suc j ≡ suc d + j = omega arith in all (suc j) ∙ ap (slice_get m.lengths) f) (omega (arith, long)) w1 made1 (cell_of w1 y ∷ st))
        (λ w2 up' vs m' h. (
          (λ j. is j ∷ h.0 j),
          h.1 ∙ ap (λ c. go (pushed (map (cell_of w2) vs) (c ∷ st))) (ap (cell_of w1) is ∙ sym (ap (cell_of w2) is)),
        )),
  )

  pub spread_does : HasTypes program → HasShapes program tables → (v t : TType) (u : TypeId) (j : ℕ) (xs : List Instr) (r : Doing Value) (at : ℕ) → target rows v ≡ Some u → is_open (row_of rows u) ≡ true → j ≡ open_dimensions rows u → open_element rows u ≡ id_of t → Yields program own tables number here code v xs r at → FindsRows program own tables number here code (Unit {0}) j t (xs ++ i.OpenRef j ∷ []) (bind r (λ x. spread x j)) at
  spread_does typed shaped v t u j xs r at to opens many element h w known rest k s =
      let x = i.OpenRef j in
      let p = at + length xs in
      let q = at + length (xs ++ x ∷ []) in
      let behind : p + 1 ≡ q = omega (arith, length-append xs (x ∷ [])) in
      piece_does program own tables number here code (OfSort program own tables number here code v) cell_of (Reached q) (λ y. spread y j) xs (x ∷ []) r at rest k s h w known
      (λ w1 up y m is e. by p q behind w1 y m (nil_or program w1 (Extends program u) y (of_target program w1 v u y to is)) e)
    where
      Reached : ℕ → World Sort → Found → Run → Type 0
      Reached q = WithRows program own tables number here code (Unit {0}) j t rest q k s

      -- the place of its elements
      elements_at : (w2 : World Sort) (o : ℕ) (made : Made) → id_of_made made.type ≡ u → w2.shape (ObjectRoot o) ≡ Some (made_shape rows made) → IsReached w2 (location_of o made) → AreRowsAt program made.lengths t w2 (record (location_of o made) { type = 0 })
      elements_at w2 o made same shape reached =
          let s = nested made.lengths (variable_shape rows (id_of t)) in
          let is : made_shape rows made ≡ s = open_made rows made (row_of rows (id_of_made made.type)) (ap (λ y. is_open (row_of rows y)) same ∙ opens)
          ∙ ap (λ y. nested made.lengths (variable_shape rows (open_element rows y))) same ∙ ap (λ y. nested made.lengths (variable_shape rows y)) element in
          let there : shape_at w2 (ObjectRoot o) [] ≡ Some s = ap (option_and_then (inside [])) shape ∙ ap (λ z. Some z) is in
          record { shape = s; there = there; few = reached s there; holds = rows_hold program typed made.lengths (id_of t); plain = each_nested IsPlain made.lengths (variable_shape rows (id_of t)) (variable_plain rows (id_of t)) }

      -- what follows the answer
      opened_so : (p q : ℕ) → p + 1 ≡ q → (w2 : World Sort) (o : ℕ) (made : Made) → w2.made (suc o) ≡ Some made → id_of_made made.type ≡ u → (length made.lengths ≡ j) → All IsLength made.lengths → w2.shape (ObjectRoot (suc o)) ≡ Some (made_shape rows made) → (y : Value) → y ≡ object_place (suc o) (Some made) → OnPlace (IsReached w2) y →
          Does program here (Reached q) w2 (if_as_many tables j (cell_of w2 y) (asks_sizes (cell.Ref (suc o)) 0 j (λ st. onward rest 0 (p + 1) k st) (at_elements (cell_of w2 y) ∷ s))) (bind (sizes_from (Object (suc o)) 0 j) (λ ns. found (record (source.place_in y) { type = 0 }) ns))
      opened_so p q behind w2 o made there same long lengths shape y is reached =
          subst (λ z. OnPlace (IsReached w2) z → Does program here (Reached q) w2 (if_as_many tables j (cell_of w2 z) (asks_sizes (cell.Ref (suc o)) 0 j (λ st. onward rest 0 (p + 1) k st) (at_elements (cell_of w2 z) ∷ s))) (bind (sizes_from (Object (suc o)) 0 j) (λ ns. found (record (source.place_in z) { type = 0 }) ns))) (sym is)
          (λ on.
          let at = elements_at w2 (suc o) made same shape on in
          let location : Location = record (location_of (suc o) made) { type = 0 } in
          let st : Stack = place_in w2 location ∷ s in
          let go : Stack → Run = λ st. onward rest 0 (p + 1) k st in
          let as_many : nat_eq j (tables.dimensions made.type) ≡ true = eq-eqb j (tables.dimensions made.type) (many ∙ sym (shaped.dimensions made.type ∙ ap (open_dimensions rows) same)) in
          subst (λ b. Does program here (Reached q) w2 (if b then asks_sizes (cell.Ref (suc o)) 0 j go st else Traps 16 0) (bind (sizes_from (Object (suc o)) 0 j) (λ ns. found location ns))) (sym as_many)
          (subst (λ n. Does program here (Reached q) w2 (asks_sizes (cell.Ref (suc o)) 0 n go st) (bind (sizes_from (Object (suc o)) 0 n) (λ ns. found location ns))) long
          (does_bind program here (WithSizes made.lengths go st) (Reached q) w2 (asks_sizes (cell.Ref (suc o)) 0 (length made.lengths) go st) (sizes_from (Object (suc o)) 0 (length made.lengths)) (λ ns. found location ns)
          (sizes_do o made go made.lengths 0 (λ i. let z : i ≡ 0 + i = omega arith in ap (slice_get made.lengths) z) (omega arith) w2 there st)
          (λ w3 up vs m h. record {
            is = record { lengths = made.lengths; are = h.0; many = long; at = rows_grow program w2 w3 up made.lengths t location at; bound = λ b. lengths };
            run = h.1 ∙ ap (λ n. onward rest 0 n k (pushed (map (cell_of w3) vs) st)) behind
                ∙ ap (λ c. onward rest 0 q k (pushed (map (cell_of w3) vs) (c ∷ s))) (location_cell w2 w3 up location at.shape at.there);
          })))) reached

      by : (p q : ℕ) → p + 1 ≡ q → (w1 : World Sort) (y : Value) (m : Run) → (y ≡ Object 0) ⊎ IsMadeAs program w1 (Extends program u) y → m ≡ onward (i.OpenRef j ∷ rest) 0 p k (cell_of w1 y ∷ s) → Does program here (Reached q) w1 m (spread y j)
      by p q behind w1 y m (inl nil) e =
          subst (λ z. m ≡ onward (i.OpenRef j ∷ rest) 0 p k (cell_of w1 z ∷ s) → Does program here (Reached q) w1 m (spread z j)) (sym nil) (λ f. (f, omega arith)) e
      by p q behind w1 y m (inr a) e =
          let o = a.object.number in
          let obj = made_so w1 o a.made a.object.made in
          let same = rows_made program typed a.made u a.is opens in
          let l = open_lengths program a.made (row_of rows (id_of_made a.made.type)) (ap (λ x. is_open (row_of rows x)) same ∙ opens) a.lengths in
          let long : length a.made.lengths ≡ j = l.0 ∙ ap (open_dimensions rows) same ∙ sym many in
          subst (λ z. m ≡ onward (i.OpenRef j ∷ rest) 0 p k (cell_of w1 z ∷ s) → Does program here (Reached q) w1 m (spread z j)) (sym a.object.is)
          (λ f. (
            (λ c. if_as_many tables j c (asks_sizes (cell.Ref (suc o)) 0 j (λ st. onward rest 0 (p + 1) k st) (at_elements c ∷ s))),
            f,
            (a.made, obj),
            λ w2 up x conforms.
                let made2 = up.made (suc o) a.made a.object.made in
                let c = conforms a.made (made_so w2 o a.made made2) in
                opened_so p q behind w2 o a.made made2 same long l.1 c.1 x c.0 c.2,
          )) e

  -- Tests of types

  -- IS of an object
  pub is_does : HasTypes program → HasShapes program tables → (u : TType) (t n : ℕ) (xs : List Instr) (r : Doing Value) (at : ℕ) → n ≡ suc t → is_reference rows u ≡ true → Yields program own tables number here code u xs r at → Evaluates program own tables number here code type.Boolean (xs ++ i.Is n ∷ []) (bind r (λ v. is_instance v t)) at
  is_does typed shaped u t n xs r at suc_is ref h w known rest k s =
      let x = i.Is n in
      let p = at + length xs in
      let q = at + length (xs ++ x ∷ []) in
      let behind : p + 1 ≡ q = omega (arith, length-append xs (x ∷ [])) in
      piece_does program own tables number here code (OfSort program own tables number here code u) cell_of (Reached q) (λ v. is_instance v t) xs (x ∷ []) r at rest k s h w known
      (λ w1 up v m is e. by p q behind w1 v m (nil_or program w1 (λ m. Unit {0}) v (some_object program w1 typed.predeclared u v ref is)) (e ∙ ap (λ j. onward (i.Is j ∷ rest) 0 p k (cell_of w1 v ∷ s)) suc_is))
    where
      Reached : ℕ → World Sort → Value → Run → Type 0
      Reached q = Pushed tables number here code type.Boolean rest q k s

      by : (p q : ℕ) → p + 1 ≡ q → (w1 : World Sort) (v : Value) (m : Run) → (v ≡ Object 0) ⊎ IsMadeAs program w1 (λ m. Unit {0}) v → m ≡ onward (i.Is (suc t) ∷ rest) 0 p k (cell_of w1 v ∷ s) → Does program here (Reached q) w1 m (is_instance v t)
      by p q behind w1 v m (inl nil) e =
          subst (λ z. m ≡ onward (i.Is (suc t) ∷ rest) 0 p k (cell_of w1 z ∷ s) → Does program here (Reached q) w1 m (is_instance z t)) (sym nil)
          (λ f. record { is = (false, refl); run = f ∙ ap (λ j. onward rest 0 j k (cell.Num (pos 0) ∷ s)) behind }) e
      by p q behind w1 v m (inr a) e =
          let o = a.object.number in
          let obj = made_so w1 o a.made a.object.made in
          subst (λ z. m ≡ onward (i.Is (suc t) ∷ rest) 0 p k (cell_of w1 z ∷ s) → Does program here (Reached q) w1 m (is_instance z t)) (sym a.object.is)
          (λ f. (
            (λ c. onward rest 0 (p + 1) k (c ∷ s)),
            f,
            (a.made, obj, t, refl),
            λ w2 up y conforms.
                let is = conforms a.made (object_grows program here w1 w2 up (Object (suc o)) a.made obj) in
                let flagged : IsValueOf type.Boolean y = (comes_to rows (id_of_made a.made.type) (id_of_made (suc t)), is) in
                record {
                  is = flagged;
                  run = ap (λ j. onward rest 0 j k (cell_of w2 y ∷ s)) behind ∙ ap (λ c. onward rest 0 q k (c ∷ s)) (number_cell w2 type.Boolean y flagged);
                },
          )) e

  -- a guard of an object
  pub guard_does : HasTypes program → HasShapes program tables → (u t : TType) (g n : ℕ) (xs : List Instr) (r : Doing Value) (at : ℕ) → n ≡ suc g → is_reference rows u ≡ true → ((t ≡ type.Any) ⊎ ((b : TypeId) × (target rows t ≡ Some b) × (comes_to rows (id_of_made (suc g)) b ≡ true))) → Yields program own tables number here code u xs r at → Yields program own tables number here code t (xs ++ i.Guard n ∷ []) (bind r (λ v. guarded v g)) at
  guard_does typed shaped u t g n xs r at suc_is ref gives h w known rest k s =
      let x = i.Guard n in
      let p = at + length xs in
      let q = at + length (xs ++ x ∷ []) in
      let behind : p + 1 ≡ q = omega (arith, length-append xs (x ∷ [])) in
      piece_does program own tables number here code (OfSort program own tables number here code u) cell_of (Reached q) (λ v. guarded v g) xs (x ∷ []) r at rest k s h w known
      (λ w1 up v m is e. by p q behind w1 v m (nil_or program w1 (λ m. Unit {0}) v (some_object program w1 typed.predeclared u v ref is)) (e ∙ ap (λ j. onward (i.Guard j ∷ rest) 0 p k (cell_of w1 v ∷ s)) suc_is))
    where
      Reached : ℕ → World Sort → Value → Run → Type 0
      Reached q = OnStack tables number here code (OfSort program own tables number here code t) cell_of rest q k s

      -- what has passed
      passed_is : (w2 : World Sort) (o : ℕ) (made : Made) → w2.made (suc o) ≡ Some made → HasLengths program (row_of rows (id_of_made made.type)) made → comes_to rows (id_of_made made.type) (id_of_made (suc g)) ≡ true → ((t ≡ type.Any) ⊎ ((b : TypeId) × (target rows t ≡ Some b) × (comes_to rows (id_of_made (suc g)) b ≡ true))) → Is program w2 (Plain (id_of t)) (Object (suc o))
      passed_is w2 o made there lengths passes (inl any) =
          to_any program w2 typed.predeclared t (Object (suc o)) any (made_reference program w2 (λ m. Unit {0}) (Object (suc o)) made (made_so w2 o made there) lengths tt)
      passed_is w2 o made there lengths passes (inr b) =
          to_target program w2 t b.0 (Object (suc o)) b.1
          (made_reference program w2 (Extends program b.0) (Object (suc o)) made (made_so w2 o made there) lengths (comes_on rows typed.ranked (id_of_made made.type) (id_of_made (suc g)) b.0 passes b.2))

      tested : (p q : ℕ) → p + 1 ≡ q → (w2 : World Sort) (o : ℕ) (made : Made) → w2.made (suc o) ≡ Some made → HasLengths program (row_of rows (id_of_made made.type)) made → (b : Bool) → comes_to rows (id_of_made made.type) (id_of_made (suc g)) ≡ b → Does program here (Reached q) w2 (if_passed (cell.Num (flag b)) (onward rest 0 (p + 1) k (cell.Ref (suc o) ∷ s))) (if is_true (Flag b) then Val (Object (suc o)) else Traps 3 0)
      tested p q behind w2 o made there lengths true passes =
          record { is = passed_is w2 o made there lengths passes gives; run = ap (λ j. onward rest 0 j k (cell.Ref (suc o) ∷ s)) behind }
      tested p q behind w2 o made there lengths false fails = (refl, omega arith)

      by : (p q : ℕ) → p + 1 ≡ q → (w1 : World Sort) (v : Value) (m : Run) → (v ≡ Object 0) ⊎ IsMadeAs program w1 (λ m. Unit {0}) v → m ≡ onward (i.Guard (suc g) ∷ rest) 0 p k (cell_of w1 v ∷ s) → Does program here (Reached q) w1 m (guarded v g)
      by p q behind w1 v m (inl nil) e =
          subst (λ z. m ≡ onward (i.Guard (suc g) ∷ rest) 0 p k (cell_of w1 z ∷ s) → Does program here (Reached q) w1 m (guarded z g)) (sym nil) (λ f. (f, omega arith)) e
      by p q behind w1 v m (inr a) e =
          let o = a.object.number in
          let obj = made_so w1 o a.made a.object.made in
          subst (λ z. m ≡ onward (i.Guard (suc g) ∷ rest) 0 p k (cell_of w1 z ∷ s) → Does program here (Reached q) w1 m (guarded z g)) (sym a.object.is)
          (λ f. (
            (λ c. if_passed c (onward rest 0 (p + 1) k (cell.Ref (suc o) ∷ s))),
            f,
            (a.made, obj, g, refl),
            λ w2 up y conforms.
                let made2 = up.made (suc o) a.made a.object.made in
                let is = conforms a.made (made_so w2 o a.made made2) in
                subst (λ z. Does program here (Reached q) w2 (if_passed (cell_of w2 z) (onward rest 0 (p + 1) k (cell.Ref (suc o) ∷ s))) (if is_true z then Val (Object (suc o)) else Traps 3 0)) (sym is)
                (tested p q behind w2 o a.made made2 a.lengths (comes_to rows (id_of_made a.made.type) (id_of_made (suc g))) refl),
          )) e

  -- whether two are one object
  object_value : (w : World Sort) (P : Made → Type 0) (v : Value) → IsReference program w P v → v ≡ Object (object_in v)
  object_value w P v h = by (nil_or program w P v h)
    where
      by : (v ≡ Object 0) ⊎ IsMadeAs program w P v → v ≡ Object (object_in v)
      by (inl nil) = nil ∙ ap (λ o. Object (object_in o)) (sym nil)
      by (inr a) = a.object.is ∙ ap (λ o. Object (object_in o)) (sym a.object.is)

  pub same_does : HasTypes program → (u v : TType) (ca cb : List Instr) (ra rb : Doing Value) (at : ℕ) → is_reference rows u ≡ true → is_reference rows v ≡ true → Yields program own tables number here code u ca ra at → Yields program own tables number here code v cb rb (at + length ca) → Evaluates program own tables number here code type.Boolean (operands_code ca cb i.EqRef) (bind ra (λ a. bind rb (λ b. Val (Flag (object_in a == object_in b))))) at
  same_does typed u v ca cb ra rb at ref_u ref_v ha hb w known rest k s =
      let x = i.EqRef in
      let p = at + length ca + length cb in
      let q = at + length (operands_code ca cb x) in
      let behind : p + 1 ≡ q = omega (arith, length-append ca (cb ++ x ∷ []), length-append cb (x ∷ [])) in
      pieces_do program own tables number here code (OfSort program own tables number here code u) cell_of (OfSort program own tables number here code v) cell_of (Pushed tables number here code type.Boolean rest q k s) x (λ a b. Val (Flag (object_in a == object_in b))) ca cb ra rb at rest k s
      (sorts_stay program own tables number here code u) ha hb w known
      (λ w1 a b m is_a is_b e.
      let ea = object_value w1 (λ m. Unit {0}) a (some_object program w1 typed.predeclared u a ref_u is_a) in
      let eb = object_value w1 (λ m. Unit {0}) b (some_object program w1 typed.predeclared v b ref_v is_b) in
      record {
        is = (object_in a == object_in b, refl);
        run = e ∙ (λ j. onward (i.EqRef ∷ rest) 0 p k (cell_of w1 (eb j) ∷ (cell_of w1 (ea j) ∷ s))) ∙ ap (λ j. onward rest 0 j k (cell.Num (flag (object_in a == object_in b)) ∷ s)) behind;
      })

  -- Records whose place names their type

  module _ (shaped : HasShapes program tables) where
    -- IS of one
    pub is_record_does : (named : Type 0) (u : TType) (t n : ℕ) (xs : List Instr) (r : Doing Location) (at : ℕ) → n ≡ suc t → Finds program own tables number here code named u xs r at → Evaluates program own tables number here code type.Boolean (xs ++ i.IsPlace n ∷ []) (bind r (λ p. Val (Flag (has_type rows p t)))) at
    is_record_does named u t n xs r at suc_is h w known rest k s =
        let x = i.IsPlace n in
        let p = at + length xs in
        let q = at + length (xs ++ x ∷ []) in
        let behind : p + 1 ≡ q = omega (arith, length-append xs (x ∷ [])) in
        piece_does program own tables number here code (IsFound program named u) place_in (Pushed tables number here code type.Boolean rest q k s) (λ p. Val (Flag (has_type rows p t))) xs (x ∷ []) r at rest k s h w known
        (λ w1 up a m is e. record {
          is = (has_type rows a t, refl);
          run = e ∙ ap (λ j. onward (i.IsPlace j ∷ rest) 0 p k (place_in w1 a ∷ s)) suc_is
              ∙ ap (λ b. onward rest 0 (p + 1) k (cell.Num (flag b) ∷ s)) (shaped.extend a.type t)
              ∙ ap (λ j. onward rest 0 j k (cell.Num (flag (has_type rows a t)) ∷ s)) behind;
        })

    -- a guard of one
    pub guard_place_does : HasTypes program → (named : Type 0) (u : TType) (t n : ℕ) (xs : List Instr) (r : Doing Location) (at : ℕ) → n ≡ suc t → named → is_record (row_of rows (id_of (type.Named t))) ≡ true → Finds program own tables number here code named u xs r at → Finds program own tables number here code (is_record (row_of rows (id_of (type.Named t))) ≡ true) (type.Named t) (xs ++ i.GuardPlace n ∷ []) (bind r (λ p. record_guarded rows p t)) at
    guard_place_does typed named u t n xs r at suc_is has_name is_rec h w known rest k s =
        let x = i.GuardPlace n in
        let p = at + length xs in
        let q = at + length (xs ++ x ∷ []) in
        let behind : p + 1 ≡ q = omega (arith, length-append xs (x ∷ [])) in
        piece_does program own tables number here code (IsFound program named u) place_in (Reached q) (λ p. record_guarded rows p t) xs (x ∷ []) r at rest k s h w known
        (λ w1 up a m is e. by p q behind w1 a m is (has_type rows a t) refl (e ∙ ap (λ j. onward (i.GuardPlace j ∷ rest) 0 p k (place_in w1 a ∷ s)) suc_is))
      where
        Reached : ℕ → World Sort → Location → Run → Type 0
        Reached q = Named program own tables number here code (is_record (row_of rows (id_of (type.Named t))) ≡ true) (type.Named t) rest q k s

        ran : ℕ → World Sort → Location → Bool → Run
        ran p w1 a b = on_run tables (if b then Goes 0 (place_in w1 a ∷ s) else Stops (Fails 3 0)) (onward rest) p k

        by : (p q : ℕ) → p + 1 ≡ q → (w1 : World Sort) (a : Location) (m : Run) → IsFound program named u w1 a → (b : Bool) → has_type rows a t ≡ b → m ≡ onward (i.GuardPlace (suc t) ∷ rest) 0 p k (place_in w1 a ∷ s) → Does program here (Reached q) w1 m (record_guarded rows a t)
        by p q behind w1 a m is b e f =
            subst (λ c. Does program here (Reached q) w1 m (if c then Val a else Traps 3 0)) (sym e)
            (goes b e (f ∙ ap (ran p w1 a) (shaped.extend a.type t ∙ e)))
          where
            goes : (b : Bool) → has_type rows a t ≡ b → m ≡ ran p w1 a b → Does program here (Reached q) w1 m (if b then Val a else Traps 3 0)
            goes false e f = (f, omega arith)
            goes true e f =
                let n = is.names has_name in
                let names : Names program w1 (id_of (type.Named t)) a = record { extends = e; more = n.more; plain = n.plain; there = n.there } in
                let s' = join (object_shape rows (id_of_made a.type)) n.more in
                let same : is.shape ≡ s' = some_same is.shape s' (sym is.there ∙ n.there) in
                record {
                  is = record {
                    shape = s';
                    there = n.there;
                    few = subst (λ z. cell_at w1 a.root a.path + size z < 2 ^ 32) same is.few;
                    holds = names_hold program typed (id_of (type.Named t)) w1 a is_rec names;
                    plain = subst (EachSort IsPlain) same is.plain;
                    names = λ h. names;
                  };
                  run = f ∙ ap (λ j. onward rest 0 j k (place_in w1 a ∷ s)) behind;
                }

  -- a record gets the name of its type
  pub typed_does : HasTypes program → (named : Type 0) (t n : ℕ) (xs : List Instr) (r : Doing Location) (at : ℕ) → n ≡ suc t → is_record (row_of rows (id_of (type.Named t))) ≡ true → Finds program own tables number here code named (type.Named t) xs r at → Finds program own tables number here code (is_record (row_of rows (id_of (type.Named t))) ≡ true) (type.Named t) (xs ++ i.Offset 0 n ∷ []) (bind r (λ p. Val (record p { type = suc t }))) at
  typed_does typed named t n xs r at suc_is is_rec h w known rest k s =
      let x = i.Offset 0 n in
      let p = at + length xs in
      let q = at + length (xs ++ x ∷ []) in
      let behind : p + 1 ≡ q = omega (arith, length-append xs (x ∷ [])) in
      let id = id_of (type.Named t) in
      let has_name = is_record (row_of rows id) ≡ true in
      piece_does program own tables number here code (IsFound program named (type.Named t)) place_in (Named program own tables number here code has_name (type.Named t) rest q k s) (λ p. Val (record p { type = suc t })) xs (x ∷ []) r at rest k s h w known
      (λ w1 up a m is e.
      let a' : Location = record a { type = suc t } in
      let cell_is = cell_at w1 a.root a.path in
      let holds = holds_record program typed id is.shape is_rec is.holds in
      let same = own_contents rows id (record_no_object (row_of rows id) is_rec) in
      let names : Names program w1 id a' = record { extends = comes_same rows id; more = holds.0; plain = each_rest IsPlain (variable_shape rows id) holds.0 (subst (EachSort IsPlain) holds.1 is.plain); there = is.there ∙ ap (λ z. Some z) (holds.1 ∙ ap (λ z. join z holds.0) same) } in
      let few : cell_is < 2 ^ 32 = (let f = is.few in omega (arith, f)) in
      let none : cell_is + 0 ≡ cell_is = omega arith in
      record {
        is = record { shape = is.shape; there = is.there; few = is.few; holds = is.holds; plain = is.plain; names = λ h. names };
        run = e ∙ (λ j. onward (i.Offset 0 (suc_is j) ∷ rest) 0 p k (place_in w1 a ∷ s))
            ∙ ap (λ c. on_run tables (gives_place a.root c (suc t) [] s) (onward rest) p k) none
            ∙ ap (λ b. on_run tables (if b then Goes 0 (cell.Place a.root cell_is (suc t) ∷ s) else Stops (Fails 16 0)) (onward rest) p k) (lt-ltb cell_is (2 ^ 32) few)
            ∙ ap (λ j. onward rest 0 j k (place_in w1 a' ∷ s)) behind;
      })
