-- The code of a designator finds the place that the designator names, or traps as it does; that of an array finds its place and the
-- lengths of its dimensions.
use Rattle.std.proofs.Common.{◌≡◌, ℕ, zero, suc, ℤ, pos, negsuc, ◌+◌, ◌*◌, ◌<◌, ◌≤◌, ◌^◌, Bool, true, false, List, [], ◌∷◌, ◌++◌, length, map, Option, Some, None, if◌then◌else◌, refl, sym, ap, ◌∙◌, subst, arith, append-nil, length-append}
use Rattle.std.proofs.Common.{◌⊎◌}
use Rattle.std.specs.Prelude.{All, nat_lt, slice_get, option_and_then, option_map}
use Rattle.std.specs.Option.{unwrap_or}
use Rattle.std.proofs.lemmas.Bool.{false≢true, ltb-true, lt-ltb}
use Rattle.std.proofs.lemmas.List.{length-map, map-append}
use Rattle.std.proofs.lemmas.List.Elements.{All-tail, All-append}
use Rattle.std.proofs.lemmas.Option.{slice_get-map}
use Rattle.aos_base.specs.declared.number.Width.TheVariants.{W64}
use Rattle.aos_base.specs.declared.root.Root.TheVariants.{Frame as FrameRoot, Module as ModuleRoot}
use Rattle.aos_base.specs.Operators.{natural}
use Rattle.aos_base.specs.Question.{Val, Asks, Traps, bind, Places, Lengths}
use Rattle.aos_types.specs.declared.row.TypeId.{TypeId}
use Rattle.aos_types.specs.declared.row.TypeRow.{TypeRow}
use Rattle.aos_types.specs.declared.row.TypeRow.TheVariants as row
use Rattle.aos_types.specs.Table.{row_of, is_record}
use Rattle.aos_types.specs.Extension.{comes_to}
use Rattle.aos_types.specs.Shape.{Shape, One, Nothing, Pair, size, join, part, before, inside, offset, number_of as number_of_shape, repeated, row as row_of_shapes}
use Rattle.aos_types.specs.Chain.{IsRanked}
use Rattle.aos_types.specs.World.{World, Grows, shape_at, cell_at}
use Rattle.aos_types.proofs.Offsets.{inside_within}
use Rattle.aos_typed.specs.declared.tree.TType.{TType}
use Rattle.aos_typed.specs.declared.tree.TType.TheVariants as type
use Rattle.aos_typed.specs.Program.{ModuleVar, Local, Passed, Known, Opened, Parameter, Procedure, Program}
use Rattle.aos_typed.specs.Numbers.{id_of, id_of_made}
use Rattle.aos_typed.specs.Open.{open_element}
use Rattle.aos_typed.specs.Sort.{Sort, Plain, Variable, Alias, Elements, Length, variable_shape, object_shape}
use Rattle.aos_typed.specs.Location.{Location}
use Rattle.aos_types.specs.Content.{EachSort}
use Rattle.aos_typed.specs.Typing.{Is, IsPlain, OnPlace, Names, nested}
use Rattle.aos_typed.specs.Value.{Value, Int, Flag, Char, Set, Object, Callable, Place, number_of}
use Rattle.aos_typed.specs.Meaning.{Here, Doing, Found, found, part_of, field_of, element_of, row_at, text_length, own_place, lengths_from, place_of, rows_of}
use Rattle.aos_typed.specs.Meaning as source
use Rattle.aos_typed.specs.WellTyped.{variable_type, field_type, IsConstantText, IsArray, IsArrayOf, IsLength, IsParameter, IsLocal, IsByReference, IsByValue, IsOpening, HaveLengths, is_whole}
use Rattle.aos_code.specs.declared.instr.Cell.{Cell}
use Rattle.aos_code.specs.declared.instr.Cell.TheVariants as cell
use Rattle.aos_code.specs.declared.instr.Cell.TheVariants.{Num}
use Rattle.aos_code.specs.declared.instr.Instr.{Instr}
use Rattle.aos_code.specs.declared.instr.Instr.TheVariants as i
use Rattle.aos_code.specs.Silent.{Stack, Keeps, Act, Goes, on_number, length_then, lengths_on, counted_on, length_cells, gives_place, element}
use Rattle.aos_code.specs.Silent as silent
use Rattle.aos_memory_laws.proofs.Grow.{shape_grows, cell_grows}
use Rattle.aos_sim.specs.Cells.{place_in, cell_of}
use Rattle.aos_sim.specs.Code.{own_cell, field_cell, cells_of, lengths_code, place_code, rows_code, operands_code}
use Rattle.aos_sim.proofs.Runs.{Run, Onward, Tables, numbers, pushed_reverse, on_run, runs}
use Rattle.aos_layout.proofs.Joins.{join_assoc}
use Rattle.aos_sim.proofs.Extended.{whole_or, field_part, field_offset, record_no_object, no_extension, record_extension, begins_with, whole_begins}
use Rattle.aos_sim.proofs.Parts.{own_contents, shape_on, cell_on, each_repeated, each_nested, each_join, variable_plain, object_plain, whole_ends, array_shape, element_part, element_offset, row_part, row_offset, variable_size, part_of_row, nested_size}
use Rattle.aos_sim.proofs.Does.{HasFewCells, HasTypes, alias_sort, IsPlaceSort, lengths_are, location_cell, HasText, HasRoom, HasPredeclared, characters, IsReached, Given, Does, bind_val, does_bind, does_more, place_grows}
use Rattle.aos_sim.proofs.Variables.{basic_is_one, variable_there, variable_few, cell_there, constant_there, constant_few, constant_cell, local_there, alias_there, open_there}
use Rattle.aos_sim.proofs.Evaluates.{OfType, number_in, pushed, OnTop, OnStack, Brings, ComesTo, Remain, Stays, Evaluates, pushed-append, front_does, piece_does, pieces_do, two_do}

-- a record is whole
pub record_whole : (o : Option TypeRow) → is_record o ≡ true → is_whole o ≡ true
record_whole None e = absurd (cc)
record_whole (Some (row.Basic b)) e = absurd (cc)
record_whole (Some (row.Array n of)) e = refl
record_whole (Some (row.Open of)) e = absurd (cc)
record_whole (Some (row.Record base fields)) e = refl
record_whole (Some (row.Pointer to)) e = absurd (cc)
record_whole (Some (row.Object base fields)) e = absurd (cc)
record_whole (Some (row.Procedure formals r)) e = absurd (cc)
record_whole (Some row.Any) e = absurd (cc)

module _ (program : Program) where
  -- what begins with a record of this type, or is a variable of another
  abbrev pub Holds : (is_record : Bool) → TypeId → Shape Sort → Type 0
  Holds true t s = (more : Shape Sort) × (s ≡ join (variable_shape program.types t) more)
  Holds false t s = s ≡ variable_shape program.types t

  abbrev pub HoldsType : TypeId → Shape Sort → Type 0
  HoldsType t s = Holds (is_record (row_of program.types t)) t s

  -- a variable of this type is there, and its cells have numbers of 32 bits; where it names the type of a record, that extends this one
  pub record IsFound (named : Type 0) (t : TType) (w : World Sort) (p : Location) : Type 0 where
    pub shape : Shape Sort
    pub there : shape_at w p.root p.path ≡ Some shape
    pub few : cell_at w p.root p.path + size shape < 2 ^ 32
    pub holds : HoldsType (id_of t) shape
    pub plain : EachSort IsPlain shape
    pub names : named → Names program w (id_of t) p

  -- the fields of a record or an object of this type are there, and their cells have numbers of 32 bits
  pub record HasFields (t : TypeId) (w : World Sort) (p : Location) : Type 0 where
    pub shape : Shape Sort
    pub there : shape_at w p.root p.path ≡ Some shape
    pub few : cell_at w p.root p.path + size shape < 2 ^ 32
    pub more : Shape Sort
    pub begins : shape ≡ join (object_shape program.types t) more

  -- rows of these lengths with elements of this type behind them; where there is none, what begins with an element
  abbrev pub RowsHold : List ℕ → TypeId → Shape Sort → Type 0
  RowsHold [] t s = HoldsType t s
  RowsHold (n ∷ ns) t s = s ≡ nested (n ∷ ns) (variable_shape program.types t)

  pub record AreRowsAt (ns : List ℕ) (t : TType) (w : World Sort) (p : Location) : Type 0 where
    pub shape : Shape Sort
    pub there : shape_at w p.root p.path ≡ Some shape
    pub few : cell_at w p.root p.path + size shape < 2 ^ 32
    pub holds : RowsHold ns (id_of t) shape
    pub plain : EachSort IsPlain shape

  -- they have so many dimensions; where they are bounded so, their lengths are those of open arrays
  pub record AreFound (bounded : Type 0) (n : ℕ) (t : TType) (w : World Sort) (x : Found) : Type 0 where
    pub lengths : List ℕ
    pub are : x.lengths ≡ map (λ n. Int (pos n)) lengths
    pub many : length lengths ≡ n
    pub at : AreRowsAt lengths t w x.place
    pub bound : bounded → All IsLength lengths

  module _ (w w' : World Sort) (g : Grows w w') where
    -- what is at a place stays there, at its cell
    few_grows : (p : Location) (s : Shape Sort) → shape_at w p.root p.path ≡ Some s → cell_at w p.root p.path + size s < 2 ^ 32 → cell_at w' p.root p.path + size s < 2 ^ 32
    few_grows p s h few = subst (λ n. n + size s < 2 ^ 32) (cell_grows w w' g p.root p.path s h) few

    pub found_grows : (named : Type 0) (t : TType) (p : Location) → IsFound named t w p → IsFound named t w' p
    found_grows named t p h =
        record {
          shape = h.shape;
          there = shape_grows w w' g p.root p.path h.shape h.there;
          few = few_grows p h.shape h.there h.few;
          holds = h.holds;
          plain = h.plain;
          names = λ n. names_grow p (h.names n);
        }
      where
        names_grow : (p : Location) → Names program w (id_of t) p → Names program w' (id_of t) p
        names_grow p n = record { extends = n.extends; more = n.more; plain = n.plain; there = shape_grows w w' g p.root p.path (join (object_shape program.types (id_of_made p.type)) n.more) n.there }

    pub found_cell : (named : Type 0) (t : TType) (p : Location) → IsFound named t w p → place_in w p ≡ place_in w' p
    found_cell named t p h = location_cell w w' g p h.shape h.there

    pub rows_grow : (ns : List ℕ) (t : TType) (p : Location) → AreRowsAt ns t w p → AreRowsAt ns t w' p
    rows_grow ns t p h =
        record { shape = h.shape; there = shape_grows w w' g p.root p.path h.shape h.there; few = few_grows p h.shape h.there h.few; holds = h.holds; plain = h.plain }

  -- what such a place holds
  module _ (typed : HasTypes program) where
    -- a variable of just this type
    pub exactly_holds : (t : TypeId) → (is_record (row_of program.types t) ≡ true → join (variable_shape program.types t) Nothing ≡ variable_shape program.types t) → HoldsType t (variable_shape program.types t)
    exactly_holds t ends = by (is_record (row_of program.types t)) refl
      where
        by : (b : Bool) → is_record (row_of program.types t) ≡ b → Holds b t (variable_shape program.types t)
        by true e = (Nothing, sym (ends e))
        by false e = refl

    pub variable_holds : (t : TypeId) → HoldsType t (variable_shape program.types t)
    variable_holds t = exactly_holds t (λ e. whole_ends program.types typed.ranked t (record_whole (row_of program.types t) e))

    pub record_holds : (t : TypeId) (s more : Shape Sort) → is_record (row_of program.types t) ≡ true → s ≡ join (variable_shape program.types t) more → HoldsType t s
    record_holds t s more is e = subst (λ b. Holds b t s) (sym is) (more, e)

    -- what is no record
    pub holds_exactly : (t : TypeId) (s : Shape Sort) → is_record (row_of program.types t) ≡ false → HoldsType t s → s ≡ variable_shape program.types t
    holds_exactly t s isnt h = subst (λ b. Holds b t s) isnt h

    pub holds_record : (t : TypeId) (s : Shape Sort) → is_record (row_of program.types t) ≡ true → HoldsType t s → (more : Shape Sort) × (s ≡ join (variable_shape program.types t) more)
    holds_record t s is h = subst (λ b. Holds b t s) is h

    -- a record or an array begins it
    pub holds_whole : (t : TypeId) (s : Shape Sort) → is_whole (row_of program.types t) ≡ true → HoldsType t s → (more : Shape Sort) × (s ≡ join (variable_shape program.types t) more)
    holds_whole t s whole h = by (is_record (row_of program.types t)) refl
      where
        by : (b : Bool) → is_record (row_of program.types t) ≡ b → (more : Shape Sort) × (s ≡ join (variable_shape program.types t) more)
        by true is = holds_record t s is h
        by false isnt = (Nothing, holds_exactly t s isnt h ∙ sym (whole_ends program.types typed.ranked t whole))

    -- so does what it extends
    pub holds_extension : (t b : TypeId) (s : Shape Sort) → is_whole (row_of program.types b) ≡ true → comes_to program.types t b ≡ true → HoldsType t s → (more : Shape Sort) × (s ≡ join (variable_shape program.types b) more)
    holds_extension t b s whole e h = by (is_record (row_of program.types b)) refl
      where
        by : (x : Bool) → is_record (row_of program.types b) ≡ x → (more : Shape Sort) × (s ≡ join (variable_shape program.types b) more)
        by true is =
            let own = holds_record t s (record_extension program typed t b is e) h in
            let r = whole_begins program typed t b whole e in
            (join r.0 own.0, own.1 ∙ ap (λ z. join z own.0) r.1 ∙ join_assoc (variable_shape program.types b) r.0 own.0)
        by false isnt =
            let same = no_extension program typed t b (whole_or (row_of program.types b) whole isnt) e in
            holds_whole b s whole (subst (λ z. HoldsType z s) same h)

    -- rows whose first elements are rows
    pub rows_hold : (ns : List ℕ) (t : TypeId) → RowsHold ns t (nested ns (variable_shape program.types t))
    rows_hold [] t = variable_holds t
    rows_hold (n ∷ ns) t = refl

    pub names_hold : (t : TypeId) (w : World Sort) (p : Location) → is_record (row_of program.types t) ≡ true → (n : Names program w t p) → HoldsType t (join (object_shape program.types (id_of_made p.type)) n.more)
    names_hold t w p is n =
        let r = begins_with program typed (id_of_made p.type) t is n.extends in
        record_holds t (join (object_shape program.types (id_of_made p.type)) n.more) (join r.0 n.more) is
        (ap (λ s. join s n.more) r.1 ∙ join_assoc (variable_shape program.types t) r.0 n.more)

  -- a part of it: it's there, and an instruction gives its place from the one of the whole
  module _ (w : World Sort) (p : Location) (whole s : Shape Sort) (there : shape_at w p.root p.path ≡ Some whole) (few : cell_at w p.root p.path + size whole < 2 ^ 32) (k : ℕ) (is : inside (k ∷ []) whole ≡ Some s) where
    pub part_there : shape_at w (part_of k p).root (part_of k p).path ≡ Some s
    part_there = shape_on w p.root p.path whole there (k ∷ []) ∙ is

    pub part_few : cell_at w (part_of k p).root (part_of k p).path + size s < 2 ^ 32
    part_few =
        let on = cell_on w p.root p.path whole there (k ∷ []) in
        let within = inside_within (k ∷ []) whole s is in
        omega (arith, on, within, few)

    pub part_given : (n : ℕ) (above : List Cell) (st : Stack) → offset (k ∷ []) whole ≡ n → gives_place p.root (cell_at w p.root p.path + n) 0 above st ≡ Goes 0 (above ++ place_in w (part_of k p) ∷ st)
    part_given n above st e =
        let at = cell_at w p.root p.path + n in
        let on : cell_at w (part_of k p).root (part_of k p).path ≡ at = cell_on w p.root p.path whole there (k ∷ []) ∙ ap (λ m. cell_at w p.root p.path + m) e in
        let below = part_few in
        let small : at < 2 ^ 32 = omega (arith, on, below) in
        rw (lt-ltb at (2 ^ 32) small) (ap (λ m. Goes 0 (above ++ cell.Place p.root m 0 ∷ st)) (sym on))

-- the place of rows, and the lengths of their dimensions
abbrev pub rows_cells : World Sort → Found → List Cell
rows_cells w x = place_in w x.place ∷ map (cell_of w) x.lengths

-- a text is there, or an array of characters with room for its 0X
abbrev pub IsText : World Sort → Found → Type 0
IsText w x = HasText w x.place (text_length x)

abbrev pub IsRoom : World Sort → Found → Type 0
IsRoom w x = HasRoom w x.place (text_length x)

abbrev pub text_cells : World Sort → Found → List Cell
text_cells w x = place_in w x.place ∷ (cell_of w (text_length x) ∷ [])

-- An index

pub natural_below : (n m : ℕ) (z : ℤ) → natural n z ≡ Some m → m < n
natural_below n m (pos j) e = by (nat_lt j n) refl e
  where
    by : (b : Bool) → nat_lt j n ≡ b → (if b then Some j else None) ≡ Some m → m < n
    by true l f = let h : j ≡ m = cc in let g = ltb-true j n l in omega (arith, h, g)
    by false l f = absurd (cc)
natural_below n m (negsuc j) e = absurd (cc)

pub element_there : (n k : ℕ) (v : Value) (p : Location) → natural n (number_of v) ≡ Some k → element_of n v p ≡ Val (part_of k p)
element_there n k v p e = rw e refl

pub no_element : (n : ℕ) (v : Value) (p : Location) → natural n (number_of v) ≡ None → element_of n v p ≡ Traps 2 0
no_element n v p e = rw e refl

-- Lengths on the stack

-- the one that lies lowest is taken last
lengths_more : (j : ℕ) (ls : List ℕ) (f : List ℕ → Stack → Act) (s : Stack) → lengths_on (suc j) ls f s ≡ lengths_on j ls (λ ls' s'. on_number (λ z s''. length_then z (λ n. f (n ∷ ls') s'')) s') s
lengths_more zero ls f s = refl
lengths_more (suc j) ls f [] = refl
lengths_more (suc j) ls f (cell.Num (pos n) ∷ s) = lengths_more j (n ∷ ls) f s
lengths_more (suc j) ls f (cell.Num (negsuc n) ∷ s) = refl
lengths_more (suc j) ls f (cell.Ref o ∷ s) = refl
lengths_more (suc j) ls f (cell.Call p o ∷ s) = refl
lengths_more (suc j) ls f (cell.Place r c t ∷ s) = refl

lengths_taken : (ns ls : List ℕ) (f : List ℕ → Stack → Act) (s : Stack) → lengths_on (length ns) ls f (pushed (numbers ns) s) ≡ f (ns ++ ls) s
lengths_taken [] ls f s = refl
lengths_taken (n ∷ ns) ls f s =
    lengths_more (length ns) ls f (pushed (numbers ns) (Num (pos n) ∷ s))
    ∙ lengths_taken ns ls (λ ls' s'. on_number (λ z s''. length_then z (λ m. f (m ∷ ls') s'')) s') (Num (pos n) ∷ s)

counted_more : (j : ℕ) (zs : List ℤ) (f : List ℤ → Stack → Act) (s : Stack) → counted_on (suc j) zs f s ≡ counted_on j zs (λ zs' s'. on_number (λ z s''. f (z ∷ zs') s'') s') s
counted_more zero zs f s = refl
counted_more (suc j) zs f [] = refl
counted_more (suc j) zs f (cell.Num z ∷ s) = counted_more j (z ∷ zs) f s
counted_more (suc j) zs f (cell.Ref o ∷ s) = refl
counted_more (suc j) zs f (cell.Call p o ∷ s) = refl
counted_more (suc j) zs f (cell.Place r c t ∷ s) = refl

pub counted_taken : (ns : List ℕ) (zs : List ℤ) (f : List ℤ → Stack → Act) (s : Stack) → counted_on (length ns) zs f (pushed (numbers ns) s) ≡ f (map (λ n. pos n) ns ++ zs) s
counted_taken [] zs f s = refl
counted_taken (n ∷ ns) zs f s =
    counted_more (length ns) zs f (pushed (numbers ns) (Num (pos n) ∷ s))
    ∙ counted_taken ns zs (λ zs' s'. on_number (λ z s''. f (z ∷ zs') s'') s') (Num (pos n) ∷ s)

-- and so are numbers of any sign
pub counted_all : (ns zs : List ℤ) (f : List ℤ → Stack → Act) (s : Stack) → counted_on (length ns) zs f (pushed (map (λ z. Num z) ns) s) ≡ f (ns ++ zs) s
counted_all [] zs f s = refl
counted_all (n ∷ ns) zs f s =
    counted_more (length ns) zs f (pushed (map (λ z. Num z) ns) (Num n ∷ s))
    ∙ counted_all ns zs (λ zs' s'. on_number (λ z s''. f (z ∷ zs') s'') s') (Num n ∷ s)

-- an array type with these lengths has rows of them
pub nested_shape : (rows : List TypeRow) → IsRanked rows → (ns : List ℕ) (t of : TypeId) → IsArrayOf rows ns t of → variable_shape rows t ≡ nested ns (variable_shape rows of)
nested_shape rows ranked [] t of h = ap (variable_shape rows) h
nested_shape rows ranked (n ∷ ns) t of h = array_shape rows ranked t h.0 n h.1 ∙ ap (repeated n) (nested_shape rows ranked ns h.0 of h.2)

-- a row of characters begins with each shorter one
characters_begin : (n m : ℕ) → n ≤ m → (more : Shape Sort) × (characters m ≡ join (characters n) more) × EachSort IsPlain more
characters_begin zero m h = (characters m, refl, each_repeated IsPlain m (One (Plain (id_of type.Char))) tt)
characters_begin (suc n) zero h = absurd (omega (arith, h))
characters_begin (suc n) (suc m) h =
    let r = characters_begin n m (omega (arith, h)) in (r.0, ap (λ s. Pair (One (Plain (id_of type.Char))) s) r.1, r.2)

-- and so does a string constant with the array of characters for which it is handed over
pub filled_begins : (program : Program) → HasTypes program → (t : TypeId) (n m : ℕ) → IsArray n (id_of type.Char) (row_of program.types t) → n ≤ m → (more : Shape Sort) × (characters m ≡ join (variable_shape program.types t) more) × EachSort IsPlain more
filled_begins program typed t n m is h =
    let r = characters_begin n m h in
    let own = array_shape program.types typed.ranked t (id_of type.Char) n is ∙ ap (repeated n) (basic_is_one program typed.predeclared type.Char refl) in
    (r.0, r.1 ∙ ap (λ s. join s r.0) (sym own), r.2)

module _ (program : Program) (own : Option Procedure) (tables : Tables) (number : ℕ) (here : Here) (code : List Instr) where
  abbrev onward : List Instr → Onward
  onward = runs tables number here code

  -- the code goes on with the rest at this place, with the place of a variable of this type on the stack
  abbrev pub Named : Type 0 → TType → List Instr → ℕ → Keeps → Stack → World Sort → Location → Run → Type 0
  Named named t = OnStack tables number here code (IsFound program named t) place_in

  -- this piece of code, at this place, finds a variable of this type and goes on behind itself
  abbrev pub Finds : Type 0 → TType → List Instr → Doing Location → ℕ → Type 0
  Finds named t = ComesTo program own tables number here code (IsFound program named t) place_in

  pub places_stay : (named : Type 0) (t : TType) → Stays program own tables number here code (IsFound program named t) place_in
  places_stay named t w w' g p h = (found_grows program w w' g named t p h, found_cell program w w' g named t p h)

  -- rows of so many dimensions, which have these bounds, with elements of this type
  abbrev pub WithRows : Type 0 → ℕ → TType → List Instr → ℕ → Keeps → Stack → World Sort → Found → Run → Type 0
  WithRows bounded n t = OnTop tables number here code (AreFound program bounded n t) rows_cells

  abbrev pub FindsRows : Type 0 → ℕ → TType → List Instr → Doing Found → ℕ → Type 0
  FindsRows bounded n t = Brings program own tables number here code (AreFound program bounded n t) rows_cells

  pub rows_remain : (bounded : Type 0) (n : ℕ) (t : TType) → Remain program own tables number here code (AreFound program bounded n t) rows_cells
  rows_remain bounded n t w w' g x h = (
    record { lengths = h.lengths; are = h.are; many = h.many; at = rows_grow program w w' g h.lengths t x.place h.at; bound = h.bound },
    (λ i. location_cell w w' g x.place h.at.shape h.at.there i ∷ same i),
  )
    where
      same : map (cell_of w) x.lengths ≡ map (cell_of w') x.lengths
      same = ap (map (cell_of w)) h.are ∙ (lengths_are w h.lengths ∙ sym (lengths_are w' h.lengths)) ∙ sym (ap (map (cell_of w')) h.are)

  -- what is handed over for these parameters
  abbrev pub Hands : List Parameter → List Instr → Doing (List Value) → ℕ → Type 0
  Hands as' = Brings program own tables number here code (λ w vs. Given program w as' vs) (λ w vs. map (cell_of w) vs)

  -- the place and the length of a text, and of an array that has room for one
  abbrev pub FindsText : List Instr → Doing Found → ℕ → Type 0
  FindsText = Brings program own tables number here code IsText text_cells

  abbrev pub FindsRoom : List Instr → Doing Found → ℕ → Type 0
  FindsRoom = Brings program own tables number here code IsRoom text_cells

  text_cell : (w w' : World Sort) → Grows w w' → (x : Found) → IsText w x → text_cells w x ≡ text_cells w' x
  text_cell w w' g x h = λ i. location_cell w w' g x.place (characters h.0) h.2 i ∷ ((ap (cell_of w) h.1 ∙ sym (ap (cell_of w') h.1)) i ∷ [])

  pub texts_remain : Remain program own tables number here code IsText text_cells
  texts_remain w w' g x h = ((h.0, h.1, place_grows program here w w' g x.place (characters h.0) h.2), text_cell w w' g x h)

  pub rooms_remain : Remain program own tables number here code IsRoom text_cells
  rooms_remain w w' g x h = ((h.0, h.1, place_grows program here w w' g x.place (characters h.0) h.2, h.3), text_cell w w' g x (h.0, h.1, h.2))

  -- Variables

  pub variable_does : HasTypes program → HasFewCells program → (m k : ℕ) (t : TType) (at : ℕ) → variable_type program m k ≡ Some t → Finds ⊥ t (place_code program own (ModuleVar m k) at) (place_of program here (ModuleVar m k)) at
  variable_does typed few m k t at of w known rest keeps s =
      record {
        is = record {
          shape = variable_shape program.types (id_of t);
          there = variable_there program w known.modules m k t of;
          few = variable_few program w known.modules m k t of few;
          holds = variable_holds program typed (id_of t);
          plain = variable_plain program.types (id_of t);
          names = λ n. absurd n;
        };
        run = ap (λ n. onward rest 0 (at + 1) keeps (cell.Place (ModuleRoot m) n 0 ∷ s)) (sym (cell_there program w known.modules m k t of own));
      }

  pub local_does : HasTypes program → (k : ℕ) (t : TType) (at : ℕ) → (IsLocal program own k t ⊎ ((a : Parameter) × IsParameter program own k a × IsByValue program a t)) → Finds ⊥ t (place_code program own (Local k) at) (place_of program here (Local k)) at
  local_does typed k t at of w known rest keeps s =
      let o = local_there program own here w known.frame k t of in
      record {
        is = record { shape = variable_shape program.types (id_of t); there = o.there; few = o.few; holds = variable_holds program typed (id_of t); plain = variable_plain program.types (id_of t); names = λ n. absurd n };
        run = ap (λ n. onward rest 0 (at + 1) keeps (cell.Place (FrameRoot here.below) n 0 ∷ s)) (sym o.cell);
      }

  -- a place that names the type of its record
  pub names_found : HasTypes program → (named : Type 0) (t : TType) (w : World Sort) (p : Location) → is_record (row_of program.types (id_of t)) ≡ true → Names program w (id_of t) p → IsReached w p → IsFound program named t w p
  names_found typed named t w p is n reached =
      record {
        shape = join (object_shape program.types (id_of_made p.type)) n.more;
        there = n.there;
        few = reached (join (object_shape program.types (id_of_made p.type)) n.more) n.there;
        holds = names_hold program typed (id_of t) w p is n;
        plain = each_join IsPlain (object_shape program.types (id_of_made p.type)) n.more (object_plain program.types (id_of_made p.type)) n.plain;
        names = λ h. n;
      }

  -- what a parameter stands for, on the stack
  alias_found : HasTypes program → (t : TType) (w : World Sort) (b : Bool) → is_record (row_of program.types (id_of t)) ≡ b → (v : Value) → Is program w (if b then Variable (id_of t) else Alias (id_of t)) v → OnPlace (IsReached w) v → IsFound program (is_record (row_of program.types (id_of t)) ≡ true) t w (source.place_in v) × (cell_of w v ≡ place_in w (source.place_in v))
  alias_found typed t w true is (Place p) h r = (names_found typed (is_record (row_of program.types (id_of t)) ≡ true) t w p is h r, refl)
  alias_found typed t w false isnt (Place p) h r =
      (record { shape = variable_shape program.types (id_of t); there = h; few = r (variable_shape program.types (id_of t)) h; holds = variable_holds program typed (id_of t); plain = variable_plain program.types (id_of t); names = λ is. absurd (false≢true (sym isnt ∙ is)) }, refl)
  alias_found typed t w true is (Int z) h r = absurd h
  alias_found typed t w true is (Flag b) h r = absurd h
  alias_found typed t w true is (Char c) h r = absurd h
  alias_found typed t w true is (Set e) h r = absurd h
  alias_found typed t w true is (Object o) h r = absurd h
  alias_found typed t w true is (Callable p o) h r = absurd h
  alias_found typed t w false is (Int z) h r = absurd h
  alias_found typed t w false is (Flag b) h r = absurd h
  alias_found typed t w false is (Char c) h r = absurd h
  alias_found typed t w false is (Set e) h r = absurd h
  alias_found typed t w false is (Object o) h r = absurd h
  alias_found typed t w false is (Callable p o) h r = absurd h

  alias_place : (b : Bool) (t : TypeId) → IsPlaceSort (if b then Variable t else Alias t)
  alias_place true t = tt
  alias_place false t = tt

  pub passed_does : HasTypes program → (k : ℕ) (t : TType) (at : ℕ) (a : Parameter) → IsParameter program own k a → IsByReference program a t → Finds (is_record (row_of program.types (id_of t)) ≡ true) t (place_code program own (Passed k) at) (place_of program here (Passed k)) at
  passed_does typed k t at a is of w known rest keeps s =
      let o = alias_there program own here w known.frame k t a is of in
      let q = own_place program here k in
      let sort = alias_sort program.types (id_of t) in (
        (λ x. onward rest 0 (at + 1) keeps (x ∷ s)),
        ap (λ (n : ℕ). Asks (Places (record { root = FrameRoot here.below; cell = n })) (λ x. onward rest 0 (at + 1) keeps (x ∷ s))) (sym o.cell),
        (refl, sort, alias_place (is_record (row_of program.types (id_of t))) (id_of t), o.there),
        λ w' up v c.
            let is' = c.0 sort (place_grows program here w w' up q (One sort) o.there) in
            let f = alias_found typed t w' (is_record (row_of program.types (id_of t))) refl v is' c.1 in
            record { is = f.0; run = ap (λ x. onward rest 0 (at + 1) keeps (x ∷ s)) f.1 },
      )

  -- Parts

  -- a record has its fields
  pub has_record : HasTypes program → (named : Type 0) (t : TType) → is_record (row_of program.types (id_of t)) ≡ true → (w : World Sort) (p : Location) → IsFound program named t w p → HasFields program (id_of t) w p
  has_record typed named t is w p found =
      let holds = holds_record program typed (id_of t) found.shape is found.holds in
      let same = own_contents program.types (id_of t) (record_no_object (row_of program.types (id_of t)) is) in
      record { shape = found.shape; there = found.there; few = found.few; more = holds.0; begins = holds.1 ∙ ap (λ z. join z holds.0) same }

  pub field_does : HasTypes program → (P : World Sort → Location → Type 0) (t u : TType) → ((w : World Sort) (p : Location) → P w p → HasFields program (id_of t) w p) → (k : ℕ) (xs : List Instr) (r : Doing Location) (at : ℕ) → field_type program.types (id_of t) k ≡ Some (id_of u) → ComesTo program own tables number here code P place_in xs r at → Finds ⊥ u (xs ++ i.Offset (field_cell program own t k) 0 ∷ []) (bind r (λ p. Val (field_of program.types (id_of t) k p))) at
  field_does typed P t u fields k xs r at of h w known rest keeps s =
      let x = i.Offset (field_cell program own t k) 0 in
      let q = at + length (xs ++ x ∷ []) in
      let n : at + length xs + 1 ≡ q = omega (arith, length-append xs (x ∷ [])) in
      let field = variable_shape program.types (id_of u) in
      piece_does program own tables number here code P place_in (Named ⊥ u rest q keeps s) (λ p. Val (field_of program.types (id_of t) k p)) xs (x ∷ []) r at rest keeps s h w known
      (λ w' up p m has e.
      let found = fields w' p has in
      let is = ap (inside (k ∷ [])) found.begins ∙ field_part program typed (id_of t) (id_of u) k of found.more in
      let offset_is = ap (offset (k ∷ [])) found.begins ∙ field_offset program typed (id_of t) (id_of u) k of found.more in
      record {
        is = record {
          shape = field;
          there = part_there program w' p found.shape field found.there found.few k is;
          few = part_few program w' p found.shape field found.there found.few k is;
          holds = variable_holds program typed (id_of u);
          plain = variable_plain program.types (id_of u);
          names = λ n. absurd n;
        };
        run = e
            ∙ ap (λ a. on_run tables a (onward rest) (at + length xs) keeps) (part_given program w' p found.shape field found.there found.few k is (field_cell program own t k) [] s offset_is)
            ∙ ap (λ j. onward rest 0 j keeps (place_in w' (part_of k p) ∷ s)) n;
      })

  -- an element, below whose place these operands stand, of what has elements of this shape
  module _ (w : World Sort) (p : Location) (whole inner : Shape Sort) (there : shape_at w p.root p.path ≡ Some whole) (few : cell_at w p.root p.path + size whole < 2 ^ 32) (n width : ℕ) (part : (j : ℕ) → j < n → inside (j ∷ []) whole ≡ Some inner) (offset_is : (j : ℕ) → j < n → offset (j ∷ []) whole ≡ j * width) (v : Value) where
    at_element : {A : Type 0} (Q : World Sort → A → Run → Type 0) (f : Location → Doing A) (above : List Cell) (rest : List Instr) (at : ℕ) (k : Keeps) (s : Stack) (m : Run) → m ≡ on_run tables (element (record { root = p.root; cell = cell_at w p.root p.path }) (natural n (number_of v)) width above s) (onward rest) at k → ((q : Location) → shape_at w q.root q.path ≡ Some inner → cell_at w q.root q.path + size inner < 2 ^ 32 → m ≡ onward rest 0 (at + 1) k (above ++ place_in w q ∷ s) → Does program here Q w m (f q)) → Does program here Q w m (bind (element_of n v p) f)
    at_element Q f above rest at k s m e go = by (natural n (number_of v)) refl
      where
        ran : (o : Option ℕ) → natural n (number_of v) ≡ o → m ≡ on_run tables (element (record { root = p.root; cell = cell_at w p.root p.path }) o width above s) (onward rest) at k
        ran o g = e ∙ ap (λ z. on_run tables (element (record { root = p.root; cell = cell_at w p.root p.path }) z width above s) (onward rest) at k) g

        by : (o : Option ℕ) → natural n (number_of v) ≡ o → Does program here Q w m (bind (element_of n v p) f)
        by None g = subst (λ r. Does program here Q w m (bind r f)) (sym (no_element n v p g)) (ran None g, omega arith)
        by (Some j) g =
            let l = natural_below n j (number_of v) g in
            let is = part j l in
            subst (λ r. Does program here Q w m (bind r f)) (sym (element_there n j v p g))
            (go (part_of j p) (part_there program w p whole inner there few j is) (part_few program w p whole inner there few j is)
            (ran (Some j) g ∙ ap (λ a. on_run tables a (onward rest) at k) (part_given program w p whole inner there few j is (j * width) above s (offset_is j l))))

  pub index_does : HasTypes program → (named : Type 0) (t u : TType) (n : ℕ) (ca cb : List Instr) (ra : Doing Location) (rb : Doing Value) (at : ℕ) → row_of program.types (id_of t) ≡ Some (row.Array n (id_of u)) → Finds named t ca ra at → Evaluates program own tables number here code (type.Integer W64) cb rb (at + length ca) → Finds ⊥ u (operands_code ca cb (i.Index n (cells_of program own u))) (bind ra (λ p. bind rb (λ v. element_of n v p))) at
  index_does typed named t u n ca cb ra rb at array ha hb w known rest k s =
      let x = i.Index n (cells_of program own u) in
      let q = at + length (operands_code ca cb x) in
      let p = at + length ca + length cb in
      let behind : p + 1 ≡ q = omega (arith, length-append ca (cb ++ x ∷ []), length-append cb (x ∷ [])) in
      let whole = variable_shape program.types (id_of t) in
      pieces_do program own tables number here code (IsFound program named t) place_in (OfType (type.Integer W64)) number_in (Named ⊥ u rest q k s) x (λ p v. element_of n v p) ca cb ra rb at rest k s (places_stay named t) ha hb w known
      (λ w' a v m found is e.
      let exact = holds_exactly program typed (id_of t) found.shape (ap is_record array) found.holds in
      subst (Does program here (Named ⊥ u rest q k s) w' m) (bind_val (element_of n v a))
      (at_element w' a whole (variable_shape program.types (id_of u)) (found.there ∙ ap (λ z. Some z) exact) (subst (λ z. cell_at w' a.root a.path + size z < 2 ^ 32) exact found.few) n (cells_of program own u)
      (element_part program.types typed.ranked (id_of t) (id_of u) n array) (element_offset program.types typed.ranked (id_of t) (id_of u) n array) v
      (Named ⊥ u rest q k s) (λ b. Val b) [] rest p k s m e
      (λ b there few r. record {
        is = record { shape = variable_shape program.types (id_of u); there = there; few = few; holds = variable_holds program typed (id_of u); plain = variable_plain program.types (id_of u); names = λ z. absurd z };
        run = r ∙ ap (λ j. onward rest 0 j k (place_in w' b ∷ s)) behind;
      })))

  -- Rows

  -- numbers are given one after another
  numbers_given : (ns : List ℕ) (rest : List Instr) (at : ℕ) (k : Keeps) (s : Stack) → onward (map (λ n. i.Num (pos n)) ns ++ rest) 0 at k s ≡ onward rest 0 (at + length ns) k (pushed (numbers ns) s)
  numbers_given [] rest at k s = let e : at ≡ at + 0 = omega arith in ap (λ j. onward rest 0 j k s) e
  numbers_given (n ∷ ns) rest at k s =
      let e : at + 1 + length ns ≡ at + suc (length ns) = omega arith in
      numbers_given ns rest (at + 1) k (Num (pos n) ∷ s) ∙ ap (λ j. onward rest 0 j k (pushed (numbers ns) (Num (pos n) ∷ s))) e

  -- an array whose lengths are known
  known_does : (bounded : Type 0) (ns : List ℕ) (t : TType) (xs : List Instr) (r : Doing Location) (at : ℕ) → (bounded → All IsLength ns) → ComesTo program own tables number here code (AreRowsAt program ns t) place_in xs r at → FindsRows bounded (length ns) t (xs ++ map (λ n. i.Num (pos n)) ns) (bind r (λ p. found p (map (λ n. Int (pos n)) ns))) at
  known_does bounded ns t xs r at bound h w known rest k s =
      let tail = map (λ (n : ℕ). i.Num (pos n)) ns in
      let q = at + length (xs ++ tail) in
      let behind : at + length xs + length ns ≡ q = omega (arith, length-append xs tail, length-map ns (λ (n : ℕ). i.Num (pos n))) in
      piece_does program own tables number here code (AreRowsAt program ns t) place_in (WithRows bounded (length ns) t rest q k s) (λ p. found p (map (λ n. Int (pos n)) ns)) xs tail r at rest k s h w known
      (λ w' up p m is e. record {
        is = record { lengths = ns; are = refl; many = refl; at = is; bound = bound };
        run = e ∙ numbers_given ns rest (at + length xs) k (place_in w' p ∷ s)
            ∙ ap (λ j. onward rest 0 j k (pushed (numbers ns) (place_in w' p ∷ s))) behind
            ∙ ap (λ vs. onward rest 0 q k (pushed vs (place_in w' p ∷ s))) (sym (lengths_are w' ns));
      })

  -- that of an array type, and a string constant
  pub array_rows : HasTypes program → (named bounded : Type 0) (u t : TType) (ns : List ℕ) (xs : List Instr) (r : Doing Location) (at : ℕ) → (bounded → All IsLength ns) → IsArrayOf program.types ns (id_of u) (id_of t) → Finds named u xs r at → FindsRows bounded (length ns) t (xs ++ map (λ n. i.Num (pos n)) ns) (bind r (λ p. found p (map (λ n. Int (pos n)) ns))) at
  array_rows typed named bounded u t ns xs r at bound of h =
      known_does bounded ns t xs r at bound
      (λ w known rest k s. does_more program here (Named named u rest (at + length xs) k s) (OnStack tables number here code (AreRowsAt program ns t) place_in rest (at + length xs) k s) w _ r (h w known rest k s)
      (λ w' up p m x. record { is = record { shape = x.is.shape; there = x.is.there; few = x.is.few; holds = with_shape ns of x.is.shape x.is.holds; plain = x.is.plain }; run = x.run }))
    where
      with_shape : (ns : List ℕ) → IsArrayOf program.types ns (id_of u) (id_of t) → (s : Shape Sort) → HoldsType program (id_of u) s → RowsHold program ns (id_of t) s
      with_shape [] of s h = subst (λ v. HoldsType program v s) of h
      with_shape (n ∷ ns) of s h = holds_exactly program typed (id_of u) s (ap is_record of.1) h ∙ nested_shape program.types typed.ranked (n ∷ ns) (id_of u) (id_of t) of

  pub constant_rows : HasTypes program → HasFewCells program → (bounded : Type 0) (m k n : ℕ) (at : ℕ) → (bounded → All IsLength (n ∷ [])) → IsConstantText program (ModuleVar m k) n → FindsRows bounded 1 type.Char (rows_code program own (Known (ModuleVar m k) (n ∷ [])) at) (rows_of program here (Known (ModuleVar m k) (n ∷ []))) at
  constant_rows typed few bounded m k n at bound of =
      known_does bounded (n ∷ []) type.Char (place_code program own (ModuleVar m k) at) (place_of program here (ModuleVar m k)) at bound
      (λ w known rest keeps s. record {
        is = record {
          shape = characters n;
          there = constant_there program w known.modules m k n of;
          few = constant_few program w known.modules m k n of few;
          holds = ap (repeated n) (sym (basic_is_one program typed.predeclared type.Char refl));
          plain = each_repeated IsPlain n (One (Plain (id_of type.Char))) tt;
        };
        run = ap (λ c. onward rest 0 (at + 1) keeps (cell.Place (ModuleRoot m) c 0 ∷ s)) (sym (constant_cell program w known.modules m k n of own));
      })

  -- rows of arrays whose lengths are known
  pub longer_rows : HasTypes program → (bounded more : Type 0) (n : ℕ) (u t : TType) (ns : List ℕ) (xs : List Instr) (r : Doing Found) (at : ℕ) → (more → All IsLength ns) → IsArrayOf program.types ns (id_of u) (id_of t) → FindsRows bounded n u xs r at → FindsRows (bounded × more) (n + length ns) t (xs ++ map (λ n. i.Num (pos n)) ns) (bind r (λ x. found x.place (x.lengths ++ map (λ n. Int (pos n)) ns))) at
  longer_rows typed bounded more n u t ns xs r at bound of h w known rest k s =
      let tail = map (λ (n : ℕ). i.Num (pos n)) ns in
      let q = at + length (xs ++ tail) in
      let behind : at + length xs + length ns ≡ q = omega (arith, length-append xs tail, length-map ns (λ (n : ℕ). i.Num (pos n))) in
      let values = map (λ (n : ℕ). Int (pos n)) ns in
      front_does program own tables number here code (AreFound program bounded n u) rows_cells (WithRows (bounded × more) (n + length ns) t rest q k s) (λ x. found x.place (x.lengths ++ values)) xs tail r at rest k s h w known
      (λ w' up x m is e. record {
        is = record {
          lengths = is.lengths ++ ns;
          are = ap (λ l. l ++ values) is.are ∙ sym (map-append (λ n. Int (pos n)) is.lengths ns);
          many = length-append is.lengths ns ∙ ap (λ j. j + length ns) is.many;
          at = record { shape = is.at.shape; there = is.at.there; few = is.at.few; holds = with_more is.lengths ns of is.at.shape is.at.holds; plain = is.at.plain };
          bound = λ b. All-append IsLength is.lengths ns (is.bound b.0) (bound b.1);
        };
        run = e ∙ numbers_given ns rest (at + length xs) k (pushed (rows_cells w' x) s)
            ∙ ap (λ j. onward rest 0 j k (pushed (numbers ns) (pushed (rows_cells w' x) s))) behind
            ∙ ap (λ cs. onward rest 0 q k (pushed cs (pushed (rows_cells w' x) s))) (sym (lengths_are w' ns))
            ∙ ap (λ st. onward rest 0 q k st) (sym (pushed-append (rows_cells w' x) (map (cell_of w') values) s))
            ∙ ap (λ cs. onward rest 0 q k (pushed (place_in w' x.place ∷ cs) s)) (sym (map-append (cell_of w') x.lengths values));
      })
    where
      nested_more : (ls ns : List ℕ) (s : Shape Sort) → nested ls (nested ns s) ≡ nested (ls ++ ns) s
      nested_more [] ns s = refl
      nested_more (l ∷ ls) ns s = ap (repeated l) (nested_more ls ns s)

      with_more : (ls ns : List ℕ) → IsArrayOf program.types ns (id_of u) (id_of t) → (s : Shape Sort) → RowsHold program ls (id_of u) s → RowsHold program (ls ++ ns) (id_of t) s
      with_more [] [] of s h = subst (λ v. HoldsType program v s) of h
      with_more [] (n ∷ ns) of s h = holds_exactly program typed (id_of u) s (ap is_record of.1) h ∙ nested_shape program.types typed.ranked (n ∷ ns) (id_of u) (id_of t) of
      with_more (l ∷ ls) ns of s h =
          h ∙ ap (nested (l ∷ ls)) (nested_shape program.types typed.ranked ns (id_of u) (id_of t) of) ∙ nested_more (l ∷ ls) ns (variable_shape program.types (id_of t))

  -- Open array parameters

  -- the lengths of one, from the dimension d on: each is in the frame, behind its place
  abbrev LengthsThere : World Sort → (number d : ℕ) → List ℕ → Type 0
  LengthsThere w k d [] = Unit {0}
  LengthsThere w k d (n ∷ ns) =
      (shape_at w (FrameRoot here.below) (k ∷ suc d ∷ []) ≡ Some (One (Length n)))
      × (cell_at w (FrameRoot here.below) (k ∷ suc d ∷ []) ≡ own_cell program own k + suc d) × LengthsThere w k (suc d) ns

  lengths_there_grow : (w w' : World Sort) → Grows w w' → (k d : ℕ) (ns : List ℕ) → LengthsThere w k d ns → LengthsThere w' k d ns
  lengths_there_grow w w' g k d [] h = tt
  lengths_there_grow w w' g k d (n ∷ ns) h = (
    shape_grows w w' g (FrameRoot here.below) (k ∷ suc d ∷ []) (One (Length n)) h.0,
    sym (cell_grows w w' g (FrameRoot here.below) (k ∷ suc d ∷ []) (One (Length n)) h.0) ∙ h.1,
    lengths_there_grow w w' g k (suc d) ns h.2,
  )

  abbrev WithLengths : List ℕ → List Instr → ℕ → Keeps → Stack → World Sort → List Value → Run → Type 0
  WithLengths ns = OnTop tables number here code (λ w vs. vs ≡ map (λ n. Int (pos n)) ns) (λ w vs. map (cell_of w) vs)

  lengths_do : (k : ℕ) (ns : List ℕ) (d c at q : ℕ) → c ≡ own_cell program own k + suc d → q ≡ at + length ns → (w : World Sort) → LengthsThere w k d ns → (rest : List Instr) (ks : Keeps) (s : Stack) → Does program here (WithLengths ns rest q ks s) w (onward (lengths_code c (length ns) ++ rest) 0 at ks s) (lengths_from program here k d (length ns))
  lengths_do k [] d c at q e f w h rest ks s =
      let n : at ≡ q = omega (arith, f) in
      record { is = refl; run = ap (λ j. onward rest 0 j ks s) n }
  lengths_do k (n ∷ ns) d c at q e f w h rest ks s =
      let sp = part_of (suc d) (own_place program here k) in
      let go : Cell → Run = λ x. onward (lengths_code (suc c) (length ns) ++ rest) 0 (at + 1) ks (x ∷ s) in
      let there : c ≡ cell_at w (FrameRoot here.below) (k ∷ suc d ∷ []) = e ∙ sym h.1 in (
        go,
        ap (λ (j : ℕ). Asks (Lengths (record { root = FrameRoot here.below; cell = j })) go) there,
        (refl, n, h.0),
        λ w' up v conforms.
            let is = (conforms (Length n) (place_grows program here w w' up sp (One (Length n)) h.0)).0 in
            does_bind program here (WithLengths ns rest q ks (cell_of w' v ∷ s)) (WithLengths (n ∷ ns) rest q ks s) w' (go (cell_of w' v)) (lengths_from program here k (suc d) (length ns)) (λ vs. Val (v ∷ vs))
            (lengths_do k ns (suc d) (suc c) (at + 1) q (omega (arith, e)) (omega (arith, f)) w' (lengths_there_grow w w' up k (suc d) ns h.2) rest ks (cell_of w' v ∷ s))
            (λ w2 up' vs m p. record {
              is = λ j. is j ∷ p.is j;
              run = p.run ∙ ap (λ x. onward rest 0 q ks (pushed (map (cell_of w2) vs) (x ∷ s))) (ap (cell_of w') is ∙ sym (ap (cell_of w2) is));
            }),
      )

  before_one : (all : List ℕ) (d n : ℕ) → slice_get all d ≡ Some n → before d (row_of_shapes (map (λ n. One (Length n)) all)) ≡ d
  before_one [] d n e = absurd (cc)
  before_one (x ∷ xs) zero n e = refl
  before_one (x ∷ xs) (suc d) n e = let h = before_one xs d n e in omega (arith, h)

  -- the lengths of a parameter that is this part of the frame
  module _ (w : World Sort) (k : ℕ) (m : Shape Sort) (there : shape_at w (FrameRoot here.below) (k ∷ []) ≡ Some m) (at : cell_at w (FrameRoot here.below) (k ∷ []) ≡ own_cell program own k) (of : TypeId) (all : List ℕ) (is : m ≡ Pair (One (Elements of all)) (row_of_shapes (map (λ n. One (Length n)) all))) where
    place_there : shape_at w (FrameRoot here.below) (k ∷ 0 ∷ []) ≡ Some (One (Elements of all))
    place_there = shape_on w (FrameRoot here.below) (k ∷ []) m there (0 ∷ []) ∙ ap (inside (0 ∷ [])) is

    place_cell : cell_at w (FrameRoot here.below) (k ∷ 0 ∷ []) ≡ own_cell program own k
    place_cell = let a = cell_on w (FrameRoot here.below) (k ∷ []) m there (0 ∷ []) in let b = ap (offset (0 ∷ [])) is in omega (arith, a, b, at)

    lengths_there : (d : ℕ) (ns : List ℕ) → ((j : ℕ) → slice_get ns j ≡ slice_get all (d + j)) → LengthsThere w k d ns
    lengths_there d [] e = tt
    lengths_there d (n ∷ ns) e =
        let lengths = row_of_shapes (map (λ n. One (Length n)) all) in
        let z : d + 0 ≡ d = omega arith in
        let get : slice_get all d ≡ Some n = ap (slice_get all) (sym z) ∙ sym (e 0) in
        let part_is : part d lengths ≡ Some (One (Length n)) = part_of_row d (map (λ n. One (Length n)) all) ∙ slice_get-map (λ n. One (Length n)) all d ∙ ap (option_map (λ n. One (Length n))) get in
        let a = cell_on w (FrameRoot here.below) (k ∷ []) m there (suc d ∷ []) in
        let b = ap (offset (suc d ∷ [])) is in
        let c = ap (λ o. 1 + before d lengths + number_of_shape (offset []) o) part_is in
        let g = before_one all d n get in (
          shape_on w (FrameRoot here.below) (k ∷ []) m there (suc d ∷ []) ∙ ap (inside (suc d ∷ [])) is ∙ ap (option_and_then (λ y. Some y)) part_is,
          omega (arith, a, b, c, g, at),
          lengths_there (suc d) ns (λ j. let f : d + suc j ≡ suc d + j = omega arith in e (suc j) ∙ ap (slice_get all) f),
        )

  length-lengths : (c n : ℕ) → length (lengths_code c n) ≡ n
  length-lengths c zero = refl
  length-lengths c (suc n) = ap (λ m. suc m) (length-lengths (suc c) n)

  -- what an open array parameter stands for, on the stack
  elements_found : HasTypes program → (ns : List ℕ) (of : TypeId) (t : TType) → of ≡ id_of t → (w : World Sort) (v : Value) → Is program w (Elements of ns) v → OnPlace (IsReached w) v → AreRowsAt program ns t w (source.place_in v) × (cell_of w v ≡ place_in w (source.place_in v))
  elements_found typed ns of t e w (Place p) h r =
      let there = h ∙ ap (λ u. Some (nested ns (variable_shape program.types u))) e in
      let s = nested ns (variable_shape program.types (id_of t)) in
      (record { shape = s; there = there; few = r s there; holds = rows_hold program typed ns (id_of t); plain = each_nested IsPlain ns (variable_shape program.types (id_of t)) (variable_plain program.types (id_of t)) }, refl)
  elements_found typed ns of t e w (Int z) h r = absurd h
  elements_found typed ns of t e w (Flag b) h r = absurd h
  elements_found typed ns of t e w (Char c) h r = absurd h
  elements_found typed ns of t e w (Set x) h r = absurd h
  elements_found typed ns of t e w (Object o) h r = absurd h
  elements_found typed ns of t e w (Callable p o) h r = absurd h

  abbrev OpenedDoes : (k : ℕ) (t : TType) (at : ℕ) (w : World Sort) (rest : List Instr) (ks : Keeps) (s : Stack) → ℕ → Type 0
  OpenedDoes k t at w rest ks s j =
      Does program here (WithRows (HaveLengths (Opened k j)) j t rest (at + length (rows_code program own (Opened k j) at)) ks s) w (onward (rows_code program own (Opened k j) at ++ rest) 0 at ks s) (rows_of program here (Opened k j))

  pub opened_does : HasTypes program → (k j : ℕ) (t : TType) (at : ℕ) (a : Parameter) → IsParameter program own k a → IsOpening program a j t → FindsRows (HaveLengths (Opened k j)) j t (rows_code program own (Opened k j) at) (rows_of program here (Opened k j)) at
  opened_does typed k j t at a is of w known rest ks s =
      let o = open_there program own here w known.frame k a is of.0 in
      let x = o.opened in
      subst (OpenedDoes k t at w rest ks s) (x.many ∙ sym of.1) (as_many o.part o.there.there o.there.cell x.lengths x.bound x.is)
    where
      as_many : (m : Shape Sort) → shape_at w (FrameRoot here.below) (k ∷ []) ≡ Some m → cell_at w (FrameRoot here.below) (k ∷ []) ≡ own_cell program own k → (ns : List ℕ) → All IsLength ns → m ≡ Pair (One (Elements (open_element program.types (id_of a.of)) ns)) (row_of_shapes (map (λ n. One (Length n)) ns)) → OpenedDoes k t at w rest ks s (length ns)
      as_many m there cell ns bound part_is =
          let e = open_element program.types (id_of a.of) in
          let sort = Elements e ns in
          let c = own_cell program own k in
          let q = at + length (rows_code program own (Opened k (length ns)) at) in
          let sp = part_of 0 (own_place program here k) in
          let go : Cell → Run = λ y. onward (lengths_code (suc c) (length ns) ++ rest) 0 (at + 1) ks (y ∷ s) in
          let first = place_there w k m there cell e ns part_is in
          let n : at + 1 + length ns ≡ q = let l = length-lengths (suc c) (length ns) in omega (arith, l) in (
            go,
            ap (λ (n : ℕ). Asks (Places (record { root = FrameRoot here.below; cell = n })) go) (sym (place_cell w k m there cell e ns part_is)),
            (refl, sort, tt, first),
            λ w' up v conforms.
                let f = elements_found typed ns e t of.2 w' v (conforms.0 sort (place_grows program here w w' up sp (One sort) first)) conforms.1 in
                let lengths = lengths_there_grow w w' up k 0 ns (lengths_there w k m there cell e ns part_is 0 ns (λ j. let z : j ≡ 0 + j = omega arith in ap (slice_get ns) z)) in
                does_bind program here (WithLengths ns rest q ks (cell_of w' v ∷ s)) (WithRows (Unit {0}) (length ns) t rest q ks s) w' (go (cell_of w' v)) (lengths_from program here k 0 (length ns)) (λ vs. found (source.place_in v) vs)
                (lengths_do k ns 0 (suc c) (at + 1) q (omega arith) (omega (arith, n)) w' lengths rest ks (cell_of w' v ∷ s))
                (λ w2 up' vs m' p. record {
                  is = record { lengths = ns; are = p.is; many = refl; at = rows_grow program w' w2 up' ns t (source.place_in v) f.0; bound = λ b. bound };
                  run = p.run ∙ ap (λ y. onward rest 0 q ks (pushed (map (cell_of w2) vs) (y ∷ s))) (f.1 ∙ location_cell w' w2 up' (source.place_in v) f.0.shape f.0.there);
                }),
          )

  -- An element of an array with open dimensions

  row_is : (x : Found) (v : Value) (n : ℕ) (ns : List ℕ) → x.lengths ≡ map (λ n. Int (pos n)) (n ∷ ns) → row_at x v ≡ bind (element_of n v x.place) (λ s. found s (map (λ n. Int (pos n)) ns))
  row_is x v n ns e = ap (λ l. row_at (record { place = x.place; lengths = l }) v) e

  rowed : HasTypes program → (bounded : Type 0) (n d : ℕ) (t : TType) → d ≡ suc n → (w : World Sort) (x : Found) → AreFound program bounded (suc n) t w x → (v : Value) (rest : List Instr) (at q : ℕ) (k : Keeps) (s : Stack) (m : Run) → at + 1 ≡ q → m ≡ onward (i.IndexOpen d (cells_of program own t) ∷ rest) 0 at k (Num (number_of v) ∷ pushed (rows_cells w x) s) → Does program here (WithRows bounded n t rest q k s) w m (row_at x v)
  rowed typed bounded n d t many w x found v rest at q k s m behind e = by found.lengths found.are found.many found.at found.bound
    where
      width : ℕ
      width = cells_of program own t

      by : (ls : List ℕ) → x.lengths ≡ map (λ n. Int (pos n)) ls → length ls ≡ suc n → AreRowsAt program ls t w x.place → (bounded → All IsLength ls) → Does program here (WithRows bounded n t rest q k s) w m (row_at x v)
      by [] are l there bound = absurd (omega (arith, l))
      by (j ∷ ns) are l there bound =
          let inner = nested ns (variable_shape program.types (id_of t)) in
          let step = silent.cells_of ns width in
          let size_is : size inner ≡ step = nested_size ns (variable_shape program.types (id_of t)) ∙ ap (silent.cells_of ns) (variable_size program.types (id_of t)) in
          let all : d ≡ length (j ∷ ns) = many ∙ sym l in
          let cells : pushed (map (cell_of w) x.lengths) (place_in w x.place ∷ s) ≡ pushed (numbers (j ∷ ns)) (place_in w x.place ∷ s) = ap (λ vs. pushed vs (place_in w x.place ∷ s)) (ap (map (cell_of w)) are ∙ lengths_are w (j ∷ ns)) in
          let f : List ℕ → Stack → Act = λ ls s'. silent.in_rows ls (number_of v) width s' in
          let acts : lengths_on d [] f (pushed (map (cell_of w) x.lengths) (place_in w x.place ∷ s)) ≡ f (j ∷ ns) (place_in w x.place ∷ s) = (λ i. lengths_on (all i) [] f (cells i)) ∙ lengths_taken (j ∷ ns) [] f (place_in w x.place ∷ s) ∙ ap (λ ls. f ls (place_in w x.place ∷ s)) (append-nil (j ∷ ns)) in
          subst (Does program here (WithRows bounded n t rest q k s) w m) (sym (row_is x v j ns are))
          (at_element w x.place (nested (j ∷ ns) (variable_shape program.types (id_of t))) inner (there.there ∙ ap (λ z. Some z) there.holds) (subst (λ z. cell_at w x.place.root x.place.path + size z < 2 ^ 32) there.holds there.few) j step
          (λ z less. row_part j inner z less) (λ z less. row_offset j inner z less ∙ ap (λ y. z * y) size_is) v
          (WithRows bounded n t rest q k s) (λ p. source.found p (map (λ n. Int (pos n)) ns)) (length_cells ns) rest at k s m
          (e ∙ ap (λ a. on_run tables a (onward rest) at k) acts)
          (λ p here_is few r. record {
            is = record { lengths = ns; are = refl; many = let l' = l in omega (arith, l'); at = record { shape = inner; there = here_is; few = few; holds = rows_hold program typed ns (id_of t); plain = each_nested IsPlain ns (variable_shape program.types (id_of t)) (variable_plain program.types (id_of t)) }; bound = λ b. All-tail IsLength j ns (bound b) };
            run = r ∙ ap (λ z. onward rest 0 z k (length_cells ns ++ place_in w p ∷ s)) behind
                ∙ ap (λ z. onward rest 0 q k z) (sym (pushed_reverse (numbers ns) (place_in w p ∷ s)))
                ∙ ap (λ vs. onward rest 0 q k (pushed vs (place_in w p ∷ s))) (sym (lengths_are w ns));
          }))

  pub row_does : HasTypes program → (bounded : Type 0) (n d : ℕ) (t : TType) (ca cb : List Instr) (ra : Doing Found) (rb : Doing Value) (at : ℕ) → d ≡ suc n → FindsRows bounded (suc n) t ca ra at → Evaluates program own tables number here code (type.Integer W64) cb rb (at + length ca) → FindsRows bounded n t (operands_code ca cb (i.IndexOpen d (cells_of program own t))) (bind ra (λ x. bind rb (λ v. row_at x v))) at
  row_does typed bounded n d t ca cb ra rb at many ha hb w known rest k s =
      let x = i.IndexOpen d (cells_of program own t) in
      let q = at + length (operands_code ca cb x) in
      let behind : at + length ca + length cb + 1 ≡ q = omega (arith, length-append ca (cb ++ x ∷ []), length-append cb (x ∷ [])) in
      two_do program own tables number here code (AreFound program bounded (suc n) t) rows_cells (OfType (type.Integer W64)) (λ w v. number_in w v ∷ []) (WithRows bounded n t rest q k s) x (λ a v. row_at a v) ca cb ra rb at rest k s (rows_remain bounded (suc n) t) ha hb w known
      (λ w' a v m found is e. rowed typed bounded n d t many w' a found v rest (at + length ca + length cb) q k s m behind e)

  -- an element behind all dimensions
  pub of_does : (bounded : Type 0) (t : TType) (xs : List Instr) (r : Doing Found) (at : ℕ) → FindsRows bounded 0 t xs r at → Finds ⊥ t xs (bind r (λ x. Val x.place)) at
  of_does bounded t xs r at h w known rest k s =
      does_bind program here (WithRows bounded 0 t rest (at + length xs) k s) (Named ⊥ t rest (at + length xs) k s) w _ r (λ x. Val x.place) (h w known rest k s)
      (λ w' up x m p. by w' x m p.is.lengths p.is.are p.is.many p.is.at p.run)
    where
      by : (w : World Sort) (x : Found) (m : Run) (ls : List ℕ) → x.lengths ≡ map (λ n. Int (pos n)) ls → length ls ≡ 0 → AreRowsAt program ls t w x.place → m ≡ onward rest 0 (at + length xs) k (pushed (rows_cells w x) s) → Named ⊥ t rest (at + length xs) k s w x.place m
      by w x m (l ∷ ls) are n there e = absurd (omega (arith, n))
      by w x m [] are n there e =
          record {
            is = record { shape = there.shape; there = there.there; few = there.few; holds = there.holds; plain = there.plain; names = λ z. absurd z };
            run = e ∙ ap (λ vs. onward rest 0 (at + length xs) k (pushed (map (cell_of w) vs) (place_in w x.place ∷ s))) are;
          }

  -- Texts are rows of characters.

  module _ (predeclared : HasPredeclared program) where
    text_is : (bounded : Type 0) (w : World Sort) (x : Found) → AreFound program bounded 1 type.Char w x → IsText w x × (rows_cells w x ≡ text_cells w x)
    text_is bounded w x f = by f.lengths f.are f.many f.at
      where
        by : (ls : List ℕ) → x.lengths ≡ map (λ n. Int (pos n)) ls → length ls ≡ 1 → AreRowsAt program ls type.Char w x.place → IsText w x × (rows_cells w x ≡ text_cells w x)
        by [] are n there = absurd (omega (arith, n))
        by (l ∷ m ∷ ls) are n there = absurd (omega (arith, n))
        by (l ∷ []) are n there =
            let length_is : text_length x ≡ Int (pos l) = ap (λ vs. unwrap_or (slice_get vs 0) (Int (pos 0))) are in (
              (l, length_is, there.there ∙ ap (λ z. Some z) there.holds ∙ ap (λ z. Some (repeated l z)) (basic_is_one program predeclared type.Char refl)),
              ap (λ vs. place_in w x.place ∷ vs) (ap (map (cell_of w)) are ∙ ap (λ v. cell_of w v ∷ []) (sym length_is)),
            )

    pub rows_text : (bounded : Type 0) (xs : List Instr) (r : Doing Found) (at : ℕ) → FindsRows bounded 1 type.Char xs r at → FindsText xs r at
    rows_text bounded xs r at h w known rest k s =
        does_more program here (WithRows bounded 1 type.Char rest (at + length xs) k s) (OnTop tables number here code IsText text_cells rest (at + length xs) k s) w _ r (h w known rest k s)
        (λ w' up x m p. let t = text_is bounded w' x p.is in record { is = t.0; run = p.run ∙ ap (λ vs. onward rest 0 (at + length xs) k (pushed vs s)) t.1 })

    room_is : (bounded : Type 0) (w : World Sort) (x : Found) → bounded → AreFound program bounded 1 type.Char w x → IsRoom w x
    room_is bounded w x b f = by f.lengths f.are f.many f.at (f.bound b)
      where
        by : (ls : List ℕ) → x.lengths ≡ map (λ n. Int (pos n)) ls → length ls ≡ 1 → AreRowsAt program ls type.Char w x.place → All IsLength ls → IsRoom w x
        by [] are n there long = absurd (omega (arith, n))
        by (l ∷ m ∷ ls) are n there long = absurd (omega (arith, n))
        by (l ∷ []) are n there long = (
          l,
          ap (λ vs. unwrap_or (slice_get vs 0) (Int (pos 0))) are,
          there.there ∙ ap (λ z. Some z) there.holds ∙ ap (λ z. Some (repeated l z)) (basic_is_one program predeclared type.Char refl),
          (let h = (long 0 l (omega arith)).0 in omega (arith, h)),
        )

    pub rows_room : (bounded : Type 0) (xs : List Instr) (r : Doing Found) (at : ℕ) → bounded → FindsRows bounded 1 type.Char xs r at → FindsRoom xs r at
    rows_room bounded xs r at b h w known rest k s =
        does_more program here (WithRows bounded 1 type.Char rest (at + length xs) k s) (OnTop tables number here code IsRoom text_cells rest (at + length xs) k s) w _ r (h w known rest k s)
        (λ w' up x m p. record { is = room_is bounded w' x b p.is; run = p.run ∙ ap (λ vs. onward rest 0 (at + length xs) k (pushed vs s)) (text_is bounded w' x p.is).1 })
