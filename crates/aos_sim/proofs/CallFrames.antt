-- What a call hands over makes a frame on both sides, of which the one shows the other.
use Rattle.std.proofs.Common.{append_assoc, append-nil, ◌≡◌, ℕ, suc, ◌+◌, pos, Bool, true, false, not, if◌then◌else◌, Option, Some, None, List, [], ◌∷◌, ◌++◌, length, map, take, drop, refl, sym, ap, ◌∙◌, subst, arith}
use Rattle.std.specs.Prelude.{All, option_map, option_and_then}
use Rattle.std.proofs.lemmas.List.{map-append, length-map, take_at, drop_at}
use Rattle.std.proofs.lemmas.List.Elements.{All-tail}
use Rattle.aos_base.specs.declared.root.Root.TheVariants.{Frame as FrameRoot}
use Rattle.aos_base.specs.Rooted.{Made, Rooted, load_all}
use Rattle.aos_types.specs.declared.row.TypeId.{TypeId}
use Rattle.aos_types.specs.declared.row.TypeRow.{TypeRow}
use Rattle.aos_types.specs.declared.row.TypeRow.TheVariants as type
use Rattle.aos_types.specs.Table.{row_of as type_row, is_open, is_scalar, is_object}
use Rattle.aos_types.specs.Chain.{IsRanked}
use Rattle.aos_types.specs.Shape.{Shape, One, Nothing, Pair, size, join, row, shaped}
use Rattle.aos_types.specs.Contents.{with_parts, unfolded}
use Rattle.aos_types.specs.Content.{Content, Scalar, Row, flatten, cut, Fits}
use Rattle.aos_types.specs.World.{World, Grows, shape_at, cell_at, world}
use Rattle.aos_typed.specs.Program.{Parameter, Program}
use Rattle.aos_typed.specs.Numbers.{id_of}
use Rattle.aos_typed.specs.Open.{open_dimensions, open_element}
use Rattle.aos_typed.specs.Sort.{Sort, Plain, Elements, Length, variable_shape}
use Rattle.aos_typed.specs.Location.{Location}
use Rattle.aos_typed.specs.Value.{Value, Int, Place}
use Rattle.aos_typed.specs.Typing.{Is, IsPlain, nested}
use Rattle.aos_typed.specs.CallFrame as H
use Rattle.aos_typed.specs.CallFrame.{Part, Handed, hand, head, scalar, naturals, content_row, or_empty, open_part}
use Rattle.aos_typed.specs.Source.{row_of}
use Rattle.aos_typed.specs.WellTyped.{is_whole, IsLength}
use Rattle.aos_code.specs.declared.instr.Cell.{Cell}
use Rattle.aos_code.specs.declared.instr.Cell.TheVariants as cell
use Rattle.aos_code.specs.declared.image.ParamKind.{ParamKind}
use Rattle.aos_code.specs.declared.image.ParamKind.TheVariants as param
use Rattle.aos_code.specs.Silent.{cells_of}
use Rattle.aos_code.specs.Machine as I
use Rattle.aos_code.specs.Machine.{if_all}
use Rattle.aos_layout.specs.Layout.{cells, kind_of}
use Rattle.aos_layout.specs.Frame.{parameter_kind}
use Rattle.aos_memory_laws.specs.Shows.{Shown, Shows}
use Rattle.aos_memory_laws.proofs.Wholes.{shown_pair, shown_long, whole_alike, first_alike}
use Rattle.aos_sim.specs.Cells.{cell_of}
use Rattle.aos_sim.proofs.Kept.{values_kept}
use Rattle.aos_sim.proofs.Parts.{nested_size, cells_size, whole_ends}
use Rattle.aos_sim.proofs.Does.{scheme, alias_sort, IsPart, Handles, Given}
use Rattle.aos_sim.proofs.First.{all_get}
use Rattle.aos_sim.proofs.Copied.{all_there}

-- Rows of parts

abbrev pub shape_of_parts : List Part → Shape Sort
shape_of_parts ps = row (map (λ p. p.shape) ps)

abbrev pub content_of_parts : List Part → Content Value
content_of_parts ps = row_of (map (λ p. p.content) ps)

flatten_parts : (ps qs : List Part) → flatten (content_of_parts (ps ++ qs)) ≡ flatten (content_of_parts ps) ++ flatten (content_of_parts qs)
flatten_parts [] qs = refl
flatten_parts (p ∷ ps) qs =
    ap (λ l. flatten p.content ++ l) (flatten_parts ps qs) ∙ sym (append_assoc (flatten p.content) (flatten (content_of_parts ps)) (flatten (content_of_parts qs)))

pub size_parts : (ps qs : List Part) → size (shape_of_parts (ps ++ qs)) ≡ size (shape_of_parts ps) + size (shape_of_parts qs)
size_parts [] qs = omega arith
size_parts (p ∷ ps) qs = let h = size_parts ps qs in omega (arith, h)

-- what code knows of a parameter's declaration
pub record Taken : Type 0 where
  pub opens : Bool
  pub by_reference : Bool
  pub of : TypeId

abbrev pub taken_as : List TypeRow → Parameter → Taken
taken_as rows a = record { opens = is_open (type_row rows (id_of a.of)); by_reference = a.by_reference; of = id_of a.of }

-- parts are those of parameters with these declarations
abbrev pub AreParts : Program → List Taken → List Part → Type 0
AreParts p [] [] = Unit {0}
AreParts p [] (x ∷ xs) = ⊥
AreParts p (k ∷ ks) [] = ⊥
AreParts p (k ∷ ks) (x ∷ xs) = IsPart p k.opens k.by_reference k.of x.shape × AreParts p ks xs

-- the lengths of an array, as values
abbrev pub lengths_of : List ℕ → List Value
lengths_of ns = map (λ n. Int (pos n)) ns

naturals_of : (ns : List ℕ) → naturals (lengths_of ns) ≡ ns
naturals_of [] = refl
naturals_of (n ∷ ns) = ap (λ l. n ∷ l) (naturals_of ns)

-- a variable whose values are scalars is one
scalar_variable : (rows : List TypeRow) (t : TypeId) → is_scalar (type_row rows t) ≡ true → variable_shape rows t ≡ One (Plain t)
scalar_variable rows t e = by (type_row rows t) refl e
  where
    of_row : (o : Option TypeRow) → type_row rows t ≡ o → variable_shape rows t ≡ shaped Plain (if is_object o then One t else with_parts (unfolded (length rows) rows) rows t o)
    of_row o here = ap (λ z. shaped Plain (if is_object z then One t else with_parts (unfolded (length rows) rows) rows t z)) here

    by : (o : Option TypeRow) → type_row rows t ≡ o → is_scalar o ≡ true → variable_shape rows t ≡ One (Plain t)
    by None here e' = absurd (cc)
    by (Some (type.Basic b)) here e' = of_row (Some (type.Basic b)) here
    by (Some (type.Array n of)) here e' = absurd (cc)
    by (Some (type.Open of)) here e' = absurd (cc)
    by (Some (type.Record base fields)) here e' = absurd (cc)
    by (Some (type.Pointer to)) here e' = of_row (Some (type.Pointer to)) here
    by (Some (type.Object base fields)) here e' = of_row (Some (type.Object base fields)) here
    by (Some (type.Procedure formals r)) here e' = of_row (Some (type.Procedure formals r)) here
    by (Some type.Any) here e' = of_row (Some type.Any) here

-- what is no scalar is a row that ends
other_ends : (rows : List TypeRow) → IsRanked rows → (t : TypeId) → is_scalar (type_row rows t) ≡ false → join (variable_shape rows t) Nothing ≡ variable_shape rows t
other_ends rows ranked t e = by (type_row rows t) refl e
  where
    nothing : (o : Option TypeRow) → type_row rows t ≡ o → shaped Plain (if is_object o then One t else with_parts (unfolded (length rows) rows) rows t o) ≡ Nothing → join (variable_shape rows t) Nothing ≡ variable_shape rows t
    nothing o here n =
        let is : variable_shape rows t ≡ Nothing = ap (λ z. shaped Plain (if is_object z then One t else with_parts (unfolded (length rows) rows) rows t z)) here ∙ n in
        ap (λ s. join s Nothing) is ∙ sym is

    by : (o : Option TypeRow) → type_row rows t ≡ o → is_scalar o ≡ false → join (variable_shape rows t) Nothing ≡ variable_shape rows t
    by None here e' = nothing None here refl
    by (Some (type.Basic b)) here e' = absurd (cc)
    by (Some (type.Array n of)) here e' = whole_ends rows ranked t (ap is_whole here)
    by (Some (type.Open of)) here e' = nothing (Some (type.Open of)) here refl
    by (Some (type.Record base fields)) here e' = whole_ends rows ranked t (ap is_whole here)
    by (Some (type.Pointer to)) here e' = absurd (cc)
    by (Some (type.Object base fields)) here e' = absurd (cc)
    by (Some (type.Procedure formals r)) here e' = absurd (cc)
    by (Some type.Any) here e' = absurd (cc)

module _ (program : Program) (w : World Sort) where
  -- the parts of a row are shown by these cells
  abbrev pub PartsShown : List Part → List Cell → Type 0
  PartsShown ps ys = Shown (Is program) cell_of w (shape_of_parts ps) (content_of_parts ps) ys

  pub none_shown : PartsShown [] []
  none_shown = record { fits = tt; same = refl }

  pub more_shown : (p : Part) (ps : List Part) (y z : List Cell) → Shown (Is program) cell_of w p.shape p.content y → PartsShown ps z → PartsShown (p ∷ ps) (y ++ z)
  more_shown p ps y z h k = shown_pair (Is program) cell_of w p.shape (shape_of_parts ps) p.content (content_of_parts ps) y z h k

  fits_parts : (ps qs : List Part) → Fits (Is program w) (shape_of_parts ps) (content_of_parts ps) → Fits (Is program w) (shape_of_parts qs) (content_of_parts qs) → Fits (Is program w) (shape_of_parts (ps ++ qs)) (content_of_parts (ps ++ qs))
  fits_parts [] qs h k = k
  fits_parts (p ∷ ps) qs h k = (h.0, fits_parts ps qs h.1 k)

  -- one row behind another
  pub parts_shown : (ps qs : List Part) (y z : List Cell) → PartsShown ps y → PartsShown qs z → PartsShown (ps ++ qs) (y ++ z)
  parts_shown ps qs y z h k =
      record {
        fits = fits_parts ps qs h.fits k.fits;
        same = (λ j. h.same j ++ k.same j) ∙ sym (map-append (cell_of w) (flatten (content_of_parts ps)) (flatten (content_of_parts qs)))
            ∙ ap (map (cell_of w)) (sym (flatten_parts ps qs));
      }

  -- the lengths of an open array
  lengths_shown : (v : World Sort) (ns : List ℕ) → All IsLength ns → Shown (Is program) cell_of w (row (map (λ n. One (Length n)) ns)) (content_row (map (λ u. Scalar u) (lengths_of ns))) (map (cell_of v) (lengths_of ns))
  lengths_shown v [] h = record { fits = tt; same = refl }
  lengths_shown v (n ∷ ns) h =
      shown_pair (Is program) cell_of w (One (Length n)) (row (map (λ m. One (Length m)) ns)) (Scalar (Int (pos n))) (content_row (map (λ u. Scalar u) (lengths_of ns))) (cell.Num (pos n) ∷ []) (map (cell_of v) (lengths_of ns))
      (record { fits = (refl, (all_get IsLength (n ∷ ns) 0 n h refl).1); same = refl }) (lengths_shown v ns (All-tail IsLength n ns h))

  -- the next copies in a frame above so many stand behind one another, from this part and this cell on
  abbrev pub Stand : (here copy at : ℕ) → List Part → Type 0
  Stand here copy at [] = Unit {0}
  Stand here copy at (c ∷ cs) =
      (shape_at w (FrameRoot here) (copy ∷ []) ≡ Some c.shape) × (cell_at w (FrameRoot here) (copy ∷ []) ≡ at)
      × Stand here (suc copy) (at + size c.shape) cs

module _ (ps : List ℕ) (w : World Sort) where
  lengths_found : (ns : List ℕ) → I.lengths_in ps (map (cell_of w) (lengths_of ns)) ≡ Some ns
  lengths_found [] = refl
  lengths_found (n ∷ ns) = ap (option_map (λ l. n ∷ l)) (lengths_found ns)

-- in a world behind those of these frames
module _ (program : Program) (made : List Made) (frames : List (Shape Sort)) (x : Rooted (Content Value)) (y : Rooted (List Cell)) (shows : Shows (Is program) cell_of (scheme program) made frames x y) (w : World Sort) (up : Grows (world (scheme program) made frames) w) (here : ℕ) (ps : List ℕ) (ranked : IsRanked program.types) where
  abbrev now : World Sort
  now = world (scheme program) made frames

  abbrev rows : List TypeRow
  rows = program.types

  abbrev IsShown : Shape Sort → Content Value → List Cell → Type 0
  IsShown = Shown (Is program) cell_of w

  abbrev parameters : List Parameter → List Value → ℕ → Handed
  parameters = H.handed rows here x

  abbrev cells_handed : List ParamKind → List Cell → ℕ → Option (I.Handed ps)
  cells_handed = I.handed ps here y

  -- both hand over, and the cells show the parts, where the copies stand behind one another from this part and this cell on
  pub record Alike (ks : List Taken) (h : Handed) (o : Option (I.Handed ps)) (copy at : ℕ) : Type 0 where
    pub cells : List Cell
    pub copies : List Cell
    pub image : o ≡ Some (record { cells = cells; copies = copies })
    pub parameters : Stand program w here copy at h.copies → PartsShown program w h.parameters cells
    pub copied : PartsShown program w h.copies copies
    pub parts : AreParts program ks h.parameters

  -- one more part, which may have a copy
  one_more : (k : Taken) (ks : List Taken) (p : Part) (cs : List Part) (ys zs : List Cell) (h : Handed) (o : Option (I.Handed ps)) (copy at copy' at' : ℕ) → IsPart program k.opens k.by_reference k.of p.shape → (Stand program w here copy at (cs ++ h.copies) → IsShown p.shape p.content ys × Stand program w here copy' at' h.copies) → PartsShown program w cs zs → Alike ks h o copy' at' → Alike (k ∷ ks) (hand p cs h) (option_map (I.hand ps ys zs) o) copy at
  one_more k ks p cs ys zs h o copy at copy' at' is part shown a =
      record {
        cells = ys ++ a.cells;
        copies = zs ++ a.copies;
        image = ap (option_map (I.hand ps ys zs)) a.image;
        parameters = λ st. more_shown program w p h.parameters ys a.cells (part st).0 (a.parameters (part st).1);
        copied = parts_shown program w cs h.copies zs a.copies shown a.copied;
        parts = (is, a.parts);
      }

  -- a scalar
  scalar_shown : (k : Sort) (v : Value) → Is program now k v → IsShown (One k) (Scalar v) (cell_of now v ∷ [])
  scalar_shown k v h =
      record { fits = (values_kept program).is now w up k v h; same = ap (λ c. c ∷ []) ((values_kept program).cells now w up k v h) }

  -- what stands at a place, so many cells
  record Found (p : Location) (s : Shape Sort) (n : ℕ) : Type 0 where
    cells : List Cell
    there : I.whole_at ps n (cell_of now (Place p)) y ≡ Some cells
    shown : IsShown s (H.content_at rows here x (Place p)) cells

  found : (p : Location) (s : Shape Sort) (n : ℕ) → size s ≡ n → shape_at now p.root p.path ≡ Some s → Found p s n
  found p s n many at =
      let a = whole_alike (Is program) cell_of IsPlain (values_kept program) (scheme program) made frames x y w up p.root p.path s shows at in
      let long = shown_long (Is program) cell_of w s a.inner a.cells a.shown ∙ many in
      record {
        cells = a.cells;
        there = ap (option_and_then (if_all n)) (ap (λ m. load_all m p.root (cell_at now p.root p.path) y) (sym many) ∙ a.image) ∙ all_there n a.cells long;
        shown = subst (λ o. IsShown s (or_empty o) a.cells) (sym a.source) a.shown;
      }

  -- the parts of a shape with which it begins
  record Begun (p : Location) (s : Shape Sort) (n : ℕ) : Type 0 where
    cells : List Cell
    there : I.whole_at ps n (cell_of now (Place p)) y ≡ Some cells
    shown : IsShown s (cut s (H.content_at rows here x (Place p))) cells

  begun : (p : Location) (s more : Shape Sort) (n : ℕ) → join s Nothing ≡ s → size s ≡ n → shape_at now p.root p.path ≡ Some (join s more) → Begun p s n
  begun p s more n ends many at =
      let a = first_alike (Is program) cell_of IsPlain (values_kept program) (scheme program) made frames x y w up p.root p.path s more ends shows at in
      let long = shown_long (Is program) cell_of w s (cut s a.inner) a.cells a.shown ∙ many in
      record {
        cells = a.cells;
        there = ap (option_and_then (if_all n)) (ap (λ m. load_all m p.root (cell_at now p.root p.path) y) (sym many) ∙ a.image) ∙ all_there n a.cells long;
        shown = subst (λ o. IsShown s (cut s (or_empty o)) a.cells) (sym a.source) a.shown;
      }

  -- an open array's place and lengths
  open_shown : (of : TypeId) (v : Value) (ns : List ℕ) (c : Cell) → Is program w (Elements of ns) v → cell_of w v ≡ c → All IsLength ns → let part = open_part of v (lengths_of ns) in IsShown part.shape part.content (c ∷ map (cell_of now) (lengths_of ns))
  open_shown of v ns c is at lengths =
      subst (λ l. IsShown (Pair (One (Elements of l)) (row (map (λ n. One (Length n)) l))) (Row (Scalar v) (content_row (map (λ u. Scalar u) (lengths_of ns)))) (c ∷ map (cell_of now) (lengths_of ns))) (sym (naturals_of ns))
      (shown_pair (Is program) cell_of w (One (Elements of ns)) (row (map (λ n. One (Length n)) ns)) (Scalar v) (content_row (map (λ u. Scalar u) (lengths_of ns))) (c ∷ []) (map (cell_of now) (lengths_of ns))
      (record { fits = is; same = ap (λ z. z ∷ []) (sym at) }) (lengths_shown program w now ns lengths))

  -- what is handed over for a parameter by these kinds of it, before the others
  module _ (a : Parameter) (as' : List Parameter) where
    abbrev t : TypeId
    t = id_of a.of

    abbrev of : TypeId
    of = open_element rows t

    abbrev many : ℕ
    many = open_dimensions rows t

    abbrev stepped : (opens by_reference scalar : Bool) → List Value → ℕ → Handed
    stepped o r c vs copy =
        let v = head vs in
        let lengths = take many (drop 1 vs) in
        if o
        then (if r
        then hand (open_part of v lengths) [] (parameters as' (drop (suc many) vs) copy)
        else hand (open_part of (H.own_part rows here x copy) lengths) (H.copied rows here x of v lengths ∷ []) (parameters as' (drop (suc many) vs) (suc copy)))
        else if r then hand (scalar (alias_sort rows t) v) [] (parameters as' (drop 1 vs) copy)
        else if c then hand (scalar (Plain t) v) [] (parameters as' (drop 1 vs) copy)
        else hand (H.whole rows here x t v) [] (parameters as' (drop 1 vs) copy)

    abbrev kind : (opens by_reference scalar : Bool) → ParamKind
    kind o r c =
        if o then param.Open many (not r) (size (cells rows of))
        else if r then param.Place
        else if c then param.Scalar (kind_of rows t)
        else param.Whole (size (cells rows t))

    -- by these kinds
    abbrev taken_so : (opens by_reference : Bool) → Taken
    taken_so o r = record { opens = o; by_reference = r; of = t }

    abbrev taken_others : List Taken
    taken_others = map (taken_as rows) as'

    abbrev others : List Value → ℕ → Handed
    others vs copy = parameters as' vs copy

    abbrev cells_of_others : List Cell → ℕ → Option (I.Handed ps)
    cells_of_others cs at = cells_handed (map (parameter_kind rows) as') cs at

    -- the first of them, where the others are handed over alike
    abbrev OthersAlike : List Value → Type 0
    OthersAlike rest = (copy at : ℕ) → Alike taken_others (others rest copy) (cells_of_others (map (cell_of now) rest) at) copy at

    abbrev FirstAlike : Bool → Bool → Bool → List Value → ℕ → ℕ → Type 0
    FirstAlike o r c vs copy at =
        Alike (taken_so o r ∷ taken_others) (stepped o r c vs copy) (cells_handed (kind o r c ∷ map (parameter_kind rows) as') (map (cell_of now) vs) at) copy at

    -- one value
    one_alike : (r c : Bool) (us rest : List Value) (copy at : ℕ) → c ≡ is_scalar (type_row rows t) → Handles program false r c now t us → OthersAlike rest → FirstAlike false r c (us ++ rest) copy at
    one_alike true c us rest copy at e h ih =
        let v = h.0 in
        let k = alias_sort rows t in
        subst (λ l. FirstAlike false true c (l ++ rest) copy at) (sym h.1)
        (one_more (taken_so false true) taken_others (scalar k v) [] (cell_of now v ∷ []) [] (others rest copy) (cells_of_others (map (cell_of now) rest) at) copy at copy at refl (λ st. (scalar_shown k v h.2, st)) (none_shown program w) (ih copy at))
    one_alike false true us rest copy at e h ih =
        let v = h.0 in
        subst (λ l. FirstAlike false false true (l ++ rest) copy at) (sym h.1)
        (one_more (taken_so false false) taken_others (scalar (Plain t) v) [] (cell_of now v ∷ []) [] (others rest copy) (cells_of_others (map (cell_of now) rest) at) copy at copy at (sym (scalar_variable rows t (sym e))) (λ st. (scalar_shown (Plain t) v h.2, st)) (none_shown program w) (ih copy at))
    one_alike false false us rest copy at e h ih =
        let v = Place h.0 in
        let a = begun h.0 (variable_shape rows t) h.2.0 (size (cells rows t)) (other_ends rows ranked t (sym e)) (cells_size rows t) h.2.1 in
        let more = one_more (taken_so false false) taken_others (H.whole rows here x t v) [] a.cells [] (others rest copy) (cells_of_others (map (cell_of now) rest) at) copy at copy at refl (λ st. (a.shown, st)) (none_shown program w) (ih copy at) in
        subst (λ l. FirstAlike false false false (l ++ rest) copy at) (sym h.1)
        (subst (λ o. Alike (taken_so false false ∷ taken_others) (hand (H.whole rows here x t v) [] (others rest copy)) (option_and_then (λ cs. option_map (I.hand ps cs []) (cells_of_others (map (cell_of now) rest) at)) o) copy at) (sym a.there) more)

    -- an open array, with its place and its lengths first
    opening : (v : Value) (ns : List ℕ) → length ns ≡ many → All IsLength ns → (r : Bool) → IsPart program true r t (open_part of v (lengths_of ns)).shape
    opening v ns long lengths r =
        (ns, long, lengths, ap (λ l. Pair (One (Elements of l)) (row (map (λ n. One (Length n)) l))) (naturals_of ns))

    module _ (p : Location) (ns : List ℕ) (rest : List Value) (long : length ns ≡ many) (is : Is program now (Elements of ns) (Place p)) (lengths : All IsLength ns) where
      abbrev first : List Value
      first = lengths_of ns

      abbrev handed_cells : List Cell
      handed_cells = map (cell_of now) first

      taken : take many (first ++ rest) ≡ first
      taken = take_at first rest many (length-map ns (λ n. Int (pos n)) ∙ long)

      dropped : drop many (first ++ rest) ≡ rest
      dropped = drop_at first rest many (length-map ns (λ n. Int (pos n)) ∙ long)

      long_cells : length handed_cells ≡ many
      long_cells = length-map first (cell_of now) ∙ length-map ns (λ n. Int (pos n)) ∙ long

      taken_cells : take many (map (cell_of now) (first ++ rest)) ≡ handed_cells
      taken_cells = ap (take many) (map-append (cell_of now) first rest) ∙ take_at handed_cells (map (cell_of now) rest) many long_cells

      dropped_cells : drop many (map (cell_of now) (first ++ rest)) ≡ map (cell_of now) rest
      dropped_cells = ap (drop many) (map-append (cell_of now) first rest) ∙ drop_at handed_cells (map (cell_of now) rest) many long_cells

      abbrev place : Cell
      place = cell_of now (Place p)

      -- by reference
      abbrev referred : List Value → List Value → ℕ → Handed
      referred ls vs copy = hand (open_part of (Place p) ls) [] (others vs copy)

      abbrev image_referred : List Cell → List Cell → Option (List ℕ) → ℕ → Option (I.Handed ps)
      image_referred ls cs o at = option_and_then (λ l. option_map (I.hand ps (place ∷ ls) []) (cells_of_others cs at)) o

      referred_alike : (copy at : ℕ) → OthersAlike rest → FirstAlike true true true (Place p ∷ (first ++ rest)) copy at
      referred_alike copy at ih =
          let part = open_part of (Place p) first in
          let source : referred first rest copy ≡ stepped true true true (Place p ∷ (first ++ rest)) copy = λ j. referred (sym taken j) (sym dropped j) copy in
          let image : image_referred handed_cells (map (cell_of now) rest) (Some ns) at ≡ image_referred (take many (map (cell_of now) (first ++ rest))) (drop many (map (cell_of now) (first ++ rest))) (I.lengths_in ps (take many (map (cell_of now) (first ++ rest)))) at = (λ j. image_referred handed_cells (map (cell_of now) rest) (sym (lengths_found ps now ns) j) at) ∙ (λ j. image_referred (sym taken_cells j) (sym dropped_cells j) (I.lengths_in ps (sym taken_cells j)) at) in
          let shown = open_shown of (Place p) ns place ((values_kept program).is now w up (Elements of ns) (Place p) is) (sym ((values_kept program).cells now w up (Elements of ns) (Place p) is)) lengths in
          let alike = one_more (taken_so true true) taken_others part [] (place ∷ handed_cells) [] (others rest copy) (cells_of_others (map (cell_of now) rest) at) copy at copy at (opening (Place p) ns long lengths true) (λ st. (shown, st)) (none_shown program w) (ih copy at) in
          subst (λ h. Alike (taken_so true true ∷ taken_others) h (cells_handed (kind true true true ∷ map (parameter_kind rows) as') (map (cell_of now) (Place p ∷ (first ++ rest))) at) copy at) source
          (subst (λ o. Alike (taken_so true true ∷ taken_others) (referred first rest copy) o copy at) image alike)

      -- by value: its elements are copied
      abbrev copied : List Value → List Value → ℕ → Handed
      copied ls vs copy = hand (open_part of (H.own_part rows here x copy) ls) (H.copied rows here x of (Place p) ls ∷ []) (others vs (suc copy))

      abbrev image_copied : List Cell → List Cell → Option (List ℕ) → ℕ → Option (I.Handed ps)
      image_copied ls cs o at =
          option_and_then (λ l. I.copied_open ps here y at ls (I.whole_at ps (cells_of l (size (cells rows of))) place y) (λ at'. cells_of_others cs at')) o

      abbrev elements : Shape Sort
      elements = nested ns (variable_shape rows of)

      there : shape_at now p.root p.path ≡ Some elements
      there = is

      copied_alike : (copy at : ℕ) → OthersAlike rest → FirstAlike true false true (Place p ∷ (first ++ rest)) copy at
      copied_alike copy at ih =
          let here_part = H.own_part rows here x copy in
          let part = open_part of here_part first in
          let copy_part = H.copied rows here x of (Place p) first in
          let source : copied first rest copy ≡ stepped true false true (Place p ∷ (first ++ rest)) copy = λ j. copied (sym taken j) (sym dropped j) copy in
          let image : image_copied handed_cells (map (cell_of now) rest) (Some ns) at ≡ image_copied (take many (map (cell_of now) (first ++ rest))) (drop many (map (cell_of now) (first ++ rest))) (I.lengths_in ps (take many (map (cell_of now) (first ++ rest)))) at = (λ j. image_copied handed_cells (map (cell_of now) rest) (sym (lengths_found ps now ns) j) at) ∙ (λ j. image_copied (sym taken_cells j) (sym dropped_cells j) (I.lengths_in ps (sym taken_cells j)) at) in
          let same : copy_part.shape ≡ elements = ap (λ l. nested l (variable_shape rows of)) (naturals_of ns) in
          let a = found p elements (cells_of ns (size (cells rows of))) (nested_size ns (variable_shape rows of) ∙ ap (cells_of ns) (cells_size rows of)) there in
          let next = at + length a.cells in
          let far : at + size copy_part.shape ≡ next = ap (λ n. at + n) (ap size same ∙ sym (shown_long (Is program) cell_of w elements (H.content_at rows here x (Place p)) a.cells a.shown)) in
          let whole : PartsShown program w (copy_part ∷ []) a.cells = subst (PartsShown program w (copy_part ∷ [])) (append-nil a.cells)
          (more_shown program w copy_part [] a.cells [] (subst (λ z. IsShown z copy_part.content a.cells) (sym same) a.shown) (none_shown program w)) in
          let stands : Stand program w here copy at (copy_part ∷ (others rest (suc copy)).copies) → IsShown part.shape part.content (cell.Place (FrameRoot here) at 0 ∷ handed_cells) × Stand program w here (suc copy) next (others rest (suc copy)).copies = λ st. (
            open_shown of here_part ns (cell.Place (FrameRoot here) at 0) (st.0 ∙ ap (λ z. Some z) same) (ap (λ n. cell.Place (FrameRoot here) n 0) st.1) lengths,
            subst (λ n. Stand program w here (suc copy) n (others rest (suc copy)).copies) far st.2,
          ) in
          let alike = one_more (taken_so true false) taken_others part (copy_part ∷ []) (cell.Place (FrameRoot here) at 0 ∷ handed_cells) a.cells (others rest (suc copy)) (cells_of_others (map (cell_of now) rest) next) copy at (suc copy) next (opening here_part ns long lengths false) stands whole (ih (suc copy) next) in
          let image_found : option_map (I.hand ps (cell.Place (FrameRoot here) at 0 ∷ handed_cells) a.cells) (cells_of_others (map (cell_of now) rest) next) ≡ image_copied handed_cells (map (cell_of now) rest) (Some ns) at = ap (λ o. I.copied_open ps here y at handed_cells o (λ at'. cells_of_others (map (cell_of now) rest) at')) (sym a.there) in
          subst (λ h. Alike (taken_so true false ∷ taken_others) h (cells_handed (kind true false true ∷ map (parameter_kind rows) as') (map (cell_of now) (Place p ∷ (first ++ rest))) at) copy at) source
          (subst (λ o. Alike (taken_so true false ∷ taken_others) (copied first rest copy) o copy at) (image_found ∙ image) alike)

    -- of each kind
    each_alike : (o r c : Bool) (us rest : List Value) (copy at : ℕ) → c ≡ is_scalar (type_row rows t) → Handles program o r c now t us → OthersAlike rest → FirstAlike o r c (us ++ rest) copy at
    each_alike false r c us rest copy at e h ih = one_alike r c us rest copy at e h ih
    each_alike true true c us rest copy at e h ih =
        subst (λ l. FirstAlike true true c (l ++ rest) copy at) (sym h.2) (referred_alike h.0 h.1 rest h.3 h.4 h.5 copy at ih)
    each_alike true false c us rest copy at e h ih =
        subst (λ l. FirstAlike true false c (l ++ rest) copy at) (sym h.2) (copied_alike h.0 h.1 rest h.3 h.4 h.5 copy at ih)

  -- all that is handed over
  pub handed_alike : (as' : List Parameter) (vs : List Value) (copy at : ℕ) → Given program now as' vs → Alike (map (taken_as rows) as') (parameters as' vs copy) (cells_handed (map (parameter_kind rows) as') (map (cell_of now) vs) at) copy at
  handed_alike [] vs copy at g =
      record { cells = []; copies = []; image = refl; parameters = λ st. none_shown program w; copied = none_shown program w; parts = tt }
  handed_alike (a ∷ as') vs copy at g =
      let o = is_open (type_row rows (id_of a.of)) in
      let c = is_scalar (type_row rows (id_of a.of)) in
      let alike = each_alike a as' o a.by_reference c g.0 g.1 copy at refl g.3 (λ copy' at'. handed_alike as' g.1 copy' at' g.4) in
      subst (λ l. Alike (map (taken_as rows) (a ∷ as')) (parameters (a ∷ as') l copy) (cells_handed (map (parameter_kind rows) (a ∷ as')) (map (cell_of now) l) at) copy at) (sym g.2) alike
