-- An object that is made: both sides have room for it or none, and its cells show what it holds.
use Rattle.std.proofs.Common.{◌≡◌, ℕ, zero, suc, ◌+◌, ◌≤◌, ◌<◌, ◌^◌, max, Bool, true, false, ◌&&◌, List, [], ◌∷◌, ◌++◌, length, map, Option, Some, None, if◌then◌else◌, refl, sym, ap, ◌∙◌, arith}
use Rattle.std.specs.Prelude.{All, nat_le, sum_by, option_map, option_and_then}
use Rattle.std.specs.List.{list_all}
use Rattle.std.proofs.lemmas.Bool.{leb-true, and_parts}
use Rattle.std.proofs.lemmas.List.{map-append, length-map}
use Rattle.std.proofs.lemmas.List.Sums.{sum_by-cons}
use Rattle.std.proofs.lemmas.List.Elements.{All-nil, All-cons}
use Rattle.aos_base.specs.declared.limits.TheConstants.{MOST_SCALARS}
use Rattle.aos_base.specs.declared.number.Width.TheVariants.{W64}
use Rattle.aos_base.specs.Rooted.{Made}
use Rattle.aos_types.specs.declared.row.TypeId.{TypeId}
use Rattle.aos_types.specs.declared.row.TypeRow.{TypeRow}
use Rattle.aos_types.specs.declared.row.TypeRow.TheVariants as row
use Rattle.aos_types.specs.Table.{row_of, is_open}
use Rattle.aos_types.specs.Shape.{Shape, size, repeated, leaves, shaped}
use Rattle.aos_types.specs.Contents.{contents, of_variable}
use Rattle.aos_types.specs.Content.{Content, flatten, first_content, Fits, EachSort}
use Rattle.aos_types.specs.World.{World}
use Rattle.aos_typed.specs.declared.tree.TType.TheVariants as type
use Rattle.aos_typed.specs.Numbers.{id_of_made}
use Rattle.aos_typed.specs.Open.{open_element}
use Rattle.aos_typed.specs.Program.{Program}
use Rattle.aos_typed.specs.Sort.{Sort, Plain, variable_shape, object_shape}
use Rattle.aos_typed.specs.Source.{first_value, shape_made, made_shape}
use Rattle.aos_typed.specs.Store as store
use Rattle.aos_typed.specs.Store.{Store}
use Rattle.aos_typed.specs.Typing.{Is, IsPlain, nested}
use Rattle.aos_typed.specs.Value.{Value, number_of}
use Rattle.aos_code.specs.declared.instr.Cell.{Cell}
use Rattle.aos_code.specs.declared.instr.Kind.{Kind}
use Rattle.aos_code.specs.Memory as memory
use Rattle.aos_code.specs.Memory.{Memory}
use Rattle.aos_code.specs.Machine as I
use Rattle.aos_code.specs.Machine.{first_cell}
use Rattle.aos_layout.specs.Layout.{kind_of, kinds}
use Rattle.aos_layout.proofs.Frames.{flatten_shaped}
use Rattle.aos_memory_laws.specs.Shows.{AllShown}
use Rattle.aos_memory_laws.proofs.Zoom.{as_many}
use Rattle.aos_memory_laws.proofs.Makes.{first_fits, first_cells}
use Rattle.aos_sim.specs.Cells.{cell_of}
use Rattle.aos_sim.specs.Shows.{type_kinds}
use Rattle.aos_sim.proofs.Types.{number_cell, integer_is}
use Rattle.aos_sim.proofs.Kept.{values_kept}
use Rattle.aos_sim.proofs.Parts.{each_nested, variable_plain, object_plain}
use Rattle.aos_sim.proofs.Does.{AreIntegers}
use Rattle.aos_sim.proofs.First.{zero_cell, first_is, first_same, part_cells}
use Rattle.aos_sim.proofs.States.{world_of, SameStore}

all_few : (ns : List ℕ) → list_all (λ n. nat_le n MOST_SCALARS) ns ≡ true → All (λ n. n ≤ MOST_SCALARS) ns
all_few [] e = All-nil (λ n. n ≤ MOST_SCALARS)
all_few (n ∷ ns) e =
    let p = and_parts (nat_le n MOST_SCALARS) (list_all (λ n. nat_le n MOST_SCALARS) ns) e in
    All-cons (λ n. n ≤ MOST_SCALARS) n ns (leb-true n MOST_SCALARS p.0) (all_few ns p.1)

-- numbers that are to be lengths are found in their cells
pub numbers_found : (ps : List ℕ) (w : World Sort) (vs : List Value) → AreIntegers vs → I.numbers_in ps (map (cell_of w) vs) ≡ Some (map number_of vs)
numbers_found ps w [] h = refl
numbers_found ps w (v ∷ vs) h =
    ap (λ c. option_and_then (λ z. option_map (λ zs. z ∷ zs) (I.numbers_in ps (map (cell_of w) vs))) (I.number_in ps c)) (number_cell w (type.Integer W64) v (integer_is W64 v h.0))
    ∙ ap (option_map (λ zs. number_of v ∷ zs)) (numbers_found ps w vs h.1)

module _ (program : Program) where
  -- no scalar of an object is a place
  pub made_plain : (m : Made) → EachSort IsPlain (made_shape program.types m)
  made_plain m = by (row_of program.types (id_of_made m.type))
    where
      own : EachSort IsPlain (object_shape program.types (id_of_made m.type))
      own = object_plain program.types (id_of_made m.type)

      by : (o : Option TypeRow) → EachSort IsPlain (shape_made program.types m o)
      by None = own
      by (Some (row.Basic b)) = own
      by (Some (row.Array n of)) = own
      by (Some (row.Open of)) =
          let e = open_element program.types (id_of_made m.type) in
          each_nested IsPlain m.lengths (variable_shape program.types e) (variable_plain program.types e)
      by (Some (row.Record base fields)) = own
      by (Some (row.Pointer to)) = own
      by (Some (row.Object base fields)) = own
      by (Some (row.Procedure formals r)) = own
      by (Some row.Any) = own

  -- The cells that it is made with.

  abbrev zeros : Shape Sort → List Cell
  zeros s = map (zero_cell program) (leaves s)

  abbrev firsts : List Kind → List Cell
  firsts ks = map first_cell ks

  module _ (ps : List ℕ) where
    times_zeros : (n : ℕ) (s : Shape Sort) → I.times ps n (zeros s) ≡ zeros (repeated n s)
    times_zeros zero s = refl
    times_zeros (suc n) s = ap (λ l. zeros s ++ l) (times_zeros n s) ∙ sym (map-append (zero_cell program) (leaves s) (leaves (repeated n s)))

    rows_zeros : (ns : List ℕ) (s : Shape Sort) → I.in_rows ps ns (zeros s) ≡ zeros (nested ns s)
    rows_zeros [] s = refl
    rows_zeros (n ∷ ns) s = ap (I.times ps n) (rows_zeros ns s) ∙ times_zeros n (nested ns s)

    kinds_zeros : (s : Shape TypeId) → firsts (map (kind_of program.types) (leaves s)) ≡ zeros (shaped Plain s)
    kinds_zeros s = ap firsts (sym (flatten_shaped (kind_of program.types) s)) ∙ part_cells program s

    -- what is no open array has no lengths
    pub made_cells : (m : Made) → (is_open (row_of program.types (id_of_made m.type)) ≡ false → m.lengths ≡ []) → I.in_rows ps m.lengths (firsts (type_kinds program.types (id_of_made m.type))) ≡ zeros (made_shape program.types m)
    made_cells m closed = by (row_of program.types (id_of_made m.type)) refl
      where
        id : TypeId
        id = id_of_made m.type

        picked : Bool → List Kind
        picked b =
            if b
            then map (kind_of program.types) (leaves (of_variable (contents program.types) program.types (open_element program.types (id_of_made m.type))))
            else kinds program.types (id_of_made m.type)

        other : (o : Option TypeRow) → row_of program.types (id_of_made m.type) ≡ o → is_open o ≡ false → shape_made program.types m o ≡ object_shape program.types (id_of_made m.type) → I.in_rows ps m.lengths (firsts (type_kinds program.types (id_of_made m.type))) ≡ zeros (made_shape program.types m)
        other o e isnt is =
            let none = closed (ap is_open e ∙ isnt) in
            ap (λ ns. I.in_rows ps ns (firsts (type_kinds program.types (id_of_made m.type)))) none
            ∙ ap (λ b. firsts (picked b)) (ap is_open e ∙ isnt)
            ∙ kinds_zeros (contents program.types (id_of_made m.type))
            ∙ ap zeros (sym is) ∙ ap (λ z. zeros (shape_made program.types m z)) (sym e)

        by : (o : Option TypeRow) → row_of program.types (id_of_made m.type) ≡ o → I.in_rows ps m.lengths (firsts (type_kinds program.types (id_of_made m.type))) ≡ zeros (made_shape program.types m)
        by (Some (row.Open of)) e =
            let x = open_element program.types (id_of_made m.type) in
            ap (λ b. I.in_rows ps m.lengths (firsts (picked b))) (ap is_open e)
            ∙ ap (I.in_rows ps m.lengths) (kinds_zeros (of_variable (contents program.types) program.types x))
            ∙ rows_zeros m.lengths (variable_shape program.types x)
            ∙ ap (λ z. zeros (shape_made program.types m z)) (sym e)
        by None e = other None e refl refl
        by (Some (row.Basic b)) e = other (Some (row.Basic b)) e refl refl
        by (Some (row.Array n of)) e = other (Some (row.Array n of)) e refl refl
        by (Some (row.Record base fields)) e = other (Some (row.Record base fields)) e refl refl
        by (Some (row.Pointer to)) e = other (Some (row.Pointer to)) e refl refl
        by (Some (row.Object base fields)) e = other (Some (row.Object base fields)) e refl refl
        by (Some (row.Procedure formals r)) e = other (Some (row.Procedure formals r)) e refl refl
        by (Some row.Any) e = other (Some row.Any) e refl refl

  -- The room for it.

  abbrev pub begun : Made → Content Value
  begun m = first_content (first_value program) (made_shape program.types m)

  objects_counted : (w : World Sort) (ss : List (Shape Sort)) (cs : List (Content Value)) (ys : List (List Cell)) → AllShown (Is program) cell_of w ss cs ys → sum_by memory.counted ys ≡ sum_by store.counted cs
  objects_counted w [] [] [] h = refl
  objects_counted w [] [] (y ∷ ys) h = absurd h
  objects_counted w [] (c ∷ cs) ys h = absurd h
  objects_counted w (s ∷ ss) [] ys h = absurd h
  objects_counted w (s ∷ ss) (c ∷ cs) [] h = absurd h
  objects_counted w (s ∷ ss) (c ∷ cs) (y ∷ ys) h =
      sum_by-cons memory.counted y ys
      ∙ (λ i. max 1 ((ap length h.0.same ∙ length-map (flatten c) (cell_of w)) i) + objects_counted w ss cs ys h.1 i)
      ∙ sym (sum_by-cons store.counted c cs)

  module _ (s : Store) (mem : Memory) (stores : SameStore program s mem) (m : Made) where
    abbrev cells : List Cell
    cells = zeros (made_shape program.types m)

    abbrev now : World Sort
    now = world_of program s.made []

    begun_fits : Fits (Is program now) (made_shape program.types m) (begun m)
    begun_fits = first_fits (Is program) cell_of IsPlain (values_kept program) (first_value program) (zero_cell program) (first_is program) (first_same program) now (made_shape program.types m) (made_plain m)

    begun_cells : map (cell_of now) (flatten (begun m)) ≡ cells
    begun_cells = first_cells (Is program) cell_of IsPlain (values_kept program) (first_value program) (zero_cell program) (first_is program) (first_same program) now (made_shape program.types m)

    long : length cells ≡ length (flatten (begun m))
    long = ap length (sym begun_cells) ∙ length-map (flatten (begun m)) (cell_of now)

    -- both have it or none
    pub room_same : memory.has_room m cells mem ≡ store.has_room m (begun m) s
    room_same =
        let sums = objects_counted now (map (made_shape program.types) s.made) s.objects mem.objects stores.of_objects in
        λ i. list_all (λ n. nat_le n MOST_SCALARS) m.lengths && nat_le (max 1 (long i) + sums i) MOST_SCALARS

    -- where there is, the object has few cells, and its lengths are few
    pub roomy : store.has_room m (begun m) s ≡ true → (size (made_shape program.types m) < 2 ^ 32) × All (λ n. n ≤ MOST_SCALARS) m.lengths
    roomy e =
        let p = and_parts (list_all (λ n. nat_le n MOST_SCALARS) m.lengths) (nat_le (store.counted (begun m) + sum_by store.counted s.objects) MOST_SCALARS) e in
        let l = leb-true (store.counted (begun m) + sum_by store.counted s.objects) MOST_SCALARS p.1 in
        let many = as_many (Is program now) (made_shape program.types m) (begun m) begun_fits in
        (omega (arith, l, many), all_few m.lengths p.0)
