-- A whole record or array is copied in the store and in the memory alike.
use Rattle.std.proofs.Common.{◌≡◌, ℕ, List, length, take, map, Some, true, refl, sym, ap, ◌∙◌, subst, arith}
use Rattle.std.specs.Prelude.{is_some, option_map, option_and_then}
use Rattle.std.proofs.lemmas.Bool.{eq-eqb}
use Rattle.std.proofs.lemmas.List.{length-take-le}
use Rattle.aos_base.specs.Rooted.{Made, Rooted, load_all, store_all}
use Rattle.aos_types.specs.Shape.{Shape, size, join}
use Rattle.aos_types.specs.Content.{Content, flatten, overlay, EachSort}
use Rattle.aos_types.specs.Contents.{variable_scalars}
use Rattle.aos_types.specs.World.{World, world, read, write}
use Rattle.aos_typed.specs.declared.tree.TType.{TType}
use Rattle.aos_typed.specs.Program.{Program}
use Rattle.aos_typed.specs.Numbers.{id_of}
use Rattle.aos_typed.specs.Sort.{Sort, variable_shape}
use Rattle.aos_typed.specs.Location.{Location}
use Rattle.aos_typed.specs.Value.{Value}
use Rattle.aos_typed.specs.Typing.{Is, IsPlain}
use Rattle.aos_code.specs.declared.instr.Cell.{Cell}
use Rattle.aos_code.specs.Machine.{if_all, cells_at}
use Rattle.aos_memory_laws.specs.Shows.{Shows}
use Rattle.aos_memory_laws.proofs.Places.{size_join, loads_alike, copy_alike}
use Rattle.aos_sim.specs.Cells.{cell_of}
use Rattle.aos_sim.proofs.Kept.{values_kept}
use Rattle.aos_sim.proofs.Parts.{variable_size, each_join, variable_plain}
use Rattle.aos_sim.proofs.Does.{scheme, addr_of, HasWhole}
use Rattle.aos_sim.proofs.Objects.{some_same}

pub all_there : (n : ℕ) (cells : List Cell) → length cells ≡ n → if_all n cells ≡ Some cells
all_there n cells e = rw (eq-eqb (length cells) n e) refl

module _ (program : Program) (made : List Made) (frames : List (Shape Sort)) (x : Rooted (Content Value)) (y : Rooted (List Cell)) (shows : Shows (Is program) cell_of (scheme program) made frames x y) (t : TType) where
  abbrev now : World Sort
  now = world (scheme program) made frames

  abbrev shape : Shape Sort
  shape = variable_shape program.types (id_of t)

  -- all cells of the type at a place
  record AllCells (p : Location) : Type 0 where
    cells : List Cell
    loaded : load_all (variable_scalars program.types (id_of t)) p.root (addr_of now p).cell y ≡ Some cells
    there : cells_at (variable_scalars program.types (id_of t)) (addr_of now p) y ≡ Some cells

  all_cells : (p : Location) → HasWhole program now p (id_of t) → AllCells p
  all_cells p h =
      let n = variable_scalars program.types (id_of t) in
      let size_is : size shape ≡ n = variable_size program.types (id_of t) in
      let a = loads_alike (Is program) cell_of IsPlain (values_kept program) (scheme program) made frames x y n (join shape h.0) p.root p.path shows h.1 (let l = size_join shape h.0 in omega (arith, size_is, l)) in
      let cells = take n (map (cell_of now) (flatten a.inner)) in
      let many : length cells ≡ n = length-take-le n (map (cell_of now) (flatten a.inner)) (let l = a.long in let z = size_join shape h.0 in omega (arith, l, size_is, z)) in
      record { cells = cells; loaded = a.image; there = ap (option_and_then (if_all n)) a.image ∙ all_there n cells many }

  -- what both sides find, and that the one shows the other behind the copy
  pub record CopiedAlike (from to : Location) : Type 0 where
    pub new : Content Value
    pub old : Content Value
    pub read_from : read from.root from.path x ≡ Some new
    pub read_to : read to.root to.path x ≡ Some old
    pub cells : List Cell
    pub image : cells_at (variable_scalars program.types (id_of t)) (addr_of now from) y ≡ Some cells
    pub there : is_some (cells_at (variable_scalars program.types (id_of t)) (addr_of now to) y) ≡ true
    pub alike : Shows (Is program) cell_of (scheme program) made frames (write to.root to.path (overlay shape new old) x) (store_all to.root (addr_of now to).cell cells y)

  pub copied_alike : (from to : Location) → HasWhole program now from (id_of t) → HasWhole program now to (id_of t) → CopiedAlike from to
  copied_alike from to hf ht =
      let plain : EachSort IsPlain (join shape ht.0) = each_join IsPlain shape ht.0 (variable_plain program.types (id_of t)) ht.2 in
      let c = copy_alike (Is program) cell_of IsPlain (values_kept program) (scheme program) made frames x y shape hf.0 ht.0 from.root from.path to.root to.path shows hf.1 ht.1 plain in
      let a = all_cells from hf in
      let stored = λ (cells : List Cell). store_all to.root (addr_of now to).cell cells y in
      let loaded : load_all (size shape) from.root (addr_of now from).cell y ≡ Some a.cells = ap (λ m. load_all m from.root (addr_of now from).cell y) (variable_size program.types (id_of t)) ∙ a.loaded in
      let same : c.after ≡ stored a.cells = some_same c.after (stored a.cells) (sym c.image ∙ ap (option_map stored) loaded) in
      record {
        new = c.inner;
        old = c.old;
        read_from = c.read_from;
        read_to = c.read_to;
        cells = a.cells;
        image = a.there;
        there = ap is_some (all_cells to ht).there;
        alike = subst (Shows (Is program) cell_of (scheme program) made frames (write to.root to.path (overlay shape c.inner c.old) x)) same c.alike;
      }
