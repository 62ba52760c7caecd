-- Arrays within one another, and open arrays, by what is met of their elements.
use Rattle.std.specs.Prelude.{ℕ, List, [], ◌∷◌, Bool, true, false, Option, Some, None}
use Rattle.aos_base.specs.declared.text.Pos.{Pos}
use Rattle.aos_types.specs.declared.row.TypeId.{TypeId}
use Rattle.aos_types.specs.declared.row.TypeRow.TheVariants as row
use Rattle.aos_symbols.specs.declared.env.Env.{Env}
use Rattle.aos_symbols.specs.Judged.{Judged, kept, bind}
pub use Rattle.aos_made_types.specs.Met.{Met, met, refused_type, placed}

-- an array of this length, whose elements are of what is met
abbrev pub array_of : Option TypeId → Pos → ℕ → Met → Met
array_of slot at n m = on_element m.of
  where
    on_element : Option TypeId → Met
    on_element None = m
    on_element (Some t) = placed slot at (row.Array n t) m.env

-- arrays within one another, the innermost last: `ARRAY a, b OF T` is `ARRAY a OF ARRAY b OF T`
abbrev pub inner_arrays : Pos → List ℕ → Met → Met
inner_arrays at [] m = m
inner_arrays at (n ∷ ns) m = array_of None at n (inner_arrays at ns m)

abbrev pub arrays : Option TypeId → Pos → Option (List ℕ) → Met → Met
arrays slot at None m = met m.env None
arrays slot at (Some []) m = met m.env None
arrays slot at (Some (n ∷ ns)) m = array_of slot at n (inner_arrays at ns m)

-- an open array, whose elements are of what is met
abbrev pub open_of : Option TypeId → Pos → Met → Met
open_of slot at m = on_element m.of
  where
    on_element : Option TypeId → Met
    on_element None = m
    on_element (Some t) = placed slot at (row.Open t) m.env

-- an open array stands where it may alone
abbrev pub open_in : (may_be_open : Bool) → Option TypeId → Env → Pos → Judged Met → Judged Met
open_in false slot e at element = refused_type 21 at e
open_in true slot e at element = bind element (λ m. kept (open_of slot at m))
