-- What a call hands over: the parts of the frame that it makes, in order its parameters, its locals, and the copies of open arrays
-- that are passed by value (Oberon-2 report, 10.1).
use Rattle.std.specs.Prelude.{ℕ, suc, pos, List, [], ◌∷◌, ◌++◌, take, drop, map, if◌then◌else◌, Option, Some, None, unsigned_abs}
use Rattle.aos_base.specs.declared.root.Root.TheVariants.{Frame as FrameRoot}
use Rattle.aos_base.specs.Rooted.{Rooted}
use Rattle.aos_types.specs.declared.row.TypeId.{TypeId}
use Rattle.aos_types.specs.declared.row.TypeRow.{TypeRow}
use Rattle.aos_types.specs.Table.{row_of, is_open, is_record, is_scalar}
use Rattle.aos_types.specs.Shape.{Shape, One, Pair, repeated, row}
use Rattle.aos_types.specs.Content.{Content, Scalar, Empty, Row, cut}
use Rattle.aos_types.specs.World.{read}
use Rattle.aos_typed.specs.Program.{Parameter}
use Rattle.aos_typed.specs.Numbers.{id_of}
use Rattle.aos_typed.specs.Open.{open_dimensions, open_element}
use Rattle.aos_typed.specs.Sort.{Sort, Plain, Variable, Alias, Elements, Length, variable_shape}
use Rattle.aos_typed.specs.Location.{InFrame}
use Rattle.aos_typed.specs.Value.{Value, Int, Place, number_of}
use Rattle.aos_typed.specs.Meaning.{place_in}

-- a part of a frame: what it holds, and its shape
pub record Part : Type 0 where
  pub content : Content Value
  pub shape : Shape Sort

pub record Handed : Type 0 where
  pub parameters : List Part
  pub copies : List Part

-- rows within one another, of these lengths
abbrev pub nested : {S : Type 0} → List ℕ → Shape S → Shape S
nested [] s = s
nested (n ∷ ns) s = repeated n (nested ns s)

abbrev pub content_row : List (Content Value) → Content Value
content_row [] = Empty
content_row (c ∷ cs) = Row c (content_row cs)

abbrev pub hand : Part → List Part → Handed → Handed
hand part copies h = record { parameters = part ∷ h.parameters; copies = copies ++ h.copies }

-- the first value; there is one for each parameter
abbrev pub head : List Value → Value
head [] = Int (pos 0)
head (v ∷ vs) = v

-- a scalar, and a whole record or array, which is copied
abbrev pub scalar : Sort → Value → Part
scalar k v = record { content = Scalar v; shape = One k }

abbrev pub or_empty : Option (Content Value) → Content Value
or_empty None = Empty
or_empty (Some c) = c

-- the lengths of an array's dimensions as numbers
abbrev pub naturals : List Value → List ℕ
naturals vs = map (λ v. unsigned_abs (number_of v)) vs

-- an open array: its place, and the lengths of its dimensions
abbrev pub open_part : TypeId → Value → List Value → Part
open_part of place lengths =
    record {
      content = Row (Scalar place) (content_row (map (λ v. Scalar v) lengths));
      shape = Pair (One (Elements of (naturals lengths))) (row (map (λ n. One (Length n)) (naturals lengths)));
    }

-- in a frame above so many others, from the contents below the roots of its activity
module _ (rows : List TypeRow) (here : ℕ) (x : Rooted (Content Value)) where
  abbrev pub content_at : Value → Content Value
  content_at v = let s = place_in v in or_empty (read s.root s.path x)

  abbrev pub whole : TypeId → Value → Part
  whole t v = let s = variable_shape rows t in record { content = cut s (content_at v); shape = s }

  -- the part with this number of the frame itself
  abbrev pub own_part : ℕ → Value
  own_part k = Place (record { root = FrameRoot here; path = k ∷ []; type = 0; of = InFrame })

  abbrev pub copied : TypeId → Value → List Value → Part
  copied of place lengths = record { content = content_at place; shape = nested (naturals lengths) (variable_shape rows of) }

  -- these values for these parameters; the next copy is the part of this number
  abbrev pub handed : List Parameter → List Value → (copy : ℕ) → Handed
  handed [] vs copy = record { parameters = []; copies = [] }
  handed (a ∷ as') vs copy =
      let t = id_of a.of in
      let v = head vs in
      let j = open_dimensions rows t in
      let lengths = take j (drop 1 vs) in
      let of = open_element rows t in
      if is_open (row_of rows t)
      then (if a.by_reference
      then hand (open_part of v lengths) [] (handed as' (drop (suc j) vs) copy)
      else hand (open_part of (own_part copy) lengths) (copied of v lengths ∷ []) (handed as' (drop (suc j) vs) (suc copy)))
      else if a.by_reference then hand (scalar (if is_record (row_of rows t) then Variable t else Alias t) v) [] (handed as' (drop 1 vs) copy)
      else if is_scalar (row_of rows t) then hand (scalar (Plain t) v) [] (handed as' (drop 1 vs) copy)
      else hand (whole t v) [] (handed as' (drop 1 vs) copy)
