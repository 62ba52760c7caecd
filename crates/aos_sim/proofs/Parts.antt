-- The parts of what a place holds: what they are, and where their cells stand.
use Rattle.std.proofs.Common.{◌≡◌, ℕ, zero, suc, ◌+◌, ◌*◌, ◌<◌, ◌≤◌, true, false, List, [], ◌∷◌, ◌++◌, map, Option, Some, None, if◌then◌else◌, refl, sym, ap, ◌∙◌, arith}
use Rattle.std.specs.Prelude.{slice_get, option_map, option_and_then}
use Rattle.aos_base.specs.declared.root.Root.{Root}
use Rattle.aos_types.specs.declared.row.TypeId.{TypeId}
use Rattle.aos_types.specs.declared.row.TypeRow.{TypeRow}
use Rattle.aos_types.specs.declared.row.TypeRow.TheVariants as row
use Rattle.aos_types.specs.Table.{row_of, is_object}
use Rattle.aos_types.specs.Shape as shape
use Rattle.aos_types.specs.Shape.{Shape, One, Nothing, Pair, size, join, repeated, part, before, inside, offset, number_of, shaped}
use Rattle.aos_types.specs.Contents.{of_variable, of_base, with_parts, contents, variable_scalars}
use Rattle.aos_types.specs.Content.{EachSort}
use Rattle.aos_types.specs.Chain.{IsRanked}
use Rattle.aos_types.specs.World.{World, shape_at, cell_at}
use Rattle.aos_types.proofs.Offsets.{inside_within}
use Rattle.std.proofs.Math.Nat.{suc-mul}
use Rattle.aos_types.proofs.Tables.{by_parts}
use Rattle.aos_typed.specs.Sort.{Plain, variable_shape, object_shape}
use Rattle.aos_typed.specs.Typing.{IsPlain, nested}
use Rattle.aos_typed.specs.WellTyped.{is_whole}
use Rattle.aos_code.specs.Silent as silent
use Rattle.aos_layout.specs.Layout.{cells, kind_of}
use Rattle.aos_layout.proofs.Frames.{size_shaped}
use Rattle.aos_layout.proofs.Joins.{part_repeated, before_repeated, join_assoc, row_ends, repeated_ends}

-- Ways

module _ {S : Type 0} where
  -- a way that goes on where another leads to
  inside_on : (p q : List ℕ) (s m : Shape S) → inside p s ≡ Some m → inside (p ++ q) s ≡ inside q m
  inside_on [] q s m e = let h : s ≡ m = cc in ap (inside q) h
  inside_on (i ∷ p) q s m e = at_part (λ n f. inside_on p q n m f) (part i s) e
    where
      at_part : ((n : Shape S) → inside p n ≡ Some m → inside (p ++ q) n ≡ inside q m) → (o : Option (Shape S)) → option_and_then (inside p) o ≡ Some m → option_and_then (inside (p ++ q)) o ≡ inside q m
      at_part on None f = absurd (cc)
      at_part on (Some n) f = on n f

  offset_on : (p q : List ℕ) (s m : Shape S) → inside p s ≡ Some m → offset (p ++ q) s ≡ offset p s + offset q m
  offset_on [] q s m e = let h : s ≡ m = cc in let k = ap (offset q) h in omega (arith, k)
  offset_on (i ∷ p) q s m e = at_part (λ n f. offset_on p q n m f) (part i s) e
    where
      at_part : ((n : Shape S) → inside p n ≡ Some m → offset (p ++ q) n ≡ offset p n + offset q m) → (o : Option (Shape S)) → option_and_then (inside p) o ≡ Some m → before i s + number_of (offset (p ++ q)) o ≡ before i s + number_of (offset p) o + offset q m
      at_part on None f = absurd (cc)
      at_part on (Some n) f = let h = on n f in omega (arith, h)

  -- before one part
  pub before_step : (i : ℕ) (s : Shape S) → offset (i ∷ []) s ≡ before i s
  before_step i s = let h = no_more (part i s) in omega (arith, h)
    where
      no_more : (o : Option (Shape S)) → number_of (offset []) o ≡ 0
      no_more None = refl
      no_more (Some m) = refl

  module _ (w : World S) (r : Root) (p : List ℕ) (s : Shape S) (e : shape_at w r p ≡ Some s) where
    -- a part of what a place holds
    pub shape_on : (q : List ℕ) → shape_at w r (p ++ q) ≡ inside q s
    shape_on q = by_root (w.shape r) e
      where
        by_root : (o : Option (Shape S)) → option_and_then (inside p) o ≡ Some s → option_and_then (inside (p ++ q)) o ≡ inside q s
        by_root None f = absurd (cc)
        by_root (Some whole) f = inside_on p q whole s f

    pub cell_on : (q : List ℕ) → cell_at w r (p ++ q) ≡ cell_at w r p + offset q s
    cell_on q = by_root (w.shape r) e
      where
        by_root : (o : Option (Shape S)) → option_and_then (inside p) o ≡ Some s → number_of (offset (p ++ q)) o ≡ number_of (offset p) o + offset q s
        by_root None f = absurd (cc)
        by_root (Some whole) f = offset_on p q whole s f

-- what a way leads to lies among the cells of its root
pub within_root : {S : Type 0} (w : World S) (r : Root) (whole : Shape S) → w.shape r ≡ Some whole → (p : List ℕ) (m : Shape S) → shape_at w r p ≡ Some m → cell_at w r p + size m ≤ size whole
within_root w r whole there p m e =
    let within = inside_within p whole m (ap (option_and_then (inside p)) (sym there) ∙ e) in
    let at = ap (number_of (offset p)) there in
    omega (arith, within, at)

-- Rows within one another

size_repeated : {S : Type 0} (n : ℕ) (s : Shape S) → size (repeated n s) ≡ n * size s
size_repeated zero s = omega arith
size_repeated (suc n) s = let h = size_repeated n s in let m = suc-mul n (size s) in omega (arith, h, m)

-- how many cells rows have
pub nested_size : {S : Type 0} (ns : List ℕ) (s : Shape S) → size (nested ns s) ≡ silent.cells_of ns (size s)
nested_size [] s = refl
nested_size (n ∷ ns) s = size_repeated n (nested ns s) ∙ ap (λ m. n * m) (nested_size ns s)

-- an element of rows, and its first cell
pub row_part : {S : Type 0} (n : ℕ) (s : Shape S) (i : ℕ) → i < n → inside (i ∷ []) (repeated n s) ≡ Some s
row_part n s i l = ap (option_and_then (λ m. Some m)) (part_repeated n i s l)

pub row_offset : {S : Type 0} (n : ℕ) (s : Shape S) (i : ℕ) → i < n → offset (i ∷ []) (repeated n s) ≡ i * size s
row_offset n s i l = before_step i (repeated n s) ∙ before_repeated n i s l

-- Shapes with other scalars

module _ {S T : Type 0} (f : S → T) where
  pub part_shaped : (i : ℕ) (s : Shape S) → part i (shaped f s) ≡ option_map (shaped f) (part i s)
  part_shaped i (One k) = refl
  part_shaped i Nothing = refl
  part_shaped zero (Pair a b) = refl
  part_shaped (suc i) (Pair a b) = part_shaped i b

  pub before_shaped : (i : ℕ) (s : Shape S) → before i (shaped f s) ≡ before i s
  before_shaped i (One k) = refl
  before_shaped i Nothing = refl
  before_shaped zero (Pair a b) = refl
  before_shaped (suc i) (Pair a b) = λ j. size_shaped f a j + before_shaped i b j

  shaped_repeated : (n : ℕ) (s : Shape S) → shaped f (repeated n s) ≡ repeated n (shaped f s)
  shaped_repeated zero s = refl
  shaped_repeated (suc n) s = ap (Pair (shaped f s)) (shaped_repeated n s)

  pub shaped_join : (a b : Shape S) → shaped f (join a b) ≡ join (shaped f a) (shaped f b)
  shaped_join (One k) b = refl
  shaped_join Nothing b = refl
  shaped_join (Pair x y) b = ap (Pair (shaped f x)) (shaped_join y b)

  -- a row that ends
  shaped_ends : (s : Shape S) → join s Nothing ≡ s → join (shaped f s) Nothing ≡ shaped f s
  shaped_ends s e = sym (shaped_join s Nothing) ∙ ap (shaped f) e

pub part_of_row : {S : Type 0} (i : ℕ) (ss : List (Shape S)) → part i (shape.row ss) ≡ slice_get ss i
part_of_row i [] = refl
part_of_row zero (s ∷ ss) = refl
part_of_row (suc i) (s ∷ ss) = part_of_row i ss

-- no scalar of a variable is a place
pub plain_parts : (s : Shape TypeId) → EachSort IsPlain (shaped Plain s)
plain_parts (One t) = tt
plain_parts Nothing = tt
plain_parts (Pair a b) = (plain_parts a, plain_parts b)

-- nor is one of rows of such, or of what stands behind another
module _ {S : Type 0} (P : S → Type 0) where
  pub each_repeated : (n : ℕ) (s : Shape S) → EachSort P s → EachSort P (repeated n s)
  each_repeated zero s h = tt
  each_repeated (suc n) s h = (h, each_repeated n s h)

  pub each_nested : (ns : List ℕ) (s : Shape S) → EachSort P s → EachSort P (nested ns s)
  each_nested [] s h = h
  each_nested (n ∷ ns) s h = each_repeated n (nested ns s) (each_nested ns s h)

  pub each_join : (s more : Shape S) → EachSort P s → EachSort P more → EachSort P (join s more)
  each_join (One k) more h g = (h, g)
  each_join Nothing more h g = g
  each_join (Pair a b) more h g = (h.0, each_join b more h.1 g)

  pub each_rest : (s more : Shape S) → EachSort P (join s more) → EachSort P more
  each_rest (One k) more h = h.1
  each_rest Nothing more h = h
  each_rest (Pair a b) more h = each_rest b more h.1

pub variable_plain : (rows : List TypeRow) (t : TypeId) → EachSort IsPlain (variable_shape rows t)
variable_plain rows t = plain_parts (of_variable (contents rows) rows t)

pub object_plain : (rows : List TypeRow) (t : TypeId) → EachSort IsPlain (object_shape rows t)
object_plain rows t = plain_parts (contents rows t)

-- Records and arrays

module _ (rows : List TypeRow) where
  -- a variable that is no reference to an object has its type's contents
  pub own_contents : (t : TypeId) → is_object (row_of rows t) ≡ false → variable_shape rows t ≡ shaped Plain (contents rows t)
  own_contents t e = ap (λ b. shaped Plain (if b then One t else contents rows t)) e

  pub variable_size : (t : TypeId) → size (variable_shape rows t) ≡ variable_scalars rows t
  variable_size t = size_shaped Plain (of_variable (contents rows) rows t)

  -- code has a cell for each
  pub cells_size : (t : TypeId) → size (variable_shape rows t) ≡ size (cells rows t)
  cells_size t = variable_size t ∙ sym (size_shaped (kind_of rows) (of_variable (contents rows) rows t))

  module _ (ranked : IsRanked rows) where
    by_row : (t : TypeId) (o : Option TypeRow) → row_of rows t ≡ o → is_object o ≡ false → variable_shape rows t ≡ shaped Plain (with_parts (contents rows) rows t o)
    by_row t o e n = own_contents t (ap is_object e ∙ n) ∙ ap (shaped Plain) (by_parts rows ranked t ∙ ap (with_parts (contents rows) rows t) e)

    module _ (t u : TypeId) (n : ℕ) (e : row_of rows t ≡ Some (row.Array n u)) where
      pub array_shape : variable_shape rows t ≡ repeated n (variable_shape rows u)
      array_shape = by_row t (Some (row.Array n u)) e refl ∙ shaped_repeated Plain n (of_variable (contents rows) rows u)

      pub element_part : (i : ℕ) → i < n → inside (i ∷ []) (variable_shape rows t) ≡ Some (variable_shape rows u)
      element_part i l = ap (inside (i ∷ [])) array_shape ∙ ap (option_and_then (λ s. Some s)) (part_repeated n i (variable_shape rows u) l)

      pub element_offset : (i : ℕ) → i < n → offset (i ∷ []) (variable_shape rows t) ≡ i * variable_scalars rows u
      element_offset i l =
          ap (offset (i ∷ [])) array_shape ∙ before_step i (repeated n (variable_shape rows u))
          ∙ before_repeated n i (variable_shape rows u) l ∙ ap (λ z. i * z) (variable_size u)

    -- what is copied as a whole is a row
    pub whole_ends : (t : TypeId) → is_whole (row_of rows t) ≡ true → join (variable_shape rows t) Nothing ≡ variable_shape rows t
    whole_ends t whole = by_whole (row_of rows t) refl whole
      where
        ends : (o : Option TypeRow) → row_of rows t ≡ o → is_object o ≡ false → (let s = with_parts (contents rows) rows t o in join s Nothing ≡ s) → join (variable_shape rows t) Nothing ≡ variable_shape rows t
        ends o e n h =
            let s = by_row t o e n in
            ap (λ z. join z Nothing) s ∙ shaped_ends Plain (with_parts (contents rows) rows t o) h ∙ sym s

        by_whole : (o : Option TypeRow) → row_of rows t ≡ o → is_whole o ≡ true → join (variable_shape rows t) Nothing ≡ variable_shape rows t
        by_whole None e h = absurd (cc)
        by_whole (Some (row.Basic b)) e h = absurd (cc)
        by_whole (Some (row.Array n of)) e h = ends (Some (row.Array n of)) e refl (repeated_ends n (of_variable (contents rows) rows of))
        by_whole (Some (row.Open of)) e h = absurd (cc)
        by_whole (Some (row.Record base fields)) e h =
            let own = map (of_variable (contents rows) rows) fields in
            ends (Some (row.Record base fields)) e refl
            (join_assoc (of_base (contents rows) base) (shape.row own) Nothing ∙ ap (join (of_base (contents rows) base)) (row_ends own))
        by_whole (Some (row.Pointer to)) e h = absurd (cc)
        by_whole (Some (row.Object base fields)) e h = absurd (cc)
        by_whole (Some (row.Procedure formals r)) e h = absurd (cc)
        by_whole (Some row.Any) e h = absurd (cc)
