-- What the variables and string constants hold at first, and where the elements of lists are.
use Rattle.std.proofs.Common.{◌≡◌, ℕ, zero, suc, ◌+◌, List, [], ◌∷◌, ◌++◌, map, length, Option, Some, None, pos, refl, sym, ap, ◌∙◌, subst, arith, append_assoc}
use Rattle.std.specs.Prelude.{◌<◌, slice_get, option_map, All}
use Rattle.std.specs.List.{flat_map}
use Rattle.std.proofs.lemmas.Int.{ints}
use Rattle.std.proofs.lemmas.List.{map-append}
use Rattle.std.proofs.lemmas.List.Elements.{All-tail}
use Rattle.aos_types.specs.declared.row.Basic.{Basic}
use Rattle.aos_types.specs.declared.row.Basic.TheVariants as basic
use Rattle.aos_types.specs.declared.row.TypeId.{TypeId}
use Rattle.aos_types.specs.declared.row.TypeRow.{TypeRow}
use Rattle.aos_types.specs.declared.row.TypeRow.TheVariants as row
use Rattle.aos_types.specs.Table.{row_of as type_row}
use Rattle.aos_types.specs.Shape.{Shape, One, Nothing, Pair, leaves, shaped, row as row_of_shapes}
use Rattle.aos_types.specs.Contents.{contents, of_variable}
use Rattle.aos_types.specs.Content.{flatten, first_content, Fits}
use Rattle.aos_types.specs.World.{World}
use Rattle.aos_typed.specs.declared.tree.TType.TheVariants as type
use Rattle.aos_typed.specs.Program.{Variable, Module, Program}
use Rattle.aos_typed.specs.Numbers.{id_of}
use Rattle.aos_typed.specs.Sort.{Sort, Plain, Variable as RecordPlace, Alias, Elements, Length, variable_shape}
use Rattle.aos_typed.specs.Typing.{IsBasic, IsPlainly, Is, IsPlain}
use Rattle.aos_typed.specs.Source.{first_basic, first_in, first_value, row_of, module_shape, first_variable, first_module}
use Rattle.aos_typed.specs.Text.{text_content, text_shape}
use Rattle.aos_typed.specs.Value.{Char}
use Rattle.aos_code.specs.declared.instr.Cell.{Cell}
use Rattle.aos_code.specs.declared.instr.Cell.TheVariants.{Num}
use Rattle.aos_code.specs.declared.instr.Kind.{Kind}
use Rattle.aos_code.specs.declared.instr.Kind.TheVariants.{N}
use Rattle.aos_code.specs.Machine.{first_cell}
use Rattle.aos_layout.specs.Layout.{kind_in, kind_of, cells, variable_cells}
use Rattle.aos_memory_laws.specs.Shows.{Shown, AllShown}
use Rattle.aos_memory_laws.proofs.Makes.{first_fits, first_cells}
use Rattle.aos_sim.specs.Cells.{cell_of}
use Rattle.aos_sim.specs.Shows.{numbers_from, text_cells, first_cells as module_cells}
use Rattle.aos_sim.proofs.Does.{HasPredeclared}
pub use Rattle.aos_sim.proofs.Lists.{all_get, get_left, get_right}
use Rattle.aos_sim.proofs.Kept.{values_kept}
use Rattle.aos_sim.proofs.Parts.{plain_parts}

-- Lists

pub number_at : {A : Type 0} (k j : ℕ) (xs : List A) → slice_get (numbers_from k xs) j ≡ option_map (λ x. k + j) (slice_get xs j)
number_at k j [] = refl
number_at k zero (y ∷ ys) = let n : k ≡ k + 0 = omega arith in ap (λ m. Some m) n
number_at k (suc j) (y ∷ ys) = let n : suc k + j ≡ k + suc j = omega arith in number_at (suc k) j ys ∙ ap (λ m. option_map (λ x. m) (slice_get ys j)) n

pub length-numbers : {A : Type 0} (k : ℕ) (xs : List A) → length (numbers_from k xs) ≡ length xs
length-numbers k [] = refl
length-numbers k (x ∷ xs) = ap (λ n. suc n) (length-numbers (suc k) xs)

-- The beginning

first_basic_is : (b : Basic) → IsBasic b (first_basic b)
first_basic_is basic.ShortInt = record { low = omega (arith, ints); high = omega (arith, ints) }
first_basic_is basic.Integer = record { low = omega (arith, ints); high = omega (arith, ints) }
first_basic_is basic.LongInt = record { low = omega (arith, ints); high = omega (arith, ints) }
first_basic_is basic.HugeInt = record { low = omega (arith, ints); high = omega (arith, ints) }
first_basic_is basic.Boolean = tt
first_basic_is basic.Char = omega arith
first_basic_is basic.Set = omega arith
first_basic_is basic.Nil = refl
first_basic_is (basic.Text n) = refl

first_in_is : (program : Program) (w : World Sort) (t : TypeId) (r : Option TypeRow) → IsPlainly program w t r (first_in r)
first_in_is program w t None = refl
first_in_is program w t (Some (row.Basic b)) = first_basic_is b
first_in_is program w t (Some (row.Array n of)) = refl
first_in_is program w t (Some (row.Open of)) = refl
first_in_is program w t (Some (row.Record base fields)) = refl
first_in_is program w t (Some (row.Pointer to)) = tt
first_in_is program w t (Some (row.Object base fields)) = tt
first_in_is program w t (Some (row.Procedure formals r)) = refl
first_in_is program w t (Some row.Any) = tt

first_basic_same : (w : World Sort) (b : Basic) → cell_of w (first_basic b) ≡ first_cell (kind_in (Some (row.Basic b)))
first_basic_same w basic.ShortInt = refl
first_basic_same w basic.Integer = refl
first_basic_same w basic.LongInt = refl
first_basic_same w basic.HugeInt = refl
first_basic_same w basic.Boolean = refl
first_basic_same w basic.Char = refl
first_basic_same w basic.Set = refl
first_basic_same w basic.Nil = refl
first_basic_same w (basic.Text n) = refl

first_in_same : (w : World Sort) (r : Option TypeRow) → cell_of w (first_in r) ≡ first_cell (kind_in r)
first_in_same w None = refl
first_in_same w (Some (row.Basic b)) = first_basic_same w b
first_in_same w (Some (row.Array n of)) = refl
first_in_same w (Some (row.Open of)) = refl
first_in_same w (Some (row.Record base fields)) = refl
first_in_same w (Some (row.Pointer to)) = refl
first_in_same w (Some (row.Object base fields)) = refl
first_in_same w (Some (row.Procedure formals r)) = refl
first_in_same w (Some row.Any) = refl

module _ (p : Program) where
  -- the kind of a sort's cell
  abbrev pub kind_at : Sort → Kind
  kind_at (Plain t) = kind_of p.types t
  kind_at (RecordPlace t) = N
  kind_at (Alias t) = N
  kind_at (Elements t ns) = N
  kind_at (Length n) = N

  -- the cell that a scalar of a sort begins with
  abbrev pub zero_cell : Sort → Cell
  zero_cell k = first_cell (kind_at k)

  pub first_is : (w : World Sort) (k : Sort) → IsPlain k → Is p w k (first_value p k)
  first_is w (Plain t) plain = first_in_is p w t (type_row p.types t)
  first_is w (RecordPlace t) plain = absurd plain
  first_is w (Alias t) plain = absurd plain
  first_is w (Elements t ns) plain = absurd plain
  first_is w (Length n) plain = absurd plain

  pub first_same : (w : World Sort) (k : Sort) → cell_of w (first_value p k) ≡ zero_cell k
  first_same w (Plain t) = first_in_same w (type_row p.types t)
  first_same w (RecordPlace t) = refl
  first_same w (Alias t) = refl
  first_same w (Elements t ns) = refl
  first_same w (Length n) = refl

  pub part_cells : (s : Shape TypeId) → map first_cell (leaves (shaped (kind_of p.types) s)) ≡ map zero_cell (leaves (shaped Plain s))
  part_cells (One t) = refl
  part_cells Nothing = refl
  part_cells (Pair a b) =
      map-append first_cell (leaves (shaped (kind_of p.types) a)) (leaves (shaped (kind_of p.types) b))
      ∙ (λ j. part_cells a j ++ part_cells b j)
      ∙ sym (map-append zero_cell (leaves (shaped Plain a)) (leaves (shaped Plain b)))

  module _ (w : World Sort) where
    -- the cells that a variable begins with hold what it begins with
    variable_same : (v : Variable) → map first_cell (leaves (cells p.types (id_of v.of))) ≡ map (cell_of w) (flatten (first_variable p v))
    variable_same v =
        part_cells (of_variable (contents p.types) p.types (id_of v.of))
        ∙ sym (first_cells (Is p) cell_of IsPlain (values_kept p) (first_value p) zero_cell first_is first_same w (variable_shape p.types (id_of v.of)))

    pub local_shown : (v : Variable) → let s = variable_shape p.types (id_of v.of) in Shown (Is p) cell_of w s (first_content (first_value p) s) (map first_cell (leaves (cells p.types (id_of v.of))))
    local_shown v =
        record {
          fits = first_fits (Is p) cell_of IsPlain (values_kept p) (first_value p) zero_cell first_is first_same w (variable_shape p.types (id_of v.of)) (plain_parts (of_variable (contents p.types) p.types (id_of v.of)));
          same = variable_same v;
        }

    text_same : (cs : List ℕ) → text_cells cs ≡ map (cell_of w) (flatten (text_content cs))
    text_same [] = refl
    text_same (c ∷ cs) = ap (λ l. Num (pos c) ∷ l) (text_same cs)

    texts_same : (ts : List (List ℕ)) → flat_map text_cells ts ≡ map (cell_of w) (flatten (row_of (map text_content ts)))
    texts_same [] = refl
    texts_same (t ∷ ts) =
        (λ j. text_same t j ++ texts_same ts j) ∙ sym (map-append (cell_of w) (flatten (text_content t)) (flatten (row_of (map text_content ts))))

    all_same : (vs : List Variable) (ts : List (List ℕ)) → map first_cell (leaves (row_of_shapes (variable_cells p.types vs))) ++ flat_map text_cells ts ≡ map (cell_of w) (flatten (row_of (map (first_variable p) vs ++ map text_content ts)))
    all_same [] ts = texts_same ts
    all_same (v ∷ vs) ts =
        let first = map first_cell (leaves (cells p.types (id_of v.of))) in
        let rest = leaves (row_of_shapes (variable_cells p.types vs)) in
        ap (λ l. l ++ flat_map text_cells ts) (map-append first_cell (leaves (cells p.types (id_of v.of))) rest)
        ∙ append_assoc first (map first_cell rest) (flat_map text_cells ts)
        ∙ (λ j. variable_same v j ++ all_same vs ts j)
        ∙ sym (map-append (cell_of w) (flatten (first_variable p v)) (flatten (row_of (map (first_variable p) vs ++ map text_content ts))))

    module _ (predeclared : HasPredeclared p) where
      -- a string constant is of characters
      character_fits : (c : ℕ) → c < 256 → Is p w (Plain (id_of type.Char)) (Char c)
      character_fits c l = subst (λ o. IsPlainly p w (id_of type.Char) o (Char c)) (sym (predeclared 5 (omega arith))) l

      text_fits : (cs : List ℕ) → All (λ c. c < 256) cs → Fits (Is p w) (text_shape cs) (text_content cs)
      text_fits [] h = (character_fits 0 (omega arith), tt)
      text_fits (c ∷ cs) h = (character_fits c (h 0 c (omega arith)), text_fits cs (All-tail (λ c. c < 256) c cs h))

      abbrev AreTexts : List (List ℕ) → Type 0
      AreTexts ts = All (λ t. All (λ c. c < 256) t) ts

      all_fit : (vs : List Variable) (ts : List (List ℕ)) → AreTexts ts → Fits (Is p w) (row_of_shapes (map (λ v. variable_shape p.types (id_of v.of)) vs ++ map text_shape ts)) (row_of (map (first_variable p) vs ++ map text_content ts))
      all_fit [] [] h = tt
      all_fit [] (t ∷ ts) h = (text_fits t (h 0 t (omega arith)), all_fit [] ts (All-tail (λ t. All (λ c. c < 256) t) t ts h))
      all_fit (v ∷ vs) ts h = (
        (local_shown v).fits,
        all_fit vs ts h,
      )

      -- the cells of the modules show what their variables hold, and their string constants
      pub modules_shown : (ms : List Module) → All (λ m. AreTexts m.texts) ms → AllShown (Is p) cell_of w (map (module_shape p) ms) (map (first_module p) ms) (map (module_cells p.types) ms)
      modules_shown [] h = tt
      modules_shown (m ∷ ms) h = (
        record { fits = all_fit m.variables m.texts (h 0 m (omega arith)); same = all_same m.variables m.texts },
        modules_shown ms (All-tail (λ m. AreTexts m.texts) m ms h),
      )
