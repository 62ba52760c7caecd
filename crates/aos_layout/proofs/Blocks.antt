-- The first cell of a module's variable or string constant stands before it in the module's shape, whatever scalars this has.
use Rattle.std.proofs.Common.{◌≡◌, ℕ, zero, suc, ◌+◌, List, [], ◌∷◌, ◌++◌, length, map, take, Option, Some, None, refl, sym, ap, ◌∙◌, arith}
use Rattle.std.specs.Prelude.{slice_get}
use Rattle.std.specs.Option.{unwrap_or}
use Rattle.std.proofs.Math.Seq.{take-append_seam}
use Rattle.std.proofs.lemmas.List.{length-map}
use Rattle.aos_types.specs.declared.row.TypeRow.{TypeRow}
use Rattle.aos_types.specs.Shape.{Shape, One, repeated, size, row, leaves, part, before, offset, number_of}
use Rattle.aos_types.specs.Contents.{contents, of_variable}
use Rattle.aos_code.specs.declared.instr.Kind.{Kind}
use Rattle.aos_code.specs.declared.instr.Kind.TheVariants.{N}
use Rattle.aos_typed.specs.declared.tree.TType.TheVariants as type
use Rattle.aos_typed.specs.Program.{Variable, Module}
use Rattle.aos_typed.specs.Numbers.{id_of}
use Rattle.aos_typed.specs.Sort.{Plain, variable_shape}
use Rattle.aos_typed.specs.Text.{text_shape}
use Rattle.aos_layout.specs.Layout.{kind_of, cells, text_cells, variable_cells, block_parts}
use Rattle.aos_layout.specs.Frame.{places_from}
use Rattle.aos_layout.specs.Block.{block_shape}
use Rattle.aos_layout.proofs.Frames.{size_shaped, kinds_of_append}
use Rattle.aos_layout.proofs.Outcomes.{kinds_counted}

-- parts of the same sizes begin at the same cells; behind the last one is the cell behind all
place : {S : Type 0} (at i : ℕ) (ss : List (Shape S)) (ts : List (Shape Kind)) → map size ss ≡ map size ts → unwrap_or (slice_get (places_from at ts) i) (at + size (row ts)) ≡ at + before i (row ss)
place at i [] [] same = refl
place at i [] (t ∷ ts) same = absurd (cc)
place at i (s ∷ ss) [] same = absurd (cc)
place at zero (s ∷ ss) (t ∷ ts) same = omega arith
place at (suc i) (s ∷ ss) (t ∷ ts) same =
    let h : size s ≡ size t = cc in
    let rest : map size ss ≡ map size ts = cc in
    let places = places_from (at + size t) ts in
    let a : at + (size t + size (row ts)) ≡ at + size t + size (row ts) = omega arith in
    let b : at + size t + before i (row ss) ≡ at + (size s + before i (row ss)) = omega (arith, h) in
    ap (unwrap_or (slice_get places i)) a ∙ place (at + size t) i ss ts rest ∙ b

no_more : {S : Type 0} (o : Option (Shape S)) → number_of (offset []) o ≡ 0
no_more None = refl
no_more (Some s) = refl

-- the parts of the two shapes of a module have the same sizes
variable_size : (rows : List TypeRow) (v : Variable) → size (variable_shape rows (id_of v.of)) ≡ size (cells rows (id_of v.of))
variable_size rows v = size_shaped Plain (of_variable (contents rows) rows (id_of v.of)) ∙ sym (size_shaped (kind_of rows) (of_variable (contents rows) rows (id_of v.of)))

text_size : (cs : List ℕ) → size (text_shape cs) ≡ size (text_cells cs)
text_size cs = ones (suc (length cs))
  where
    ones : (n : ℕ) → size (repeated n (One (Plain (id_of type.Char)))) ≡ size (repeated n (One N))
    ones zero = refl
    ones (suc n) = ap (λ k. 1 + k) (ones n)

pub same_sizes : (rows : List TypeRow) (m : Module) → map size (map (λ v. variable_shape rows (id_of v.of)) m.variables ++ map text_shape m.texts) ≡ map size (block_parts rows m)
same_sizes rows m = parts m.variables
  where
    texts : (ts : List (List ℕ)) → map size (map text_shape ts) ≡ map size (map text_cells ts)
    texts [] = refl
    texts (t ∷ ts) = λ i. text_size t i ∷ texts ts i

    parts : (vs : List Variable) → map size (map (λ v. variable_shape rows (id_of v.of)) vs ++ map text_shape m.texts) ≡ map size (map (λ v. cells rows (id_of v.of)) vs ++ map text_cells m.texts)
    parts [] = texts m.texts
    parts (v ∷ vs) = λ i. variable_size rows v i ∷ parts vs i

-- a part begins at its own cell, and one that isn't there behind the others
pub first_of_part : {S : Type 0} (ss : List (Shape S)) (ts : List (Shape Kind)) (i : ℕ) → map size ss ≡ map size ts → unwrap_or (slice_get (places_from 0 ts) i) (size (row ts)) ≡ offset (i ∷ []) (row ss)
first_of_part ss ts i same =
    let rest = no_more (part i (row ss)) in
    let all : 0 + before i (row ss) ≡ offset (i ∷ []) (row ss) = omega (arith, rest) in
    let total : size (row ts) ≡ 0 + size (row ts) = omega arith in
    ap (unwrap_or (slice_get (places_from 0 ts) i)) total ∙ place 0 i ss ts same ∙ all

pub first_cell : (rows : List TypeRow) (m : Module) (i : ℕ) → let b = block_shape rows m in unwrap_or (slice_get b.places i) b.cells ≡ offset (i ∷ []) (row (map (λ v. variable_shape rows (id_of v.of)) m.variables ++ map text_shape m.texts))
first_cell rows m i =
    first_of_part (map (λ (v : Variable). variable_shape rows (id_of v.of)) m.variables ++ map text_shape m.texts) (block_parts rows m) i (same_sizes rows m)

-- behind a module's variables the first string constant begins, or its cells end; before it stand the kinds of the variables' cells
behind : (at : ℕ) (ss ts : List (Shape Kind)) → unwrap_or (slice_get (places_from at (ss ++ ts)) (length ss)) (at + size (row (ss ++ ts))) ≡ at + size (row ss)
behind at [] [] = refl
behind at [] (t ∷ ts) = omega arith
behind at (s ∷ ss) ts =
    let places = places_from (at + size s) (ss ++ ts) in
    let a : at + (size s + size (row (ss ++ ts))) ≡ at + size s + size (row (ss ++ ts)) = omega arith in
    let b : at + size s + size (row ss) ≡ at + (size s + size (row ss)) = omega arith in
    ap (unwrap_or (slice_get places (length ss))) a ∙ behind (at + size s) ss ts ∙ b

pub variable_kinds : (rows : List TypeRow) (m : Module) → let b = block_shape rows m in take (unwrap_or (slice_get b.places (length m.variables)) b.cells) b.kinds ≡ leaves (row (variable_cells rows m.variables))
variable_kinds rows m =
    let ss = variable_cells rows m.variables in
    let ts = map text_cells m.texts in
    let places = places_from 0 (ss ++ ts) in
    let total : size (row (ss ++ ts)) ≡ 0 + size (row (ss ++ ts)) = omega arith in
    let counted = kinds_counted (row ss) in
    let at : 0 + size (row ss) ≡ length (leaves (row ss)) = omega (arith, counted) in
    let first = ap (unwrap_or (slice_get places (length m.variables))) total ∙ ap (λ n. unwrap_or (slice_get places n) (0 + size (row (ss ++ ts)))) (sym (length-map m.variables (λ v. cells rows (id_of v.of)))) ∙ behind 0 ss ts ∙ at in
    (λ i. take (first i) (kinds_of_append ss ts i)) ∙ take-append_seam (leaves (row ss)) (leaves (row ts))
