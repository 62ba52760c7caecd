-- The cells of a program's variables and string constants are found by the numbers of modules and variables.
use Rattle.std.proofs.Common.{◌≡◌, ◌^◌, All, subst, ℕ, ◌+◌, ◌<◌, true, List, [], ◌∷◌, length, get_or, map, take, Option, Some, None, refl, sym, ap, ◌∙◌}
use Rattle.std.specs.Prelude.{slice_get, option_map}
use Rattle.std.specs.Option.{unwrap_or}
use Rattle.std.proofs.lemmas.List.{length-map}
use Rattle.std.proofs.lemmas.List.Elements.{All-append, All-replicate}
use Rattle.std.proofs.lemmas.Option.{slice_get-map, slice_get_read, slice_get_within}
use Rattle.aos_types.specs.Shape.{leaves, row, size, offset, number_of}
use Rattle.aos_typed.specs.declared.tree.TModule.{TModule}
use Rattle.aos_types.specs.declared.row.TypeId.{TypeId}
use Rattle.aos_types.specs.declared.row.TypeRow.{TypeRow}
use Rattle.aos_types.specs.Table.{row_of, is_scalar}
use Rattle.aos_typed.specs.declared.tree.TType.{TType}
use Rattle.aos_typed.specs.Numbers.{id_of}
use Rattle.aos_typed.specs.WellTyped.{IsResult, IsProcedure}
use Rattle.aos_typed.specs.Program.{Procedure, Module, Program}
use Rattle.aos_typed.specs.Seen.{seen_module, seen_variable}
use Rattle.aos_typed.specs.Source.{module_shape}
use Rattle.aos_code.specs.declared.instr.Kind.{Kind}
use Rattle.aos_layout.specs.declared.block.BlockShape.{BlockShape as CodeBlockShape}
use Rattle.aos_layout.specs.Layout.{variable_cells, block}
use Rattle.aos_layout.specs.Block.{BlockShape, block_shape}
use Rattle.aos_layout.specs.Seen.{seen_block}
use Rattle.aos_layout.specs.Frame.{AreThere, MayBeThere}
use Rattle.aos_layout.proofs.Blocks.{first_cell, variable_kinds}
use Rattle.aos_program_layout.specs.Laid.{AreBlocks, cell_in, variables_in, module_kinds}
use Rattle.aos_dispatch.proofs.Lists.{next_of}

module _ (p : Program) (bs : List CodeBlockShape) (are : AreBlocks p bs) where
  found : (m : ℕ) → slice_get (map seen_block bs) m ≡ option_map (block_shape p.types) (slice_get p.modules m)
  found m = ap (λ l. slice_get l m) are ∙ slice_get-map (block_shape p.types) p.modules m

  pub cell_is : (m i : ℕ) → cell_in (slice_get (map seen_block bs) m) i ≡ number_of (offset (i ∷ [])) (slice_get (map (module_shape p) p.modules) m)
  cell_is m i = ap (λ o. cell_in o i) (found m) ∙ at_module (slice_get p.modules m) ∙ ap (number_of (offset (i ∷ []))) (sym (slice_get-map (module_shape p) p.modules m))
    where
      at_module : (o : Option Module) → cell_in (option_map (block_shape p.types) o) i ≡ number_of (offset (i ∷ [])) (option_map (module_shape p) o)
      at_module None = refl
      at_module (Some x) = first_cell p.types x i

  pub kinds_are : (ms : List TModule) (m : ℕ) → p.modules ≡ map seen_module ms → take (cell_in (slice_get (map seen_block bs) m) (variables_in (slice_get ms m))) (unwrap_or (option_map (λ b. b.kinds) (slice_get (map seen_block bs) m)) []) ≡ module_kinds p m
  kinds_are ms m seen =
      let there = ap (λ l. slice_get l m) seen ∙ slice_get-map seen_module ms m in
      let first = λ (o : Option BlockShape). take (cell_in o (variables_in (slice_get ms m))) (unwrap_or (option_map (λ (b : BlockShape). b.kinds) o) []) in
      ap first (found m ∙ ap (option_map (block_shape p.types)) there) ∙ at_module (slice_get ms m) ∙ sym (ap variable_kinds_in there)
    where
      variable_kinds_in : Option Module → List Kind
      variable_kinds_in o = unwrap_or (option_map (λ x. leaves (row (variable_cells p.types x.variables))) o) []

      at_module : (o : Option TModule) → take (cell_in (option_map (block_shape p.types) (option_map seen_module o)) (variables_in o)) (unwrap_or (option_map (λ (b : BlockShape). b.kinds) (option_map (block_shape p.types) (option_map seen_module o))) []) ≡ variable_kinds_in (option_map seen_module o)
      at_module None = refl
      at_module (Some x) =
          let b = block_shape p.types (seen_module x) in
          ap (λ n. take (cell_in (Some b) n) b.kinds) (sym (length-map x.variables.items seen_variable)) ∙ variable_kinds p.types (seen_module x)

-- the kinds of the cells of the variables of a module of the program
pub kinds_at : (p : Program) (see : TModule → Module) (ms : List TModule) (k : ℕ) (m : TModule) → p.modules ≡ map see ms → k < length ms → m ≡ get_or ms k m → module_kinds p k ≡ leaves (row (variable_cells p.types (see m).variables))
kinds_at p see ms k m are lt at =
    ap (λ (o : Option Module). unwrap_or (option_map (λ x. leaves (row (variable_cells p.types x.variables))) o) []) (ap (λ l. slice_get l k) are ∙ slice_get-map see ms k ∙ ap (option_map see) (slice_get_read ms (length ms) k m refl lt at))

-- the types of a procedure are there
scalar_there : (rows : List TypeRow) (t : TypeId) → is_scalar (row_of rows t) ≡ true → t.0 < length rows
scalar_there rows t e = at_row (slice_get rows t.0) refl e
  where
    at_row : (o : Option TypeRow) → slice_get rows t.0 ≡ o → is_scalar o ≡ true → t.0 < length rows
    at_row None is e = absurd (cc)
    at_row (Some r) is e = slice_get_within rows t.0 r is

pub procedure_there : (p : Program) (q : Procedure) → IsProcedure p q → AreThere p.types q
procedure_there p q h = record { parameters = h.parameters; locals = λ i d lt. (h.locals i d lt).there; result = at_result q.result h.result }
  where
    at_result : (o : Option TType) → IsResult p o → MayBeThere p.types o
    at_result None h = h
    at_result (Some t) h = scalar_there p.types (id_of t) h

-- one more module whose cells have numbers of 32 bits
pub narrow_more : (rows : List TypeRow) (ms : List TModule) (k : ℕ) (m : TModule) (b : CodeBlockShape) → k < length ms → m ≡ get_or ms k m → seen_block b ≡ block_shape rows (seen_module m) → b.cells < 2 ^ 32 → All (λ x. size (block rows x) < 2 ^ 32) (map seen_module (take k ms)) → All (λ x. size (block rows x) < 2 ^ 32) (map seen_module (take (k + 1) ms))
narrow_more rows ms k m b lt at is few all =
    let P : Module → Type 0 = λ x. size (block rows x) < 2 ^ 32 in
    let here : P (seen_module m) = subst (λ n. n < 2 ^ 32) (ap (λ (x : BlockShape). x.cells) is) few in
    subst (λ l. All P l) (sym (next_of seen_module ms k m lt at)) (All-append P (map seen_module (take k ms)) (seen_module m ∷ []) all (All-replicate P 1 (seen_module m) here))
