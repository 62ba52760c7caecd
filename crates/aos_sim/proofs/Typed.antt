-- What the laws take of a well-typed program's types and modules.
use Rattle.std.proofs.Common.{◌≡◌, ℕ, ◌<◌, ◌^◌, List, [], ◌∷◌, ◌++◌, map, Option, Some, None, refl, sym, ◌∙◌, subst, arith}
use Rattle.std.specs.Prelude.{All, slice_get, option_map, option_and_then}
use Rattle.std.proofs.lemmas.Option.{slice_get-map}
use Rattle.aos_types.specs.Shape.{Shape, size, row}
use Rattle.aos_types.proofs.Ranks.{ranked}
use Rattle.aos_typed.specs.Program.{Variable, Procedure, Module, Program}
use Rattle.aos_typed.specs.Numbers.{id_of}
use Rattle.aos_typed.specs.Sort.{Sort, variable_shape}
use Rattle.aos_typed.specs.Source.{module_shape}
use Rattle.aos_typed.specs.Text.{text_shape}
use Rattle.aos_typed.specs.WellTyped.{procedure_in, IsProcedure, IsWellTyped}
use Rattle.aos_code.specs.declared.image.Body.{Body}
use Rattle.aos_code.specs.declared.image.ProcShape.{ProcShape}
use Rattle.aos_code.specs.declared.image.ModuleDesc.{ModuleDesc}
use Rattle.aos_code.specs.declared.image.TypeDesc.{TypeDesc}
use Rattle.aos_layout.specs.Layout.{block, block_parts}
use Rattle.aos_layout.proofs.Blocks.{same_sizes}
use Rattle.aos_sim.specs.Shows.{IsCode}
use Rattle.aos_sim.proofs.First.{all_get}
use Rattle.aos_sim.proofs.Methods.{has_methods}
use Rattle.aos_sim.proofs.Does.{HasTypes}

rows_size : {S T : Type 0} (ss : List (Shape S)) (ts : List (Shape T)) → map size ss ≡ map size ts → size (row ss) ≡ size (row ts)
rows_size [] [] e = refl
rows_size [] (t ∷ ts) e = absurd (cc)
rows_size (s ∷ ss) [] e = absurd (cc)
rows_size (s ∷ ss) (t ∷ ts) e =
    let first : size s ≡ size t = cc in
    let rest : map size ss ≡ map size ts = cc in
    let more = rows_size ss ts rest in
    omega (arith, first, more)

module _ (p : Program) where
  -- a module's variables have as many scalars as their code has cells
  block_size : (x : Module) → size (module_shape p x) ≡ size (block p.types x)
  block_size x = rows_size (map (λ (v : Variable). variable_shape p.types (id_of v.of)) x.variables ++ map text_shape x.texts) (block_parts p.types x) (same_sizes p.types x)

  pub few_of : (bs cs : List Body) (ss : List ProcShape) (ds : List ModuleDesc) (ts : List TypeDesc) → IsCode p bs cs ss ds ts → (m : ℕ) (s : Shape Sort) → slice_get (map (module_shape p) p.modules) m ≡ Some s → size s < 2 ^ 32
  few_of bs cs ss ds ts code m s e = by (slice_get p.modules m) refl (sym (slice_get-map (module_shape p) p.modules m) ∙ e)
    where
      by : (o : Option Module) → slice_get p.modules m ≡ o → option_map (module_shape p) o ≡ Some s → size s < 2 ^ 32
      by None f e' = absurd (cc)
      by (Some x) f e' =
          let h : module_shape p x ≡ s = cc in
          let few = all_get (λ y. size (block p.types y) < 2 ^ 32) p.modules m x code.few f in
          let same = block_size x in
          subst (λ z. size z < 2 ^ 32) h (omega (arith, few, same))

  -- a module's procedure is no method
  plain_of : IsWellTyped p → (m k : ℕ) (q : Procedure) → procedure_in p m k ≡ Some q → q.of ≡ None
  plain_of well m k q e = by (slice_get p.modules m) refl e
    where
      by : (o : Option Module) → slice_get p.modules m ≡ o → option_and_then (λ x. slice_get x.procedures k) o ≡ Some q → q.of ≡ None
      by None f e' = absurd (cc)
      by (Some x) f e' =
          let all = all_get (λ m. All (λ q. IsProcedure p q × (q.of ≡ None)) m.procedures) p.modules m x well.parts.procedures f in
          (all_get (λ q. IsProcedure p q × (q.of ≡ None)) x.procedures k q all e').1

  pub has_types : IsWellTyped p → HasTypes p
  has_types well =
      let ranks = ranked p.types well.parts.types.none_contains_itself in
      record {
        predeclared = well.parts.predeclared;
        ranked = ranks;
        bases = well.parts.types.bases;
        record_bases = well.parts.types.record_bases;
        beside = well.parts.beside;
        plain = plain_of well;
        methods = has_methods p ranks well.parts.types.bases well.parts.predeclared well.parts.beside well.parts.objects;
      }
