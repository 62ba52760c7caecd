use Rattle.std.proofs.Common.{◌≡◌, ℕ, List, map, Option, option_map, ap, ◌∙◌, arith}
use Rattle.std.specs.Prelude.{Bool, is_some}
use Rattle.aos_types.specs.declared.row.TypeRow.{TypeRow}
use Rattle.aos_types.specs.Shape.{size}
use Rattle.aos_code.specs.declared.instr.Kind.{Kind}
use Rattle.aos_code.specs.declared.image.ParamKind.{ParamKind}
use Rattle.aos_typed.specs.Program.{Procedure}
use Rattle.aos_typed.specs.Numbers.{id_of}
use Rattle.aos_typed.specs.Seen.{seen_procedure, seen_parameter}
use Rattle.aos_layout.specs.Layout.{leaves, kind_of}
use Rattle.aos_layout.specs.Frame.{FrameShape, frame, frame_parts, frame_shape, parameter_kind, places_from}
use Rattle.aos_layout.proofs.Frames.{cells_counted}
use Rattle.aos_layout.proofs.frame.frame_shape.Goals as goal

module _ (rows : List TypeRow) (own home keeps : ℕ) (p : Procedure) where
  whole : (params : List ParamKind) (count : ℕ) (of : Option Kind) (method : Bool) (kinds : List Kind) (places : List ℕ) → params ≡ map (parameter_kind rows) p.parameters → count ≡ size (frame rows p) → of ≡ option_map (λ t. kind_of rows (id_of t)) p.result → method ≡ is_some p.of → kinds ≡ leaves (frame rows p) → places ≡ places_from 0 (frame_parts rows p) → ◌≡◌ {A = FrameShape} (record { own = own; shape = record { module_ = home; params = params; cells = count; counted = count; keeps = keeps; result = of; method = method; kinds = kinds }; places = places }) (frame_shape rows own home keeps p)
  whole params count of method kinds places a b c m d e =
      λ i. record { own = own; shape = record { module_ = home; params = a i; cells = b i; counted = b i; keeps = keeps; result = c i; method = m i; kinds = d i }; places = e i }

pub returns : goal.returns
returns c =
    let rows = c.args.types.now in
    let p = seen_procedure c.args.procedure.now in
    let k = c.in_ok-kinds.ensures in
    let n = cells_counted (frame rows p) c.in_ok-kinds.field-0.kinds.items k.kinds in
    let h = c.in-Ok.ensures in
    let l = c.len.ensures in
    whole rows c.args.own c.args.home c.args.keeps p c.in_ok-params.params.items c.in-Ok.count c.result_kind-result_of.result c.is_some.result c.in_ok-kinds.field-0.kinds.items c.in_ok-kinds.field-0.places.items (c.in_ok-params.ensures ∙ ap (λ z. map (parameter_kind rows) (map seen_parameter z)) c.as_slice.ensures.value) (omega (arith, n, h, l)) c.result_kind-result_of.ensures c.is_some.ensures k.kinds k.places
