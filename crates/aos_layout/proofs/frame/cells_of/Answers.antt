use Rattle.std.proofs.Common.{◌++◌, length, ap, ◌∙◌}
use Rattle.aos_layout.specs.Frame.{places_from}
use Rattle.aos_layout.specs.Cells.{parameter_parts, local_parts, kinds_of}
use Rattle.aos_layout.proofs.Frames.{both_kinds, both_places}
use Rattle.aos_layout.proofs.frame.cells_of.Goals as goal

pub returns-clause-kinds : goal.returns-clause-kinds
returns-clause-kinds c =
    let rows = c.args.types.now in
    let p = c.args.procedure.now in
    let first = c.in_ok-put_parameters.ensures.kinds ∙ ap (λ z. z ++ kinds_of (parameter_parts rows c.as_slice.result.now)) c.new.ensures.items ∙ ap (λ z. kinds_of (parameter_parts rows z)) c.as_slice.ensures.value in
    let second = c.in_ok-put_locals.ensures.kinds ∙ ap (λ z. c.put_parameters.new.self.kinds.items ++ kinds_of (local_parts rows z)) c.as_slice-2.ensures.value in
    both_kinds (parameter_parts rows p.parameters.items) (local_parts rows p.locals.items) c.put_parameters.new.self.kinds.items c.put_locals.new.self.kinds.items first second

pub returns-clause-places : goal.returns-clause-places
returns-clause-places c =
    let rows = c.args.types.now in
    let p = c.args.procedure.now in
    let kinds = c.put_parameters.new.self.kinds.items in
    let places = c.put_parameters.new.self.places.items in
    let first = c.in_ok-put_parameters.ensures.kinds ∙ ap (λ z. z ++ kinds_of (parameter_parts rows c.as_slice.result.now)) c.new.ensures.items ∙ ap (λ z. kinds_of (parameter_parts rows z)) c.as_slice.ensures.value in
    let before = c.in_ok-put_parameters.ensures.places ∙ ap (λ z. z ++ places_from (length c.new.result.items) (parameter_parts rows c.as_slice.result.now)) c.new-2.ensures.items ∙ ap (λ z. places_from (length z) (parameter_parts rows c.as_slice.result.now)) c.new.ensures.items ∙ ap (λ z. places_from 0 (parameter_parts rows z)) c.as_slice.ensures.value in
    let second = c.in_ok-put_locals.ensures.places ∙ ap (λ z. places ++ places_from (length kinds) (local_parts rows z)) c.as_slice-2.ensures.value in
    both_places (parameter_parts rows p.parameters.items) (local_parts rows p.locals.items) kinds c.put_locals.new.self.kinds.items first places c.put_locals.new.self.places.items before second
