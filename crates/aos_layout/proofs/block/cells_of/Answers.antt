use Rattle.std.proofs.Common.{◌++◌, length, ap, ◌∙◌}
use Rattle.aos_layout.specs.Frame.{places_from}
use Rattle.aos_layout.specs.Cells.{local_parts, text_parts, kinds_of}
use Rattle.aos_layout.proofs.Frames.{both_kinds, both_places}
use Rattle.aos_layout.proofs.block.cells_of.Goals as goal

pub returns-clause-kinds : goal.returns-clause-kinds
returns-clause-kinds c =
    let rows = c.args.types.now in
    let m = c.args.module.now in
    let first = c.in_ok-put_locals.ensures.kinds ∙ ap (λ z. z ++ kinds_of (local_parts rows c.as_slice.result.now)) c.new.ensures.items ∙ ap (λ z. kinds_of (local_parts rows z)) c.as_slice.ensures.value in
    let second = c.in_ok-put_texts.ensures.kinds ∙ ap (λ z. c.put_locals.new.self.kinds.items ++ kinds_of (text_parts z)) c.as_slice-2.ensures.value in
    both_kinds (local_parts rows m.variables.items) (text_parts m.texts.items) c.put_locals.new.self.kinds.items c.put_texts.new.self.kinds.items first second

pub returns-clause-places : goal.returns-clause-places
returns-clause-places c =
    let rows = c.args.types.now in
    let m = c.args.module.now in
    let kinds = c.put_locals.new.self.kinds.items in
    let places = c.put_locals.new.self.places.items in
    let first = c.in_ok-put_locals.ensures.kinds ∙ ap (λ z. z ++ kinds_of (local_parts rows c.as_slice.result.now)) c.new.ensures.items ∙ ap (λ z. kinds_of (local_parts rows z)) c.as_slice.ensures.value in
    let before = c.in_ok-put_locals.ensures.places ∙ ap (λ z. z ++ places_from (length c.new.result.items) (local_parts rows c.as_slice.result.now)) c.new-2.ensures.items ∙ ap (λ z. places_from (length z) (local_parts rows c.as_slice.result.now)) c.new.ensures.items ∙ ap (λ z. places_from 0 (local_parts rows z)) c.as_slice.ensures.value in
    let second = c.in_ok-put_texts.ensures.places ∙ ap (λ z. places ++ places_from (length kinds) (text_parts z)) c.as_slice-2.ensures.value in
    both_places (local_parts rows m.variables.items) (text_parts m.texts.items) kinds c.put_texts.new.self.kinds.items first places c.put_texts.new.self.places.items before second
