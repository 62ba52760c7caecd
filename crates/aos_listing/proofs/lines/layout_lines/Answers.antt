use Rattle.std.proofs.Common.{map, ap, ◌∙◌, rules, arith}
use Rattle.std.specs.List.{flat_map}
use Rattle.std.proofs.lemmas.List.{length-map}
use Rattle.std.proofs.lemmas.List.Sorted.{answers_always}
use Rattle.aos_typed.specs.Seen.{seen_object}
use Rattle.aos_listing.specs.declared.entries.Entry.{Entry as CodeEntry}
use Rattle.aos_listing.specs.Listing.{entry_lines, in_order, place_of}
use Rattle.aos_listing.specs.Seen.{seen_entry}
use Rattle.aos_listing.proofs.Order.{sorted_in_order, seen_in_order}
use Rattle.aos_listing.proofs.lines.layout_lines.Goals as goal

pub lines_of-requires-clause-few : goal.lines_of-requires-clause-few
lines_of-requires-clause-few c = omega (arith, c.requires.typed.parts.beside, c.requires.few_types, length-map c.args.program.now.objects.items seen_object)

pub lines_of-requires-clause-typed : goal.lines_of-requires-clause-typed
lines_of-requires-clause-typed c = c.requires.typed.parts.types

pub returns : goal.returns
returns c =
    let rows = c.args.program.now.types in
    let key = λ (e : CodeEntry). place_of (seen_entry e) in
    let keys = answers_always _ _ _ (λ f a r next called. search rules) in
    let sorted = c.in_ok-sort_by_key.ensures in
    let placed = sorted_in_order CodeEntry key _ _ (sorted.sorted key keys) (sorted.stable key keys) in
    c.in_ok-lines.ensures ∙ ap (λ es. flat_map (entry_lines rows) (map seen_entry es)) (c.deref.ensures.value ∙ placed)
    ∙ ap (flat_map (entry_lines rows)) (seen_in_order seen_entry place_of c.in_ok-entries.entries.items ∙ ap (in_order place_of) c.in_ok-entries.ensures)
