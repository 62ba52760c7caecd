use Rattle.std.proofs.Common.{Some, String, string_bytes, option_map, sym, ap, ◌∙◌}
use Rattle.std.proofs.lemmas.Option.{slice_get-map, slice_get-get_or, slice_get_past}
use Rattle.std.specs.declared.alloc.Global.{Global}
use Rattle.aos_listing.proofs.lines.name_at.Goals as goal

pub returns-in-Some : goal.returns-in-Some
returns-in-Some c =
    let xs = c.args.names.now in
    let k = c.args.number in
    let found = c.in-Some.ensures.lookup in
    let bytes = λ (s : String Global). string_bytes s in
    ap Some c.as_str.ensures.value ∙ sym (slice_get-map bytes xs k ∙ ap (option_map bytes) (slice_get-get_or xs k c.in-Some.name.now found.3.0 ∙ ap Some (sym found.1)))

pub returns-in-None : goal.returns-in-None
returns-in-None c =
    let bytes = λ (s : String Global). string_bytes s in
    sym (slice_get-map bytes c.args.names.now c.args.number ∙ ap (option_map bytes) (slice_get_past c.args.names.now c.args.number c.in-None.ensures.lookup.3))
