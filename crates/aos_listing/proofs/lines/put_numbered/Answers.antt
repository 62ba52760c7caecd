use Rattle.std.proofs.Common.{◌++◌, append-nil, ap, sym, ◌∙◌}
use Rattle.aos_types.specs.Table.{row_of}
use Rattle.aos_typed.specs.declared.tree.TType.TheVariants.{Named}
use Rattle.aos_typed.specs.Numbers.{id_of}
use Rattle.aos_typed.specs.Seen.{seen_object}
use Rattle.aos_listing.specs.Listing.{fielded_lines, own_fields}
use Rattle.aos_listing.specs.Seen.{seen_lines}
use Rattle.aos_listing.proofs.Counts.{there_is, absent}
use Rattle.aos_listing.proofs.lines.put_numbered.Goals as goal

pub returns-in_ok-put_known-in-Some : goal.returns-in_ok-put_known-in-Some
returns-in_ok-put_known-in-Some c =
    let rows = c.args.types.now in
    c.in_ok-put_known-in-Some.ensures
    ∙ ap (λ t. seen_lines c.args.lines.now.items ++ fielded_lines rows t (seen_object c.args.object.now) (own_fields (row_of rows t)))
    (there_is rows (Named c.args.number) c.in-Some.t c.in-Some.ensures)

pub returns-in-None : goal.returns-in-None
returns-in-None c =
    let rows = c.args.types.now in
    let before = seen_lines c.args.lines.now.items in
    sym (append-nil before)
    ∙ ap (λ r. before ++ fielded_lines rows (id_of (Named c.args.number)) (seen_object c.args.object.now) (own_fields r))
    (sym (absent rows (Named c.args.number) c.in-None.ensures))
