use Rattle.std.proofs.Common.{[], ◌++◌, append-nil, ap, sym, ◌∙◌, if◌then◌else◌}
use Rattle.aos_types.specs.Table.{row_of}
use Rattle.aos_typed.specs.declared.tree.TType.TheVariants.{Named}
use Rattle.aos_typed.specs.Numbers.{id_of}
use Rattle.aos_typed.specs.Seen.{seen_object}
use Rattle.aos_listing.specs.Listing.{fielded_lines, own_fields, is_named}
use Rattle.aos_listing.specs.Seen.{seen_lines}
use Rattle.aos_listing.proofs.lines.put_type.Goals as goal

pub returns-then-is_named : goal.returns-then-is_named
returns-then-is_named c =
    let rows = c.args.types.now in
    let t = id_of (Named c.args.number) in
    let has = c.if-is_named.ensures ∙ ap is_named c.as_str.ensures.value in
    c.in_ok-put_numbered.ensures
    ∙ ap (λ b. seen_lines c.args.lines.now.items ++ (if b then fielded_lines rows t (seen_object c.args.object.now) (own_fields (row_of rows t)) else [])) has

pub returns : goal.returns
returns c =
    let rows = c.args.types.now in
    let t = id_of (Named c.args.number) in
    let before = seen_lines c.args.lines.now.items in
    let has = c.if-is_named.ensures ∙ ap is_named c.as_str.ensures.value in
    sym (append-nil before)
    ∙ ap (λ b. before ++ (if b then fielded_lines rows t (seen_object c.args.object.now) (own_fields (row_of rows t)) else [])) has
