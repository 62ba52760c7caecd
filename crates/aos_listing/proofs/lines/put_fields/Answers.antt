use Rattle.std.proofs.Common.{◌≤◌, length, sym, ap, ◌∙◌, arith}
use Rattle.std.specs.Option.{option_copied}
use Rattle.aos_layout.specs.Layout.{cells}
use Rattle.aos_listing.specs.Seen.{seen_lines, seen_names}
use Rattle.aos_listing.proofs.Parts.{fields_more, fields_end, fields_out}
use Rattle.aos_listing.proofs.lines.put_fields.Goals as goal

pub loop-number-preserved : goal.loop-number-preserved
loop-number-preserved c =
    let l = c.loop-number in
    fields_more (cells c.args.types.now) 3 (seen_names c.args.names.now) c.args.fields.now l.number _ _ l.at _ _ (seen_lines l.lines.items) _ _ c.loop-number-test.true c.in-Some.ensures c.field_cells-cells.ensures c.in_ok-at.ensures c.in_ok-put_line.ensures l.invariant

pub returns-in_default : goal.returns-in_default
returns-in_default c =
    let l = c.loop-number in
    sym (fields_out (cells c.args.types.now) 3 (seen_names c.args.names.now) c.args.fields.now l.number l.at (seen_lines l.lines.items) (ap option_copied (sym c.in_default.is) ∙ c.name_at.ensures))
    ∙ l.invariant

pub returns : goal.returns
returns c =
    let l = c.loop-number in
    let most : length c.args.fields.now ≤ l.number = omega (arith, c.loop-number-test.false) in
    sym (fields_end (cells c.args.types.now) 3 (seen_names c.args.names.now) c.args.fields.now l.number l.at (seen_lines l.lines.items) most) ∙ l.invariant
