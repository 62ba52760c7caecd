use Rattle.std.proofs.Common.{◌<◌, length, arith}
use Rattle.aos_listing.specs.Listing.{entry_lines}
use Rattle.aos_listing.specs.Seen.{seen_entry}
use Rattle.aos_listing.proofs.Parts.{some_more}
use Rattle.aos_listing.proofs.lines.lines_of.Goals as goal

pub loop-entry-preserved : goal.loop-entry-preserved
loop-entry-preserved c =
    let l = c.loop-entry in
    let es = c.args.entries.now in
    let lt : l.entry-index < length es = omega arith in
    some_more seen_entry (entry_lines c.args.types.now) _ _ es l.entry-index c.entry-item.result lt c.entry-item.is l.invariant c.in_ok-put_entry.ensures
