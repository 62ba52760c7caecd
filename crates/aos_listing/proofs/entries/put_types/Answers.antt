use Rattle.std.proofs.Common.{◌<◌, ◌+◌, length, ap, arith}
use Rattle.aos_typed.specs.Seen.{seen_object}
use Rattle.aos_listing.specs.Listing.{type_entries}
use Rattle.aos_listing.proofs.Gathered.{numbered_more}
use Rattle.aos_listing.proofs.entries.put_types.Goals as goal

pub loop-object-preserved : goal.loop-object-preserved
loop-object-preserved c =
    let l = c.loop-object in
    let xs = c.args.objects.now in
    let lt : l.object-index < length xs = omega arith in
    (numbered_more seen_object type_entries _ _ _ xs l.object-index l.number c.object-item.result lt c.object-item.is l.invariant.1 l.invariant.0 c.in_ok-put_type.ensures, ap (λ j. j + 1) l.invariant.1)
