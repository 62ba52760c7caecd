use Rattle.std.proofs.Common.{◌<◌, ◌+◌, length, ap, arith}
use Rattle.aos_typed.specs.Seen.{seen_module}
use Rattle.aos_listing.specs.Listing.{module_entries}
use Rattle.aos_listing.proofs.Gathered.{numbered_more}
use Rattle.aos_listing.proofs.entries.put_modules.Goals as goal

pub loop-module-preserved : goal.loop-module-preserved
loop-module-preserved c =
    let l = c.loop-module in
    let xs = c.args.modules.now in
    let lt : l.module-index < length xs = omega arith in
    (numbered_more seen_module module_entries _ _ _ xs l.module-index l.number c.module-item.result lt c.module-item.is l.invariant.1 l.invariant.0 c.in_ok-put_module.ensures, ap (λ j. j + 1) l.invariant.1)
