use Rattle.std.proofs.Common.{◌<◌, length, arith}
use Rattle.aos_typed.specs.Program.{Method}
use Rattle.aos_typed.specs.Seen.{seen_method, seen_object}
use Rattle.aos_listing.specs.Listing.{OfMethod}
use Rattle.aos_listing.proofs.Parts.{one_more}
use Rattle.aos_listing.proofs.entries.put_methods.Goals as goal

pub loop-method-preserved : goal.loop-method-preserved
loop-method-preserved c =
    let l = c.loop-method in
    let ms = c.args.methods.now in
    let lt : l.method-index < length ms = omega arith in
    one_more seen_method (λ (m : Method). OfMethod (seen_object c.args.object.now) m.procedure) _ _ _ ms l.method-index c.method-item.result lt c.method-item.is l.invariant c.in_ok-put.ensures
