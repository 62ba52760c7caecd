use Rattle.std.proofs.Common.{◌≡◌, ◌<◌, ◌++◌, length, map, subst, arith}
use Rattle.aos_typed.specs.Routines.{routine_of}
use Rattle.aos_typed.specs.Seen.{seen_method}
use Rattle.aos_dispatch.specs.Routines.{seen_routines}
use Rattle.aos_dispatch.proofs.Listed.{methods_more}
use Rattle.aos_dispatch.proofs.routines.put_methods.Goals as goal

pub loop-object-preserved : goal.loop-object-preserved
loop-object-preserved c =
    let l = c.loop-object in
    let os = c.args.objects.now in
    let o = c.object-item.result in
    let lt : l.object-index < length os = omega arith in
    let one = subst (λ ms. seen_routines c.put_own.new.all.items ≡ seen_routines l.all.items ++ map (λ m. routine_of o.home m.procedure) (map seen_method ms)) c.as_slice.ensures.value c.in_ok-put_own.ensures in
    methods_more _ _ _ os l.object-index o lt c.object-item.is l.invariant one
