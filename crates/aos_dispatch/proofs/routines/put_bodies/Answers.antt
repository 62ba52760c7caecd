use Rattle.std.proofs.Common.{◌≡◌, ◌<◌, ◌+◌, [], ◌∷◌, ◌++◌, None, length, ap, subst, arith}
use Rattle.aos_typed.specs.Seen.{seen_body}
use Rattle.aos_dispatch.specs.Routines.{seen_routines}
use Rattle.aos_dispatch.proofs.Listed.{body_more}
use Rattle.aos_dispatch.proofs.routines.put_bodies.Goals as goal

pub loop-module-preserved : goal.loop-module-preserved
loop-module-preserved c =
    let l = c.loop-module in
    let ms = c.args.modules.now in
    let lt : l.module-index < length ms = omega arith in
    let one = subst (λ ss. seen_routines c.put.new.all.items ≡ seen_routines l.all.items ++ record { home = l.number; own = None; body = seen_body c.module-item.result.is_exclusive ss } ∷ []) c.as_slice.ensures.value c.in_ok-put.ensures in
    (body_more _ _ _ ms l.module-index l.number c.module-item.result lt c.module-item.is l.invariant.1 l.invariant.0 one, ap (λ j. j + 1) l.invariant.1)
