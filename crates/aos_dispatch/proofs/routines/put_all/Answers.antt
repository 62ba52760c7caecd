use Rattle.std.proofs.Common.{◌≡◌, ◌<◌, ◌+◌, ◌++◌, length, map, ap, subst, arith}
use Rattle.aos_typed.specs.Routines.{routine_of}
use Rattle.aos_typed.specs.Seen.{seen_procedure}
use Rattle.aos_dispatch.specs.Routines.{seen_routines}
use Rattle.aos_dispatch.proofs.Listed.{procedures_more}
use Rattle.aos_dispatch.proofs.routines.put_all.Goals as goal

pub loop-module-preserved : goal.loop-module-preserved
loop-module-preserved c =
    let l = c.loop-module in
    let ms = c.args.modules.now in
    let lt : l.module-index < length ms = omega arith in
    let one = subst (λ qs. seen_routines c.put_procedures.new.all.items ≡ seen_routines l.all.items ++ map (routine_of l.number) (map seen_procedure qs)) c.as_slice.ensures.value c.in_ok-put_procedures.ensures in
    (procedures_more _ _ _ ms l.module-index l.number c.module-item.result lt c.module-item.is l.invariant.1 l.invariant.0 one, ap (λ j. j + 1) l.invariant.1)
