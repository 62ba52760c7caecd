use Rattle.std.proofs.Common.{◌+◌, ap, ◌∙◌}
use Rattle.std.specs.Vec.{with_item}
use Rattle.aos_store.specs.Store.{frame_in, with_kept}
use Rattle.aos_store.proofs.Views.{frame_kept}
use Rattle.aos_store.proofs.frames.Frame.keep.Goals as goal

pub returns-clause-ok : goal.returns-clause-ok
returns-clause-ok c =
    let g = c.reserve_keep.new.self in
    ap (λ n. frame_in (record g { cells = with_item g.cells (n + c.args.number) c.args.value })) c.len-own.ensures.own
    ∙ frame_kept g c.args.number c.args.value c.in_ok-reserve_keep.ensures.room ∙ ap (with_kept c.args.number c.args.value) c.reserve_keep.ensures.same
