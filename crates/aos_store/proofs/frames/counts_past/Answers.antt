use Rattle.std.proofs.Common.{◌≤◌, ◌+◌, length, min, sym, ap, ◌∙◌, arith}
use Rattle.std.specs.Prelude.{sum_by}
use Rattle.std.proofs.lemmas.List.{take_all}
use Rattle.aos_base.specs.declared.limits.TheConstants.{MOST_FRAME_SCALARS}
use Rattle.aos_store.specs.declared.frames.Frame.{Frame as KeptFrame}
use Rattle.aos_store.proofs.Lists.{capped}
use Rattle.aos_store.proofs.Views.{frames_counted}
use Rattle.aos_store.proofs.frames.counts_past.Goals as goal

pub returns : goal.returns
returns c =
    let fs = c.args.list.now in
    let all : length fs ≤ c.loop-frame.frame-index = omega arith in
    capped MOST_FRAME_SCALARS _ c.loop-frame.sum
    (c.loop-frame.invariant ∙ ap (λ n. min (c.args.counted + n) 65537) (ap (sum_by (λ (f : KeptFrame). f.counted)) (take_all c.loop-frame.frame-index fs all) ∙ sym (frames_counted fs)))
