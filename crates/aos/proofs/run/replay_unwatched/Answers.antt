use Rattle.std.proofs.Common.{map, ap}
use Rattle.std.proofs.lemmas.Result.{IfOk-weaker}
use Rattle.aos.proofs.Over.{unwatched}
use Rattle.aos.proofs.run.replay_unwatched.Goals as goal

pub returns : goal.returns
returns c =
    IfOk-weaker c.replay_all.result _ _
    (λ a shown. unwatched c.args.kernel.now.image c.args.script.now _ a (ap (map _) c.new-none.ensures.items) shown)
    c.replay_all.ensures
