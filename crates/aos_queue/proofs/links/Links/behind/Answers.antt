use Rattle.std.proofs.Common.{◌∙◌, subst}
use Rattle.std.specs.Prelude.{List, ℕ}
use Rattle.aos_queue.specs.Lists.{IsRun, next_in}
use Rattle.aos_queue.proofs.Runs.{behind_is, start_is}
use Rattle.aos_queue.proofs.links.Links.behind.Goals as goal

pub returns : goal.returns
returns c queue front back h e =
    let next = next_in c.args.self.now.nodes.items in
    c.next.ensures ∙ start_is next _ back (behind_is next queue.first front c.args.n back (subst (λ (ns : List ℕ). IsRun next queue.first ns) e h.stands.run))
