use Rattle.std.proofs.Common.{◌<◌, ℕ, sym, subst, Contains}
use Rattle.aos_queue.specs.Lists.{list_in}
use Rattle.aos_queue.proofs.Members.{gone}
use Rattle.aos_queue.proofs.Runs.{is_reserved}
use Rattle.aos_bench.proofs.Filled.{fills_moved}
use Rattle.aos_bench.proofs.queue.move_last.Goals as goal

pub put_last-requires-clause-reserved : goal.put_last-requires-clause-reserved
put_last-requires-clause-reserved c =
    subst (λ (room : ℕ). c.args.n < room) (sym c.take.ensures.table.room) (is_reserved c.args.links.now c.args.queue.now c.args.n c.requires.belongs c.requires.within)

pub put_last-requires-clause-elsewhere : goal.put_last-requires-clause-elsewhere
put_last-requires-clause-elsewhere c =
    λ i. gone c.args.n (list_in c.args.links.now c.args.queue.now) (subst (λ ms. Contains ms c.args.n) c.take.ensures.taken i)

pub returns : goal.returns
returns c count h =
    fills_moved c.args.links.now c.take.new.self c.put_last.new.self c.args.queue.now c.take.new.queue c.put_last.new.queue c.args.n count h c.requires.within
    c.take.ensures.taken c.put_last.ensures.last c.put_last.ensures.belongs
