use Rattle.aos_queue.specs.Lists.{room_of}
use Rattle.aos_queue.proofs.Runs.{stands_list, stands_belongs, first_left, first_back}
use Rattle.aos_queue.proofs.links.Links.take.Goals as goal

pub next-next-requires : goal.next-next-requires
unfolding room_of
next-next-requires c = c.requires.belongs.stands.reserved c.args.n c.requires.within

pub returns-then-eq-clause-taken : goal.returns-then-eq-clause-taken
returns-then-eq-clause-taken c = stands_list _ _ _ (first_left c.args.self.now c.args.queue.now c.args.n _ c.requires.belongs c.if-eq.ensures c.next-next.ensures)

pub returns-then-eq-clause-belongs : goal.returns-then-eq-clause-belongs
returns-then-eq-clause-belongs c =
    let links = c.args.self.now in
    let q = c.args.queue.now in
    stands_belongs links _ _ (first_left links q c.args.n _ c.requires.belongs c.if-eq.ensures c.next-next.ensures)
    (first_back links q c.args.n c.requires.belongs c.if-eq.ensures)
