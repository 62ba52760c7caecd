use Rattle.std.proofs.Common.{◌≡◌, ◌<◌, ◌∙◌, ◌∷◌, ℕ, List, length, subst, sym, arith, Contains, refl}
use Rattle.std.specs.Prelude.{None, Some}
use Rattle.std.proofs.lemmas.Option.{none-some, same_Some}
use Rattle.aos_queue.specs.Lists.{next_in, prior_in, room_of}
use Rattle.aos_queue.proofs.Members.{in_middle}
use Rattle.aos_queue.proofs.Runs.{prior_split, next_within, HasLeft, has_left}
use Rattle.aos_queue.proofs.Tables.{same_table}
use Rattle.aos_queue.proofs.links.Links.take_later.Goals as goal

pub prior-before-requires : goal.prior-before-requires
unfolding room_of
prior-before-requires c = c.requires.belongs.stands.reserved c.args.n c.requires.within

pub link-requires : goal.link-requires
unfolding room_of
link-requires c =
    let q = c.args.queue.now in
    let p = c.prior-before.result in
    let i = prior_split c.args.self.now q c.args.n p c.requires.belongs c.requires.within c.requires.later c.prior-before.ensures in
    c.requires.belongs.stands.reserved p (subst (λ (ns : List ℕ). Contains ns p) (sym i.2) (in_middle i.0 p (c.args.n ∷ i.1)))

pub returns-in-None : goal.returns-in-None
unfolding room_of
returns-in-None c =
    let n = c.args.n in
    let p = c.prior-before.result in
    let q = c.args.queue.now in
    let old = c.args.self.now in
    let new = c.link.new.self in
    let none : next_in old.nodes.items n ≡ None = sym c.requires.next ∙ c.in-None.is in
    let left : HasLeft old new q (record { first = q.first; last = p }) n =
    has_left old new q p n p c.requires.belongs (prior_split old q n p c.requires.belongs c.requires.within c.requires.later c.prior-before.ensures)
    (omega (arith, c.link.ensures.table.room)) (c.link.ensures.linked ∙ c.requires.next) c.link.ensures.others
    (λ k out. c.link.ensures.before k)
    (λ k e. absurd (none-some k (sym none ∙ e)))
    (λ e. refl) in
    record { taken = left.taken; belongs = left.belongs; others = left.others; table = c.link.ensures.table }

pub link_back-requires : goal.link_back-requires
unfolding room_of
link_back-requires c =
    let old = c.args.self.now in
    let behind = c.in-Some.behind in
    let h = c.requires.belongs.stands in
    let some : next_in old.nodes.items c.args.n ≡ Some behind = sym c.requires.next ∙ c.in-Some.is in
    let l : behind < length old.nodes.items = h.reserved behind (next_within (next_in old.nodes.items) _ _ c.args.n behind h.run c.requires.within some) in
    omega (arith, l, c.link.ensures.table.room)

pub returns-in-Some : goal.returns-in-Some
unfolding room_of
returns-in-Some c =
    let n = c.args.n in
    let p = c.prior-before.result in
    let q = c.args.queue.now in
    let old = c.args.self.now in
    let new = c.link_back.new.self in
    let behind = c.in-Some.behind in
    let some : next_in old.nodes.items n ≡ Some behind = sym c.requires.next ∙ c.in-Some.is in
    let left : HasLeft old new q (record { first = q.first; last = q.last }) n =
    has_left old new q q.last n p c.requires.belongs (prior_split old q n p c.requires.belongs c.requires.within c.requires.later c.prior-before.ensures)
    (omega (arith, c.link.ensures.table.room, c.link_back.ensures.table.room)) (c.link_back.ensures.next p ∙ c.link.ensures.linked ∙ c.requires.next)
    (λ k out. c.link_back.ensures.next k ∙ c.link.ensures.others k out)
    (λ k out. c.link_back.ensures.others k (λ e. out (subst (λ (j : ℕ). next_in old.nodes.items n ≡ Some j) (sym e) some)) ∙ c.link.ensures.before k)
    (λ k e. (subst (λ (j : ℕ). prior_in new.nodes.items j ≡ p) (same_Some behind k (sym some ∙ e)) c.link_back.ensures.linked, refl))
    (λ e. absurd (none-some behind (sym e ∙ some))) in
    record { taken = left.taken; belongs = left.belongs; others = left.others; table = same_table c.link.ensures.table c.link_back.ensures.table }
