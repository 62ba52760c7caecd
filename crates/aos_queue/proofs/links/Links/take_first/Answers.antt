use Rattle.std.proofs.Common.{◌≡◌, ◌∙◌, ◌∷◌, [], ℕ, List, length, subst, sym, ap, Contains}
use Rattle.std.specs.Prelude.{Option}
use Rattle.aos_queue.specs.Lists.{IsBack, Stands, list_in, next_in, prior_in, room_of}
use Rattle.aos_queue.proofs.Members.{here}
use Rattle.aos_queue.proofs.Runs.{stands_list, stands_belongs, back_rest, nobody, first_taken}
use Rattle.aos_queue.proofs.links.Links.take_first.Goals as goal

pub returns-in_default-clause-empty : goal.returns-in_default-clause-empty
returns-in_default-clause-empty c =
    let q = c.args.queue.now in
    let none : list_in c.args.self.now q ≡ [] = nobody _ _ q.first q.last _ c.requires.stands c.in_default.is in
    ((λ e. none), (λ e. cc))

pub returns-in_default-clause-unchanged : goal.returns-in_default-clause-unchanged
returns-in_default-clause-unchanged c =
    let q = c.args.queue.now in
    nobody _ _ q.first q.last _ c.requires.stands c.in_default.is

pub next-queue-requires : goal.next-queue-requires
unfolding room_of
next-queue-requires c =
    let q = c.args.queue.now in
    let t = first_taken _ _ q.first q.last c.in-Some.first _ c.requires.stands c.in-Some.is in
    c.requires.stands.reserved c.in-Some.first (subst (λ (ns : List ℕ). Contains ns c.in-Some.first) (sym t.1) (here _ _))

pub returns-clause-first : goal.returns-clause-first
returns-clause-first c =
    let links = c.args.self.now in
    let q = c.args.queue.now in
    let t = first_taken _ _ q.first q.last c.in-Some.first _ c.requires.stands c.in-Some.is in
    let stands : Stands (next_in links.nodes.items) (length links.nodes.items) c.next-queue.result q.last t.0 =
    subst (λ (s : Option ℕ). Stands (next_in links.nodes.items) (length links.nodes.items) s q.last t.0) (sym c.next-queue.ensures) t.2 in
    t.1 ∙ ap (λ ms. c.in-Some.first ∷ ms) (sym (stands_list links _ t.0 stands))

pub returns-clause-belongs : goal.returns-clause-belongs
returns-clause-belongs c =
    let links = c.args.self.now in
    let q = c.args.queue.now in
    let t = first_taken _ _ q.first q.last c.in-Some.first _ c.requires.stands c.in-Some.is in
    stands_belongs links _ t.0
    (subst (λ (s : Option ℕ). Stands (next_in links.nodes.items) (length links.nodes.items) s q.last t.0) (sym c.next-queue.ensures) t.2)
    (back_rest (prior_in links.nodes.items) c.in-Some.first t.0 (subst (λ (ns : List ℕ). IsBack (prior_in links.nodes.items) ns) t.1 c.requires.back))
