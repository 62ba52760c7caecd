use Rattle.std.proofs.Common.{◌≡◌, ◌≢◌, ◌∙◌, ◌<◌, ◌≤◌, ◌++◌, ◌∷◌, [], ℕ, List, length, subst, sym, arith, Contains}
use Rattle.std.specs.Prelude.{Some}
use Rattle.aos_queue.specs.Lists.{IsBack, Stands, last_of, list_in, next_in, prior_in, room_of}
use Rattle.aos_queue.proofs.Members.{here, there}
use Rattle.aos_queue.proofs.Runs.{stands_list, stands_belongs, keeps_others, back_put, nobody, put_alone, put_behind, last_in}
use Rattle.aos_queue.proofs.Tables.{same_table}
use Rattle.aos_queue.proofs.links.Links.put_last.Goals as goal

pub link_back-requires : goal.link_back-requires
link_back-requires c = subst (λ (room : ℕ). c.args.n < room) (sym c.link.ensures.table.room) c.requires.reserved

pub link-requires-in-Some : goal.link-requires-in-Some
unfolding room_of
link-requires-in-Some c =
    let q = c.args.queue.now in
    let old : q.last < length c.args.self.now.nodes.items = c.requires.belongs.stands.reserved q.last (last_in _ _ q.first q.last c.in-Some.field-0 _ c.requires.belongs.stands c.in-Some.is) in
    omega (arith, c.replace-last.ensures.value, c.link.ensures.table.room, c.link_back.ensures.table.room)

pub returns-in-None : goal.returns-in-None
unfolding room_of
returns-in-None c =
    let n = c.args.n in
    let q = c.args.queue.now in
    let old = c.args.self.now in
    let new = c.link_back.new.self in
    let ns = list_in old q in
    let l = c.replace-last.result in
    let same : (m : ℕ) → m ≢ n → next_in new.nodes.items m ≡ next_in old.nodes.items m = λ m b. c.link_back.ensures.next m ∙ c.link.ensures.others m b in
    let before : (m : ℕ) → m ≢ n → prior_in new.nodes.items m ≡ prior_in old.nodes.items m = λ m b. c.link_back.ensures.others m b ∙ c.link.ensures.before m in
    let none : ns ≡ [] = nobody _ _ q.first q.last ns c.requires.belongs.stands c.in-None.is in
    let more : length old.nodes.items ≤ length new.nodes.items = omega (arith, c.link.ensures.table.room, c.link_back.ensures.table.room) in
    let placed : Stands (next_in new.nodes.items) (length new.nodes.items) (Some n) c.replace-last.new.dest (ns ++ n ∷ []) =
    subst (λ (last : ℕ). Stands (next_in new.nodes.items) (length new.nodes.items) (Some n) last (ns ++ n ∷ [])) (sym c.replace-last.ensures.after)
    (subst (λ (ms : List ℕ). Stands (next_in new.nodes.items) (length new.nodes.items) (Some n) n (ms ++ n ∷ [])) (sym none)
    (put_alone _ _ n (omega (arith, c.requires.reserved, c.link.ensures.table.room, c.link_back.ensures.table.room)) (c.link_back.ensures.next n ∙ c.link.ensures.linked))) in
    let ends : l ≡ last_of l ns = subst (λ (k : ℕ). k ≡ last_of k ns) (sym c.replace-last.ensures.value) c.requires.belongs.stands.ends in
    let back : IsBack (prior_in new.nodes.items) (ns ++ n ∷ []) =
    back_put (prior_in old.nodes.items) (prior_in new.nodes.items) l n ns ends c.requires.elsewhere c.link_back.ensures.linked before c.requires.belongs.back in
    let out : (m : ℕ) → (Contains (n ∷ ns) m → ⊥) → m ≢ n = λ m o e. o (subst (λ k. Contains (n ∷ ns) k) (sym e) (here n ns)) in
    record {
      last = stands_list new _ _ placed;
      belongs = stands_belongs new _ _ placed back;
      others = keeps_others old new _ more (λ m o. same m (out m o)) (λ m o. before m (out m o));
      table = same_table c.link.ensures.table c.link_back.ensures.table;
    }

pub returns-in-Some : goal.returns-in-Some
unfolding room_of
returns-in-Some c =
    let n = c.args.n in
    let q = c.args.queue.now in
    let old = c.args.self.now in
    let new = c.link-in-Some.new.self in
    let ns = list_in old q in
    let l = c.replace-last.result in
    let was : l ≡ q.last = c.replace-last.ensures.value in
    let within : Contains ns l = subst (λ k. Contains ns k) (sym was) (last_in _ _ q.first q.last c.in-Some.field-0 ns c.requires.belongs.stands c.in-Some.is) in
    let other : n ≢ l = λ e. c.requires.elsewhere (subst (λ k. Contains ns k) (sym e) within) in
    let same : (m : ℕ) → m ≢ l → m ≢ n → next_in new.nodes.items m ≡ next_in old.nodes.items m = λ m a b. c.link-in-Some.ensures.others m a ∙ c.link_back.ensures.next m ∙ c.link.ensures.others m b in
    let before : (m : ℕ) → m ≢ n → prior_in new.nodes.items m ≡ prior_in old.nodes.items m = λ m b. c.link-in-Some.ensures.before m ∙ c.link_back.ensures.others m b ∙ c.link.ensures.before m in
    let stood : Stands (next_in old.nodes.items) (length old.nodes.items) q.first l ns =
    subst (λ (last : ℕ). Stands (next_in old.nodes.items) (length old.nodes.items) q.first last ns) (sym was) c.requires.belongs.stands in
    let more : length old.nodes.items ≤ length new.nodes.items = omega (arith, c.link.ensures.table.room, c.link_back.ensures.table.room, c.link-in-Some.ensures.table.room) in
    let placed : Stands (next_in new.nodes.items) (length new.nodes.items) q.first c.replace-last.new.dest (ns ++ n ∷ []) =
    subst (λ (last : ℕ). Stands (next_in new.nodes.items) (length new.nodes.items) q.first last (ns ++ n ∷ [])) (sym c.replace-last.ensures.after)
    (put_behind (next_in old.nodes.items) (next_in new.nodes.items) _ _ q.first l c.in-Some.field-0 n ns stood c.in-Some.is more
    (omega (arith, c.requires.reserved, c.link.ensures.table.room, c.link_back.ensures.table.room, c.link-in-Some.ensures.table.room)) c.requires.elsewhere c.link-in-Some.ensures.linked
    (c.link-in-Some.ensures.others n other ∙ c.link_back.ensures.next n ∙ c.link.ensures.linked) same) in
    let back : IsBack (prior_in new.nodes.items) (ns ++ n ∷ []) =
    back_put (prior_in old.nodes.items) (prior_in new.nodes.items) l n ns stood.ends c.requires.elsewhere (c.link-in-Some.ensures.before n ∙ c.link_back.ensures.linked) before c.requires.belongs.back in
    let out : (m : ℕ) → (Contains (n ∷ ns) m → ⊥) → m ≢ n = λ m o e. o (subst (λ k. Contains (n ∷ ns) k) (sym e) (here n ns)) in
    record {
      last = stands_list new _ _ placed;
      belongs = stands_belongs new _ _ placed back;
      others = keeps_others old new _ more
          (λ m o. same m (λ e. o (there n m ns (subst (λ k. Contains ns k) (sym e) within))) (out m o))
          (λ m o. before m (out m o));
      table = same_table (same_table c.link.ensures.table c.link_back.ensures.table) c.link-in-Some.ensures.table;
    }
