-- The walk along a lock's waiters, to the first that is served.
use Rattle.std.proofs.Common.{◌≡◌, ◌≢◌, ℕ, suc, ◌<◌, List, [], ◌∷◌, ◌++◌, length, refl, sym, ap, subst, ◌∙◌, Contains, arith}
use Rattle.std.specs.Prelude.{true, false, ◌==◌, cond, Option, Some, None, slice_get}
use Rattle.std.proofs.Common.{append_assoc}
use Rattle.std.proofs.lemmas.Bool.{eq-eqb}
use Rattle.std.proofs.lemmas.Option.{none-some, same_Some}
use Rattle.aos_base.specs.declared.kernel.Verdict.{Verdict}
use Rattle.aos_queue.specs.declared.links.Links.{Links}
use Rattle.aos_queue.specs.Lists.{list_in, room_of, IsOnce, Belongs}
use Rattle.aos_queue.specs.declared.queue.Queue.{Queue}
use Rattle.aos_queue.proofs.Runs.{is_reserved}
use Rattle.aos_queue.proofs.Members.{in_middle, differ}
use Rattle.aos_lock.specs.Heirs.{serves, first_served}

-- the walk stands before `rest`: no waiter before it is served
pub record Walked (verdict : ℕ → Verdict) (ns : List ℕ) (at : Option ℕ) : Type 0 where
  pub front : List ℕ
  pub rest : List ℕ
  pub split : ns ≡ front ++ rest
  pub place : at ≡ slice_get rest 0
  pub still : first_served verdict ns ≡ first_served verdict rest

pub walk_begins : (verdict : ℕ → Verdict) (ns : List ℕ) (at : Option ℕ) → at ≡ slice_get ns 0 → Walked verdict ns at
walk_begins verdict ns at e = record { front = []; rest = ns; split = refl; place = e; still = refl }

opened : (a : ℕ) (rest : List ℕ) → Some a ≡ slice_get rest 0 → (more : List ℕ) × (rest ≡ a ∷ more)
opened a [] e = absurd (none-some a (sym e))
opened a (n ∷ ns) e = (ns, ap (λ k. k ∷ ns) (sym (same_Some a n e)))

-- where the walk stands at a number
pub stands_at : (verdict : ℕ → Verdict) (ns : List ℕ) (a : ℕ) → Walked verdict ns (Some a) → (front : List ℕ) × (back : List ℕ) × (ns ≡ front ++ a ∷ back)
stands_at verdict ns a h = let o = opened a h.rest h.place in (h.front, o.0, h.split ∙ ap (λ ms. h.front ++ ms) o.1)

pub is_within : (verdict : ℕ → Verdict) (ns : List ℕ) (a : ℕ) → Walked verdict ns (Some a) → Contains ns a
is_within verdict ns a h =
    let s = stands_at verdict ns a h in
    subst (λ ms. Contains ms a) (sym s.2) (in_middle s.0 a s.1)

-- at a number the walk ends or goes on by what its condition comes to
served_at : (verdict : ℕ → Verdict) (ns : List ℕ) (a : ℕ) (more : List ℕ) (h : Walked verdict ns (Some a)) → h.rest ≡ a ∷ more → first_served verdict ns ≡ cond (serves (verdict a)) (Some a) (first_served verdict more)
served_at verdict ns a more h e = h.still ∙ ap (first_served verdict) e

-- one whose condition fails is passed over
pub walk_on : (verdict : ℕ → Verdict) (ns : List ℕ) (a : ℕ) (at : Option ℕ) → Walked verdict ns (Some a) → serves (verdict a) ≡ false
    → ((front back : List ℕ) → ns ≡ front ++ a ∷ back → at ≡ slice_get back 0) → Walked verdict ns at
walk_on verdict ns a at h fails next =
    let o = opened a h.rest h.place in
    let parted : ns ≡ h.front ++ a ∷ o.0 = h.split ∙ ap (λ ms. h.front ++ ms) o.1 in
    record {
      front = h.front ++ a ∷ [];
      rest = o.0;
      split = parted ∙ sym (append_assoc h.front (a ∷ []) o.0);
      place = next h.front o.0 parted;
      still = served_at verdict ns a o.0 h o.1 ∙ ap (λ b. cond b (Some a) (first_served verdict o.0)) fails;
    }

pub walk_serves : (verdict : ℕ → Verdict) (ns : List ℕ) (a : ℕ) → Walked verdict ns (Some a) → serves (verdict a) ≡ true → Some a ≡ first_served verdict ns
walk_serves verdict ns a h serve =
    let o = opened a h.rest h.place in
    sym (served_at verdict ns a o.0 h o.1 ∙ ap (λ b. cond b (Some a) (first_served verdict o.0)) serve)

emptied : (rest : List ℕ) → None ≡ slice_get rest 0 → rest ≡ []
emptied [] e = refl
emptied (n ∷ ns) e = absurd (none-some n e)

pub walk_ends : (verdict : ℕ → Verdict) (ns : List ℕ) → Walked verdict ns None → None ≡ first_served verdict ns
walk_ends verdict ns h = sym (h.still ∙ ap (first_served verdict) (emptied h.rest h.place))

-- how many are left to walk along
abbrev pub left_from : ℕ → List ℕ → ℕ
left_from a [] = 0
left_from a (n ∷ ns) = cond (n == a) (suc (length ns)) (left_from a ns)

abbrev pub left_at : Option ℕ → List ℕ → ℕ
left_at None ns = 0
left_at (Some a) ns = left_from a ns

left_split : (front : List ℕ) (a : ℕ) (back : List ℕ) → IsOnce (front ++ a ∷ back) → left_from a (front ++ a ∷ back) ≡ suc (length back)
left_split [] a back once = ap (λ b. cond b (suc (length back)) (left_from a back)) (eq-eqb a a refl)
left_split (n ∷ front) a back once =
    let other : n ≢ a = λ e. once.0 (subst (λ k. Contains (front ++ a ∷ back) k) (sym e) (in_middle front a back)) in
    ap (λ b. cond b (suc (length (front ++ a ∷ back))) (left_from a (front ++ a ∷ back))) (differ n a other) ∙ left_split front a back once.1

left_behind : (front : List ℕ) (a : ℕ) (back : List ℕ) → IsOnce (front ++ a ∷ back) → left_at (slice_get back 0) (front ++ a ∷ back) ≡ length back
left_behind front a [] once = refl
left_behind front a (b ∷ back) once =
    let moved : (front ++ a ∷ []) ++ b ∷ back ≡ front ++ a ∷ b ∷ back = append_assoc front (a ∷ []) (b ∷ back) in
    ap (left_from b) (sym moved) ∙ left_split (front ++ a ∷ []) b back (subst IsOnce (sym moved) once)

pub walk_falls : (ns front : List ℕ) (a : ℕ) (back : List ℕ) (at : Option ℕ) → IsOnce ns → ns ≡ front ++ a ∷ back → at ≡ slice_get back 0 → left_at at ns < left_at (Some a) ns
walk_falls ns front a back at once e next =
    let o : IsOnce (front ++ a ∷ back) = subst IsOnce e once in
    let here : left_from a ns ≡ suc (length back) = ap (left_from a) e ∙ left_split front a back o in
    let there : left_at at ns ≡ length back = ap (λ p. left_at p ns) next ∙ ap (left_at (slice_get back 0)) e ∙ left_behind front a back o in
    omega arith

pub reserved_at : (verdict : ℕ → Verdict) (links : Links) (queue : Queue) (at : Option ℕ) (a : ℕ) → Belongs links queue → at ≡ Some a
    → Walked verdict (list_in links queue) at → a < room_of links
reserved_at verdict links queue at a h e w =
    is_reserved links queue a h (is_within verdict (list_in links queue) a
    (subst (λ (p : Option ℕ). Walked verdict (list_in links queue) p) e w))
