-- What is put into a queue of the numbers below a bound, or moved in it.
use Rattle.std.proofs.Common.{◌≡◌, ◌<◌, ◌+◌, ◌++◌, ◌∷◌, [], ℕ, arith, sym, ap, subst, ◌∙◌, inl, inr, Contains}
use Rattle.std.specs.Prelude.{not, ◌==◌}
use Rattle.std.proofs.lemmas.Bool.{cases_lt}
use Rattle.std.proofs.lemmas.Bool.Decides.{eqb_tells}
use Rattle.std.proofs.lemmas.List.Elements.{Contains-append_left, Contains-push_cases}
use Rattle.aos_queue.specs.declared.links.Links.{Links}
use Rattle.aos_queue.specs.declared.queue.Queue.{Queue}
use Rattle.aos_queue.specs.Lists.{list_in, without, Belongs}
use Rattle.aos_queue.proofs.Members.{none, in_middle, stays}
use Rattle.aos_lock.proofs.Rows.{filter_within}
use Rattle.aos_bench.specs.Fill.{Fills}

pub none_fills : (links : Links) (queue : Queue) → Belongs links queue → list_in links queue ≡ [] → Fills links queue 0
none_fills links queue belongs e = record {
  belongs = belongs;
  has = λ m l. absurd (omega (arith, l));
  below = λ m i. absurd (none m (subst (λ ms. Contains ms m) e i));
}

pub fills_put : (old new : Links) (before after : Queue) (n : ℕ) → Fills old before n → list_in new after ≡ list_in old before ++ n ∷ [] → Belongs new after → Fills new after (n + 1)
fills_put old new before after n h last belongs =
    let ns = list_in old before in
    record {
      belongs = belongs;
      has = λ m l. subst (λ ms. Contains ms m) (sym last) (elim (cases_lt m n) [
        | inl less ↦ Contains-append_left ns (n ∷ []) m (h.has m less)
        | inr past ↦ let same : n ≡ m = omega (arith, l, past) in subst (λ k. Contains (ns ++ n ∷ []) k) same (in_middle ns n [])
      ]);
      below = λ m i. elim (Contains-push_cases ns n m (subst (λ ms. Contains ms m) last i)) [
        | inl j ↦ let less : m < n = h.below m j in omega (arith, less)
        | inr e ↦ omega (arith, e)
      ];
    }

pub fills_moved : (old mid new : Links) (before between after : Queue) (n count : ℕ) → Fills old before count → Contains (list_in old before) n
    → list_in mid between ≡ without n (list_in old before) → list_in new after ≡ list_in mid between ++ n ∷ [] → Belongs new after → Fills new after count
fills_moved old mid new before between after n count h within taken last belongs =
    let ns = list_in old before in
    let all : list_in new after ≡ without n ns ++ n ∷ [] = last ∙ ap (λ ms. ms ++ n ∷ []) taken in
    record {
      belongs = belongs;
      has = λ m l. subst (λ ms. Contains ms m) (sym all) (elim (eqb_tells m n) [
        | inl e ↦ subst (λ k. Contains (without n ns ++ n ∷ []) k) (sym e.1) (in_middle (without n ns) n [])
        | inr d ↦ Contains-append_left (without n ns) (n ∷ []) m (stays n m ns d.1 (h.has m l))
      ]);
      below = λ m i. elim (Contains-push_cases (without n ns) n m (subst (λ ms. Contains ms m) all i)) [
        | inl j ↦ h.below m (filter_within (λ k. not (k == n)) ns m j)
        | inr e ↦ h.below m (subst (λ k. Contains ns k) e within)
      ];
    }
