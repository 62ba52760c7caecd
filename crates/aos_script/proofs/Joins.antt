-- What joining neighbouring runs keeps.
use Rattle.std.proofs.Common.{◌≡◌, All, ℕ, ◌+◌, ◌-◌, ◌<◌, ◌≤◌, inl, inr, List, [], ◌∷◌, ◌++◌, replicate, refl, sym, ap, ◌∙◌, subst, append_assoc, arith}
use Rattle.std.specs.Prelude.{if◌then◌else◌}
use Rattle.std.proofs.lemmas.Bool.Decides.{eqb_tells, leb_tells}
use Rattle.std.proofs.lemmas.List.{replicate-append-replicate}
use Rattle.std.proofs.lemmas.List.Elements.{All-nil, All-cons, All-head, All-tail}
use Rattle.aos_base.specs.declared.kernel.Sched.{Sched}
use Rattle.aos_base.specs.declared.kernel.Sched.TheVariants.{Steps, Tick as TickEntry}
use Rattle.aos_base.specs.Machine.{Choice, Step}
use Rattle.aos_base.specs.Schedule.{IsEntry, entry_choices, choices}
use Rattle.aos_script.specs.declared.join.Neighbours.{Neighbours}
use Rattle.aos_script.specs.declared.join.Neighbours.TheVariants.{One, Two}
use Rattle.aos_script.specs.Join.{join_within, join, last_of, behind_first, joined_from, joined}

-- a fact of two runs of one worker, from both ways in which they are joined
pub within_by : (P : Neighbours → Type 0) (room w k j : ℕ) → (j ≤ room → P (One (Steps w (k + j)))) → (room < j → P (Two (Steps w 1000000000) (Steps w (j - room)))) → P (join_within room w k j)
within_by P room w k j fits full =
    elim (leb_tells j room) [
      | inl e ↦ subst (λ b. P (if b then One (Steps w (k + j)) else Two (Steps w 1000000000) (Steps w (j - room)))) (sym e.0) (fits e.1)
      | inr e ↦ subst (λ b. P (if b then One (Steps w (k + j)) else Two (Steps w 1000000000) (Steps w (j - room)))) (sym e.0) (full e.1)
    ]

runs_by : (P : Neighbours → Type 0) (w k v j : ℕ) → (w ≡ v → j ≤ 1000000000 - k → P (One (Steps w (k + j)))) → (w ≡ v → 1000000000 - k < j → P (Two (Steps w 1000000000) (Steps w (j - (1000000000 - k))))) → P (Two (Steps w k) (Steps v j)) → P (join (Steps w k) (Steps v j))
runs_by P w k v j fits full apart =
    elim (eqb_tells w v) [
      | inl e ↦ subst (λ b. P (if b then join_within (1000000000 - k) w k j else Two (Steps w k) (Steps v j))) (sym e.0)
          (within_by P (1000000000 - k) w k j (fits e.1) (full e.1))
      | inr e ↦ subst (λ b. P (if b then join_within (1000000000 - k) w k j else Two (Steps w k) (Steps v j))) (sym e.0) apart
    ]

abbrev two_choices : Neighbours → List Choice
two_choices (One r) = entry_choices r
two_choices (Two q r) = entry_choices q ++ entry_choices r

abbrev AreEntries : ℕ → Neighbours → Type 0
AreEntries n (One r) = IsEntry n r
AreEntries n (Two q r) = IsEntry n q × IsEntry n r

module _ (n : ℕ) where
  join-choices : (q r : Sched) → IsEntry n q → two_choices (join q r) ≡ entry_choices q ++ entry_choices r
  join-choices (Steps w k) (Steps v j) h =
      let short = h.2 in
      let apart = λ (same : w ≡ v). sym (replicate-append-replicate k j (Step w)) ∙ ap (λ u. replicate k (Step w) ++ replicate j (Step u)) same in
      runs_by (λ two. two_choices two ≡ replicate k (Step w) ++ replicate j (Step v)) w k v j
      (λ same fits. apart same)
      (λ same full.
      let number : 1000000000 + (j - (1000000000 - k)) ≡ k + j = omega arith in
      replicate-append-replicate 1000000000 (j - (1000000000 - k)) (Step w) ∙ ap (λ m. replicate m (Step w)) number ∙ apart same)
      refl
  join-choices (Steps w k) (TickEntry v) h = refl
  join-choices (TickEntry w) r h = refl

  join-entries : (q r : Sched) → IsEntry n q → IsEntry n r → AreEntries n (join q r)
  join-entries (Steps w k) (Steps v j) h g =
      let low = h.1 in
      let short = h.2 in
      let more = g.1 in
      let most = g.2 in
      runs_by (AreEntries n) w k v j
      (λ same fits. (h.0, omega arith, omega arith))
      (λ same full. ((h.0, omega arith, omega arith), (h.0, omega arith, omega arith)))
      (h, g)
  join-entries (Steps w k) (TickEntry v) h g = (h, g)
  join-entries (TickEntry w) r h g = (h, g)

  -- of two neighbours and those behind them, from the last and those
  behind-choices : (two : Neighbours) (rs : List Sched) → AreEntries n two → ((r : Sched) → IsEntry n r → choices (joined_from r rs) ≡ entry_choices r ++ choices rs) → choices (behind_first two (joined_from (last_of two) rs)) ≡ two_choices two ++ choices rs
  behind-choices (One r) rs h f = f r h
  behind-choices (Two q r) rs h f = ap (λ l. entry_choices q ++ l) (f r h.1) ∙ sym (append_assoc (entry_choices q) (entry_choices r) (choices rs))

  behind-entries : (two : Neighbours) (rs : List Sched) → AreEntries n two → ((r : Sched) → IsEntry n r → All (IsEntry n) (joined_from r rs)) → All (IsEntry n) (behind_first two (joined_from (last_of two) rs))
  behind-entries (One r) rs h f = f r h
  behind-entries (Two q r) rs h f = All-cons (IsEntry n) q (joined_from r rs) h.0 (f r h.1)

  joined_from-choices : (r : Sched) (rs : List Sched) → IsEntry n r → All (IsEntry n) rs → choices (joined_from r rs) ≡ entry_choices r ++ choices rs
  joined_from-choices r [] h all = refl
  joined_from-choices r (q ∷ rs) h all =
      let next = All-head (IsEntry n) q rs all in
      let rest = All-tail (IsEntry n) q rs all in
      behind-choices (join r q) rs (join-entries r q h next) (λ p k. joined_from-choices p rs k rest)
      ∙ ap (λ l. l ++ choices rs) (join-choices r q h) ∙ append_assoc (entry_choices r) (entry_choices q) (choices rs)

  joined_from-entries : (r : Sched) (rs : List Sched) → IsEntry n r → All (IsEntry n) rs → All (IsEntry n) (joined_from r rs)
  joined_from-entries r [] h all = All-cons (IsEntry n) r [] h (All-nil (IsEntry n))
  joined_from-entries r (q ∷ rs) h all =
      let next = All-head (IsEntry n) q rs all in
      let rest = All-tail (IsEntry n) q rs all in
      behind-entries (join r q) rs (join-entries r q h next) (λ p k. joined_from-entries p rs k rest)

  -- joined or not, entries stand for the same choices
  pub joined-choices : (rs : List Sched) → All (IsEntry n) rs → choices (joined rs) ≡ choices rs
  joined-choices [] all = refl
  joined-choices (r ∷ rs) all = joined_from-choices r rs (All-head (IsEntry n) r rs all) (All-tail (IsEntry n) r rs all)

  pub joined-entries : (rs : List Sched) → All (IsEntry n) rs → All (IsEntry n) (joined rs)
  joined-entries [] all = All-nil (IsEntry n)
  joined-entries (r ∷ rs) all = joined_from-entries r rs (All-head (IsEntry n) r rs all) (All-tail (IsEntry n) r rs all)
