-- What a status tells of what is seen.
use Rattle.std.proofs.Common.{◌≡◌, ◌≢◌, ℕ, List, [], ◌∷◌, Bool, true, false, refl, sym, ap, ap₂, ◌∙◌, subst, inl, inr}
use Rattle.std.specs.Prelude.{◌==◌}
use Rattle.std.proofs.lemmas.Bool.{eq-eqb}
use Rattle.aos_base.specs.declared.kernel.Outcome.{Outcome}
use Rattle.aos_base.specs.declared.kernel.Outcome.TheVariants.{Going, Ended, Dead, Spent}
use Rattle.aos_base.specs.Book.{TrapRow}
use Rattle.aos_base.specs.Machine.{Choice}
use Rattle.aos_base.specs.Observation.{Observation, observation, status_of}
use Rattle.aos_base.specs.Schedule.{choices}
use Rattle.aos_typed.specs.Program.{Program}
use Rattle.aos_script.specs.declared.script.Script.{Script}
use Rattle.aos_script.specs.Listing.{choices_of}
use Rattle.aos.specs.Seen.{Seen, seen_of, replay_of, EndsWell, EndsWithTrap, IsDead, IsSpent, IsGoing}
use Rattle.aos.specs.Promises.{IsRunStatus, IsReplayStatus}

-- Numbers that differ

never_both : (b : Bool) → b ≡ true → b ≡ false → ⊥
never_both true h k = cc
never_both false h k = cc

pub differ : {A : Type 0} (m n : ℕ) → (m == n) ≡ false → m ≡ n → A
differ m n apart same = absurd (never_both (m == n) (eq-eqb m n same) apart)

-- The status of what is seen

abbrev pub HasStatus : Observation → Type 0
HasStatus o = o.status ≡ status_of o.outcome o.traps

has_status : (p : Program) (budget : ℕ) (schedule : List Choice) → HasStatus (seen_of p budget schedule)
unfolding seen_of observation
has_status p budget schedule = refl

pub run_has : (workers budget : ℕ) (p : Program) (o : Observation) → Seen workers budget p o → HasStatus o
run_has workers budget p o s = subst (λ x. HasStatus x) (sym s.seen) (has_status p budget (choices s.schedule))

pub replay_has : (p : Program) (s : Script) → HasStatus (replay_of p s)
replay_has p s = has_status p s.budget (choices_of s)

status_over : (o : Outcome) (traps : List TrapRow) → o ≢ Going → IsRunStatus (status_of o traps)
status_over Going traps over = absurd (over refl)
status_over Ended [] over = inl refl
status_over Ended (t ∷ ts) over = inr (inl refl)
status_over Dead traps over = inr (inr (inl refl))
status_over Spent traps over = inr (inr (inr refl))

status_told : (o : Outcome) (traps : List TrapRow) → IsReplayStatus (status_of o traps)
status_told Going traps = inr refl
status_told Ended [] = inl (inl refl)
status_told Ended (t ∷ ts) = inl (inr (inl refl))
status_told Dead traps = inl (inr (inr (inl refl)))
status_told Spent traps = inl (inr (inr (inr refl)))

pub run_status : (workers budget : ℕ) (p : Program) (o : Observation) → Seen workers budget p o → IsRunStatus o.status
run_status workers budget p o s = subst IsRunStatus (sym (run_has workers budget p o s)) (status_over o.outcome o.traps s.over)

pub replay_status : (p : Program) (s : Script) → IsReplayStatus (replay_of p s).status
replay_status p s = let o = replay_of p s in subst IsReplayStatus (sym (replay_has p s)) (status_told o.outcome o.traps)

-- a status that nothing seen has
pub record IsNone (n : ℕ) : Type 0 where
  pub ended : (0 == n) ≡ false
  pub trapped : (3 == n) ≡ false
  pub dead : (4 == n) ≡ false
  pub spent : (5 == n) ≡ false
  pub going : (9 == n) ≡ false

no_status : {A : Type 0} (status n : ℕ) → IsReplayStatus status → IsNone n → status ≡ n → A
no_status status n (inl (inl h)) none e = differ 0 n none.ended (sym h ∙ e)
no_status status n (inl (inr (inl h))) none e = differ 3 n none.trapped (sym h ∙ e)
no_status status n (inl (inr (inr (inl h)))) none e = differ 4 n none.dead (sym h ∙ e)
no_status status n (inl (inr (inr (inr h)))) none e = differ 5 n none.spent (sym h ∙ e)
no_status status n (inr h) none e = differ 9 n none.going (sym h ∙ e)

pub none_1 : IsNone 1
none_1 = record { ended = refl; trapped = refl; dead = refl; spent = refl; going = refl }

pub none_2 : IsNone 2
none_2 = record { ended = refl; trapped = refl; dead = refl; spent = refl; going = refl }

pub none_6 : IsNone 6
none_6 = record { ended = refl; trapped = refl; dead = refl; spent = refl; going = refl }

pub none_7 : IsNone 7
none_7 = record { ended = refl; trapped = refl; dead = refl; spent = refl; going = refl }

pub none_8 : IsNone 8
none_8 = record { ended = refl; trapped = refl; dead = refl; spent = refl; going = refl }

pub none_10 : IsNone 10
none_10 = record { ended = refl; trapped = refl; dead = refl; spent = refl; going = refl }

pub no_run : {A : Type 0} (workers budget : ℕ) (p : Program) (o : Observation) (n : ℕ) → Seen workers budget p o → IsNone n → o.status ≡ n → A
no_run workers budget p o n s none e = no_status o.status n (inl (run_status workers budget p o s)) none e

pub no_replay : {A : Type 0} (p : Program) (s : Script) (n : ℕ) → IsNone n → (replay_of p s).status ≡ n → A
no_replay p s n none e = no_status (replay_of p s).status n (replay_status p s) none e

-- What a status tells of what is seen

-- it is told exactly where what is seen is such, and no refusal has it
pub record Means (n : ℕ) (Such : Observation → Type 0) : Type 0 where
  pub only : (o : Observation) → HasStatus o → o.status ≡ n → Such o
  pub also : (o : Observation) → HasStatus o → Such o → o.status ≡ n
  pub no_1 : (1 == n) ≡ false
  pub no_2 : (2 == n) ≡ false
  pub no_6 : (6 == n) ≡ false
  pub no_10 : (10 == n) ≡ false

zero_only : (o : Outcome) (traps : List TrapRow) → status_of o traps ≡ 0 → (o ≡ Ended) × (traps ≡ [])
zero_only Going traps e = differ 9 0 refl e
zero_only Ended [] e = (refl, refl)
zero_only Ended (t ∷ ts) e = differ 3 0 refl e
zero_only Dead traps e = differ 4 0 refl e
zero_only Spent traps e = differ 5 0 refl e

some_apart : (t : TrapRow) (ts : List TrapRow) → t ∷ ts ≡ [] → ⊥
some_apart t ts e = cc

three_only : (o : Outcome) (traps : List TrapRow) → status_of o traps ≡ 3 → (o ≡ Ended) × (traps ≢ [])
three_only Going traps e = differ 9 3 refl e
three_only Ended [] e = differ 0 3 refl e
three_only Ended (t ∷ ts) e = (refl, some_apart t ts)
three_only Dead traps e = differ 4 3 refl e
three_only Spent traps e = differ 5 3 refl e

three_also : (traps : List TrapRow) → traps ≢ [] → status_of Ended traps ≡ 3
three_also [] some = absurd (some refl)
three_also (t ∷ ts) some = refl

four_only : (o : Outcome) (traps : List TrapRow) → status_of o traps ≡ 4 → o ≡ Dead
four_only Going traps e = differ 9 4 refl e
four_only Ended [] e = differ 0 4 refl e
four_only Ended (t ∷ ts) e = differ 3 4 refl e
four_only Dead traps e = refl
four_only Spent traps e = differ 5 4 refl e

five_only : (o : Outcome) (traps : List TrapRow) → status_of o traps ≡ 5 → o ≡ Spent
five_only Going traps e = differ 9 5 refl e
five_only Ended [] e = differ 0 5 refl e
five_only Ended (t ∷ ts) e = differ 3 5 refl e
five_only Dead traps e = differ 4 5 refl e
five_only Spent traps e = refl

nine_only : (o : Outcome) (traps : List TrapRow) → status_of o traps ≡ 9 → o ≡ Going
nine_only Going traps e = refl
nine_only Ended [] e = differ 0 9 refl e
nine_only Ended (t ∷ ts) e = differ 3 9 refl e
nine_only Dead traps e = differ 4 9 refl e
nine_only Spent traps e = differ 5 9 refl e

pub is_well : Means 0 EndsWell
is_well = record {
  only = λ o is e. zero_only o.outcome o.traps (sym is ∙ e);
  also = λ o is h. is ∙ ap₂ status_of h.0 h.1;
  no_1 = refl;
  no_2 = refl;
  no_6 = refl;
  no_10 = refl;
}

pub is_trapped : Means 3 EndsWithTrap
is_trapped = record {
  only = λ o is e. three_only o.outcome o.traps (sym is ∙ e);
  also = λ o is h. is ∙ ap (λ x. status_of x o.traps) h.0 ∙ three_also o.traps h.1;
  no_1 = refl;
  no_2 = refl;
  no_6 = refl;
  no_10 = refl;
}

pub is_dead : Means 4 IsDead
is_dead = record {
  only = λ o is e. four_only o.outcome o.traps (sym is ∙ e);
  also = λ o is h. is ∙ ap (λ x. status_of x o.traps) h;
  no_1 = refl;
  no_2 = refl;
  no_6 = refl;
  no_10 = refl;
}

pub is_spent : Means 5 IsSpent
is_spent = record {
  only = λ o is e. five_only o.outcome o.traps (sym is ∙ e);
  also = λ o is h. is ∙ ap (λ x. status_of x o.traps) h;
  no_1 = refl;
  no_2 = refl;
  no_6 = refl;
  no_10 = refl;
}

pub is_going : Means 9 IsGoing
is_going = record {
  only = λ o is e. nine_only o.outcome o.traps (sym is ∙ e);
  also = λ o is h. is ∙ ap (λ x. status_of x o.traps) h;
  no_1 = refl;
  no_2 = refl;
  no_6 = refl;
  no_10 = refl;
}
