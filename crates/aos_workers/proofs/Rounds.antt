-- The steps and the tick of a round keep the bound and make a turn.
use Rattle.std.proofs.Common.{◌≡◌, ◌≢◌, ℕ, ◌+◌, ◌<◌, ◌≤◌, ◌⊎◌, Bool, true, false, List, [], ◌∷◌, ◌++◌, refl, sym, ap, ◌∙◌, subst, arith, inl, inr, append_assoc}
use Rattle.std.specs.Prelude.{Option, Some, None}
use Rattle.std.proofs.lemmas.List.{append-nil, append_cancel_left}
use Rattle.aos_base.specs.declared.kernel.Outcome.{Outcome}
use Rattle.aos_base.specs.declared.kernel.Outcome.TheVariants.{Going, Ended, Dead, Spent}
use Rattle.aos_base.specs.Book.{on_worker, first_ready}
use Rattle.aos_base.specs.Machine.{Choice, Step, Tick, happens, execution}
use Rattle.aos_base.specs.Schedule.{choices}
use Rattle.aos_concurrency.proofs.Executions.{execution-append}
use Rattle.aos_concurrency.proofs.Places.{on, execution_one, ticked_none, dispatched_some}
use Rattle.aos_code.specs.Machine.{machine, first_state}
use Rattle.aos_kernel.specs.declared.log.Stepped.{Stepped}
use Rattle.aos_kernel.specs.declared.log.Stepped.TheVariants.{Turned, Dispatched, Idle, Over}
use Rattle.aos_kernel.specs.Run.{Run, state_of, comes_to, stepped_while, stepped_with, after_step, after_tick, ticks, ticks_while, has_activity}
use Rattle.aos_kernel.proofs.Logs.{choices-with_step, choices-with_tick}
use Rattle.aos_cell.specs.Bound.{turns_by, turns_since, IsPreempted}
use Rattle.aos_cell.specs.Rule.{AreOf, SameProgram, AddsOwn}
use Rattle.aos_cell.proofs.Schedules.{preempted-append, preempted_end}
use Rattle.aos_cell.proofs.Passes.{program_same, program_then}
use Rattle.aos_workers.specs.Round.{outcome_of, activity_of, IsFresh, Works, turn_in, turns_in, turns_made, Answers}
use Rattle.aos_workers.specs.Holding.{GetsOn, Stepping}
use Rattle.aos_workers.proofs.Turns.{is_in, own_append, since-append, made-append, turn_counts, dispatch_counts, tick_counts, turn_made, dispatch_made}

-- What the answer of a step tells of the state before it

going_is : (o : Outcome) (s t : Stepped) → t ≢ Over → stepped_while o s ≡ t → (o ≡ Going) × (s ≡ t)
going_is Going s t ne e = (refl, e)
going_is Ended s t ne e = absurd (ne (sym e))
going_is Dead s t ne e = absurd (ne (sym e))
going_is Spent s t ne e = absurd (ne (sym e))

turned_with : (o r : Option ℕ) → stepped_with o r ≡ Turned → (a : ℕ) × (o ≡ Some a)
turned_with (Some a) r e = (a, refl)
turned_with None (Some b) e = absurd (cc e)
turned_with None None e = absurd (cc e)

dispatched_with : (o r : Option ℕ) → stepped_with o r ≡ Dispatched → (o ≡ None) × ((a : ℕ) × (r ≡ Some a))
dispatched_with (Some a) r e = absurd (cc e)
dispatched_with None (Some b) e = (refl, (b, refl))
dispatched_with None None e = absurd (cc e)

idle_with : (o r : Option ℕ) → stepped_with o r ≡ Idle → (o ≡ None) × (r ≡ None)
idle_with (Some a) r e = absurd (cc e)
idle_with None (Some b) e = absurd (cc e)
idle_with None None e = (refl, refl)

turned_is : (w : ℕ) (r : Run) → Turned ≡ comes_to w r → (outcome_of r ≡ Going) × ((a : ℕ) × (activity_of w r ≡ Some a))
turned_is w r e = let g = going_is (outcome_of r) _ Turned (λ h. cc h) (sym e) in (g.0, turned_with (activity_of w r) _ g.1)

dispatched_is : (w : ℕ) (r : Run) → Dispatched ≡ comes_to w r → (outcome_of r ≡ Going) × ((activity_of w r ≡ None) × ((a : ℕ) × (first_ready (state_of r).book.line ≡ Some a)))
dispatched_is w r e = let g = going_is (outcome_of r) _ Dispatched (λ h. cc h) (sym e) in (g.0, dispatched_with (activity_of w r) _ g.1)

idle_is : (w : ℕ) (r : Run) → Idle ≡ comes_to w r → (outcome_of r ≡ Going) × ((activity_of w r ≡ None) × (first_ready (state_of r).book.line ≡ None))
idle_is w r e = let g = going_is (outcome_of r) _ Idle (λ h. cc h) (sym e) in (g.0, idle_with (activity_of w r) _ g.1)

over_is : (w : ℕ) (r : Run) → Over ≡ comes_to w r → outcome_of r ≢ Going
over_is w r e going = not_over (activity_of w r) (first_ready (state_of r).book.line) (sym (e ∙ ap (λ o. stepped_while o (stepped_with (activity_of w r) (first_ready (state_of r).book.line))) going))
  where
    not_over : (o k : Option ℕ) → stepped_with o k ≡ Over → ⊥
    not_over (Some a) k z = cc z
    not_over None (Some b) z = cc z
    not_over None None z = cc z

-- and that of a tick

pub ticked_while : (o : Outcome) (b : Bool) → ticks_while o b ≡ false → (o ≢ Going) ⊎ (b ≡ false)
ticked_while Going b e = inr e
ticked_while Ended b e = inl (λ h. cc h)
ticked_while Dead b e = inl (λ h. cc h)
ticked_while Spent b e = inl (λ h. cc h)

took_while : (o : Outcome) (b : Bool) → ticks_while o b ≡ true → (o ≡ Going) × (b ≡ true)
took_while Going b e = (refl, e)
took_while Ended b e = absurd (cc e)
took_while Dead b e = absurd (cc e)
took_while Spent b e = absurd (cc e)

has_some : (o : Option ℕ) → has_activity o ≡ true → (a : ℕ) × (o ≡ Some a)
has_some None e = absurd (cc e)
has_some (Some a) e = (a, refl)

pub has_none : (o : Option ℕ) → has_activity o ≡ false → o ≡ None
has_none None e = refl
has_none (Some a) e = absurd (cc e)

-- A run that goes on by some entries

pub state_grows : (old new : Run) (own : List Choice) → SameProgram old new → choices new.log ≡ choices old.log ++ own → state_of new ≡ execution (machine old.image) own (state_of old)
state_grows old new own same added =
    (λ i. execution (machine (same.0 i)) (added i) (first_state (same.0 i) (same.2 i))) ∙ execution-append (machine old.image) (choices old.log) own (first_state old.image old.budget)

pub made_grows : (w : ℕ) (old new : Run) (own : List Choice) → SameProgram old new → choices new.log ≡ choices old.log ++ own → turns_made w new ≡ turns_made w old + turns_in (machine old.image) w own (state_of old)
made_grows w old new own same added =
    (λ i. turns_in (machine (same.0 i)) w (added i) (first_state (same.0 i) (same.2 i))) ∙ made-append (machine old.image) w (choices old.log) own (first_state old.image old.budget)

-- the bound over what follows is counted as well from the first of two runs
pub along : (w n : ℕ) (old new : Run) (before own : List Choice) → SameProgram old new → choices new.log ≡ choices old.log ++ before → IsPreempted (machine new.image) w own n (state_of new)
    → IsPreempted (machine old.image) w own n (execution (machine old.image) before (state_of old))
along w n old new before own same added kept =
    subst (λ st. IsPreempted (machine old.image) w own n st) (state_grows old new before same added) (subst (λ i. IsPreempted (machine i) w own n (state_of new)) same.0 kept)

one_activity : (w : ℕ) (r : Run) → on w (state_of r).book.line ≤ 1
one_activity w r = execution_one (machine r.image) w (choices r.log) (first_state r.image r.budget) (omega arith)

-- After some steps of a round

-- one entry more of the worker
module _ (w i : ℕ) (Had : ℕ → Type 0) (first last now new : Run) (c : Choice) (s : Stepping w i Had first last now) (added : choices new.log ≡ choices now.log ++ c ∷ []) (same : new ≡ record now { log = new.log }) where
  abbrev since : ℕ → ℕ
  since n = turns_since (machine first.image) w s.own n (state_of first)

  state_now : state_of now ≡ execution (machine first.image) s.own (state_of first)
  state_now = state_grows first now s.own s.program s.added

  more_since : (n : ℕ) → turns_since (machine first.image) w (s.own ++ c ∷ []) n (state_of first) ≡ turns_by (machine first.image) w c (since n) (state_of now)
  more_since n = since-append (machine first.image) w s.own (c ∷ []) n (state_of first) ∙ ap (λ st. turns_by (machine first.image) w c (since n) st) (sym state_now)

  more_made : turns_made w new ≡ turns_made w now + turn_in (machine now.image) w c (state_of now)
  more_made =
      made_grows w now new (c ∷ []) (program_same now new same) added
      ∙ (let a : turn_in (machine now.image) w c (state_of now) + 0 ≡ turn_in (machine now.image) w c (state_of now) = omega arith in ap (λ k. turns_made w now + k) a)

  -- where the new count is small enough, so many steps are made
  more_steps : (j : ℕ) → ((n : ℕ) → Had n → (turns_by (machine first.image) w c (since n) (state_of now) ≤ j) × (turns_by (machine first.image) w c (since n) (state_of now) ≤ 256)) → GetsOn w j last new → Stepping w j Had first last new
  more_steps j small on =
      record {
        own = s.own ++ c ∷ [];
        added = added ∙ ap (λ l. l ++ c ∷ []) s.added ∙ append_assoc (choices first.log) s.own (c ∷ []);
        program = program_then first now new s.program (program_same now new same);
        preempted = λ n had.
            let kept = s.preempted n had in
            preempted-append (machine first.image) w s.own (c ∷ []) n (state_of first) kept
            (preempted_end (machine first.image) w s.own n (state_of first) kept, subst (λ st. turns_by (machine first.image) w c (since n) st ≤ 256) state_now (small n had).1);
        few = λ n had. let a = (small n had).0 in let d = more_since n in let less : turns_since (machine first.image) w (s.own ++ c ∷ []) n (state_of first) ≤ j = omega arith in inl less;
        more = (let a = s.more in let b = more_made in omega arith);
        gets_on = on;
      }

module _ (w i : ℕ) (Had : ℕ → Type 0) (first last now new : Run) (s : Stepping w i Had first last now) (same : new ≡ record now { log = new.log }) where
  -- a step that is a turn
  turned_more : i < 256 → Turned ≡ comes_to w now → new ≡ after_step Turned w now → Stepping w (i + 1) Had first last new
  turned_more less is after_ =
      let added : choices new.log ≡ choices now.log ++ Step w ∷ [] = ap (λ (r : Run). choices r.log) after_ ∙ choices-with_step w now.log in
      let t = turned_is w now is in
      let has : activity_of w now ≡ Some t.1.0 = t.1.1 in
      let made = more_made w i Had first last now new (Step w) s added same in
      let one = turn_made (machine now.image) w t.1.0 (state_of now) has in
      let before = s.more in
      more_steps w i Had first last now new (Step w) s added same (i + 1)
      (λ n had.
      let k = elim (s.few n had) as (λ _. turns_since (machine first.image) w s.own n (state_of first) ≤ i) [
        | inl k ↦ k
        | inr f ↦ elim f [
          | inl none ↦ absurd (let z = sym none ∙ has in cc z)
          | inr over ↦ absurd (over t.0)
        ]
      ] in
      let b = turn_counts (machine first.image) w t.1.0 (turns_since (machine first.image) w s.own n (state_of first)) (state_of now) has in
      ((omega (arith, k, b)), (omega (arith, k, b, less))))
      (inl (omega (arith, made, one, before)))

  -- a step that is a dispatch
  dispatched_more : Dispatched ≡ comes_to w now → new ≡ after_step Dispatched w now → state_of new ≡ happens (machine now.image) (Step w) (state_of now) → Stepping w (i + 1) Had first last new
  dispatched_more is after_ state =
      let added : choices new.log ≡ choices now.log ++ Step w ∷ [] = ap (λ (r : Run). choices r.log) after_ ∙ choices-with_step w now.log in
      let t = dispatched_is w now is in
      let none : activity_of w now ≡ None = t.1.0 in
      let made = more_made w i Had first last now new (Step w) s added same in
      let same_made : turns_made w new ≡ turns_made w now = (let a = dispatch_made (machine now.image) w (state_of now) none in omega (arith, made, a)) in
      let some_ = dispatched_some (machine now.image) w t.1.1.0 (state_of now) t.0 none t.1.1.1 in
      more_steps w i Had first last now new (Step w) s added same (i + 1)
      (λ n had. let b = dispatch_counts (machine first.image) w (turns_since (machine first.image) w s.own n (state_of first)) (state_of now) none in ((omega (arith, b)), (omega (arith, b))))
      (elim s.gets_on [
        | inl a ↦ inl (omega (arith, a, same_made))
        | inr a ↦ elim a [
          | inl over ↦ absurd (over t.0)
          | inr b ↦ elim b [
            | inl zero_ ↦ inr (inr (inr ((let one : i + 1 ≡ 1 = omega (arith, zero_) in one), (some_.0, ap (λ st. on_worker w st.book.line) state ∙ some_.1))))
            | inr one ↦ absurd (let z = sym none ∙ one.1.1 in cc z)
          ]
        ]
      ])

-- The same by the answer of a step

module _ (w i : ℕ) (last now new : Run) (stepped : Stepped) (is : stepped ≡ comes_to w now) (after_ : new ≡ after_step stepped w now) (same : new ≡ record now { log = new.log }) where
  pub goes_turned : (Had : ℕ → Type 0) (first : Run) → stepped ≡ Turned → i < 256 → Stepping w i Had first last now → Stepping w (i + 1) Had first last new
  goes_turned Had first was less s = turned_more w i Had first last now new s same less (sym was ∙ is) (after_ ∙ ap (λ x. after_step x w now) was)

  pub goes_dispatched : (Had : ℕ → Type 0) (first : Run) → state_of new ≡ happens (machine now.image) (Step w) (state_of now) → stepped ≡ Dispatched → Stepping w i Had first last now → Stepping w (i + 1) Had first last new
  goes_dispatched Had first state was s = dispatched_more w i Had first last now new s same (sym was ∙ is) (after_ ∙ ap (λ x. after_step x w now) was) state

  -- its entry is one of the worker's
  pub entry_of : (stepped ≡ Turned) ⊎ (stepped ≡ Dispatched) → choices new.log ≡ choices now.log ++ Step w ∷ []
  entry_of (inl was) = ap (λ (r : Run). choices r.log) (after_ ∙ ap (λ x. after_step x w now) was) ∙ choices-with_step w now.log
  entry_of (inr was) = ap (λ (r : Run). choices r.log) (after_ ∙ ap (λ x. after_step x w now) was) ∙ choices-with_step w now.log

  pub stays_idle : stepped ≡ Idle → new ≡ now
  stays_idle was = after_ ∙ ap (λ x. after_step x w now) was

  pub stays_over : stepped ≡ Over → new ≡ now
  stays_over was = after_ ∙ ap (λ x. after_step x w now) was

  pub ends_idle : (o : Outcome) → o ≡ outcome_of new → stepped ≡ Idle → Answers w last new o
  ends_idle o out was =
      let stays : new ≡ now = stays_idle was in
      let t = idle_is w now (sym was ∙ is) in
      subst (λ r. Answers w last r o) (sym stays) (out ∙ ap outcome_of stays, inr (inr t.1), λ _. t.1.0)

  pub ends_over : (o : Outcome) → o ≡ outcome_of new → stepped ≡ Over → Answers w last new o
  ends_over o out was =
      let stays : new ≡ now = stays_over was in
      let told : o ≡ outcome_of now = out ∙ ap outcome_of stays in
      let over = over_is w now (sym was ∙ is) in
      subst (λ r. Answers w last r o) (sym stays) (told, inr (inl over), λ e. absurd (over (sym told ∙ e)))

-- After 256 steps

-- at least one of them was a turn, where anything still happens
advanced : (w i : ℕ) (last now : Run) → 256 ≤ i → GetsOn w i last now → (turns_made w last < turns_made w now) ⊎ (outcome_of now ≢ Going)
advanced w i last now all on = elim on [
  | inl a ↦ inl a
  | inr a ↦ elim a [
    | inl over ↦ inr over
    | inr b ↦ elim b [
      | inl z ↦ absurd (omega (arith, z, all))
      | inr z ↦ let y = z.0 in absurd (omega (arith, y, all))
    ]
  ]
]

module _ (w i : ℕ) (Had : ℕ → Type 0) (first last now new : Run) (all : 256 ≤ i) (s : Stepping w i Had first last now) (same : new ≡ record now { log = new.log }) where
  -- a tick behind them
  pub ticked_more : (ticked : Bool) → ticked ≡ ticks w now → new ≡ after_tick ticked w now → Stepping w i Had first last new
  ticked_more true is after_ =
      let added : choices new.log ≡ choices now.log ++ Tick w ∷ [] = ap (λ (r : Run). choices r.log) after_ ∙ choices-with_tick w now.log in
      let t = took_while (outcome_of now) (has_activity (activity_of w now)) (sym is) in
      let made = more_made w i Had first last now new (Tick w) s added same in
      more_steps w i Had first last now new (Tick w) s added same i
      (λ n had. let b = tick_counts (machine first.image) w (turns_since (machine first.image) w s.own n (state_of first)) (state_of now) in ((omega (arith, b)), (omega (arith, b))))
      (elim (advanced w i last now all s.gets_on) [
        | inl l ↦ inl (omega (arith, l, made))
        | inr over ↦ absurd (over t.0)
      ])
  ticked_more false is after_ = subst (Stepping w i Had first last) (sym after_) s

  pub ticked_answers : (o : Outcome) (ticked : Bool) → ticked ≡ ticks w now → new ≡ after_tick ticked w now → state_of new ≡ happens (machine now.image) (Tick w) (state_of now) → o ≡ outcome_of new → Answers w last new o
  ticked_answers o true is after_ state out =
      let added : choices new.log ≡ choices now.log ++ Tick w ∷ [] = ap (λ (r : Run). choices r.log) after_ ∙ choices-with_tick w now.log in
      let t = took_while (outcome_of now) (has_activity (activity_of w now)) (sym is) in
      let a = has_some (activity_of w now) t.1 in
      let none : activity_of w new ≡ None = ap (λ st. on_worker w st.book.line) state ∙ ticked_none (machine now.image) w a.0 (state_of now) t.0 a.1 (one_activity w now) in
      let made = more_made w i Had first last now new (Tick w) s added same in (
        out,
        (elim (advanced w i last now all s.gets_on) [
          | inl l ↦ inl (omega (arith, l, made))
          | inr over ↦ absurd (over t.0)
        ]),
        λ _. none,
      )
  ticked_answers o false is after_ state out =
      let e : turns_made w new ≡ turns_made w now = ap (turns_made w) after_ in (
        out,
        (elim (advanced w i last now all s.gets_on) [
          | inl l ↦ inl (omega (arith, l, e))
          | inr over ↦ inr (inl (λ going. over (ap outcome_of (sym after_) ∙ going)))
        ]),
        λ going. (elim (ticked_while (outcome_of now) (has_activity (activity_of w now)) (sym is)) [
          | inl over ↦ absurd (over (ap outcome_of (sym after_) ∙ sym out ∙ going))
          | inr none ↦ ap (activity_of w) after_ ∙ has_none (activity_of w now) none
        ]),
      )

-- what the tick adds
pub tick_entry : (w : ℕ) (now new : Run) (ticked : Bool) → new ≡ after_tick ticked w now → (cs : List Choice) × (choices new.log ≡ choices now.log ++ cs) × AreOf (w ∷ []) cs
tick_entry w now new true after_ = (Tick w ∷ [], ap (λ (r : Run). choices r.log) after_ ∙ choices-with_tick w now.log, (is_in w, tt))
tick_entry w now new false after_ = ([], ap (λ (r : Run). choices r.log) after_ ∙ sym (append-nil (choices now.log)), tt)

-- The work on a kernel that isn't given back between

pub own_more : (ws : List ℕ) (old now new : Run) (cs : List Choice) → AreOf ws cs → choices new.log ≡ choices now.log ++ cs → AddsOwn ws old now → AddsOwn ws old new
own_more ws old now new cs all added own = (
  own.0 ++ cs,
  added ∙ ap (λ l. l ++ cs) own.1 ∙ append_assoc (choices old.log) own.0 cs,
  own_append ws own.0 cs own.2 all,
)

pub own_none : (ws : List ℕ) (r : Run) → AddsOwn ws r r
own_none ws r = ([], sym (append-nil (choices r.log)), tt)

-- fresh counts
abbrev pub Fresh : ℕ → Run → ℕ → Type 0
Fresh w old n = (n ≤ 256) × IsFresh w n old

pub record Working (w i : ℕ) (old now : Run) : Type 0 where
  pub steps : Stepping w i (Fresh w old) old old now
  pub own : AddsOwn (w ∷ []) old now
  pub lent : now.lent ≡ old.lent

pub begins : (w : ℕ) (r : Run) → Working w 0 r r
begins w r =
    record {
      steps = record {
        own = [];
        added = sym (append-nil (choices r.log));
        program = (refl, refl, refl);
        preempted = λ n h. h.0;
        few = λ n h. elim h.1 [
          | inl e ↦ let none : n ≤ 0 = omega (arith, e) in inl none
          | inr e ↦ inr e
        ];
        more = omega arith;
        gets_on = inr (inr (inl refl));
      };
      own = own_none (w ∷ []) r;
      lent = refl;
    }

pub works_of : (w i : ℕ) (old now : Run) → Working w i old now → Works w old now
works_of w i old now k =
    let alike : k.own.0 ≡ k.steps.own = append_cancel_left (choices old.log) k.own.0 k.steps.own (sym k.own.1 ∙ k.steps.added) in
    record {
      own = k.steps.own;
      added = k.steps.added;
      all = subst (AreOf (w ∷ [])) alike k.own.2;
      program = k.steps.program;
      lent = k.lent;
      preempted = λ n le fresh. k.steps.preempted n (le, fresh);
    }

-- also behind a step that does nothing
pub works_stay : (w i : ℕ) (old now new : Run) (stepped none : Stepped) → new ≡ after_step stepped w now → stepped ≡ none → after_step none w now ≡ now → Working w i old now → Works w old new
works_stay w i old now new stepped none after_ was nothing k = subst (Works w old) (sym (after_ ∙ ap (λ s. after_step s w now) was ∙ nothing)) (works_of w i old now k)

-- goes on by entries of the worker
pub works_more : (w i j : ℕ) (old now new : Run) (cs : List Choice) → AreOf (w ∷ []) cs → choices new.log ≡ choices now.log ++ cs → new ≡ record now { log = new.log } → Stepping w j (Fresh w old) old old new → Working w i old now → Working w j old new
works_more w i j old now new cs all added same s k = record { steps = s; own = own_more (w ∷ []) old now new cs all added k.own; lent = ap (λ (r : Run). r.lent) same ∙ k.lent }

module _ (w i : ℕ) (old now new : Run) (stepped : Stepped) (is : stepped ≡ comes_to w now) (after_ : new ≡ after_step stepped w now) (same : new ≡ record now { log = new.log }) where
  pub works_turned : stepped ≡ Turned → i < 256 → Working w i old now → Working w (i + 1) old new
  works_turned was less k =
      works_more w i (i + 1) old now new (Step w ∷ []) (is_in w, tt) (entry_of w i old now new stepped is after_ same (inl was)) same
      (goes_turned w i old now new stepped is after_ same (Fresh w old) old was less k.steps) k

  pub works_dispatched : state_of new ≡ happens (machine now.image) (Step w) (state_of now) → stepped ≡ Dispatched → Working w i old now → Working w (i + 1) old new
  works_dispatched state was k =
      works_more w i (i + 1) old now new (Step w ∷ []) (is_in w, tt) (entry_of w i old now new stepped is after_ same (inr was)) same
      (goes_dispatched w i old now new stepped is after_ same (Fresh w old) old state was k.steps) k

pub ticked_works : (w i : ℕ) (old now new : Run) → 256 ≤ i → Working w i old now → (ticked : Bool) → ticked ≡ ticks w now → new ≡ after_tick ticked w now → new ≡ record now { log = new.log } → Works w old new
ticked_works w i old now new all k ticked is after_ same =
    let t = tick_entry w now new ticked after_ in
    works_of w i old new (works_more w i i old now new t.0 t.2 t.1 same (ticked_more w i (Fresh w old) old old now new all k.steps same ticked is after_) k)
