-- A loan of a worker's activity, while others have the kernel.
use Rattle.std.proofs.Common.{◌≡◌, ◌≢◌, ◌⊎◌, ℕ, zero, suc, ◌+◌, ◌<◌, ◌≤◌, Bool, true, false, List, [], ◌∷◌, ◌++◌, length, replicate, not, refl, sym, ap, ◌∙◌, subst, arith, inl, inr, append_assoc}
use Rattle.std.specs.Prelude.{if◌then◌else◌, ◌==◌, Option, Some, IfSome}
use Rattle.std.proofs.lemmas.List.{append-nil}
use Rattle.std.proofs.lemmas.Bool.Decides.{eqb_tells}
use Rattle.aos_base.specs.declared.kernel.Outcome.{Outcome}
use Rattle.aos_base.specs.declared.kernel.Outcome.TheVariants.{Going, Ended, Dead, Spent}
use Rattle.aos_base.specs.declared.kernel.Sched.TheVariants.{Steps}
use Rattle.aos_base.specs.Book.{Activity, Runs, counted, on_worker, outcome}
use Rattle.aos_base.specs.Machine.{Choice, Step, State, happens, execution}
use Rattle.aos_base.specs.Schedule.{choices}
use Rattle.aos_base.specs.Rooted.{Made}
use Rattle.aos_code.specs.declared.image.Image.{Image}
use Rattle.aos_code.specs.Memory.{Memory}
use Rattle.aos_code.specs.Machine.{Frames, machine}
use Rattle.aos_silent_steps.specs.Room.{StayFit}
use Rattle.aos_concurrency.specs.Private.{steps, settled}
use Rattle.aos_concurrency.proofs.Tables.{number, put_same}
use Rattle.aos_settling.specs.Settling.{ArePrivateAt}
use Rattle.aos_concurrency.proofs.Settles.{settle_at}
use Rattle.aos_loan.specs.Loans.{Lending, begun_in, IsMadeOf, IsLoanOf}
use Rattle.aos_loan.proofs.Turning.{are_private, loan_stays, loan_runs}
use Rattle.aos_kernel.specs.declared.log.Stepped.{Stepped}
use Rattle.aos_kernel.specs.declared.log.Stepped.TheVariants.{Turned, Dispatched, Idle, Over}
use Rattle.aos_kernel.specs.Run.{Run, among, without, state_of, stepped_while}
use Rattle.aos_kernel.specs.Lends.{Lends, after_lend, turned_or_idle, settles_to, after_settle}
use Rattle.aos_kernel.proofs.Logs.{choices-append}
use Rattle.aos_kernel.proofs.Histories.{is_over, over_is}
use Rattle.aos_kernel.proofs.Lending.{orderly_run}
use Rattle.aos_cell.specs.declared.rule.Part.{Part}
use Rattle.aos_cell.specs.declared.rule.View.{View}
use Rattle.aos_cell.specs.declared.rule.View.TheVariants.{Opens, Spent as Joined, Of}
use Rattle.aos_cell.specs.Total.{times}
use Rattle.aos_cell.specs.Bound.{turns_by, turns_since, IsPreempted, KeepsBound}
use Rattle.aos_cell.specs.Rule.{AreOf, SameProgram, AddsOthers}
use Rattle.aos_cell.specs.Steps.{HasWorkers, Follows, taken, Takes, MayGive, given, Gives}
use Rattle.aos_cell.proofs.Schedules.{preempted-append, preempted_end, others_since, others_preempted}
use Rattle.aos_cell.proofs.Passes.{program_then, same_lent, lent_still, its_worker}
use Rattle.aos_workers.specs.Round.{outcome_of, activity_of, turns_made, turns_in}
use Rattle.aos_workers.specs.Holding.{GetsOn, Stepping, Held, IsWorking, Lent, IsLent, Back, IsBack}
use Rattle.aos_workers.proofs.Turns.{is_in, none_of, since-append, turn_counts, turn_made}
use Rattle.aos_workers.proofs.Rounds.{state_grows, made_grows, own_none}
use Rattle.aos_workers.proofs.Held.{bound_more, held_more, by_parts, Works, may_give, same_turns}

-- Its turns count one by one

going_or_over : (o : Outcome) → (o ≡ Going) ⊎ (o ≢ Going)
going_or_over Going = inl refl
going_or_over Ended = inr (λ e. cc e)
going_or_over Dead = inr (λ e. cc e)
going_or_over Spent = inr (λ e. cc e)

-- this schedule has so many turns of w, which keep the bound behind k others
abbrev Counts : Image → ℕ → List Choice → ℕ → ℕ → State Memory Frames → Type 0
Counts image w cs n k st =
    (turns_since (machine image) w cs k st ≡ k + n) × IsPreempted (machine image) w cs k st × (turns_in (machine image) w cs st ≡ n)

module _ (image : Image) (w a : ℕ) where
  counts_more : (cs : List Choice) (n k : ℕ) (st next : State Memory Frames) → on_worker w st.book.line ≡ Some a → happens (machine image) (Step w) st ≡ next → k + suc n ≤ 256 → Counts image w cs n (suc k) next → Counts image w (Step w ∷ cs) (suc n) k st
  counts_more cs n k st next on goes le ih =
      let m = machine image in
      let count = turn_counts m w a k st on in
      let made = turn_made m w a st on in
      let since : turns_since m w cs (turns_by m w (Step w) k st) (happens m (Step w) st) ≡ turns_since m w cs (suc k) next = λ i. turns_since m w cs (count i) (goes i) in
      let turns : turns_in m w cs (happens m (Step w) st) ≡ turns_in m w cs next = ap (turns_in m w cs) goes in
      let e = ih.0 in let t = ih.2 in (
        (since ∙ (omega (arith, e))),
        ((omega (arith, le)), subst (λ (z : ℕ × State Memory Frames). IsPreempted m w cs z.0 z.1) (λ i. (sym count i, sym goes i)) ih.1),
        omega (arith, made, turns, t),
      )

  -- where nothing more happens
  over_counts : (xs : List Bool) (k : ℕ) (st : State Memory Frames) → outcome st.book ≢ Going → on_worker w st.book.line ≡ Some a → k + length xs ≤ 256 → Counts image w (steps w xs) (length xs) k st
  over_counts [] k st over on le = ((omega arith), (omega (arith, le)), refl)
  over_counts (x ∷ xs) k st over on le =
      counts_more (steps w xs) (length xs) k st st on (is_over image st (Step w) over) le (over_counts xs (suc k) st over on (omega (arith, le)))

  still_on : (x : Bool) (f : Frames) (st : State Memory Frames) → on_worker w st.book.line ≡ Some a → on_worker w (settled a f (x ∷ []) st).book.line ≡ Some a
  unfolding counted
  still_on x f st on = on

  still_runs : (x : Bool) (f : Frames) (st : State Memory Frames) → (st.book.activity a).next ≡ Runs → ((settled a f (x ∷ []) st).book.activity a).next ≡ Runs
  unfolding counted
  still_runs x f st runs = ap (λ (r : Activity). r.next) (put_same number st.book.activity a _) ∙ runs

  private_counts : (f g : Frames) (begun : List Bool) (k : ℕ) (st : State Memory Frames) → on_worker w st.book.line ≡ Some a → (st.book.activity a).next ≡ Runs → st.frames a ≡ f → ArePrivateAt (machine image) st.store f begun g → k + length begun ≤ 256
      → Counts image w (steps w begun) (length begun) k st
  private_counts f g [] k st on runs is private le = ((omega arith), (omega (arith, le)), refl)
  private_counts f g (x ∷ xs) k st on runs is private le = elim (going_or_over (outcome st.book)) [
    | inl going ↦
        let h = private.0 in
        let next = settled a h (x ∷ []) st in
        counts_more (steps w xs) (length xs) k st next on (settle_at (machine image) w a f h (x ∷ []) st (going, tt) on runs is (h, (private.1.0, refl))) le
        (private_counts h g xs (suc k) next (still_on x h st on) (still_runs x h st runs) (put_same number st.frames a h) private.1.1 (omega (arith, le)))
    | inr over ↦ over_counts (x ∷ xs) k st over on le
  ]

begun_length : (image : Image) (made : List Made) (n : ℕ) (fs : Frames) → length (begun_in image made n fs) ≡ n
begun_length image made zero fs = refl
begun_length image made (suc n) fs = ap suc (begun_length image made n _)

so_many : (w : ℕ) (xs : List Bool) → steps w xs ≡ replicate (length xs) (Step w)
so_many w [] = refl
so_many w (x ∷ xs) = ap (λ cs. Step w ∷ cs) (so_many w xs)

loan_counts : (w k : ℕ) (l : Lending) (st : State Memory Frames) → k + l.turns ≤ 256 → IsLoanOf w l st → Counts l.image w (replicate l.turns (Step w)) l.turns k st
loan_counts w k l st le h =
    let fs = st.frames h.activity in
    let flags = begun_in l.image h.made l.turns fs in
    let many : length flags ≡ l.turns = begun_length l.image h.made l.turns fs in
    subst (λ (x : List Choice × ℕ). Counts l.image w x.0 x.1 k st) (λ i. ((so_many w flags ∙ ap (λ n. replicate n (Step w)) many) i, many i))
    (private_counts l.image w h.activity fs _ flags k st h.on h.runs refl (are_private l.image h.made l.turns fs st.store h.known h.turns.private) (omega (arith, many, le)))

-- Who is lent

among_last : (w : ℕ) (vs : List ℕ) → among w (vs ++ w ∷ []) ≡ true
among_last w [] = elim (eqb_tells w w) [
  | inl e ↦ ap (λ q. if q then true else false) e.0
  | inr e ↦ absurd (e.1 refl)
]
among_last w (v ∷ vs) = elim (v == w) as (λ q. (if q then true else among w (vs ++ w ∷ [])) ≡ true) [
  | true ↦ refl
  | false ↦ among_last w vs
]

among_before : (v w : ℕ) (vs : List ℕ) → v ≢ w → among v (vs ++ w ∷ []) ≡ among v vs
among_before v w [] far = elim (eqb_tells w v) [
  | inl e ↦ absurd (far (sym e.1))
  | inr e ↦ ap (λ q. if q then true else false) e.0
]
among_before v w (x ∷ xs) far = ap (λ q. if x == v then true else q) (among_before v w xs far)

none_left : (w : ℕ) (vs : List ℕ) → among w (without w vs) ≡ false
none_left w [] = refl
none_left w (v ∷ vs) = elim (eqb_tells v w) [
  | inl e ↦ ap (λ q. among w (if not q then v ∷ without w vs else without w vs)) e.0 ∙ none_left w vs
  | inr e ↦ ap (λ q. among w (if not q then v ∷ without w vs else without w vs)) e.0 ∙ ap (λ q. if q then true else among w (without w vs)) e.0 ∙ none_left w vs
]

others_left : (v w : ℕ) (vs : List ℕ) → v ≢ w → among v (without w vs) ≡ among v vs
others_left v w [] far = refl
others_left v w (x ∷ xs) far = elim (eqb_tells x w) [
  | inl e ↦ ap (λ q. among v (if not q then x ∷ without w xs else without w xs)) e.0
      ∙ others_left v w xs far
      ∙ (elim (eqb_tells x v) [
        | inl f ↦ absurd (far (sym f.1 ∙ e.1))
        | inr f ↦ ap (λ q. if q then true else among v xs) (sym f.0)
      ])
  | inr e ↦ ap (λ q. among v (if not q then x ∷ without w xs else without w xs)) e.0 ∙ ap (λ q. if x == v then true else q) (others_left v w xs far)
]

-- Lending

-- a kernel that lends other workers
steps_same : (w i : ℕ) (Had : ℕ → Type 0) (first last now new : Run) (lent : List ℕ) → new ≡ record now { lent = lent } → Stepping w i Had first last now → Stepping w i Had first last new
steps_same w i Had first last now new lent is s =
    subst (Stepping w i Had first last) (sym is)
    (record { own = s.own; added = s.added; program = s.program; preempted = s.preempted; few = s.few; more = s.more; gets_on = s.gets_on })

lends_one : (w i gave : ℕ) (p q : Part) (now new : Run) (l : Lending) → Lends w now l → new ≡ after_lend (Some l) w now → Held false w gave p q now → Stepping w i (λ n. n ≡ 0) q.first p.last now → Lent w i gave p q new l
lends_one w i gave p q now new l lends is h s =
    record {
      held = held_more false true w gave p q now new [] tt (ap (λ (r : Run). choices r.log) is ∙ sym (append-nil (choices now.log)))
          (ap (λ (r : Run). r.image) is, ap (λ (r : Run). r.workers) is, ap (λ (r : Run). r.budget) is)
          (ap (λ (r : Run). among w r.lent) is ∙ among_last w now.lent) (λ v far. ap (λ (r : Run). among v r.lent) is ∙ among_before v w now.lent far)
          (subst (KeepsBound q.first) (sym is) h.extends.bound) h;
      steps = steps_same w i (λ n. n ≡ 0) q.first p.last now new (now.lent ++ w ∷ []) is s;
      going = subst (λ (r : Run). outcome_of r ≡ Going) (sym is) lends.going;
      image = lends.image ∙ sym (ap (λ (r : Run). r.image) is);
      budget = lends.budget ∙ sym (ap (λ (r : Run). r.budget) is);
      loan = subst (λ (r : Run). IsLoanOf w l (state_of r)) (sym is) lends.loan;
    }

pub lends_out : (w i gave : ℕ) (v current : View) (now new : Run) (l : Lending) → Lends w now l → new ≡ after_lend (Some l) w now → IsWorking w i gave v current now → IsLent w i gave v current new l
lends_out w i gave v current now new l lends is = by_parts (Works w i gave now) (λ x y. IsLent w i gave x y new l) v current (λ p q works. lends_one w i gave p q now new l lends is works.0 works.1)

pub gives_lent : (w i gave : ℕ) (v current : View) (r : Run) (l : Lending) → gave ≤ 256 → IsLent w i gave v current r l → MayGive current r
gives_lent w i gave v current r l few = by_parts (λ p q. Lent w i gave p q r l) (λ x y. MayGive y r) v current (λ p q lent. may_give true w gave p q r few lent.held)

pub gave_workers : (current after : View) (r : Run) → Gives current r after → HasWorkers after
gave_workers Opens after r gives = absurd gives
gave_workers Joined after r gives = absurd gives
gave_workers (Of q) after r gives = subst HasWorkers (sym gives) tt

-- What the loan makes

pub runs_lent : (w i gave : ℕ) (v current : View) (r : Run) (old new : Lending) → new.image ≡ old.image → new.budget ≡ old.budget → ((made : List Made) (begun : ℕ) (fs : Frames) → IsMadeOf made begun fs old → IsMadeOf made begun fs new) → StayFit old.image old.frames new.frames
    → IsLent w i gave v current r old → IsLent w i gave v current r new
runs_lent w i gave v current r old new same small goes fit = by_parts (λ p q. Lent w i gave p q r old) (λ x y. IsLent w i gave x y r new) v current (λ p q lent.
    record { held = lent.held; steps = lent.steps; going = lent.going; image = same ∙ lent.image; budget = small ∙ lent.budget; loan = loan_runs w old new (state_of r) same goes fit lent.loan })

-- What others add

still_going : (w i : ℕ) (Had : ℕ → Type 0) (first last old new : Run) (a b : ℕ) → SameProgram old new → AddsOthers (w ∷ []) old new → outcome_of old ≡ Going → activity_of w old ≡ Some a → activity_of w new ≡ Some b → Stepping w i Had first last old → Stepping w i Had first last new
still_going w i Had first last old new a b same others going had has s =
    let m = machine first.image in
    let since = λ (n : ℕ). turns_since m w s.own n (state_of first) in
    let behind = execution m s.own (state_of first) in
    let turns = same_turns w old new same others in
    let before = s.more in
    record {
      own = s.own ++ others.0;
      added = others.1 ∙ ap (λ l. l ++ others.0) s.added ∙ append_assoc (choices first.log) s.own others.0;
      program = program_then first old new s.program same;
      preempted = λ n h.
          let kept = s.preempted n h in
          preempted-append m w s.own others.0 n (state_of first) kept (others_preempted m w (w ∷ []) others.0 (since n) behind (is_in w) (preempted_end m w s.own n (state_of first) kept) others.2);
      few = λ n h. elim (s.few n h) [
        | inl k ↦
            let e : turns_since m w (s.own ++ others.0) n (state_of first) ≡ since n = since-append m w s.own others.0 n (state_of first) ∙ others_since m w (w ∷ []) others.0 (since n) behind (is_in w) others.2 in
            let still : turns_since m w (s.own ++ others.0) n (state_of first) ≤ i = omega (arith, e, k) in
            inl still
        | inr f ↦ elim f [
          | inl none ↦ absurd (let z = sym none ∙ had in cc z)
          | inr over ↦ absurd (over going)
        ]
      ];
      more = omega (arith, before, turns);
      gets_on = elim s.gets_on [
        | inl c ↦ inl (omega (arith, c, turns))
        | inr c ↦ elim c [
          | inl over ↦ absurd (over going)
          | inr d ↦ elim d [
            | inl none ↦ inr (inr (inl none))
            | inr one ↦ inr (inr (inr (one.0, (b, has))))
          ]
        ]
      ];
    }

-- Taking the kernel again

takes_one : (w i gave : ℕ) (p q : Part) (old new : Run) (l : Lending) → Lent w i gave p q old l → Follows (given q old) new → Back w i (gave + 1) p (taken (given q old) new) new l
takes_one w i gave p q old new l lent f =
    let h = lent.held in
    let member : 0 < times w q.workers = its_worker w q.workers h.worker in
    let others : AddsOthers (w ∷ []) old new = subst (λ ws. AddsOthers ws old new) h.worker f.others in
    let loan : IsLoanOf w l (state_of new) =
    subst (IsLoanOf w l) (ap (λ i. execution (machine i) others.0 (state_of old)) lent.image ∙ sym (state_grows old new others.0 f.same others.1))
    (loan_stays w l others.0 (state_of old) (none_of w others.0 others.2) (orderly_run old) lent.loan) in
    record {
      held = record {
        worker = h.worker;
        has = refl;
        first = h.first;
        enough = h.enough;
        gives = (let gives = h.gives in omega (arith, gives));
        extends = record { program = f.program; own = own_none q.workers new; bound = f.bound; lent = same_lent q.workers new new refl };
        range = f.range w member;
        lent = lent_still w q old new member f.lent ∙ h.lent;
        grows = (h.grows.0 ++ f.others.0, f.others.1 ∙ ap (λ l. l ++ f.others.0) h.grows.1 ∙ append_assoc (choices p.last.log) h.grows.0 f.others.0);
      };
      steps = still_going w i (λ n. n ≡ 0) q.first p.last old new lent.loan.activity loan.activity f.same others lent.going lent.loan.on loan.on lent.steps;
      image = lent.image ∙ sym f.same.0;
      budget = lent.budget ∙ sym f.same.2;
      loan = loan;
    }

pub takes_lent : (w i gave : ℕ) (v current between after : View) (old new : Run) (l : Lending) → IsLent w i gave v current old l → Gives current old between → Takes between new after → IsBack w i (gave + 1) v after new l
takes_lent w i gave v current between after old new l lent gives took =
    by_parts (λ p q. Lent w i gave p q old l) (λ x y. Gives y old between → IsBack w i (gave + 1) x after new l) v current
    (λ p q out gave_it. let t : Takes (Of (given q old)) new after = subst (λ v. Takes v new after) gave_it took in
    subst (λ y. IsBack w i (gave + 1) (Of p) y new l) (sym t.0) (takes_one w i gave p q old new l out t.1))
    lent gives

-- what settling it asks
pub may_settle : (w i gave : ℕ) (v current : View) (r : Run) (l : Lending) → IsBack w i gave v current r l → (w < r.workers) × (among w r.lent ≡ true) × (l.image ≡ r.image) × (l.budget ≡ r.budget) × IsLoanOf w l (state_of r)
may_settle w i gave v current r l = by_parts (λ p q. Back w i gave p q r l) (λ x y. (w < r.workers) × (among w r.lent ≡ true) × (l.image ≡ r.image) × (l.budget ≡ r.budget) × IsLoanOf w l (state_of r)) v current
    (λ p q back. (back.held.range, back.held.lent, back.image, back.budget, back.loan))

-- Settling

settled_same : (stepped : Stepped) (w : ℕ) (l : Lending) (now new : Run) → new ≡ after_settle stepped w l now → SameProgram now new × (new.lent ≡ without w now.lent)
settled_same Turned w l now new is = ((ap (λ (r : Run). r.image) is, ap (λ (r : Run). r.workers) is, ap (λ (r : Run). r.budget) is), ap (λ (r : Run). r.lent) is)
settled_same Dispatched w l now new is = ((ap (λ (r : Run). r.image) is, ap (λ (r : Run). r.workers) is, ap (λ (r : Run). r.budget) is), ap (λ (r : Run). r.lent) is)
settled_same Idle w l now new is = ((ap (λ (r : Run). r.image) is, ap (λ (r : Run). r.workers) is, ap (λ (r : Run). r.budget) is), ap (λ (r : Run). r.lent) is)
settled_same Over w l now new is = ((ap (λ (r : Run). r.image) is, ap (λ (r : Run). r.workers) is, ap (λ (r : Run). r.budget) is), ap (λ (r : Run). r.lent) is)

-- the entries of its turns, where the outcome is Going
settled_log : (w n : ℕ) (l : Lending) (now new : Run) → l.turns ≡ n → new ≡ after_settle (turned_or_idle n) w l now → choices new.log ≡ choices now.log ++ replicate n (Step w)
settled_log w zero l now new none is = ap (λ (r : Run). choices r.log) is ∙ sym (append-nil (choices now.log))
settled_log w (suc n) l now new some_ is =
    ap (λ (r : Run). choices r.log) is
    ∙ choices-append now.log (Steps w l.turns ∷ [])
    ∙ ap (λ cs. choices now.log ++ cs) (append-nil (replicate l.turns (Step w)))
    ∙ ap (λ k. choices now.log ++ replicate k (Step w)) some_

pub own_steps : (w n : ℕ) → AreOf (w ∷ []) (replicate n (Step w))
own_steps w zero = tt
own_steps w (suc n) = (is_in w, own_steps w n)

gets_on_by : (w i n : ℕ) (last now new : Run) → turns_made w new ≡ turns_made w now + n → turns_made w last ≤ turns_made w now → outcome_of now ≡ Going → (n ≡ 0 → activity_of w new ≡ activity_of w now) → GetsOn w i last now → GetsOn w (i + n) last new
gets_on_by w i (suc n) last now new made more going same on = inl (omega (arith, made, more))
gets_on_by w i zero last now new made more going same on = elim on [
  | inl a ↦ inl (omega (arith, a, made))
  | inr a ↦ elim a [
    | inl over ↦ absurd (over going)
    | inr b ↦ elim b [
      | inl none ↦ (let still : i + 0 ≡ 0 = omega (arith, none) in inr (inr (inl still)))
      | inr one ↦ (let first = one.0 in let still : i + 0 ≡ 1 = omega (arith, first) in inr (inr (inr (still, (one.1.0, same refl ∙ one.1.1)))))
    ]
  ]
]

settled_steps : (w i : ℕ) (Had : ℕ → Type 0) (first last now new : Run) (l : Lending) → i + l.turns ≤ 256 → outcome_of now ≡ Going → l.image ≡ now.image → IsLoanOf w l (state_of now) → SameProgram now new → choices new.log ≡ choices now.log ++ replicate l.turns (Step w)
    → Stepping w i Had first last now → Stepping w (i + l.turns) Had first last new
settled_steps w i Had first last now new l le going image loan same added s =
    let n = l.turns in
    let cs = replicate n (Step w) in
    let m = machine first.image in
    let since = λ (k : ℕ). turns_since m w s.own k (state_of first) in
    let behind : state_of now ≡ execution m s.own (state_of first) = state_grows first now s.own s.program s.added in
    let few : (k : ℕ) → Had k → since k ≤ i = λ k had. elim (s.few k had) [
      | inl less ↦ less
      | inr f ↦ elim f [
        | inl none ↦ absurd (let z = sym none ∙ loan.on in cc z)
        | inr over ↦ absurd (over going)
      ]
    ] in
    let counts : (k : ℕ) → k + n ≤ 256 → Counts first.image w cs n k (execution m s.own (state_of first)) =
    λ k small. subst (λ (x : Image × State Memory Frames). Counts x.0 w cs n k x.1) (λ j. ((image ∙ s.program.0) j, behind j)) (loan_counts w k l (state_of now) small loan) in
    let made : turns_made w new ≡ turns_made w now + n =
    made_grows w now new cs same added ∙ ap (λ k. turns_made w now + k) (subst (λ (x : Image). turns_in (machine x) w cs (state_of now) ≡ n) image (loan_counts w 0 l (state_of now) (omega (arith, le)) loan).2) in
    record {
      own = s.own ++ cs;
      added = added ∙ ap (λ l. l ++ cs) s.added ∙ append_assoc (choices first.log) s.own cs;
      program = program_then first now new s.program same;
      preempted = λ k had. let a = few k had in preempted-append m w s.own cs k (state_of first) (s.preempted k had) (counts (since k) (omega (arith, a, le))).1;
      few = λ k had.
          let a = few k had in
          let b = since-append m w s.own cs k (state_of first) in
          let d = (counts (since k) (omega (arith, a, le))).0 in
          let still : turns_since m w (s.own ++ cs) k (state_of first) ≤ i + n = omega (arith, a, b, d) in
          inl still;
      more = (let a = s.more in omega (arith, a, made));
      gets_on = gets_on_by w i n last now new made s.more going
          (λ none. ap (λ st. on_worker w st.book.line) (state_grows now new cs same added ∙ ap (λ k. execution (machine now.image) (replicate k (Step w)) (state_of now)) none)) s.gets_on;
    }

-- where nothing more happens the loan is dropped
dropped_steps : (w i n : ℕ) (Had : ℕ → Type 0) (first last now new : Run) → outcome_of now ≢ Going → (lent : List ℕ) → new ≡ record now { lent = lent } → Stepping w i Had first last now → Stepping w n Had first last new
dropped_steps w i n Had first last now new over lent is s =
    subst (Stepping w n Had first last) (sym is)
    (record { own = s.own; added = s.added; program = s.program; preempted = s.preempted; few = λ k had. inr (inr over); more = s.more; gets_on = inr (inl over) })

settles_one : (w i gave : ℕ) (p q : Part) (now new : Run) (l : Lending) (stepped : Stepped) → i + l.turns ≤ 256 → stepped ≡ settles_to l now → new ≡ after_settle stepped w l now → Back w i gave p q now l
    → Held false w gave p q new × Stepping w (i + l.turns) (λ n. n ≡ 0) q.first p.last new
settles_one w i gave p q now new l stepped le is after_ back =
    let both = settled_same stepped w l now new after_ in
    let free : among w new.lent ≡ false = ap (among w) both.1 ∙ none_left w now.lent in
    let others : (v : ℕ) → v ≢ w → among v new.lent ≡ among v now.lent = λ v far. ap (among v) both.1 ∙ others_left v w now.lent far in
    let h = back.held in
    elim (going_or_over (outcome_of now)) [
      | inl going ↦
          let to : stepped ≡ turned_or_idle l.turns = is ∙ ap (λ o. stepped_while o (turned_or_idle l.turns)) going in
          let added = settled_log w l.turns l now new refl (after_ ∙ ap (λ x. after_settle x w l now) to) in
          let s = settled_steps w i (λ n. n ≡ 0) q.first p.last now new l le going back.image back.loan both.0 added back.steps in
          (held_more true false w gave p q now new (replicate l.turns (Step w)) (own_steps w l.turns) added both.0 free others (bound_more w (i + l.turns) q.first p.last now new (replicate l.turns (Step w)) (own_steps w l.turns) added h.extends.bound s) h, s)
      | inr over ↦
          let to : stepped ≡ Over = is ∙ over_is (outcome_of now) (turned_or_idle l.turns) over in
          let dropped : new ≡ record now { lent = without w now.lent } = after_ ∙ ap (λ x. after_settle x w l now) to in
          let added : choices new.log ≡ choices now.log ++ [] = ap (λ (r : Run). choices r.log) dropped ∙ sym (append-nil (choices now.log)) in (
            held_more true false w gave p q now new [] tt added both.0 free others (subst (KeepsBound q.first) (sym dropped) h.extends.bound) h,
            dropped_steps w i (i + l.turns) (λ n. n ≡ 0) q.first p.last now new over (without w now.lent) dropped back.steps,
          )
    ]

pub settles_back : (w i gave : ℕ) (v current : View) (now new : Run) (l : Lending) (stepped : Stepped) → i + l.turns ≤ 256 → stepped ≡ settles_to l now → new ≡ after_settle stepped w l now → IsBack w i gave v current now l → IsWorking w (i + l.turns) gave v current new
settles_back w i gave v current now new l stepped le is after_ = by_parts (λ p q. Back w i gave p q now l) (λ x y. IsWorking w (i + l.turns) gave x y new) v current (λ p q back. settles_one w i gave p q now new l stepped le is after_ back)

-- By what the calls tell

pub lent_by : (w i gave : ℕ) (v current : View) (now held new : Run) (loan : Option Lending) (l : Lending) → now ≡ held → IfSome loan (λ x. Lends w now x) → new ≡ after_lend loan w now → loan ≡ Some l → IsWorking w i gave v current held → IsLent w i gave v current new l
lent_by w i gave v current now held new loan l same lends after_ is works =
    lends_out w i gave v current now new l (subst (λ (o : Option Lending). IfSome o (λ x. Lends w now x)) is lends) (after_ ∙ ap (λ (o : Option Lending). after_lend o w now) is)
    (subst (IsWorking w i gave v current) (sym same) works)

pub none_made : (w : ℕ) (now : Run) (loan : Option Lending) (l : Lending) → IfSome loan (λ x. Lends w now x) → loan ≡ Some l → l.turns ≡ 0
none_made w now loan l lends is = (subst (λ (o : Option Lending). IfSome o (λ x. Lends w now x)) is lends).none

-- the steps that are made behind it
pub settled_by : (w i gave turns : ℕ) (v current : View) (held now new : Run) (l : Lending) (stepped : Stepped) → now ≡ held → i + l.turns ≤ 256 → turns ≡ l.turns → stepped ≡ settles_to l now → new ≡ after_settle stepped w l now → IsBack w i gave v current held l → IsWorking w (i + turns) gave v current new
settled_by w i gave turns v current held now new l stepped same le many is after_ back =
    subst (λ k. IsWorking w (i + k) gave v current new) (sym many)
    (settles_back w i gave v current now new l stepped le is after_ (subst (λ r. IsBack w i gave v current r l) (sym same) back))
