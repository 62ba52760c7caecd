-- Lending and settling: what a loan is of, and the state behind its turns.
use Rattle.std.proofs.Common.{◌≡◌, ◌≢◌, ℕ, zero, suc, ◌+◌, ◌-◌, ◌<◌, ◌≤◌, List, [], ◌∷◌, ◌++◌, Bool, true, false, inl, inr, refl, sym, ◌∙◌, ap, subst, arith, length, drop, replicate, not, append-nil, append_assoc}
use Rattle.std.specs.Prelude.{if◌then◌else◌, ◌==◌, nat_eq, Some}
use Rattle.std.proofs.lemmas.List.{drop_all, nil_from_length}
use Rattle.std.proofs.lemmas.Bool.Decides.{eqb_tells}
use Rattle.aos_base.specs.declared.kernel.Event.{Event}
use Rattle.aos_base.specs.declared.kernel.Sched.TheVariants.{Steps}
use Rattle.aos_base.specs.declared.kernel.Outcome.TheVariants.{Going}
use Rattle.aos_base.specs.Book as book
use Rattle.aos_base.specs.Book.{On, is_on, on_worker, place_of, outcome, put}
use Rattle.aos_base.specs.Machine.{Choice, Step, Machine, State, execution, happens}
use Rattle.aos_base.specs.Schedule.{choices}
use Rattle.aos_code.specs.declared.image.Image.{Image}
use Rattle.aos_code.specs.Memory.{Memory}
use Rattle.aos_code.specs.Machine.{Frames, machine, made_in, first_memory, first_frames, first_state}
use Rattle.aos_store.specs.Store.{frames_in}
use Rattle.aos_sound.specs.FitFrames.{IsSoundImage}
use Rattle.aos_silent_steps.specs.Room.{FitInRoom}
use Rattle.aos_cpu.specs.Turns.{Alike}
use Rattle.aos_cpu.specs.Private.{made_by, after_turns, begun_after}
use Rattle.aos_concurrency.specs.Orderly.{Orderly}
use Rattle.aos_concurrency.specs.Private.{settled, tallied}
use Rattle.aos_concurrency.proofs.Begin.{orderly_start}
use Rattle.aos_concurrency.proofs.Itself.{execution_orderly}
use Rattle.aos_concurrency.proofs.Lines.{found}
use Rattle.aos_concurrency.proofs.Tables.{number, by_case}
use Rattle.aos_settling.specs.Settling.{IsTallied}
use Rattle.aos_settling.proofs.Stores.{execution_budget}
use Rattle.aos_settling.proofs.Tallies.{unspent}
use Rattle.aos_loan.specs.Loans.{Lending, begun_in, IsLoanOf}
use Rattle.aos_loan.proofs.Turning.{loan_begins, loan_settles}
use Rattle.aos_kernel.specs.declared.tables.KernelTables.{KernelTables}
use Rattle.aos_kernel.specs.declared.activity.Next.TheVariants.{Runs}
use Rattle.aos_kernel.specs.Run.{Run, after, state_of, without_last, state_before, among, without}
use Rattle.aos_kernel.specs.Shows.{Shows}
use Rattle.aos_kernel.specs.Lends.{GoesOut, ComeBack}
use Rattle.aos_kernel.specs.Keeps.{Keeps}
use Rattle.aos_kernel.proofs.Histories.{before_last, is_over}
use Rattle.aos_kernel.proofs.Logs.{choices-append, entries-more}

pub orderly_run : (r : Run) → Orderly (state_of r)
orderly_run r = execution_orderly (machine r.image) (choices r.log) (first_state r.image r.budget) (orderly_start (first_memory r.image) (first_frames r.image) r.budget)

pub budget_run : (r : Run) → (state_of r).book.budget ≡ r.budget
budget_run r = execution_budget (machine r.image) (choices r.log) (first_state r.image r.budget)

is_worker : (w : ℕ) (p : book.RunState) → is_on w p ≡ true → p ≡ On w
is_worker w (On v) e = by_case number (λ q. q ≡ true → On v ≡ On w) v w (λ f _. ap (λ k. On k) f) (λ _ z. absurd (cc z)) e
is_worker w (book.Ready p) e = absurd (cc e)
is_worker w (book.At l wants) e = absurd (cc e)

-- the worker's activity stands there
pub stands_on_worker : (w a : ℕ) (st : State Memory Frames) → Orderly st → on_worker w st.book.line ≡ Some a → place_of st.book.line a ≡ Some (On w)
stands_on_worker w a st o on =
    let q = found (is_on w) st.book.line a o.once on in
    q.1 ∙ ap (λ p. Some p) (is_worker w q.0 q.2)

-- what has gone out is a loan of the worker's activity
pub is_lent : (r : Run) (w a : ℕ) (l : Lending) → on_worker w (state_of r).book.line ≡ Some a → ((state_of r).book.activity a).next ≡ book.Runs → l.image ≡ r.image → l.turns ≡ 0 → GoesOut r.image a l.frames (state_of r) → IsLoanOf w l (state_of r)
is_lent r w a l on runs same none out =
    let st = state_of r in
    record {
      activity = a;
      on = on;
      stands = stands_on_worker w a st (orderly_run r) on;
      runs = runs;
      made = st.store.made;
      known = λ o m e. e;
      turns = loan_begins st.store.made (st.frames a) l (st.book.activity a).begun none (subst (λ i. Alike i (made_by st.store.made) (st.frames a) (frames_in l.frames)) (sym same) out.alike) out.begun;
      fits = subst (λ i. IsSoundImage i → FitInRoom i l.frames) (sym same) out.fits;
    }

execution_append : (m : Machine Memory Frames) (cs ds : List Choice) (st : State Memory Frames) → execution m (cs ++ ds) st ≡ execution m ds (execution m cs st)
execution_append m [] ds st = refl
execution_append m (c ∷ cs) ds st = execution_append m cs ds (happens m c st)

-- the state behind an entry more
pub state_behind : (r : Run) (w k : ℕ) → state_of (record r { log = r.log ++ Steps w k ∷ [] }) ≡ execution (machine r.image) (replicate k (Step w)) (state_of r)
state_behind r w k =
    ap (λ cs. after r.image r.budget cs) (choices-append r.log (Steps w k ∷ []) ∙ ap (λ cs. choices r.log ++ cs) (append-nil (replicate k (Step w))))
    ∙ execution_append (machine r.image) (choices r.log) (replicate k (Step w)) (first_state r.image r.budget)

-- but for the last of its steps
pub less_one : (cs : List Choice) (w k : ℕ) → without_last (cs ++ replicate (suc k) (Step w)) ≡ cs ++ replicate k (Step w)
less_one cs w k = last_out cs w k
  where
    last_in : (w k : ℕ) → replicate (suc k) (Step w) ≡ replicate k (Step w) ++ Step w ∷ []
    last_in w zero = refl
    last_in w (suc k) = ap (λ l. Step w ∷ l) (last_in w k)

    last_out : (cs : List Choice) (w k : ℕ) → without_last (cs ++ replicate (suc k) (Step w)) ≡ cs ++ replicate k (Step w)
    last_out cs w k =
        let whole : cs ++ replicate (suc k) (Step w) ≡ (cs ++ replicate k (Step w)) ++ Step w ∷ [] = ap (λ l. cs ++ l) (last_in w k) ∙ sym (append_assoc cs (replicate k (Step w)) (Step w ∷ [])) in
        ap without_last whole ∙ before_last (cs ++ replicate k (Step w)) (Step w)

module _ (r : Run) (w : ℕ) (l : Lending) (same : l.image ≡ r.image) (small : l.budget ≡ r.budget) (few : r.budget ≤ 1000000000) (going : outcome (state_of r).book ≡ Going) (loan : IsLoanOf w l (state_of r)) where
  abbrev st : State Memory Frames
  st = state_of r

  -- the loan, of this image
  abbrev own : Lending
  own = record { image = r.image; budget = r.budget; turns = l.turns; frames = l.frames }

  own_is : own ≡ l
  own_is = λ i. (let x : Lending = record { image = sym same i; budget = sym small i; turns = l.turns; frames = l.frames } in x)

  own_loan : IsLoanOf w own st
  own_loan = subst (λ (x : Lending). IsLoanOf w x st) (sym own_is) loan

  some_steps : (n : ℕ) → n ≤ l.turns →
      (execution (machine r.image) (replicate n (Step w)) st ≡ settled own_loan.activity (after_turns r.image own_loan.made n (st.frames own_loan.activity)) (begun_in r.image own_loan.made n (st.frames own_loan.activity)) st)
      × IsTallied own_loan.activity (begun_after r.image own_loan.made n (st.frames own_loan.activity) (st.book.activity own_loan.activity).begun) st.book (tallied own_loan.activity (begun_in r.image own_loan.made n (st.frames own_loan.activity)) st.book)
  some_steps n most = let q = loan_settles w n own st most (budget_run r) (omega (arith, few)) going own_loan in (q.0, q.1)

  -- no events
  pub quiet : (n : ℕ) → n ≤ l.turns → (execution (machine r.image) (replicate n (Step w)) st).book.events ≡ st.book.events
  quiet n most = let q = some_steps n most in ap (λ (x : State Memory Frames). x.book.events) q.0 ∙ q.1.events

  -- the tables to which the frames have come back show the state behind the turns
  pub shows_settled : (d new : KernelTables) (earlier : List Event) (a : ℕ) → on_worker w st.book.line ≡ Some a → Shows r.image earlier d st →
      ComeBack r.image earlier a l.frames new st →
      Shows r.image earlier new (execution (machine r.image) (replicate l.turns (Step w)) st)
  shows_settled d new earlier a on h puts =
      let q = some_steps l.turns (omega arith) in
      let z : Some own_loan.activity ≡ Some a = sym own_loan.on ∙ on in
      let same_one : own_loan.activity ≡ a = cc z in
      let b = own_loan.activity in
      let fs = after_turns r.image own_loan.made l.turns (st.frames b) in
      let now = tallied b (begun_in r.image own_loan.made l.turns (st.frames b)) st.book in
      let alike : Alike r.image (made_in r.image st.store) fs (frames_in l.frames) = λ all knows. own_loan.turns.alike all (λ o m e. knows o m (own_loan.known o m e)) in
      let tallies : IsTallied b l.frames.begun st.book now = subst (λ k. IsTallied b k st.book now) (sym own_loan.turns.begun) q.1 in
      let shown : Shows r.image earlier new (record { store = st.store; frames = put nat_eq st.frames b fs; book = now }) =
      subst (λ (x : ℕ). ComeBack r.image earlier x l.frames new st) (sym same_one) puts fs now (unspent st.book going) own_loan.runs alike tallies own_loan.fits in
      subst (λ (x : State Memory Frames). Shows r.image earlier new x) (sym q.0) shown

  behind : (n : ℕ) → l.turns ≡ n → state_of (record r { log = r.log ++ Steps w n ∷ [] }) ≡ execution (machine r.image) (replicate l.turns (Step w)) st
  behind n e = state_behind r w n ∙ ap (λ k. execution (machine r.image) (replicate k (Step w)) st) (sym e)

  before : (n : ℕ) → state_before (record r { log = r.log ++ Steps w (suc n) ∷ [] }) ≡ execution (machine r.image) (replicate n (Step w)) st
  before n =
      ap (λ cs. after r.image r.budget (without_last cs)) (choices-append r.log (Steps w (suc n) ∷ []) ∙ ap (λ cs. choices r.log ++ cs) (append-nil (replicate (suc n) (Step w))))
      ∙ ap (λ cs. after r.image r.budget cs) (less_one (choices r.log) w n)
      ∙ execution_append (machine r.image) (choices r.log) (replicate n (Step w)) (first_state r.image r.budget)

  -- the kernel keeps the run with the turns
  pub keeps_settled : (d new : KernelTables) (told : List Event) (a n : ℕ) (lent : List ℕ) (loans : ℕ) → Keeps r d told → l.turns ≡ suc n → suc n ≤ 1000000000 → w < r.workers →
      Shows r.image st.book.events new (execution (machine r.image) (replicate l.turns (Step w)) st) → Keeps (record r { log = r.log ++ Steps w (suc n) ∷ []; lent = lent; loans = loans }) new []
  keeps_settled d new told a n lent loans h turns most here shown =
      let all = behind (suc n) turns in
      let still = ap (λ (x : State Memory Frames). x.book.events) all ∙ quiet l.turns (omega arith) in
      let earlier : (state_before (record r { log = r.log ++ Steps w (suc n) ∷ [] })).book.events ≡ st.book.events = ap (λ (x : State Memory Frames). x.book.events) (before n) ∙ quiet n (omega (arith, turns)) in
      record {
        shows = subst (λ (x : List Event × State Memory Frames). Shows r.image x.0 new x.1) (λ i. (sym still i, sym all i)) shown;
        events_are = (λ i. drop (length (earlier i)) (still i)) ∙ drop_all (length st.book.events) st.book.events (omega arith);
        entries = entries-more r.workers r.log (Steps w (suc n)) (here, (let some : 1 ≤ suc n = omega arith in some), most) h.entries;
        one_worker = h.one_worker;
        few_workers = h.few_workers;
        one_statement = h.one_statement;
        few_statements = h.few_statements;
      }

  -- and where there is none it keeps the run
  pub keeps_idle : (d new : KernelTables) (told : List Event) (lent : List ℕ) (loans : ℕ) → Keeps r d told → l.turns ≡ 0 →
      Shows r.image st.book.events new (execution (machine r.image) (replicate l.turns (Step w)) st) → Keeps (record r { lent = lent; loans = loans }) new told
  keeps_idle d new told lent loans h none shown =
      record {
        shows = subst (λ k. Shows r.image st.book.events new (execution (machine r.image) (replicate k (Step w)) st)) none shown;
        events_are = h.events_are;
        entries = h.entries;
        one_worker = h.one_worker;
        few_workers = h.few_workers;
        one_statement = h.one_statement;
        few_statements = h.few_statements;
      }

-- nothing happens once the outcome isn't Going
pub over_still : (image : Image) (cs : List Choice) (x : State Memory Frames) → outcome x.book ≢ Going → execution (machine image) cs x ≡ x
over_still image [] x n = refl
over_still image (c ∷ cs) x n = ap (execution (machine image) cs) (is_over image x c n) ∙ over_still image cs x n

-- Keeping

pub keeps_lent : (r : Run) (d : KernelTables) (told : List Event) (lent : List ℕ) (loans : ℕ) → Keeps r d told → Keeps (record r { lent = lent; loans = loans }) d told
keeps_lent r d told lent loans h = record { shows = h.shows; events_are = h.events_are; entries = h.entries; one_worker = h.one_worker; few_workers = h.few_workers; one_statement = h.one_statement; few_statements = h.few_statements }

pub without_less : (w : ℕ) (lent : List ℕ) → length (without w lent) ≤ length lent
without_less w [] = omega arith
without_less w (v ∷ vs) =
    by_case number (λ q. length (if not q then v ∷ without w vs else without w vs) ≤ suc (length vs)) v w
    (λ _. let h = without_less w vs in omega (arith, h)) (λ _. let h = without_less w vs in omega (arith, h))

pub without_one : (w : ℕ) (lent : List ℕ) → among w lent ≡ true → length (without w lent) + 1 ≤ length lent
without_one w [] e = absurd (cc e)
without_one w (v ∷ vs) e =
    by_case number (λ q. (if q then true else among w vs) ≡ true → length (if not q then v ∷ without w vs else without w vs) + 1 ≤ suc (length vs)) v w
    (λ _ _. let h = without_less w vs in omega (arith, h)) (λ _ f. let h = without_one w vs f in omega (arith, h)) e

pub none_there : (xs : List ℕ) (n : ℕ) (b : Bool) → n ≡ length xs → b ≡ (n == 0) → b ≡ true → xs ≡ []
none_there xs n b all is e = elim (eqb_tells n 0) [
  | inl t ↦ nil_from_length xs (sym all ∙ t.1)
  | inr f ↦ absurd (let z : true ≡ false = sym e ∙ is ∙ f.0 in cc z)
]
