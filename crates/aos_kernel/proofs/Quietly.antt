-- Turns of an activity that write nothing and leave nothing to the kernel, as steps of its worker.
use Rattle.std.proofs.Common.{◌≡◌, ℕ, zero, suc, ◌+◌, ◌<◌, ◌≤◌, ◌^◌, Bool, true, false, List, [], ◌∷◌, ◌++◌, inl, inr, refl, sym, ◌∙◌, ap, subst, arith, length, drop, replicate}
use Rattle.std.specs.Prelude.{if◌then◌else◌, nat_eq, Option, Some, None, All}
use Rattle.std.proofs.lemmas.Bool.Decides.{leb_tells}
use Rattle.std.proofs.lemmas.List.{replicate_more, drop_all}
use Rattle.aos_base.specs.declared.kernel.Event.{Event}
use Rattle.aos_base.specs.declared.kernel.Sched.{Sched}
use Rattle.aos_base.specs.declared.kernel.Outcome.TheVariants.{Going}
use Rattle.aos_base.specs.declared.kernel.Did.{Did}
use Rattle.aos_base.specs.Book as book
use Rattle.aos_base.specs.Book.{put, on_worker, outcome, outcome_of, spent_by}
use Rattle.aos_base.specs.Machine.{Step, State, execution, happens, serve, turned, turn_by}
use Rattle.aos_base.specs.Schedule.{choices, IsEntry}
use Rattle.aos_code.specs.declared.image.Image.{Image}
use Rattle.aos_code.specs.Memory.{Memory}
use Rattle.aos_code.specs.Machine.{Frames, Turned, machine, made_in, turn, first_state}
use Rattle.aos_silent_steps.specs.Known.{Knows}
use Rattle.aos_cpu.specs.Turns.{counted}
use Rattle.aos_cpu.specs.Many.{Reached, after_many, RunsOn}
use Rattle.aos_cpu.proofs.Growing.{turn_grows}
use Rattle.aos_concurrency.proofs.Executions.{execution-append}
use Rattle.aos_concurrency.proofs.Tables.{number, put_same, put_back, put_twice}
use Rattle.aos_settling.specs.Settling.{IsTallied}
use Rattle.aos_settling.proofs.Stores.{execution_store}
use Rattle.aos_settling.proofs.Tallies.{one_tallied, both_tallied, none_tallied, unspent}
use Rattle.aos_kernel.specs.declared.tables.KernelTables.{KernelTables}
use Rattle.aos_kernel.specs.Run.{Run, after, state_of, without_last, state_before}
use Rattle.aos_kernel.specs.Shows.{Shows}
use Rattle.aos_kernel.specs.Keeps.{Keeps}
use Rattle.aos_kernel.specs.Steps.{GoesQuietly}
use Rattle.aos_kernel.proofs.Histories.{steps_by}
use Rattle.aos_kernel.proofs.Lending.{less_one}

-- a count below the budget
count_of : (x : Bool) (n : ℕ) → suc n < 2 ^ 64 → counted x n ≡ (if x then suc n else n)
count_of true n small = omega (arith, small)
count_of false n small = refl

count_low : (x : Bool) (c n : ℕ) → c ≤ n → suc n < 2 ^ 64 → c ≤ counted x n
count_low true c n low small = omega (arith, low, small)
count_low false c n low small = low

count_up : (x : Bool) (n : ℕ) → suc n < 2 ^ 64 → n ≤ counted x n
count_up true n small = omega (arith, small)
count_up false n small = omega arith

spends_none : (x : Bool) (n budget a : ℕ) (spent : Option ℕ) → n < budget → spent_by x budget n a spent ≡ spent
spends_none true n budget a spent less =
    elim (leb_tells budget n) [
      | inl e ↦ absurd (let at : budget ≤ n = e.1 in omega (arith, at, less))
      | inr e ↦ ap (λ q. if q then Some a else spent) e.0
    ]
spends_none false n budget a spent less = refl

-- steps, and one more
pub step_behind : (image : Image) (w i : ℕ) (st : State Memory Frames) → execution (machine image) (replicate (suc i) (Step w)) st ≡ happens (machine image) (Step w) (execution (machine image) (replicate i (Step w)) st)
step_behind image w i st =
    let n : suc i ≡ i + 1 = omega arith in
    ap (λ k. execution (machine image) (replicate k (Step w)) st) n ∙ ap (λ cs. execution (machine image) cs st) (sym (replicate_more i (Step w)))
    ∙ execution-append (machine image) (replicate i (Step w)) (Step w ∷ []) st

-- what a turn does to the state that goes
went_is : (image : Image) (a : ℕ) (t : Turned) (x : State Memory Frames) (frames : ℕ → Frames) → x.frames ≡ frames → (turned (machine image) a t x).frames ≡ put nat_eq frames a t.frames
unfolding turned
went_is image a t x frames e = ap (λ f. put nat_eq f a t.frames) e

went_store : (image : Image) (a : ℕ) (t : Turned) (x : State Memory Frames) → (turned (machine image) a t x).store ≡ t.store
unfolding turned
went_store image a t x = refl

went_book : (image : Image) (a : ℕ) (t : Turned) (x : State Memory Frames) → t.output ≡ [] → (turned (machine image) a t x).book ≡ book.counted a [] t.begun x.book
unfolding turned
went_book image a t x none = ap (λ o. book.counted a o t.begun x.book) none

module _ (image : Image) (w a budget many : ℕ) (st : State Memory Frames) (now : Memory) (gs : Frames) (begun : ℕ) (going : outcome st.book ≡ Going) (on : on_worker w st.book.line ≡ Some a) (runs : (st.book.activity a).next ≡ book.Runs) (same : st.book.budget ≡ budget) (small : budget < 2 ^ 64)
    (r : RunsOn image budget many (record { store = st.store; frames = st.frames a; begun = (st.book.activity a).begun }) now gs begun) where
  abbrev reached : ℕ → Reached
  reached i = after_many image i (record { store = st.store; frames = st.frames a; begun = (st.book.activity a).begun })

  abbrev after_steps : ℕ → State Memory Frames
  after_steps i = execution (machine image) (replicate i (Step w)) st

  -- what so many steps have come to
  pub record After (i : ℕ) : Type 0 where
    pub store : (after_steps i).store ≡ (reached i).store
    pub frames : (after_steps i).frames ≡ put nat_eq st.frames a (reached i).frames
    pub tally : IsTallied a (reached i).begun st.book (after_steps i).book
    pub low : (st.book.activity a).begun ≤ (reached i).begun

  none_spent : (i : ℕ) → i < many → After i → (after_steps i).book.spent ≡ None
  none_spent i less h = h.tally.spent ∙ spends_none _ (reached i).begun st.book.budget a st.book.spent (subst (λ k. (reached i).begun < k) (sym same) (r.below i less)) ∙ unspent st.book going

  -- the next step is the next of the turns
  goes : (i : ℕ) → i < many → After i →
      (let y = reached i in after_steps (suc i) ≡ turned (machine image) a (turn image y.store y.frames) (after_steps i))
  goes i less h =
      let m = machine image in
      let x = after_steps i in
      let y = reached i in
      let still : outcome x.book ≡ Going = (λ j. outcome_of (h.tally.line j) ((none_spent i less h ∙ sym (unspent st.book going)) j)) ∙ going in
      let at : turn image x.store (x.frames a) ≡ turn image y.store y.frames = (λ j. turn image (h.store j) ((ap (λ f. f a) h.frames ∙ put_same number st.frames a y.frames) j)) in
      step_behind image w i st
      ∙ steps_by image x w a still (ap (on_worker w) h.tally.line ∙ on)
      ∙ ap (λ n. turn_by m a n x) (h.tally.next ∙ runs)
      ∙ ap (λ (t : Turned). serve m a t.left (turned m a t x)) at
      ∙ ap (λ (d : Did). serve m a d (turned m a (turn image y.store y.frames) x)) (r.goes i less).left

  one_more : (i : ℕ) → i < many → After i → After (suc i)
  one_more i less h =
      let x = after_steps i in
      let y = reached i in
      let t = turn image y.store y.frames in
      let z = goes i less h in
      let few : suc y.begun < 2 ^ 64 = (let b = r.below i less in omega (arith, b, small)) in
      let one : IsTallied a (counted t.begun y.begun) x.book (book.counted a [] t.begun x.book) =
      subst (λ k. IsTallied a k x.book (book.counted a [] t.begun x.book)) (ap (λ n. if t.begun then suc n else n) h.tally.begun ∙ sym (count_of t.begun y.begun few)) (one_tallied a t.begun x.book) in
      record {
        store = ap (λ (s : State Memory Frames). s.store) z ∙ went_store image a t x;
        frames = ap (λ (s : State Memory Frames). s.frames) z ∙ went_is image a t x _ h.frames ∙ (λ j x. put_twice number st.frames a y.frames t.frames x j);
        tally = subst (λ b. IsTallied a (counted t.begun y.begun) st.book b) (sym (ap (λ (s : State Memory Frames). s.book) z ∙ went_book image a t x (r.goes i less).output))
            (both_tallied a y.begun (counted t.begun y.begun) st.book x.book (book.counted a [] t.begun x.book) h.low (count_up t.begun y.begun few) (unspent st.book going) (none_spent i less h) h.tally one);
        low = count_low t.begun (st.book.activity a).begun y.begun h.low few;
      }

  pub each_after : (i : ℕ) → i ≤ many → After i
  each_after zero most = record { store = refl; frames = λ j x. put_back number st.frames a x j; tally = none_tallied a st.book; low = omega arith }
  each_after (suc i) most = one_more i (omega (arith, most)) (each_after i (omega (arith, most)))

  -- no event happens
  pub none_happens : (i : ℕ) → i ≤ many → (after_steps i).book.events ≡ st.book.events
  none_happens i most = (each_after i most).tally.events

  -- objects are known to be made as before
  pub still_known : (mem : Memory) → st.store ≡ mem → Knows (made_in image now) (made_in image mem)
  still_known mem is =
      let h = each_after many (omega arith) in
      subst (λ (m : Memory). Knows (made_in image m) (made_in image mem)) (h.store ∙ r.store)
      (execution_store (machine image) (λ m. Knows (made_in image m) (made_in image mem)) (λ m fs knows o x e. turn_grows image m fs o x (knows o x e)) (replicate many (Step w)) st (subst (λ (m : Memory). Knows (made_in image m) (made_in image mem)) (sym is) (λ o x e. e)))

  pub comes_so : (after_steps many) ≡ record { store = now; frames = put nat_eq st.frames a (reached many).frames; book = (after_steps many).book }
  comes_so =
      let h = each_after many (omega arith) in
      λ j. (let s : State Memory Frames = record { store = (h.store ∙ r.store) j; frames = h.frames j; book = (after_steps many).book } in s)

  pub tallies : IsTallied a begun st.book (after_steps many).book
  tallies = subst (λ k. IsTallied a k st.book (after_steps many).book) r.begun (each_after many (omega arith)).tally

-- A kernel keeps a run with so many steps more in which nothing happens.
pub keeps_steps : (r : Run) (w n : ℕ) (log : List Sched) (d new : KernelTables) (told : List Event) → Keeps r d told → choices log ≡ choices r.log ++ replicate (suc n) (Step w) → All (IsEntry r.workers) log →
    GoesQuietly r.image (state_of r).book.events w (suc n) new (state_of r) → Keeps (record r { log = log }) new []
keeps_steps r w n log d new told h is entries quietly =
    let st = state_of r in
    let all : state_of (record r { log = log }) ≡ execution (machine r.image) (replicate (suc n) (Step w)) st =
    ap (λ cs. after r.image r.budget cs) is ∙ execution-append (machine r.image) (choices r.log) (replicate (suc n) (Step w)) (first_state r.image r.budget) in
    let before : state_before (record r { log = log }) ≡ execution (machine r.image) (replicate n (Step w)) st =
    ap (λ cs. after r.image r.budget (without_last cs)) is ∙ ap (λ cs. after r.image r.budget cs) (less_one (choices r.log) w n)
    ∙ execution-append (machine r.image) (choices r.log) (replicate n (Step w)) (first_state r.image r.budget) in
    let still = ap (λ (x : State Memory Frames). x.book.events) all ∙ quietly.quiet (suc n) (omega arith) in
    let earlier : (state_before (record r { log = log })).book.events ≡ st.book.events = ap (λ (x : State Memory Frames). x.book.events) before ∙ quietly.quiet n (omega arith) in
    record {
      shows = subst (λ (x : List Event × State Memory Frames). Shows r.image x.0 new x.1) (λ i. (sym still i, sym all i)) quietly.shows;
      events_are = (λ i. drop (length (earlier i)) (still i)) ∙ drop_all (length st.book.events) st.book.events (omega arith);
      entries = entries;
      one_worker = h.one_worker;
      few_workers = h.few_workers;
      one_statement = h.one_statement;
      few_statements = h.few_statements;
    }
