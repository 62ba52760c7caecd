-- How a run goes on: by nothing, by a step or a tick, by one after the other.
use Rattle.std.proofs.Common.{◌≡◌, ◌≢◌, ℕ, zero, suc, ◌+◌, ◌-◌, ◌<◌, ◌≤◌, Bool, true, false, List, [], ◌∷◌, ◌++◌, length, get_or, take, drop, replicate, refl, sym, ap, ◌∙◌, subst, append_assoc, take-append-drop, arith}
use Rattle.std.proofs.lemmas.List.{append-nil, drop_more, take_more, replicate-append-replicate}
use Rattle.aos_base.specs.declared.kernel.Outcome.TheVariants.{Going}
use Rattle.aos_base.specs.declared.kernel.Sched.{Sched}
use Rattle.aos_base.specs.Book.{outcome}
use Rattle.aos_base.specs.Machine.{Choice, Step, Tick, State, Machine, happens, execution}
use Rattle.aos_base.specs.Schedule.{choices, entry_choices}
use Rattle.aos_concurrency.proofs.Executions.{execution-append}
use Rattle.aos_code.specs.Machine.{machine, first_state}
use Rattle.aos_kernel.specs.Run.{Run, after, state_of, after_tick}
use Rattle.aos_kernel.specs.Steps.{AreSteps}
use Rattle.aos_kernel.proofs.Histories.{is_over}
use Rattle.aos_kernel.proofs.Logs.{choices-append, choices-with_tick}
use Rattle.aos_replay.specs.Continues.{IsSome, none, kept, left_out, Continues, ContinuesPart}

module _ {S F : Type 0} (m : Machine S F) where
  -- a choice that changes nothing changes nothing however often
  pub execution-idle : (n : ℕ) (c : Choice) (st : State S F) → happens m c st ≡ st → execution m (replicate n c) st ≡ st
  execution-idle zero c st idle = refl
  execution-idle (suc n) c st idle = ap (execution m (replicate n c)) idle ∙ execution-idle n c st idle

pub execution-over : (r : Run) (cs : List Choice) → outcome (state_of r).book ≢ Going → execution (machine r.image) cs (state_of r) ≡ state_of r
execution-over r [] over = refl
execution-over r (c ∷ cs) over = ap (execution (machine r.image) cs) (is_over r.image (state_of r) c over) ∙ execution-over r cs over

some_none : (cs : List Choice) → IsSome [] cs
some_none [] = none
some_none (c ∷ cs) = left_out (some_none cs)

some-append : {made more cs ds : List Choice} → IsSome made cs → IsSome more ds → IsSome (made ++ more) (cs ++ ds)
some-append none b = b
some-append (kept a) b = kept (some-append a b)
some-append (left_out a) b = left_out (some-append a b)

-- the state is the execution of the log before and these choices
pub state_after : (cs : List Choice) (old new : Run) → Continues cs old new → state_of new ≡ after old.image old.budget (choices old.log ++ cs)
state_after cs old new h = h.state ∙ sym (execution-append (machine old.image) (choices old.log) cs (first_state old.image old.budget))

pub goes_nowhere : (r : Run) → Continues [] r r
goes_nowhere r = record { same = refl; state = refl; made = []; some = none; log = sym (append-nil (choices r.log)) }

-- by choices that change nothing more
pub goes_idly : (cs ds : List Choice) (a b : Run) → Continues cs a b → execution (machine b.image) ds (state_of b) ≡ state_of b → Continues (cs ++ ds) a b
goes_idly cs ds a b h idle =
    let image : b.image ≡ a.image = ap (λ r. r.image) h.same in
    record {
      same = h.same;
      state =
          sym idle ∙ ap (λ i. execution (machine i) ds (state_of b)) image ∙ ap (execution (machine a.image) ds) h.state
          ∙ sym (execution-append (machine a.image) cs ds (state_of a));
      made = h.made;
      some = subst (λ l. IsSome l (cs ++ ds)) (append-nil h.made) (some-append h.some (some_none ds));
      log = h.log;
    }

pub goes_then : (cs ds : List Choice) (a b c : Run) → Continues cs a b → Continues ds b c → Continues (cs ++ ds) a c
goes_then cs ds a b c h k =
    let image : b.image ≡ a.image = ap (λ r. r.image) h.same in
    record {
      same = k.same ∙ ap (λ (r : Run). let x : Run = record r { log = c.log } in x) h.same;
      state =
          k.state ∙ ap (λ i. execution (machine i) ds (state_of b)) image ∙ ap (execution (machine a.image) ds) h.state
          ∙ sym (execution-append (machine a.image) cs ds (state_of a));
      made = h.made ++ k.made;
      some = some-append h.some k.some;
      log = k.log ∙ ap (λ l. l ++ k.made) h.log ∙ append_assoc (choices a.log) h.made k.made;
    }

some_all : (cs : List Choice) → IsSome cs cs
some_all [] = none
some_all (c ∷ cs) = kept (some_all cs)

pub goes_many : (w n : ℕ) (old new : Run) → new ≡ record old { log = new.log } → AreSteps n w old new → Continues (replicate n (Step w)) old new
goes_many w n old new same h = record { same = same; state = h.state; made = replicate n (Step w); some = some_all (replicate n (Step w)); log = h.log }

module _ (w : ℕ) (old new : Run) where
  pub goes_tick : (ticked : Bool) → new ≡ after_tick ticked w old → new ≡ record old { log = new.log } → state_of new ≡ happens (machine old.image) (Tick w) (state_of old) → Continues (Tick w ∷ []) old new
  goes_tick true is same state = record { same = same; state = state; made = Tick w ∷ []; some = kept none; log = ap (λ r. choices r.log) is ∙ choices-with_tick w old.log }
  goes_tick false is same state = record { same = same; state = state; made = []; some = left_out none; log = ap (λ r. choices r.log) is ∙ sym (append-nil (choices old.log)) }

-- steps of one worker, the last of which changed nothing, and so wouldn't any more
pub goes_steps_idly : (w i n : ℕ) (a b c : Run) → i ≤ n → Continues (replicate i (Step w)) a b → c ≡ b → state_of c ≡ happens (machine b.image) (Step w) (state_of b) → Continues (replicate n (Step w)) a c
goes_steps_idly w i n a b c less h same state =
    let idle = execution-idle (machine b.image) (n - i) (Step w) (state_of b) (sym state ∙ ap state_of same) in
    let all = replicate-append-replicate i (n - i) (Step w) in
    let number : i + (n - i) ≡ n = omega arith in
    subst (Continues (replicate n (Step w)) a) (sym same)
    (subst (λ k. Continues (replicate k (Step w)) a b) number
    (subst (λ cs. Continues cs a b) all (goes_idly (replicate i (Step w)) (replicate (n - i) (Step w)) a b h idle)))

-- more steps behind those that were made, where so many are left
pub goes_more : (w left made n : ℕ) (a b c : Run) → left ≤ n → made ≤ left → Continues (replicate (n - left) (Step w)) a b → Continues (replicate made (Step w)) b c → Continues (replicate (n - (left - made)) (Step w)) a c
goes_more w left made n a b c few less h k =
    let all = replicate-append-replicate (n - left) made (Step w) in
    let number : n - left + made ≡ n - (left - made) = omega (arith, few, less) in
    subst (λ i. Continues (replicate i (Step w)) a c) number (subst (λ cs. Continues cs a c) all (goes_then (replicate (n - left) (Step w)) (replicate made (Step w)) a b c h k))

-- the first of some steps
pub part_of_steps : (w i n : ℕ) (a b c : Run) → i ≤ n → Continues (replicate i (Step w)) a b → c ≡ b → ContinuesPart (replicate n (Step w)) a c
part_of_steps w i n a b c less h same =
    let all = replicate-append-replicate i (n - i) (Step w) in
    let number : n ≡ i + (n - i) = omega arith in
    record {
      first = replicate i (Step w);
      others = replicate (n - i) (Step w);
      whole = ap (λ k. replicate k (Step w)) number ∙ sym all;
      continues = subst (Continues (replicate i (Step w)) a) (sym same) h;
    }

pub part_of : (cs ds : List Choice) (old new : Run) → Continues cs old new → ContinuesPart (cs ++ ds) old new
part_of cs ds old new h = record { first = cs; others = ds; whole = refl; continues = h }

pub part_then : (cs ds es : List Choice) (a b c : Run) → Continues cs a b → ContinuesPart ds b c → ContinuesPart (cs ++ (ds ++ es)) a c
part_then cs ds es a b c h k = record {
  first = cs ++ k.first;
  others = k.others ++ es;
  whole = ap (λ l. cs ++ (l ++ es)) k.whole ∙ ap (λ l. cs ++ l) (append_assoc k.first k.others es) ∙ sym (append_assoc cs k.first (k.others ++ es));
  continues = goes_then cs k.first a b c h k.continues;
}

pub choices-split : (i : ℕ) (runs : List Sched) → choices runs ≡ choices (take i runs) ++ choices (drop i runs)
choices-split i runs = ap choices (sym (take-append-drop i runs)) ∙ choices-append (take i runs) (drop i runs)

-- up to an entry, that entry, and what is behind it
pub choices-next : (i : ℕ) (runs : List Sched) (d : Sched) → i < length runs → choices runs ≡ choices (take i runs) ++ (entry_choices (get_or runs i d) ++ choices (drop (i + 1) runs))
choices-next i runs d in_range = choices-split i runs ∙ ap (λ l. choices (take i runs) ++ choices l) (drop_more runs i d in_range)

pub choices-more : (i : ℕ) (runs : List Sched) (d : Sched) → i < length runs → choices (take (i + 1) runs) ≡ choices (take i runs) ++ entry_choices (get_or runs i d)
choices-more i runs d in_range =
    ap choices (take_more runs i d in_range) ∙ choices-append (take i runs) (get_or runs i d ∷ []) ∙ ap (λ l. choices (take i runs) ++ l) (append-nil (entry_choices (get_or runs i d)))
