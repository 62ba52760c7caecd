-- From the pass that has all workers to one for each, and back.
use Rattle.std.proofs.Common.{◌≡◌, ◌≢◌, ℕ, zero, suc, ◌+◌, ◌-◌, ◌*◌, ◌/◌, ◌^◌, ◌<◌, ◌≤◌, List, [], ◌∷◌, length, refl, sym, ap, ◌∙◌, subst, arith}
use Rattle.std.specs.Prelude.{◌==◌, if◌then◌else◌, nat_lt, false}
use Rattle.std.proofs.lemmas.List.{append-nil}
use Rattle.std.proofs.Math.Nat.{div-mul-le_self}
use Rattle.std.proofs.lemmas.Nat.{le-div}
use Rattle.aos_base.specs.Schedule.{choices}
use Rattle.aos_kernel.specs.Run.{Run, among}
use Rattle.aos_cell.specs.declared.rule.Part.{Part}
use Rattle.aos_cell.specs.declared.rule.View.{View}
use Rattle.aos_cell.specs.declared.rule.View.TheVariants.{Opens, Spent, Of}
use Rattle.aos_cell.specs.Total.{one_if, times, below}
use Rattle.aos_cell.specs.Bound.{KeepsBound}
use Rattle.aos_cell.specs.Rule.{SameProgram, AddsOthers, is_lent, lent_among, LentAre, LendsOwn, workers_of}
use Rattle.aos_cell.specs.Steps.{first_part, HasWorkers, Finds, Takes, given, greatest, without, MaySplit, left_part, right_part, split_left, split_right, HasOne, IsFree, both_parts, joined, HasAll}
use Rattle.aos_cell.specs.Passes.{gives_for, Starts, MayStart, Ended, HasEnded, RunsOn, NoneLent}
use Rattle.aos_cell.proofs.Totals.{one_same, times_append, times_without, length_without, greatest_in, below_in, length_below}
use Rattle.aos_cell.proofs.Steps.{others_fewer, lent_are}

-- A kernel whose log alone has changed

pub program_same : (old new : Run) → new ≡ record old { log = new.log } → SameProgram old new
program_same old new same = (ap (λ (r : Run). r.image) same, ap (λ (r : Run). r.workers) same, ap (λ (r : Run). r.budget) same)

pub program_then : (a b c : Run) → SameProgram a b → SameProgram b c → SameProgram a c
program_then a b c x y = (y.0 ∙ x.0, y.1 ∙ x.1, y.2 ∙ x.2)

-- What is lent

pub same_lent : (ws : List ℕ) (a b : Run) → b.lent ≡ a.lent → LendsOwn ws a b
unfolding is_lent
same_lent ws a b same w out = ap (among w) same

pub lends_on : (ws : List ℕ) (a b c : Run) → ((w : ℕ) → times w ws ≡ 0 → among w c.lent ≡ among w b.lent) → LendsOwn ws a b → LendsOwn ws a c
unfolding is_lent
lends_on ws a b c same own w out = same w out ∙ own w out

-- a pass whose worker was lent as it gave the kernel back finds it so in the one that it takes
pub lent_still : (w : ℕ) (p : Part) (old new : Run) → 0 < times w p.workers → LentAre p.workers (given p old).lent new → among w new.lent ≡ among w old.lent
unfolding is_lent
lent_still w p old new member are = are w member ∙ sym (lent_are p.workers old w member)

-- a pass that has lent nothing finds none of its workers lent
pub not_lent : (w : ℕ) (ws lent : List ℕ) (r : Run) → 0 < times w ws → lent ≡ [] → LentAre ws lent r → among w r.lent ≡ false
unfolding is_lent
not_lent w ws lent r member none are = are w member ∙ ap (λ l. nat_lt 0 (times w l)) none

pub none_among : (ws : List ℕ) (r : Run) → ((w : ℕ) → 0 < times w ws → among w r.lent ≡ false) → lent_among ws r ≡ []
unfolding is_lent
none_among [] r none = refl
none_among (w ∷ ws) r none =
    ap (λ q. if q then w ∷ lent_among ws r else lent_among ws r) (none w (let one = one_same w in omega arith))
    ∙ none_among ws r (λ v member. none v (omega (arith, member)))

pub none_unlent : (r : Run) → r.lent ≡ [] → NoneLent r
none_unlent r none w less = ap (among w) none

pub still_unlent : (a b : Run) → b.workers ≡ a.workers → b.lent ≡ a.lent → NoneLent a → NoneLent b
still_unlent a b many same none w less = ap (among w) same ∙ none w (subst (λ k. w < k) many less)

-- A pass with one worker

pub its_worker : (w : ℕ) (ws : List ℕ) → ws ≡ w ∷ [] → 0 < times w ws
its_worker w ws is = subst (λ l. 0 < times w l) (sym is) (let one = one_same w in omega arith)

pub starts_one : (each : ℕ) (v : View) → MayStart each 1 v → HasOne v × HasWorkers v
starts_one each Opens start = absurd start
starts_one each Spent start = absurd start
starts_one each (Of p) start = (start.count, tt)

pub starts_free : (each n : ℕ) (v : View) → MayStart each n v → IsFree v
starts_free each n Opens start = absurd start
starts_free each n Spent start = absurd start
starts_free each n (Of p) start = (start.idle, start.none_lent)

pub in_range : (w : ℕ) (v : View) (r : Run) (after : View) → workers_of v ≡ w ∷ [] → Takes v r after → w < r.workers
in_range w Opens r after is took = absurd took
in_range w Spent r after is took = absurd took
in_range w (Of p) r after is took = took.1.range w (its_worker w p.workers is)

-- it isn't lent in the kernel that the pass takes
pub takes_unlent : (w : ℕ) (v : View) (r : Run) (after : View) → workers_of v ≡ w ∷ [] → IsFree v → Takes v r after → among w r.lent ≡ false
takes_unlent w Opens r after is free took = absurd took
takes_unlent w Spent r after is free took = absurd took
takes_unlent w (Of p) r after is free took = not_lent w p.workers p.lent r (its_worker w p.workers is) free.1 took.1.lent

-- Splitting a pass, and joining the two

pub may_split : (each n : ℕ) (v : View) → 1 ≤ n → n ≢ 1 → MayStart each n v → MaySplit v
may_split each n Opens any ne start = absurd start
may_split each n Spent any ne start = absurd start
may_split each n (Of p) any ne start = ((let count = start.count in let more : n ≢ 1 = ne in omega arith), start.idle, start.none_lent)

others_sub : (ws vs : List ℕ) (a b : Run) → ((w : ℕ) → times w ws ≤ times w vs) → AddsOthers vs a b → AddsOthers ws a b
others_sub ws vs a b fewer others = (others.0, others.1, others_fewer ws vs others.0 fewer others.2)

gives_most : (each n : ℕ) → each ≤ gives_for each (suc n)
gives_most each zero = omega arith
gives_most each (suc n) = let ih = gives_most each n in omega arith

parts_start : (each n : ℕ) (p : Part) → Starts each (suc (suc n)) p → Starts each (suc n) (left_part p) × Starts each 1 (right_part p)
parts_start each n p start =
    let g = greatest p.workers in
    let count = start.count in
    let member : 0 < times g p.workers = greatest_in p.workers (omega arith) in
    let shorter = length_without g p.workers member in
    let parts : (w : ℕ) → times w (without g p.workers) + one_if (g == w) ≡ times w p.workers = λ w. times_without w g p.workers member in
    let enough : 2 * gives_for each (suc n) ≤ p.gives = start.gives in
    let most = gives_most each n in
    let half = div-mul-le_self p.gives 2 in (
      record { count = omega arith; idle = start.idle; none_lent = refl; gives = omega arith; untouched = others_sub (without g p.workers) p.workers p.first p.last (λ w. let a = parts w in omega arith) start.untouched },
      record { count = refl; idle = start.idle; none_lent = refl; gives = (let its : each ≤ p.gives / 2 = le-div each p.gives 2 (omega arith) (omega arith) in omega arith); untouched = others_sub (g ∷ []) p.workers p.first p.last (λ w. let a = parts w in omega arith) start.untouched },
    )

pub may_start : (each n last : ℕ) (v : View) → 1 ≤ n → n ≢ 1 → last ≡ n - 1 → MayStart each n v → MayStart each last (split_left v) × MayStart each 1 (split_right v)
may_start each n last Opens any ne e start = absurd start
may_start each n last Spent any ne e start = absurd start
may_start each zero last (Of p) any ne e start = absurd (omega arith)
may_start each (suc zero) last (Of p) any ne e start = absurd (ne refl)
may_start each (suc (suc n)) last (Of p) any ne e start =
    let parts = parts_start each n p start in
    let is : suc n ≡ last = omega arith in
    (subst (λ k. Starts each k (left_part p)) is parts.0, parts.1)

both_end : (p q r : Part) → 0 < length p.workers → Ended (left_part p) q → Ended (right_part p) r → Ended p (both_parts q r)
both_end p q r any a b =
    record {
      workers = λ w. times_append w q.workers r.workers ∙ (let x = a.workers w in let y = b.workers w in let z = times_without w (greatest p.workers) p.workers (greatest_in p.workers any) in omega arith);
      idle = a.idle;
      none_lent = a.none_lent;
      first = a.first;
    }

pub all_end : (each n : ℕ) (v left right : View) → 1 ≤ n → MayStart each n v → HasEnded (split_left v) left → HasEnded (split_right v) right → HasEnded v (joined left right)
all_end each n Opens left right any start a b = absurd start
all_end each n Spent left right any start a b = absurd start
all_end each n (Of p) (Of q) (Of r) any start a b = both_end p q r (let count = start.count in omega arith) a b
all_end each n (Of p) Opens right any start a b = absurd a
all_end each n (Of p) Spent right any start a b = absurd a
all_end each n (Of p) (Of q) Opens any start a b = absurd b
all_end each n (Of p) (Of q) Spent any start a b = absurd b

pub ended_has : (v last : View) → HasEnded v last → HasWorkers last × IsFree last
ended_has (Of p) (Of q) ended = (tt, (ended.idle, ended.none_lent))
ended_has (Of p) Opens ended = absurd ended
ended_has (Of p) Spent ended = absurd ended
ended_has Opens last ended = absurd ended
ended_has Spent last ended = absurd ended

-- From the first pass to the last

gives_more : (each n : ℕ) → gives_for each n ≤ gives_for each (suc n)
gives_more each zero = omega arith
gives_more each (suc n) = omega arith

gives_grow : (each n k : ℕ) → gives_for each n ≤ gives_for each (k + n)
gives_grow each n zero = let e : zero + n ≡ n = omega arith in subst (λ j. gives_for each n ≤ gives_for each j) (sym e) (omega arith)
gives_grow each n (suc k) =
    let ih = gives_grow each n k in
    let more = gives_more each (k + n) in
    let e : suc k + n ≡ suc (k + n) = omega arith in
    subst (λ j. gives_for each n ≤ gives_for each j) (sym e) (omega arith)

pub first_starts : (each : ℕ) (r : Run) (v : View) → gives_for each 16 ≤ 2 ^ 60 → r.workers ≤ 16 → r.lent ≡ [] → v ≡ Of (first_part r) → MayStart each r.workers v
first_starts each r v enough few none is =
    let rest : (16 - r.workers) + r.workers ≡ 16 = omega arith in
    let most : gives_for each r.workers ≤ gives_for each 16 = subst (λ k. gives_for each r.workers ≤ gives_for each k) rest (gives_grow each r.workers (16 - r.workers)) in
    subst (MayStart each r.workers) (sym is) (record {
      count = length_below r.workers;
      idle = refl;
      none_lent = none_among (below r.workers) r (λ w _. ap (among w) none);
      gives = omega arith;
      untouched = ([], sym (append-nil (choices r.log)), tt);
    })

pub has_all : (r : Run) (v last : View) → v ≡ Of (first_part r) → HasEnded v last → HasAll last
has_all r Opens last is ended = absurd ended
has_all r Spent last is ended = absurd ended
has_all r (Of p) Opens is ended = absurd ended
has_all r (Of p) Spent is ended = absurd ended
has_all r (Of p) (Of q) is ended =
    let same : p ≡ first_part r = cc is in (
      (λ w lt. let first : q.first ≡ r = ended.first ∙ ap (λ (x : Part). x.first) same in
          let less : w < r.workers = subst (λ (x : Run). w < x.workers) first lt in
          let all : times w q.workers ≡ times w (below r.workers) = ended.workers w ∙ ap (λ (x : Part). times w x.workers) same in
          let there = below_in w r.workers less in omega arith),
      ended.idle,
      ended.none_lent,
    )

pub runs_on : (r : Run) (v last : View) (now : Run) → v ≡ Of (first_part r) → HasEnded v last → Finds last now → RunsOn r now
runs_on r Opens last now is ended finds = absurd ended
runs_on r Spent last now is ended finds = absurd ended
runs_on r (Of p) Opens now is ended finds = absurd ended
runs_on r (Of p) Spent now is ended finds = absurd ended
runs_on r (Of p) (Of q) now is ended finds =
    let same : p ≡ first_part r = cc is in
    let first : q.first ≡ r = ended.first ∙ ap (λ (x : Part). x.first) same in
    (subst (λ x. SameProgram x now) first finds.program, subst (λ x. KeepsBound x now) first finds.bound)

-- so none is lent at the end
pub ends_unlent : (r : Run) (v last : View) (now : Run) → v ≡ Of (first_part r) → HasEnded v last → Finds last now → NoneLent now
ends_unlent r v Opens now is ended finds = absurd finds
ends_unlent r v Spent now is ended finds = absurd finds
ends_unlent r v (Of q) now is ended finds =
    let all = has_all r v (Of q) is ended in
    λ w less. not_lent w q.workers q.lent now (all.0 w (subst (λ k. w < k) finds.program.1 less)) all.2 finds.lent
