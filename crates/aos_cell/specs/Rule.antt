-- The rule of the queue that hands the kernel between passes: what it holds, and what each pass has and knows.
use Rattle.std.specs.Prelude.{◌≡◌, ◌⊎◌, ◌<◌, ◌≤◌, ◌+◌, ◌^◌, ℕ, nat_lt, Bool, true, List, [], ◌∷◌, ◌++◌, length, filter}
use mathlib.Core.Option.{some}
use lib.ListN.{get_elem?}
use Rattle.std.specs.declared.boxed.Box.{Box}
use Rattle.std.specs.declared.alloc.Global.{Global}
use Rattle.aos_base.specs.Machine.{Choice}
use Rattle.aos_base.specs.Schedule.{choices}
use Rattle.aos_concurrency.specs.Private.{of_worker}
use Rattle.aos_kernel.specs.Run.{Run, among}
use Rattle.aos_cell.specs.declared.rule.Part.{Part}
use Rattle.aos_cell.specs.declared.rule.View.{View}
use Rattle.aos_cell.specs.declared.rule.View.TheVariants.{Opens, Spent, Of}
use Rattle.aos_cell.specs.Total.{total, one_if, times, below}
use Rattle.aos_cell.specs.Bound.{KeepsBound}

-- what the queue holds
abbrev pub Item : Type 0
Item = Box Run Global

-- Logs are compared by the choices that they stand for, since a step joins a last entry of the same worker

-- each is of one of these workers
abbrev pub AreOf : List ℕ → List Choice → Type 0
AreOf ws [] = Unit {0}
AreOf ws (c ∷ cs) = (0 < times (of_worker c) ws) × AreOf ws cs

-- none is
abbrev pub AreOthers : List ℕ → List Choice → Type 0
AreOthers ws [] = Unit {0}
AreOthers ws (c ∷ cs) = (times (of_worker c) ws ≡ 0) × AreOthers ws cs

abbrev pub SameProgram : Run → Run → Type 0
SameProgram a b = (b.image ≡ a.image) × (b.workers ≡ a.workers) × (b.budget ≡ a.budget)

-- the second log is the first one and then entries of these workers alone
abbrev pub AddsOwn : List ℕ → Run → Run → Type 0
AddsOwn ws old new = (added : List Choice) × (choices new.log ≡ choices old.log ++ added) × AreOf ws added

-- the second log is the first one and then entries of others alone
abbrev pub AddsOthers : List ℕ → Run → Run → Type 0
AddsOthers ws old new = (added : List Choice) × (choices new.log ≡ choices old.log ++ added) × AreOthers ws added

-- whether a worker's activity is lent
unfoldable pub is_lent : ℕ → Run → Bool
is_lent w r = among w r.lent

-- those of these workers that are lent
abbrev pub lent_among : List ℕ → Run → List ℕ
lent_among ws r = filter (λ w. is_lent w r) ws

-- of these workers those are lent that stand in the list
abbrev pub LentAre : List ℕ → List ℕ → Run → Type 0
LentAre ws lent r = (w : ℕ) → 0 < times w ws → is_lent w r ≡ nat_lt 0 (times w lent)

-- the same workers are lent, except perhaps some of these
abbrev pub LendsOwn : List ℕ → Run → Run → Type 0
LendsOwn ws old new = (w : ℕ) → times w ws ≡ 0 → is_lent w new ≡ is_lent w old

-- What a pass with workers knows, where the kernel was put in first as `first` and last as `now`: its last log is the current
-- one but for entries of others, and the current one where it has the kernel.
pub record Sees (first now : Run) (p : Part) : Type 0 where
  pub some_worker : 0 < length p.workers
  pub named : p.first ≡ first
  pub program : SameProgram first p.last
  pub here : p.has ≡ true → p.last ≡ now
  pub others : AddsOthers p.workers p.last now
  pub lent : LentAre p.workers p.lent now
  pub lends_own : (w : ℕ) → times w p.workers ≡ 0 → times w p.lent ≡ 0

abbrev pub Fits : Run → Run → View → Type 0
Fits first now Opens = ⊥
Fits first now Spent = Unit {0}
Fits first now (Of p) = Sees first now p

-- a pass has workers, and this holds of what it has and knows
abbrev pub HasPart : (Part → Type 0) → View → Type 0
HasPart P Opens = ⊥
HasPart P Spent = ⊥
HasPart P (Of p) = P p

-- a view's workers, whether it has the kernel, and the gives that it has left

abbrev pub workers_of : View → List ℕ
workers_of Opens = []
workers_of Spent = []
workers_of (Of p) = p.workers

abbrev pub kernels_of : View → ℕ
kernels_of Opens = 0
kernels_of Spent = 0
kernels_of (Of p) = one_if p.has

abbrev pub gives_of : View → ℕ
gives_of Opens = 0
gives_of Spent = 0
gives_of (Of p) = p.gives

abbrev pub Every : (View → Type 0) → List View → Type 0
Every P views = (seat : ℕ) (v : View) → get_elem? views seat ≡ some v → P v

-- each item is this kernel
abbrev pub AreAll : Run → List Item → Type 0
AreAll r [] = Unit {0}
AreAll r (x ∷ xs) = (x.value ≡ r) × AreAll r xs

-- from the push that puts the kernel in
pub record Kept (items : List Item) (views : List View) : Type 0 where
  pub first : Run  -- as it was put in
  pub now : Run  -- as it was put in last
  pub queued : AreAll now items
  pub one : length items + total kernels_of views ≡ 1  -- the queue holds it, or one pass has it
  pub program : SameProgram first now
  pub bound : KeepsBound first now
  pub owned : (w : ℕ) → total (λ v. times w (workers_of v)) views ≡ times w (below first.workers)  -- each worker is one pass's
  pub few_workers : first.workers ≤ 16
  pub gives : total gives_of views ≤ 2 ^ 60
  pub fits : Every (Fits first now) views

-- the rule: before that push the queue is empty, and the one pass may make it
abbrev pub Rule : List Item → List View → Type 0
Rule items views = ((items ≡ []) × (views ≡ Opens ∷ [])) ⊎ Kept items views
