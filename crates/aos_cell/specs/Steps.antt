-- The kinds of step under the rule: what each makes of a pass's view, what it tells, and what it asks.
use Rattle.std.specs.Prelude.{◌≡◌, ◌<◌, ◌≤◌, ◌==◌, ◌+◌, ◌-◌, ◌/◌, ◌^◌, ℕ, nat_lt, true, false, if◌then◌else◌, List, [], ◌∷◌, ◌++◌, length}
use Rattle.aos_base.specs.Schedule.{choices}
use Rattle.aos_kernel.specs.Run.{Run}
use Rattle.aos_cell.specs.declared.rule.Part.{Part}
use Rattle.aos_cell.specs.declared.rule.View.{View}
use Rattle.aos_cell.specs.declared.rule.View.TheVariants.{Opens, Spent, Of}
use Rattle.aos_cell.specs.Total.{times, below}
use Rattle.aos_cell.specs.Bound.{KeepsBound}
use Rattle.aos_cell.specs.Rule.{SameProgram, AddsOwn, AddsOthers, lent_among, LentAre, LendsOwn, HasPart}

-- Putting the kernel in

-- the pass that did so has all workers
abbrev pub first_part : Run → Part
first_part r =
    record {
      workers = below r.workers;
      has = false;
      gives = 2 ^ 60;
      first = r;
      last = r;
      lent = lent_among (below r.workers) r;
    }

-- Taking it

abbrev pub HasWorkers : View → Type 0
HasWorkers v = HasPart (λ p. Unit {0}) v

-- what a pass learns of the kernel that it takes
pub record Follows (p : Part) (r : Run) : Type 0 where
  pub program : SameProgram p.first r
  pub same : SameProgram p.last r
  pub range : (w : ℕ) → 0 < times w p.workers → w < r.workers
  pub others : AddsOthers p.workers p.last r
  pub bound : KeepsBound p.first r
  pub lent : LentAre p.workers p.lent r

abbrev pub Finds : View → Run → Type 0
Finds v r = HasPart (λ p. Follows p r) v

abbrev pub taken : Part → Run → Part
taken p r = record p { has = true; last = r }

-- of the view before, the kernel, and the view after
abbrev pub Takes : View → Run → View → Type 0
Takes v r w = HasPart (λ p. (w ≡ Of (taken p r)) × Follows p r) v

-- Giving it back

-- what a pass owes of the kernel that it gives back
pub record Extends (p : Part) (r : Run) : Type 0 where
  pub program : SameProgram p.first r
  pub own : AddsOwn p.workers p.last r
  pub bound : KeepsBound p.first r
  pub lent : LendsOwn p.workers p.last r

-- it took the kernel, has a give left, and may give this kernel back
abbrev pub MayGive : View → Run → Type 0
MayGive v r = HasPart (λ p. (p.has ≡ true) × (0 < p.gives) × Extends p r) v

abbrev pub given : Part → Run → Part
given p r = record p { has = false; last = r; gives = p.gives - 1; lent = lent_among p.workers r }

abbrev pub Gives : View → Run → View → Type 0
Gives v r w = HasPart (λ p. w ≡ Of (given p r)) v

-- Splitting a pass

abbrev pub greater : ℕ → ℕ → ℕ
greater a b = if nat_lt a b then b else a

abbrev pub greatest : List ℕ → ℕ
greatest [] = 0
greatest (x ∷ xs) = greater x (greatest xs)

-- without the first x
abbrev pub without : ℕ → List ℕ → List ℕ
without x [] = []
without x (y ∷ ys) = if y == x then ys else y ∷ without x ys

-- it has two workers, and neither the kernel nor a loan
abbrev pub MaySplit : View → Type 0
MaySplit v = HasPart (λ p. (2 ≤ length p.workers) × (p.has ≡ false) × (p.lent ≡ [])) v

-- the greatest worker goes to the new pass, with half of the gives
abbrev pub left_part : Part → Part
left_part p =
    record p { workers = without (greatest p.workers) p.workers; gives = p.gives - p.gives / 2; lent = [] }

abbrev pub right_part : Part → Part
right_part p = record p { workers = greatest p.workers ∷ []; gives = p.gives / 2; lent = [] }

abbrev pub split_left : View → View
split_left Opens = Opens
split_left Spent = Spent
split_left (Of p) = Of (left_part p)

abbrev pub split_right : View → View
split_right Opens = Opens
split_right Spent = Spent
split_right (Of p) = Of (right_part p)

abbrev pub HasOne : View → Type 0
HasOne v = HasPart (λ p. length p.workers ≡ 1) v

-- Joining two passes

-- it has neither the kernel nor a loan
abbrev pub IsFree : View → Type 0
IsFree v = HasPart (λ p. (p.has ≡ false) × (p.lent ≡ [])) v

-- the run with the longer log, and the first where they are as long
abbrev pub longer : Run → Run → Run
longer a b = if nat_lt (length (choices a.log)) (length (choices b.log)) then b else a

-- the pass that stays has the workers and the gives of both, and the longer of their last logs
abbrev pub both_parts : Part → Part → Part
both_parts p q =
    record p { workers = p.workers ++ q.workers; gives = p.gives + q.gives; last = longer p.last q.last }

abbrev pub joined_with : Part → View → View
joined_with p Opens = Of p
joined_with p Spent = Of p
joined_with p (Of q) = Of (both_parts p q)

abbrev pub joined : View → View → View
joined Opens w = Opens
joined Spent w = Spent
joined (Of p) w = joined_with p w

-- Taking it out at the end

-- it has all workers, and neither the kernel nor a loan
abbrev pub HasAll : View → Type 0
HasAll v =
    HasPart (λ p. ((w : ℕ) → w < p.first.workers → 0 < times w p.workers) × (p.has ≡ false) × (p.lent ≡ [])) v
