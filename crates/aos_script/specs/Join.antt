-- Neighbouring runs of steps of one worker, joined up to 10^9 steps.
use Rattle.std.specs.Prelude.{ℕ, ◌+◌, ◌-◌, ◌==◌, nat_le, if◌then◌else◌, List, [], ◌∷◌}
use Rattle.aos_base.specs.declared.kernel.Sched.{Sched}
use Rattle.aos_base.specs.declared.kernel.Sched.TheVariants.{Steps, Tick}
use Rattle.aos_script.specs.declared.join.Neighbours.{Neighbours}
use Rattle.aos_script.specs.declared.join.Neighbours.TheVariants.{One, Two}

-- k steps of a worker and then j, where there is room for so many more: one run, or two of which the first is full
abbrev pub join_within : (room w k j : ℕ) → Neighbours
join_within room w k j = if nat_le j room then One (Steps w (k + j)) else Two (Steps w 1000000000) (Steps w (j - room))

-- two neighbouring entries, joined where both are steps of one worker
abbrev pub join : Sched → Sched → Neighbours
join (Steps w k) (Steps v j) = if w == v then join_within (1000000000 - k) w k j else Two (Steps w k) (Steps v j)
join (Steps w k) (Tick v) = Two (Steps w k) (Tick v)
join (Tick w) r = Two (Tick w) r

-- the last one, which those behind may join
abbrev pub last_of : Neighbours → Sched
last_of (One r) = r
last_of (Two q r) = r

-- others behind the one before the last, if there is one
abbrev pub behind_first : Neighbours → List Sched → List Sched
behind_first (One r) rs = rs
behind_first (Two q r) rs = q ∷ rs

-- an entry and those behind it, joined from the left
abbrev pub joined_from : Sched → List Sched → List Sched
joined_from r [] = r ∷ []
joined_from r (q ∷ rs) = behind_first (join r q) (joined_from (last_of (join r q)) rs)

-- entries with neighbouring runs of one worker joined
abbrev pub joined : List Sched → List Sched
joined [] = []
joined (r ∷ rs) = joined_from r rs
