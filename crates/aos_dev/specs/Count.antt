-- Counts that never fall and stop at the greatest number of 64 bits.
use Rattle.std.specs.Prelude.{◌≡◌, ℕ, ◌+◌, ◌-◌, ◌^◌, ◌<◌, ◌⊎◌, min}

-- the greatest number of 64 bits, at which every count stops
abbrev pub greatest : ℕ
greatest = 2 ^ 64 - 1

-- a count rose in a call: it is greater after the call than before, or stood at the greatest number already
abbrev pub Rose : (old new : ℕ) → Type 0
Rose old new = (old < new) ⊎ ((old ≡ greatest) × (new ≡ old))

-- a number rose by more than `most` in a call, or stands at the greatest number
abbrev pub RoseAbove : (most old new : ℕ) → Type 0
RoseAbove most old new = (old + most < new) ⊎ (new ≡ greatest)

-- a count that went on by one, or stays at the greatest number
abbrev pub next : ℕ → ℕ
next count = min (count + 1) greatest
