-- How far names lead in many steps at once. What leads twice as far as these numbers is found by two looks at them.
use Rattle.std.specs.Prelude.{ℕ, ◌+◌, ◌-◌, ◌%◌, ◌==◌, nat_lt, List, length, map, Option, Some, None, slice_get, if◌then◌else◌}
use Rattle.std.specs.List.{range_with_len}
use Rattle.aos_types.specs.declared.row.TypeId.{TypeId}
use Rattle.aos_check_types.specs.declared.aliases.Target.{Target}
use Rattle.aos_check_types.specs.Aliases.{follow}

-- so many names further from each type of the module, of which the first has this number
abbrev pub along : ℕ → List Target → ℕ → List TypeId
along first ts n = map (λ k. follow first ts n (record { 0 = first + k })) (range_with_len 0 (length ts))

-- where a type leads by these numbers of the module's types; another one leads to itself
abbrev pub leap : ℕ → List TypeId → TypeId → TypeId
leap first ahead t = led (if nat_lt t.0 first then None else slice_get ahead (t.0 - first))
  where
    led : Option TypeId → TypeId
    led None = t
    led (Some u) = u

-- where types lead that are reached already, by these numbers where an odd count of names is left
abbrev pub reached_on : ℕ → List TypeId → (left : ℕ) → List TypeId → List TypeId
reached_on first ahead left reached = if (left % 2) == 1 then map (leap first ahead) reached else reached
