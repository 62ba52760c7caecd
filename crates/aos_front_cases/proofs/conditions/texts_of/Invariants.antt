use Rattle.std.proofs.Common.{◌≤◌, ◌^◌, All, length}
use Rattle.aos_front_cases.proofs.conditions.texts_of.Given as goal

-- the texts so far are short enough
abbrev pub invariant-loop-section : goal.invariant-loop-section
invariant-loop-section l = All (λ t. length t.items ≤ 2 ^ 20) l.texts.items
