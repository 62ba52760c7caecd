use Rattle.std.proofs.Common.{◌≡◌, drop}
use Rattle.std.specs.List.{fold}
use Rattle.aos_known.specs.Seen.{seen_entity}
use Rattle.aos_designators.specs.Designators as judge
use Rattle.aos_designators.proofs.designators.narrowed.Given as goal

-- what the WITHs that are left make of it is what all make of the whole
abbrev pub invariant-loop-variable : goal.invariant-loop-variable
invariant-loop-variable l =
    fold (judge.narrowed_by l.env l.symbol l.number) (seen_entity l.guarded) (drop l.variable-index l.variable-items)
    ≡ judge.narrowed l.env l.symbol l.number (seen_entity l.fn.whole)
