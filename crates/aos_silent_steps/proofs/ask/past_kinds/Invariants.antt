use Rattle.std.proofs.Common.{◌≡◌, ◌-◌, ◌++◌, List, reverse, replicate}
use Rattle.aos_code.specs.declared.instr.Cell.{Cell}
use Rattle.aos_code.specs.declared.instr.Kind.{Kind}
use Rattle.aos_code.specs.Silent.{Stack, Act}
use Rattle.aos_silent_steps.specs.Taken.{kinds_from}
use Rattle.aos_silent_steps.proofs.ask.past_kinds.Given as goal

-- from here the rest of them lies
abbrev pub invariant-loop : goal.invariant-loop
invariant-loop l = (kinds : List Kind) (k : List Cell → Stack → Act) →
    kinds_from (replicate l.count l.kind ++ kinds) l.fn.depth k (reverse l.stack) ≡ kinds_from (replicate (l.count - l.counter) l.kind ++ kinds) l.past k (reverse l.stack)
