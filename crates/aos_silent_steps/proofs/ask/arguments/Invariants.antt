use Rattle.std.proofs.Common.{◌≡◌, ◌≤◌, [], List, length, reverse, take}
use Rattle.aos_code.specs.declared.instr.Cell.{Cell}
use Rattle.aos_code.specs.Silent.{Stack, Act, on_kinds, kinds_of}
use Rattle.aos_silent_steps.specs.Taken.{kinds_from}
use Rattle.aos_silent_steps.proofs.ask.arguments.Given as goal

-- from here what is handed over for the first ones lies
abbrev pub invariant-loop-left : goal.invariant-loop-left
invariant-loop-left l = record {
  left : l.left ≤ length l.params;
  rest : (k : List Cell → Stack → Act) → on_kinds (reverse (kinds_of l.params)) [] k (reverse l.stack) ≡ kinds_from (reverse (kinds_of (take l.left l.params))) l.depth k (reverse l.stack);
}

abbrev pub decreases-loop-left : goal.decreases-loop-left
decreases-loop-left l = l.left
