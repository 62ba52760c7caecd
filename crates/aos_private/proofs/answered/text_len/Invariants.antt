use Rattle.std.proofs.Common.{◌≡◌, ◌+◌, ℕ, List, [], drop, length}
use Rattle.std.specs.Option.{option_map}
use Rattle.aos_code.specs.Machine.{text_in}
use Rattle.aos_private.proofs.answered.text_len.Given as goal

-- all cells up to here are characters
abbrev pub invariant-loop-i : goal.invariant-loop-i
invariant-loop-i l = option_map length (text_in [] l.cells) ≡ option_map (λ (cs : List ℕ). l.i + length cs) (text_in [] (drop l.i l.cells))
