-- The loop over the numbers of the string constants.
use Rattle.std.proofs.Common.{◌≡◌, ℕ, Vec, Global, map, take}
use Rattle.aos_variables.proofs.Strings.{text_of}
use Rattle.aos_variables.proofs.texts.own_texts.Given as goal

abbrev pub invariant-loop-number : goal.invariant-loop-number
invariant-loop-number l = map (λ (t : Vec ℕ Global). t.items) l.all.items ≡ map (text_of l.home) (take l.number l.home.strings)
