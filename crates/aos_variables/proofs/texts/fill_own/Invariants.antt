-- The loop over the numbers of a module's string constants.
use Rattle.std.proofs.Common.{◌≡◌, ◌++◌, ℕ, Vec, Global, map, take}
use Rattle.aos_arguments.specs.Filled.{filled}
use Rattle.aos_variables.proofs.Strings.{text_of}
use Rattle.aos_variables.proofs.texts.fill_own.Given as goal

abbrev pub invariant-loop-number : goal.invariant-loop-number
invariant-loop-number l =
    map (λ (t : Vec ℕ Global). t.items) l.all.items
    ≡ map (λ (t : Vec ℕ Global). t.items) l.initial.all.items ++ map (filled l.length) (map (text_of l.home) (take l.number l.home.strings))
