-- The loop over the string constants that modules before name.
use Rattle.std.proofs.Common.{◌≡◌, ◌++◌, ℕ, Vec, Global, map, take}
use Rattle.aos_arguments.specs.Filled.{named_filled}
use Rattle.aos_variables.proofs.texts.fill_named.Given as goal

abbrev pub invariant-loop-text : goal.invariant-loop-text
invariant-loop-text l =
    map (λ (t : Vec ℕ Global). t.items) l.all.items
    ≡ map (λ (t : Vec ℕ Global). t.items) l.initial.all.items ++ map (named_filled l.length l.env) (take l.text-index l.texts)
