use Rattle.std.proofs.Common.{◌≡◌, take}
use Rattle.aos_words.specs.Words.{borrowed}
use Rattle.aos.specs.Shown.{module_names}
use Rattle.aos.proofs.names.names_of.Given as goal

-- the names so far
abbrev pub invariant-loop-module : goal.invariant-loop-module
invariant-loop-module l = borrowed l.names.items ≡ module_names (take l.module-index l.modules)
