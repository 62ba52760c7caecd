use Rattle.std.proofs.Common.{◌≡◌, take, map}
use Rattle.aos_typed.specs.Seen.{seen_module, seen_program}
use Rattle.aos_image.specs.Made.{AreModules}
use Rattle.aos_image.proofs.modules.modules_of.Given as goal

-- the modules so far
abbrev pub invariant-loop-module : goal.invariant-loop-module
invariant-loop-module l =
    (AreModules (seen_program l.program) (map seen_module (take l.module-index l.program.modules.items)) l.modules.items) × (l.number ≡ l.module-index)
