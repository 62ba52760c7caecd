use Rattle.std.proofs.Common.{◌≡◌, map, take}
use Rattle.aos_code.specs.declared.image.ModuleDesc.{ModuleDesc}
use Rattle.aos_store.proofs.memory.Store.new.Given as goal

abbrev pub invariant-loop-module : goal.invariant-loop-module
invariant-loop-module l = map (λ v. v.items) l.modules.items ≡ map (λ (m : ModuleDesc). m.cells.items) (take l.module-index l.image.modules.items)
