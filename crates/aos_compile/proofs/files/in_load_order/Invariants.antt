use Rattle.std.proofs.Common.{◌≡◌, length, drop}
use Rattle.aos_symbols.specs.Outcome.{in_turn}
use Rattle.aos_compile.specs.Modules.{no_modules}
use Rattle.aos_compile.specs.Files.{loaded}
use Rattle.aos_compile.specs.Seen.{seen_world}
use Rattle.aos_reading.specs.Sources.{sources}
use Rattle.aos_compile.proofs.files.in_load_order.Given as goal

abbrev pub invariant-loop-file : goal.invariant-loop-file
invariant-loop-file l =
    let step = loaded (sources l.texts l.trees) in record {
      rest : in_turn step (seen_world l.world) (drop l.file-index l.order) ≡ in_turn step no_modules l.order;
      before : length l.world.before ≡ l.file-index;
      modules : length l.world.modules.items ≡ l.file-index;
    }
