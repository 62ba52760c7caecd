use Rattle.std.proofs.Common.{◌≡◌, [], drop, is_some}
use Rattle.aos_code.specs.Machine.{text_in}
use Rattle.aos_cpu.proofs.texts.is_text.Given as goal

-- all cells up to here are characters
abbrev pub invariant-loop-cell : goal.invariant-loop-cell
invariant-loop-cell l = is_some (text_in [] l.cells) ≡ is_some (text_in [] (drop l.cell-index l.cells))
