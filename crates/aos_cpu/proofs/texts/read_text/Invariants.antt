use Rattle.std.proofs.Common.{◌≡◌, [], ◌++◌, drop, length}
use Rattle.std.specs.Option.{option_map}
use Rattle.aos_code.specs.Machine.{text_in}
use Rattle.aos_cpu.proofs.texts.read_text.Given as goal

-- what has been read comes before what is still to be read
abbrev pub invariant-loop-cell : goal.invariant-loop-cell
invariant-loop-cell l = record {
  front : l.bytes.items ≡ l.fn.bytes.items ++ drop (length l.fn.bytes.items) l.bytes.items;
  text : text_in [] l.cells ≡ option_map (λ t. drop (length l.fn.bytes.items) l.bytes.items ++ t) (text_in [] (drop l.cell-index l.cells));
}
