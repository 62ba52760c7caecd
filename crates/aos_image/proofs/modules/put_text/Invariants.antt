use Rattle.std.proofs.Common.{◌≡◌, ◌++◌, pos, take, map}
use Rattle.aos_code.specs.declared.instr.Cell.TheVariants.{Num}
use Rattle.aos_image.proofs.modules.put_text.Given as goal

abbrev pub invariant-loop-character : goal.invariant-loop-character
invariant-loop-character l = l.cells.items ≡ l.fn.cells.items ++ map (λ c. Num (pos c)) (take l.character-index l.text)
