use Rattle.std.proofs.Common.{◌≡◌, ◌+◌, ◌∷◌, [], ◌++◌, drop, length, sym, ap, ◌∙◌, arith, pos}
use Rattle.std.specs.Option.{option_map}
use Rattle.aos_code.specs.declared.instr.Cell.TheVariants.{Num}
use Rattle.aos_code.specs.Machine.{text_in}
use Rattle.aos_cpu.proofs.Characters.{text_from, text_more, front_kept, read_first, pushed, front_pushed}
use Rattle.aos_cpu.proofs.texts.read_text.Goals as goal

pub loop-cell-init : goal.loop-cell-init
loop-cell-init c = record { front = front_kept c.args.bytes.now.items; text = read_first c.args.bytes.now.items (text_in [] c.args.cells.now) }

pub loop-cell-preserved : goal.loop-cell-preserved
loop-cell-preserved c =
    let old = c.args.bytes.now.items in
    let now = c.loop-cell.bytes.items in
    let vs = c.args.cells.now in
    let i = c.loop-cell.cell-index in
    let byte = c.in-Some.byte in
    let items : c.push_reserved.new.self.items ≡ now ++ byte ∷ [] = c.push_reserved.ensures.items ∙ ap (λ xs. xs ++ byte ∷ []) c.reserve.ensures.items in
    let h = c.in-Some.ensures in
    record {
      front = items ∙ front_pushed old now byte c.loop-cell.invariant.front ∙ ap (λ xs. old ++ drop (length old) xs) (sym items);
      text =
          text_more (text_in [] (drop i vs)) (text_in [] (drop (i + 1) vs)) (drop (length old) now) byte _ (text_in [] vs) h (omega arith) c.loop-cell.invariant.text (text_from vs i (Num (pos 0)) (omega arith))
          ∙ ap (λ p. option_map (λ t. p ++ t) (text_in [] (drop (i + 1) vs))) (sym (ap (drop (length old)) items ∙ pushed old now byte c.loop-cell.invariant.front));
    }
