use Rattle.std.proofs.Common.{◌≡◌, get_or, arith}
use Rattle.aos_scan.specs.declared.run.Class.TheVariants.{Hexadecimal}
use Rattle.std.proofs.lemmas.Bool.{or_left}
use Rattle.aos_scan.proofs.ByteLemmas.{not_true, read_within}
use Rattle.aos_scan.proofs.Slices.{all_of_run, list_all-slice_range}
use Rattle.aos_scan.specs.Bytes.{is_hexadecimal}
use Rattle.aos_scan.proofs.Lexemes.{hexadecimal_begins, char_begins, decimal_begins}
use Rattle.aos_scan.proofs.lexeme.number_at.Goals as goal

pub valued-requires-clause-digits : goal.valued-requires-clause-digits
valued-requires-clause-digits c = all_of_run c.args.text.now Hexadecimal c.args.at c.run_end-to.result c.run_end-to.ensures

pub valued-requires-clause-begins : goal.valued-requires-clause-begins
valued-requires-clause-begins c =
    let text = c.args.text.now in
    let to = c.run_end-to.result in
    let mark : get_or text to 0 ≡ 72 = omega (arith, c.byte_at.ensures, c.in-72.is) in
    hexadecimal_begins text c.args.at c.requires.within c.requires.gap (not_true _ c.requires.no_letter) c.requires.digit to c.run_end-to.ensures (read_within text to 72 mark (omega arith)) mark

pub valued-requires-in-88-clause-digits : goal.valued-requires-in-88-clause-digits
valued-requires-in-88-clause-digits c = all_of_run c.args.text.now Hexadecimal c.args.at c.run_end-to.result c.run_end-to.ensures

pub valued-requires-in-88-clause-begins : goal.valued-requires-in-88-clause-begins
valued-requires-in-88-clause-begins c =
    let text = c.args.text.now in
    let to = c.run_end-to.result in
    let mark : get_or text to 0 ≡ 88 = omega (arith, c.byte_at.ensures, c.in-88.is) in
    char_begins text c.args.at c.requires.within c.requires.gap (not_true _ c.requires.no_letter) c.requires.digit to c.run_end-to.ensures (read_within text to 88 mark (omega arith)) mark

pub valued-requires-in_default-clause-digits : goal.valued-requires-in_default-clause-digits
valued-requires-in_default-clause-digits c =
    let run = c.run_end-end.ensures in
    list_all-slice_range c.args.text.now is_hexadecimal c.args.at c.run_end-end.result run.ordered run.within (λ k low high. or_left _ _ (run.each k low high))

pub valued-requires-in_default-clause-begins : goal.valued-requires-in_default-clause-begins
valued-requires-in_default-clause-begins c =
    let text = c.args.text.now in
    let to = c.run_end-to.result in
    decimal_begins text c.args.at c.requires.within c.requires.gap (not_true _ c.requires.no_letter) c.requires.digit to c.run_end-to.ensures
    (λ _ mark. omega (arith, c.byte_at.ensures, mark)) (λ _ mark. omega (arith, c.byte_at.ensures, mark)) c.run_end-end.result c.run_end-end.ensures
