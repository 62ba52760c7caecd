use Rattle.std.proofs.Common.{length, sym, ◌∙◌, arith, rules}
use Rattle.aos_scan.proofs.Words.{word_kind_of_length, word_kind_of_other_length, other_length}
use Rattle.aos_scan.proofs.word.word_kind.Goals as goal

pub returns-in-2 : goal.returns-in-2
returns-in-2 c = c.of_two.ensures ∙ sym (word_kind_of_length 2 _ (search rules))

pub returns-in-3 : goal.returns-in-3
returns-in-3 c = c.of_three.ensures ∙ sym (word_kind_of_length 3 _ (search rules))

pub returns-in-4 : goal.returns-in-4
returns-in-4 c = c.of_four.ensures ∙ sym (word_kind_of_length 4 _ (search rules))

pub returns-in-5 : goal.returns-in-5
returns-in-5 c = c.of_five.ensures ∙ sym (word_kind_of_length 5 _ (search rules))

pub returns-in-6 : goal.returns-in-6
returns-in-6 c = c.of_six.ensures ∙ sym (word_kind_of_length 6 _ (search rules))

pub returns-in-7 : goal.returns-in-7
returns-in-7 c = c.of_seven.ensures ∙ sym (word_kind_of_length 7 _ (search rules))

pub returns-in-9 : goal.returns-in-9
returns-in-9 c = c.of_nine.ensures ∙ sym (word_kind_of_length 9 _ (search rules))

pub returns-in_default : goal.returns-in_default
returns-in_default c =
    let w = c.args.word.now in
    sym (word_kind_of_other_length w (other_length (length w) (omega arith) (omega arith) (omega arith) (omega arith) (omega arith) (omega arith) (omega arith)))
