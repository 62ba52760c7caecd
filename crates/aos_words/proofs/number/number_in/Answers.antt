use Rattle.std.proofs.Common.{◌∙◌, sym}
use Rattle.aos_words.proofs.Numerals.{no_number}
use Rattle.aos_words.proofs.number.number_in.Goals as goal

pub returns-in_default-clause-value : goal.returns-in_default-clause-value
returns-in_default-clause-value c =
    no_number c.args.word.now c.args.least c.args.most (sym c.is_number.ensures ∙ c.if-not-is_number.false)
    c.in_default.ensures.value.0 c.ranges.most.fits
