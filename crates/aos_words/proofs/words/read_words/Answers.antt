use Rattle.aos_words.specs.Words.{words_of}
use Rattle.aos_words.proofs.First.{by_name}
use Rattle.aos_words.proofs.Ranges.{read_in_range}
use Rattle.aos_words.proofs.words.read_words.Goals as goal

pub returns-clause-read : goal.returns-clause-read
returns-clause-read c =
    by_name c.args.words.now c.in-Some.name.now c.as_str.result.now c.read_by.result
    c.in-Some.ensures.value c.as_str.ensures.value c.read_by.ensures

pub returns-clause-range : goal.returns-clause-range
returns-clause-range c = read_in_range (words_of c.args.words.now) c.read_by.result (returns-clause-read c)
