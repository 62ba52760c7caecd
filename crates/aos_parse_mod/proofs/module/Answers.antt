use Rattle.aos_parse_mod.proofs.ModAnswer as answer
use Rattle.aos_parse_mod.proofs.module.Goals as goal

pub returns-clause-expected : goal.returns-clause-expected
returns-clause-expected c =
    λ p is. answer.expects c.args.tokens.now c.text.result p c.text.ensures.moves is

pub returns-clause-deep : goal.returns-clause-deep
returns-clause-deep c =
    λ p is. answer.deep c.args.tokens.now c.text.result p c.text.ensures.moves is
