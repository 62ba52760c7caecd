use Rattle.aos_typed.proofs.Rules.{no_text}
use Rattle.aos_typed.proofs.laws.law_of_constants.Goals as goal

pub returns : goal.returns
returns c p own at strict from m k ns none h = no_text p own at strict from m k ns none h
