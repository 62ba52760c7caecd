use Rattle.aos_compile.proofs.Typing.{well_typed}
use Rattle.aos_compile.proofs.laws.law_of_typing.Goals as goal

pub returns : goal.returns
returns c = well_typed
