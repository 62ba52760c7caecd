use Rattle.aos_types.proofs.Circles.{circle_test}
use Rattle.aos_types.proofs.laws.law_of_circles.Goals as goal

pub returns : goal.returns
returns c = λ rows t. circle_test rows t
