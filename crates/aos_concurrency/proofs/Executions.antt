-- One schedule behind another.
use Rattle.std.proofs.Common.{◌≡◌, List, [], ◌∷◌, ◌++◌, refl}
use Rattle.aos_base.specs.Machine.{Choice, Machine, State, happens, execution}

module _ {S F : Type 0} (m : Machine S F) where
  pub execution-append : (cs ds : List Choice) (st : State S F) → execution m (cs ++ ds) st ≡ execution m ds (execution m cs st)
  execution-append [] ds st = refl
  execution-append (c ∷ cs) ds st = execution-append cs ds (happens m c st)
