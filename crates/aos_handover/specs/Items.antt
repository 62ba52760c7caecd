-- What holds of the results that remaining items give: of all items the end of a frame with a result alone gives one.
use Rattle.std.specs.Prelude.{List, [], ◌∷◌, Option}
use Rattle.aos_typed.specs.Value.{Value}
use Rattle.aos_typed.specs.Meaning.{Item, Do, Rounds, Round, Until, Region, End, Gives, After, Into, Exits, Returns}

module _ (R : Option Value → Type 0) where
  abbrev pub ItemsGive : List Item → Type 0
  ItemsGive [] = Unit {0}
  ItemsGive (Do st ∷ is) = ItemsGive is
  ItemsGive (Rounds at w q last step b ∷ is) = ItemsGive is
  ItemsGive (Round st ∷ is) = ItemsGive is
  ItemsGive (Until at b e ∷ is) = ItemsGive is
  ItemsGive (Region ss ∷ is) = ItemsGive is
  ItemsGive (End ∷ is) = ItemsGive is
  ItemsGive (Gives r ∷ is) = R r × ItemsGive is

  -- and of what follows a statement
  abbrev pub AfterGives : After → Type 0
  AfterGives (Into js) = ItemsGive js
  AfterGives Exits = Unit {0}
  AfterGives (Returns r) = R r
