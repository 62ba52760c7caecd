-- What holds of the results that items give holds where items follow others, and where some are left.
use Rattle.std.proofs.Common.{List, [], ◌∷◌, ◌++◌, Bool, true, false, Option}
use Rattle.aos_typed.specs.Program.{Stats, Nothing, Then}
use Rattle.aos_typed.specs.Value.{Value}
use Rattle.aos_typed.specs.Meaning.{Item, Do, Rounds, Round, Until, Region, End, Gives, After, Into, Exits, Returns, leave, leave_all, items_of, block_items}
use Rattle.aos_handover.specs.Kinds.{follow}
use Rattle.aos_handover.specs.Items.{ItemsGive, AfterGives}

module _ (R : Option Value → Type 0) where
  -- statements give none
  pub text_gives : (ss : Stats) (is : List Item) → ItemsGive R is → ItemsGive R (items_of ss ++ is)
  text_gives Nothing is h = h
  text_gives (Then s ss) is h = text_gives ss is h

  pub items_give : (ss : Stats) → ItemsGive R (items_of ss)
  items_give Nothing = tt
  items_give (Then s ss) = items_give ss

  pub block_gives : (exclusive : Bool) (ss : Stats) → ItemsGive R (block_items exclusive ss)
  block_gives true ss = tt
  block_gives false ss = items_give ss

  both_give : (js is : List Item) → ItemsGive R js → ItemsGive R is → ItemsGive R (js ++ is)
  both_give [] is h k = k
  both_give (Do st ∷ js) is h k = both_give js is h k
  both_give (Rounds at w q last step b ∷ js) is h k = both_give js is h k
  both_give (Round st ∷ js) is h k = both_give js is h k
  both_give (Until at b e ∷ js) is h k = both_give js is h k
  both_give (Region ss ∷ js) is h k = both_give js is h k
  both_give (End ∷ js) is h k = both_give js is h k
  both_give (Gives r ∷ js) is h k = (h.0, both_give js is h.1 k)

  leave_gives : (is : List Item) → ItemsGive R is → ItemsGive R (leave is)
  leave_gives [] h = h
  leave_gives (Do st ∷ is) h = leave_gives is h
  leave_gives (Rounds at w q last step b ∷ is) h = leave_gives is h
  leave_gives (Round st ∷ is) h = h
  leave_gives (Until at b e ∷ is) h = leave_gives is h
  leave_gives (Region ss ∷ is) h = leave_gives is h
  leave_gives (End ∷ is) h = leave_gives is h
  leave_gives (Gives r ∷ is) h = (h.0, tt)

  leave_all_gives : (r : Option Value) (is : List Item) → R r → ItemsGive R (leave_all r is)
  leave_all_gives r [] h = (h, tt)
  leave_all_gives r (Do st ∷ is) h = leave_all_gives r is h
  leave_all_gives r (Rounds at w q last step b ∷ is) h = leave_all_gives r is h
  leave_all_gives r (Round st ∷ is) h = leave_all_gives r is h
  leave_all_gives r (Until at b e ∷ is) h = leave_all_gives r is h
  leave_all_gives r (Region ss ∷ is) h = leave_all_gives r is h
  leave_all_gives r (End ∷ is) h = leave_all_gives r is h
  leave_all_gives r (Gives u ∷ is) h = (h, tt)

  pub follow_gives : (after : After) (is : List Item) → AfterGives R after → ItemsGive R is → ItemsGive R (follow after is)
  follow_gives (Into js) is h k = both_give js is h k
  follow_gives Exits is h k = leave_gives is k
  follow_gives (Returns r) is h k = leave_all_gives r is h

  -- of the first item, and of the others
  pub first_gives : (i : Item) (is : List Item) → ItemsGive R (i ∷ is) → ItemsGive R (i ∷ [])
  first_gives (Do st) is h = tt
  first_gives (Rounds at w q last step b) is h = tt
  first_gives (Round st) is h = tt
  first_gives (Until at b e) is h = tt
  first_gives (Region ss) is h = tt
  first_gives End is h = tt
  first_gives (Gives r) is h = (h.0, tt)

  pub rest_gives : (i : Item) (is : List Item) → ItemsGive R (i ∷ is) → ItemsGive R is
  rest_gives (Do st) is h = h
  rest_gives (Rounds at w q last step b) is h = h
  rest_gives (Round st) is h = h
  rest_gives (Until at b e) is h = h
  rest_gives (Region ss) is h = h
  rest_gives End is h = h
  rest_gives (Gives r) is h = h.1

-- with what follows from it
module _ (R S : Option Value → Type 0) (from : (r : Option Value) → R r → S r) where
  pub items_also_give : (is : List Item) → ItemsGive R is → ItemsGive S is
  items_also_give [] h = tt
  items_also_give (Do st ∷ is) h = items_also_give is h
  items_also_give (Rounds at w q last step b ∷ is) h = items_also_give is h
  items_also_give (Round st ∷ is) h = items_also_give is h
  items_also_give (Until at b e ∷ is) h = items_also_give is h
  items_also_give (Region ss ∷ is) h = items_also_give is h
  items_also_give (End ∷ is) h = items_also_give is h
  items_also_give (Gives r ∷ is) h = (from r h.0, items_also_give is h.1)

-- what holds of each result
module _ (R : Option Value → Type 0) (each : (r : Option Value) → R r) where
  pub all_give : (is : List Item) → ItemsGive R is
  all_give [] = tt
  all_give (Do st ∷ is) = all_give is
  all_give (Rounds at w q last step b ∷ is) = all_give is
  all_give (Round st ∷ is) = all_give is
  all_give (Until at b e ∷ is) = all_give is
  all_give (Region ss ∷ is) = all_give is
  all_give (End ∷ is) = all_give is
  all_give (Gives r ∷ is) = (each r, all_give is)
