-- What is handed over in a call through a procedure value: as much is copied for the value as it stands on the stack as for its object.
use Rattle.std.proofs.Common.{◌≡◌, ℕ, suc, List, [], ◌∷◌, ◌++◌, take, drop, refl, sym, ap, ◌∙◌}
use Rattle.std.specs.Prelude.{Bool, true, false, ◌&&◌, Option, Some, None}
use Rattle.std.specs.Option.{option_map, option_and_then}
use Rattle.aos_base.specs.Rooted.{Rooted}
use Rattle.aos_code.specs.declared.instr.Cell.{Cell}
use Rattle.aos_code.specs.declared.instr.Cell.TheVariants.{Num, Ref, Call as CallCell, Place}
use Rattle.aos_code.specs.declared.image.ParamKind.{ParamKind}
use Rattle.aos_code.specs.declared.image.ParamKind.TheVariants as param
use Rattle.aos_code.specs.Machine.{arguments_of, lengths_in}
use Rattle.aos_silent_steps.specs.declared.act.Way.{Way}
use Rattle.aos_silent_steps.specs.declared.act.Way.TheVariants.{Direct, Bound, Free}
use Rattle.aos_silent_steps.specs.Acts.{as_object, with_object}
use Rattle.aos_cpu.specs.Calls.{Gift, plain, open_gift, gifts, all_copied}
use Rattle.aos_cpu.specs.Private.{is_own_value, copies_own}
use Rattle.aos_cpu.proofs.Calling.{none_of, some_of}

-- Whether it is in the frames.

own_value : (v : Cell) → is_own_value v ≡ is_own_value (as_object v)
own_value (Num a) = refl
own_value (Ref o) = refl
own_value (CallCell p o) = refl
own_value (Place r c t) = refl

own_first : (ps : List ParamKind) (v : Cell) (vs : List Cell) → copies_own ps (v ∷ vs) ≡ copies_own ps (as_object v ∷ vs)
own_first [] v vs = refl
own_first (param.Scalar k ∷ ps) v vs = refl
own_first (param.Whole n ∷ ps) v vs = ap (λ b. b && copies_own ps vs) (own_value v)
own_first (param.Place ∷ ps) v vs = refl
own_first (param.Open d false n ∷ ps) v vs = refl
own_first (param.Open d true n ∷ ps) v vs = ap (λ b. b && copies_own ps (drop d vs)) (own_value v)

pub own_passed : (ps : List ParamKind) (way : Way) (method : Bool) (vs : List Cell) → copies_own ps (arguments_of method vs) ≡ copies_own ps (arguments_of method (with_object way vs))
own_passed ps Direct method vs = refl
own_passed ps Free method vs = refl
own_passed ps Bound true [] = refl
own_passed ps Bound true (v ∷ vs) = refl
own_passed ps Bound false [] = refl
own_passed ps Bound false (v ∷ vs) = own_first ps v vs

-- All that is copied.

abbrev copied_in : Option (List Gift) → Option (List Cell)
copied_in o = option_map all_copied o

like : (g h : Gift) → g.copied ≡ h.copied → (o : Option (List Gift)) → copied_in (option_map (λ gs. g ∷ gs) o) ≡ copied_in (option_map (λ gs. h ∷ gs) o)
like g h e None = refl
like g h e (Some gs) = ap (λ c. Some (c ++ all_copied gs)) e

module _ (x : Rooted (List Cell)) where
  opened : (by_value : Bool) (d n p o : ℕ) (vs : List Cell) (ps : List ParamKind) (lengths : Option (List ℕ)) →
      copied_in (option_and_then (λ (g : Gift). option_map (λ gs. g ∷ gs) (gifts x ps (drop g.taken (CallCell p o ∷ vs)))) (option_and_then (open_gift x d by_value n (CallCell p o) (take d vs)) lengths))
      ≡ copied_in (option_and_then (λ (g : Gift). option_map (λ gs. g ∷ gs) (gifts x ps (drop g.taken (Ref o ∷ vs)))) (option_and_then (open_gift x d by_value n (Ref o) (take d vs)) lengths))
  opened true d n p o vs ps None = refl
  opened true d n p o vs ps (Some ns) = refl
  opened false d n p o vs ps None = refl
  opened false d n p o vs ps (Some ns) = like (plain (CallCell p o ∷ take d vs) (suc d)) (plain (Ref o ∷ take d vs) (suc d)) refl (gifts x ps (drop d vs))

  first_copied : (ps : List ParamKind) (v : Cell) (vs : List Cell) → copied_in (gifts x ps (v ∷ vs)) ≡ copied_in (gifts x ps (as_object v ∷ vs))
  first_copied ps (Num a) vs = refl
  first_copied ps (Ref o) vs = refl
  first_copied ps (Place r c t) vs = refl
  first_copied [] (CallCell p o) vs = refl
  first_copied (param.Scalar k ∷ ps) (CallCell p o) vs = like (plain (CallCell p o ∷ []) 1) (plain (Ref o ∷ []) 1) refl (gifts x ps vs)
  first_copied (param.Whole n ∷ ps) (CallCell p o) vs = refl
  first_copied (param.Place ∷ ps) (CallCell p o) vs = like (plain (CallCell p o ∷ []) 1) (plain (Ref o ∷ []) 1) refl (gifts x ps vs)
  first_copied (param.Open d by_value n ∷ ps) (CallCell p o) vs = opened by_value d n p o vs ps (lengths_in [] (take d vs))

  copied_passed : (ps : List ParamKind) (way : Way) (method : Bool) (vs : List Cell) → copied_in (gifts x ps (arguments_of method vs)) ≡ copied_in (gifts x ps (arguments_of method (with_object way vs)))
  copied_passed ps Direct method vs = refl
  copied_passed ps Free method vs = refl
  copied_passed ps Bound true [] = refl
  copied_passed ps Bound true (v ∷ vs) = refl
  copied_passed ps Bound false [] = refl
  copied_passed ps Bound false (v ∷ vs) = first_copied ps v vs

  -- where arguments can't be handed over, nor can they with the object
  pub no_gifts : (ps : List ParamKind) (way : Way) (method : Bool) (vs : List Cell) → gifts x ps (arguments_of method vs) ≡ None → gifts x ps (arguments_of method (with_object way vs)) ≡ None
  no_gifts ps way method vs e = none_of all_copied (gifts x ps (arguments_of method (with_object way vs))) (sym (ap copied_in e) ∙ copied_passed ps way method vs)

  -- where they can be, as much is copied
  pub same_gifts : (ps : List ParamKind) (way : Way) (method : Bool) (vs : List Cell) (gs : List Gift) → gifts x ps (arguments_of method vs) ≡ Some gs →
      (hs : List Gift) × (gifts x ps (arguments_of method (with_object way vs)) ≡ Some hs) × (all_copied gs ≡ all_copied hs)
  same_gifts ps way method vs gs e = some_of all_copied (gifts x ps (arguments_of method (with_object way vs))) (all_copied gs) (sym (ap copied_in e) ∙ copied_passed ps way method vs)
