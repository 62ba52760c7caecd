-- What a statement uses, by what it is seen as.
use Rattle.std.proofs.Common.{◌≡◌, List, ◌++◌, Bool, sym, ap, ◌∙◌, append_assoc}
use Rattle.aos_typed.specs.Program.{Program, Stat}
use Rattle.aos_uses.specs.declared.uses.Use.{Use}
use Rattle.aos_uses.specs.Uses.{stat_uses}

module _ (p : Program) (x : Bool) (base : List Use) where
  pub said : (new part : List Use) (s t : Stat) → part ≡ stat_uses p x t → s ≡ t → new ≡ base ++ part → new ≡ base ++ stat_uses p x s
  said new part s t all is e = e ∙ ap (λ l. base ++ l) (all ∙ sym (ap (stat_uses p x) is))

  -- behind what stands before it
  pub said_behind : (mid new first rest : List Use) (s t : Stat) → mid ≡ base ++ first → (first ++ rest) ≡ stat_uses p x t → s ≡ t → new ≡ mid ++ rest → new ≡ base ++ stat_uses p x s
  said_behind mid new first rest s t before all is e =
      e ∙ ap (λ l. l ++ rest) before ∙ append_assoc base first rest ∙ ap (λ l. base ++ l) (all ∙ sym (ap (stat_uses p x) is))
