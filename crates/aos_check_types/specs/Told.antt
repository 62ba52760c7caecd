-- What a function tells of a part that it judges: which breach is the first so far, and the part's answer.
use Rattle.std.specs.Prelude.{◌≡◌, Option, Result, IfOk}
use Rattle.aos_symbols.specs.declared.breach.Breach.{Breach}
use Rattle.aos_symbols.specs.Breaches.{first_after}
use Rattle.aos_symbols.specs.Judged.{Judged}

pub record Told {A : Type 0} (judged : Judged A) (before behind : Option Breach) (answer : A) : Type 0 where
  pub noted : behind ≡ first_after before judged.breaches
  pub is : answer ≡ judged.answer

-- where a function has memory enough, what it gives is seen as the part's answer
abbrev pub Tells : {A B E : Type 0} → Result A E → Option Breach → Option Breach → (A → B) → Judged B → Type 0
Tells r before behind seen j = IfOk r (λ a. Told j before behind (seen a))
