-- Bytes of a text by their places.
use Rattle.std.proofs.Common.{◌≡◌, ℕ, ◌<◌, Bool, true, false, List, length, get_or, sym, ◌∙◌, ⊎_elim, refl, arith}
use Rattle.std.proofs.lemmas.Bool.{cases_lt}
use Rattle.std.proofs.lemmas.List.{get_or_past}

-- a byte that isn't 0 stands in the text
pub read_within : (text : List ℕ) (i b : ℕ) → get_or text i 0 ≡ b → 0 < b → i < length text
read_within text i b is positive =
    ⊎_elim (λ in_range. in_range) (λ past. absurd (omega (arith, sym is ∙ get_or_past text i 0 past))) (cases_lt i (length text))

pub not_true : (b : Bool) → (b ≡ true → ⊥) → b ≡ false
not_true true h = absurd (h refl)
not_true false h = refl
