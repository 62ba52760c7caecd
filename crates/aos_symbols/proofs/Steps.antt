-- One more step of walks over lists.
use Rattle.std.proofs.Common.{◌≡◌, ◌<◌, ◌≤◌, ℕ, List, ◌+◌, length, get_or, drop, drop-cons, add-one, ap, ◌∙◌, sym}
use Rattle.aos_symbols.specs.Judged.{Judged, kept, bind, walk}
use Rattle.aos_symbols.proofs.Paths.{past}

-- one more part of a walk
pub walk_step : {A X : Type 0} (step : A → X → Judged A) (a : A) (xs : List X) (i : ℕ) (d : X) → i < length xs →
    walk step a (drop i xs) ≡ bind (step a (get_or xs i d)) (λ b. walk step b (drop (i + 1) xs))
walk_step step a xs i d lt =
    ap (λ l. walk step a l) (drop-cons xs i d lt)
    ∙ ap (λ j. bind (step a (get_or xs i d)) (λ b. walk step b (drop j xs))) (sym (add-one i))

pub walk_end : {A X : Type 0} (step : A → X → Judged A) (a : A) (xs : List X) (i : ℕ) → length xs ≤ i → walk step a (drop i xs) ≡ kept a
walk_end step a xs i le = ap (λ l. walk step a l) (past xs i le)
