-- The first breach of lists that are walked one item after another.
use Rattle.std.proofs.Common.{◌≡◌, ℕ, ◌+◌, ◌<◌, List, [], ◌++◌, length, take, get_or, Option, sym, ap, ◌∙◌}
use Rattle.std.specs.List.{flat_map}
use Rattle.std.proofs.lemmas.List.Sums.{fold-append}
use Rattle.std.proofs.lemmas.List.{take_more, flat_map_more}
use Rattle.aos_symbols.specs.declared.breach.Breach.{Breach}
use Rattle.aos_symbols.specs.Breaches.{sooner, first_after}

-- one list after another
pub after_more : (met : Option Breach) (xs ys : List Breach) → first_after met (xs ++ ys) ≡ first_after (first_after met xs) ys
after_more met xs ys = fold-append sooner met xs ys

-- one more item of a walk
pub first_after_more : {X : Type 0} (f : X → List Breach) (met : Option Breach) (xs : List X) (i : ℕ) (d : X) → i < length xs →
    first_after (first_after met (flat_map f (take i xs))) (f (get_or xs i d)) ≡ first_after met (flat_map f (take (i + 1) xs))
first_after_more f met xs i d lt =
    sym (after_more met (flat_map f (take i xs)) (f (get_or xs i d)))
    ∙ ap (λ z. first_after met z) (flat_map_more f [] (take i xs) (get_or xs i d) ∙ ap (λ z. flat_map f z) (sym (take_more xs i d lt)))

-- two and three lists one after another
pub after_two : (met : Option Breach) (xs ys : List Breach) {one two : Option Breach} →
    one ≡ first_after met xs → two ≡ first_after one ys → two ≡ first_after met (xs ++ ys)
after_two met xs ys a b = b ∙ ap (λ z. first_after z ys) a ∙ sym (after_more met xs ys)

pub after_three : (met : Option Breach) (xs ys zs : List Breach) {one two three : Option Breach} →
    one ≡ first_after met xs → two ≡ first_after one ys → three ≡ first_after two zs → three ≡ first_after met (xs ++ ys ++ zs)
after_three met xs ys zs a b c = after_two met (xs ++ ys) zs (after_two met xs ys a b) c
