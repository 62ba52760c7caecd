-- What each of a list gives, one behind the other: that of one more.
use Rattle.std.proofs.Common.{◌≡◌, ◌<◌, ◌+◌, ℕ, List, [], ◌∷◌, ◌++◌, length, get_or, take, map, ap, sym, ◌∙◌, append-nil}
use Rattle.std.specs.List.{flat_map}
use Rattle.std.proofs.lemmas.List.{map_more}
use Rattle.std.proofs.lemmas.Grind.{flat_map-append}

pub joined_more : {A B C : Type 0} (see : A → B) (each : B → List C) (so_far now : List C) (xs : List A) (i : ℕ) (x : A) → i < length xs → x ≡ get_or xs i x →
    so_far ≡ flat_map each (map see (take i xs)) → now ≡ so_far ++ each (see x) → now ≡ flat_map each (map see (take (i + 1) xs))
joined_more see each so_far now xs i x lt at e f =
    let ys = map see (take i xs) in
    let next = map_more see xs i x lt ∙ ap (λ y. ys ++ see y ∷ []) (sym at) in
    f ∙ ap (λ l. l ++ each (see x)) e
    ∙ sym (ap (flat_map each) next ∙ flat_map-append each ys (see x ∷ []) ∙ ap (λ l. flat_map each ys ++ l) (append-nil (each (see x))))
