-- One more of those of which the largest is sought.
use Rattle.std.proofs.Common.{◌≡◌, ℕ, ◌+◌, ◌<◌, List, length, max, take, get_or, Some, slice_get, ap, ◌∙◌}
use Rattle.std.proofs.lemmas.List.Sums.{fold_more}
use Rattle.std.proofs.lemmas.Option.{slice_get_within, get_or_from_slice_get}
use Rattle.aos_arguments.specs.Filled.{most}

pub most_more : {A : Type 0} (f : A → ℕ) (xs : List A) (i : ℕ) (d : A) → i < length xs → most f (take (i + 1) xs) ≡ max (most f (take i xs)) (f (get_or xs i d))
most_more f xs i d lt = fold_more (λ n x. max n (f x)) 0 xs i d lt

pub most_next : {A : Type 0} (f : A → ℕ) (xs : List A) (i : ℕ) (x : A) → slice_get xs i ≡ Some x → most f (take (i + 1) xs) ≡ max (most f (take i xs)) (f x)
most_next f xs i x at =
    most_more f xs i x (slice_get_within xs i x at) ∙ ap (λ y. max (most f (take i xs)) (f y)) (get_or_from_slice_get xs i x x at)
