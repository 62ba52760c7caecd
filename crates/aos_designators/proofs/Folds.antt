-- One more item of a fold, and none.
use Rattle.std.proofs.Common.{◌≡◌, ◌<◌, ◌≤◌, ℕ, ◌+◌, List, length, get_or, drop, drop-cons, add-one, ap, sym, ◌∙◌}
use Rattle.std.specs.List.{fold}
use Rattle.std.proofs.lemmas.List.{drop_all}

module _ {A B : Type 0} (f : B → A → B) (xs : List A) (i : ℕ) where
  pub fold_later : (a b all : B) (d : A) → i < length xs → b ≡ f a (get_or xs i d) → fold f a (drop i xs) ≡ all → fold f b (drop (i + 1) xs) ≡ all
  fold_later a b all d lt is before =
      ap (λ c. fold f c (drop (i + 1) xs)) is
      ∙ ap (λ j. fold f (f a (get_or xs i d)) (drop j xs)) (add-one i)
      ∙ sym (ap (λ ys. fold f a ys) (drop-cons xs i d lt))
      ∙ before

  pub fold_done : (a all : B) → length xs ≤ i → fold f a (drop i xs) ≡ all → a ≡ all
  fold_done a all over before = ap (λ ys. fold f a ys) (sym (drop_all i xs over)) ∙ before
