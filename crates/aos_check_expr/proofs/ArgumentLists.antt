-- Arguments one after another.
use Rattle.std.proofs.Common.{◌≡◌, ℕ, zero, suc, ◌+◌, ◌≤◌, ◌<◌, List, [], ◌∷◌, ◌++◌, length, map, drop, drop-cons, get_or, add-one, Option, Some, None, slice_get, is_some, refl, sym, ap, ◌∙◌}
use Rattle.std.proofs.lemmas.Option.{none-some, same_Some}
use Rattle.std.proofs.lemmas.List.{drop_all}
use Rattle.aos_tree.specs.declared.expr.Expr.{Expr, out-Expr}
use Rattle.aos_types.specs.declared.signature.Parameter.{Parameter}
use Rattle.aos_symbols.specs.declared.env.Env.{Env}
use Rattle.aos_symbols.specs.declared.breach.Breach.{Breach}
use Rattle.aos_symbols.specs.Breaches.{first_after}
use Rattle.aos_symbols.specs.Judged.{Judged, kept, bind}
use Rattle.aos_symbols.proofs.Keeping.{after_more, after_two}
use Rattle.aos_known.specs.Known.{Answer}
use Rattle.aos_arguments.specs.Arguments.{Handing, handed}
use Rattle.aos_check_expr.specs.Expressions.{desig_alone, handed_from}

drop_some : {X : Type 0} (xs : List X) (i : ℕ) (x : X) → slice_get xs i ≡ Some x → drop i xs ≡ x ∷ drop (suc i) xs
drop_some [] i x is = absurd (none-some x is)
drop_some (y ∷ ys) zero x is = ap (λ z. z ∷ ys) (same_Some y x is)
drop_some (y ∷ ys) (suc i) x is = drop_some ys i x is

-- behind a number that no item has there is none
drop_none : {X : Type 0} (xs : List X) (i : ℕ) → slice_get xs i ≡ None → drop i xs ≡ []
drop_none [] zero out = refl
drop_none [] (suc i) out = refl
drop_none (x ∷ xs) zero out = absurd (none-some x (sym out))
drop_none (x ∷ xs) (suc i) out = drop_none xs i out

module _ (e : Env) (f : Expr → Judged Answer) where
  -- behind the first i arguments
  abbrev pub from : ℕ → Handing → List Parameter → List Expr → Judged Handing
  from i h ps xs = handed_from e h (drop i ps) (map f (drop i xs)) (drop i xs)

  abbrev step : ℕ → Handing → List Parameter → List Expr → Parameter → Expr → Judged Handing
  step i h ps xs p x = bind (bind (f x) (λ a. handed e h p (is_some (desig_alone x)) (out-Expr x).pos a)) (λ h. from (i + 1) h ps xs)

  -- one more argument
  pub one_more : (i : ℕ) (h : Handing) (ps : List Parameter) (xs : List Expr) (p : Parameter) (d : Expr) → i < length xs → slice_get ps i ≡ Some p →
      from i h ps xs ≡ bind (bind (f (get_or xs i d)) (λ a. handed e h p (is_some (desig_alone (get_or xs i d))) (out-Expr (get_or xs i d)).pos a)) (λ h. from (i + 1) h ps xs)
  one_more i h ps xs p d lt is =
      ap (λ ys. handed_from e h (drop i ps) (map f ys) ys) (drop-cons xs i d lt)
      ∙ ap (λ qs. handed_from e h qs (f x ∷ map f (drop (suc i) xs)) (x ∷ drop (suc i) xs)) (drop_some ps i p is)
      ∙ ap (λ k. bind (bind (f x) (λ a. handed e h p (is_some (desig_alone x)) (out-Expr x).pos a)) (λ h. from k h ps xs)) (sym (add-one i))
    where
      x : Expr
      x = get_or xs i d

  module _ (i : ℕ) (h : Handing) (ps : List Parameter) (xs : List Expr) (p : Parameter) (x : Expr) (a : Answer) (new : Handing) where
    abbrev this : Judged Handing
    this = handed e h p (is_some (desig_alone x)) (out-Expr x).pos a

    is_step : (j : ℕ) → i < length xs → x ≡ get_or xs i x → j ≡ i → slice_get ps j ≡ Some p → from i h ps xs ≡ step i h ps xs p x
    is_step j lt at same is =
        one_more i h ps xs p x lt (ap (λ k. slice_get ps k) (sym same) ∙ is)
        ∙ ap (λ y. step i h ps xs p y) (sym at)

    of_answer : a ≡ (f x).answer → new ≡ this.answer → (step i h ps xs p x).answer ≡ (from (i + 1) new ps xs).answer
    of_answer value made =
        ap (λ b. (from (i + 1) (handed e h p (is_some (desig_alone x)) (out-Expr x).pos b).answer ps xs).answer) (sym value)
        ∙ ap (λ g. (from (i + 1) g ps xs).answer) (sym made)

    pub handed_answer : (j : ℕ) → i < length xs → x ≡ get_or xs i x → j ≡ i → slice_get ps j ≡ Some p → a ≡ (f x).answer → new ≡ this.answer →
        (from (i + 1) new ps xs).answer ≡ (from i h ps xs).answer
    handed_answer j lt at same is value made = sym (ap (λ (z : Judged Handing). z.answer) (is_step j lt at same is) ∙ of_answer value made)

    pub handed_noted : (j : ℕ) (met one two : Option Breach) → i < length xs → x ≡ get_or xs i x → j ≡ i → slice_get ps j ≡ Some p → a ≡ (f x).answer → new ≡ this.answer →
        one ≡ first_after met (f x).breaches → two ≡ first_after one this.breaches →
        first_after two (from (i + 1) new ps xs).breaches ≡ first_after met (from i h ps xs).breaches
    handed_noted j met one two lt at same is value made first second =
        let by = λ (b : Answer). handed e h p (is_some (desig_alone x)) (out-Expr x).pos b in
        ap (λ z. first_after z (from (i + 1) new ps xs).breaches) (after_two met (f x).breaches this.breaches first second)
        ∙ sym (after_more met ((f x).breaches ++ this.breaches) (from (i + 1) new ps xs).breaches)
        ∙ ap (λ g. first_after met (((f x).breaches ++ this.breaches) ++ (from (i + 1) g ps xs).breaches)) made
        ∙ ap (λ b. first_after met (((f x).breaches ++ (by b).breaches) ++ (from (i + 1) (by b).answer ps xs).breaches)) value
        ∙ ap (λ (z : Judged Handing). first_after met z.breaches) (sym (is_step j lt at same is))

  -- behind all of them
  pub at_end : (i : ℕ) (h : Handing) (ps : List Parameter) (xs : List Expr) → length xs ≤ i → from i h ps xs ≡ kept h
  at_end i h ps xs all = ap (λ ys. handed_from e h (drop i ps) (map f ys) ys) (drop_all i xs all) ∙ none (drop i ps)
    where
      none : (ps : List Parameter) → handed_from e h ps [] [] ≡ kept h
      none [] = refl
      none (p ∷ ps) = refl

  -- and where there are no parameters any more
  pub no_more : (i : ℕ) (h : Handing) (ps : List Parameter) (xs : List Expr) → slice_get ps i ≡ None → from i h ps xs ≡ kept h
  no_more i h ps xs out = ap (λ qs. handed_from e h qs (map f (drop i xs)) (drop i xs)) (drop_none ps i out)
