-- The entries of a program, one behind the other.
use Rattle.std.proofs.Common.{◌≡◌, ◌<◌, ℕ, suc, ◌+◌, List, [], ◌∷◌, ◌++◌, length, get_or, take, map, ap, sym, ◌∙◌, append_assoc, append-nil, arith}
use Rattle.aos_dispatch.proofs.Lists.{next_of, count_of}
use Rattle.aos_listing.specs.Listing.{Entry, numbered}
use Rattle.aos_listing.proofs.Parts.{added}

numbered_last : {A : Type 0} (f : ℕ → A → List Entry) (a : ℕ) (xs : List A) (x : A) → numbered f a (xs ++ x ∷ []) ≡ numbered f a xs ++ f (a + length xs) x
numbered_last f a [] x = let e : a ≡ a + 0 = omega arith in append-nil (f a x) ∙ ap (λ j. f j x) e
numbered_last f a (y ∷ ys) x =
    let e : suc a + length ys ≡ a + suc (length ys) = omega arith in
    ap (λ l. f a y ++ l) (numbered_last f (suc a) ys x ∙ ap (λ j. numbered f (suc a) ys ++ f j x) e)
    ∙ sym (append_assoc (f a y) (numbered f (suc a) ys) (f (a + suc (length ys)) x))

-- those of one more, which has its number
pub numbered_more : {A B : Type 0} (see : A → B) (f : ℕ → B → List Entry) (before so_far now : List Entry) (xs : List A) (k n : ℕ) (x : A) → k < length xs → x ≡ get_or xs k x → n ≡ k →
    so_far ≡ before ++ numbered f 0 (map see (take k xs)) → now ≡ so_far ++ f n (see x) → now ≡ before ++ numbered f 0 (map see (take (k + 1) xs))
numbered_more see f before so_far now xs k n x lt at is e g =
    let ys = map see (take k xs) in
    let there : 0 + length ys ≡ n = omega (arith, count_of see xs k lt, is) in
    added before so_far now (numbered f 0 ys) (f n (see x)) (numbered f 0 (map see (take (k + 1) xs))) e g
    (ap (numbered f 0) (next_of see xs k x lt at) ∙ numbered_last f 0 ys (see x) ∙ ap (λ j. numbered f 0 ys ++ f j (see x)) there)
