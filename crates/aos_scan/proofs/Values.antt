-- The value of digits grows with each digit.
use Rattle.std.proofs.Common.{◌≡◌, ℕ, ◌+◌, ◌*◌, ◌<◌, ◌≤◌, List, [], ◌∷◌, length, get_or, take, drop, sym, ap, ◌∙◌, subst, arith, take-append-drop}
use Rattle.std.specs.Prelude.{fold}
use Rattle.std.specs.Char.{digit_value}
use Rattle.std.proofs.lemmas.Grind.{fold-append}
use Rattle.std.proofs.lemmas.List.Sums.{fold_more}
use Rattle.aos_scan.specs.Spelling.{value_of}

-- one more digit
with_digit : ℕ → ℕ → ℕ → ℕ
with_digit base value digit = value * base + digit_value digit

digit-grows : (base value digit : ℕ) → 0 < base → value ≤ value * base + digit
digit-grows base value digit positive = grind arith

fold-grows : (base value : ℕ) (digits : List ℕ) → 0 < base → value ≤ fold (λ v d. v * base + digit_value d) value digits
fold-grows base value [] positive = omega arith
fold-grows base value (d ∷ digits) positive =
    omega (arith, digit-grows base value (digit_value d) positive, fold-grows base (value * base + digit_value d) digits positive)

pub value_of-take : (base : ℕ) (digits : List ℕ) (i : ℕ) → 0 < base → value_of base (take i digits) ≤ value_of base digits
value_of-take base digits i positive =
    let step = λ (v d : ℕ). v * base + digit_value d in
    let whole = ap (fold step 0) (sym (take-append-drop i digits)) ∙ fold-append step 0 (take i digits) (drop i digits) in
    subst (λ n. value_of base (take i digits) ≤ n) (sym whole) (fold-grows base (value_of base (take i digits)) (drop i digits) positive)

pub value_of-more : (base : ℕ) (digits : List ℕ) (i : ℕ) → i < length digits → value_of base (take (i + 1) digits) ≡ value_of base (take i digits) * base + digit_value (get_or digits i 0)
value_of-more base digits i within = fold_more (λ (v d : ℕ). v * base + digit_value d) 0 digits i 0 within
