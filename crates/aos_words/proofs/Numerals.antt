-- A number of the words is a numeral that `parse` reads.
use Rattle.std.proofs.Common.{◌≡◌, ◌<◌, ◌^◌, ◌&&◌, ◌==◌, ℕ, Bool, true, false, List, [], ◌∷◌, Some, None, arith, ap, refl, sym, subst, cond, drop, length, nat_le, if◌then◌else◌}
use Rattle.std.specs.List.{list_all}
use Rattle.std.specs.Str.Parse.{AllDigits, IsNumeral, digits_value, without_leading_plus}
use Rattle.std.proofs.lemmas.Bool.{and_parts, leb-true, lt-leb}
use Rattle.std.proofs.lemmas.Bool.Decides.{nat_tests}
use Rattle.std.proofs.lemmas.Str.{digit_value_digit}
use Rattle.aos_words.specs.Number.{is_digit, is_number, number_in}

all_digits : (ds : List ℕ) → list_all is_digit ds ≡ true → AllDigits 10 ds
all_digits [] e = tt
all_digits (d ∷ ds) e =
    let h = and_parts (is_digit d) (list_all is_digit ds) e in
    let range = and_parts (nat_le 48 d) (nat_le d 57) h.0 in
    let low = leb-true 48 d range.0 in
    let high = leb-true d 57 range.1 in
    let value = digit_value_digit d (low, high) in
    (omega (arith, value, low, high), all_digits ds h.1)

plain : (word : List ℕ) → list_all is_digit word ≡ true → without_leading_plus word ≡ word
plain [] e = refl
plain (d ∷ ds) e =
    let h = and_parts (is_digit d) (list_all is_digit ds) e in
    let low = leb-true 48 d (and_parts (nat_le 48 d) (nat_le d 57) h.0).0 in
    let other : (d == 43) ≡ false = grind (arith, nat_tests, low) in
    ap (λ b. drop (cond b 1 0) (d ∷ ds)) other

-- its length and its digits
parts : (word : List ℕ) → is_number word ≡ true → ((nat_le 1 (length word) && nat_le (length word) 10) ≡ true) × (list_all is_digit word ≡ true)
parts word e = and_parts (nat_le 1 (length word) && nat_le (length word) 10) (list_all is_digit word) e

pub plain_number : (word : List ℕ) → is_number word ≡ true → without_leading_plus word ≡ word
plain_number word e = plain word (parts word e).1

numeral : (word : List ℕ) → is_number word ≡ true → IsNumeral 10 word
numeral word e = (
  leb-true 1 (length word) (and_parts (nat_le 1 (length word)) (nat_le (length word) 10) (parts word e).0).0,
  all_digits word (parts word e).1,
)

last_false : {X : Type 0} (a b c : Bool) (x : X) → c ≡ false → None ≡ (if a && (b && c) then Some x else None)
last_false false b c x e = refl
last_false true false c x e = refl
last_false true true c x e = sym (ap (λ b. if b then Some x else None) e)

-- what `parse` doesn't read is more than any number of 64 bits
pub no_number : (word : List ℕ) (least most : ℕ) → is_number word ≡ true
    → ¬ (IsNumeral 10 (without_leading_plus word) × (digits_value 10 (without_leading_plus word) < 2 ^ 64))
    → most < 2 ^ 64 → None ≡ number_in least most word
no_number word least most e unread fits =
    let not_less : ¬ (digits_value 10 word < 2 ^ 64) =
    λ less. unread (subst (λ w. IsNumeral 10 w × (digits_value 10 w < 2 ^ 64)) (sym (plain_number word e)) (numeral word e, less)) in
    let more : most < digits_value 10 word = omega (arith, not_less, fits) in
    last_false (is_number word) (nat_le least (digits_value 10 word)) _ (digits_value 10 word) (lt-leb (digits_value 10 word) most more)
