-- The first part of a text that a byte parts, and the rest.
use Rattle.std.proofs.Common.{◌≡◌, ℕ, ◌+◌, ◌-◌, ◌<◌, ◌≤◌, ◌==◌, true, false, cond, List, [], ◌∷◌, length, take, drop, Some, None, refl, sym, ap, ◌∙◌, subst, ⊎_elim, arith, length-drop}
use Rattle.std.specs.Prelude.{position}
use Rattle.std.specs.List.{slice_split, position_or_len}
use Rattle.std.proofs.lemmas.Bool.{cases_lt, lt-ltb}
use Rattle.std.proofs.lemmas.List.{take_all}
use Rattle.std.proofs.lemmas.List.Splits.{slice_split_first, slice_split_none, length-slice_split}
use Rattle.std.proofs.lemmas.List.Sums.{fails_before_first, position_or_len_is}
use Rattle.std.proofs.lemmas.List.Elements.{All-from_get_or}
use Rattle.std.proofs.lemmas.List.Quantifiers.{position-Some}
use Rattle.std.specs.Io.BufRead.{strip_last}
use Rattle.std.proofs.Math.Dec.{eqb-suc-zero}
use Rattle.aos_script.specs.Words.{parts, lines}

pub cut_some : (byte : ℕ) (text : List ℕ) (i : ℕ) → position (λ b. b == byte) text ≡ Some i → parts byte text ≡ take i text ∷ parts byte (take (length text - (i + 1)) (drop (i + 1) text))
unfolding parts
cut_some byte text i is =
    let p = λ (b : ℕ). b == byte in
    let facts = position-Some p text i 0 is in
    let in_range : i < length text = facts.0 in
    let first = position_or_len_is p text i 0 (omega arith) facts.2 (λ _. facts.1) in
    let some : position_or_len p text < length text = subst (λ n. n < length text) (sym first) in_range in
    let rest = take_all (length text - (i + 1)) (drop (i + 1) text) (omega (arith, length-drop (i + 1) text)) in
    subst (λ l. slice_split p text ≡ take i text ∷ slice_split p l) (sym rest)
    (subst (λ n. slice_split p text ≡ take n text ∷ slice_split p (drop (n + 1) text)) first (slice_split_first p text 0 some))

pub cut_none : (byte : ℕ) (text : List ℕ) → position (λ b. b == byte) text ≡ None → parts byte text ≡ text ∷ []
unfolding parts
cut_none byte text is =
    let p = λ (b : ℕ). b == byte in
    let n = position_or_len p text in
    ⊎_elim
    (λ (less : n < length text). let some : Some n ≡ None = ap (λ b. cond b (Some n) None) (sym (lt-ltb n (length text) less)) ∙ is in absurd cc)
    (λ (past : length text ≤ n). slice_split_none p text (All-from_get_or (λ b. p b ≡ false) text 0 (λ k in_range. fails_before_first p text k 0 (omega arith))))
    (cases_lt n (length text))

-- a text has at least one part
pub parts-nonempty : (byte : ℕ) (text : List ℕ) → parts byte text ≡ [] → ⊥
unfolding parts
parts-nonempty byte text none = omega (arith, ap length none, length-slice_split (λ b. b == byte) text)

pub not_two : (byte : ℕ) {ls : List (List ℕ)} {first second a b : List ℕ} (left : List ℕ) → ls ≡ first ∷ second ∷ parts byte left → ls ≡ a ∷ b ∷ [] → ⊥
not_two byte left whole two = let none : parts byte left ≡ [] = cc in parts-nonempty byte left none

-- an empty text has no line, and any other is cut at its line ends
pub lines_none : (text : List ℕ) → true ≡ (length text == 0) → [] ≡ lines text
lines_none [] e = refl
lines_none (b ∷ text) e = let no = eqb-suc-zero (length text) in absurd cc

pub lines_some : (text : List ℕ) → (length text ≡ 0 → ⊥) → parts 10 (strip_last 10 text) ≡ lines text
lines_some [] some = absurd (some refl)
lines_some (b ∷ text) some = refl
