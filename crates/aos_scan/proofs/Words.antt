-- The kind of a word, from the reserved words of its length.
use Rattle.std.proofs.Common.{◌≡◌, ◌≢◌, ℕ, ◌==◌, Bool, true, false, cond, List, [], ◌∷◌, length, Some, None, refl, sym, ap, ◌∙◌, unwrap_or}
use Rattle.std.specs.Prelude.{filter, ◌||◌}
use Rattle.std.specs.List.{list_all}
use Rattle.std.specs.Str.{bytes_eq}
use Rattle.std.proofs.lemmas.Slice.Eq.{bytes_eq-Decides}
use Rattle.std.proofs.lemmas.Bool.{eqb-false, cases_Bool, and_parts, true≢false, or_from, ne_eqb}
use Rattle.std.proofs.Common.{⊎_elim}
use Rattle.aos_scan.specs.declared.token.TokenKind.TheVariants as kind
use Rattle.aos_scan.specs.Spelling.{Row, kind_in, reserved_words, word_kind}
use Rattle.aos_scan.specs.Words.{kind_of_length}

-- a spelling of another length is another
pub bytes_eq-other_length : (v w : List ℕ) → (length v ≡ length w → ⊥) → bytes_eq v w ≡ false
bytes_eq-other_length v w other =
    ⊎_elim (λ same. absurd (other (ap length ((bytes_eq-Decides v w).0 same)))) (λ differs. differs) (cases_Bool (bytes_eq v w))

keeps_row : (row : Row) (rows kept : List Row) (n : ℕ) (w : List ℕ) (b : Bool) → length w ≡ n → (length row.spelling == n) ≡ b → kind_in rows w ≡ kind_in kept w → kind_in (row ∷ rows) w ≡ kind_in (cond b (row ∷ kept) kept) w
keeps_row row rows kept n w true long same rest = ap (λ k. cond (bytes_eq row.spelling w) (Some row.kind) k) rest
keeps_row row rows kept n w false long other rest =
    ap (λ t. cond t (Some row.kind) (kind_in rows w)) (bytes_eq-other_length row.spelling w (λ e. eqb-false _ _ other (e ∙ long))) ∙ rest

-- the words of other lengths don't matter
pub kind_in-filter : (rows : List Row) (n : ℕ) (w : List ℕ) → length w ≡ n → kind_in rows w ≡ kind_in (filter (λ row. length row.spelling == n) rows) w
kind_in-filter [] n w long = refl
kind_in-filter (row ∷ rows) n w long = keeps_row row rows _ n w _ long refl (kind_in-filter rows n w long)

pub word_kind_of_length : (n : ℕ) (w : List ℕ) → length w ≡ n → word_kind w ≡ kind_of_length n w
word_kind_of_length n w long = ap (λ k. unwrap_or k kind.Ident) (kind_in-filter reserved_words n w long)

-- the lengths of the reserved words
abbrev pub is_reserved_length : ℕ → Bool
is_reserved_length n = (n == 2 || n == 3) || ((n == 4 || n == 5) || ((n == 6 || n == 7) || n == 9))

pub kind_in-none : (rows : List Row) (w : List ℕ) → list_all (λ row. is_reserved_length (length row.spelling)) rows ≡ true → is_reserved_length (length w) ≡ false → kind_in rows w ≡ None
kind_in-none [] w all other = refl
kind_in-none (row ∷ rows) w all other =
    let parts = and_parts _ _ all in
    ap (λ t. cond t (Some row.kind) (kind_in rows w))
    (bytes_eq-other_length row.spelling w (λ e. true≢false (sym parts.0 ∙ ap is_reserved_length e ∙ other)))
    ∙ kind_in-none rows w parts.1 other

pub word_kind_of_other_length : (w : List ℕ) → is_reserved_length (length w) ≡ false → word_kind w ≡ kind.Ident
unfolding reserved_words
word_kind_of_other_length w other = ap (λ k. unwrap_or k kind.Ident) (kind_in-none reserved_words w refl other)

pub other_length : (n : ℕ) → n ≢ 2 → n ≢ 3 → n ≢ 4 → n ≢ 5 → n ≢ 6 → n ≢ 7 → n ≢ 9 → is_reserved_length n ≡ false
other_length n not2 not3 not4 not5 not6 not7 not9 =
    or_from _ _ (or_from _ _ (ne_eqb n 2 not2) (ne_eqb n 3 not3))
    (or_from _ _ (or_from _ _ (ne_eqb n 4 not4) (ne_eqb n 5 not5))
    (or_from _ _ (or_from _ _ (ne_eqb n 6 not6) (ne_eqb n 7 not7)) (ne_eqb n 9 not9)))
