-- What is left where many operands are taken, some of them first.
use Rattle.std.proofs.Common.{◌≡◌, ℕ, zero, suc, ◌-◌, ◌<◌, ◌≤◌, List, [], ◌∷◌, ◌++◌, length, get_or, take, replicate, reverse, true, false, Some, None, option_and_then, if◌then◌else◌, refl, sym, ap, ◌∙◌, arith, append_assoc}
use Rattle.std.proofs.lemmas.List.{append-nil, reverse-append}
use Rattle.std.proofs.Math.Seq.{take-suc}
use Rattle.aos_code.specs.declared.instr.Kind.TheVariants.{N, R, C, A}
use Rattle.aos_code.specs.declared.image.ParamKind.{ParamKind}
use Rattle.aos_code.specs.declared.image.ParamKind.TheVariants as param
use Rattle.aos_code.specs.Silent.{kinds_of}
use Rattle.aos_sound.specs.Sound.{Kinds, same_kind, without, all_topped, row}

-- first some, then the others
without_both : (ks js s : Kinds) → without (ks ++ js) s ≡ option_and_then (λ t. without js t) (without ks s)
without_both [] js s = refl
without_both (k ∷ ks) js [] = refl
without_both (k ∷ ks) js (x ∷ s) =
    elim (same_kind k x) as (λ b. (if b then without (ks ++ js) s else None) ≡ option_and_then (λ t. without js t) (if b then without ks s else None)) [
      | true ↦ without_both ks js s
      | false ↦ refl
    ]

-- where the first are found the others are taken from what is left
pub first_found : (ks js s t : Kinds) → without ks s ≡ Some t → without (ks ++ js) s ≡ without js t
first_found ks js s t e = without_both ks js s ∙ ap (λ o. option_and_then (λ t. without js t) o) e

-- where they aren't nothing is left
pub first_missed : (ks js s : Kinds) → without ks s ≡ None → without (ks ++ js) s ≡ None
first_missed ks js s e = without_both ks js s ∙ ap (λ o. option_and_then (λ t. without js t) o) e

-- a row has a length on top
pub row_top : (n : ℕ) → 0 < n → row n ≡ (N ∷ []) ++ row (n - 1)
row_top zero pos = absurd (omega arith)
row_top (suc n) pos = let e : suc n - 1 ≡ n = omega arith in ap (λ k. N ∷ row k) (sym e)

-- what lies there where a row is found
row_found : (n : ℕ) (s t : Kinds) → without (row n) s ≡ Some t → s ≡ row n ++ t
row_found zero [] t e = absurd (cc e)
row_found zero (N ∷ s) t e = absurd (cc e)
row_found zero (R ∷ s) t e = absurd (cc e)
row_found zero (C ∷ s) t e = absurd (cc e)
row_found zero (A ∷ s) t e = cc
row_found (suc n) [] t e = absurd (cc e)
row_found (suc n) (N ∷ s) t e = ap (λ u. N ∷ u) (row_found n s t e)
row_found (suc n) (R ∷ s) t e = absurd (cc e)
row_found (suc n) (C ∷ s) t e = absurd (cc e)
row_found (suc n) (A ∷ s) t e = absurd (cc e)

-- a row that is taken and given again
pub row_kept : (n : ℕ) (s t : Kinds) → without (row n) s ≡ Some t → all_topped (row n) (without (row n) s) ≡ Some s
row_kept n s t e = ap (λ o. all_topped (row n) o) e ∙ ap (λ u. Some u) (sym (row_found n s t e))

-- with an index and a length less there is a row of one length less
pub index_found : (n : ℕ) → 0 < n → (s t u : Kinds) → without (N ∷ []) s ≡ Some t → without (N ∷ []) t ≡ Some u → without (N ∷ row n) s ≡ without (row (n - 1)) u
index_found n pos s t u e f = first_found (N ∷ []) (row n) s t e ∙ ap (λ ks. without ks t) (row_top n pos) ∙ first_found (N ∷ []) (row (n - 1)) t u f

-- one more length at the end is one more at the beginning
length_first : (n : ℕ) (ks : Kinds) → replicate n N ++ N ∷ ks ≡ N ∷ (replicate n N ++ ks)
length_first zero ks = refl
length_first (suc n) ks = ap (λ js. N ∷ js) (length_first n ks)

-- lengths are the same in either order
pub reverse_lengths : (n : ℕ) → reverse (replicate n N) ≡ replicate n N
reverse_lengths zero = refl
reverse_lengths (suc n) = reverse-append (N ∷ []) (replicate n N) ∙ ap (λ ks. ks ++ N ∷ []) (reverse_lengths n) ∙ length_first n [] ∙ ap (λ ks. N ∷ ks) (append-nil (replicate n N))

-- what an open array takes
pub open_row : (n : ℕ) → reverse (A ∷ (replicate n N ++ [])) ≡ row n
open_row n = reverse-append (A ∷ []) (replicate n N ++ []) ∙ ap (λ ks. reverse ks ++ A ∷ []) (append-nil (replicate n N)) ∙ ap (λ ks. ks ++ A ∷ []) (reverse_lengths n)

-- what parameters take, and what others behind them
kinds_both : (ps qs : List ParamKind) → kinds_of (ps ++ qs) ≡ kinds_of ps ++ kinds_of qs
kinds_both [] qs = refl
kinds_both (param.Scalar k ∷ ps) qs = ap (λ ks. k ∷ ks) (kinds_both ps qs)
kinds_both (param.Whole n ∷ ps) qs = ap (λ ks. A ∷ ks) (kinds_both ps qs)
kinds_both (param.Place ∷ ps) qs = ap (λ ks. A ∷ ks) (kinds_both ps qs)
kinds_both (param.Open d v n ∷ ps) qs = ap (λ ks. A ∷ ks) (ap (λ ks. replicate d N ++ ks) (kinds_both ps qs) ∙ sym (append_assoc (replicate d N) (kinds_of ps) (kinds_of qs)))

-- the last argument is the first to be taken
pub last_first : (ps : List ParamKind) (n : ℕ) → 0 < n → n ≤ length ps → reverse (kinds_of (take n ps)) ≡ reverse (kinds_of (get_or ps (n - 1) (param.Scalar N) ∷ [])) ++ reverse (kinds_of (take (n - 1) ps))
last_first ps n pos le =
    let p = get_or ps (n - 1) (param.Scalar N) in
    let z : n ≡ suc (n - 1) = omega (arith, pos) in
    ap (λ k. reverse (kinds_of (take k ps))) z ∙ ap (λ qs. reverse (kinds_of qs)) (take-suc ps (n - 1) (param.Scalar N) (omega (arith, pos, le))) ∙ ap reverse (kinds_both (take (n - 1) ps) (p ∷ [])) ∙ reverse-append (kinds_of (take (n - 1) ps)) (kinds_of (p ∷ []))
