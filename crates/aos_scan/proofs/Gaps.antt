-- Gaps one after the other, and where a gap ends.
use Rattle.std.proofs.Common.{◌≡◌, ℕ, ◌<◌, ◌≤◌, true, List, length, get_or, sym, ◌∙◌, ap, subst, ⊎_elim, arith}
use Rattle.std.proofs.lemmas.List.{get_or_past}
use Rattle.std.proofs.lemmas.Bool.{true≢false, cases_lt}
use Rattle.aos_scan.specs.Bytes.{is_blank}
use Rattle.aos_scan.specs.Gap.{IsComment, Gap, nothing, blank, comment}
use Rattle.aos_scan.specs.Found.{EndsGap}
use Rattle.aos_scan.proofs.ByteLemmas.{read_within}
use Rattle.aos_scan.proofs.Comments.{Comment-bounds, Comment-unique}

-- no blank and no whole comment begins here
pub record Stops (text : List ℕ) (at : ℕ) : Type 0 where
  pub no_blank : is_blank (get_or text at 0) ≡ true → ⊥
  pub no_comment : (end : ℕ) → IsComment text at end → ⊥

-- a blank isn't 0
blank_within : (text : List ℕ) (at : ℕ) → is_blank (get_or text at 0) ≡ true → at < length text
blank_within text at is =
    ⊎_elim (λ in_range. in_range) (λ past. absurd (true≢false (sym is ∙ ap is_blank (get_or_past text at 0 past)))) (cases_lt at (length text))

module _ (text : List ℕ) where
  pub Gap-append : {at middle : ℕ} → (end : ℕ) → Gap text at middle → Gap text middle end → Gap text at end
  Gap-append end (nothing is) rest = subst (λ i. Gap text i end) is rest
  Gap-append end (blank b is more) rest = blank b is (Gap-append end more rest)
  Gap-append end (comment c more) rest = comment c (Gap-append end more rest)

  pub Gap-bounds : {at end : ℕ} → Gap text at end → at ≤ length text → (at ≤ end) × (end ≤ length text)
  Gap-bounds (nothing is) within = (omega arith, omega arith)
  Gap-bounds {at} (blank b is more) within = let here = blank_within text at b in let m = Gap-bounds more (omega arith) in (omega arith, m.1)
  Gap-bounds {at} (comment c more) within = let here = Comment-bounds text c.rest in let m = Gap-bounds more here.1 in (omega arith, m.1)

  -- a gap has one end at which it stops
  pub Gap-unique : {at end : ℕ} → (end' : ℕ) → Gap text at end → Gap text at end' → Stops text end → Stops text end' → end ≡ end'
  Gap-unique end' (nothing is) (nothing is') stops stops' = is ∙ sym is'
  Gap-unique end' (nothing is) (blank b _ _) stops stops' = absurd (stops.no_blank (subst (λ i. is_blank (get_or text i 0) ≡ true) (sym is) b))
  Gap-unique end' (nothing is) (comment {next = next} c _) stops stops' = absurd (stops.no_comment next (subst (λ i. IsComment text i next) (sym is) c))
  Gap-unique end' (blank b _ _) (nothing is) stops stops' = absurd (stops'.no_blank (subst (λ i. is_blank (get_or text i 0) ≡ true) (sym is) b))
  Gap-unique end' (blank b is more) (blank b' is' more') stops stops' =
      Gap-unique end' more (subst (λ i. Gap text i end') (is' ∙ sym is) more') stops stops'
  Gap-unique end' (blank b is more) (comment c _) stops stops' = absurd (true≢false (sym b ∙ ap is_blank c.opens.parenthesis))
  Gap-unique end' (comment {next = next} c _) (nothing is) stops stops' = absurd (stops'.no_comment next (subst (λ i. IsComment text i next) (sym is) c))
  Gap-unique end' (comment c _) (blank b _ _) stops stops' = absurd (true≢false (sym b ∙ ap is_blank c.opens.parenthesis))
  Gap-unique end' (comment {next = next} c more) (comment c' more') stops stops' =
      Gap-unique end' more (subst (λ i. Gap text i end') (Comment-unique text next c'.rest c.rest) more') stops stops'

  -- the text's end ends a gap
  pub EndsGap-end : (at : ℕ) → length text ≤ at → EndsGap text at
  EndsGap-end at past = record {
    no_blank = λ b. true≢false (sym b ∙ ap is_blank (get_or_past text at 0 past));
    no_comment = λ opens. omega (arith, read_within text at 40 opens.parenthesis (omega arith));
  }

  pub Stops-ends : (at : ℕ) → EndsGap text at → Stops text at
  Stops-ends at ends = record { no_blank = ends.no_blank; no_comment = λ end c. ends.no_comment c.opens }
