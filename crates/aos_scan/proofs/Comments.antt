-- Comments by their nesting.
use Rattle.std.proofs.Common.{◌≡◌, ℕ, zero, suc, ◌+◌, ◌-◌, ◌<◌, ◌≤◌, List, length, refl, sym, ◌∙◌, subst, arith, add-one}
use Rattle.aos_scan.specs.Gap.{OpensComment, ClosesComment, Comment, closed, nested, other}
use Rattle.aos_scan.proofs.ByteLemmas.{read_within}

-- so many comments, each in the one before, are closed up to the end
abbrev pub Levels : List ℕ → ℕ → ℕ → ℕ → Type 0
Levels text zero at end = at ≡ end
Levels text (suc depth) at end = (middle : ℕ) × Comment text at middle × Levels text depth middle end

module _ (text : List ℕ) where
  at_open : (at end : ℕ) → OpensComment text at → Comment text at end → (middle : ℕ) × Comment text (at + 2) middle × Comment text middle end
  at_open at end opens (closed closes is) = absurd (omega (arith, opens.parenthesis, closes.star))
  at_open at end opens (nested {middle = middle} _ is first rest) = (middle, subst (λ i. Comment text i middle) is first, rest)
  at_open at end opens (other _ not_open _ _ _) = absurd (not_open opens)

  at_close : (at end : ℕ) → ClosesComment text at → Comment text at end → end ≡ at + 2
  at_close at end closes (closed _ is) = is
  at_close at end closes (nested opens _ _ _) = absurd (omega (arith, opens.parenthesis, closes.star))
  at_close at end closes (other _ _ not_close _ _) = absurd (not_close closes)

  at_other : (at end : ℕ) → (OpensComment text at → ⊥) → (ClosesComment text at → ⊥) → Comment text at end → Comment text (at + 1) end
  at_other at end not_open not_close (closed closes _) = absurd (not_close closes)
  at_other at end not_open not_close (nested opens _ _ _) = absurd (not_open opens)
  at_other at end not_open not_close (other _ _ _ is rest) = subst (λ i. Comment text i end) is rest

  past_end : (at end : ℕ) → length text ≤ at → Comment text at end → ⊥
  past_end at end past (closed closes _) = omega (arith, read_within text at 42 closes.star (omega arith))
  past_end at end past (nested opens _ _ _) = omega (arith, read_within text at 40 opens.parenthesis (omega arith))
  past_end at end past (other within _ _ _ _) = omega arith

  pub levels_open : (depth at end : ℕ) → 0 < depth → OpensComment text at → (Levels text depth at end → Levels text (depth + 1) (at + 2) end) × (Levels text (depth + 1) (at + 2) end → Levels text depth at end)
  levels_open zero at end positive opens = absurd (omega arith)
  levels_open (suc depth) at end positive opens =
      let e = sym (add-one (suc depth)) in
      let F : ℕ → Type 0 = λ d. Levels text d (at + 2) end in (
        (λ levels. let parts = at_open at levels.0 opens levels.1 in subst F e (parts.0, parts.1, (levels.0, parts.2, levels.2))),
        (λ levels. let two = subst F (add-one (suc depth)) levels in (two.2.0, nested opens refl two.1 two.2.1, two.2.2)),
      )

  pub levels_close : (depth at end : ℕ) → 0 < depth → ClosesComment text at → (Levels text depth at end → Levels text (depth - 1) (at + 2) end) × (Levels text (depth - 1) (at + 2) end → Levels text depth at end)
  levels_close zero at end positive closes = absurd (omega arith)
  levels_close (suc depth) at end positive closes =
      let e : depth ≡ suc depth - 1 = omega arith in
      let F : ℕ → Type 0 = λ d. Levels text d (at + 2) end in (
        (λ levels. subst F e (subst (λ i. Levels text depth i end) (at_close at levels.0 closes levels.1) levels.2)),
        (λ levels. (at + 2, closed closes refl, subst F (sym e) levels)),
      )

  pub levels_other : (depth at end : ℕ) → 0 < depth → at < length text → (OpensComment text at → ⊥) → (ClosesComment text at → ⊥) → (Levels text depth at end → Levels text depth (at + 1) end) × (Levels text depth (at + 1) end → Levels text depth at end)
  levels_other zero at end positive within not_open not_close = absurd (omega arith)
  levels_other (suc depth) at end positive within not_open not_close = (
    (λ levels. (levels.0, at_other at levels.0 not_open not_close levels.1, levels.2)),
    (λ levels. (levels.0, other within not_open not_close refl levels.1, levels.2)),
  )

  pub levels_past : (depth at end : ℕ) → 0 < depth → length text ≤ at → Levels text depth at end → ⊥
  levels_past zero at end positive past levels = omega arith
  levels_past (suc depth) at end positive past levels = past_end at levels.0 past levels.1

  pub Comment-bounds : {at end : ℕ} → Comment text at end → (at < end) × (end ≤ length text)
  Comment-bounds {at} (closed closes is) = (omega arith, omega (arith, read_within text (at + 1) 41 closes.parenthesis (omega arith)))
  Comment-bounds (nested opens is first rest) = let a = Comment-bounds first in let b = Comment-bounds rest in (omega arith, b.1)
  Comment-bounds (other within not_open not_close is rest) = let b = Comment-bounds rest in (omega arith, b.1)

  -- a comment has one end
  pub Comment-unique : {at end : ℕ} → (end' : ℕ) → Comment text at end → Comment text at end' → end ≡ end'
  Comment-unique {at} end' (closed closes is) c = is ∙ sym (at_close at end' closes c)
  Comment-unique {at} end' (nested opens is first rest) c =
      let parts = at_open at end' opens c in
      let same = Comment-unique parts.0 first (subst (λ i. Comment text i parts.0) (sym is) parts.1) in
      Comment-unique end' rest (subst (λ i. Comment text i end') (sym same) parts.2)
  Comment-unique {at} end' (other within not_open not_close is rest) c =
      Comment-unique end' rest (subst (λ i. Comment text i end') (sym is) (at_other at end' not_open not_close c))
