-- The bits of a span are its elements.
use Rattle.std.proofs.Common.{◌≡◌, ℕ, suc, ◌≤◌, ◌==◌, ◌↔◌, ℤ, pos, negsuc, ◌≤ℤ◌, true, false, Some, None, IsTrue, arith, inl, inr, subst, sym, ap, rules}
use Rattle.std.specs.Prelude.{nat_lt, if◌then◌else◌}
use Rattle.std.proofs.lemmas.Bool.{cases_lt}
use Rattle.std.proofs.lemmas.Int.{ints}
use Rattle.std.proofs.lemmas.Nat.Bits.{bit_at_mask_inside, bit_at_mask_below, bit_at_mask_above}
use Rattle.aos_base.specs.Set.{element, has, span}
use Rattle.aos_base.proofs.set.set_span.Goals as goal

no_bit : {P : Type 0} (k : ℕ) → k ≡ 0 → (P → ⊥) → IsTrue (k == 1) ↔ P
no_bit k e f = (λ t. (let z : (0 == 1) ≡ true = subst (λ x. (x == 1) ≡ true) e t in absurd (cc z)), λ p. absurd (f p))

in_span : (a b n : ℕ) → IsTrue (has (span a b) n) ↔ ((a ≤ n) × (n ≤ b))
in_span a b n =
    elim (cases_lt n a) [
      | inl h ↦ no_bit _ (bit_at_mask_below a (suc b) n h) (λ p. omega (arith, p.0))
      | inr h ↦ elim (cases_lt b n) [
        | inl k ↦ no_bit _ (bit_at_mask_above a (suc b) n (omega arith)) (λ p. omega (arith, p.1))
        | inr k ↦ (λ t. (h, k), λ p. ap (λ x. x == 1) (bit_at_mask_inside a (suc b) n h (omega arith)))
      ]
    ]

element_is : (a : ℤ) (x : ℕ) → element a ≡ Some x → a ≡ pos x
element_is (pos n) x e =
    (elim (nat_lt n 32) as (λ q. (if q then Some n else None) ≡ Some x → pos n ≡ pos x) [
      | true ↦ λ f. cc f
      | false ↦ λ f. absurd (cc f)
    ]) e
element_is (negsuc n) x e = absurd (cc e)

spanned : (a b : ℤ) (s x y : ℕ) → a ≡ pos x → b ≡ pos y → s ≡ span x y → (n : ℕ) → IsTrue (has s n) ↔ ((a ≤ℤ pos n) × (pos n ≤ℤ b))
spanned a b s x y e f g n =
    let h = in_span x y n in
    subst (λ t. IsTrue (has t n) ↔ ((a ≤ℤ pos n) × (pos n ≤ℤ b))) (sym g)
    ((λ t. (omega (arith, ints, h.0 t), omega (arith, ints, h.0 t))), (λ p. h.1 (omega (arith, ints, p.0), omega (arith, ints, p.1))))

pub returns-clause-elements : goal.returns-clause-elements
returns-clause-elements c =
    spanned c.args.a c.args.b c.saturating_sub.result c.in_ok-first.first c.in_ok-last.last
    (element_is c.args.a c.in_ok-first.first (search rules)) (element_is c.args.b c.in_ok-last.last (search rules)) (search rules)
