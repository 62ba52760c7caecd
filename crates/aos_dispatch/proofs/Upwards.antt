-- How many types stand in the chain of a type: one more than in its base's, where that one comes to an end.
use Rattle.std.proofs.Common.{◌≡◌, ◌<◌, ◌≤◌, ℕ, zero, suc, ◌+◌, List, ◌∷◌, length, Option, Some, None, refl, ap, ◌∙◌, arith}
use Rattle.std.specs.Prelude.{slice_get}
use Rattle.aos_typed.specs.declared.tree.Program.{Program as TProgram}
use Rattle.aos_typed.specs.Methods.{base_type, on_base}
use Rattle.aos_typed.specs.Program.{Program}
use Rattle.aos_typed.specs.Seen.{seen_program}
use Rattle.aos_dispatch.specs.Tables.{AreHeights, chain_by}
use Rattle.aos_dispatch.proofs.Lists.{at_number}

module _ (p : Program) where
  -- A chain that comes to an end within so many types is the same within one more.
  same_chain : (n t : ℕ) → length (chain_by p (suc n) t) ≤ n → chain_by p n t ≡ chain_by p (suc n) t
  same_chain zero t short = absurd (omega (arith, short))
  same_chain (suc n) t short = ap (λ l. t ∷ l) (by (base_type p t) (same_chain n) short)
    where
      by : (o : Option ℕ) → ((b : ℕ) → length (chain_by p (suc n) b) ≤ n → chain_by p n b ≡ chain_by p (suc n) b) →
          length (t ∷ on_base (chain_by p (suc n)) o) ≤ suc n →
          on_base (chain_by p n) o ≡ on_base (chain_by p (suc n)) o
      by None same short = refl
      by (Some b) same short = same b (omega (arith, short))

  higher : (n t b : ℕ) → base_type p t ≡ Some b → length (chain_by p n b) < n → length (chain_by p n t) ≡ suc (length (chain_by p n b))
  higher zero t b is short = absurd (omega (arith, short))
  higher (suc n) t b is short =
      ap (λ o. length (t ∷ on_base (chain_by p n) o)) is ∙ ap (λ l. suc (length l)) (same_chain n b (omega (arith, short)))

pub one_higher : (q : TProgram) (heights : List ℕ) (t b height : ℕ) → AreHeights (seen_program q) (length q.objects.items) t heights →
    base_type (seen_program q) t ≡ Some b → slice_get heights b ≡ Some height → height < length q.objects.items →
    height + 1 ≡ length (chain_by (seen_program q) (length q.objects.items) t)
one_higher q heights t b height are is at short =
    let p = seen_program q in
    let n = length q.objects.items in
    let told : height ≡ length (chain_by p n b) = at_number (λ j. length (chain_by p n j)) t b heights height are at in
    let less : length (chain_by p n b) < n = omega (arith, told, short) in
    let more : length (chain_by p n t) ≡ suc (length (chain_by p n b)) = higher p n t b is less in
    omega (arith, told, more)
