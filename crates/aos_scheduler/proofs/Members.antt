-- Numbers in lists that stand in them once.
use Rattle.std.proofs.Common.{◌≡◌, ◌≢◌, ℕ, suc, List, [], ◌∷◌, ◌++◌, length, refl, sym, ap, subst, inl, inr}
use Rattle.std.specs.List.{Contains}
use Rattle.std.specs.Prelude.{Bool, true, false, ◌==◌, not, if◌then◌else◌, Some, slice_get}
use Rattle.std.proofs.lemmas.Bool.Decides.{eqb_tells}
use Rattle.aos_queue.specs.Lists.{IsOnce, without}
use Rattle.aos_queue.proofs.Members.{here, there, among, none, without-none}

-- by whether two numbers are one
pub by_case : (P : Bool → Type 0) (x k : ℕ) → (x ≡ k → P true) → (x ≢ k → P false) → P (x == k)
by_case P x k same other = elim (eqb_tells x k) [ inl h ↦ subst P (sym h.0) (same h.1) | inr h ↦ subst P (sym h.0) (other h.1) ]

pub each_at : (G : ℕ → Type 0) (a : ℕ) → G a → ((x : ℕ) → x ≢ a → G x) → (x : ℕ) → G x
each_at G a here other x = elim (eqb_tells x a) [ inl h ↦ subst G (sym h.1) here | inr h ↦ other x h.1 ]

pub without_within : (a : ℕ) (ns : List ℕ) (x : ℕ) → Contains (without a ns) x → Contains ns x
without_within a [] x i = i
without_within a (n ∷ ns) x i =
    (by_case (λ q. Contains (if not q then n ∷ without a ns else without a ns) x → Contains (n ∷ ns) x) n a
    (λ e j. there n x ns (without_within a ns x j))
    (λ ne j. elim (among n x (without a ns) j) [
      | inl e ↦ subst (λ k. Contains (n ∷ ns) k) e (here n ns)
      | inr k ↦ there n x ns (without_within a ns x k)
    ])) i

pub once_without : (a : ℕ) (ns : List ℕ) → IsOnce ns → IsOnce (without a ns)
once_without a [] h = tt
once_without a (n ∷ ns) h =
    by_case (λ q. IsOnce (if not q then n ∷ without a ns else without a ns)) n a (λ e. once_without a ns h.1)
    (λ ne. (λ i. h.0 (without_within a ns n i), once_without a ns h.1))

-- a list is shorter by the number that it is without
pub shorter : (a : ℕ) (ns : List ℕ) → IsOnce ns → Contains ns a → suc (length (without a ns)) ≡ length ns
shorter a [] h i = absurd (none a i)
shorter a (n ∷ ns) h i =
    by_case (λ q. suc (length (if not q then n ∷ without a ns else without a ns)) ≡ suc (length ns)) n a
    (λ e. ap (λ ms. suc (length ms)) (without-none a ns (λ j. h.0 (subst (λ k. Contains ns k) (sym e) j))))
    (λ ne. ap suc (shorter a ns h.1 (elim (among n a ns i) [ inl e ↦ absurd (ne e) | inr j ↦ j ])))

pub longer : (a : ℕ) (ns : List ℕ) → length (ns ++ a ∷ []) ≡ suc (length ns)
longer a [] = refl
longer a (n ∷ ns) = ap suc (longer a ns)

-- nobody is within an empty list, and the first is within
pub first_within : (ns : List ℕ) (a : ℕ) → slice_get ns 0 ≡ Some a → Contains ns a
first_within [] a e = absurd (cc e)
first_within (n ∷ ns) a e = let z : n ≡ a = cc e in subst (λ k. Contains (n ∷ ns) k) z (here n ns)
