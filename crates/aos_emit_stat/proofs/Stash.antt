-- Operands that are kept one after the other, and that are there again.
use Rattle.std.proofs.Common.{◌≡◌, ℕ, suc, ◌+◌, ◌<◌, List, [], ◌∷◌, ◌++◌, length, drop, get_or, sym, ap, ◌∙◌, arith, append_assoc}
use Rattle.std.proofs.lemmas.List.{drop_more}
use Rattle.aos_code.specs.declared.instr.Instr.{Instr}
use Rattle.aos_code.specs.declared.instr.Instr.TheVariants.{Keep, Kept}
use Rattle.aos_code.specs.declared.instr.Kind.{Kind}
use Rattle.aos_sim.specs.Code.{stash, unstash}

-- one more is kept before those that are left
pub kept_more : (ks : List Kind) (i : ℕ) (k : Kind) (c next : ℕ) (code : List Instr) → i < length ks → k ≡ get_or ks i k → next ≡ suc c → (code ++ Keep c k ∷ []) ++ stash (drop (i + 1) ks) next ≡ code ++ stash (drop i ks) c
kept_more ks i k c next code lt at is =
    append_assoc code (Keep c k ∷ []) (stash (drop (i + 1) ks) next)
    ∙ ap (λ n. code ++ Keep c k ∷ stash (drop (i + 1) ks) n) is
    ∙ ap (λ x. code ++ stash (x ∷ drop (i + 1) ks) c) at
    ∙ ap (λ l. code ++ stash l c) (sym (drop_more ks i k lt))

-- one more is there again above those that are
pub again_more : (ks : List Kind) (i left : ℕ) (k : Kind) (c n : ℕ) (start code : List Instr) → i < length ks → i + 1 ≡ left → k ≡ get_or ks i k → n ≡ c + i → code ≡ start ++ unstash (drop left ks) (c + left) → code ++ Kept n k ∷ [] ≡ start ++ unstash (drop i ks) (c + i)
again_more ks i left k c n start code lt next at is e =
    let up : c + left ≡ suc (c + i) = omega (arith, next) in
    (λ j. e j ++ Kept (is j) k ∷ [])
    ∙ append_assoc start (unstash (drop left ks) (c + left)) (Kept (c + i) k ∷ [])
    ∙ (λ j. start ++ (unstash (drop (sym next j) ks) (up j) ++ Kept (c + i) k ∷ []))
    ∙ ap (λ x. start ++ unstash (x ∷ drop (i + 1) ks) (c + i)) at
    ∙ ap (λ l. start ++ unstash l (c + i)) (sym (drop_more ks i k lt))
