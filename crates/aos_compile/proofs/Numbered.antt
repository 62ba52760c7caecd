-- What stands beside the types of a module, which are numbered on.
use Rattle.std.proofs.Common.{◌≡◌, ℕ, suc, ◌+◌, List, [], ◌∷◌, ◌++◌, length, append_assoc, length-append, refl, sym, ap, ◌∙◌, arith}
use Rattle.aos_typed.specs.Program.{ObjectType}
use Rattle.aos_symbols.specs.declared.env.Env.{Env}
use Rattle.aos_compile.specs.Modules.{Beside, object_of, objects_from}

pub numbered_count : (e : Env) (n : ℕ) (xs : List Beside) → length (objects_from e n xs) ≡ length xs
numbered_count e n [] = refl
numbered_count e n (x ∷ xs) = ap suc (numbered_count e (suc n) xs)

numbered_end : (e : Env) (n : ℕ) (xs : List Beside) (x : Beside) → objects_from e n (xs ++ x ∷ []) ≡ objects_from e n xs ++ object_of e (n + length xs) x ∷ []
numbered_end e n [] x = ap (λ k. object_of e k x ∷ []) (let same : n ≡ n + 0 = omega arith in same)
numbered_end e n (y ∷ ys) x =
    ap (λ os. object_of e n y ∷ os)
    (numbered_end e (suc n) ys x ∙ ap (λ k. objects_from e (suc n) ys ++ object_of e k x ∷ []) (let same : suc n + length ys ≡ n + suc (length ys) = omega arith in same))

-- one more, behind those before it
pub numbered_more : (e : Env) (was all : List ObjectType) (done : List Beside) (x : Beside) (n : ℕ) (new : ObjectType) →
    all ≡ was ++ objects_from e (length was) done → n ≡ length all → new ≡ object_of e n x →
    all ++ new ∷ [] ≡ was ++ objects_from e (length was) (done ++ x ∷ [])
numbered_more e was all done x n new is number told =
    let k = length was in
    let these = objects_from e k done in
    let at : n ≡ k + length done = number ∙ ap length is ∙ length-append was these ∙ ap (λ j. k + j) (numbered_count e k done) in
    ap (λ o. all ++ o ∷ []) (told ∙ ap (λ j. object_of e j x) at)
    ∙ ap (λ os. os ++ object_of e (k + length done) x ∷ []) is
    ∙ append_assoc was these (object_of e (k + length done) x ∷ [])
    ∙ ap (λ os. was ++ os) (sym (numbered_end e k done x))
