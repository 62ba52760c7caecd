-- The numbers of procedures are found by those of their modules, and those of the first methods by their types.
use Rattle.std.proofs.Common.{◌≡◌, ◌++◌, drop, append_assoc, ℕ, zero, suc, ◌+◌, ◌<◌, ◌≤◌, arith, List, [], ◌∷◌, length, get_or, map, take, Some, sym, ap, ◌∙◌}
use Rattle.std.specs.Prelude.{slice_get, option_map, sum_by}
use Rattle.std.proofs.lemmas.List.{length-map, drop_more, drop_all}
use Rattle.std.proofs.lemmas.List.Sums.{sum_by-cons}
use Rattle.aos_typed.specs.declared.tree.TModule.{TModule}
use Rattle.aos_typed.specs.declared.tree.TObject.{TObject}
use Rattle.aos_typed.specs.Numbers.{procedure_number}
use Rattle.aos_typed.specs.Program.{Module, Program}
use Rattle.aos_typed.specs.Seen.{seen_module, seen_object}
use Rattle.aos_dispatch.specs.Dispatch.{AreFirsts, firsts_by, firsts_from}

-- a procedure's number
pub number_is : (p : Program) (ns : List ℕ) (m k n : ℕ) → AreFirsts p ns → option_map (λ f. f + k) (slice_get ns m) ≡ Some n → n ≡ procedure_number p m k
number_is p ns m k n are e =
    let first = suc (length p.modules + length p.objects) in
    let h = from first p.modules m (ap (λ l. option_map (λ f. f + k) (slice_get l m)) (sym are) ∙ e) in
    omega (arith, h)
  where
    from : (a : ℕ) (xs : List Module) (m : ℕ) → option_map (λ f. f + k) (slice_get (firsts_from a xs) m) ≡ Some n → n ≡ a + sum_by (λ x. length x.procedures) (take m xs) + k
    from a [] zero e = let h : a + k ≡ n = cc in omega (arith, h)
    from a [] (suc m) e = absurd (cc)
    from a (x ∷ xs) zero e = let h : a + k ≡ n = cc in omega (arith, h)
    from a (x ∷ xs) (suc m) e = omega (arith, from (a + length x.procedures) xs m e, sum_by-cons (λ x. length x.procedures) x (take m xs))

-- the numbers of the first ones of what each has, one more of them,
pub firsts_more : {A B : Type 0} (see : A → B) (count : B → ℕ) (xs : List A) (k : ℕ) (x : A) (next behind : ℕ) (firsts : List ℕ) → k < length xs → x ≡ get_or xs k x → behind ≡ next + count (see x) → (firsts ++ next ∷ []) ++ firsts_by count behind (map see (drop (k + 1) xs)) ≡ firsts ++ firsts_by count next (map see (drop k xs))
firsts_more see count xs k x next behind firsts lt at is =
    let rest = map see (drop (k + 1) xs) in
    append_assoc firsts (next ∷ []) (firsts_by count behind rest)
    ∙ ap (λ n. firsts ++ next ∷ firsts_by count n rest) is
    ∙ ap (λ y. firsts ++ firsts_by count next (see y ∷ rest)) at
    ∙ ap (λ l. firsts ++ firsts_by count next (map see l)) (sym (drop_more xs k x lt))

-- all of them,
pub firsts_end : {A B : Type 0} (see : A → B) (count : B → ℕ) (xs : List A) (k next : ℕ) (firsts : List ℕ) → length xs ≤ k → firsts ++ next ∷ [] ≡ firsts ++ firsts_by count next (map see (drop k xs))
firsts_end see count xs k next firsts le = ap (λ l. firsts ++ firsts_by count next (map see l)) (sym (drop_all k xs le))

-- and those of all modules of a program
pub firsts_are : (ms xs : List TModule) (os : List TObject) (first : ℕ) (ns : List ℕ) → xs ≡ ms → first ≡ suc (length ms + length os) → ns ≡ firsts_from first (map seen_module xs) → ns ≡ firsts_from (suc (length (map seen_module ms) + length (map seen_object os))) (map seen_module ms)
firsts_are ms xs os first ns same is e =
    let n : first ≡ suc (length (map seen_module ms) + length (map seen_object os)) = omega (arith, is, length-map ms seen_module, length-map os seen_object) in
    e ∙ (λ i. firsts_from (n i) (map seen_module (same i)))
