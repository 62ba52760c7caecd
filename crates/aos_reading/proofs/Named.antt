-- Files in which all object types have names: one file more.
use Rattle.std.proofs.Common.{◌≡◌, ℕ, zero, suc, ◌<◌, List, [], ◌∷◌, ◌++◌, length, map, get_or, Vec, Global, refl, sym, ap, ◌∙◌, arith}
use Rattle.std.specs.List.{zip}
use Rattle.std.proofs.lemmas.List.{length-map, map-append}
use Rattle.aos_tree.specs.declared.module.Module.{Module as Tree}
use Rattle.aos_unnamed.specs.Unnamed.{all_named}
use Rattle.aos_reading.specs.Files.{named}
use Rattle.aos_reading.specs.Sources.{sources}

pub zip_nothing : {A B : Type 0} (xs : List A) → zip xs (let none : List B = [] in none) ≡ []
zip_nothing [] = refl
zip_nothing (x ∷ xs) = refl

zip_more : {A B : Type 0} (xs : List A) (ys : List B) (x : A) (y : B) → length xs ≡ length ys → zip (xs ++ x ∷ []) (ys ++ y ∷ []) ≡ zip xs ys ++ (x, y) ∷ []
zip_more [] [] x y same = refl
zip_more [] (b ∷ ys) x y same = absurd (omega (arith, same))
zip_more (a ∷ xs) [] x y same = absurd (omega (arith, same))
zip_more (a ∷ xs) (b ∷ ys) x y same = ap (λ l. (a, b) ∷ l) (zip_more xs ys x y (omega (arith, same)))

zip_next : {A B : Type 0} (xs : List A) (ys : List B) (x : A) (y : B) → length ys < length xs → x ≡ get_or xs (length ys) x → zip xs (ys ++ y ∷ []) ≡ zip xs ys ++ (x, y) ∷ []
zip_next [] ys x y below is = absurd (omega (arith, below))
zip_next (a ∷ xs) [] x y below is = λ i. (sym is i, y) ∷ zip_nothing xs i
zip_next (a ∷ xs) (b ∷ ys) x y below is = ap (λ l. (a, b) ∷ l) (zip_next xs ys x y (omega (arith, below)) is)

abbrev bytes : Vec ℕ Global → List ℕ
bytes t = t.items

bytes_at : (ts : List (Vec ℕ Global)) (k : ℕ) (t : Vec ℕ Global) (text : List ℕ) → k < length ts → t ≡ get_or ts k t → text ≡ t.items → text ≡ get_or (map bytes ts) k text
bytes_at [] k t text below is at = absurd (omega (arith, below))
bytes_at (x ∷ ts) zero t text below is at = at ∙ ap bytes is
bytes_at (x ∷ ts) (suc k) t text below is at = bytes_at ts k t text (omega (arith, below)) is at

pub named_more : (ts new_texts : List (Vec ℕ Global)) (xs new_trees : List Tree) (t u : Vec ℕ Global) (text : List ℕ) (m n : Tree) → length xs < length ts →
    t ≡ get_or ts (length xs) t → text ≡ t.items → length new_texts ≡ length new_trees → u.items ≡ (all_named text m).0 → n ≡ (all_named text m).1 →
    sources new_texts new_trees ≡ map named (sources ts xs) → sources (new_texts ++ u ∷ []) (new_trees ++ n ∷ []) ≡ map named (sources ts (xs ++ m ∷ []))
named_more ts new_texts xs new_trees t u text m n below is at same first second so_far =
    let many = length-map new_texts bytes in
    let long = length-map ts bytes in
    let one : named (text, m) ≡ (u.items, n) = λ i. (sym first i, sym second i) in
    ap (λ bs. zip bs (new_trees ++ n ∷ [])) (map-append bytes new_texts (u ∷ []))
    ∙ zip_more (map bytes new_texts) new_trees u.items n (omega (arith, many, same))
    ∙ ap (λ l. l ++ (u.items, n) ∷ []) so_far
    ∙ ap (λ s. map named (sources ts xs) ++ s ∷ []) (sym one)
    ∙ sym (map-append named (sources ts xs) ((text, m) ∷ []))
    ∙ ap (map named) (sym (zip_next (map bytes ts) xs text m (omega (arith, long, below)) (bytes_at ts (length xs) t text below is at)))
