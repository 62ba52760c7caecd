-- The rows of definitions, of which the first is put into its place once the others are there.
use Rattle.std.proofs.Common.{◌≡◌, ◌<◌, ℕ, suc, Bool, false, List, [], ◌∷◌, ◌++◌, length, get_or, drop, take, take_all, ◌-◌, refl, ap, ◌∙◌, sym, subst, arith, append-nil, length-append}
use Rattle.std.specs.Prelude.{◌==◌, slice_set}
use Rattle.std.proofs.lemmas.Bool.{true≢false}
use Rattle.aos_types.specs.declared.row.TypeRow.{TypeRow}
use Rattle.aos_check_types.specs.declared.aliases.Target.{Target}
use Rattle.aos_check_types.specs.declared.aliases.Target.TheVariants.{Own}
use Rattle.aos_check_types.specs.Aliases.{first_row, first_rows}

set_behind : (xs ys : List TypeRow) (r q : TypeRow) → slice_set ((xs ++ r ∷ []) ++ ys) (length xs) q ≡ xs ++ q ∷ ys
set_behind [] ys r q = refl
set_behind (x ∷ xs) ys r q = ap (λ z. x ∷ z) (set_behind xs ys r q)

pub none_set : (old : List TypeRow) (ts : List Target) → length ts ≡ 0 → old ≡ old ++ first_rows (length old) ts
none_set old [] none = sym (append-nil old)
none_set old (t ∷ ts) none = absurd (omega (arith, none))

pub in_range : (old : List TypeRow) (r : TypeRow) (ys : List TypeRow) (k : ℕ) → k ≡ length old → k < length ((old ++ r ∷ []) ++ ys)
in_range old r ys k is =
    let a = length-append (old ++ r ∷ []) ys in
    let b = length-append old (r ∷ []) in
    omega (arith, a, b, is)

pub first_set : (old : List TypeRow) (ts : List Target) (k n : ℕ) (d : Target) → 0 < length ts → k ≡ length old → n ≡ length (old ++ first_row k Own ∷ []) →
    slice_set ((old ++ first_row k Own ∷ []) ++ first_rows n (drop 1 ts)) k (first_row k (get_or ts 0 d)) ≡ old ++ first_rows (length old) ts
first_set old [] k n d some is next = absurd (omega (arith, some))
first_set old (t ∷ ts) k n d some is next =
    let long = length-append old (first_row k Own ∷ []) in
    let more : n ≡ suc (length old) = omega (arith, next, long) in
    subst (λ m. slice_set ((old ++ first_row k Own ∷ []) ++ first_rows n ts) m (first_row k t) ≡ old ++ first_row k t ∷ first_rows n ts) (sym is) (set_behind old (first_rows n ts) (first_row k Own) (first_row k t))
    ∙ (λ i. old ++ first_row (is i) t ∷ first_rows (more i) ts)

pub some_there : (ts : List Target) (b : Bool) → b ≡ (length ts == 0) → b ≡ false → 0 < length ts
some_there [] b is isnt = absurd (true≢false (sym is ∙ isnt))
some_there (t ∷ ts) b is isnt = omega arith

-- the targets behind the first
pub rest_all : (ts : List Target) → take (length ts - 1) (drop 1 ts) ≡ drop 1 ts
rest_all [] = take_all (length {A = Target} [] - 1) [] (omega arith)
rest_all (t ∷ ts) = take_all (length (t ∷ ts) - 1) ts (omega arith)
