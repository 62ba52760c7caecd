-- The dimensions of an array are its own and those of its elements.
use Rattle.std.proofs.Common.{◌≡◌, ℕ, zero, suc, ◌-◌, ◌<◌, ◌≤◌, List, [], ◌∷◌, ◌++◌, Option, Some, None, refl, sym, ap, ◌∙◌, append_assoc, append-nil, arith}
use Rattle.std.proofs.lemmas.Option.{none-some, same_Some}
use Rattle.aos_types.specs.declared.row.TypeId.{TypeId}
use Rattle.aos_types.specs.declared.row.TypeRow.{TypeRow}
use Rattle.aos_types.specs.declared.row.TypeRow.TheVariants as row
use Rattle.aos_typed.specs.WellTyped.{dimension}
use Rattle.aos_symbols.specs.declared.env.Env.{Env}
use Rattle.aos_symbols.specs.Env as env
use Rattle.aos_values.specs.Arrays.{length_of, array_in, lengths_from}

pub own_length : (e : Env) (of : Option TypeId) (n : ℕ) (t : TypeId) → env.row_of e of ≡ Some (row.Array n t) → length_of e of 0 ≡ Some n
own_length e of n t is = ap (λ r. dimension e.types 0 r) is

pub next_length : (e : Env) (of : Option TypeId) (d n : ℕ) (t : TypeId) → env.row_of e of ≡ Some (row.Array n t) → 0 < d → length_of e of d ≡ length_of e (Some t) (d - 1)
next_length e of d n t is some =
    let next : d ≡ suc (d - 1) = omega arith in
    ap (λ r. dimension e.types d r) is ∙ ap (λ k. dimension e.types k (Some (row.Array n t))) next

-- The lengths of the first dimensions of a fixed array.

array_is : (r : Option TypeRow) (a : ℕ × TypeId) → array_in r ≡ Some a → r ≡ Some (row.Array a.0 a.1)
array_is (Some (row.Array n t)) a is = ap (λ (b : ℕ × TypeId). Some (row.Array b.0 b.1)) (same_Some (n, t) a is)
array_is None a is = absurd (none-some a is)
array_is r a is = absurd (none-some a is)

no_array : (rows : List TypeRow) (n : ℕ) (r : Option TypeRow) → array_in r ≡ None → lengths_from rows n r ≡ []
no_array rows zero r is = refl
no_array rows (suc n) (Some (row.Array m t)) is = absurd (none-some (m, t) (sym is))
no_array rows (suc n) None is = refl
no_array rows (suc n) r is = refl

pub lengths_one : (e : Env) (of : Option TypeId) (n : ℕ) (a : ℕ × TypeId) (done all : List ℕ) → array_in (env.row_of e of) ≡ Some a → 0 < n →
    done ++ lengths_from e.types n (env.row_of e of) ≡ all → (done ++ a.0 ∷ []) ++ lengths_from e.types (n - 1) (env.row_of e (Some a.1)) ≡ all
lengths_one e of n a done all is some before =
    let next : n ≡ suc (n - 1) = omega arith in
    append_assoc done (a.0 ∷ []) (lengths_from e.types (n - 1) (env.row_of e (Some a.1)))
    ∙ ap (λ l. done ++ l) (sym (ap (λ r. lengths_from e.types n r) (array_is (env.row_of e of) a is) ∙ ap (λ k. lengths_from e.types k (Some (row.Array a.0 a.1))) next))
    ∙ before

pub lengths_none : (e : Env) (of : Option TypeId) (n : ℕ) (done all : List ℕ) → array_in (env.row_of e of) ≡ None →
    done ++ lengths_from e.types n (env.row_of e of) ≡ all → done ≡ all
lengths_none e of n done all is before = sym (append-nil done) ∙ ap (λ l. done ++ l) (sym (no_array e.types n (env.row_of e of) is)) ∙ before

pub lengths_all : (e : Env) (of : Option TypeId) (n : ℕ) (done all : List ℕ) → n ≤ 0 → done ++ lengths_from e.types n (env.row_of e of) ≡ all → done ≡ all
lengths_all e of n done all over before =
    let none : n ≡ 0 = omega (arith, over) in
    sym (append-nil done) ∙ ap (λ k. done ++ lengths_from e.types k (env.row_of e of)) (sym none) ∙ before
