-- The gate's initializer is quiet, and what it awaits is local.
use Rattle.std.proofs.Common.{◌≡◌, inl, inr, ℕ, zero, suc, List, [], ◌∷◌, Some, None, refl, sym, subst, arith}
use Rattle.std.specs.Prelude.{slice_get, IsTrue, Bool, true, false, nat_eq, nat_lt, if◌then◌else◌}
use Rattle.std.proofs.lemmas.Bool.{eqb-true, ltb-true}
use Rattle.aos_base.specs.Rooted.{by_number}
use Rattle.aos_typed.specs.Methods.{own_numbers, slots}
use Rattle.aos_typed.specs.Routines.{Routine, routines}
use Rattle.aos_uses.specs.declared.uses.Variable.TheVariants as variable
use Rattle.aos_uses.specs.Guarded.{Each, IsGuarded, IsLocal, IsNamed, IsQuiet, Keeps, Spares, is_initial, method_of}
use Rattle.aos_uses.specs.Uses.{routine_uses}
use Rattle.aos_stability.specs.Example.{condition, gates}

-- it holds of these routines, which have the numbers from 0 on
abbrev EachRoutine : (ℕ → Routine → Type 0) → List Routine → Type 0
EachRoutine R [] = Unit {0}
EachRoutine R (r ∷ rs) = R 0 r × EachRoutine (λ i. R (suc i)) rs

each_routine : (R : ℕ → Routine → Type 0) (rs : List Routine) → EachRoutine R rs → (i : ℕ) (r : Routine) → slice_get rs i ≡ Some r → R i r
each_routine R [] h i r e = absurd (cc)
each_routine R (q ∷ rs) h zero r e = let same : q ≡ r = cc in subst (R 0) same h.0
each_routine R (q ∷ rs) h (suc i) r e = each_routine (λ j. R (suc j)) rs h.1 i r e

in_each : (R : ℕ → Routine → Type 0) → EachRoutine (λ i. R (suc i)) (routines gates) → (n : ℕ) (r : Routine) → by_number n (routines gates) ≡ Some r → R n r
in_each R h zero r e = absurd (cc)
in_each R h (suc i) r e = each_routine (λ j. R (suc j)) (routines gates) h i r e

-- the set of the initializer alone
abbrev initial : ℕ → Bool
initial n = nat_eq n 3

abbrev IsInitial : ℕ → Type 0
IsInitial n = IsTrue (initial n)

false_not_true : IsTrue false → ⊥
false_not_true e = absurd (cc)

-- the slot of the other method has that alone
only_type : (t n : ℕ) → method_of gates t 1 ≡ Some n → n ≡ 4
only_type t n e = by (nat_lt t 1) refl
  where
    by : (b : Bool) → nat_lt t 1 ≡ b → n ≡ 4
    by true is =
        let first : t ≡ 0 = omega (arith, ltb-true t 1 is) in
        let there : Some 4 ≡ Some n = subst (λ u. method_of gates u 1 ≡ Some n) first e in
        cc
    by false is =
        let none : None ≡ Some n = subst (λ b. (if b then slice_get (slots gates (own_numbers gates) t) 1 else None) ≡ Some n) is e in
        absurd (cc)

other_method : (n : ℕ) → IsNamed gates n 0 1 → IsInitial n → ⊥
other_method n named is =
    let four : n ≡ 4 = only_type named.owner n named.own in
    false_not_true (subst IsInitial four is)

pub quiet : IsQuiet gates 3
quiet = record {
  set = initial;
  are_quiet = record {
    initial = λ n is. subst (λ k. IsTrue (is_initial gates k)) (sym (eqb-true n 3 is)) refl;
    uses = in_each (λ n r. Each (Keeps gates IsInitial n) (routine_uses gates r))
        ((tt, (false_not_true, (false_not_true, (other_method, (tt, tt))))), ((tt, tt), ((tt, tt), ((tt, tt), tt))));
  };
  is_in = refl;
}

guarded : IsGuarded gates (variable.Field 10 0)
guarded = (
  tt,
  in_each (λ n r. Each (Spares gates (variable.Field 10 0) n r) (routine_uses gates r)) (
    ((λ e. absurd (cc)), (tt, (tt, (tt, (tt, tt))))),
    ((tt, tt), (((λ e. (refl, inr quiet)), tt), (((λ e. (refl, inl refl)), tt), tt))),
  ),
)

pub local : IsLocal gates condition
local = ((refl, guarded), tt)
