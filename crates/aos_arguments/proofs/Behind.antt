-- The type behind so many dimensions.
use Rattle.std.proofs.Common.{◌≡◌, ℕ, suc, ◌-◌, ◌<◌, ◌≤◌, Option, Some, None, option_and_then, sym, ap, ◌∙◌, arith}
use Rattle.aos_types.specs.declared.row.TypeId.{TypeId}
use Rattle.aos_types.specs.Table.{row_of}
use Rattle.aos_symbols.specs.declared.env.Env.{Env}
use Rattle.aos_arguments.specs.Arguments.{element_in, behind_dimensions}

pub behind_one : (e : Env) (t u : TypeId) (n : ℕ) (all : Option TypeId) → element_in (row_of e.types t) ≡ Some u → 0 < n →
    behind_dimensions e.types n t ≡ all → behind_dimensions e.types (n - 1) u ≡ all
behind_one e t u n all is some before =
    let next : n ≡ suc (n - 1) = omega arith in
    sym (ap (λ k. behind_dimensions e.types k t) next ∙ ap (λ o. option_and_then (λ v. behind_dimensions e.types (n - 1) v) o) is) ∙ before

pub behind_none : (e : Env) (t : TypeId) (n : ℕ) (all : Option TypeId) → element_in (row_of e.types t) ≡ None → 0 < n → behind_dimensions e.types n t ≡ all → None ≡ all
behind_none e t n all is some before =
    let next : n ≡ suc (n - 1) = omega arith in
    sym (ap (λ k. behind_dimensions e.types k t) next ∙ ap (λ o. option_and_then (λ v. behind_dimensions e.types (n - 1) v) o) is) ∙ before

pub behind_all : (e : Env) (t : TypeId) (n : ℕ) (all : Option TypeId) → n ≤ 0 → behind_dimensions e.types n t ≡ all → Some t ≡ all
behind_all e t n all over before =
    let none : n ≡ 0 = omega (arith, over) in ap (λ k. behind_dimensions e.types k t) (sym none) ∙ before
