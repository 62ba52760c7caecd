-- One more variable.
use Rattle.std.proofs.Common.{◌≡◌, ℕ, zero, suc, ◌+◌, add-one, Option, refl, ap, ◌∙◌, sym}
use Rattle.aos_types.specs.declared.row.TypeId.{TypeId}
use Rattle.aos_symbols.specs.declared.env.Env.{Env}
use Rattle.aos_check_decl.specs.Headings.{with_variable, with_variables}

-- one variable more
pub variables_more : (e : Env) (n : ℕ) (of : Option TypeId) → with_variable (with_variables e n of) of ≡ with_variables e (n + 1) of
variables_more e n of = again e n of ∙ ap (λ k. with_variables e k of) (sym (add-one n))
  where
    again : (e : Env) (n : ℕ) (of : Option TypeId) → with_variable (with_variables e n of) of ≡ with_variables e (suc n) of
    again e zero of = refl
    again e (suc n) of = again (with_variable e of) n of
