-- What a routine ends with.
use Rattle.std.proofs.Common.{◌≡◌, ℕ, Bool, true, false, List, [], ◌∷◌, Option, Some, None, refl}
use Rattle.aos_base.specs.declared.text.Pos.{Pos}
use Rattle.aos_typed.specs.declared.tree.TType.{TType}
use Rattle.aos_typed.specs.Program.{Body, Parameter, Variable, Procedure, Program}
use Rattle.aos_typed.specs.Routines.{gives}
use Rattle.aos_code.specs.declared.instr.Instr.TheVariants.{Fail, Return}
use Rattle.aos_sim.specs.Code.{end_code}

module _ (p : Program) where
  pub gives_end : (own : Option Procedure) → gives own ≡ true → end_code p own ≡ Fail 10 ∷ []
  gives_end None e = absurd (cc)
  gives_end (Some q) e = by q.name q.at q.of q.is_initializer q.parameters q.locals q.result q.body e
    where
      by : (name : List ℕ) (at : Pos) (of : Option ℕ) (initial : Bool) (parameters : List Parameter) (locals : List Variable) (result : Option TType) (body : Body) → gives (Some (record { name = name; at = at; of = of; is_initializer = initial; parameters = parameters; locals = locals; result = result; body = body })) ≡ true → end_code p (Some (record { name = name; at = at; of = of; is_initializer = initial; parameters = parameters; locals = locals; result = result; body = body })) ≡ Fail 10 ∷ []
      by name at of initial parameters locals None body e = absurd (cc)
      by name at of initial parameters locals (Some t) body e = refl

  pub nothing_end : (own : Option Procedure) → gives own ≡ false → end_code p own ≡ Return ∷ []
  nothing_end None e = refl
  nothing_end (Some q) e = by q.name q.at q.of q.is_initializer q.parameters q.locals q.result q.body e
    where
      by : (name : List ℕ) (at : Pos) (of : Option ℕ) (initial : Bool) (parameters : List Parameter) (locals : List Variable) (result : Option TType) (body : Body) → gives (Some (record { name = name; at = at; of = of; is_initializer = initial; parameters = parameters; locals = locals; result = result; body = body })) ≡ false → end_code p (Some (record { name = name; at = at; of = of; is_initializer = initial; parameters = parameters; locals = locals; result = result; body = body })) ≡ Return ∷ []
      by name at of initial parameters locals None body e = refl
      by name at of initial parameters locals (Some t) body e = absurd (cc)
