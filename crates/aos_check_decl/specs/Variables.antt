-- Constants and variables: what is declared stands in the innermost scope of the place.
use Rattle.std.specs.Prelude.{ℕ, zero, suc, Option}
use Rattle.aos_base.specs.declared.text.Pos.{Pos}
use Rattle.aos_tree.specs.declared.decl.ConstDef.{ConstDef}
use Rattle.aos_types.specs.declared.row.TypeId.{TypeId}
use Rattle.aos_typed.specs.declared.tree.Literal.{Literal}
use Rattle.aos_symbols.specs.declared.env.Env.{Env}
use Rattle.aos_symbols.specs.Judged.{Judged, kept, bind}
use Rattle.aos_symbols.specs.Home.{add_variable, add_constant}
use Rattle.aos_symbols.specs.Env as env
use Rattle.aos_check_expr.specs.Expressions.{constant}

-- each constant has its value where its expression is constant and breaks no rule
abbrev pub with_constant : Env → Pos → Option Literal → Env
with_constant e at v = record e { here = add_constant e.here (env.innermost e.path) (record { at = at; value = v }) }

abbrev pub constant_def : Env → ConstDef → Judged Env
constant_def e d = bind (constant e d.value) (λ v. kept (with_constant e d.def.name.pos v))

-- variables
abbrev pub with_variable : Env → Option TypeId → Env
with_variable e of = record e { here = add_variable e.here (env.innermost e.path) of }

-- so many variables of one type
abbrev pub with_variables : Env → ℕ → Option TypeId → Env
with_variables e zero of = e
with_variables e (suc n) of = with_variables (with_variable e of) n of
