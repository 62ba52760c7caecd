-- The pass begins with the module's first environment.
use Rattle.std.proofs.Common.{length, subst}
use Rattle.std.proofs.lemmas.Result.{IfOk-from_err}
use Rattle.aos_symbols.specs.declared.env.Env.{Env}
use Rattle.aos_check_decl.specs.Pass.{declare, filled}
use Rattle.aos_check_types.specs.Told.{Told}
use Rattle.aos_check_decl.proofs.pass.declare.Goals as goal

pub returns-in_err-env-clause-noted : goal.returns-in_err-env-clause-noted
returns-in_err-env-clause-noted c = IfOk-from_err c.from_residual.result _ c.from_residual.ensures.0

pub returns-in_err-fill-clause-noted : goal.returns-in_err-fill-clause-noted
returns-in_err-fill-clause-noted c = IfOk-from_err c.from_residual-in_err-fill.result _ c.from_residual-in_err-fill.ensures.0

pub returns : goal.returns
returns c =
    let text = c.args.text.now in
    let m = c.args.tree.now in
    let end = c.fill.new in
    let told : Told (declare (length c.args.before) c.args.before c.args.types text m) c.args.found.now end.found end.env =
    subst (λ (e : Env). Told (filled text m e) c.args.found.now end.found end.env) c.in_ok-env.ensures c.in_ok-fill.ensures in
    record { noted = told.noted; answer = told.is }
