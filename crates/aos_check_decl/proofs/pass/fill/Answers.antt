-- The parts of the pass tell one after another.
use Rattle.std.proofs.Common.{List, length, ap₂, subst}
use Rattle.std.proofs.lemmas.Result.{IfOk-from_err, IfOk-weaker}
use Rattle.aos_tree.specs.declared.decl.Decl.{Decl}
use Rattle.aos_symbols.specs.declared.env.Env.{Env}
use Rattle.aos_symbols.specs.Judged.{Judged, bind}
use Rattle.aos_check_decl.specs.Headings.{headings}
use Rattle.aos_check_types.specs.Limits.{limits}
use Rattle.aos_check_decl.specs.Pass.{started, filled}
use Rattle.aos_check_types.specs.Told.{Told}
use Rattle.aos_check_types.proofs.Telling.{then_told}
use Rattle.aos_check_decl.proofs.pass.fill.Goals as goal

pub returns-in_err-first : goal.returns-in_err-first
returns-in_err-first c = IfOk-from_err c.from_residual.result _ c.from_residual.ensures.0

pub returns-in_err-start : goal.returns-in_err-start
returns-in_err-start c = IfOk-from_err c.from_residual-in_err-start.result _ c.from_residual-in_err-start.ensures.0

pub returns-in_err-headings : goal.returns-in_err-headings
returns-in_err-headings c = IfOk-from_err c.from_residual-in_err-headings.result _ c.from_residual-in_err-headings.ensures.0

pub returns : goal.returns
returns c =
    let e = c.args.env.now in
    let m = c.args.tree.now in
    let start = c.start.new in
    let met = c.headings.new in
    let end = c.judge_limits.new in
    let ds = c.as_slice-decls.result.now in
    let headed : Told (headings start.env m.decls) start.found met.found met.env =
    subst (λ (ds : List Decl). Told (headings start.env ds) start.found met.found met.env) c.as_slice-decls.ensures c.in_ok-headings.ensures in
    IfOk-weaker c.judge_limits.result (λ _. Told (limits met.env c.in_ok-first.first ds) met.found end.found end.env) (λ _. Told (filled c.args.text.now m e) c.args.found.now end.found end.env)
    (λ _ told. then_told (started c.args.text.now m e) (λ f. bind (headings f m.decls) (λ f. limits f (length e.types) m.decls)) c.in_ok-start.ensures
    (then_told (headings start.env m.decls) (λ f. limits f (length e.types) m.decls) headed
    (subst (λ (j : Judged Env). Told j met.found end.found end.env) (ap₂ (λ n ds. limits met.env n ds) c.in_ok-first.ensures c.as_slice-decls.ensures) told)))
    c.judge_limits.ensures
