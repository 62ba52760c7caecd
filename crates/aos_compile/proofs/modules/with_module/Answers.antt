-- What the pass over headings found, and then the pass over bodies.
use Rattle.std.proofs.Common.{ap, ◌∙◌}
use Rattle.std.proofs.lemmas.Result.{err_from_is_err_and}
use Rattle.aos_symbols.specs.declared.env.Env.{Env}
use Rattle.aos_compile.specs.Modules as judge
use Rattle.aos_compile.specs.Seen.{seen_programs, seen_bodies}
use Rattle.aos_compile.proofs.Passes.{headings_refused, bodies_refused, module_went}
use Rattle.aos_compile.proofs.modules.with_module.Goals as goal

pub returns-in-Some-clause-refused : goal.returns-in-Some-clause-refused
returns-in-Some-clause-refused c =
    headings_refused c.args.file (seen_programs c.args.modules.now.items c.args.objects.now.items) c.args.env.now c.args.tree.now c.in-Some.breach c.refusal.result
    c.in-Some.is c.refusal.ensures

pub returns-in_err-bodies-in-None-clause-refused : goal.returns-in_err-bodies-in-None-clause-refused
returns-in_err-bodies-in-None-clause-refused c =
    let p = err_from_is_err_and c.from_residual.result c.from_residual.ensures.1 in
    rw (p.1, p.2) (bodies_refused c.args.file (seen_programs c.args.modules.now.items c.args.objects.now.items) c.args.env.now c.args.tree.now
    c.in_err-bodies-in-None.field-0.0 c.in-None.is c.in_err-bodies-in-None.ensures.refused)

pub returns-in_ok-add_module-in-None-clause-went : goal.returns-in_ok-add_module-in-None-clause-went
returns-in_ok-add_module-in-None-clause-went c =
    let e = c.args.env.now in
    let m = c.args.tree.now in
    let p = seen_programs c.args.modules.now.items c.args.objects.now.items in
    let b = seen_bodies c.in_ok-bodies-in-None.bodies in
    module_went c.args.file p e m b c.in-None.is c.in_ok-bodies-in-None.ensures.went
    (c.in_ok-add_module-in-None.ensures ∙ ap (λ (v : Env). judge.with_module p v m b) c.in_ok-bodies-in-None.ensures.env)
