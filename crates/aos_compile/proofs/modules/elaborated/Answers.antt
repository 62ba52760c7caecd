-- Behind the pass over names come the others.
use Rattle.std.proofs.Common.{◌∙◌}
use Rattle.std.proofs.lemmas.Result.{err_from_is_err_and}
use Rattle.aos_compile.specs.Seen.{seen_world}
use Rattle.aos_compile.proofs.Passes.{names_told, behind_refused}
use Rattle.aos_compile.proofs.modules.elaborated.Goals as goal

pub returns-clause-went : goal.returns-clause-went
returns-clause-went c =
    names_told (seen_world c.args.world) c.args.file c.args.text.now c.args.tree.now c.in_ok-with_names.ensures.went ∙ c.in_ok-before.ensures.went

pub returns-in_err-before-clause-refused : goal.returns-in_err-before-clause-refused
returns-in_err-before-clause-refused c =
    let p = err_from_is_err_and c.from_residual-in_err-before.result c.from_residual-in_err-before.ensures.1 in
    rw (p.1, p.2) (behind_refused (seen_world c.args.world) c.args.file c.args.text.now c.args.tree.now c.in_err-before.field-0.0 c.in_ok-with_names.ensures.went
    c.in_err-before.ensures.refused)
