-- The passes behind names, from those behind headings.
use Rattle.std.proofs.lemmas.Result.{err_from_is_err_and}
use Rattle.aos_compile.specs.Seen.{seen_parts, seen_programs}
use Rattle.aos_compile.proofs.Passes.{world_went, world_refused}
use Rattle.aos_compile.proofs.modules.behind_names.Goals as goal

pub returns-clause-went : goal.returns-clause-went
returns-clause-went c =
    let behind = c.with_module.new in
    world_went (seen_parts c.args.before c.args.types c.args.modules.now.items c.args.objects.now.items) c.args.file c.args.text.now c.args.tree.now
    (seen_programs behind.modules.items behind.objects.items) c.in_ok-env.ensures.noted c.in_ok-env.ensures.answer c.in_ok-with_module.ensures.went
    c.in_ok-with_module.ensures.env c.in_ok-into_homes.ensures.homes c.in_ok-into_homes.ensures.types

pub returns-in_err-with_module-clause-refused : goal.returns-in_err-with_module-clause-refused
returns-in_err-with_module-clause-refused c =
    let p = err_from_is_err_and c.from_residual-in_err-with_module.result c.from_residual-in_err-with_module.ensures.1 in
    rw (p.1, p.2) (world_refused (seen_parts c.args.before c.args.types c.args.modules.now.items c.args.objects.now.items) c.args.file c.args.text.now c.args.tree.now
    c.in_err-with_module.field-0.0 c.in_ok-env.ensures.noted c.in_ok-env.ensures.answer c.in_err-with_module.ensures.refused)
