-- One procedure more, and one that has no signature.
use Rattle.std.proofs.Common.{ap, sym, ◌∙◌}
use Rattle.std.specs.Option.{option_copied}
use Rattle.aos_tree.specs.declared.decl.Outline.{Outline}
use Rattle.aos_symbols.specs.Breaches.{first_after}
use Rattle.aos_check_types.specs.Limits.{result_of, result_breaches}
use Rattle.aos_check_types.proofs.Judging.{results_step}
use Rattle.aos_check_types.proofs.limits.note_results.Goals as goal

pub loop-proc-preserved : goal.loop-proc-preserved
loop-proc-preserved c =
    let l = c.loop-proc in
    let flags = c.args.flags.now in
    let types = c.args.env.now.types in
    let gives = c.in-Some.signature.now.gives in
    results_step c.args.flags.now c.args.env.now.types l.found c.args.procs.now l.proc-index c.proc-item.result c.args.env.now.here.signatures l.number
    c.in-Some.signature.now c.loop-proc-test.true c.proc-item.is
    (sym c.signature.ensures ∙ ap option_copied c.in-Some.is) c.in_ok-number.ensures
    (c.note_result.ensures ∙ ap (λ (o : Outline). first_after l.found (result_breaches flags types (result_of flags types o.formals) gives)) c.get.ensures)
    ∙ l.invariant
