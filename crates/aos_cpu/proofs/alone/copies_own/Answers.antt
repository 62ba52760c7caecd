use Rattle.std.proofs.Common.{drop, sym, ◌∙◌}
use Rattle.aos_cpu.proofs.Own.{none_copied}
use Rattle.aos_cpu.proofs.alone.copies_own.Goals as goal

pub returns-in_default : goal.returns-in_default
returns-in_default c =
    sym (c.loop-param.invariant ∙ none_copied (drop c.loop-param.param-index c.args.params.now) c.loop-param.rest.now (c.in_default.ensures ∙ c.first.ensures.value))
