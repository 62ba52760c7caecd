use Rattle.aos_typed.specs.Seen.{seen_parameter}
use Rattle.aos_layout.specs.Frame.{IsThere}
use Rattle.aos_layout.proofs.Frames.{there_at}
use Rattle.aos_layout.proofs.frame.parameter_kinds.Goals as goal

pub parameter_kind-requires-clause-there : goal.parameter_kind-requires-clause-there
parameter_kind-requires-clause-there c =
    there_at (λ a. IsThere c.args.types.now a.of) seen_parameter c.args.parameters.now c.loop-parameter.parameter-index c.parameter-item.result c.loop-parameter-test.true c.requires.there c.parameter-item.is
