use Rattle.std.proofs.Common.{refl, sym, subst, ◌∙◌}
use Rattle.aos_scan.specs.TokenList.{end_token}
use Rattle.aos_tree.specs.Ended.{IsEnded}
use Rattle.aos_parse_expr.proofs.Ended.{ended}
use Rattle.aos_reading.proofs.front.read.Goals as goal

pub parsed-requires-clause-ended : goal.parsed-requires-clause-ended
parsed-requires-clause-ended c =
    let once = c.in-Ok.ensures.ends in
    subst IsEnded (sym (c.deref.ensures.value ∙ once.whole)) (ended once.others (end_token c.args.text.now) once.no_end refl)
