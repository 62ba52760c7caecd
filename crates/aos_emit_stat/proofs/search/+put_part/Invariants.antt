use Rattle.std.proofs.Common.{◌+◌, ◌*◌}
use Rattle.aos_emit_stat.proofs.search.+put_part.Given as goal

abbrev pub decreases-put_halves : goal.decreases-put_halves
decreases-put_halves l = 2 * l.deep + 1

abbrev pub decreases-put_part : goal.decreases-put_part
decreases-put_part l = 2 * l.deep
