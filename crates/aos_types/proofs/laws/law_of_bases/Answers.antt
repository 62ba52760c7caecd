use Rattle.std.proofs.Common.{length}
use Rattle.aos_types.proofs.Ranks.{ranked}
use Rattle.aos_types.proofs.Tables.{bases_of, comes_by_bases}
use Rattle.aos_types.proofs.laws.law_of_bases.Goals as goal

pub returns : goal.returns
returns c = λ rows a b free. (λ e. bases_of rows (length rows) a b e, λ l. comes_by_bases rows (ranked rows free) a b l)
