-- The measure is the greater depth of the two: lists ask for it of both.
use Rattle.std.proofs.Common.{max}
use Rattle.aos_tree.proofs.stat.Block.TheLaws as block
use Rattle.aos_same.proofs.stat.+same_statements.Given as goal

abbrev pub decreases-BlockAlike::same : goal.decreases-BlockAlike::same
decreases-BlockAlike::same l = max (block.the_size l.self.now) (block.the_size l.other.now)
