-- The measure is the greater depth of the two: lists ask for it of both.
use Rattle.std.proofs.Common.{max}
use Rattle.aos_tree.proofs.decl.Proc.TheLaws as proc
use Rattle.aos_same.proofs.decl.+same_declarations.Given as goal

abbrev pub decreases-ProcAlike::same : goal.decreases-ProcAlike::same
decreases-ProcAlike::same l = max (proc.the_size l.self.now) (proc.the_size l.other.now)
