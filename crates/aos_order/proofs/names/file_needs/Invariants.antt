use Rattle.std.proofs.Common.{map}
use Rattle.aos_order.proofs.Needing.{AreRead}
use Rattle.aos_order.proofs.names.file_needs.Given as goal

abbrev pub invariant-loop-import : goal.invariant-loop-import
invariant-loop-import l = AreRead (map (λ k. k.now) l.names.keys) l.text l.import-items l.needs.items l.import-index
