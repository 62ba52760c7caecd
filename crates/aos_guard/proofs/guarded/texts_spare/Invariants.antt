-- What the loop of texts_spare keeps.
use Rattle.aos_typed.specs.Seen.{seen_program}
use Rattle.aos_uses.specs.Guarded.{Spares}
use Rattle.aos_guard.proofs.Texts.{RestDecides}
use Rattle.aos_guard.proofs.guarded.texts_spare.Given as goal

-- what is left decides
abbrev pub invariant-loop-index : goal.invariant-loop-index
invariant-loop-index l = let p = seen_program l.dispatch in RestDecides p (Spares p l.variable) l.index
