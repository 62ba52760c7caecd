use Rattle.std.proofs.Common.{◌≡◌, ℕ, List, take, ◌++◌, sym, subst, arith}
use Rattle.std.proofs.lemmas.Grind.{common_steps}
use Rattle.std.specs.Io.KnownBytes.{Consumes}
use Rattle.aos_dev.proofs.KnownBytesLemmas.{Consumes-Consumes, Consumes-Keeps}
use Rattle.aos_dev.proofs.file_shelf.read_on.Goals as goal
use Rattle.aos_dev.proofs.file_shelf.read_on.Goals.{in-Ok+else-most-len+else-is_err, in-Err+else-ne}

pub loop-preserved : goal.loop-preserved
loop-preserved g c = elim c.match-read.branch [
  | in-Ok+else-most-len+else-is_err w ↦
      let h = Consumes-Consumes _ _ _ _ _ c.loop.invariant.3 w.in-Ok.ensures.bytes.0 in
      let e : c.match-read.into.items ≡ c.loop.into.items ++ take w.in-Ok.count c.read.new.buf = grind (arith, common_steps) in
      (grind (arith, common_steps), grind (arith, common_steps), grind (arith, common_steps), subst (λ (bytes : List ℕ). Consumes (g.S.Read.remaining c.args.source.now) (g.S.Read.remaining c.read.new.self) bytes) (sym e) h)
  | in-Err+else-ne w ↦
      let h = Consumes-Keeps _ _ _ _ c.loop.invariant.3 w.in-Err.ensures.bytes in
      (grind (arith, common_steps), grind (arith, common_steps), grind (arith, common_steps), subst (λ (v : _). Consumes (g.S.Read.remaining c.args.source.now) (g.S.Read.remaining c.read.new.self) v.items) (sym w.into-is) h)
]
