use Rattle.std.proofs.Common.{◌≡◌, ℕ, ◌+◌, ◌-◌, List, length, take, drop, ◌++◌, sym, ◌∙◌, ap, subst, arith}
use Rattle.std.proofs.Math.Seq.{take-add}
use Rattle.std.proofs.lemmas.Grind.{common_steps}
use Rattle.std.specs.Io.KnownBytes.{Appends}
use Rattle.aos_dev.proofs.KnownBytesLemmas.{Appends-Appends, Appends-Keeps}
use Rattle.aos_dev.proofs.std_sink.write_whole.Goals as goal
use Rattle.aos_dev.proofs.std_sink.write_whole.Goals.{in-Ok, in-Err+else-ne}

-- the bytes up to `at` and the next ones are the bytes up to their sum
take_next : (at count : ℕ) (bytes : List ℕ)
    → take at bytes ++ take count (take (length bytes - at) (drop at bytes)) ≡ take (at + count) bytes
take_next at count bytes = grind (arith, common_steps, take-add)

pub loop-preserved : goal.loop-preserved
loop-preserved g c = elim c.match-write.branch [
  | in-Ok w ↦
      let h = Appends-Appends _ _ _ _ _ c.loop.invariant.1 w.in-Ok.ensures.bytes in
      let e : take c.loop.at c.args.bytes.now ++ take w.in-Ok.count (take (length c.args.bytes.now - c.loop.at) (drop c.loop.at c.args.bytes.now)) ≡ take c.match-write.at c.args.bytes.now
      = take_next _ _ _ ∙ ap (λ (n : ℕ). take n c.args.bytes.now) (sym w.at-is) in
      (grind (arith, common_steps), subst (λ (bytes : List ℕ). Appends (g.W.Write.contents c.args.writer.now) (g.W.Write.contents c.write.new.self) bytes) e h)
  | in-Err+else-ne w ↦
      let h = Appends-Keeps _ _ _ _ c.loop.invariant.1 w.in-Err.ensures.bytes in
      (grind (arith, common_steps), subst (λ (n : ℕ). Appends (g.W.Write.contents c.args.writer.now) (g.W.Write.contents c.write.new.self) (take n c.args.bytes.now)) (sym w.at-is) h)
]
