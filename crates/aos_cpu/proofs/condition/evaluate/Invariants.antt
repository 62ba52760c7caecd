use Rattle.std.proofs.Common.{◌≡◌, suc, length}
use Rattle.aos_store.specs.declared.frames.Frame.{Frame as KeptFrame}
use Rattle.aos_store.specs.Store.{list_in, memory_in}
use Rattle.aos_cpu.specs.Verdicts.{IsTop, TopHasMoved, TopHasRoom, HasTop, verdict_here}
use Rattle.aos_cpu.proofs.condition.evaluate.Given as goal

-- the verdict is still to come
abbrev pub invariant-loop-left : goal.invariant-loop-left
invariant-loop-left l = record {
  verdict : verdict_here l.image (memory_in l.store) l.code (suc (length l.code)) (list_in l.fn.frames.list.items) ≡ verdict_here l.image (memory_in l.store) l.code (suc l.left) (list_in l.frames.list.items);
  moved : (f : KeptFrame) → IsTop l.fn.frames.list.items f → TopHasMoved l.fn.frames.list.items l.frames.list.items f;
  room : TopHasRoom l.code l.frames.list.items;
  top : HasTop l.frames.list.items;
  following : l.frames.following ≡ l.fn.frames.following;
  begun : l.frames.begun ≡ l.fn.frames.begun;
  turns : l.frames.turns ≡ l.fn.frames.turns;
}

abbrev pub decreases-loop-left : goal.decreases-loop-left
decreases-loop-left l = l.left
