use Rattle.std.proofs.Common.{◌≡◌, ℕ, Option, Some, None, false, sym, subst, ◌∙◌}
use Rattle.std.specs.Prelude.{IsTrue}
use Rattle.aos_dev.specs.declared.mem_sink.MemSink.{MemSink}
use Rattle.aos_dev.specs.MemSink.{HasRoomFor}
use Rattle.aos_dev.proofs.mem_sink.MemSinkSink.put.Goals as goal
use Rattle.aos_dev.proofs.mem_sink.MemSinkSink.put.Goals.{in-None+else-take, in-Some}

apart : (chosen : Option ℕ) (count : ℕ) → chosen ≡ Some count → chosen ≡ None → ⊥
apart chosen count some none = cc

untrue : IsTrue false → ⊥
untrue truth = cc

-- a call that comes to the fault was chosen to fail, or had no room
pub returns-clause-takes : goal.returns-clause-takes
returns-clause-takes c = (
  λ e. (cc),
  λ h. absurd (elim c.match-begin.branch [
    | in-None+else-take w ↦ untrue
        (w.if-take.ensures.room.1
        (subst (λ (sink : MemSink). HasRoomFor sink c.args.bytes.now) (sym c.begin.ensures.rest) h.1))
    | in-Some w ↦ apart c.begin.result w.in-Some.count w.in-Some.is (c.begin.ensures.fails_next ∙ h.0)
  ]),
)
