use Rattle.std.proofs.Common.{◌≡◌, List, map}
use Rattle.aos_base.specs.declared.kernel.Event.{Event}
use Rattle.aos_base.specs.Machine.{State}
use Rattle.aos_base.specs.Observation.{waits_below}
use Rattle.aos_code.specs.Memory.{Memory}
use Rattle.aos_code.specs.Machine.{Frames, machine}
use Rattle.aos_kernel.specs.Run.{wait_of}
use Rattle.aos_kernel.specs.Shows.{Shows}
use Rattle.aos_kernel.proofs.tables.KernelTables.waits.Given as goal

-- those who wait among the activities so far
abbrev pub invariant-loop-activity : goal.invariant-loop-activity
invariant-loop-activity l = (earlier : List Event) (st : State Memory Frames) → Shows l.image earlier l.self st → l.waits.items ≡ map wait_of (waits_below (machine l.image) l.activity st.book.line st.frames)
