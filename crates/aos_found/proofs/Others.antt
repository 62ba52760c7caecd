-- Questions whose work needs to find nothing.
use Rattle.std.proofs.Common.{◌≡◌, ℕ, List, refl}
use Rattle.std.specs.Prelude.{Option, true}
use Rattle.aos_code.specs.declared.instr.Cell.{Cell}
use Rattle.aos_code.specs.declared.image.TypeDesc.{TypeDesc}
use Rattle.aos_code.specs.Memory.{Memory}
use Rattle.aos_code.specs.Machine.{Frame, finds}
use Rattle.aos_silent_steps.specs.declared.act.Question.{Question}
use Rattle.aos_silent_steps.specs.declared.act.Question.TheVariants.{Ends, Starts, Leaves, Awaits}
use Rattle.aos_silent_steps.specs.Acts.{question_in}

-- any other question's work needs nothing
pub others_find : (types : List TypeDesc) (q : Question) (f : Frame) (mem : Memory) → ((v : Option Cell) → q ≡ Ends v → ⊥) → ((o : ℕ) → q ≡ Starts o → ⊥) → (q ≡ Leaves → ⊥) → ((c : ℕ) → q ≡ Awaits c → ⊥) →
    finds types (question_in q f.stack) f mem ≡ true
others_find types (Ends v) f mem not_end not_start not_leave not_await = absurd (not_end v refl)
others_find types (Starts o) f mem not_end not_start not_leave not_await = absurd (not_start o refl)
others_find types Leaves f mem not_end not_start not_leave not_await = absurd (not_leave refl)
others_find types (Awaits c) f mem not_end not_start not_leave not_await = absurd (not_await c refl)
others_find types q f mem not_end not_start not_leave not_await = refl
