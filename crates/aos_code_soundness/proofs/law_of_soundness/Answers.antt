use Rattle.aos_code_soundness.proofs.Bodies.{bodies_sound, bodies_sound_as_said}
use Rattle.aos_code_soundness.proofs.law_of_soundness.Goals as goal

pub returns : goal.returns
returns c = record {
  room = λ p image well ok. bodies_sound p image well ok;
  depths = λ p image well ok depths. bodies_sound_as_said p image well ok depths;
}
