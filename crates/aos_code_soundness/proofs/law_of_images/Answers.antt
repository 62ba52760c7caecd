use Rattle.aos_code_soundness.proofs.Images.{image_sound}
use Rattle.aos_code_soundness.proofs.law_of_images.Goals as goal

pub returns : goal.returns
returns c = λ p image well ok depths. image_sound p image well ok depths
