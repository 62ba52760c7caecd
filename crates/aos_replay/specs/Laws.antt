-- The law of replays.
use Rattle.std.specs.Prelude.{◌≡◌}
use Rattle.aos_base.specs.Machine.{State, execution}
use Rattle.aos_code.specs.declared.image.Image.{Image}
use Rattle.aos_code.specs.Memory.{Memory}
use Rattle.aos_code.specs.Machine.{Frames, machine}
use Rattle.aos_script.specs.declared.script.Script.{Script}
use Rattle.aos_script.specs.Listing.{choices_of}
use Rattle.aos_script.specs.Print.{IsPrintable, joined_script}

-- joined or not, the runs of a script have one execution
abbrev pub OneExecution : Type 0
OneExecution =
    (image : Image) (s : Script) (st : State Memory Frames) → IsPrintable s
    → execution (machine image) (choices_of (joined_script s)) st ≡ execution (machine image) (choices_of s) st
