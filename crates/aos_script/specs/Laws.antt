-- The laws of scripts: a text is one script at most, or refused in one way, and never both; what is printed is read back.
use Rattle.std.specs.Prelude.{◌≡◌, ℕ, List, ◌++◌}
use Rattle.aos_script.specs.declared.script.Script.{Script}
use Rattle.aos_script.specs.declared.error.ScriptErr.{ScriptErr}
use Rattle.aos_script.specs.Listing.{AreSkipped, IsScript, choices_of}
use Rattle.aos_script.specs.Refusals.{IsRefused}
use Rattle.aos_script.specs.Print.{IsPrintable, AreLines, text_of, script_text, joined_script}

abbrev pub OneScript : Type 0
OneScript = (text : List ℕ) (s t : Script) → IsScript text s → IsScript text t → s ≡ t

abbrev pub OneRefusal : Type 0
OneRefusal = (text : List ℕ) (e f : ScriptErr) → IsRefused text e → IsRefused text f → e ≡ f

abbrev pub NotBoth : Type 0
NotBoth = (text : List ℕ) (s : Script) (e : ScriptErr) → IsScript text s → ¬ IsRefused text e

-- the text of a script that can be printed is this script with neighbouring runs of one worker joined
abbrev pub PrintedIsRead : Type 0
PrintedIsRead = (s : Script) → IsPrintable s → IsScript (script_text s) (joined_script s)

-- and so is the same text behind lines none of which is the first line of a script
abbrev pub PrintedBehindIsRead : Type 0
PrintedBehindIsRead =
    (ls : List (List ℕ)) (s : Script) → AreLines ls → AreSkipped ls → IsPrintable s
    → IsScript (text_of ls ++ script_text s) (joined_script s)

-- joined or not, it stands for the same choices
abbrev pub JoinedAlike : Type 0
JoinedAlike = (s : Script) → IsPrintable s → choices_of (joined_script s) ≡ choices_of s
