-- What becomes of the probes, and what is written of them.
use Rattle.std.specs.Prelude.{◌≡◌, ℕ, List, [], map, Bool, true, false}
use Rattle.aos_base.specs.declared.kernel.Event.{Event}
use Rattle.aos_probe.specs.Told.{total_of, after_all}
use Rattle.aos_report.specs.Texts.{probes_text}
use Rattle.aos.specs.Call.{ProbesUse}

-- where they watch, each was told these events, each once and in their order; else none was told any
abbrev pub Watched : (watch : Bool) → List Event → ProbesUse → Type 0
Watched true events probes = probes.left ≡ after_all events probes.before
Watched false events probes = probes.left ≡ probes.before

-- where they watch, the lines of those that are left
abbrev pub watch_text : (watch : Bool) → ProbesUse → List ℕ
watch_text true probes = probes_text 0 (map total_of probes.left)
watch_text false probes = []
