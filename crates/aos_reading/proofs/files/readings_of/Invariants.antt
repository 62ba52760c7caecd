use Rattle.std.proofs.Common.{map, take}
use Rattle.aos_reading.specs.Texts.{AreReadings}
use Rattle.aos_reading.specs.Sources.{bytes_of, seen_reading}
use Rattle.aos_reading.proofs.files.readings_of.Given as goal

abbrev pub invariant-loop-text : goal.invariant-loop-text
invariant-loop-text l = AreReadings (bytes_of (take l.text-index l.texts)) (map seen_reading l.readings.items)
