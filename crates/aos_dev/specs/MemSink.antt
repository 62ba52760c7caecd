-- What a sink in memory means, and which of its calls fail.
use Rattle.std.specs.Prelude.{◌≡◌, ℕ, ◌+◌, ◌≤◌, List, [], length, take, Option, None, find, nat_eq, nat_le, if◌then◌else◌, option_map}
use Rattle.std.specs.Option.{option_map_or}
use Rattle.aos_dev.specs.declared.mem_sink.MemSink.{MemSink}
use Rattle.aos_dev.specs.Count.{next}

-- the bytes that a sink in memory holds
abbrev pub sink_bytes : MemSink → List ℕ
sink_bytes sink = sink.bytes.items

-- the numbers of the calls that fail, each with the bytes that it takes first
abbrev pub sink_fails : MemSink → List (ℕ × ℕ)
sink_fails sink = sink.fails.items

-- the calls so far
abbrev pub sink_calls : MemSink → ℕ
sink_calls sink = sink.calls

-- the faults so far
abbrev pub sink_faults : MemSink → ℕ
sink_faults sink = sink.faults

-- how many bytes the sink may hold
abbrev pub sink_reserve : MemSink → ℕ
sink_reserve sink = sink.reserve

-- how many bytes the next call takes before it fails, if it is one that fails
abbrev pub sink_fails_next : MemSink → Option ℕ
sink_fails_next sink = option_map (λ fail. fail.1) (find (λ fail. nat_eq fail.0 (next (sink_calls sink))) (sink_fails sink))

-- there is room for a piece
abbrev pub HasRoomFor : MemSink → List ℕ → Type 0
HasRoomFor sink piece = length (sink_bytes sink) + length piece ≤ sink_reserve sink

-- the next call takes a piece: it isn't one that fails, and there is room
abbrev pub TakesNext : MemSink → List ℕ → Type 0
TakesNext sink piece = (sink_fails_next sink ≡ None) × HasRoomFor sink piece

-- a piece, or nothing where there is no room for it
abbrev pub fitting : MemSink → List ℕ → List ℕ
fitting sink piece = if nat_le (length (sink_bytes sink) + length piece) (sink_reserve sink) then piece else []

-- what the next call takes of a piece if it fails: the bytes that were chosen for it, if there is room for them
abbrev pub part_of : MemSink → List ℕ → List ℕ
part_of sink piece = fitting sink (option_map_or (λ count. take count piece) (sink_fails_next sink) [])
