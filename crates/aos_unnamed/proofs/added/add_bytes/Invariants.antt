-- The loop over bytes: those so far stand behind.
use Rattle.std.proofs.Common.{◌≡◌, ◌++◌, take}
use Rattle.aos_unnamed.proofs.added.add_bytes.Given as goal

abbrev pub invariant-loop-byte : goal.invariant-loop-byte
invariant-loop-byte l = l.all ≡ l.initial.all ++ take l.byte-index l.bytes
