use Rattle.std.proofs.Common.{◌≡◌, drop, map}
use Rattle.std.specs.List.{fold}
use Rattle.aos_typed.specs.Methods.{put_at, numbered_from}
use Rattle.aos_typed.specs.Seen.{seen_method}
use Rattle.aos_dispatch.proofs.methods.put_methods.Given as goal

-- the table so far, and the methods that are left
abbrev pub invariant-loop-method : goal.invariant-loop-method
invariant-loop-method l =
    fold put_at l.table.items (numbered_from l.number (map seen_method (drop l.method-index l.methods))) ≡ fold put_at l.fn.table.items (numbered_from l.fn.first (map seen_method l.fn.methods))
