use Rattle.std.proofs.Common.{◌≡◌, ◌++◌, take, map}
use Rattle.aos_typed.specs.Seen.{seen_method}
use Rattle.aos_listing.specs.Listing.{method_line}
use Rattle.aos_listing.specs.Seen.{seen_lines}
use Rattle.aos_listing.proofs.lines.put_methods.Given as goal

-- what was added so far
abbrev pub invariant-loop-method : goal.invariant-loop-method
invariant-loop-method l = seen_lines l.lines.items ≡ seen_lines l.fn.lines.items ++ map method_line (map seen_method (take l.method-index l.methods))
