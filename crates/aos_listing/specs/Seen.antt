-- What the code's entries, lines and names are seen as.
use Rattle.std.specs.Prelude.{ℕ, List, map, String, string_bytes}
use Rattle.std.specs.declared.alloc.Global.{Global}
use Rattle.aos_code.specs.declared.report.LayoutLine.{LayoutLine}
use Rattle.aos_code.specs.Lines.{Line, seen_line}
use Rattle.aos_typed.specs.Seen.{seen_module, seen_object, seen_procedure}
use Rattle.aos_listing.specs.declared.entries.Entry.{Entry as CodeEntry}
use Rattle.aos_listing.specs.declared.entries.Entry.TheVariants as code
use Rattle.aos_listing.specs.Listing.{Entry, OfModule, OfType, OfProcedure, OfMethod}

abbrev pub seen_entry : CodeEntry → Entry
seen_entry (code.Module n m) = OfModule n (seen_module m.now)
seen_entry (code.Type k o) = OfType k (seen_object o.now)
seen_entry (code.Procedure n q) = OfProcedure n (seen_procedure q.now)
seen_entry (code.Method o q) = OfMethod (seen_object o.now) (seen_procedure q.now)

abbrev pub seen_entries : List CodeEntry → List Entry
seen_entries es = map seen_entry es

abbrev pub seen_lines : List LayoutLine → List Line
seen_lines ls = map seen_line ls

abbrev pub seen_names : List (String Global) → List (List ℕ)
seen_names ns = map (λ n. string_bytes n) ns
