use Rattle.std.proofs.Common.{[], ◌∷◌, ◌++◌, ap, ◌∙◌}
use Rattle.aos_listing.specs.Listing.{line}
use Rattle.aos_listing.specs.Seen.{seen_lines}
use Rattle.aos_listing.proofs.lines.put_procedure.Goals as goal

pub returns : goal.returns
returns c = c.in_ok-put_line.ensures ∙ ap (λ n. seen_lines c.args.lines.now.items ++ line 5 c.args.name.now 0 n ∷ []) c.in_ok-cells.ensures
