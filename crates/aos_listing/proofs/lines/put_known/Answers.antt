use Rattle.std.proofs.Common.{◌++◌, append-nil, ap, sym, ◌∙◌}
use Rattle.aos_typed.specs.Seen.{seen_object}
use Rattle.aos_listing.specs.Listing.{fielded_lines}
use Rattle.aos_listing.specs.Seen.{seen_lines}
use Rattle.aos_listing.proofs.lines.put_known.Goals as goal

pub returns-in_ok-put_fielded-in-Some : goal.returns-in_ok-put_fielded-in-Some
returns-in_ok-put_fielded-in-Some c =
    c.in_ok-put_fielded-in-Some.ensures ∙ ap (λ ts. seen_lines c.args.lines.now.items ++ fielded_lines c.args.types.now c.args.t (seen_object c.args.object.now) ts) c.in-Some.ensures

pub returns-in-None : goal.returns-in-None
returns-in-None c =
    let before = seen_lines c.args.lines.now.items in
    sym (append-nil before) ∙ ap (λ ts. before ++ fielded_lines c.args.types.now c.args.t (seen_object c.args.object.now) ts) c.in-None.ensures
