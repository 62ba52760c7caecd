use Rattle.std.proofs.Common.{[], ◌∷◌, ◌++◌, ap, ◌∙◌}
use Rattle.aos_typed.specs.Seen.{seen_procedure}
use Rattle.aos_listing.specs.Listing.{procedure_line, method_name}
use Rattle.aos_listing.specs.Seen.{seen_lines}
use Rattle.aos_listing.proofs.lines.put_method.Goals as goal

pub returns : goal.returns
returns c =
    let named = c.as_str-3.ensures.value ∙ c.in_ok-name.ensures ∙ (λ i. method_name (c.as_str.ensures.value i) (c.as_str-2.ensures.value i)) in
    c.in_ok-put_procedure.ensures ∙ ap (λ n. seen_lines c.args.lines.now.items ++ procedure_line c.args.types.now n (seen_procedure c.args.procedure.now) ∷ []) named
