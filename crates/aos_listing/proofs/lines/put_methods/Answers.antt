use Rattle.std.proofs.Common.{◌<◌, [], ◌∷◌, ◌++◌, length, ap, ◌∙◌, arith}
use Rattle.aos_typed.specs.Seen.{seen_method}
use Rattle.aos_listing.specs.Listing.{line, method_line}
use Rattle.aos_listing.specs.Seen.{seen_lines}
use Rattle.aos_listing.proofs.Parts.{one_more}
use Rattle.aos_listing.proofs.lines.put_methods.Goals as goal

pub loop-method-preserved : goal.loop-method-preserved
loop-method-preserved c =
    let l = c.loop-method in
    let ms = c.args.methods.now in
    let lt : l.method-index < length ms = omega arith in
    let x = c.method-item.result in
    one_more seen_method method_line _ _ _ ms l.method-index x lt c.method-item.is l.invariant
    (c.in_ok-put_line.ensures ∙ ap (λ n. seen_lines l.lines.items ++ line 4 n x.slot 0 ∷ []) c.as_str-name.ensures.value)
