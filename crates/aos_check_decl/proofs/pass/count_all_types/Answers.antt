-- One part more, and all of them.
use Rattle.std.proofs.Common.{◌+◌, length, sym, ap, ◌∙◌, arith}
use Rattle.std.proofs.lemmas.List.{length-append, take_all}
use Rattle.aos_symbols.specs.Declarations.{type_defs, types_of, inner_parts}
use Rattle.aos_check_decl.proofs.Counted.{counted, counted_more}
use Rattle.aos_check_decl.proofs.pass.count_all_types.Goals as goal

pub loop-part-preserved : goal.loop-part-preserved
loop-part-preserved c =
    let more = counted_more c.deref-part-items.result.now c.loop-part.part-index c.part-item.result c.loop-part-test.true c.part-item.is in
    omega (arith, more, c.in_ok-count_types.ensures, c.in-Some.ensures.1, c.loop-part.invariant)

pub returns : goal.returns
returns c =
    let ds = c.args.decls.now in
    let all = ap counted (take_all c.loop-part.part-index c.deref-part-items.result.now c.loop-part-test.false ∙ c.deref-part-items.ensures.value)
    ∙ ap (λ ps. length (types_of ps)) c.in_ok-parts.ensures in
    c.loop-part.invariant ∙ ap (λ n. length (type_defs ds) + n) all ∙ sym (length-append (type_defs ds) (types_of (inner_parts ds)))
