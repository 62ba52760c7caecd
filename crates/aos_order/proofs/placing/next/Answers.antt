use Rattle.std.proofs.Common.{◌≡◌, [], length, map, get_or, true, not, ◌&&◌, arith, sym, ap, ◌∙◌}
use Rattle.std.specs.List.{list_all}
use Rattle.std.proofs.lemmas.List.{length-map, get_or-map}
use Rattle.aos_order.specs.Placing.{is_among, is_ready}
use Rattle.aos_order.proofs.Searches.{find_first, find_none}
use Rattle.aos_order.proofs.placing.next.Goals as goal

pub returns-then-are_placed-clause-next : goal.returns-then-are_placed-clause-next
returns-then-are_placed-clause-next c =
    let needs = c.args.needs.now in
    let all = map (λ v. v.items) needs in
    let keys = c.args.placed.now.keys in
    let i = c.loop-file.file-counter in
    let v = c.index-needs-file.result in
    let ready : is_ready all keys i ≡ true =
    ap (λ b. not b && list_all (is_among keys) (get_or all i [])) (sym c.contains.ensures ∙ c.if-not-contains.true)
    ∙ ap (list_all (is_among keys)) (get_or-map (λ v. v.items) needs i v [] c.loop-file-test.true ∙ ap (λ v. v.items) (sym c.index-needs-file.is) ∙ sym c.deref.ensures.value)
    ∙ sym c.are_placed.ensures.all ∙ c.if-are_placed.true in
    sym (find_first (is_ready all keys) (length all) i (omega (arith, length-map needs (λ v. v.items))) ready c.loop-file.invariant.not_before)

pub returns-clause-next : goal.returns-clause-next
returns-clause-next c =
    let all = map (λ v. v.items) c.args.needs.now in
    sym (find_none (is_ready all c.args.placed.now.keys) (length all) (λ j lt. c.loop-file.invariant.not_before j (omega (arith, length-map c.args.needs.now (λ v. v.items)))))
