use Rattle.std.proofs.Common.{◌<◌, Err, length, vec_len, arith, sym, ap, subst, ◌∙◌}
use Rattle.std.proofs.lemmas.Result.{err_from_is_err_and}
use Rattle.aos_order.specs.Files.{files}
use Rattle.aos_order.specs.Order.{NamesFiles, Order, names}
use Rattle.std.specs.List.{All}
use Rattle.aos_order.proofs.Reading.{length-files, length-names}
use Rattle.aos_order.proofs.Answering.{placed_are, twice_within, absent_within, order_is, cycle_is, order_within, cycle_within, has_some, has_none}
use Rattle.aos_order.proofs.order.Goals as goal

pub returns-in_err-names-clause-within : goal.returns-in_err-names-clause-within
returns-in_err-names-clause-within c =
    let p = err_from_is_err_and c.from_residual.result c.from_residual.ensures.1 in
    let ms = c.args.modules.now in
    let ts = c.args.texts.now in
    let e = c.in_err-names.field-0.0 in
    rw (p.1, p.2) (subst (λ n. NamesFiles n (Err e)) (length-names ms ts c.requires) (twice_within (names (files ms ts)) e c.in_err-names.ensures.again))

pub returns-in_err-needs-clause-within : goal.returns-in_err-needs-clause-within
returns-in_err-needs-clause-within c =
    let p = err_from_is_err_and c.from_residual-in_err-needs.result c.from_residual-in_err-needs.ensures.1 in
    let ms = c.args.modules.now in
    let ts = c.args.texts.now in
    let e = c.in_err-needs.field-0.0 in
    rw (p.1, p.2) (subst (λ n. NamesFiles n (Err e)) (length-files ms ts c.requires) (absent_within (files ms ts) e c.in_err-needs.ensures.absent))

pub returns-then-not-is_empty-clause-exact : goal.returns-then-not-is_empty-clause-exact
returns-then-not-is_empty-clause-exact c =
    let ms = c.args.modules.now in
    let ts = c.args.texts.now in
    let left = c.in_ok-left.left in
    let keys = c.in_ok-placed.placed.keys in
    let keys_are = placed_are (files ms ts) keys c.deref.result.now c.in_ok-needs.needs.items c.in_ok-placed.ensures c.deref.ensures.value c.in_ok-needs.ensures.needs in
    cycle_is (files ms ts) (length ms) (length-files ms ts c.requires) keys left.items keys_are c.in_ok-left.ensures c.in_ok-names.ensures.once c.in_ok-needs.ensures.given
    (has_some left.items (vec_len left) c.is_empty.result (omega arith) c.is_empty.ensures c.if-not-is_empty.true)

pub returns-then-not-is_empty-clause-within : goal.returns-then-not-is_empty-clause-within
returns-then-not-is_empty-clause-within c =
    let ms = c.args.modules.now in
    let ts = c.args.texts.now in
    let left = c.in_ok-left.left in
    let keys = c.in_ok-placed.placed.keys in
    let keys_are = placed_are (files ms ts) keys c.deref.result.now c.in_ok-needs.needs.items c.in_ok-placed.ensures c.deref.ensures.value c.in_ok-needs.ensures.needs in (
      (has_some left.items (vec_len left) c.is_empty.result (omega arith) c.is_empty.ensures c.if-not-is_empty.true),
      cycle_within (files ms ts) (length ms) (length-files ms ts c.requires) keys left.items keys_are c.in_ok-left.ensures c.in_ok-names.ensures.once c.in_ok-needs.ensures.given,
    )

pub returns-clause-exact : goal.returns-clause-exact
returns-clause-exact c =
    let ms = c.args.modules.now in
    let ts = c.args.texts.now in
    let left = c.in_ok-left.left in
    let keys = c.in_ok-placed.placed.keys in
    let keys_are = placed_are (files ms ts) keys c.deref.result.now c.in_ok-needs.needs.items c.in_ok-placed.ensures c.deref.ensures.value c.in_ok-needs.ensures.needs in
    order_is (files ms ts) (length ms) (length-files ms ts c.requires) keys left.items keys_are c.in_ok-left.ensures c.in_ok-names.ensures.once c.in_ok-needs.ensures.given
    (has_none left.items (vec_len left) c.is_empty.result (omega arith) c.is_empty.ensures c.if-not-is_empty.false)
    ∙ ap Order (sym (c.in_ok-to_vec.ensures.items_if_clones_equal (λ x y same. same) ∙ c.as_slice.ensures.keys))

pub returns-clause-within : goal.returns-clause-within
returns-clause-within c =
    let ms = c.args.modules.now in
    let ts = c.args.texts.now in
    let left = c.in_ok-left.left in
    let keys = c.in_ok-placed.placed.keys in
    let keys_are = placed_are (files ms ts) keys c.deref.result.now c.in_ok-needs.needs.items c.in_ok-placed.ensures c.deref.ensures.value c.in_ok-needs.ensures.needs in
    subst (λ l. All (λ k. k < length ms) l) (sym (c.in_ok-to_vec.ensures.items_if_clones_equal (λ x y same. same) ∙ c.as_slice.ensures.keys))
    (order_within (files ms ts) (length ms) (length-files ms ts c.requires) keys left.items keys_are c.in_ok-left.ensures c.in_ok-names.ensures.once c.in_ok-needs.ensures.given)
