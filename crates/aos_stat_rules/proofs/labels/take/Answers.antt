-- One more label, which is empty or not.
use Rattle.std.proofs.Common.{◌≡◌, Some, arith, subst, w64, to_z, of_z}
use Rattle.std.specs.Ordering.{int_cmp}
use Rattle.std.specs.BTreeMap.{Updates}
use Rattle.std.proofs.lemmas.Int.{ints, to_z-of_z}
use Rattle.aos_stat_rules.proofs.Apart.{is_least, is_no_least, taken_empty, taken_more}
use Rattle.aos_stat_rules.proofs.labels.take.Goals as goal

pub returns-in_ok-insert : goal.returns-in_ok-insert
returns-in_ok-insert c = λ ls taken apart.
    let r = c.args.range in
    let m = c.args.taken.now in
    let n = c.insert.new.self in
    let low : to_z w64 (of_z w64 c.args.range.low) ≡ c.args.range.low = grind (arith, to_z-of_z) in
    let high : to_z w64 (of_z w64 c.args.range.high) ≡ c.args.range.high = grind (arith, to_z-of_z) in
    taken_more ls m taken r (is_least r.low r.high (omega (arith, ints, c.if-range.true))) apart n
    (subst (λ x. Updates int_cmp m n x (Some r.high)) low
    (subst (λ y. Updates int_cmp m n (to_z w64 (of_z w64 r.low)) (Some y)) high c.in_ok-insert.ensures.updates))

pub returns-else-range : goal.returns-else-range
returns-else-range c = λ ls taken apart.
    let r = c.args.range in
    taken_empty ls c.args.taken.now taken r (is_no_least r.low r.high (omega (arith, ints, c.if-range.false)))
