-- The last label that begins before the end tells.
use Rattle.std.proofs.Common.{◌≡◌, ℤ, int_le, false, sym, subst, arith, w64, to_z, of_z}
use Rattle.std.specs.List.{list_any}
use Rattle.std.specs.Ordering.{int_cmp, is_gt}
use Rattle.std.proofs.lemmas.Int.{ints, to_z-of_z}
use Rattle.aos_typed.specs.WellTyped.{meets}
use Rattle.aos_stat_rules.proofs.Apart.{last_meets}
use Rattle.aos_stat_rules.proofs.labels.Labels.meet.Goals as goal

pub returns-in-Some : goal.returns-in-Some
returns-in-Some c =
    let r = c.args.range in
    let k = c.in-Some.field-0-0.now in
    let v = c.in-Some.high.now in
    let high : to_z w64 (of_z w64 c.args.range.high) ≡ c.args.range.high = grind (arith, to_z-of_z) in
    let there = c.range.ensures.in_range tt in
    let at = there.3 (k, v) c.next_back.new.self c.in-Some.ensures.steps in
    let most = there.4 (k, v) c.next_back.new.self c.in-Some.ensures.steps in
    let up = λ (q h : ℤ). is_gt (int_cmp q h) ≡ false in
    let last : list_any (meets c.args.range) c.args.self.now.all.items ≡ int_le c.args.range.low v =
    last_meets c.args.self.now.all.items c.args.self.now.taken c.requires r k v at.1 (subst (up k) high at.0.1)
    (λ q before some. most q (tt, subst (up q) (sym high) before) some) (omega (arith, ints, c.if-range.false)) in
    grind (arith, ints, to_z-of_z, last)
