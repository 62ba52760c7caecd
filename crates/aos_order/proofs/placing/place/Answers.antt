use Rattle.std.proofs.Common.{◌≡◌, length, map, arith, sym, ap, subst, ◌∙◌}
use Rattle.std.proofs.lemmas.List.{length-map}
use Rattle.aos_order.specs.Placing.{AreKnown, placed_after}
use Rattle.aos_order.proofs.Steps.{written, known_kept, grown, placed_grown, stopped}
use Rattle.aos_order.proofs.placing.place.Goals as goal
use Rattle.aos_order.proofs.placing.place.Goals.{else-loop-known-test, then-loop-known-test+in_default}

pub loop-known-smaller : goal.loop-known-smaller
loop-known-smaller c =
    let all = map (λ v. v.items) c.args.needs.now in
    let more = grown all c.loop-known.placed.keys c.insert.new.self.keys c.in-Some.file (sym c.next.ensures.next ∙ c.in-Some.is) c.in_ok-insert.ensures.keys in
    omega (arith, more.1, c.len.ensures.len, c.loop-known-test.true)

pub loop-known-preserved : goal.loop-known-preserved
loop-known-preserved c =
    let all = map (λ v. v.items) c.args.needs.now in
    let keys = c.loop-known.placed.keys in
    let new = c.insert.new.self.keys in
    let file_is = sym c.next.ensures.next ∙ c.in-Some.is in
    let more = grown all keys new c.in-Some.file file_is c.in_ok-insert.ensures.keys in
    let back = written c.loop-known.known.items c.next.new.known c.loop-known.known.len (omega (arith, c.deref_mut.ensures.len)) in
    record {
      numbers = ap length back ∙ omega arith;
      known = subst (λ l. AreKnown all l new) (sym back) (subst (AreKnown all c.next.new.known) (sym more.0) (known_kept all c.next.new.known keys _ c.next.ensures.known));
      placed = placed_grown all keys new c.in-Some.file file_is c.in_ok-insert.ensures.keys c.loop-known.invariant.placed;
      within = omega (arith, more.1, c.len.ensures.len, c.loop-known-test.true);
    }

pub returns : goal.returns
returns c =
    let needs = c.args.needs.now in
    let all = map (λ v. v.items) needs in
    let keys = c.loop-known.placed.keys in
    let at = c.loop-known.invariant.placed in
    elim c.loop-known-test.branch [
      | else-loop-known-test w ↦
          (let end : length keys ≡ length all = omega (arith, length-map needs (λ v. v.items), c.len.ensures.len, w.loop-known-test.false, c.loop-known.invariant.within) in
          at ∙ ap (placed_after all) end)
      | then-loop-known-test+in_default w ↦
          stopped all keys (omega (arith, length-map needs (λ v. v.items), c.loop-known.invariant.within)) at (sym w.next.ensures.next ∙ w.in_default.is)
    ]
