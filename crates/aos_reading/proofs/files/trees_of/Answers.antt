use Rattle.std.proofs.Common.{◌≡◌, ◌+◌, ◌<◌, ℕ, length, get_or, sym, ap, subst, ◌∙◌, arith}
use Rattle.std.proofs.lemmas.List.{length_push}
use Rattle.std.proofs.lemmas.Iterator.Consumers.{YieldsList-turn}
use Rattle.std.proofs.lemmas.Iterator.Adapters.{YieldsList-from_vec}
use Rattle.aos_reading.proofs.Readings.{broken_here, tree_more}
use Rattle.aos_reading.proofs.files.trees_of.Goals as goal

pub returns-in-Broken-clause-refused : goal.returns-in-Broken-clause-refused
returns-in-Broken-clause-refused c =
    let rs = c.args.readings.items in
    let begun = c.into_iter-reading-iterator.ensures.into_iter_gives in
    let turn = YieldsList-turn (YieldsList-from_vec {s = c.into_iter-reading-iterator.result} rs begun.0 (begun.1 ∙ c.args.readings.ok.0)) c.loop-reading.yielded
    c.loop-reading.reading-iterator c.loop-reading.yielded_by c.next.result c.next.new.self c.in-Some.reading c.in-Some.is c.next.ensures.steps in
    let i = c.loop-reading.file in
    let number = c.loop-reading.invariant.number in
    let lt : i < length rs = omega (arith, turn.0, number) in
    broken_here rs i c.loop-reading.trees.items c.in-Broken.breach c.in-Some.reading c.refused.result lt
    (subst (λ n. c.in-Some.reading ≡ get_or rs n c.in-Some.reading) (sym number) turn.1) c.in-Broken.is c.loop-reading.invariant.on_the_way c.refused.ensures

pub loop-reading-preserved : goal.loop-reading-preserved
loop-reading-preserved c =
    let rs = c.args.readings.items in
    let begun = c.into_iter-reading-iterator.ensures.into_iter_gives in
    let turn = YieldsList-turn (YieldsList-from_vec {s = c.into_iter-reading-iterator.result} rs begun.0 (begun.1 ∙ c.args.readings.ok.0)) c.loop-reading.yielded
    c.loop-reading.reading-iterator c.loop-reading.yielded_by c.next.result c.next.new.self c.in-Some.reading c.in-Some.is c.next.ensures.steps in
    let i = c.loop-reading.file in
    let number = c.loop-reading.invariant.number in
    let lt : i < length rs = omega (arith, turn.0, number) in
    record {
      number = ap (λ (n : ℕ). n + 1) number ∙ sym (length_push c.loop-reading.yielded c.in-Some.reading);
      on_the_way = tree_more rs i c.loop-reading.trees.items c.push.new.self.items c.in-Tree.tree c.in-Some.reading lt
          (subst (λ n. c.in-Some.reading ≡ get_or rs n c.in-Some.reading) (sym number) turn.1) c.in-Tree.is c.in_ok-push-in-Tree.ensures.items c.loop-reading.invariant.on_the_way;
    }
