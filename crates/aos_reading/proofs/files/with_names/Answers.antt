-- One file more.
use Rattle.std.proofs.Common.{◌≡◌, ℕ, ◌+◌, length, map, get_or, sym, ap, subst, ◌∙◌, arith}
use Rattle.std.proofs.lemmas.List.{length_push}
use Rattle.std.proofs.lemmas.Iterator.Consumers.{YieldsList-turn}
use Rattle.std.proofs.lemmas.Iterator.Adapters.{YieldsList-from_vec}
use Rattle.aos_reading.specs.Files.{named}
use Rattle.aos_reading.specs.Sources.{bytes_of, sources}
use Rattle.aos_reading.proofs.Named.{zip_nothing, named_more}
use Rattle.aos_reading.proofs.files.with_names.Goals as goal

pub bounds-texts-file : goal.bounds-texts-file
bounds-texts-file c =
    let trees = c.args.trees.items in
    let begun = c.into_iter-own-iterator.ensures.into_iter_gives in
    let turn = YieldsList-turn (YieldsList-from_vec {s = c.into_iter-own-iterator.result} trees begun.0 (begun.1 ∙ c.args.trees.ok.0)) c.loop-own.yielded
    c.loop-own.own-iterator c.loop-own.yielded_by c.next.result c.next.new.self c.in-Some.own c.in-Some.is c.next.ensures.steps in
    let file = c.len-file.ensures in
    let second = c.loop-own.invariant.second in
    let many = c.loop-own.named_trees.ok.0 in
    omega (arith, turn.0, file, many, second, c.requires)

pub loop-own-init : goal.loop-own-init
loop-own-init c = record {
  each =
      (λ i. sources (c.new-named_texts.ensures.items i) c.new-named_trees.result.items)
      ∙ sym (ap (map named) (zip_nothing (bytes_of c.args.texts.now)));
  first = ap length c.new-named_texts.ensures.items;
  second = ap length c.new-named_trees.ensures.items;
}

pub loop-own-preserved : goal.loop-own-preserved
loop-own-preserved c =
    let trees = c.args.trees.items in
    let done = c.loop-own.yielded in
    let own = c.in-Some.own in
    let begun = c.into_iter-own-iterator.ensures.into_iter_gives in
    let turn = YieldsList-turn (YieldsList-from_vec {s = c.into_iter-own-iterator.result} trees begun.0 (begun.1 ∙ c.args.trees.ok.0)) done
    c.loop-own.own-iterator c.loop-own.yielded_by c.next.result c.next.new.self own c.in-Some.is c.next.ensures.steps in
    let so_far = c.loop-own.invariant in
    let old_texts = c.loop-own.named_texts.items in
    let old_trees = c.loop-own.named_trees.items in
    let t = c.index-texts-file.result in
    let text = c.in_ok-text.text in
    let tree = c.in_ok-text.tree in
    let file : c.len-file.result ≡ length done = c.len-file.ensures ∙ (c.loop-own.named_trees.ok.0 ∙ so_far.second) in
    let at = subst (λ (n : ℕ). t ≡ get_or c.args.texts.now n t) file c.index-texts-file.is in
    let more = length_push done own in
    let texts_more = ap length c.in_ok-push.ensures.items ∙ length_push old_texts text in
    let trees_more = ap length c.in_ok-push-2.ensures.items ∙ length_push old_trees tree in
    record {
      each =
          (λ i. sources (c.in_ok-push.ensures.items i) (c.in_ok-push-2.ensures.items i))
          ∙ named_more c.args.texts.now old_texts done old_trees t text c.deref.result.now own tree (omega (arith, turn.0, c.requires)) at c.deref.ensures.value
          (so_far.first ∙ sym so_far.second) c.in_ok-text.ensures.text c.in_ok-text.ensures.tree so_far.each;
      first = texts_more ∙ ap (λ (n : ℕ). n + 1) so_far.first ∙ sym more;
      second = trees_more ∙ ap (λ (n : ℕ). n + 1) so_far.second ∙ sym more;
    }
