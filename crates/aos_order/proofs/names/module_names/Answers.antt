use Rattle.std.proofs.Common.{◌<◌, length, true, false, arith, sym, ◌∙◌, below_more}
use Rattle.std.proofs.lemmas.List.{take_all}
use Rattle.aos_order.specs.Files.{files}
use Rattle.aos_order.specs.Order.{names}
use Rattle.aos_order.proofs.Searches.{negated}
use Rattle.aos_order.proofs.Reading.{length-names, name_at, met, names_more, twice_here, once}
use Rattle.aos_order.proofs.names.module_names.Goals as goal

pub returns-then-not-is_new-clause-again : goal.returns-then-not-is_new-clause-again
returns-then-not-is_new-clause-again c =
    let ms = c.args.modules.now in
    let ts = c.args.texts.now in
    let all = names (files ms ts) in
    let i = c.loop-file.file in
    let ks = c.loop-file.names.keys in
    let word = name_at ms ts c.requires i c.index-modules-file.result c.index-texts-file.result c.deref.result.now c.word.result.now c.loop-file-test.true
    c.index-modules-file.is c.index-texts-file.is c.deref.ensures.value c.word.ensures in
    let lt : i < length all = omega (arith, length-names ms ts c.requires) in
    twice_here all ks i c.loop-file.invariant.names lt c.word.result.now c.in_ok-first.first word c.in_ok-first.ensures.index
    (sym (met all ks i c.loop-file.invariant.names lt c.word.result.now word) ∙ negated c.in_ok-first.is_new _ false c.in_ok-first.ensures.added c.if-not-is_new.true)
    c.loop-file.invariant.once

pub loop-file-preserved : goal.loop-file-preserved
loop-file-preserved c =
    let ms = c.args.modules.now in
    let ts = c.args.texts.now in
    let all = names (files ms ts) in
    let i = c.loop-file.file in
    let ks = c.loop-file.names.keys in
    let word = name_at ms ts c.requires i c.index-modules-file.result c.index-texts-file.result c.deref.result.now c.word.result.now c.loop-file-test.true
    c.index-modules-file.is c.index-texts-file.is c.deref.ensures.value c.word.ensures in
    let lt : i < length all = omega (arith, length-names ms ts c.requires) in
    let new = negated c.in_ok-first.is_new _ true c.in_ok-first.ensures.added c.if-not-is_new.false in
    record {
      names = names_more all ks i c.loop-file.invariant.names lt c.word.result c.insert_full.new.self.keys _ word c.in_ok-first.ensures.keys new;
      once = below_more _ _ c.loop-file.invariant.once (sym (met all ks i c.loop-file.invariant.names lt c.word.result.now word) ∙ new);
    }

pub returns-clause-names : goal.returns-clause-names
returns-clause-names c =
    let ms = c.args.modules.now in
    let ts = c.args.texts.now in
    c.loop-file.invariant.names ∙ take_all c.loop-file.file (names (files ms ts)) (omega (arith, length-names ms ts c.requires))

pub returns-clause-once : goal.returns-clause-once
returns-clause-once c =
    let ms = c.args.modules.now in
    let ts = c.args.texts.now in
    once (names (files ms ts)) (λ j lt. c.loop-file.invariant.once j (omega (arith, length-names ms ts c.requires)))
