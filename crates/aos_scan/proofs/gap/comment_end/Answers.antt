use Rattle.std.proofs.Common.{◌≡◌, ℕ, refl, sym, arith, ◌-◌, ◌+◌, subst}
use Rattle.std.proofs.lemmas.Bool.{iff_false}
use Rattle.aos_scan.proofs.ByteLemmas.{read_within}
use Rattle.aos_scan.proofs.Comments.{Levels, levels_open, levels_close, levels_other, levels_past, Comment-bounds}
use Rattle.aos_scan.specs.Gap.{Comment}
use Rattle.aos_scan.proofs.gap.comment_end.Goals as goal

pub loop-at-init : goal.loop-at-init
loop-at-init c =
    let star = read_within c.args.text.now (c.args.from + 1) 42 c.requires.star (omega arith) in
    record {
      positive = omega arith;
      small = omega arith;
      within = omega arith;
      forward = λ end rest. (end, rest, refl);
      back = λ end levels. subst (Comment c.args.text.now (c.args.from + 2)) levels.2 levels.1;
    }

pub loop-at-preserved-then-opens_comment : goal.loop-at-preserved-then-opens_comment
loop-at-preserved-then-opens_comment c =
    let opens = c.if-opens_comment.ensures.0 refl in
    let star = read_within c.args.text.now (c.loop-at.at + 1) 42 opens.star (omega arith) in
    let step = λ (end : ℕ). levels_open c.args.text.now c.loop-at.depth c.loop-at.at end c.loop-at.invariant.positive opens in
    record {
      positive = omega arith;
      small = omega arith;
      within = omega arith;
      forward = λ end rest. (step end).0 (c.loop-at.invariant.forward end rest);
      back = λ end levels. c.loop-at.invariant.back end ((step end).1 levels);
    }

pub loop-at-preserved-else-depth-eq0 : goal.loop-at-preserved-else-depth-eq0
loop-at-preserved-else-depth-eq0 c =
    let closes = c.if-closes_comment.ensures.0 refl in
    let parenthesis = read_within c.args.text.now (c.loop-at.at + 1) 41 closes.parenthesis (omega arith) in
    let step = λ (end : ℕ). levels_close c.args.text.now c.loop-at.depth c.loop-at.at end c.loop-at.invariant.positive closes in
    record {
      positive = omega arith;
      small = omega arith;
      within = omega arith;
      forward = λ end rest. (step end).0 (c.loop-at.invariant.forward end rest);
      back = λ end levels. c.loop-at.invariant.back end ((step end).1 levels);
    }

pub loop-at-preserved : goal.loop-at-preserved
loop-at-preserved c =
    let step = λ (end : ℕ). levels_other c.args.text.now c.loop-at.depth c.loop-at.at end c.loop-at.invariant.positive c.loop-at-test.true (iff_false c.opens_comment.ensures c.if-opens_comment.false) (iff_false c.closes_comment.ensures c.if-closes_comment.false) in
    record {
      positive = omega arith;
      small = omega arith;
      within = omega arith;
      forward = λ end rest. (step end).0 (c.loop-at.invariant.forward end rest);
      back = λ end levels. c.loop-at.invariant.back end ((step end).1 levels);
    }

pub returns-then-depth-eq0-clause-found : goal.returns-then-depth-eq0-clause-found
returns-then-depth-eq0-clause-found c =
    let closes = c.if-closes_comment.ensures.0 refl in
    let last : c.loop-at.depth - 1 ≡ 0 = omega arith in
    let end = c.loop-at.at + 2 in
    let step = levels_close c.args.text.now c.loop-at.depth c.loop-at.at end c.loop-at.invariant.positive closes in
    record {
      opens = c.requires;
      rest = c.loop-at.invariant.back end (step.1 (subst (λ d. Levels c.args.text.now d end end) (sym last) refl));
    }

pub returns-then-depth-eq0-clause-within : goal.returns-then-depth-eq0-clause-within
returns-then-depth-eq0-clause-within c =
    let closes = c.if-closes_comment.ensures.0 refl in
    let last : c.loop-at.depth - 1 ≡ 0 = omega arith in
    let end = c.loop-at.at + 2 in
    let step = levels_close c.args.text.now c.loop-at.depth c.loop-at.at end c.loop-at.invariant.positive closes in
    let bounds = Comment-bounds c.args.text.now (c.loop-at.invariant.back end (step.1 (subst (λ d. Levels c.args.text.now d end end) (sym last) refl))) in
    (omega arith, bounds.1)

pub returns-clause-found : goal.returns-clause-found
returns-clause-found c =
    λ end is. levels_past c.args.text.now c.loop-at.depth c.loop-at.at end c.loop-at.invariant.positive c.loop-at-test.false (c.loop-at.invariant.forward end is.rest)
