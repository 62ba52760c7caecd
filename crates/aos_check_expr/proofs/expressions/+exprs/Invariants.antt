-- What was noted and found so far, and what the rest leads to, is what the whole leads to.
use Rattle.std.proofs.Common.{◌≡◌, drop, length, map, true}
use Rattle.aos_symbols.specs.Breaches.{first_after}
use Rattle.aos_symbols.specs.Judged.{walk}
use Rattle.aos_operators.specs.Operations.{no_elements}
use Rattle.aos_known.specs.Seen.{seen_answer, seen_entity}
use Rattle.aos_arguments.specs.Seen.{seen_handing}
use Rattle.aos_bound.specs.Seen.{seen_part}
use Rattle.aos_check_expr.specs.Expressions as judge
use Rattle.aos_check_expr.proofs.expressions.+exprs.Given as goal

abbrev pub invariant-additions-loop-part : goal.invariant-additions-loop-part
invariant-additions-loop-part l = record {
  noted : first_after l.found (walk (judge.addition l.env l.first) (seen_answer l.whole) (drop l.part-index l.rest)).breaches ≡ first_after l.initial.found (walk (judge.addition l.env l.first) (seen_answer l.initial.whole) l.rest).breaches;
  answer : (walk (judge.addition l.env l.first) (seen_answer l.whole) (drop l.part-index l.rest)).answer ≡ (walk (judge.addition l.env l.first) (seen_answer l.initial.whole) l.rest).answer;
}

abbrev pub invariant-products-loop-part : goal.invariant-products-loop-part
invariant-products-loop-part l = record {
  noted : first_after l.found (walk (judge.product l.env l.first) (seen_answer l.whole) (drop l.part-index l.rest)).breaches ≡ first_after l.initial.found (walk (judge.product l.env l.first) (seen_answer l.initial.whole) l.rest).breaches;
  answer : (walk (judge.product l.env l.first) (seen_answer l.whole) (drop l.part-index l.rest)).answer ≡ (walk (judge.product l.env l.first) (seen_answer l.initial.whole) l.rest).answer;
}

abbrev pub invariant-elements-loop-part : goal.invariant-elements-loop-part
invariant-elements-loop-part l = record {
  noted : first_after l.found (walk (judge.element l.env l.at) (seen_answer l.whole) (drop l.part-index l.all)).breaches ≡ first_after l.initial.found (walk (judge.element l.env l.at) no_elements l.all).breaches;
  answer : (walk (judge.element l.env l.at) (seen_answer l.whole) (drop l.part-index l.all)).answer ≡ (walk (judge.element l.env l.at) no_elements l.all).answer;
}

abbrev pub invariant-follow_selectors-loop-part : goal.invariant-follow_selectors-loop-part
invariant-follow_selectors-loop-part l = record {
  noted : first_after l.found (walk (judge.selector l.env l.first) (seen_part l.whole) (drop l.part-index l.all)).breaches ≡ first_after l.initial.found (walk (judge.selector l.env l.first) (seen_part l.initial.whole) l.all).breaches;
  answer : (walk (judge.selector l.env l.first) (seen_part l.whole) (drop l.part-index l.all)).answer ≡ (walk (judge.selector l.env l.first) (seen_part l.initial.whole) l.all).answer;
}

abbrev pub invariant-indices-loop-part : goal.invariant-indices-loop-part
invariant-indices-loop-part l = record {
  noted : first_after l.found (walk (judge.index l.env l.at) (seen_entity l.whole) (drop l.part-index l.all)).breaches ≡ first_after l.initial.found (walk (judge.index l.env l.at) (seen_entity l.initial.whole) l.all).breaches;
  answer : (walk (judge.index l.env l.at) (seen_entity l.whole) (drop l.part-index l.all)).answer ≡ (walk (judge.index l.env l.at) (seen_entity l.initial.whole) l.all).answer;
}

abbrev pub invariant-handed-loop-argument : goal.invariant-handed-loop-argument
invariant-handed-loop-argument l = record {
  count : length l.all.given ≡ l.argument-index;
  noted : first_after l.found (judge.handed_from l.env (seen_handing l.all) (drop l.argument-index l.parameters) (map (judge.expr l.env) (drop l.argument-index l.arguments)) (drop l.argument-index l.arguments)).breaches ≡ first_after l.initial.found (judge.handed_from l.env (judge.nothing_handed true) l.parameters (map (judge.expr l.env) l.arguments) l.arguments).breaches;
  answer : (judge.handed_from l.env (seen_handing l.all) (drop l.argument-index l.parameters) (map (judge.expr l.env) (drop l.argument-index l.arguments)) (drop l.argument-index l.arguments)).answer ≡ (judge.handed_from l.env (judge.nothing_handed true) l.parameters (map (judge.expr l.env) l.arguments) l.arguments).answer;
}
