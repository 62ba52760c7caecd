use Rattle.std.proofs.Common.{◌≡◌, ◌+◌, [], ◌++◌, ◌||◌, append-nil, drop, length, true, false, Some, sym, ap, ◌∙◌, subst, rules, OnOk, IfOk, option_map, w64}
use Rattle.std.proofs.lemmas.Int.{to_z-of_z}
use Rattle.std.specs.Int.RustNames.{FitsSigned}
use Rattle.aos_symbols.specs.Judged.{walk}
use Rattle.aos_typed.specs.Program.{Arms, Arm, While, Repeat, Loop, For, Block}
use Rattle.aos_typed.specs.Seen.{seen_stat, cases_of}
use Rattle.aos_symbols.specs.Breaches.{first_after}
use Rattle.aos_symbols.proofs.Keeping.{after_more}
use Rattle.aos_known.specs.Known.{width_of}
use Rattle.aos_values.specs.TypeNames.{known_type}
use Rattle.aos_check_expr.specs.Expressions.{condition}
use Rattle.aos_check_stat.specs.Bodies as judge
use Rattle.aos_check_stat.specs.Bodies.{listed}
use Rattle.aos_check_stat.specs.Listed as parts
use Rattle.aos_tree.specs.declared.stat.StatSeq.{size_is-StatSeq}
use Rattle.aos_made_stat.specs.Onto.{onto}
use Rattle.aos_check_stat.proofs.Rows.{stats_seen, stat_while, stat_repeat, stat_block, stat_loop, stat_for, stat_with, arms_noted, arms_put, if_noted, if_answer, cases_noted, cases_put, case_noted, case_answer}
use Rattle.aos_check_stat.proofs.statements.+statements.Goals as goal

pub block_of-returns-clause-answer : goal.block_of-returns-clause-answer
block_of-returns-clause-answer t c =
    let b = c.in_ok-body.body in
    let e = c.args.env.now in
    let at = c.args.block.now.pos in
    let flag = c.are_exclusive-exclusive.ensures
    ∙ ap (λ w. judge.are_exclusive w c.as_slice-modifiers.result.now) c.text-text.ensures
    ∙ ap (judge.are_exclusive c.args.env.now.here.text) c.as_slice-modifiers.ensures in
    let within = c.enter_block-around.ensures.env ∙ ap (λ x. judge.in_region (e.is_exclusive || x) e) flag in
    let body = c.in_ok-body.ensures.answer ∙ ap (λ f. (parts.listed_in f c.args.in_loop c.as_slice.result.now).answer) within ∙ ap (λ l. (parts.listed_in (judge.within_block c.args.block.now.modifiers e) c.args.in_loop l).answer) c.as_slice.ensures in
    ap (λ s. Some s) (c.in_ok-one.ensures
    ∙ (λ i. Block at (flag i) ((stats_seen b ∙ ap listed body) i)))

pub block_of-returns-clause-noted : goal.block_of-returns-clause-noted
block_of-returns-clause-noted t c =
    let e = c.args.env.now in
    let met = c.args.found.now in
    let b = c.args.block.now in
    let flag = c.are_exclusive-exclusive.ensures
    ∙ ap (λ w. judge.are_exclusive w c.as_slice-modifiers.result.now) c.text-text.ensures
    ∙ ap (judge.are_exclusive e.here.text) c.as_slice-modifiers.ensures in
    let own = judge.modifier_breaches e.here.text false b.modifiers in
    let inner = judge.within_block b.modifiers e in
    let ss = (parts.listed_in inner c.args.in_loop b.body.stats).breaches in
    let within = c.enter_block-around.ensures.env ∙ ap (λ x. judge.in_region (e.is_exclusive || x) e) flag in
    let first = c.refuse_modifiers.ensures
    ∙ ap (λ w. first_after met (judge.modifier_breaches w false c.as_slice-modifiers.result.now)) c.text-text.ensures
    ∙ ap (λ l. first_after met (judge.modifier_breaches e.here.text false l)) c.as_slice-modifiers.ensures in
    let second = c.in_ok-body.ensures.noted
    ∙ ap (λ n. first_after c.refuse_modifiers.new.found (parts.listed_in n c.args.in_loop c.as_slice.result.now).breaches) within
    ∙ ap (λ l. first_after c.refuse_modifiers.new.found (parts.listed_in inner c.args.in_loop l).breaches) c.as_slice.ensures in
    second
    ∙ ap (λ m. first_after m ss) first
    ∙ sym (after_more met own ss)
    ∙ ap (λ l. first_after met (own ++ l)) (sym (append-nil ss))

pub stat_of-returns-in-Block-clause-noted : goal.stat_of-returns-in-Block-clause-noted
stat_of-returns-in-Block-clause-noted t c =
    subst (λ j. OnOk c.block_of.result (c.block_of.new.found ≡ first_after c.args.found.now j.breaches)) (sym (stat_block c.args.env.now c.args.in_loop c.args.stat.now c.in-Block.block c.in-Block.is)) c.block_of.ensures.noted

pub stat_of-returns-in-Block-clause-answer : goal.stat_of-returns-in-Block-clause-answer
stat_of-returns-in-Block-clause-answer t c =
    subst (λ j. IfOk c.block_of.result (λ s. option_map seen_stat s ≡ j.answer)) (sym (stat_block c.args.env.now c.args.in_loop c.args.stat.now c.in-Block.block c.in-Block.is)) c.block_of.ensures.answer

pub cases_in-loop-arm-preserved : goal.cases_in-loop-arm-preserved
cases_in-loop-arm-preserved t c =
    let e = c.args.env.now in
    let l = c.loop-arm in
    let ls = l.labels.all.items in
    let a = c.in-Arm in
    let same = l.invariant.env in
    let all = c.in_ok-own.ensures.all ∙ ap (λ n. (walk (judge.label_in n c.args.of) ls c.as_slice.result.now).answer) same ∙ ap (λ z. (walk (judge.label_in e c.args.of) ls z).answer) c.as_slice.ensures in
    let own = c.in_ok-own.ensures.behind ∙ ap (λ n. drop (length ls) (walk (judge.label_in n c.args.of) ls c.as_slice.result.now).answer) same ∙ ap (λ z. drop (length ls) (walk (judge.label_in e c.args.of) ls z).answer) c.as_slice.ensures in
    let one = c.in_ok-own.ensures.noted ∙ ap (λ n. first_after l.found (walk (judge.label_in n c.args.of) ls c.as_slice.result.now).breaches) same ∙ ap (λ z. first_after l.found (walk (judge.label_in e c.args.of) ls z).breaches) c.as_slice.ensures in
    let two = c.in_ok-body.ensures.noted ∙ ap (λ n. first_after c.labels_in.new.found (parts.listed_in n c.args.in_loop c.as_slice-in-loop-arm.result.now).breaches) same ∙ ap (λ z. first_after c.labels_in.new.found (parts.listed_in e c.args.in_loop z).breaches) c.as_slice-in-loop-arm.ensures in
    let body = c.in_ok-body.ensures.answer ∙ ap (λ n. (parts.listed_in n c.args.in_loop c.as_slice-in-loop-arm.result.now).answer) same ∙ ap (λ z. (parts.listed_in e c.args.in_loop z).answer) c.as_slice-in-loop-arm.ensures in
    let is = sym c.arm-item.is ∙ a.is in
    record {
      taken = c.in_ok-own.ensures.taken;
      noted = λ last. cases_noted e c.args.in_loop c.args.of ls c.args.arms.now l.arm-index c.arm-item.result c.loop-arm-test.true a.own a.body is last c.labels_in.new.labels.all.items all l.found c.labels_in.new.found c.stats_in.new.found one two ∙ l.invariant.noted last;
      answer = λ last. cases_put e c.args.in_loop c.args.of ls c.args.arms.now l.arm-index c.arm-item.result c.loop-arm-test.true a.own a.body is last c.labels_in.new.labels.all.items all l.all c.push.new.self c.in_ok-own.own.items c.in_ok-body.body c.in_ok-push.ensures own body ∙ l.invariant.answer last;
      env = c.in_ok-body.ensures.env ∙ same;
    }

pub loop_of-returns-clause-answer : goal.loop_of-returns-clause-answer
loop_of-returns-clause-answer t c =
    let b = c.in_ok-body.body in
    let body = c.in_ok-body.ensures.answer ∙ ap (λ l. (parts.listed_in c.args.env.now true l).answer) c.as_slice.ensures in
    ap (λ s. Some s) (c.in_ok-one.ensures ∙ ap (λ l. Loop c.args.at l) (stats_seen b ∙ ap listed body))

pub put_arms-loop-elsif-preserved : goal.put_arms-loop-elsif-preserved
put_arms-loop-elsif-preserved t c =
    let e = c.args.env.now in
    let l = c.loop-elsif in
    let x = c.elsif-item.result in
    let xs = c.args.elsifs.now in
    let there = c.elsif-item.is in
    let same = l.invariant.env in
    let one = c.in_ok-put_arm.ensures.noted ∙ ap (λ n. first_after l.found (parts.tested n c.args.in_loop x.condition x.body.stats).breaches) same ∙ ap (λ z. first_after l.found (parts.tested e c.args.in_loop z.condition z.body.stats).breaches) there in
    let put = λ (others : Arms). c.in_ok-put_arm.ensures.answer others
    ∙ ap (λ n. onto l.arms (Arm (condition n x.condition).answer (listed (parts.listed_in n c.args.in_loop x.body.stats).answer) others)) same
    ∙ ap (λ z. onto l.arms (Arm (condition e z.condition).answer (listed (parts.listed_in e c.args.in_loop z.body.stats).answer) others)) there in
    record {
      noted = λ last. arms_noted e c.args.in_loop xs l.elsif-index x c.loop-elsif-test.true last l.found c.put_arm.new.found one ∙ l.invariant.noted last;
      answer = λ last. arms_put e c.args.in_loop xs l.elsif-index x c.loop-elsif-test.true last l.arms c.put_arm.new.arms put ∙ l.invariant.answer last;
      env = c.in_ok-put_arm.ensures.env ∙ same;
    }

pub stat_of-returns-in_ok-one-in-If-clause-noted : goal.stat_of-returns-in_ok-one-in-If-clause-noted
stat_of-returns-in_ok-one-in-If-clause-noted t c =
    let e = c.args.env.now in
    let x = c.in-If in
    if_noted e c.args.in_loop c.args.stat.now x.at x.test x.body x.arms x.last x.is c.args.found.now c.put_arm.new.found c.put_arms.new.found c.else_of.new.found c.in_ok-put_arm-in-If.ensures.noted
    (λ last. c.in_ok-put_arms-in-If.ensures.noted last ∙ ap (λ n. first_after c.put_arm.new.found (parts.arms_in n c.args.in_loop c.as_slice.result.now last).breaches) c.in_ok-put_arm-in-If.ensures.env ∙ ap (λ z. first_after c.put_arm.new.found (parts.arms_in e c.args.in_loop z last).breaches) c.as_slice.ensures)
    (c.in_ok-last-in-If.ensures.noted ∙ ap (λ n. first_after c.put_arms.new.found (parts.behind_else n c.args.in_loop x.last).breaches) (c.in_ok-put_arms-in-If.ensures.env ∙ c.in_ok-put_arm-in-If.ensures.env))

pub stat_of-returns-in_ok-one-in-If-clause-answer : goal.stat_of-returns-in_ok-one-in-If-clause-answer
stat_of-returns-in_ok-one-in-If-clause-answer t c =
    let e = c.args.env.now in
    let x = c.in-If in
    let arm = Arm (condition e x.test).answer (listed (parts.listed_in e c.args.in_loop x.body.stats).answer) in
    let first = c.put_arm.new.arms in
    if_answer e c.args.in_loop c.args.stat.now x.at x.test x.body x.arms x.last x.is c.in_ok-one-in-If.one c.put_arms.new.arms c.in_ok-last-in-If.last c.in_ok-one-in-If.ensures
    (λ last. c.in_ok-put_arms-in-If.ensures.answer last
    ∙ ap (λ n. onto first (parts.arms_in n c.args.in_loop c.as_slice.result.now last).answer) c.in_ok-put_arm-in-If.ensures.env
    ∙ ap (λ z. onto first (parts.arms_in e c.args.in_loop z last).answer) c.as_slice.ensures
    ∙ c.in_ok-put_arm-in-If.ensures.answer (parts.arms_in e c.args.in_loop x.arms last).answer
    ∙ ap (λ z. onto z (arm (parts.arms_in e c.args.in_loop x.arms last).answer)) c.new-all.ensures)
    (c.in_ok-last-in-If.ensures.answer ∙ ap (λ n. (parts.behind_else n c.args.in_loop x.last).answer) (c.in_ok-put_arms-in-If.ensures.env ∙ c.in_ok-put_arm-in-If.ensures.env))

pub stat_of-returns-in_ok-one-in-Case-clause-noted : goal.stat_of-returns-in_ok-one-in-Case-clause-noted
stat_of-returns-in_ok-one-in-Case-clause-noted t c =
    let e = c.args.env.now in
    let x = c.in-Case in
    let v = c.in_ok-value-in-Case in
    let of = ap (λ z. z.known.of) v.ensures.answer in
    case_noted e c.args.in_loop c.args.stat.now x.at x.value x.arms x.last x.is v.value.known.of of c.args.found.now c.selector.new.found c.cases_in.new.found c.case_else.new.found v.ensures.noted
    (λ last. c.in_ok-all-in-Case.ensures.noted last ∙ ap (λ z. first_after c.selector.new.found (parts.cases_of e c.args.in_loop v.value.known.of [] z last).breaches) c.as_slice-in-Case.ensures)
    (c.in_ok-last-in-Case.ensures.noted ∙ ap (λ n. first_after c.cases_in.new.found (parts.else_of_case n c.args.in_loop x.last).breaches) c.in_ok-all-in-Case.ensures.env)

pub stat_of-returns-in_ok-one-in-Case-clause-answer : goal.stat_of-returns-in_ok-one-in-Case-clause-answer
stat_of-returns-in_ok-one-in-Case-clause-answer t c =
    let e = c.args.env.now in
    let x = c.in-Case in
    let v = c.in_ok-value-in-Case in
    let of = ap (λ z. z.known.of) v.ensures.answer in
    case_answer e c.args.in_loop c.args.stat.now x.at x.value x.arms x.last x.is v.value.known.of of c.in_ok-one-in-Case.one v.value.typed c.in_ok-all-in-Case.all c.in_ok-last-in-Case.last c.in_ok-one-in-Case.ensures (ap (λ z. z.typed) v.ensures.answer)
    (λ last. c.in_ok-all-in-Case.ensures.answer last ∙ ap (λ z. (parts.cases_of e c.args.in_loop v.value.known.of [] z last).answer) c.as_slice-in-Case.ensures)
    (c.in_ok-last-in-Case.ensures.answer ∙ ap (λ n. (parts.else_of_case n c.args.in_loop x.last).answer) c.in_ok-all-in-Case.ensures.env)

pub repeat_of-returns-clause-noted : goal.repeat_of-returns-clause-noted
repeat_of-returns-clause-noted t c =
    let e = c.args.env.now in
    let met = c.args.found.now in
    let ss = parts.listed_in e c.args.in_loop c.args.body.now.stats in
    let test = condition e c.args.test.now in
    let first = c.in_ok-body.ensures.noted ∙ ap (λ l. first_after met (parts.listed_in e c.args.in_loop l).breaches) c.as_slice.ensures in
    let second = c.in_ok-test.ensures.noted ∙ ap (λ n. first_after c.stats_in.new.found (condition n c.args.test.now).breaches) c.in_ok-body.ensures.env in
    second
    ∙ ap (λ m. first_after m test.breaches) first
    ∙ sym (after_more met ss.breaches test.breaches)
    ∙ ap (λ l. first_after met (ss.breaches ++ l)) (sym (append-nil test.breaches))

pub repeat_of-returns-clause-answer : goal.repeat_of-returns-clause-answer
repeat_of-returns-clause-answer t c =
    let b = c.in_ok-body.body in
    let body = c.in_ok-body.ensures.answer ∙ ap (λ l. (parts.listed_in c.args.env.now c.args.in_loop l).answer) c.as_slice.ensures in
    let test = c.in_ok-test.ensures.answer ∙ ap (λ n. (condition n c.args.test.now).answer) c.in_ok-body.ensures.env in
    ap (λ s. Some s) (c.in_ok-one.ensures ∙ (λ i. Repeat c.args.at ((stats_seen b ∙ ap listed body) i) (test i)))

pub stat_of-returns-in-Loop-clause-noted : goal.stat_of-returns-in-Loop-clause-noted
stat_of-returns-in-Loop-clause-noted t c =
    subst (λ j. OnOk c.loop_of.result (c.loop_of.new.found ≡ first_after c.args.found.now j.breaches)) (sym (stat_loop c.args.env.now c.args.in_loop c.args.stat.now c.in-Loop.at c.in-Loop.body c.in-Loop.is)) c.loop_of.ensures.noted

pub stat_of-returns-in-Loop-clause-answer : goal.stat_of-returns-in-Loop-clause-answer
stat_of-returns-in-Loop-clause-answer t c =
    subst (λ j. IfOk c.loop_of.result (λ s. option_map seen_stat s ≡ j.answer)) (sym (stat_loop c.args.env.now c.args.in_loop c.args.stat.now c.in-Loop.at c.in-Loop.body c.in-Loop.is)) c.loop_of.ensures.answer

pub stat_of-returns-in-For-clause-noted : goal.stat_of-returns-in-For-clause-noted
stat_of-returns-in-For-clause-noted t c =
    let x = c.in-For in
    subst (λ j. OnOk c.for_of.result (c.for_of.new.found ≡ first_after c.args.found.now j.breaches)) (sym (stat_for c.args.env.now c.args.in_loop c.args.stat.now x.at x.name x.assigned x.from x.to x.by x.body x.is)) c.for_of.ensures.noted

pub stat_of-returns-in-For-clause-answer : goal.stat_of-returns-in-For-clause-answer
stat_of-returns-in-For-clause-answer t c =
    let x = c.in-For in
    subst (λ j. IfOk c.for_of.result (λ s. option_map seen_stat s ≡ j.answer)) (sym (stat_for c.args.env.now c.args.in_loop c.args.stat.now x.at x.name x.assigned x.from x.to x.by x.body x.is)) c.for_of.ensures.answer

pub while_of-returns-clause-answer : goal.while_of-returns-clause-answer
while_of-returns-clause-answer t c =
    let b = c.in_ok-body.body in
    let body = c.in_ok-body.ensures.answer ∙ ap (λ l. (parts.listed_in c.args.env.now c.args.in_loop l).answer) c.as_slice.ensures in
    let test = c.in_ok-test.ensures.answer in
    ap (λ s. Some s) (c.in_ok-one.ensures ∙ (λ i. While c.args.at (test i) ((stats_seen b ∙ ap listed body) i)))

pub stat_of-returns-in-With-clause-noted : goal.stat_of-returns-in-With-clause-noted
stat_of-returns-in-With-clause-noted t c =
    let x = c.in-With in
    subst (λ j. OnOk c.with_of.result (c.with_of.new.found ≡ first_after c.args.found.now j.breaches)) (sym (stat_with c.args.env.now c.args.in_loop c.args.stat.now x.at x.name x.colon x.of x.body x.is)) c.with_of.ensures.noted

pub stat_of-returns-in-With-clause-answer : goal.stat_of-returns-in-With-clause-answer
stat_of-returns-in-With-clause-answer t c =
    let x = c.in-With in
    subst (λ j. IfOk c.with_of.result (λ s. option_map seen_stat s ≡ j.answer)) (sym (stat_with c.args.env.now c.args.in_loop c.args.stat.now x.at x.name x.colon x.of x.body x.is)) c.with_of.ensures.answer

pub put_arm-returns-clause-answer : goal.put_arm-returns-clause-answer
put_arm-returns-clause-answer t c = λ others.
    let e = c.args.env.now in
    let body = c.in_ok-body.ensures.answer ∙ ap (λ l. (parts.listed_in e c.args.in_loop l).answer) c.as_slice.ensures in
    c.in_ok-push.ensures others
    ∙ (λ i. onto c.args.arms.now (Arm (c.in_ok-test.ensures.answer i) ((stats_seen c.in_ok-body.body ∙ ap listed body) i) others))

pub for_of-returns-clause-answer : goal.for_of-returns-clause-answer
for_of-returns-clause-answer t c =
    let e = c.args.env.now in
    let h = c.in_ok-head.ensures.answer in
    let body = c.in_ok-body.ensures.answer ∙ ap (λ l. (parts.listed_in e c.args.in_loop l).answer) c.as_slice.ensures in
    let width = c.width_of.ensures ∙ ap (λ z. width_of z.0.1) h in
    let fits : FitsSigned w64 c.in_ok-head.head.step = search rules in
    let step = to_z-of_z w64 c.in_ok-head.head.step fits ∙ ap (λ z. z.3) h in
    ap (λ s. Some s) (c.in_ok-one.ensures
    ∙ (λ i. For c.args.at (width i) (h i).0.0 (h i).1 (h i).2 (step i) ((stats_seen c.in_ok-body.body ∙ ap listed body) i)))

pub with_of-returns-clause-answer : goal.with_of-returns-clause-answer
with_of-returns-clause-answer t c =
    let e = c.args.env.now in
    let q = c.args.variable in
    let u = (known_type e c.args.of).answer in
    let g = c.in_ok-guarded.ensures.answer in
    let inside = c.in_ok-around.ensures.env ∙ ap (λ z. judge.narrowed_by e q z.1) g in
    let body = c.in_ok-body.ensures.answer
    ∙ ap (λ n. (parts.listed_in n c.args.in_loop c.as_slice.result.now).answer) inside
    ∙ ap (λ l. (parts.listed_in (judge.narrowed_by e q u) c.args.in_loop l).answer) c.as_slice.ensures in
    ap (λ s. Some s) (c.in_ok-one.ensures ∙ (λ i. judge.with_stat c.args.at (g i).0.held ((stats_seen c.in_ok-body.body ∙ ap listed body) i)))

pub stat_of-returns-in-While-clause-noted : goal.stat_of-returns-in-While-clause-noted
stat_of-returns-in-While-clause-noted t c =
    let x = c.in-While in
    subst (λ j. OnOk c.while_of.result (c.while_of.new.found ≡ first_after c.args.found.now j.breaches)) (sym (stat_while c.args.env.now c.args.in_loop c.args.stat.now x.at x.test x.body x.is)) c.while_of.ensures.noted

pub stat_of-returns-in-While-clause-answer : goal.stat_of-returns-in-While-clause-answer
stat_of-returns-in-While-clause-answer t c =
    let x = c.in-While in
    subst (λ j. IfOk c.while_of.result (λ s. option_map seen_stat s ≡ j.answer)) (sym (stat_while c.args.env.now c.args.in_loop c.args.stat.now x.at x.test x.body x.is)) c.while_of.ensures.answer

pub stat_of-returns-in-Repeat-clause-noted : goal.stat_of-returns-in-Repeat-clause-noted
stat_of-returns-in-Repeat-clause-noted t c =
    let x = c.in-Repeat in
    subst (λ j. OnOk c.repeat_of.result (c.repeat_of.new.found ≡ first_after c.args.found.now j.breaches)) (sym (stat_repeat c.args.env.now c.args.in_loop c.args.stat.now x.at x.body x.test x.is)) c.repeat_of.ensures.noted

pub stat_of-returns-in-Repeat-clause-answer : goal.stat_of-returns-in-Repeat-clause-answer
stat_of-returns-in-Repeat-clause-answer t c =
    let x = c.in-Repeat in
    subst (λ j. IfOk c.repeat_of.result (λ s. option_map seen_stat s ≡ j.answer)) (sym (stat_repeat c.args.env.now c.args.in_loop c.args.stat.now x.at x.body x.test x.is)) c.repeat_of.ensures.answer

pub for_of-stats_in-requires : goal.for_of-stats_in-requires
for_of-stats_in-requires t c = search (rules, size_is-StatSeq c.args.body.now, c.as_slice.ensures)

pub with_of-stats_in-requires : goal.with_of-stats_in-requires
with_of-stats_in-requires t c = search (rules, size_is-StatSeq c.args.body.now, c.as_slice.ensures)
