-- Numbers, the forms of a factor and of a selector that stand in a row or a box, spans, and calls with two arguments.
use Rattle.std.proofs.Common.{◌≡◌, map, IfOk, OnOk, sym, ap, ◌∙◌, subst, w64, to_z, of_z, to_z-of_z, arith}
use Rattle.std.specs.Option.{option_copied}
use Rattle.aos_base.specs.declared.number.Width.TheVariants.{W64}
use Rattle.aos_base.specs.Number.{if_within}
use Rattle.aos_tree.specs.declared.expr.Expr.{out-Expr}
use Rattle.aos_tree.specs.declared.expr.Elem.{out-Elem}
use Rattle.aos_symbols.specs.Breaches.{first_after}
use Rattle.aos_symbols.specs.Judged.{Judged, walk}
use Rattle.aos_known.specs.Known.{Answer}
use Rattle.aos_operators.specs.Operations.{no_elements}
use Rattle.aos_known.specs.Seen.{seen_answer, seen_entity}
use Rattle.aos_designators.specs.Designators.{read}
use Rattle.aos_check_expr.specs.Expressions as judge
use Rattle.aos_check_expr.proofs.Rows.{two_items, factor_desig, factor_set, factor_not, element_as, element_is}
use Rattle.aos_check_expr.proofs.Told as told
use Rattle.aos_check_expr.proofs.expressions.+exprs.Goals as goal

pub factor-returns-in-Number-clause-answer : goal.factor-returns-in-Number-clause-answer
factor-returns-in-Number-clause-answer t c =
    let n = c.in-Number.n in
    let same : to_z w64 (of_z w64 n) ≡ n = grind (arith, to_z-of_z) in
    ap (λ (j : Judged Answer). j.answer) (c.number.ensures c.in-Number.field-0)
    ∙ ap (λ z. (judge.number (if_within W64 z) c.in-Number.field-0).answer) same
    ∙ ap (λ x. (judge.factor c.args.env.now x).answer) (sym c.in-Number.is)

pub factor-returns-in_ok-entity-in-Desig-clause-noted : goal.factor-returns-in_ok-entity-in-Desig-clause-noted
factor-returns-in_ok-entity-in-Desig-clause-noted t c =
    let env = c.args.env.now in
    let w = c.in-Desig in
    let is = factor_desig env c.args.part.now w.desig w.is in
    let one = c.in_ok-entity-in-Desig in
    c.read.ensures.noted
    ∙ told.noted (judge.factor env c.args.part.now) (judge.designator env w.desig) (read env) (seen_entity one.entity) is one.ensures.answer
    c.args.found.now c.designator.new.found one.ensures.noted

pub factor-returns-in_ok-entity-in-Desig-clause-answer : goal.factor-returns-in_ok-entity-in-Desig-clause-answer
factor-returns-in_ok-entity-in-Desig-clause-answer t c =
    let env = c.args.env.now in
    let w = c.in-Desig in
    let is = factor_desig env c.args.part.now w.desig w.is in
    let one = c.in_ok-entity-in-Desig in
    c.read.ensures.answer ∙ told.answer (judge.factor env c.args.part.now) (judge.designator env w.desig) (read env) (seen_entity one.entity) is one.ensures.answer

pub factor-returns-in_ok-set-in-Set-clause-noted : goal.factor-returns-in_ok-set-in-Set-clause-noted
factor-returns-in_ok-set-in-Set-clause-noted t c =
    let env = c.args.env.now in
    let w = c.in-Set in
    let is = factor_set env c.args.part.now w.at w.all w.is in
    let same = ap (λ xs. walk (judge.element env w.at) no_elements xs) c.as_slice.ensures in
    let one = c.in_ok-set-in-Set in
    c.whole_set.ensures.noted
    ∙ told.noted (judge.factor env c.args.part.now) (walk (judge.element env w.at) no_elements w.all) (judge.whole_set w.at) (seen_answer one.set) is
    (one.ensures.answer ∙ ap (λ z. z.answer) same) c.args.found.now c.elements.new.found
    (one.ensures.noted ∙ ap (λ z. first_after c.args.found.now z.breaches) same)

pub factor-returns-in_ok-set-in-Set-clause-answer : goal.factor-returns-in_ok-set-in-Set-clause-answer
factor-returns-in_ok-set-in-Set-clause-answer t c =
    let env = c.args.env.now in
    let w = c.in-Set in
    let is = factor_set env c.args.part.now w.at w.all w.is in
    let same = ap (λ xs. walk (judge.element env w.at) no_elements xs) c.as_slice.ensures in
    let one = c.in_ok-set-in-Set in
    c.whole_set.ensures.answer
    ∙ told.answer (judge.factor env c.args.part.now) (walk (judge.element env w.at) no_elements w.all) (judge.whole_set w.at) (seen_answer one.set) is
    (one.ensures.answer ∙ ap (λ z. z.answer) same)

pub factor-returns-in_ok-inner-in-Not-clause-noted : goal.factor-returns-in_ok-inner-in-Not-clause-noted
factor-returns-in_ok-inner-in-Not-clause-noted t c =
    let env = c.args.env.now in
    let w = c.in-Not in
    let is = factor_not env c.args.part.now w.at w.inner w.is in
    let same = ap (λ x. judge.factor env x) c.get-in-Not.ensures in
    let one = c.in_ok-inner-in-Not in
    subst (λ z. OnOk c.opposite.result (c.opposite.new.found ≡ z))
    (told.noted (judge.factor env c.args.part.now) (judge.factor env w.inner) (judge.opposite w.at) (seen_answer one.inner) is
    (one.ensures.answer ∙ ap (λ z. z.answer) same) c.args.found.now c.factor.new.found
    (one.ensures.noted ∙ ap (λ z. first_after c.args.found.now z.breaches) same))
    c.opposite.ensures.noted

pub factor-returns-in_ok-inner-in-Not-clause-answer : goal.factor-returns-in_ok-inner-in-Not-clause-answer
factor-returns-in_ok-inner-in-Not-clause-answer t c =
    let env = c.args.env.now in
    let w = c.in-Not in
    let is = factor_not env c.args.part.now w.at w.inner w.is in
    let same = ap (λ x. judge.factor env x) c.get-in-Not.ensures in
    let one = c.in_ok-inner-in-Not in
    subst (λ z. IfOk c.opposite.result (λ r. seen_answer r ≡ z))
    (told.answer (judge.factor env c.args.part.now) (judge.factor env w.inner) (judge.opposite w.at) (seen_answer one.inner) is
    (one.ensures.answer ∙ ap (λ z. z.answer) same))
    c.opposite.ensures.answer

pub element-returns-in_ok-last-in-Some-clause-noted : goal.element-returns-in_ok-last-in-Some-clause-noted
element-returns-in_ok-last-in-Some-clause-noted t c =
    let env = c.args.env.now in
    let at = c.args.at in
    let set = seen_answer c.args.set in
    let x = (out-Elem c.args.part.now).first in
    let y = c.in-Some.last.now in
    let low = c.in_ok-first in
    let high = c.in_ok-last-in-Some in
    let is = element_is env at set c.args.part.now ∙ ap (λ l. element_as env at set x l) (sym c.get.ensures.value ∙ ap option_copied c.in-Some.is) in
    subst (λ z. OnOk c.with_span.result (c.with_span.new.found ≡ z))
    (told.noted_two (judge.element env at set c.args.part.now) (judge.expr env x) (judge.expr env y) (judge.with_span at set) (seen_answer low.first) (seen_answer high.last) is
    low.ensures.answer high.ensures.answer c.args.found.now c.expr.new.found c.expr-in-Some.new.found low.ensures.noted high.ensures.noted)
    c.with_span.ensures.noted

pub shifted-returns-in_ok-by-in-len2-clause-noted : goal.shifted-returns-in_ok-by-in-len2-clause-noted
shifted-returns-in_ok-by-in-len2-clause-noted t c =
    let env = c.args.env.now in
    let x = c.value-item.result in
    let y = c.places-item.result in
    let all = two_items c.args.arguments.now x y _ _ c.in-len2.len_at_least c.in-len2.len_below c.value-item.is c.places-item.is in
    let whole = judge.two_of c.args.first (map (judge.expr env) c.args.arguments.now) c.args.arguments.now in
    let is = ap (λ xs. judge.two_of c.args.first (map (judge.expr env) xs) xs) all in
    let one = c.in_ok-shifted-in-len2 in
    let two = c.in_ok-by-in-len2 in
    subst (λ z. OnOk c.value_of_two.result (c.value_of_two.new.found ≡ z))
    (told.noted_two whole (judge.expr env x) (judge.expr env y) (judge.two_arguments c.args.first (out-Expr x).pos (out-Expr y).pos) (seen_answer one.shifted) (seen_answer two.by) is
    one.ensures.answer two.ensures.answer c.args.found.now c.expr.new.found c.expr-in-len2.new.found one.ensures.noted two.ensures.noted)
    c.value_of_two.ensures.noted

pub shifted-returns-in_ok-by-in-len2-clause-answer : goal.shifted-returns-in_ok-by-in-len2-clause-answer
shifted-returns-in_ok-by-in-len2-clause-answer t c =
    let env = c.args.env.now in
    let x = c.value-item.result in
    let y = c.places-item.result in
    let all = two_items c.args.arguments.now x y _ _ c.in-len2.len_at_least c.in-len2.len_below c.value-item.is c.places-item.is in
    let whole = judge.two_of c.args.first (map (judge.expr env) c.args.arguments.now) c.args.arguments.now in
    let is = ap (λ xs. judge.two_of c.args.first (map (judge.expr env) xs) xs) all in
    let one = c.in_ok-shifted-in-len2 in
    let two = c.in_ok-by-in-len2 in
    subst (λ z. IfOk c.value_of_two.result (λ r. seen_answer r ≡ z))
    (told.answer_two whole (judge.expr env x) (judge.expr env y) (judge.two_arguments c.args.first (out-Expr x).pos (out-Expr y).pos) (seen_answer one.shifted) (seen_answer two.by) is one.ensures.answer two.ensures.answer)
    c.value_of_two.ensures.answer

pub measured-returns-in_ok-dimension-in-len2-clause-noted : goal.measured-returns-in_ok-dimension-in-len2-clause-noted
measured-returns-in_ok-dimension-in-len2-clause-noted t c =
    let env = c.args.env.now in
    let x = c.argument-item-then-arguments-lt3.result in
    let y = c.number-item.result in
    let all = two_items c.args.arguments.now x y _ _ c.in-len2.len_at_least c.in-len2.len_below c.argument-item-then-arguments-lt3.is c.number-item.is in
    let whole = judge.len_of env c.args.first (map (judge.expr env) c.args.arguments.now) c.args.arguments.now in
    let is = ap (λ xs. judge.len_of env c.args.first (map (judge.expr env) xs) xs) all in
    let one = c.in_ok-array-in-len2 in
    let two = c.in_ok-dimension-in-len2 in
    subst (λ z. OnOk c.len_in.result (c.len_in.new.found ≡ z))
    (told.noted_two whole (judge.expr env x) (judge.expr env y) (judge.len_in env (out-Expr x).pos (out-Expr y).pos) (seen_answer one.array) (seen_answer two.dimension) is
    one.ensures.answer two.ensures.answer c.args.found.now c.expr-in-len2.new.found c.expr-in-len2-2.new.found one.ensures.noted two.ensures.noted)
    c.len_in.ensures.noted

pub measured-returns-in_ok-dimension-in-len2-clause-answer : goal.measured-returns-in_ok-dimension-in-len2-clause-answer
measured-returns-in_ok-dimension-in-len2-clause-answer t c =
    let env = c.args.env.now in
    let x = c.argument-item-then-arguments-lt3.result in
    let y = c.number-item.result in
    let all = two_items c.args.arguments.now x y _ _ c.in-len2.len_at_least c.in-len2.len_below c.argument-item-then-arguments-lt3.is c.number-item.is in
    let whole = judge.len_of env c.args.first (map (judge.expr env) c.args.arguments.now) c.args.arguments.now in
    let is = ap (λ xs. judge.len_of env c.args.first (map (judge.expr env) xs) xs) all in
    let one = c.in_ok-array-in-len2 in
    let two = c.in_ok-dimension-in-len2 in
    subst (λ z. IfOk c.len_in.result (λ r. seen_answer r ≡ z))
    (told.answer_two whole (judge.expr env x) (judge.expr env y) (judge.len_in env (out-Expr x).pos (out-Expr y).pos) (seen_answer one.array) (seen_answer two.dimension) is one.ensures.answer two.ensures.answer)
    c.len_in.ensures.answer
