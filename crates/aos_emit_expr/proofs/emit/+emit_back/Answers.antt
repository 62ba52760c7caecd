use Rattle.std.proofs.Common.{◌≡◌, ◌<◌, ◌≤◌, ◌+◌, ◌-◌, length, suc, sym, ap, ◌∙◌, arith}
use Rattle.aos_emit_expr.specs.Scope.{program_of, own_of}
use Rattle.aos_emit_expr.specs.Back.{first_of, back_first, back_source}
use Rattle.aos_emit_expr.specs.Sizes.{source_size, first_size}
use Rattle.aos_emit_expr.proofs.Turned.{argument_more}
use Rattle.aos_emit_expr.proofs.emit.+emit_back.Goals as goal

pub emit_back-loop-rest-preserved : goal.emit_back-loop-rest-preserved
emit_back-loop-rest-preserved t c =
    let p = program_of c.args.scope.now in
    let own = own_of c.args.scope.now in
    let code = c.loop-rest.code.items in
    let new = c.emit_last.new.code.items in
    let form = c.in_ok-form.form in
    let rest = c.first_of-rest.result in
    let put : back_first p own (first_of form) new ≡ back_source p own c.in-Some.source code = ap (back_first p own (first_of form)) c.in_ok-emit_last.ensures ∙ c.in_ok-form.ensures.code code in
    let all : back_first p own rest new ≡ back_source p own c.args.all c.args.code.now.items = ap (λ r. back_first p own r new) c.first_of-rest.ensures.is ∙ put ∙ ap (λ r. back_first p own r code) (sym c.in-Some.is) ∙ c.loop-rest.invariant.0 in
    let falls : first_size c.loop-rest.rest ≡ suc (source_size c.in-Some.source) = ap first_size c.in-Some.is in
    let less : first_size rest ≤ suc (source_size c.args.all) = omega (arith, falls, c.first_of-rest.ensures.less, c.in_ok-form.ensures.size, c.loop-rest.invariant.1) in
    (all, less)

pub emit_back-loop-rest-smaller : goal.emit_back-loop-rest-smaller
emit_back-loop-rest-smaller t c =
    let falls : first_size c.loop-rest.rest ≡ suc (source_size c.in-Some.source) = ap first_size c.in-Some.is in
    omega (arith, falls, c.first_of-rest.ensures.less, c.in_ok-form.ensures.size)

pub emit_arguments_back-loop-left-preserved : goal.emit_arguments_back-loop-left-preserved
emit_arguments_back-loop-left-preserved t c =
    let xs = c.args.arguments.now in
    let left = c.loop-left.left in
    let some : 0 < left = c.loop-left-test.true in
    let all : left ≤ length xs = c.loop-left.invariant.0 in
    let lt : left - 1 < length xs = omega (arith, some, all) in
    let next : left - 1 + 1 ≡ left = omega (arith, some) in
    let within : left - 1 ≤ length xs = omega (arith, lt) in
    (within, argument_more (program_of c.args.scope.now) (own_of c.args.scope.now) xs (left - 1) left c.index-arguments-left.result c.args.code.now.items c.loop-left.code.items c.emit_argument_back.new.code.items lt next c.index-arguments-left.is c.loop-left.invariant.1 c.in_ok-emit_argument_back.ensures)
