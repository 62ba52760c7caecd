use Rattle.std.proofs.Common.{◌++◌, ap, ◌∙◌}
use Rattle.std.proofs.lemmas.Result.{on_ok_weaker}
use Rattle.aos_sim.specs.Code.{stash, initialize_code}
use Rattle.aos_emit_expr.specs.Scope.{program_of, own_of}
use Rattle.aos_emit_stat.proofs.Made.{object_made}
use Rattle.aos_emit_stat.proofs.objects.put_made.Goals as goal

pub returns : goal.returns
returns c =
    let p = program_of c.args.scope.now in
    let own = own_of c.args.scope.now in
    let t = c.args.object in
    let d = c.args.level in
    let slot = c.in_ok-slot.slot in
    let base = c.args.code.now.items in
    let kept = c.in_ok-put_stash.ensures ∙ ap (λ l. base ++ stash l d) c.deref.ensures.value in
    let initialized = c.in_ok-put_initialize.ensures ∙ ap (λ l. c.put.new.code.items ++ initialize_code p own slot t l d) c.deref-2.ensures.value in
    on_ok_weaker c.put_store.result
    (object_made p own t d c.in_ok-number.number slot c.in_ok-body_of.body_of c.in_ok-kinds.kinds.items base _ _ _ _
    c.in_ok-slot.ensures c.in_ok-body_of.ensures c.in_ok-kinds.ensures c.in_ok-number.ensures kept c.in_ok-put.ensures initialized) c.put_store.ensures
