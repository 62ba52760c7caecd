use Rattle.std.proofs.lemmas.Result.{on_ok_weaker}
use Rattle.aos_typed.specs.Seen.{seen_place, seen_list}
use Rattle.aos_emit_expr.specs.Scope.{program_of, own_of}
use Rattle.aos_emit_stat.proofs.Made.{object_new}
use Rattle.aos_emit_stat.proofs.objects.emit_new.Goals as goal

pub returns : goal.returns
returns c =
    let s = c.args.scope.now in
    let place = seen_place c.args.place.now in
    let handed = seen_list c.args.arguments.now in
    on_ok_weaker c.put_made.result
    (object_new (program_of s) (own_of s) c.args.at place c.args.object handed c.args.level c.args.code.now.items c.emit_begin.new.code.items c.emit_front.new.code.items c.emit_source.new.code.items c.put_made.new.code.items
    c.in_ok-emit_begin.ensures c.in_ok-emit_front.ensures c.in_ok-emit_source.ensures) c.put_made.ensures
