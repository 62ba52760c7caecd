use Rattle.std.proofs.Common.{◌+◌, ◌∷◌, ◌++◌, length, ap, ◌∙◌}
use Rattle.std.proofs.lemmas.Result.{on_ok_weaker}
use Rattle.aos_code.specs.declared.instr.Instr.TheVariants.{Store}
use Rattle.aos_typed.specs.Seen.{seen_place, seen_expr}
use Rattle.aos_sim.specs.Code.{begin, operands_code, place_code, value_code}
use Rattle.aos_emit_expr.specs.Scope.{program_of, own_of}
use Rattle.aos_emit_stat.proofs.simple.emit_assign.Goals as goal

pub returns : goal.returns
returns c =
    let p = program_of c.args.scope.now in
    let own = own_of c.args.scope.now in
    let base = c.args.code.now.items in
    let first = place_code p own (seen_place c.args.place.now) (length base + 1) in
    let second = value_code p own (seen_expr c.args.value.now) (length base + 1 + length first) in
    on_ok_weaker c.emit_two.result
    (λ e. e ∙ ap (λ n. base ++ begin c.args.at ∷ operands_code first second (Store n)) c.cell_kind.ensures) c.emit_two.ensures
