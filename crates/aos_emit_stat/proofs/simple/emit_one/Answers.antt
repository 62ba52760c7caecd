use Rattle.std.proofs.Common.{ℕ, List, [], ◌∷◌, ◌++◌, ◌+◌, length, ap, ◌∙◌, append_assoc}
use Rattle.std.proofs.lemmas.Result.{on_ok_weaker}
use Rattle.aos_code.specs.declared.instr.Instr.{Instr}
use Rattle.aos_sim.specs.Code.{begin}
use Rattle.aos_emit_expr.specs.Adds.{front_code}
use Rattle.aos_emit_expr.specs.Scope.{program_of, own_of}
use Rattle.aos_emit_stat.proofs.Patch.{followed}
use Rattle.aos_emit_stat.proofs.simple.emit_one.Goals as goal

pub returns : goal.returns
returns c =
    let base = c.args.code.now.items in
    let here = begin c.args.at in
    let last = c.args.last in
    let part : ℕ → List Instr = λ n. front_code (program_of c.args.scope.now) (own_of c.args.scope.now) c.args.part n in
    let e2 = followed base c.emit_begin.new.code.items c.emit_front.new.code.items (here ∷ []) part c.in_ok-emit_begin.ensures c.in_ok-emit_front.ensures in
    on_ok_weaker c.put.result
    (λ e. e ∙ ap (λ l. l ++ last ∷ []) e2 ∙ append_assoc base (here ∷ part (length base + 1)) (last ∷ [])) c.put.ensures
