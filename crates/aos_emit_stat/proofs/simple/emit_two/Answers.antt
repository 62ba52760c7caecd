use Rattle.std.proofs.Common.{◌≡◌, ℕ, suc, ◌+◌, List, [], ◌∷◌, ◌++◌, length, ap, ◌∙◌, arith, append_assoc}
use Rattle.std.proofs.lemmas.Result.{on_ok_weaker}
use Rattle.aos_code.specs.declared.instr.Instr.{Instr}
use Rattle.aos_sim.specs.Code.{begin}
use Rattle.aos_emit_expr.specs.Adds.{front_code}
use Rattle.aos_emit_expr.specs.Scope.{program_of, own_of}
use Rattle.aos_emit_stat.proofs.Patch.{followed}
use Rattle.aos_emit_stat.proofs.simple.emit_two.Goals as goal

pub returns : goal.returns
returns c =
    let base = c.args.code.now.items in
    let here = begin c.args.at in
    let last = c.args.last in
    let p = program_of c.args.scope.now in
    let own = own_of c.args.scope.now in
    let first = front_code p own c.args.first (length base + 1) in
    let second : ℕ → List Instr = λ n. front_code p own c.args.second n in
    let e2 = followed base c.emit_begin.new.code.items c.emit_front.new.code.items (here ∷ []) (λ n. front_code p own c.args.first n) c.in_ok-emit_begin.ensures c.in_ok-emit_front.ensures in
    let e3 = followed base c.emit_front.new.code.items c.emit_front-2.new.code.items (here ∷ first) second e2 c.in_ok-emit_front-2.ensures in
    let there : length base + suc (length first) ≡ length base + 1 + length first = omega arith in
    let from = length base + suc (length first) in
    on_ok_weaker c.put.result
    (λ e. e ∙ ap (λ l. l ++ last ∷ []) e3
    ∙ append_assoc base (here ∷ (first ++ second from)) (last ∷ [])
    ∙ ap (λ l. base ++ (here ∷ l)) (append_assoc first (second from) (last ∷ []))
    ∙ ap (λ n. base ++ (here ∷ (first ++ (second n ++ last ∷ [])))) there) c.put.ensures
