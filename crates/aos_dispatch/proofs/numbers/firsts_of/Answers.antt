use Rattle.std.proofs.Common.{◌≡◌, ◌<◌, ℕ, ◌+◌, ◌++◌, length, drop, map, ap, ◌∙◌, arith}
use Rattle.std.proofs.lemmas.List.{length-map}
use Rattle.aos_typed.specs.Program.{Module}
use Rattle.aos_typed.specs.Seen.{seen_module, seen_procedure}
use Rattle.aos_dispatch.specs.Dispatch.{firsts_by}
use Rattle.aos_dispatch.proofs.Firsts.{firsts_more, firsts_end}
use Rattle.aos_dispatch.proofs.numbers.firsts_of.Goals as goal

pub loop-module-preserved : goal.loop-module-preserved
loop-module-preserved c =
    let l = c.loop-module in
    let ms = c.args.modules.now in
    let m = c.module-item.result in
    let lt : l.module-index < length ms = omega arith in
    let is : c.in_ok-behind.behind ≡ l.next + length (map seen_procedure m.procedures.items) =
    omega (arith, c.in_ok-behind.ensures, c.len.ensures, length-map m.procedures.items seen_procedure) in
    let count : Module → ℕ = λ x. length x.procedures in
    ap (λ z. z ++ firsts_by count c.in_ok-behind.behind (map seen_module (drop (l.module-index + 1) ms))) c.in_ok-push.ensures.items
    ∙ firsts_more seen_module count ms l.module-index m l.next c.in_ok-behind.behind l.firsts.items lt c.module-item.is is
    ∙ l.invariant

pub returns : goal.returns
returns c =
    let l = c.loop-module in
    c.in_ok-push-2.ensures.items
    ∙ firsts_end seen_module (λ (x : Module). length x.procedures) c.args.modules.now l.module-index l.next l.firsts.items c.loop-module-test.false
    ∙ l.invariant
