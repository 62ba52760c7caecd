use Rattle.std.proofs.Common.{◌≡◌, ◌<◌, ℕ, ◌+◌, ◌++◌, length, drop, map, ap, ◌∙◌, arith}
use Rattle.std.proofs.lemmas.List.{length-map}
use Rattle.aos_typed.specs.Program.{ObjectType}
use Rattle.aos_typed.specs.Seen.{seen_object, seen_method}
use Rattle.aos_dispatch.specs.Dispatch.{firsts_by}
use Rattle.aos_dispatch.proofs.Firsts.{firsts_more, firsts_end}
use Rattle.aos_dispatch.proofs.numbers.method_firsts.Goals as goal

pub loop-object-preserved : goal.loop-object-preserved
loop-object-preserved c =
    let l = c.loop-object in
    let os = c.args.objects.now in
    let o = c.object-item.result in
    let lt : l.object-index < length os = omega arith in
    let is : c.in_ok-behind.behind ≡ l.next + length (map seen_method o.methods.items) =
    omega (arith, c.in_ok-behind.ensures, c.len.ensures, length-map o.methods.items seen_method) in
    let count : ObjectType → ℕ = λ x. length x.methods in
    ap (λ z. z ++ firsts_by count c.in_ok-behind.behind (map seen_object (drop (l.object-index + 1) os))) c.in_ok-push.ensures.items
    ∙ firsts_more seen_object count os l.object-index o l.next c.in_ok-behind.behind l.firsts.items lt c.object-item.is is
    ∙ l.invariant

pub returns : goal.returns
returns c =
    let l = c.loop-object in
    c.in_ok-push-2.ensures.items
    ∙ firsts_end seen_object (λ (x : ObjectType). length x.methods) c.args.objects.now l.object-index l.next l.firsts.items c.loop-object-test.false
    ∙ l.invariant
