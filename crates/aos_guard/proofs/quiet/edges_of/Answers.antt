use Rattle.std.proofs.Common.{◌≡◌, suc, IsTrue, subst, arith}
use Rattle.aos_typed.specs.Seen.{seen_program}
use Rattle.aos_uses.specs.Guarded.{Each, Keeps}
use Rattle.aos_guard.proofs.Adds.{Adds, says_more, says_last}
use Rattle.aos_guard.proofs.quiet.edges_of.Goals as goal

pub loop-index-preserved : goal.loop-index-preserved
loop-index-preserved c =
    let p = seen_program c.args.dispatch.now in
    let ms = c.args.marks.now in
    let i = c.loop-index.index in
    let n = c.in_ok-number.number in
    let now = c.loop-index.edges.items in
    let new = c.put_text.new.edges.items in
    let next : n ≡ suc i = omega (arith, c.in_ok-number.ensures) in
    let adds = subst (λ us. Adds ms now new (λ set. Each (Keeps p (λ m. IsTrue (set m)) n) us)) c.deref.ensures.value c.in_ok-put_text.ensures in
    says_more ms p now new c.args.texts.now i n c.index-texts-index.result c.loop-index-test.true c.index-texts-index.is next adds c.loop-index.invariant

pub returns : goal.returns
returns c =
    says_last c.args.marks.now (seen_program c.args.dispatch.now) c.loop-index.edges.items c.args.texts.now c.loop-index.index
    (omega (arith, c.loop-index-test.false)) c.loop-index.invariant
