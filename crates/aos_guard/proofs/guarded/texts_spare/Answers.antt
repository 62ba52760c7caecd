use Rattle.std.proofs.Common.{◌≡◌, ◌↔◌, suc, true, false, IsTrue, subst, rules, arith}
use Rattle.aos_typed.specs.Seen.{seen_program}
use Rattle.aos_dispatch.specs.Routines.{seen_routine}
use Rattle.aos_uses.specs.Guarded.{Each, Spares}
use Rattle.aos_guard.proofs.Texts.{rest_more, rest_no, rest_yes}
use Rattle.aos_guard.proofs.guarded.texts_spare.Goals as goal

pub returns-then-not-text_spares : goal.returns-then-not-text_spares
returns-then-not-text_spares c =
    let p = seen_program c.args.dispatch.now in
    let R = Spares p c.args.variable in
    let k = c.loop-index.index in
    let n = c.in_ok-number.number in
    let r = c.index-routines-index.result in
    let found = c.in-Some.ensures.lookup in
    let next : n ≡ suc k = omega (arith, c.in_ok-number.ensures) in
    let says = subst (λ l. IsTrue c.text_spares.result ↔ Each (R n (seen_routine r)) l) c.deref.ensures.value c.text_spares.ensures in
    let fails : c.text_spares.result ≡ false = search rules in
    rest_no p R c.routines-routines.result.now c.args.texts.now c.routines-routines.ensures c.requires.texts k n r c.in-Some.text.now c.text_spares.result
    c.loop-index-test.true c.index-routines-index.is found.0 found.1 next says fails c.loop-index.invariant

pub loop-index-preserved : goal.loop-index-preserved
loop-index-preserved c =
    let p = seen_program c.args.dispatch.now in
    let R = Spares p c.args.variable in
    let k = c.loop-index.index in
    let n = c.in_ok-number.number in
    let r = c.index-routines-index.result in
    let found = c.in-Some.ensures.lookup in
    let next : n ≡ suc k = omega (arith, c.in_ok-number.ensures) in
    let says = subst (λ l. IsTrue c.text_spares.result ↔ Each (R n (seen_routine r)) l) c.deref.ensures.value c.text_spares.ensures in
    let holds : c.text_spares.result ≡ true = search rules in
    rest_more p R c.routines-routines.result.now c.args.texts.now c.routines-routines.ensures c.requires.texts k n r c.in-Some.text.now c.text_spares.result
    c.loop-index-test.true c.index-routines-index.is found.0 found.1 next says holds c.loop-index.invariant

pub returns : goal.returns
returns c =
    let p = seen_program c.args.dispatch.now in
    rest_yes p (Spares p c.args.variable) c.routines-routines.result.now c.loop-index.index c.routines-routines.ensures (omega (arith, c.loop-index-test.false)) c.loop-index.invariant
