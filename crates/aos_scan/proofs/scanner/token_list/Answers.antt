use Rattle.std.proofs.Common.{◌≡◌, ◌≢◌, true, is_ok, inr, sym, subst, arith, rules}
use Rattle.std.proofs.ResultArms.{chosen}
use Rattle.aos_scan.specs.declared.token.TokenKind.TheVariants.{End}
use Rattle.aos_scan.specs.TokenList.{AreTokens}
use Rattle.aos_scan.proofs.Gaps.{Gap-bounds}
use Rattle.aos_scan.proofs.Laws.{AreTokens-push, refused_after}
use Rattle.aos_scan.proofs.scanner.token_list.Goals as goal

pub returns-in-Err-clause-refused : goal.returns-in-Err-clause-refused
returns-in-Err-clause-refused c = inr (refused_after c.args.text.now c.loop-token.at c.loop-token.tokens.items c.in-Err.refusal c.loop-token.invariant.made c.in-Err.ensures.refused)

pub loop-token-smaller : goal.loop-token-smaller
loop-token-smaller c =
    let no_end : c.in-Ok.token.kind ≢ End = search rules in
    let begins = (c.in-Ok.ensures.found.stands no_end).begins in
    let bounds = Gap-bounds c.args.text.now c.in-Ok.ensures.found.gap c.loop-token.invariant.within in
    omega (arith, begins.nonempty, begins.within, bounds.0)

pub loop-token-preserved : goal.loop-token-preserved
loop-token-preserved c =
    let no_end : c.in-Ok.token.kind ≢ End = search rules in
    let stands = c.in-Ok.ensures.found.stands no_end in
    let stored : is_ok c.push.result ≡ true = search rules in
    let items = chosen _ _ _ _ c.push.ensures.items stored in
    record {
      made = subst (λ ts. AreTokens c.args.text.now 0 ts c.in-Ok.token.end) (sym items) (AreTokens-push c.args.text.now 0 c.loop-token.at c.loop-token.tokens.items c.in-Ok.token c.loop-token.invariant.made c.in-Ok.ensures.found.gap stands);
      within = stands.begins.within;
      place = c.advance-pos.ensures;
    }
