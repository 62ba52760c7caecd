use Rattle.std.proofs.Common.{sym, subst, arith}
use Rattle.aos_scan.specs.declared.token.TokenKind.{TokenKind}
use Rattle.aos_scan.specs.Found.{BeginsAt}
use Rattle.aos_scan.proofs.Lexemes.{word_begins, word_not_end}
use Rattle.aos_scan.proofs.lexeme.word_at.Goals as goal

pub returns : goal.returns
returns c =
    let text = c.args.text.now in
    let end = c.run_end-end.result in
    subst (λ (k : TokenKind). BeginsAt text c.args.at (record { kind = k; end = end; value = 0 })) (sym c.word_kind.ensures) (record {
      begins = word_begins text c.args.at c.requires.within c.requires.gap c.requires.letter end c.run_end-end.ensures;
      fits = omega arith;
      no_end = word_not_end _;
    })
