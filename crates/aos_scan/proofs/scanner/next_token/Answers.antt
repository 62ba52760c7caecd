use Rattle.std.proofs.Common.{[], refl, sym, subst}
use Rattle.aos_scan.specs.Refusal.{IsRefusedFrom}
use Rattle.aos_scan.proofs.Laws.{is_refused}
use Rattle.aos_scan.proofs.scanner.next_token.Goals as goal

pub returns-in-Err-clause-refused : goal.returns-in-Err-clause-refused
returns-in-Err-clause-refused c = record {
  tokens = [];
  to = c.args.from;
  at = c.in-Err.comment.at;
  made = refl;
  gap = c.in-Err.ensures.found;
  broken = c.in-Err.ensures.ends;
  place = c.advance.ensures;
}

pub returns-in-Err-lexeme_at-clause-refused : goal.returns-in-Err-lexeme_at-clause-refused
returns-in-Err-lexeme_at-clause-refused c =
    subst (IsRefusedFrom c.args.text.now c.args.from) (sym c.refuse.ensures) (is_refused c.args.text.now c.args.from c.in-Err-lexeme_at.rule c.advance-pos.result (record {
      tokens = [];
      to = c.args.from;
      at = c.in-Ok.start;
      made = refl;
      gap = c.in-Ok.ensures.found;
      broken = c.in-Err-lexeme_at.ensures;
      place = c.advance-pos.ensures;
    }))
