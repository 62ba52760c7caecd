use Rattle.std.proofs.Common.{arith}
use Rattle.aos_scan.proofs.ByteLemmas.{not_true}
use Rattle.aos_scan.proofs.Lexemes.{text_begins, string_is_open, text_not_end}
use Rattle.aos_scan.proofs.lexeme.string_at.Goals as goal
use Rattle.aos_scan.proofs.lexeme.string_at.Goals.{else-end-text-via-then-end-text+else-text-end, else-end-text-via-else-end-text}

pub returns-then-text-end : goal.returns-then-text-end
returns-then-text-end c =
    let text = c.args.text.now in
    record {
      begins = text_begins text c.args.at c.requires.within c.requires.gap (not_true _ c.requires.no_letter) (not_true _ c.requires.no_digit) c.requires.quote c.run_end-end.result c.run_end-end.ensures c.if-end-text.true c.if-text-end.true;
      fits = omega arith;
      no_end = text_not_end;
    }

pub returns-else-end-text : goal.returns-else-end-text
returns-else-end-text c =
    let text = c.args.text.now in
    string_is_open text c.args.at c.requires.within c.requires.gap (not_true _ c.requires.no_letter) (not_true _ c.requires.no_digit) c.requires.quote c.run_end-end.result c.run_end-end.ensures
    (elim c.else-end-text.branch [ else-end-text-via-then-end-text+else-text-end w ↦ λ _. w.if-text-end.false | else-end-text-via-else-end-text w ↦ λ inside. absurd (omega arith) ])
