use Rattle.std.proofs.Common.{◌≡◌, ◌<◌, ◌+◌, length, [], ◌∷◌, get_or, None, sym, ◌∙◌, arith, rules}
use Rattle.aos_scan.specs.Spelling.{kind_in, symbols}
use Rattle.aos_scan.proofs.ByteLemmas.{not_true}
use Rattle.aos_scan.proofs.Lexemes.{pair_begins, single_begins, nothing_begins, symbol_not_end}
use Rattle.aos_scan.proofs.lexeme.symbol_at.Goals as goal
use Rattle.aos_scan.proofs.lexeme.symbol_at.Goals.{then-at-text+in_default, else-at-text}

pub returns-in-Some : goal.returns-in-Some
returns-in-Some c =
    let text = c.args.text.now in
    let found = sym c.pair.ensures ∙ c.in-Some.is in
    record {
      begins = pair_begins text c.args.at c.requires.within c.requires.gap (not_true _ c.requires.no_letter) (not_true _ c.requires.no_digit) (not_true _ c.requires.no_quote) c.in-Some.kind c.if-at-text.true found;
      fits = omega arith;
      no_end = symbol_not_end (get_or text c.args.at 0 ∷ get_or text (c.args.at + 1) 0 ∷ []) c.in-Some.kind found;
    }

pub returns-in_err-kind : goal.returns-in_err-kind
returns-in_err-kind c =
    let text = c.args.text.now in
    let at = c.args.at in
    let no_pair : at + 1 < length text → kind_in symbols (get_or text at 0 ∷ get_or text (at + 1) 0 ∷ []) ≡ None =
    elim c.if-at-text.branch [ then-at-text+in_default w ↦ λ _. sym w.pair.ensures ∙ search rules | else-at-text w ↦ λ inside. absurd (omega arith) ] in
    rw c.from_residual.ensures (nothing_begins text at c.requires.within c.requires.gap (not_true _ c.requires.no_letter) (not_true _ c.requires.no_digit) (not_true _ c.requires.no_quote) no_pair (sym c.single.ensures ∙ c.in_err-kind.was))

pub returns : goal.returns
returns c =
    let text = c.args.text.now in
    let at = c.args.at in
    let no_pair : at + 1 < length text → kind_in symbols (get_or text at 0 ∷ get_or text (at + 1) 0 ∷ []) ≡ None =
    elim c.if-at-text.branch [ then-at-text+in_default w ↦ λ _. sym w.pair.ensures ∙ search rules | else-at-text w ↦ λ inside. absurd (omega arith) ] in
    let found = sym c.single.ensures ∙ c.in_ok-kind.was in
    record {
      begins = single_begins text at c.requires.within c.requires.gap (not_true _ c.requires.no_letter) (not_true _ c.requires.no_digit) (not_true _ c.requires.no_quote) c.in_ok-kind.kind no_pair found;
      fits = omega arith;
      no_end = symbol_not_end (get_or text at 0 ∷ []) c.in_ok-kind.kind found;
    }
