use Rattle.std.proofs.Common.{sym, ap, subst}
use Rattle.std.specs.Prelude.{Err}
use Rattle.aos_reading.specs.Texts.{IsReading, by_tree, by_syntax, by_nesting}
use Rattle.aos_reading.proofs.front.parsed.Goals as goal

pub returns-in-Ok : goal.returns-in-Ok
returns-in-Ok c = by_tree (record { tokens = c.args.tokens.now; scanned = c.requires.tokens; reads = c.in-Ok.ensures.tree })

pub returns-in-Err-Expected : goal.returns-in-Err-Expected
returns-in-Err-Expected c =
    let why = c.in-Err-Expected in
    subst (IsReading c.args.text.now) (sym c.broken.ensures)
    (by_syntax why.pos c.requires.tokens (why.ensures.expected why.pos (ap (λ x. Err x) why.field-0-is)))

pub returns-in-Err-Deep : goal.returns-in-Err-Deep
returns-in-Err-Deep c =
    let why = c.in-Err-Deep in
    subst (IsReading c.args.text.now) (sym c.broken-in-Err-Deep.ensures)
    (by_nesting why.pos c.requires.tokens (why.ensures.deep why.pos (ap (λ x. Err x) why.field-0-is)))
