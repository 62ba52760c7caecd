use Rattle.std.proofs.Common.{ap, subst, inr, length, [], ◌∷◌, arith}
use Rattle.aos_script.specs.Words.{lines_left}
use Rattle.aos_script.specs.Listing.{head_line}
use Rattle.aos_script.specs.Rest.{Skips}
use Rattle.aos_script.proofs.Whole.{lines_few, no_head_line, behind_read, behind_refused}
use Rattle.aos_script.proofs.script.script_of.Goals as goal

pub behind_head-requires : goal.behind_head-requires
behind_head-requires c =
    let most = c.requires in
    let same = ap length c.all_lines.ensures in
    omega (arith, lines_few c.args.bytes.now)

pub returns-in-Ok-clause-read : goal.returns-in-Ok-clause-read
returns-in-Ok-clause-read c =
    let behind = head_line ∷ lines_left c.in-Ok.left in
    behind_read c.args.bytes.now c.in-Ok.n behind c.script_behind.result
    (subst (λ ls. Skips ls c.in-Ok.n behind) c.all_lines.ensures c.in-Ok.ensures.found) c.script_behind.ensures.read

pub returns-in-Ok-clause-refused : goal.returns-in-Ok-clause-refused
returns-in-Ok-clause-refused c =
    let behind = head_line ∷ lines_left c.in-Ok.left in
    behind_refused c.args.bytes.now c.in-Ok.n behind c.script_behind.result
    (subst (λ ls. Skips ls c.in-Ok.n behind) c.all_lines.ensures c.in-Ok.ensures.found) c.script_behind.ensures.refused

pub returns-in-Err-clause-refused : goal.returns-in-Err-clause-refused
returns-in-Err-clause-refused c =
    inr (no_head_line c.args.bytes.now c.in-Err.n (subst (λ ls. Skips ls c.in-Err.n []) c.all_lines.ensures c.in-Err.ensures.missing))
