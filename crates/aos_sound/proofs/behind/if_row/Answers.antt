-- The goal of if_row that the search leaves open.
use Rattle.aos_sound.proofs.Taken.{row_kept}
use Rattle.aos_sound.proofs.behind.if_row.Goals as goal

pub returns-in-Some : goal.returns-in-Some
returns-in-Some c = (c.requires, row_kept c.args.lengths _ _ c.in-Some.ensures.1)
