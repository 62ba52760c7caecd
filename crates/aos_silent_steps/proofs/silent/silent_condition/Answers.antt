use Rattle.aos_silent_steps.proofs.silent.silent_condition.Goals as goal

pub returns-in-Ok-clause-moves : goal.returns-in-Ok-clause-moves
returns-in-Ok-clause-moves c = (c.in-Ok.ensures.moves c.requires.evaluates c.requires.room).1

pub returns-in-Ok-clause-asks : goal.returns-in-Ok-clause-asks
returns-in-Ok-clause-asks c = c.in-Ok.ensures.asks c.requires.evaluates c.requires.room

pub returns-in-Err : goal.returns-in-Err
returns-in-Err c = let ok = (c.in-Err.ensures.moves c.requires.evaluates c.requires.room).0 in absurd (cc ok)
