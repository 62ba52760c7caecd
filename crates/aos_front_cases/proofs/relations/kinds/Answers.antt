use Rattle.aos_front_cases.proofs.relations.kinds.Goals as goal

pub leaves-requires-clause-none_contains_itself : goal.leaves-requires-clause-none_contains_itself
leaves-requires-clause-none_contains_itself c = c.in_ok-none_contains_itself.ensures.0 c.if-branch.true

pub shape-requires-clause-none_contains_itself : goal.shape-requires-clause-none_contains_itself
shape-requires-clause-none_contains_itself c = c.in_ok-none_contains_itself.ensures.0 c.if-branch.true
