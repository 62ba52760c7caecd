use Rattle.aos_front_cases.proofs.relations.leaves.Goals as goal

pub leaves-requires-clause-none_contains_itself : goal.leaves-requires-clause-none_contains_itself
leaves-requires-clause-none_contains_itself c = c.in_ok-none_contains_itself.ensures.0 c.if-branch.true
