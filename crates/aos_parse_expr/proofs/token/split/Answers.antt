use Rattle.aos_parse_expr.proofs.Sight.{one_token, split_whole, split_ended}
use Rattle.aos_parse_expr.proofs.token.split.Goals as goal

pub bounds-tokens-0 : goal.bounds-tokens-0
bounds-tokens-0 c = one_token c.args.tokens.now c.requires

pub slice_bounds-result-count : goal.slice_bounds-result-count
slice_bounds-result-count c = one_token c.args.tokens.now c.requires

pub slice_bounds-result-start : goal.slice_bounds-result-start
slice_bounds-result-start c = one_token c.args.tokens.now c.requires

pub returns-clause-whole : goal.returns-clause-whole
returns-clause-whole c = split_whole c.args.tokens.now _ c.requires

pub returns-clause-ended : goal.returns-clause-ended
returns-clause-ended c = split_ended c.args.tokens.now _ c.requires
