use Rattle.std.proofs.Common.{◌≡◌, map, take}
use Rattle.aos_symbols.specs.declared.env.Claim.TheVariants as claims
use Rattle.aos_made_types.specs.Objects as judge
use Rattle.aos_made_types.proofs.objects.claim_own_methods.Given as goal

abbrev pub invariant-loop-decl : goal.invariant-loop-decl
invariant-loop-decl l = l.env ≡ judge.claiming (map (λ n. claims.Method n l.base) (judge.own_methods (take l.decl-index l.decls))) l.initial.env
