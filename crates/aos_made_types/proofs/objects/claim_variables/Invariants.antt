use Rattle.std.proofs.Common.{◌≡◌, map, take}
use Rattle.std.specs.List.{flat_map}
use Rattle.aos_symbols.specs.declared.env.Claim.TheVariants as claims
use Rattle.aos_made_types.specs.Objects as judge
use Rattle.aos_made_types.proofs.objects.claim_variables.Given as goal

abbrev pub invariant-loop-def : goal.invariant-loop-def
invariant-loop-def l =
    l.env ≡ judge.claiming (map (λ n. claims.Field n l.base) (map (λ d. d.name) (flat_map (λ v. v.defs) (take l.def-index l.defs)))) l.initial.env
