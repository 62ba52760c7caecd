-- The loop over the names of fields: those so far are asked for.
use Rattle.std.proofs.Common.{◌≡◌, map, take}
use Rattle.aos_symbols.specs.declared.env.Claim.TheVariants.{Field}
use Rattle.aos_made_types.specs.Met.{claiming}
use Rattle.aos_made_types.proofs.records.claim_names.Given as goal

abbrev pub invariant-loop-def : goal.invariant-loop-def
invariant-loop-def l = l.env ≡ claiming (map (λ n. Field n l.base) (map (λ d. d.name) (take l.def-index l.defs))) l.initial.env
