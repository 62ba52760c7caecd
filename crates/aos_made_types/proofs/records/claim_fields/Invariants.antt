-- The loop over fields: the names of those so far are asked for.
use Rattle.std.proofs.Common.{◌≡◌, map, take}
use Rattle.aos_symbols.specs.declared.env.Claim.TheVariants.{Field}
use Rattle.aos_made_types.specs.Met.{claiming}
use Rattle.aos_made_types.specs.Records.{field_names}
use Rattle.aos_made_types.proofs.records.claim_fields.Given as goal

abbrev pub invariant-loop-field : goal.invariant-loop-field
invariant-loop-field l = l.env ≡ claiming (map (λ n. Field n l.base) (field_names (take l.field-index l.fields))) l.initial.env
