-- The loop over parts: what is left leads to the same as the whole.
use Rattle.std.proofs.Common.{◌≡◌, drop}
use Rattle.aos_symbols.specs.Declarations.{seen_parts}
use Rattle.aos_check_types.specs.Aliases.{inner_targets}
use Rattle.aos_check_types.proofs.Telling.{Leads}
use Rattle.aos_check_types.proofs.aliases.add_targets_of_parts.Given as goal

abbrev pub invariant-loop-part : goal.invariant-loop-part
invariant-loop-part l =
    record {
      told : Leads (inner_targets l.initial.env l.scope l.targets.items (seen_parts (drop l.part-index l.parts)))
          (inner_targets l.initial.env 1 l.initial.targets.items (seen_parts l.parts)) l.found l.initial.found;
      env : l.env ≡ l.initial.env;
    }
