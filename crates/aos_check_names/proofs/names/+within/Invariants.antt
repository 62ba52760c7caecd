use Rattle.std.proofs.Common.{◌≡◌, take, Some, None}
use Rattle.std.specs.List.{flat_map}
use Rattle.aos_symbols.specs.Breaches.{first_after}
use Rattle.aos_check_names.specs.Names as rules
use Rattle.aos_check_names.proofs.names.+within.Given as goal

abbrev pub invariant-within_decls-loop-decl : goal.invariant-within_decls-loop-decl
invariant-within_decls-loop-decl l = l.found ≡ first_after l.initial.found (flat_map (rules.within_decl l.text) (take l.decl-index l.decls))

abbrev pub invariant-within_types-loop-def : goal.invariant-within_types-loop-def
invariant-within_types-loop-def l = l.found ≡ first_after l.initial.found (flat_map (λ d. rules.within_type l.text (Some d.def.name) d.value) (take l.def-index l.defs))

abbrev pub invariant-within_variables-loop-def : goal.invariant-within_variables-loop-def
invariant-within_variables-loop-def l = l.found ≡ first_after l.initial.found (flat_map (λ v. rules.within_type l.text None v.of) (take l.def-index l.defs))

abbrev pub invariant-within_fields-loop-field : goal.invariant-within_fields-loop-field
invariant-within_fields-loop-field l = l.found ≡ first_after l.initial.found (flat_map (rules.within_field l.text) (take l.field-index l.fields))
