use Rattle.std.proofs.Common.{◌≡◌, drop}
use Rattle.aos_symbols.specs.Breaches.{first_after}
use Rattle.aos_symbols.specs.Declarations.{seen_types}
use Rattle.aos_check_decl.specs.Headings.{inner_from}
use Rattle.aos_check_decl.proofs.procedures.inner_types.Given as goal

abbrev pub invariant-loop-def : goal.invariant-loop-def
invariant-loop-def l =
    record {
      noted : first_after l.found (inner_from l.env l.scope (seen_types (drop l.def-index l.defs))).breaches
          ≡ first_after l.initial.found (inner_from l.initial.env 1 (seen_types l.defs)).breaches;
      answer : (inner_from l.env l.scope (seen_types (drop l.def-index l.defs))).answer ≡ (inner_from l.initial.env 1 (seen_types l.defs)).answer;
    }
