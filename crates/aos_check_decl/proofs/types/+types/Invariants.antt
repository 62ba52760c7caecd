-- The loops over fields and over declarations: what is left leads to the same as the whole.
use Rattle.std.proofs.Common.{drop}
use Rattle.aos_symbols.specs.Judged.{walk}
use Rattle.aos_check_decl.specs.Types as judge
use Rattle.aos_check_types.proofs.Telling.{Leads}
use Rattle.aos_check_decl.proofs.types.+types.Given as goal

abbrev pub invariant-fields_in-loop-field : goal.invariant-fields_in-loop-field
invariant-fields_in-loop-field l =
    Leads (walk judge.field_in (judge.fields_met l.env l.types l.scope) (drop l.field-index l.fields))
    (walk judge.field_in (judge.fields_met l.initial.env l.initial.types l.initial.scope) l.fields) l.found l.initial.found

abbrev pub invariant-variables_in-loop-def : goal.invariant-variables_in-loop-def
invariant-variables_in-loop-def l =
    Leads (walk judge.variable_in (judge.members_met l.env l.types l.variables.items) (drop l.def-index l.defs))
    (walk judge.variable_in (judge.members_met l.initial.env l.initial.types l.initial.variables.items) l.defs) l.found l.initial.found

abbrev pub invariant-members_in-loop-decl : goal.invariant-members_in-loop-decl
invariant-members_in-loop-decl l =
    Leads (walk judge.member_in (judge.members_met l.env l.types l.variables.items) (drop l.decl-index l.decls))
    (walk judge.member_in (judge.members_met l.initial.env l.initial.types l.initial.variables.items) l.decls) l.found l.initial.found
