-- The loop over declarations: the environment is that behind the procedures so far.
use Rattle.std.proofs.Common.{◌≡◌, drop}
use Rattle.aos_symbols.specs.Breaches.{first_after}
use Rattle.aos_symbols.specs.Declarations.{procedures}
use Rattle.aos_check_decl.specs.Headings.{procedures_from}
use Rattle.aos_check_decl.proofs.procedures.procedures_in.Given as goal

abbrev pub invariant-loop-decl : goal.invariant-loop-decl
invariant-loop-decl l = record {
  noted : first_after l.found (procedures_from l.may_stand l.env l.scope (procedures (drop l.decl-index l.decls))).breaches
      ≡ first_after l.initial.found (procedures_from l.fn.may_stand l.initial.env l.first (procedures l.decls)).breaches;
  answer : (procedures_from l.may_stand l.env l.scope (procedures (drop l.decl-index l.decls))).answer
      ≡ (procedures_from l.fn.may_stand l.initial.env l.first (procedures l.decls)).answer;
}
