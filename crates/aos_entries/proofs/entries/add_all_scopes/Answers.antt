use Rattle.std.proofs.Common.{◌++◌, ◌+◌, length, ◌∙◌, ap, sym, append_assoc}
use Rattle.std.specs.List.{flat_map}
use Rattle.aos_symbols.specs.Declarations.{procedures, local_types, methods_in, type_defs}
use Rattle.aos_entries.specs.Entries.{procedure_scopes}
use Rattle.aos_entries.proofs.Entered.{all_scopes}
use Rattle.aos_entries.proofs.entries.add_all_scopes.Goals as goal

pub loop-decl-init : goal.loop-decl-init
loop-decl-init c =
    let text = c.args.text.now in
    let numbers = c.args.numbers.now in
    let decls = c.args.decls.now in
    let met = c.args.scopes.now.items in
    let own = procedure_scopes text numbers c.args.first (procedures decls) in
    let behind = flat_map methods_in (type_defs decls) in
    ap (λ l. l ++ procedure_scopes text numbers c.add_procedure_scopes.new.place behind) c.in_ok-add_procedure_scopes.ensures.scopes
    ∙ ap (λ k. (met ++ own) ++ procedure_scopes text numbers k behind) c.in_ok-add_procedure_scopes.ensures.place
    ∙ append_assoc met own (procedure_scopes text numbers (c.args.first + length (local_types (procedures decls))) behind)
    ∙ ap (λ z. met ++ z) (sym (all_scopes text numbers c.args.first decls))
