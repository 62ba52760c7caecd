-- What the parts before tell, one after another.
use Rattle.std.proofs.Common.{◌+◌, add-one, length, ap, ◌∙◌}
use Rattle.std.proofs.lemmas.Result.{IfOk-weaker}
use Rattle.aos_symbols.specs.Declarations.{seen_types, type_defs}
use Rattle.aos_check_types.specs.Methods.{overriding}
use Rattle.aos_check_decl.specs.Headings.{headings}
use Rattle.aos_check_types.specs.Told.{Told}
use Rattle.aos_check_decl.proofs.Headed.{headings_told}
use Rattle.aos_check_decl.proofs.procedures.headings.Goals as goal

pub returns : goal.returns
returns c =
    let first_is = c.in_ok-first.ensures ∙ ap (λ n. n + 1) c.in_ok-count_types.ensures ∙ add-one (length (type_defs c.args.decls.now)) in
    let types_are = ap seen_types c.deref.ensures.value ∙ c.in_ok-defs.ensures in
    let types_are_then = ap seen_types c.deref-2.ensures.value ∙ c.in_ok-defs.ensures in
    let types_are_still = ap seen_types c.deref-3.ensures.value ∙ c.in_ok-defs.ensures in
    let end = c.overriding.new in
    IfOk-weaker c.overriding.result (λ _. Told (overriding c.methods_of.new.env (seen_types c.deref-3.result.now)) c.methods_of.new.found end.found end.env)
    (λ _. Told (headings c.args.env.now c.args.decls.now) c.args.found.now end.found end.env)
    (λ _ told. headings_told c.args.env.now c.args.decls.now c.in_ok-declare_all.ensures types_are c.in_ok-inner_types.ensures first_is
    c.in_ok-procedures_in.ensures c.in_ok-first-2.ensures types_are_then c.in_ok-methods_of.ensures types_are_still told)
    c.overriding.ensures
