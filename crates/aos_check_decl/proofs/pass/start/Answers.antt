-- Behind what the names for other types lead to, all types have their numbers.
use Rattle.std.proofs.Common.{◌≡◌, List, refl, ap₂, ◌∙◌, subst}
use Rattle.std.proofs.lemmas.Result.{IfOk-from_err, IfOk-weaker}
use Rattle.aos_tree.specs.declared.decl.Decl.{Decl}
use Rattle.aos_symbols.specs.Judged.{kept}
use Rattle.aos_check_types.specs.Aliases.{targets}
use Rattle.aos_check_decl.specs.Pass.{numbered, started}
use Rattle.aos_check_types.specs.Told.{Told}
use Rattle.aos_check_types.proofs.Telling.{then_told}
use Rattle.aos_check_decl.proofs.pass.start.Goals as goal

pub returns-in_err-targets : goal.returns-in_err-targets
returns-in_err-targets c = IfOk-from_err c.from_residual.result _ c.from_residual.ensures.0

pub returns : goal.returns
returns c =
    let e = c.args.env.now in
    let text = c.args.text.now in
    let m = c.args.tree.now in
    let ts = c.in_ok-targets.targets.items in
    let behind = c.targets_of.new.found in
    let end = c.give_numbers.new.env in
    let led : Told (targets e m.decls) c.args.found.now behind ts =
    subst (λ (ds : List Decl). Told (targets e ds) c.args.found.now behind ts) c.as_slice.ensures c.in_ok-targets.ensures.told in
    IfOk-weaker c.give_numbers.result (λ _. end ≡ numbered text m c.deref.result.now c.targets_of.new.env) (λ _. Told (started text m e) c.args.found.now behind end)
    (λ _ is. then_told (targets e m.decls) (λ ts. kept (numbered text m ts e)) led
    (record { noted = refl; is = is ∙ ap₂ (λ us f. numbered text m us f) c.deref.ensures.value c.in_ok-targets.ensures.env }))
    c.give_numbers.ensures
