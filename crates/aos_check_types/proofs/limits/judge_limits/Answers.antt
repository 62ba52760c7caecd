-- What was asked breaks its rules before what is judged of all types.
use Rattle.std.proofs.Common.{fold, refl, ap, ◌∙◌, subst}
use Rattle.std.proofs.lemmas.Result.{IfOk-weaker}
use Rattle.std.specs.List.{flat_map}
use Rattle.aos_types.specs.declared.row.TypeRow.{TypeRow}
use Rattle.std.specs.Prelude.{List}
use Rattle.aos_symbols.specs.Judged.{judged}
use Rattle.aos_check_types.specs.Limits as judge
use Rattle.aos_check_types.specs.Told.{Told}
use Rattle.aos_check_types.proofs.Telling.{then_told}
use Rattle.aos_check_types.proofs.limits.judge_limits.Goals as goal

pub returns : goal.returns
returns c =
    let e = c.args.env.now in
    let asked = judged (flat_map (judge.claim_breaches e) e.claims) (judge.with_bases e) in
    let with_types = λ (ts : List TypeRow). record e { types = ts } in
    let types_are = c.drop_bases.ensures ∙ ap (λ cs. fold judge.without_base e.types cs) c.as_slice.ensures in
    let end = c.cut_off.new in
    let one : Told asked c.args.found.now c.note_claims.new.found (judge.with_bases e) = record { noted = c.in_ok-note_claims.ensures; is = refl } in
    IfOk-weaker c.cut_off.result (λ _. Told (judge.cut_off (with_types c.drop_bases.new.types) c.args.first c.args.decls.now) c.note_claims.new.found end.found end.env)
    (λ _. Told (judge.limits e c.args.first c.args.decls.now) c.args.found.now end.found end.env)
    (λ _ told. then_told asked (λ e. judge.cut_off e c.args.first c.args.decls.now) one
    (subst (λ (ts : List TypeRow). Told (judge.cut_off (with_types ts) c.args.first c.args.decls.now) c.note_claims.new.found end.found end.env) types_are told))
    c.cut_off.ensures
