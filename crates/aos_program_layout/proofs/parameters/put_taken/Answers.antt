use Rattle.std.proofs.Common.{◌++◌, ◌∷◌, [], sym, ap, ◌∙◌, append_assoc}
use Rattle.std.specs.Prelude.{replicate, reverse}
use Rattle.std.proofs.lemmas.Result.{on_ok_weaker}
use Rattle.aos_code.specs.declared.instr.Kind.TheVariants.{N, A}
use Rattle.aos_code.specs.Silent.{kinds_of}
use Rattle.aos_program_layout.proofs.Taken.{opened_taken}
use Rattle.aos_program_layout.proofs.parameters.put_taken.Goals as goal

pub returns-in_ok-put_numbers-in-Open : goal.returns-in_ok-put_numbers-in-Open
returns-in_ok-put_numbers-in-Open c =
    let base = c.args.kinds.now.items in
    let d = c.in-Open.dimensions in
    on_ok_weaker c.put_kind-in-Open.result (λ e. e
    ∙ ap (λ l. l ++ A ∷ []) c.in_ok-put_numbers-in-Open.ensures
    ∙ append_assoc base (replicate d N) (A ∷ [])
    ∙ ap (λ l. base ++ l) (opened_taken d)
    ∙ ap (λ p. base ++ reverse (kinds_of (p ∷ []))) (sym c.in-Open.is)) c.put_kind-in-Open.ensures
