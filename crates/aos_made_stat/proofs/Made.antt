-- A statement that was made is seen as what it was made of.
use Rattle.std.proofs.Common.{◌≡◌, ap, ◌∙◌}
use Rattle.std.specs.Prelude.{Result, IfOk}
use Rattle.std.proofs.lemmas.Result.{IfOk-weaker}
use Rattle.aos_typed.specs.declared.tree.TStat.{TStat}
use Rattle.aos_typed.specs.Program.{Stat}
use Rattle.aos_typed.specs.Seen.{seen_stat}

pub made_seen : {E : Type 0} (r : Result TStat E) (s : TStat) (x : Stat) → seen_stat s ≡ x → IfOk r (λ z. z ≡ s) → IfOk r (λ z. seen_stat z ≡ x)
made_seen r s x e h = IfOk-weaker r (λ z. z ≡ s) (λ z. seen_stat z ≡ x) (λ z k. ap seen_stat k ∙ e) h
