-- One type after the other, along bases.
use Rattle.std.proofs.Common.{◌≡◌, ◌≢◌, ℕ, zero, suc, List, inl, inr, sym, ap, ◌∙◌}
use Rattle.std.specs.Prelude.{Some, None, true, false, nat_eq, if◌then◌else◌}
use Rattle.std.proofs.lemmas.Bool.Decides.{eqb_tells}
use Rattle.aos_code.specs.declared.image.TypeDesc.{TypeDesc}
use Rattle.aos_code.specs.Numbered.{numbered}
use Rattle.aos_code.specs.Silent.{on_base, extends_by}

is_one : (a b : ℕ) → a ≡ b → nat_eq a b ≡ true
is_one a b e = elim (eqb_tells a b) [ inl p ↦ p.0 | inr p ↦ absurd (p.1 e) ]

pub is_other : (a b : ℕ) → a ≢ b → nat_eq a b ≡ false
is_other a b ne = elim (eqb_tells a b) [ inl p ↦ absurd (ne p.1) | inr p ↦ p.0 ]

pub extends_here : (n : ℕ) (types : List TypeDesc) (d t : ℕ) → d ≡ t → extends_by n types d t ≡ true
extends_here zero types d t e = is_one d t e
extends_here (suc n) types d t e = ap (λ b. if b then true else on_base (λ x. extends_by n types x t) (numbered types d)) (is_one d t e)

pub extends_last : (types : List TypeDesc) (d t : ℕ) → d ≢ t → extends_by 0 types d t ≡ false
extends_last types d t ne = is_other d t ne

pub extends_none : (n : ℕ) (types : List TypeDesc) (d t : ℕ) → d ≢ t → None ≡ numbered types d → extends_by (suc n) types d t ≡ false
extends_none n types d t ne none =
    ap (λ b. if b then true else on_base (λ x. extends_by n types x t) (numbered types d)) (is_other d t ne) ∙ ap (on_base (λ x. extends_by n types x t)) (sym none)

pub extends_base : (n : ℕ) (types : List TypeDesc) (d t : ℕ) (desc : TypeDesc) → d ≢ t → Some desc ≡ numbered types d → extends_by (suc n) types d t ≡ extends_by n types desc.base t
extends_base n types d t desc ne some =
    ap (λ b. if b then true else on_base (λ x. extends_by n types x t) (numbered types d)) (is_other d t ne) ∙ ap (on_base (λ x. extends_by n types x t)) (sym some)
