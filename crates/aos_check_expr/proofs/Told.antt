-- What calls told of parts, told of the whole.
use Rattle.std.proofs.Common.{◌≡◌, Option, refl, sym, ap, ◌∙◌}
use Rattle.aos_symbols.specs.declared.breach.Breach.{Breach}
use Rattle.aos_symbols.specs.Breaches.{first_after}
use Rattle.aos_symbols.specs.Judged.{Judged, bind}
use Rattle.aos_symbols.proofs.Keeping.{after_more}

module _ {A B : Type 0} (whole : Judged B) (j : Judged A) (f : A → Judged B) (v : A) (is : whole ≡ bind j f) (e : v ≡ j.answer) where
  pub noted : (met mid : Option Breach) → mid ≡ first_after met j.breaches → first_after mid (f v).breaches ≡ first_after met whole.breaches
  noted met mid m =
      ap (λ z. first_after z (f v).breaches) m
      ∙ ap (λ w. first_after (first_after met j.breaches) (f w).breaches) e
      ∙ sym (after_more met j.breaches (f j.answer).breaches)
      ∙ ap (λ z. first_after met z.breaches) (sym is)

  pub answer : (f v).answer ≡ whole.answer
  answer = ap (λ w. (f w).answer) e ∙ ap (λ z. z.answer) (sym is)

-- the same of two parts
module _ {A B C : Type 0} (whole : Judged C) (j : Judged A) (k : Judged B) (f : A → B → Judged C) (v : A) (w : B) (is : whole ≡ bind j (λ a. bind k (f a))) (e : v ≡ j.answer) (g : w ≡ k.answer) where
  pub noted_two : (met mid last : Option Breach) → mid ≡ first_after met j.breaches → last ≡ first_after mid k.breaches →
      first_after last (f v w).breaches ≡ first_after met whole.breaches
  noted_two met mid last m n = noted (bind k (f v)) k (f v) w refl g mid last n ∙ noted whole j (λ a. bind k (f a)) v is e met mid m

  pub answer_two : (f v w).answer ≡ whole.answer
  answer_two = answer (bind k (f v)) k (f v) w refl g ∙ answer whole j (λ a. bind k (f a)) v is e
