-- What the topmost object tells, by whether it is one, NIL, and known.
use Rattle.std.proofs.Common.{◌≡◌, ◌<◌, ℕ, zero, suc, List, [], ◌∷◌, ◌++◌, drop, refl, sym, ap, ◌∙◌, arith}
use Rattle.std.specs.Prelude.{Some, None, slice_get}
use Rattle.std.specs.Option.{option_map}
use Rattle.std.proofs.lemmas.Option.{slice_get-map}
use Rattle.aos_base.specs.Rooted.{by_number}
use Rattle.aos_code.specs.declared.instr.Cell.{Cell}
use Rattle.aos_code.specs.declared.image.ProcShape.{ProcShape}
use Rattle.aos_code.specs.declared.image.TypeDesc.{TypeDesc}
use Rattle.aos_code.specs.Silent.{Stack, Look, Act, Goes, Looks, Stops, Fails, looks, gives, Tells, Refuses, Unheard, told_by}
use Rattle.aos_store.specs.declared.heap.Object.{Object}
use Rattle.aos_store.specs.Objects.{made_in}
use Rattle.aos_silent_steps.specs.declared.act.Act.TheVariants.{Goes as GoesOn, Fails as FailsWith}
use Rattle.aos_silent_steps.specs.Acts.{object_in}
use Rattle.aos_silent_steps.specs.Known.{known}
use Rattle.aos_silent_steps.specs.Steps.{IsTold}
use Rattle.aos_silent_steps.proofs.Stepped.{told_any, told_tells, told_refuses, told_unheard, looks_lost, looks_nil, looks_one}

-- What is known of an object.

pub known_one : (os : List Object) (n : ℕ) (x : Object) → Some x ≡ by_number n os → known os n ≡ Some (made_in x)
known_one os zero x e = absurd (cc e)
known_one os (suc k) x e = slice_get-map made_in os k ∙ ap (option_map made_in) (sym e)

pub known_none : (os : List Object) (n : ℕ) → None ≡ by_number n os → known os n ≡ None
known_none os zero e = refl
known_none os (suc k) e = slice_get-map made_in os k ∙ ap (option_map made_in) (sym e)

looks_at : (l : Look) (nil : Stack → Act) (s : Stack) (n : ℕ) → 0 < n → Some n ≡ object_in (slice_get s 0) → looks l nil s ≡ Looks l n (drop 1 s)
looks_at l nil s zero lt e = absurd (omega (arith, lt))
looks_at l nil s (suc o) lt e = looks_one l nil s o e

module _ (shapes : List ProcShape) (types : List TypeDesc) (os : List Object) (l : Look) (s s' : Stack) where
  pub told_lost : (nil : Stack → Act) → None ≡ object_in (slice_get s 0) → IsTold shapes types (known os) (looks l nil s) (FailsWith 16 0) s'
  told_lost nil e = told_any shapes types (known os) (FailsWith 16 0) (looks l nil s) s' (sym (looks_lost l nil s e))

  pub told_nil_fails : (n : ℕ) → Some 0 ≡ object_in (slice_get s 0) → IsTold shapes types (known os) (looks l (λ r. Stops (Fails n 0)) s) (FailsWith n 0) s'
  told_nil_fails n e = told_any shapes types (known os) (FailsWith n 0) (looks l (λ r. Stops (Fails n 0)) s) s' (sym (looks_nil l (λ r. Stops (Fails n 0)) s e))

  pub told_nil_gives : (v : Cell) → Some 0 ≡ object_in (slice_get s 0) → s' ≡ v ∷ drop 1 s → IsTold shapes types (known os) (looks l (λ r. gives v r) s) (GoesOn 0) s'
  told_nil_gives v e put = told_any shapes types (known os) (GoesOn 0) (looks l (λ r. gives v r) s) s' (ap (λ r. Goes 0 r) put ∙ sym (looks_nil l (λ r. gives v r) s e))

  module _ (nil : Stack → Act) (n : ℕ) (some : 0 < n) (top : Some n ≡ object_in (slice_get s 0)) where
    pub told_unknown : None ≡ by_number n os → IsTold shapes types (known os) (looks l nil s) (FailsWith 16 0) s'
    told_unknown e = told_unheard shapes types (known os) l n (looks l nil s) s' (drop 1 s) (looks_at l nil s n some top) (ap (told_by shapes types l n) (known_none os n e))

    pub told_one : (x : Object) (vs : List Cell) → Some x ≡ by_number n os → told_by shapes types l n (Some (made_in x)) ≡ Tells vs → s' ≡ vs ++ drop 1 s → IsTold shapes types (known os) (looks l nil s) (GoesOn 0) s'
    told_one x vs e tells put = told_tells shapes types (known os) l n (looks l nil s) (made_in x) vs s' (drop 1 s) (looks_at l nil s n some top) (known_one os n x e) tells put

    pub told_refused : (x : Object) (k : ℕ) → Some x ≡ by_number n os → told_by shapes types l n (Some (made_in x)) ≡ Refuses k → IsTold shapes types (known os) (looks l nil s) (FailsWith k 0) s'
    told_refused x k e refuses = told_refuses shapes types (known os) l n (looks l nil s) (made_in x) k s' (drop 1 s) (looks_at l nil s n some top) (known_one os n x e) refuses

    pub told_few : (x : Object) → Some x ≡ by_number n os → told_by shapes types l n (Some (made_in x)) ≡ Unheard → IsTold shapes types (known os) (looks l nil s) (FailsWith 16 0) s'
    told_few x e few = told_unheard shapes types (known os) l n (looks l nil s) s' (drop 1 s) (looks_at l nil s n some top) (ap (told_by shapes types l n) (known_one os n x e) ∙ few)

-- the place on top, and the operands below
pub place_top : (s : Stack) (v : Cell) → Some v ≡ slice_get s 0 → s ≡ v ∷ drop 1 s
place_top [] v e = absurd (cc e)
place_top (w ∷ s) v e = let z : w ≡ v = cc in ap (λ x. x ∷ s) z
