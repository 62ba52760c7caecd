-- A procedure value below so many arguments, and what it stands for.
use Rattle.std.proofs.Common.{◌≡◌, ◌<◌, ◌+◌, ℕ, zero, suc, List, [], ◌∷◌, take, drop, reverse, refl, sym, ap, ◌∙◌, arith, lt-ltb}
use Rattle.std.specs.Prelude.{Bool, true, false, nat_lt, Option, Some, None, slice_get}
use Rattle.std.proofs.lemmas.List.{reverse-append}
use Rattle.aos_base.specs.Question.{Calls, ByName}
use Rattle.aos_code.specs.declared.instr.Cell.{Cell}
use Rattle.aos_code.specs.declared.instr.Cell.TheVariants.{Num, Ref, Call as CallCell, Place}
use Rattle.aos_code.specs.declared.image.ProcShape.{ProcShape}
use Rattle.aos_code.specs.Numbered.{numbered}
use Rattle.aos_code.specs.Silent.{Stack, Act, Sees, Stops, Fails, lost, on_callable, on_callables, same_formals, applies_to, applies_as, applies}
use Rattle.aos_silent_steps.specs.declared.act.Callable.{Callable}
use Rattle.aos_silent_steps.specs.declared.act.Way.{Way}
use Rattle.aos_silent_steps.specs.Acts.{callable_in, passed, or_lost}
use Rattle.aos_silent_steps.specs.Taken.{way_for}
use Rattle.aos_silent_steps.proofs.Arguments.{at_and_behind, up_to, nothing_behind}

pub callable_cell : (c : Option Cell) (v : Callable) → Some v ≡ callable_in c → c ≡ Some (CallCell v.procedure v.object)
callable_cell None v e = absurd (cc e)
callable_cell (Some (Num a)) v e = absurd (cc e)
callable_cell (Some (Ref o)) v e = absurd (cc e)
callable_cell (Some (CallCell p o)) v e =
    let x : Callable = record { procedure = p; object = o } in
    let z : v ≡ x = cc e in
    ap (λ (y : Callable). Some (CallCell y.procedure y.object)) (sym z)
callable_cell (Some (Place r c t)) v e = absurd (cc e)

module _ (k : ℕ → ℕ → Stack → Act) (s : Stack) (d : ℕ) where
  pub value_none : None ≡ callable_in (slice_get s d) → on_callable k (drop d s) ≡ Stops lost
  value_none e = by (slice_get s d) refl e
    where
      by : (c : Option Cell) → slice_get s d ≡ c → None ≡ callable_in c → on_callable k (drop d s) ≡ Stops lost
      by None is e = ap (on_callable k) (nothing_behind s d is)
      by (Some (Num a)) is e = ap (on_callable k) (at_and_behind s d (Num a) is)
      by (Some (Ref o)) is e = ap (on_callable k) (at_and_behind s d (Ref o) is)
      by (Some (CallCell p o)) is e = absurd (cc e)
      by (Some (Place r c t)) is e = ap (on_callable k) (at_and_behind s d (Place r c t) is)

  pub value_one : (v : Callable) → Some v ≡ callable_in (slice_get s d) → on_callable k (drop d s) ≡ k v.procedure v.object (drop (d + 1) s)
  value_one v e = ap (on_callable k) (at_and_behind s d (CallCell v.procedure v.object) (callable_cell (slice_get s d) v e))

-- Two procedure values on top.
module _ (k : ℕ → ℕ → ℕ → ℕ → Stack → Act) (s : Stack) where
  pub values_none : None ≡ callable_in (slice_get s 0) → on_callables k s ≡ Stops lost
  values_none e = value_none (λ q i s1. on_callable (λ p o s2. k p o q i s2) s1) s 0 e

  module _ (v : Callable) (is : Some v ≡ callable_in (slice_get s 0)) where
    pub values_one : None ≡ callable_in (slice_get s 1) → on_callables k s ≡ Stops lost
    values_one e = value_one (λ q i s1. on_callable (λ p o s2. k p o q i s2) s1) s 0 v is ∙ value_none (λ p o s2. k p o v.procedure v.object s2) s 1 e

    pub values_two : (w : Callable) → Some w ≡ callable_in (slice_get s 1) → on_callables k s ≡ k w.procedure w.object v.procedure v.object (drop 2 s)
    values_two w e = value_one (λ q i s1. on_callable (λ p o s2. k p o q i s2) s1) s 0 v is ∙ value_one (λ p o s2. k p o v.procedure v.object s2) s 1 w e

-- how a procedure is called through a value
way_is : (is_same method : Bool) (p o : ℕ) (vs : List Cell) (s : Stack) → applies_to is_same method p o vs s ≡ or_lost (way_for is_same method (nat_lt 0 o)) (λ way. Sees (Calls ByName p (passed way (CallCell p o ∷ vs))) s)
way_is true true p zero vs s = refl
way_is true true p (suc o) vs s = ap (λ b. or_lost (way_for true true b) (λ way. Sees (Calls ByName p (passed way (CallCell p (suc o) ∷ vs))) s)) (sym (lt-ltb 0 (suc o) (omega arith)))
way_is true false p zero vs s = refl
way_is true false p (suc o) vs s = ap (λ b. or_lost (way_for true false b) (λ way. Sees (Calls ByName p (passed way (CallCell p (suc o) ∷ vs))) s)) (sym (lt-ltb 0 (suc o) (omega arith)))
way_is false true p zero vs s = refl
way_is false true p (suc o) vs s = refl
way_is false false p zero vs s = refl
way_is false false p (suc o) vs s = refl

applies_some : (shapes : List ProcShape) (g : ProcShape) (p o : ℕ) (vs : List Cell) (s : Stack) → 0 < p → applies shapes g p o vs s ≡ applies_as (numbered shapes p) g p o vs s
applies_some shapes g zero o vs s some = absurd (omega (arith, some))
applies_some shapes g (suc p) o vs s some = refl

-- A call of what a value stands for.
module _ (shapes : List ProcShape) (g : ProcShape) (s : Stack) (d : ℕ) where
  abbrev arguments : List Cell
  arguments = reverse (take d s)

  abbrev calling : ℕ → ℕ → Stack → Act
  calling p o r = applies shapes g p o arguments r

  pub applied_other : None ≡ callable_in (slice_get s d) → Stops lost ≡ on_callable calling (drop d s)
  applied_other e = sym (value_none calling s d e)

  module _ (v : Callable) (is : Some v ≡ callable_in (slice_get s d)) where
    -- with the value, in their order
    with_value : reverse (take (d + 1) s) ≡ CallCell v.procedure v.object ∷ arguments
    with_value =
        let cell : Cell = CallCell v.procedure v.object in
        ap reverse (up_to s d cell (callable_cell (slice_get s d) v is)) ∙ reverse-append (take d s) (cell ∷ [])

    pub applied_nil : v.procedure ≡ 0 → Stops (Fails 1 0) ≡ on_callable calling (drop d s)
    applied_nil z = sym (value_one calling s d v is ∙ ap (λ p. applies shapes g p v.object arguments (drop (d + 1) s)) z)

    module _ (some : 0 < v.procedure) where
      applied_is : on_callable calling (drop d s) ≡ applies_as (numbered shapes v.procedure) g v.procedure v.object arguments (drop (d + 1) s)
      applied_is = value_one calling s d v is ∙ applies_some shapes g v.procedure v.object arguments (drop (d + 1) s) some

      pub applied_unknown : None ≡ numbered shapes v.procedure → Stops lost ≡ on_callable calling (drop d s)
      applied_unknown e = sym (applied_is ∙ ap (λ f. applies_as f g v.procedure v.object arguments (drop (d + 1) s)) (sym e))

      shape_is : (f : ProcShape) → Some f ≡ numbered shapes v.procedure → on_callable calling (drop d s) ≡
          or_lost (way_for (same_formals f g) f.method (nat_lt 0 v.object)) (λ way. Sees (Calls ByName v.procedure (passed way (CallCell v.procedure v.object ∷ arguments))) (drop (d + 1) s))
      shape_is f e = applied_is ∙ ap (λ f. applies_as f g v.procedure v.object arguments (drop (d + 1) s)) (sym e) ∙ way_is (same_formals f g) f.method v.procedure v.object arguments (drop (d + 1) s)

      pub applied_lost : (f : ProcShape) → Some f ≡ numbered shapes v.procedure → None ≡ way_for (same_formals f g) f.method (nat_lt 0 v.object) → Stops lost ≡ on_callable calling (drop d s)
      applied_lost f e w = sym (shape_is f e ∙ ap (λ way. or_lost way (λ way. Sees (Calls ByName v.procedure (passed way (CallCell v.procedure v.object ∷ arguments))) (drop (d + 1) s))) (sym w))

      pub applied_so : (f : ProcShape) → Some f ≡ numbered shapes v.procedure → (way : Way) → Some way ≡ way_for (same_formals f g) f.method (nat_lt 0 v.object) → Sees (Calls ByName v.procedure (passed way (reverse (take (d + 1) s)))) (drop (d + 1) s) ≡ on_callable calling (drop d s)
      applied_so f e way w =
          ap (λ vs. Sees (Calls ByName v.procedure (passed way vs)) (drop (d + 1) s)) with_value
          ∙ sym (shape_is f e ∙ ap (λ way. or_lost way (λ way. Sees (Calls ByName v.procedure (passed way (CallCell v.procedure v.object ∷ arguments))) (drop (d + 1) s))) (sym w))
