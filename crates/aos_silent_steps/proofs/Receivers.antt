-- The object on which a method is called, below so many arguments, and what its type has in a slot.
use Rattle.std.proofs.Common.{◌≡◌, ◌<◌, ◌+◌, ℕ, zero, suc, List, [], ◌∷◌, take, drop, reverse, refl, sym, ap, ◌∙◌, arith}
use Rattle.std.specs.Prelude.{Bool, true, Option, Some, None, slice_get}
use Rattle.std.proofs.lemmas.List.{reverse-append}
use Rattle.aos_base.specs.Question.{Calls, ByName}
use Rattle.aos_base.specs.Rooted.{by_number}
use Rattle.aos_code.specs.declared.instr.Cell.{Cell}
use Rattle.aos_code.specs.declared.instr.Cell.TheVariants.{Num, Ref, Call as CallCell, Place}
use Rattle.aos_code.specs.declared.image.ProcShape.{ProcShape}
use Rattle.aos_code.specs.declared.image.TypeDesc.{TypeDesc}
use Rattle.aos_code.specs.Silent.{Stack, AtSlot, Act, Looks, Sees, Stops, Fails, lost, on_receiver, called, Invokes, Unheard, invoked, method_at, told_by}
use Rattle.aos_store.specs.declared.heap.Object.{Object}
use Rattle.aos_store.specs.Objects.{made_in}
use Rattle.aos_silent_steps.specs.declared.act.Act.TheVariants.{Sees as Asks, Fails as FailsWith}
use Rattle.aos_silent_steps.specs.declared.act.Question.TheVariants.{Calls as AsksCall}
use Rattle.aos_silent_steps.specs.declared.act.Way.TheVariants.{Direct}
use Rattle.aos_silent_steps.specs.Acts.{object_in}
use Rattle.aos_silent_steps.specs.Known.{known}
use Rattle.aos_silent_steps.specs.Steps.{IsTold}
use Rattle.aos_silent_steps.proofs.Arguments.{at_and_behind, up_to, nothing_behind}
use Rattle.aos_silent_steps.proofs.Stepped.{told_any, told_unheard, told_invokes}
use Rattle.aos_silent_steps.proofs.Telling.{known_one, known_none}

pub object_cell : (c : Option Cell) (o : ℕ) → Some o ≡ object_in c → c ≡ Some (Ref o)
object_cell None o e = absurd (cc e)
object_cell (Some (Num a)) o e = absurd (cc e)
object_cell (Some (Ref p)) o e = let z : p ≡ o = cc in ap (λ x. Some (Ref x)) z
object_cell (Some (CallCell p q)) o e = absurd (cc e)
object_cell (Some (Place r c t)) o e = absurd (cc e)

module _ (k : ℕ → Stack → Act) (s : Stack) (d : ℕ) where
  pub receiver_none : None ≡ object_in (slice_get s d) → on_receiver k (drop d s) ≡ Stops lost
  receiver_none e = by (slice_get s d) refl e
    where
      by : (c : Option Cell) → slice_get s d ≡ c → None ≡ object_in c → on_receiver k (drop d s) ≡ Stops lost
      by None is e = ap (on_receiver k) (nothing_behind s d is)
      by (Some (Num a)) is e = ap (on_receiver k) (at_and_behind s d (Num a) is)
      by (Some (Ref o)) is e = absurd (cc e)
      by (Some (CallCell p o)) is e = ap (on_receiver k) (at_and_behind s d (CallCell p o) is)
      by (Some (Place r c t)) is e = ap (on_receiver k) (at_and_behind s d (Place r c t) is)

  pub receiver_nil : Some 0 ≡ object_in (slice_get s d) → on_receiver k (drop d s) ≡ Stops (Fails 1 0)
  receiver_nil e = ap (on_receiver k) (at_and_behind s d (Ref 0) (object_cell (slice_get s d) 0 e))

  pub receiver_one : (n : ℕ) → 0 < n → Some n ≡ object_in (slice_get s d) → on_receiver k (drop d s) ≡ k n (drop (d + 1) s)
  receiver_one zero lt e = absurd (omega (arith, lt))
  receiver_one (suc o) lt e = ap (on_receiver k) (at_and_behind s d (Ref (suc o)) (object_cell (slice_get s d) (suc o) e))

-- with the object, in their order
pub with_receiver : (s : Stack) (d n : ℕ) → Some n ≡ object_in (slice_get s d) → reverse (take (d + 1) s) ≡ Ref n ∷ reverse (take d s)
with_receiver s d n e = ap reverse (up_to s d (Ref n) (object_cell (slice_get s d) n e)) ∙ reverse-append (take d s) (Ref n ∷ [])

-- A call of a method.
module _ (p : ℕ) (s : Stack) (d : ℕ) (method : Bool) (is : method ≡ true) where
  abbrev calling : ℕ → Stack → Act
  calling o r = Sees (Calls ByName p (Ref o ∷ reverse (take d s))) r

  on_object : called method p (reverse (take d s)) (drop d s) ≡ on_receiver calling (drop d s)
  on_object = ap (λ m. called m p (reverse (take d s)) (drop d s)) is

  pub called_lost : None ≡ object_in (slice_get s d) → Stops lost ≡ called method p (reverse (take d s)) (drop d s)
  called_lost e = sym (on_object ∙ receiver_none calling s d e)

  pub called_nil : Some 0 ≡ object_in (slice_get s d) → Stops (Fails 1 0) ≡ called method p (reverse (take d s)) (drop d s)
  called_nil e = sym (on_object ∙ receiver_nil calling s d e)

  pub called_one : (n : ℕ) → 0 < n → Some n ≡ object_in (slice_get s d) → Sees (Calls ByName p (reverse (take (d + 1) s))) (drop (d + 1) s) ≡ called method p (reverse (take d s)) (drop d s)
  called_one n lt e = ap (λ vs. Sees (Calls ByName p vs) (drop (d + 1) s)) (with_receiver s d n e) ∙ sym (on_object ∙ receiver_one calling s d n lt e)

-- A call of what an object's type has in a slot.
module _ (shapes : List ProcShape) (types : List TypeDesc) (os : List Object) (slot p : ℕ) (s : Stack) (d : ℕ) where
  abbrev arguments : List Cell
  arguments = reverse (take d s)

  abbrev asks : ℕ → Stack → Act
  asks o r = Looks (AtSlot slot p arguments) o r

  pub sent_lost : None ≡ object_in (slice_get s d) → IsTold shapes types (known os) (on_receiver asks (drop d s)) (FailsWith 16 0) s
  sent_lost e = told_any shapes types (known os) (FailsWith 16 0) (on_receiver asks (drop d s)) s (sym (receiver_none asks s d e))

  pub sent_nil : Some 0 ≡ object_in (slice_get s d) → IsTold shapes types (known os) (on_receiver asks (drop d s)) (FailsWith 1 0) s
  sent_nil e = told_any shapes types (known os) (FailsWith 1 0) (on_receiver asks (drop d s)) s (sym (receiver_nil asks s d e))

  module _ (n : ℕ) (some : 0 < n) (top : Some n ≡ object_in (slice_get s d)) where
    pub sent_unknown : None ≡ by_number n os → IsTold shapes types (known os) (on_receiver asks (drop d s)) (FailsWith 16 0) s
    sent_unknown e =
        told_unheard shapes types (known os) (AtSlot slot p arguments) n (on_receiver asks (drop d s)) s (drop (d + 1) s) (receiver_one asks s d n some top)
        (ap (told_by shapes types (AtSlot slot p arguments) n) (known_none os n e))

    pub sent_unheard : (x : Object) → Some x ≡ by_number n os → invoked shapes p (method_at types x.made_of slot) n arguments ≡ Unheard → IsTold shapes types (known os) (on_receiver asks (drop d s)) (FailsWith 16 0) s
    sent_unheard x e none =
        told_unheard shapes types (known os) (AtSlot slot p arguments) n (on_receiver asks (drop d s)) s (drop (d + 1) s) (receiver_one asks s d n some top)
        (ap (told_by shapes types (AtSlot slot p arguments) n) (known_one os n x e) ∙ none)

    pub sent_one : (x : Object) (q : ℕ) → Some x ≡ by_number n os → invoked shapes p (method_at types x.made_of slot) n arguments ≡ Invokes q (Ref n ∷ arguments) → IsTold shapes types (known os) (on_receiver asks (drop d s)) (Asks (AsksCall q Direct (d + 1))) s
    sent_one x q e is =
        told_invokes shapes types (known os) (AtSlot slot p arguments) n (on_receiver asks (drop d s)) (made_in x) q (d + 1) (Ref n ∷ arguments) s (drop (d + 1) s) (receiver_one asks s d n some top)
        (known_one os n x e) is (with_receiver s d n top) refl
