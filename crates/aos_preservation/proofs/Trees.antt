-- Trees of questions that are typed in a world: each question is valid, and so is what follows each answer of the sort that it has.
use Rattle.std.proofs.Common.{◌≡◌, suc, List, [], ◌∷◌, ◌++◌, Option, Some, None, sym, ap, ◌∙◌}
use Rattle.aos_base.specs.declared.root.Root.TheVariants.{Object as ObjectRoot}
use Rattle.aos_base.specs.Question.{Val, Asks, Traps, bind, feed, Reads, Stores, Copies, PutsText, ComparesTexts, Calls, Ends, Makes, Starts, Enters, Leaves, Awaits, PutsInt, PutsChar, PutsString, PutsNothing, PutsLn, Places, Lengths, Opens, Sizes, Tests}
use Rattle.aos_base.specs.Rooted.{Made, by_number}
use Rattle.aos_types.specs.Extension.{comes_to}
use Rattle.aos_types.specs.Shape.{One}
use Rattle.aos_types.specs.Table.{row_of}
use Rattle.aos_types.specs.World.{World, Grows}
use Rattle.aos_memory_laws.proofs.Grow.{shape_grows}
use Rattle.aos_typed.specs.declared.tree.TType.{TType}
use Rattle.aos_typed.specs.Numbers.{id_of, id_of_made}
use Rattle.aos_typed.specs.Program.{Program}
use Rattle.aos_typed.specs.Routines.{Routine, result_of, routines}
use Rattle.aos_typed.specs.Sort.{Sort, Plain}
use Rattle.aos_typed.specs.Location.{Location}
use Rattle.aos_typed.specs.Typing.{Is, IsFlag, HasLengths}
use Rattle.aos_typed.specs.Value.{Value, Flag, Object}
use Rattle.aos_typed.specs.Meaning.{Here, Question, Doing, object_in}
use Rattle.aos_typed.specs.Source.{length_in, made_shape, object_place}
use Rattle.aos_sim.proofs.Does.{HasScalar, IsAnswer, IsObject, Valid}
use Rattle.aos_sim.proofs.Kept.{values_kept}

-- a value is one object alone
pub one_object : (w : World Sort) (v : Value) (m n : Made) → IsObject w v m → IsObject w v n → m ≡ n
one_object w v m n h k =
    let both : Object (suc h.number) ≡ Object (suc k.number) = sym h.is ∙ k.is in
    let number : suc h.number ≡ suc k.number = cc both in
    let made : Some m ≡ Some n = sym h.made ∙ ap w.made number ∙ k.made in
    let same : m ≡ n = cc made in
    same

-- a place holds a scalar of one sort alone
pub one_scalar : (p : Program) (w : World Sort) (s : Location) (k j : Sort) → HasScalar p w s k → HasScalar p w s j → k ≡ j
one_scalar p w s k j h i =
    let both : Some (One k) ≡ Some (One j) = sym h ∙ i in
    let same : k ≡ j = cc both in
    same

module _ (p : Program) (w : World Sort) where
  -- an answer is of the sort that the question has
  abbrev pub IsTold : Question → Value → Type 0
  IsTold (Reads t s) v = Is p w (Plain (id_of t)) v
  IsTold (ComparesTexts r a n b m) v = IsFlag v
  IsTold (Calls how q vs) v = (r : Routine) → by_number q (routines p) ≡ Some r → IsAnswer p w (result_of r.own) v
  IsTold (Makes t vs) v = (m : Made) × IsObject w v m × (m.type ≡ t) × HasLengths p (row_of p.types (id_of_made m.type)) m
  IsTold (Places s) v = (k : Sort) × HasScalar p w s k × Is p w k v
  IsTold (Lengths s) v = (k : Sort) × HasScalar p w s k × Is p w k v
  IsTold (Opens u) v =
      (m : Made) × IsObject w u m × (v ≡ object_place (object_in u) (Some m)) × (w.shape (ObjectRoot (object_in u)) ≡ Some (made_shape p.types m))
  IsTold (Sizes u d) v = (m : Made) × IsObject w u m × (v ≡ length_in d (Some m))
  IsTold (Tests u t) v = (m : Made) × IsObject w u m × (v ≡ Flag (comes_to p.types (id_of_made m.type) (id_of_made t)))
  IsTold q v = Unit {0}

  abbrev pub AreTold : {A : Type 0} → List Value → Doing A → Type 0
  AreTold [] d = Unit {0}
  AreTold (v ∷ vs) (Val a) = Unit {0}
  AreTold (v ∷ vs) (Traps n c) = Unit {0}
  AreTold (v ∷ vs) (Asks q k) = IsTold q v × AreTold vs (k v)

  -- more answers
  pub told_more : {A : Type 0} (vs us : List Value) (d : Doing A) → AreTold vs d → AreTold us (feed vs d) → AreTold (vs ++ us) d
  told_more [] us d h k = k
  told_more (v ∷ vs) us (Val a) h k = tt
  told_more (v ∷ vs) us (Traps n c) h k = tt
  told_more (v ∷ vs) us (Asks q g) h k = (h.0, told_more vs us (g v) h.1 k)

  -- where statements are carried out
  module _ (here : Here) where
    abbrev pub Typed : {A : Type 0} → (A → Type 0) → Doing A → Type 0
    Typed R (Val a) = R a
    Typed R (Traps n c) = Unit {0}
    Typed R (Asks q k) = Valid p here w q × ((v : Value) → IsTold q v → Typed R (k v))

    pub typed_bind : {A B : Type 0} (R : A → Type 0) (S : B → Type 0) (d : Doing A) (k : A → Doing B) → Typed R d → ((a : A) → R a → Typed S (k a)) → Typed S (bind d k)
    typed_bind R S (Val a) k h f = f a h
    typed_bind R S (Traps n c) k h f = tt
    typed_bind R S (Asks q g) k h f = (h.0, λ v t. typed_bind R S (g v) k (h.1 v t) f)

    pub typed_more : {A : Type 0} (R S : A → Type 0) (d : Doing A) → Typed R d → ((a : A) → R a → S a) → Typed S d
    typed_more R S (Val a) h f = f a h
    typed_more R S (Traps n c) h f = tt
    typed_more R S (Asks q g) h f = (h.0, λ v t. typed_more R S (g v) (h.1 v t) f)

    -- after answers
    pub typed_fed : {A : Type 0} (R : A → Type 0) (vs : List Value) (d : Doing A) → Typed R d → AreTold vs d → Typed R (feed vs d)
    typed_fed R [] d h t = h
    typed_fed R (v ∷ vs) (Val a) h t = tt
    typed_fed R (v ∷ vs) (Traps n c) h t = tt
    typed_fed R (v ∷ vs) (Asks q g) h t = typed_fed R vs (g v) (h.1 v t.0) t.1

-- As the world grows.
module _ (p : Program) (w w' : World Sort) (up : Grows w w') where
  is_grows : (k : Sort) (v : Value) → Is p w k v → Is p w' k v
  is_grows k v h = (values_kept p).is w w' up k v h

  answer_grows : (t : Option TType) (v : Value) → IsAnswer p w t v → IsAnswer p w' t v
  answer_grows None v h = tt
  answer_grows (Some t) v h = is_grows (Plain (id_of t)) v h

  scalar_grows : (s : Location) (k : Sort) → HasScalar p w s k → HasScalar p w' s k
  scalar_grows s k h = shape_grows w w' up s.root s.path (One k) h

  object_grows : (v : Value) (m : Made) → IsObject w v m → IsObject w' v m
  object_grows v m h = record { number = h.number; is = h.is; made = up.made (suc h.number) m h.made }

  told_grows : (q : Question) (v : Value) → IsTold p w q v → IsTold p w' q v
  told_grows (Reads t s) v h = is_grows (Plain (id_of t)) v h
  told_grows (ComparesTexts r a n b m) v h = h
  told_grows (Calls how q vs) v h = λ r there. answer_grows (result_of r.own) v (h r there)
  told_grows (Makes t vs) v h = (h.0, object_grows v h.0 h.1, h.2, h.3)
  told_grows (Places s) v h = (h.0, scalar_grows s h.0 h.1, is_grows h.0 v h.2)
  told_grows (Lengths s) v h = (h.0, scalar_grows s h.0 h.1, is_grows h.0 v h.2)
  told_grows (Opens u) v h = (h.0, object_grows u h.0 h.1, h.2, up.shapes (ObjectRoot (object_in u)) (made_shape p.types h.0) h.3)
  told_grows (Sizes u d) v h = (h.0, object_grows u h.0 h.1, h.2)
  told_grows (Tests u t) v h = (h.0, object_grows u h.0 h.1, h.2)
  told_grows (Stores s u) v h = tt
  told_grows (Copies t a b) v h = tt
  told_grows (PutsText strict a n b m) v h = tt
  told_grows (Ends u) v h = tt
  told_grows (Starts u) v h = tt
  told_grows Enters v h = tt
  told_grows Leaves v h = tt
  told_grows (Awaits c) v h = tt
  told_grows (PutsInt u n) v h = tt
  told_grows (PutsChar u) v h = tt
  told_grows (PutsString s n) v h = tt
  told_grows PutsNothing v h = tt
  told_grows PutsLn v h = tt

  pub all_told_grow : {A : Type 0} (vs : List Value) (d : Doing A) → AreTold p w vs d → AreTold p w' vs d
  all_told_grow [] d h = tt
  all_told_grow (v ∷ vs) (Val a) h = tt
  all_told_grow (v ∷ vs) (Traps n c) h = tt
  all_told_grow (v ∷ vs) (Asks q g) h = (told_grows q v h.0, all_told_grow vs (g v) h.1)
