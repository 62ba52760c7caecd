-- Answers are true: those of questions that are answered at once, and so they stay as objects are made.
use Rattle.std.proofs.Common.{◌≡◌, ◌⊎◌, inl, inr, ℕ, List, [], ◌∷◌, ◌++◌, Option, Some, None, Bool, ap, subst}
use Rattle.aos_base.specs.declared.root.Root.{Root}
use Rattle.aos_base.specs.declared.root.Root.TheVariants as root
use Rattle.aos_base.specs.Question.{Val, Asks, Traps, bind, feed, Reads, Stores, Copies, PutsText, ComparesTexts, Calls, Ends, Makes, Starts, Enters, Leaves, Awaits, PutsInt, PutsChar, PutsString, PutsNothing, PutsLn, Places, Lengths, Opens, Sizes, Tests}
use Rattle.aos_base.specs.Rooted.{Made}
use Rattle.aos_types.specs.declared.row.TypeId.{TypeId}
use Rattle.aos_types.specs.Content.{Content, Scalar, Empty, Row}
use Rattle.aos_types.specs.Extension.{comes_to}
use Rattle.aos_types.specs.World.{World}
use Rattle.aos_typed.specs.declared.tree.TType.{TType}
use Rattle.aos_typed.specs.Numbers.{id_of_made}
use Rattle.aos_typed.specs.Program.{Procedure, Program}
use Rattle.aos_typed.specs.Routines.{Routine, self_type}
use Rattle.aos_typed.specs.Sort.{Sort, Plain}
use Rattle.aos_typed.specs.Location.{Location}
use Rattle.aos_typed.specs.Typing.{Is}
use Rattle.aos_typed.specs.Value.{Value, Int, Flag, Char, Set, Object, Callable, Place}
use Rattle.aos_typed.specs.Meaning.{Here, Question, Doing, Item, object_in, procedure_in}
use Rattle.aos_typed.specs.Source.{known, length_in, object_place, has_type_in, noted, type_in}
use Rattle.aos_sim.proofs.Does.{HasTypes, IsSelf, bind_val}
use Rattle.aos_uses.specs.Guarded.{IsGuarded, Spares}
use Rattle.aos_uses.specs.declared.uses.Use.{Use}
use Rattle.aos_uses.specs.declared.uses.Variable.{Variable}
use Rattle.aos_escape.specs.Naming.{ContentIs}
use Rattle.aos_escape.proofs.Values.{Simply, known_is, length_is}
use Rattle.aos_stability.specs.Locations.{IsFree, IsFreeAt, IsMadeFor, IsTold, AreTold, Serves, StandsFor}
use Rattle.aos_stability.proofs.Copies.{HoldCopies, IsNoPlace, known_copied, no_place}
use Rattle.aos_stability.proofs.Law.{Law}
use Rattle.aos_stability.proofs.Statements.{ResultServes, ItemsServe}
use Rattle.aos_handover.proofs.Items.{items_also_give}

-- what holds of all values of a content, where what held of them is enough for it
pub content_more : (C D : Value → Type 0) → ((v : Value) → C v → D v) → (c : Content Value) → ContentIs C c → ContentIs D c
content_more C D f (Scalar v) h = f v h
content_more C D f Empty h = tt
content_more C D f (Row a b) h = (content_more C D f a h.0, content_more C D f b h.1)

module _ (p : Program) (made : ℕ → Option Made) where
  pub free_simply : Simply (IsFree p made)
  free_simply = record { int = λ z. tt; flag = λ b. tt; char = λ c. tt; set = λ s. tt; nil = tt; none = tt }

  module _ (own : Option Procedure) where
    -- more answers
    pub told_more : {A : Type 0} (vs us : List Value) (d : Doing A) → AreTold p made own vs d → AreTold p made own us (feed vs d) → AreTold p made own (vs ++ us) d
    told_more [] us d h k = k
    told_more (v ∷ vs) us (Val a) h k = tt
    told_more (v ∷ vs) us (Traps n c) h k = tt
    told_more (v ∷ vs) us (Asks q g) h k = (h.0, told_more vs us (g v) h.1 k)

    pub opens_told : (u : Value) (m : Made) → made (object_in u) ≡ Some m → IsTold p made own (Opens u) (object_place (object_in u) (made (object_in u)))
    opens_told u m e = (m, e, ap (object_place (object_in u)) e)

    pub tests_told : (c : Content Value) (u : Value) (t : ℕ) (m : Made) → made (object_in u) ≡ Some m → IsTold p made own (Tests u t) (has_type_in p.types made c t (made (object_in u)))
    tests_told c u t m e = (m, e, ap (λ o. Flag (comes_to p.types (id_of_made (type_in o)) (id_of_made t))) e)

  -- no value of a type is a place
  pub plain_free : (w : World Sort) (t : TypeId) (v : Value) → Is p w (Plain t) v → IsFree p made v
  plain_free w t v h = free v (no_place p w t v h)
    where
      free : (v : Value) → IsNoPlace v → IsFree p made v
      free (Int z) h = tt
      free (Flag b) h = tt
      free (Char c) h = tt
      free (Set s) h = tt
      free (Object o) h = tt
      free (Callable q o) h = tt
      free (Place s) h = absurd h

-- In a frame of a routine.
module _ (p : Program) (typed : HasTypes p) (made : ℕ → Option Made) (n : ℕ) (r : Routine) (here : Here) (is_self_of : IsSelf p made (self_type r.own) here.self) (x : Bool) (Ok : Use → Type 0) (spares : (u : Use) → Ok u → (v : Variable) → IsGuarded p v → Spares p v n r u) where
  abbrev LawOf : {A : Type 0} → (A → Type 0) → Doing A → Type 0
  LawOf R d = Law p typed made n r here is_self_of x Ok spares R d

  -- after true answers
  pub law_fed : {A : Type 0} (R : A → Type 0) (vs : List Value) (d : Doing A) → LawOf R d → AreTold p made r.own vs d → LawOf R (feed vs d)
  law_fed R [] d h t = h
  law_fed R (v ∷ vs) (Val a) h t = tt
  law_fed R (v ∷ vs) (Traps j c) h t = tt
  law_fed R (v ∷ vs) (Asks q g) h t = law_fed R vs (g v) (h.1 v t.0) t.1

  -- and those at once are true, with what follows or without
  module _ (c : Content Value) (free : ContentIs (IsFree p made) c) (copies : HoldCopies p r.own c) where
    known_told : (s : Location) → IsFree p made (known c s)
    known_told s = known_is p (IsFree p made) (free_simply p made) made c free s

    length_told : (d : ℕ) (m : Option Made) → IsFree p made (length_in d m)
    length_told d m = length_is p (IsFree p made) (free_simply p made) made c free d m

    pub noted_told : {A B : Type 0} (R : A → Type 0) (d : Doing A) (k : A → Doing B) → LawOf R d → AreTold p made r.own (noted p.types made c d) (bind d k)
    noted_told R (Val a) k h = tt
    noted_told R (Traps j code) k h = tt
    noted_told R (Asks (Places s) g) k h = let t : IsTold p made r.own (Places s) (known c s) = (known_told s, known_copied p r.own c copies s) in (t, noted_told R (g (known c s)) k (h.1 (known c s) t))
    noted_told R (Asks (Lengths s) g) k h = let t = known_told s in (t, noted_told R (g (known c s)) k (h.1 (known c s) t))
    noted_told R (Asks (Opens u) g) k h =
        let v = object_place (object_in u) (made (object_in u)) in
        let t = opens_told p made r.own u h.0.0 h.0.1 in (t, noted_told R (g v) k (h.1 v t))
    noted_told R (Asks (Sizes u d) g) k h =
        let v = length_in d (made (object_in u)) in
        let t = length_told d (made (object_in u)) in (t, noted_told R (g v) k (h.1 v t))
    noted_told R (Asks (Tests u ty) g) k h =
        let v = has_type_in p.types made c ty (made (object_in u)) in
        let t = tests_told p made r.own c u ty h.0.0 h.0.1 in (t, noted_told R (g v) k (h.1 v t))
    noted_told R (Asks (Reads t s) g) k h = tt
    noted_told R (Asks (Stores s v) g) k h = tt
    noted_told R (Asks (Copies t a b) g) k h = tt
    noted_told R (Asks (PutsText strict a i b j) g) k h = tt
    noted_told R (Asks (ComparesTexts o a i b j) g) k h = tt
    noted_told R (Asks (Calls how q vs) g) k h = tt
    noted_told R (Asks (Ends v) g) k h = tt
    noted_told R (Asks (Makes t vs) g) k h = tt
    noted_told R (Asks (Starts v) g) k h = tt
    noted_told R (Asks Enters g) k h = tt
    noted_told R (Asks Leaves g) k h = tt
    noted_told R (Asks (Awaits i) g) k h = tt
    noted_told R (Asks (PutsInt v i) g) k h = tt
    noted_told R (Asks (PutsChar v) g) k h = tt
    noted_told R (Asks (PutsString s i) g) k h = tt
    noted_told R (Asks PutsNothing g) k h = tt
    noted_told R (Asks PutsLn g) k h = tt

    pub noted_alone : {A : Type 0} (R : A → Type 0) (d : Doing A) → LawOf R d → AreTold p made r.own (noted p.types made c d) d
    noted_alone R d h = subst (AreTold p made r.own (noted p.types made c d)) (bind_val d) (noted_told R d (λ a. Val a) h)

-- As objects are made.
module _ (p : Program) (made made' : ℕ → Option Made) (up : (o : ℕ) (m : Made) → made o ≡ Some m → made' o ≡ Some m) where
  free_at_grows : (r : Root) (path : List ℕ) → IsFreeAt p made r path → IsFreeAt p made' r path
  free_at_grows (root.Frame d) path h = tt
  free_at_grows (root.Module m) path h = h
  free_at_grows (root.Object o) path h = (h.0, up o h.0 h.1, h.2)

  pub free_grows : (v : Value) → IsFree p made v → IsFree p made' v
  free_grows (Place s) h = free_at_grows s.root s.path h
  free_grows (Int z) h = tt
  free_grows (Flag b) h = tt
  free_grows (Char c) h = tt
  free_grows (Set x) h = tt
  free_grows (Object o) h = tt
  free_grows (Callable q o) h = tt

  stands_grow : (q : Procedure) (v : Value) → StandsFor p made q v → StandsFor p made' q v
  stands_grow q v h = record { home = h.home; procedure = h.procedure; there = h.there; formals = h.formals; handed = h.handed }

  pub serves_grow : (t : TType) (v : Value) → Serves p made t v → Serves p made' t v
  serves_grow t v h = record { points = λ e. points (h.points e); calls = λ q e. calls q (h.calls q e); free = free_grows v h.free }
    where
      points : (object_in v ≡ 0) ⊎ IsMadeFor p made t (object_in v) → (object_in v ≡ 0) ⊎ IsMadeFor p made' t (object_in v)
      points (inl nil) = inl nil
      points (inr y) = inr (y.0, up (object_in v) y.0 y.1, y.2)

      calls : (q : Procedure) → (procedure_in v ≡ 0) ⊎ StandsFor p made q v → (procedure_in v ≡ 0) ⊎ StandsFor p made' q v
      calls q (inl nil) = inl nil
      calls q (inr y) = inr (stands_grow q v y)

  module _ (own : Option Procedure) where
    told_grows : (q : Question) (v : Value) → IsTold p made own q v → IsTold p made' own q v
    told_grows (Reads t s) v h = serves_grow t v h
    told_grows (Calls how q vs) v h = λ r t e f. serves_grow t v (h r t e f)
    told_grows (Opens u) v h =
        let is = up (object_in u) h.0 h.1 in (h.0, is, h.2)
    told_grows (Tests u t) v h = (h.0, up (object_in u) h.0 h.1, h.2)
    told_grows (Places s) v h = (free_grows v h.0, h.1)
    told_grows (Lengths s) v h = free_grows v h
    told_grows (Sizes u d) v h = free_grows v h
    told_grows (ComparesTexts o a i b j) v h = h
    told_grows (Makes t vs) v h = free_grows v h
    told_grows (Stores s u) v h = tt
    told_grows (Copies t a b) v h = tt
    told_grows (PutsText strict a i b j) v h = tt
    told_grows (Ends u) v h = tt
    told_grows (Starts u) v h = tt
    told_grows Enters v h = tt
    told_grows Leaves v h = tt
    told_grows (Awaits i) v h = tt
    told_grows (PutsInt u i) v h = tt
    told_grows (PutsChar u) v h = tt
    told_grows (PutsString s i) v h = tt
    told_grows PutsNothing v h = tt
    told_grows PutsLn v h = tt

    pub all_told_grow : {A : Type 0} (vs : List Value) (d : Doing A) → AreTold p made own vs d → AreTold p made' own vs d
    all_told_grow [] d h = tt
    all_told_grow (v ∷ vs) (Val a) h = tt
    all_told_grow (v ∷ vs) (Traps n c) h = tt
    all_told_grow (v ∷ vs) (Asks q g) h = (told_grows q v h.0, all_told_grow vs (g v) h.1)

  module _ (typed : HasTypes p) (n : ℕ) (r : Routine) where
    result_grows : (v : Option Value) → ResultServes p typed made n r v → ResultServes p typed made' n r v
    result_grows None h = h
    result_grows (Some v) h = λ t e. serves_grow t v (h t e)

    pub items_grow : (is : List Item) → ItemsServe p typed made n r is → ItemsServe p typed made' n r is
    items_grow is h = items_also_give (ResultServes p typed made n r) (ResultServes p typed made' n r) result_grows is h
