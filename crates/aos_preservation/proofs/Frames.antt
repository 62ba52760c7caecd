-- A frame is typed: it is of a routine, whose parameters and locals are parts of it, and its answers are of their sorts; then so is what it asks
-- next, and what it gives is of the routine's type.
use Rattle.std.proofs.Common.{◌≡◌, ℕ, List, [], ◌∷◌, ◌++◌, length, map, true, false, Option, Some, None, sym, ap, ◌∙◌, subst}
use Rattle.std.specs.Prelude.{if◌then◌else◌, is_some}
use Rattle.aos_base.specs.declared.root.Root.TheVariants.{Object as ObjectRoot}
use Rattle.aos_base.specs.Question.{Val, Asks, feed}
use Rattle.aos_base.specs.Rooted.{Made, by_number}
use Rattle.aos_types.specs.Content.{Fits}
use Rattle.aos_types.specs.World.{World, Grows}
use Rattle.aos_code.specs.declared.instr.Cell.{Cell}
use Rattle.aos_memory_laws.specs.Shows.{FramesShown}
use Rattle.aos_memory_laws.proofs.Grow.{objects_grow}
use Rattle.aos_typed.specs.declared.tree.TType.{TType}
use Rattle.aos_typed.specs.declared.tree.TType.TheVariants.{Boolean}
use Rattle.aos_typed.specs.Numbers.{id_of}
use Rattle.aos_typed.specs.Program.{Procedure, Program, Repeat}
use Rattle.aos_typed.specs.Routines.{Routine, gives, result_of, routines, self_type}
use Rattle.aos_typed.specs.Sort.{Sort, Plain}
use Rattle.aos_typed.specs.Store.{Store, made_in}
use Rattle.aos_typed.specs.Typing.{Is}
use Rattle.aos_typed.specs.Value.{Value, is_true}
use Rattle.aos_typed.specs.Meaning.{Here, Question, Doing, Item, Do, Round, Until, Gives, After, Into, item_of, value_of}
use Rattle.aos_typed.specs.Source.{Frame, answered, here_of, made_shape, noted, told}
use Rattle.aos_sim.specs.Cells.{cell_of}
use Rattle.aos_sim.proofs.Does.{HasTypes, IsFrameOf, IsResult, IsSelf, Knows, scheme, self_grows}
use Rattle.aos_sim.proofs.Kept.{values_kept}
use Rattle.aos_sim.proofs.States.{shapes_of, top_shape, world_of}
use Rattle.aos_handover.specs.Kinds.{follow, so_far, IsAsking, IsNext, Stood, Followed, AnotherRound, Repeated, Behind, HasHad, Rests, Begins, GoesOn, Tested, IsLeft, AtEnd, AtResult, Nowhere, Stands}
use Rattle.aos_escape.specs.Items.{ItemsFine}
use Rattle.aos_escape.specs.Naming.{IsOf}
use Rattle.aos_escape.proofs.Items.{had_fine, next_fine}
use Rattle.aos_preservation.proofs.Exprs.{value_typed}
use Rattle.aos_preservation.proofs.Quiet.{made_shaped, noted_alone, noted_told}
use Rattle.aos_preservation.proofs.Stats.{AfterGives, ItemsGive, item_typed}
use Rattle.aos_handover.proofs.Items.{follow_gives as follow_give, first_gives as first_give, rest_gives as rest_give, items_also_give}
use Rattle.aos_preservation.proofs.Trees.{AreTold, IsTold, Typed, all_told_grow, told_more, typed_fed}

module _ (p : Program) where
  -- the answers so far are of their sorts
  abbrev pub AreAnswers : World Sort → Here → Option (List Value) → List Item → Type 0
  AreAnswers w here None is = Unit {0}
  AreAnswers w here (Some vs) [] = ⊥
  AreAnswers w here (Some vs) (i ∷ is) = AreTold p w vs (item_of p here i)

  -- a frame of the routine with this number, above so many others
  pub record FrameTyped (w : World Sort) (n : ℕ) (f : Frame) (below : ℕ) : Type 0 where
    pub routine : Routine
    pub there : by_number n (routines p) ≡ Some routine
    pub function : f.gives ≡ gives routine.own
    pub frame : IsFrameOf p routine.own f.shape
    pub self : IsSelf p w.made (self_type routine.own) f.object
    pub items : ItemsGive p w routine.own f.items
    pub answers : AreAnswers w (record { below = below; self = f.object }) f.answers f.items

  abbrev pub AllTyped : List Made → List ℕ → List Frame → Type 0
  AllTyped made [] [] = Unit {0}
  AllTyped made [] (f ∷ fs) = ⊥
  AllTyped made (n ∷ ns) [] = ⊥
  AllTyped made (n ∷ ns) (f ∷ fs) = FrameTyped (world_of p made (shapes_of (f ∷ fs))) n f (length fs) × AllTyped made ns fs

  -- what frames hold is of their shapes
  abbrev pub AllHold : List Made → List Frame → Type 0
  AllHold made fs = (ys : List (List Cell)) × FramesShown (Is p) cell_of (scheme p) made (shapes_of fs) (map (λ (f : Frame). f.variables) fs) ys

  -- As the world grows.

  module _ (w w' : World Sort) (up : Grows w w') where
    result_grows : (t : Option TType) (r : Option Value) → IsResult p w t r → IsResult p w' t r
    result_grows None None h = tt
    result_grows None (Some v) h = absurd h
    result_grows (Some t) None h = absurd h
    result_grows (Some t) (Some v) h = (values_kept p).is w w' up (Plain (id_of t)) v h

    items_grow : (own : Option Procedure) (is : List Item) → ItemsGive p w own is → ItemsGive p w' own is
    items_grow own is h = items_also_give (IsResult p w (result_of own)) (IsResult p w' (result_of own)) (result_grows (result_of own)) is h

    answers_grow : (here : Here) (a : Option (List Value)) (is : List Item) → AreAnswers w here a is → AreAnswers w' here a is
    answers_grow here None is h = tt
    answers_grow here (Some vs) [] h = h
    answers_grow here (Some vs) (i ∷ is) h = all_told_grow p w w' up vs (item_of p here i) h

    frame_grows : (n : ℕ) (f : Frame) (below : ℕ) → FrameTyped w n f below → FrameTyped w' n f below
    frame_grows n f below h =
        record {
          routine = h.routine;
          there = h.there;
          function = h.function;
          frame = h.frame;
          self = self_grows p w.made w'.made up.made (self_type h.routine.own) f.object h.self;
          items = items_grow h.routine.own f.items h.items;
          answers = answers_grow (record { below = below; self = f.object }) f.answers f.items h.answers;
        }

  pub all_typed_grow : (made more : List Made) (ns : List ℕ) (fs : List Frame) → AllTyped made ns fs → AllTyped (made ++ more) ns fs
  all_typed_grow made more [] [] h = tt
  all_typed_grow made more [] (f ∷ fs) h = h
  all_typed_grow made more (n ∷ ns) [] h = h
  all_typed_grow made more (n ∷ ns) (f ∷ fs) h =
      let shapes = shapes_of (f ∷ fs) in
      (frame_grows (world_of p made shapes) (world_of p (made ++ more) shapes) (objects_grow (scheme p) made more shapes) n f (length fs) h.0, all_typed_grow made more ns fs h.1)

  -- Items behind one another.
  module _ (w : World Sort) (own : Option Procedure) where
    abbrev Ok : List Item → Type 0
    Ok is = ItemsGive p w own is

    abbrev Result : Option Value → Type 0
    Result v = IsResult p w (result_of own) v

    follow_gives : (after : After) (is : List Item) → AfterGives p w own after → Ok is → Ok (follow after is)
    follow_gives after is h k = follow_give Result after is h k

    first_gives : (i : Item) (is : List Item) → Ok (i ∷ is) → Ok (i ∷ [])
    first_gives i is h = first_give Result i is h

    rest_gives : (i : Item) (is : List Item) → Ok (i ∷ is) → Ok is
    rest_gives i is h = rest_give Result i is h

  -- one more answer
  pub answer_told : (w : World Sort) (g : Frame) (gs : List Frame) (q : Question) (asks : IsAsking p g gs q) (v : Value) → IsTold p w q v → AreAnswers w (here_of g gs) g.answers g.items → AreAnswers w (here_of g gs) (told v g.answers) g.items
  answer_told w g gs q asks v is h =
      let come = asks.1 in
      let here = here_of g gs in
      let before : AreTold p w come.answers (item_of p here come.item) = subst (λ a. AreAnswers w here a (come.item ∷ come.rest)) come.begun (subst (λ js. AreAnswers w here g.answers js) come.items h) in
      let after : AreTold p w (come.answers ++ v ∷ []) (item_of p here come.item) = told_more p w come.answers (v ∷ []) (item_of p here come.item) before (subst (AreTold p w (v ∷ [])) (sym come.is) (is, tt)) in
      subst (λ a. AreAnswers w here (told v a) g.items) (sym come.begun) (subst (λ js. AreAnswers w here (Some (come.answers ++ v ∷ [])) js) (sym come.items) after)

  pub answered_typed : (w : World Sort) (n : ℕ) (g : Frame) (gs : List Frame) (q : Question) → IsAsking p g gs q → (v : Value) → IsTold p w q v → FrameTyped w n g (length gs) → FrameTyped w n (answered v g) (length gs)
  answered_typed w n g gs q asks v is h =
      record { routine = h.routine; there = h.there; function = h.function; frame = h.frame; self = h.self; items = h.items; answers = answer_told w g gs q asks v is h.answers }

  -- In a turn.
  module _ (typed : HasTypes p) (s : Store) (f : Frame) (fs : List Frame) (n : ℕ) (own : IsOf p n f) (k : FrameTyped (world_of p s.made (shapes_of (f ∷ fs))) n f (length fs)) (hold : Fits (Is p (world_of p s.made (shapes_of (f ∷ fs)))) f.shape f.variables) where
    abbrev pub now : World Sort
    now = world_of p s.made (shapes_of (f ∷ fs))

    abbrev r : Routine
    r = k.routine

    abbrev here : Here
    here = here_of f fs

    abbrev objects : (o : ℕ) (m : Made) → now.made o ≡ Some m → now.shape (ObjectRoot o) ≡ Some (made_shape p.types m)
    objects = made_shaped p s.made (shapes_of (f ∷ fs))

    pub knows : Knows p r.own here now
    knows = record { modules = λ m x e. e; frame = (f.shape, top_shape p s.made f fs, k.frame); self = k.self }

    abbrev TypedNow : Doing After → Type 0
    TypedNow d = Typed p now here (AfterGives p now r.own) d

    fine : ItemsFine p n r f.items
    fine =
        let both : Some own.routine ≡ Some k.routine = sym own.there ∙ k.there in
        let same : own.routine ≡ k.routine = cc both in subst (λ z. ItemsFine p n z f.items) same own.items

    item_may : (i : Item) (is : List Item) → ItemsFine p n r (i ∷ is) → ItemsGive p now r.own (i ∷ is) → TypedNow (item_of p here i)
    item_may i is fine' give = item_typed p typed now r here knows i fine'.0.1 (first_gives now r.own i is give)

    -- with the answers of questions that are answered at once
    told_so_far : (i : Item) (is : List Item) (vs : List Value) → f.items ≡ i ∷ is → f.answers ≡ Some vs → AreTold p now (so_far p s f fs i vs) (item_of p here i)
    told_so_far i is vs e had =
        let before : AreTold p now vs (item_of p here i) = subst (λ a. AreAnswers now here a (i ∷ is)) had (subst (λ js. AreAnswers now here f.answers js) e k.answers) in
        let law = item_may i is (subst (ItemsFine p n r) e fine) (subst (ItemsGive p now r.own) e k.items) in
        let left = feed vs (item_of p here i) in
        told_more p now vs (noted p.types (made_in s) f.variables left) (item_of p here i) before
        (noted_alone p now here f.shape f.variables (top_shape p s.made f fs) hold objects (AfterGives p now r.own) left (typed_fed p now here (AfterGives p now r.own) vs (item_of p here i) law before))

    pub next_gives : (is : List Item) → IsNext p s f fs is → ItemsGive p now r.own is
    next_gives _ (Stood none) = k.items
    next_gives _ (Followed i is vs after e had come) =
        let items = subst (ItemsGive p now r.own) e k.items in
        let law = item_may i is (subst (ItemsFine p n r) e fine) items in
        let all = typed_fed p now here (AfterGives p now r.own) (so_far p s f fs i vs) (item_of p here i) law (told_so_far i is vs e had) in
        follow_gives now r.own after is (subst TypedNow come all) (rest_gives now r.own i is items)
    next_gives _ (AnotherRound st is next) = next_gives (Round st ∷ is) next
    next_gives _ (Repeated at b e is v next come t) = next_gives (Until at b e ∷ is) next
    next_gives _ (Behind at b e is v next come t) = next_gives (Until at b e ∷ is) next

    had_typed : (is : List Item) (a : Option (List Value)) → HasHad p s f fs is a → ItemsGive p now r.own is × AreAnswers now here a is
    had_typed _ _ (Rests is next) = (next_gives is next, tt)
    had_typed _ _ (Begins i is next) = (next_gives (i ∷ is) next, tt)
    had_typed _ _ (GoesOn i is vs e had) = (subst (ItemsGive p now r.own) e k.items, told_so_far i is vs e had)
    had_typed _ _ (Tested at b e is next) =
        let ready = next_fine p n r s f fs (Until at b e ∷ is) next fine in
        let on : Value → Doing After = λ v. Val (Into (if is_true v then [] else Do (Repeat at b e) ∷ [])) in (
          next_gives (Until at b e ∷ is) next,
          noted_told p now here f.shape f.variables (top_shape p s.made f fs) hold objects (λ v. Is p now (Plain (id_of Boolean)) v) (value_of p here e) on (value_typed p typed now r.own here knows e Boolean ready.0.1.0.1),
        )

    pub stands_typed : (g : Frame) → Stands p s f fs g → FrameTyped now n g (length fs)
    stands_typed g st =
        let object = ap (λ (y : Frame). y.object) st.same.is in
        let x = had_typed g.items g.answers st.had in
        record {
          routine = r;
          there = k.there;
          function = ap (λ (y : Frame). y.gives) st.same.is ∙ k.function;
          frame = subst (IsFrameOf p r.own) (sym (ap (λ (y : Frame). y.shape) st.same.is)) k.frame;
          self = subst (IsSelf p now.made (self_type r.own)) (sym object) k.self;
          items = x.0;
          answers = subst (λ o. AreAnswers now (record { below = length fs; self = o }) g.answers g.items) (sym object) x.1;
        }

    -- what is asked is typed
    pub asked : (g : Frame) → Stands p s f fs g → (q : Question) (asks : IsAsking p g fs q) → TypedNow (Asks q asks.0)
    asked g st q asks =
        let come = asks.1 in
        let same_here : here_of g fs ≡ here = ap (λ (y : Frame). here_of y fs) st.same.is in
        let x = had_typed g.items g.answers st.had in
        let answers : AreTold p now come.answers (item_of p here come.item) = subst (λ a. AreAnswers now here a (come.item ∷ come.rest)) come.begun (subst (λ js. AreAnswers now here g.answers js) come.items x.1) in
        let items = subst (ItemsGive p now r.own) come.items x.0 in
        let ready = subst (ItemsFine p n r) come.items (had_fine p n r s f fs g.items g.answers st.had fine) in
        let law = item_may come.item come.rest ready items in
        let left = typed_fed p now here (AfterGives p now r.own) come.answers (item_of p here come.item) law answers in
        subst TypedNow ((λ i. feed come.answers (item_of p (sym same_here i) come.item)) ∙ come.is) left

    -- and so it is where the frame stands already
    pub asked_now : (q : Question) (asks : IsAsking p f fs q) → TypedNow (Asks q asks.0)
    asked_now q asks =
        let come = asks.1 in
        let answers : AreTold p now come.answers (item_of p here come.item) = subst (λ a. AreAnswers now here a (come.item ∷ come.rest)) come.begun (subst (λ js. AreAnswers now here f.answers js) come.items k.answers) in
        let law = item_may come.item come.rest (subst (ItemsFine p n r) come.items fine) (subst (ItemsGive p now r.own) come.items k.items) in
        subst TypedNow come.is (typed_fed p now here (AfterGives p now r.own) come.answers (item_of p here come.item) law answers)

    -- a result is of the routine's type
    pub left_gives : (v : Option Value) → IsLeft p s f fs v → IsResult p now (result_of r.own) v
    left_gives _ (AtEnd next e) = by (result_of r.own) (sym k.function ∙ e)
      where
        by : (t : Option TType) → is_some t ≡ false → IsResult p now t None
        by None none = tt
        by (Some t) none = let no : true ≡ false = none in absurd (cc no)
    left_gives _ (AtResult v is next) = (next_gives (Gives v ∷ is) next).0
    left_gives _ (Nowhere vs e none) = absurd (subst (λ a. AreAnswers now here a []) e (subst (λ js. AreAnswers now here f.answers js) none k.answers))
