-- Whoever builds an object after a turn was inside of its NEW before, or has made it in this turn.
use Rattle.std.proofs.Common.{◌≤◌, arith, ◌≡◌, ◌⊎◌, inl, inr, ℕ, suc, List, [], ◌∷◌, ◌++◌, length, true, false, Option, Some, None, refl, sym, ap, ◌∙◌, subst}
use Rattle.std.specs.Prelude.{if◌then◌else◌, nat_eq}
use Rattle.aos_base.specs.declared.root.Root.{Root}
use Rattle.aos_base.specs.declared.root.Root.TheVariants.{Frame as FrameRoot, Module as ModuleRoot, Object as ObjectRoot}
use Rattle.aos_base.specs.Question.{Upward, ByCreator, ByValue, ByType, ByName, Manner, Val, Asks, Traps, bind, feed, Initially, Reads, Stores, ComparesTexts, Copies, PutsText, Calls, Ends, Makes, Starts, Enters, Leaves, Awaits, PutsInt, PutsChar, PutsString, PutsNothing, PutsLn, Places, Lengths, Opens, Sizes, Tests}
use Rattle.aos_base.specs.Rooted.{by_number, Made, change_from_last}
use Rattle.aos_types.specs.Content.{first_content, Content, Scalar, Empty, Row}
use Rattle.aos_typed.specs.declared.tree.TType.TheVariants.{Boolean}
use Rattle.aos_typed.specs.Program.{Repeat, Program}
use Rattle.aos_typed.specs.Routines.{has_self, routines, Routine}
use Rattle.aos_typed.specs.Value.{Value, Object, is_true}
use Rattle.aos_typed.specs.Store.{with_object, store_with, new_number, Store, made_in}
use Rattle.aos_typed.specs.Meaning.{Here, Question, Doing, Item, Do, Until, After, Into, item_of, object_in, value_of}
use Rattle.aos_typed.specs.Source.{Turned, length_in, known, done, called_frame, self_of, made_shape, first_value, has_type_in, object_place, Frame, here_of, answered, calm, frames_with, noted, told, with_result}
use Rattle.aos_uses.specs.Uses.{expr_uses, stats_uses}
use Rattle.aos_uses.specs.Guarded.{IsQuiet, Keeps}
use Rattle.aos_sim.proofs.Does.{feed_noted, feed_noted_bind}
use Rattle.aos_sim.proofs.Runs.{feed-append}
use Rattle.aos_handover.specs.Kinds.{Told, answer_in, OneText, OneWhole, OneScalar, IsStored, written_by, MakesNone, Called, Created, Stored, Written, Popped, Left, Stopped, Settled, Kind, so_far, HasCome, IsAsking, HasHad, Rests, Begins, GoesOn, Tested, Stands, HasNotAsked}
use Rattle.aos_escape.specs.Items.{has_mark, item_uses, ItemsFine}
use Rattle.aos_escape.specs.Naming.{ContentIs, AllAre, AnswersAre, ResultIs, FrameIs, FramesAre, VariablesAre, IsOther, SelvesOther, HideAll, IsOf, StandsOnAll, AreOf, Pends, Inside, Builds}
use Rattle.aos_handover.proofs.Items.{all_give}
use Rattle.aos_escape.proofs.Items.{body_fine, part}
use Rattle.aos_escape.proofs.Names.{HasNames}
use Rattle.aos_escape.proofs.Telling.{Tells, IsAsked, tells_fed, value_tells}
use Rattle.aos_escape.proofs.Saying.{CallIs, made_by, Says, kept, begins_says, come_says, asks_says}
use Rattle.aos_escape.proofs.Values.{variables_are}
use Rattle.aos_escape.proofs.Steps.{object_number, stands_fine, given, Any, any_plainly}

-- All values are values.

any_content : (c : Content Value) → ContentIs Any c
any_content (Scalar v) = tt
any_content Empty = tt
any_content (Row a b) = (any_content a, any_content b)

any_all : (vs : List Value) → AllAre Any vs
any_all [] = tt
any_all (v ∷ vs) = (tt, any_all vs)

any_answers : (a : Option (List Value)) → AnswersAre Any a
any_answers None = tt
any_answers (Some vs) = any_all vs

any_result : (r : Option Value) → ResultIs Any r
any_result None = tt
any_result (Some v) = tt

pub any_frame : (f : Frame) → FrameIs Any f
any_frame f = record { variables = any_content f.variables; items = all_give (ResultIs Any) any_result f.items; answers = any_answers f.answers }

-- Frames that differ in their variables alone.

pub data SameTexts : List Frame → List Frame → Type 0 where
  NoFrames : SameTexts [] []
  OneMore : (f : Frame) (c : Content Value) (fs gs : List Frame) → SameTexts fs gs → SameTexts (f ∷ fs) (record f { variables = c } ∷ gs)

pub texts_same : (fs : List Frame) → SameTexts fs fs
texts_same [] = NoFrames
texts_same (f ∷ fs) = OneMore f f.variables fs fs (texts_same fs)

texts_changed : (d : ℕ) (g : Content Value → Content Value) (fs : List Frame) → SameTexts fs (change_from_last d (λ x. record x { variables = g x.variables }) fs)
texts_changed d g [] = NoFrames
texts_changed d g (x ∷ fs) =
    elim (nat_eq d (length fs)) as (λ q. SameTexts (x ∷ fs) (if q then record x { variables = g x.variables } ∷ fs else x ∷ change_from_last d (λ y. record y { variables = g y.variables }) fs)) [
      | true ↦ OneMore x (g x.variables) fs fs (texts_same fs)
      | false ↦ OneMore x x.variables fs _ (texts_changed d g fs)
    ]

pub texts_with : (r : Root) (g : Content Value → Content Value) (fs : List Frame) → SameTexts fs (frames_with r g fs)
texts_with (FrameRoot d) g fs = texts_changed d g fs
texts_with (ModuleRoot m) g fs = texts_same fs
texts_with (ObjectRoot o) g fs = texts_same fs

pub texts_length : (fs gs : List Frame) → SameTexts fs gs → length fs ≡ length gs
texts_length _ _ NoFrames = refl
texts_length _ _ (OneMore f c fs gs same) = ap suc (texts_length fs gs same)

-- What a frame comes to is one thing.

module _ (p : Program) where
  pub come_moved : (f : Frame) (c : Content Value) (fs gs : List Frame) (left : Doing After) → length fs ≡ length gs → HasCome p f fs left → HasCome p (record f { variables = c }) gs left
  come_moved f c fs gs left e h =
      record {
        item = h.item;
        rest = h.rest;
        items = h.items;
        answers = h.answers;
        begun = h.begun;
        is = subst (λ n. feed h.answers (item_of p (record { below = n; self = f.object }) h.item) ≡ left) e h.is;
      }

  pub first_same : (is : List Item) (i j : Item) (rest more : List Item) → is ≡ i ∷ rest → is ≡ j ∷ more → i ≡ j
  first_same is i j rest more e e' = let both : i ∷ rest ≡ j ∷ more = sym e ∙ e' in cc both

  pub some_same : (a : Option (List Value)) (vs ws : List Value) → a ≡ Some vs → a ≡ Some ws → vs ≡ ws
  some_same a vs ws e e' = let both : Some vs ≡ Some ws = sym e ∙ e' in cc both

  pub same_come : (f : Frame) (fs : List Frame) (a b : Doing After) → HasCome p f fs a → HasCome p f fs b → a ≡ b
  same_come f fs a b x y =
      let i = first_same f.items x.item y.item x.rest y.rest x.items y.items in
      let vs = some_same f.answers x.answers y.answers x.begun y.begun in
      sym x.is ∙ (λ k. feed (vs k) (item_of p (here_of f fs) (i k))) ∙ y.is

  -- with one more answer
  pub come_next : (f : Frame) (fs : List Frame) (q : Question) (next : Value → Doing After) (v : Value) (left : Doing After) → HasCome p f fs (Asks q next) → HasCome p (answered v f) fs left → next v ≡ left
  come_next f fs q next v left x y =
      let i = first_same f.items x.item y.item x.rest y.rest x.items y.items in
      let vs : x.answers ++ v ∷ [] ≡ y.answers = some_same (told v f.answers) (x.answers ++ v ∷ []) y.answers (ap (told v) x.begun) y.begun in
      ap (feed (v ∷ [])) (sym x.is) ∙ sym (feed-append x.answers (v ∷ []) (item_of p (here_of f fs) x.item))
      ∙ (λ k. feed (vs k) (item_of p (here_of f fs) (i k))) ∙ y.is

  -- Frames stay of their routines.

  moved_of : (n : ℕ) (f : Frame) (c : Content Value) → IsOf p n f → IsOf p n (record f { variables = c })
  moved_of n f c h = record { routine = h.routine; there = h.there; home = h.home; object = h.object; items = h.items }

  stands_moved : (n : ℕ) (f : Frame) (ns : List ℕ) (fs gs : List Frame) → SameTexts fs gs → StandsOnAll p n f ns fs → StandsOnAll p n f ns gs
  stands_moved n f [] _ _ NoFrames h = tt
  stands_moved n f (m ∷ ms) _ _ NoFrames h = absurd h
  stands_moved n f [] _ _ (OneMore g c fs gs same) h = absurd h
  stands_moved n f (m ∷ ms) _ _ (OneMore g c fs gs same) h =
      record { how = h.how; arguments = h.arguments; asks = (h.asks.0, come_moved g c fs gs _ (texts_length fs gs same) h.asks.1); quiet = h.quiet }

  -- the frame above on the same object
  pub stands_above : (n : ℕ) (f g : Frame) (ns : List ℕ) (fs : List Frame) → f.object ≡ g.object → StandsOnAll p n f ns fs → StandsOnAll p n g ns fs
  stands_above n f g [] [] e h = tt
  stands_above n f g [] (x ∷ fs) e h = absurd h
  stands_above n f g (m ∷ ms) [] e h = absurd h
  stands_above n f g (m ∷ ms) (x ∷ fs) e h =
      record { how = h.how; arguments = h.arguments; asks = h.asks; quiet = λ q. let k = h.quiet q in (k.0, sym e ∙ k.1) }

  are_moved : (ns : List ℕ) (fs gs : List Frame) → SameTexts fs gs → AreOf p ns fs → AreOf p ns gs
  are_moved [] _ _ NoFrames h = tt
  are_moved (n ∷ ns) _ _ NoFrames h = absurd h
  are_moved [] _ _ (OneMore f c fs gs same) h = absurd h
  are_moved (n ∷ ns) _ _ (OneMore f c fs gs same) h =
      (moved_of n f c h.0, (stands_above n f (record f { variables = c }) ns gs refl (stands_moved n f ns fs gs same h.1.0), are_moved ns fs gs same h.1.1))

  answered_of : (n : ℕ) (v : Value) (f : Frame) → IsOf p n f → IsOf p n (answered v f)
  answered_of n v f h = record { routine = h.routine; there = h.there; home = h.home; object = h.object; items = h.items }

  answered_are : (n : ℕ) (ns : List ℕ) (v : Value) (f : Frame) (fs : List Frame) → AreOf p (n ∷ ns) (f ∷ fs) → AreOf p (n ∷ ns) (answered v f ∷ fs)
  answered_are n ns v f fs h = (answered_of n v f h.0, (stands_above n f (answered v f) ns fs refl h.1.0, h.1.1))

  below_of : (following : List ℕ) (ns : List ℕ) (v : Value) (fs : List Frame) → AreOf p ns fs → AreOf p ns (with_result following v fs)
  below_of following [] v [] h = tt
  below_of following [] v (f ∷ fs) h = absurd h
  below_of following (n ∷ ns) v [] h = absurd h
  below_of following (n ∷ ns) v (f ∷ fs) h = answered_are n ns v f fs h

  -- Inside, with other variables.

  variables_hide : (o : ℕ) (fs gs : List Frame) → SameTexts fs gs → VariablesAre (IsOther o) gs → HideAll o fs → HideAll o gs
  variables_hide o fs gs same vars h = record { selves = selves fs gs same h.selves; values = values fs gs same vars h.values }
    where
      selves : (fs gs : List Frame) → SameTexts fs gs → SelvesOther o fs → SelvesOther o gs
      selves _ _ NoFrames h = tt
      selves _ _ (OneMore f c fs gs same) h = (h.0, selves fs gs same h.1)

      values : (fs gs : List Frame) → SameTexts fs gs → VariablesAre (IsOther o) gs → FramesAre (IsOther o) fs → FramesAre (IsOther o) gs
      values _ _ NoFrames vars h = tt
      values _ _ (OneMore f c fs gs same) vars h = (let k = h.0 in record { variables = vars.0; items = k.items; answers = k.answers }, values fs gs same vars.1 h.1)

  pends_moved : (o : ℕ) (f : Frame) (c : Content Value) (fs gs : List Frame) → length fs ≡ length gs → Pends p o f fs → Pends p o (record f { variables = c }) gs
  pends_moved o f c fs gs e h =
      record { number = h.number; value = h.value; arguments = h.arguments; asks = (h.asks.0, come_moved f c fs gs _ e h.asks.1); is = h.is }

  pub inside_moved : (o : ℕ) (ns : List ℕ) (fs gs : List Frame) → SameTexts fs gs → VariablesAre (IsOther o) gs → Inside p o ns fs → Inside p o ns gs
  unfolding pends_moved
  inside_moved o [] _ _ same vars h = absurd h
  inside_moved o (n ∷ ns) _ _ NoFrames vars h = absurd h
  inside_moved o (n ∷ ns) _ _ (OneMore f c fs gs same) vars (inl h) =
      let x = h.0 in
      let k = x.values in
      inl (record { quiet = x.quiet; object = x.object; values = record { variables = vars.0; items = k.items; answers = k.answers } }, inside_moved o ns fs gs same vars.1 h.1)
  inside_moved o (n ∷ ns) _ _ (OneMore f c fs gs same) vars (inr h) =
      let x = h.0 in
      inr (record { object = x.object; variables = vars.0; items = x.items; pends = pends_moved o f c fs gs (texts_length fs gs same) x.pends; arguments = x.arguments }, variables_hide o fs gs same vars.1 h.1)

  pub inside_vars : (o : ℕ) (ns : List ℕ) (fs : List Frame) → Inside p o ns fs → VariablesAre (IsOther o) fs
  inside_vars o [] fs h = absurd h
  inside_vars o (n ∷ ns) [] h = absurd h
  inside_vars o (n ∷ ns) (f ∷ fs) (inl h) = (let x = h.0 in let k = x.values in k.variables, inside_vars o ns fs h.1)
  inside_vars o (n ∷ ns) (f ∷ fs) (inr h) = (let x = h.0 in x.variables, let y = h.1 in variables_are (IsOther o) fs y.values)

  -- other variables pend no more
  pub builds_moved : (o : ℕ) (ns : List ℕ) (fs gs : List Frame) → SameTexts fs gs → Builds p o ns gs → Builds p o ns fs
  builds_moved o [] _ _ same h = absurd h
  builds_moved o (n ∷ ns) _ _ NoFrames h = absurd h
  builds_moved o (n ∷ ns) _ _ (OneMore f c fs gs same) (inl h) = inl h
  builds_moved o (n ∷ ns) _ _ (OneMore f c fs gs same) (inr h) =
      inr (pends_moved o (record f { variables = c }) f.variables gs fs (sym (texts_length fs gs same)) h)

-- Behind silent questions nothing is pending that wasn't.

module _ (p : Program) (n : ℕ) (here : Here) (made : ℕ → Option Made) (c : Content Value) where
  abbrev calmed : {A : Type 0} → Doing A → Doing A
  calmed d = calm p.types made c d

  later : (d before : Doing After) → (calmed d ≡ d) ⊎ Says p n here Any None (calmed d) → Says p n here Any None d → (calmed d ≡ before) ⊎ Says p n here Any None (calmed d)
  later d before (inl e) h = inr (subst (Says p n here Any None) (sym e) h)
  later d before (inr i) h = inr i

  says_calm : (m : Option Value) (d : Doing After) → Says p n here Any m d → (calmed d ≡ d) ⊎ Says p n here Any None (calmed d)
  says_calm m (Val a) h = inl refl
  says_calm m (Traps i code) h = inl refl
  says_calm m (Asks (Places s) k) h = let v = known c s in let j = h.1.1 v tt in later (k v) (Asks (Places s) k) (says_calm None (k v) j) j
  says_calm m (Asks (Lengths s) k) h = let v = known c s in let j = h.1.1 v tt in later (k v) (Asks (Lengths s) k) (says_calm None (k v) j) j
  says_calm m (Asks (Opens u) k) h = let v = object_place (object_in u) (made (object_in u)) in let j = h.1.1 v tt in later (k v) (Asks (Opens u) k) (says_calm None (k v) j) j
  says_calm m (Asks (Sizes u d) k) h = let v = length_in d (made (object_in u)) in let j = h.1.1 v tt in later (k v) (Asks (Sizes u d) k) (says_calm None (k v) j) j
  says_calm m (Asks (Tests u t) k) h = let v = has_type_in p.types made c t (made (object_in u)) in let j = h.1.1 v tt in later (k v) (Asks (Tests u t) k) (says_calm None (k v) j) j
  says_calm m (Asks (Reads t s) k) h = inl refl
  says_calm m (Asks (Stores s v) k) h = inl refl
  says_calm m (Asks (Copies t a b) k) h = inl refl
  says_calm m (Asks (PutsText strict a i b j) k) h = inl refl
  says_calm m (Asks (ComparesTexts r a i b j) k) h = inl refl
  says_calm m (Asks (Calls how q vs) k) h = inl refl
  says_calm m (Asks (Ends r) k) h = inl refl
  says_calm m (Asks (Makes t vs) k) h = inl refl
  says_calm m (Asks (Starts v) k) h = inl refl
  says_calm m (Asks Enters k) h = inl refl
  says_calm m (Asks Leaves k) h = inl refl
  says_calm m (Asks (Awaits i) k) h = inl refl
  says_calm m (Asks (PutsInt v i) k) h = inl refl
  says_calm m (Asks (PutsChar v) k) h = inl refl
  says_calm m (Asks (PutsString s i) k) h = inl refl
  says_calm m (Asks PutsNothing k) h = inl refl
  says_calm m (Asks PutsLn k) h = inl refl

  none_initial : (d : Doing After) (q : ℕ) (vs : List Value) (k : Value → Doing After) → Says p n here Any None d → d ≡ Asks (Calls Initially q vs) k → ⊥
  none_initial d q vs k h e =
      let call = (subst (Says p n here Any None) e h).0.1 in
      let none : None ≡ Some call.0 = call.2 in cc none

  calm_pends : (m : Option Value) (d : Doing After) (q : ℕ) (vs : List Value) (k : Value → Doing After) → Says p n here Any m d → calmed d ≡ Asks (Calls Initially q vs) k → d ≡ Asks (Calls Initially q vs) k
  calm_pends m d q vs k h e = by (says_calm m d h)
    where
      by : (calmed d ≡ d) ⊎ Says p n here Any None (calmed d) → d ≡ Asks (Calls Initially q vs) k
      by (inl same) = sym same ∙ e
      by (inr none) = absurd (none_initial (calmed d) q vs k none e)

  -- nor does an expression call one
  tells_none : {A : Type 0} (d : Doing A) (on : A → After) (q : ℕ) (vs : List Value) (k : Value → Doing After) → Tells Any (IsAsked p n here Any) (λ a. Unit {0}) d → bind d (λ a. Val (on a)) ≡ Asks (Calls Initially q vs) k → ⊥
  tells_none (Val a) on q vs k h e = cc e
  tells_none (Traps i code) on q vs k h e = cc e
  tells_none (Asks x g) on q vs k h e =
      let same : x ≡ Calls Initially q vs = cc e in subst (λ y. IsAsked p n here Any y) same h.0

module _ (p : Program) (names : HasNames p) (n : ℕ) (r : Routine) where
  -- what a frame asks, whatever it was told
  pub any_says : (f : Frame) (fs : List Frame) (q : Question) (asks : IsAsking p f fs q) → ItemsFine p n r f.items → (m : Option Value) × Says p n (here_of f fs) Any m (Asks q asks.0)
  any_says f fs q asks fine = asks_says p names n r Any (any_plainly p) f fs q asks (inl tt) fine (any_frame f)

  -- a frame of a quiet initializer pends never
  pub pends_loud : (o : ℕ) (f : Frame) (fs : List Frame) → ItemsFine p n r f.items → Pends p o f fs → IsQuiet p n → ⊥
  pends_loud o f fs fine h quiet = (any_says f fs _ h.asks fine).1.0.0 quiet

  -- it pends directly behind the making of the object
  pub answered_pends : (o : ℕ) (f : Frame) (fs : List Frame) (q : Question) (v : Value) (asks : IsAsking p f fs q) → ItemsFine p n r f.items → (h : Pends p o (answered v f) fs) → (u : Value) × (made_by q v ≡ Some u) × (object_in u ≡ o)
  answered_pends o f fs q v asks fine h =
      let said = any_says f fs q asks fine in
      let after = subst (Says p n (here_of f fs) Any (made_by q v)) (come_next p f fs q asks.0 v _ asks.1 h.asks.1) (said.1.1.1 v tt) in
      let call = after.0.1 in
      let first : h.value ∷ h.arguments ≡ call.0 ∷ call.1 = call.3 in
      let same : h.value ≡ call.0 = cc first in
      (call.0, call.2, ap object_in (sym same) ∙ h.is)

  -- one that pends as it stands in a turn did so before
  module _ (s : Store) (f : Frame) (fs : List Frame) (fine : ItemsFine p n r f.items) where
    pub pends_before : (o : ℕ) (g : Frame) → Stands p s f fs g → ItemsFine p n r g.items → (h : Pends p o g fs) → (b : Pends p o f fs) × (f.items ≡ g.items) × (b.arguments ≡ h.arguments)
    pends_before o g st fine' h = by g.items g.answers refl refl st.had
      where
        here : Here
        here = here_of g fs

        same_here : here_of f fs ≡ here_of g fs
        same_here = ap (λ (x : Frame). here_of x fs) (sym st.same.is)

        come : HasCome p g fs (Asks (Calls Initially h.number (h.value ∷ h.arguments)) h.asks.0)
        come = h.asks.1

        by : (js : List Item) (a : Option (List Value)) → g.items ≡ js → g.answers ≡ a → HasHad p s f fs js a → (b : Pends p o f fs) × (f.items ≡ g.items) × (b.arguments ≡ h.arguments)
        by _ _ at had (Rests js next) = absurd (let no : None ≡ Some come.answers = sym had ∙ come.begun in cc no)
        by _ _ at had (Begins i js next) =
            let none : [] ≡ come.answers = some_same p g.answers [] come.answers had come.begun in
            let begins = begins_says p names n r Any (any_plainly p) here come.item come.rest (inl tt) (subst (ItemsFine p n r) come.items fine') (all_give (ResultIs Any) any_result (come.item ∷ come.rest)) in
            absurd (none_initial p n here (made_in s) f.variables (item_of p here come.item) _ _ _ begins (ap (λ vs. feed vs (item_of p here come.item)) none ∙ come.is))
        by _ _ at had (Tested line b e js next) =
            let i = first_same p g.items come.item (Until line b e) come.rest js come.items at in
            let vs = some_same p g.answers come.answers (noted p.types (made_in s) f.variables (value_of p (here_of f fs) e)) come.begun had in
            let test = value_of p (here_of f fs) e in
            let told = noted p.types (made_in s) f.variables test in
            let on : Value → After = λ v. Into (if is_true v then [] else Do (Repeat line b e) ∷ []) in
            let ready = subst (ItemsFine p n r) at fine' in
            let uses = part (λ u. Keeps p (IsQuiet p) n u) (expr_uses p e) (stats_uses p (has_mark js) b) (kept p n r (item_uses p (has_mark js) (Until line b e)) ready.0.0) in
            let tells = value_tells p names n (here_of f fs) Any (any_plainly p) (inl tt) r.own e Boolean ready.0.1.0.1 uses.0 in
            let calmed = subst (Tells Any (IsAsked p n (here_of f fs) Any) (λ a. Unit {0})) (feed_noted p.types (made_in s) f.variables test) (tells_fed Any (IsAsked p n (here_of f fs) Any) Any told test tells (any_all told)) in
            absurd (tells_none p n (here_of f fs) (made_in s) f.variables (calm p.types (made_in s) f.variables test) on _ _ _ calmed
            (sym (feed_noted_bind p.types (made_in s) f.variables (λ v. Val (on v)) test)
            ∙ (λ k. feed (sym vs k) (item_of p (same_here k) (sym i k))) ∙ come.is))
        by _ _ at had (GoesOn i js vs e begun) =
            let j = first_same p g.items come.item i come.rest js come.items at in
            let ws = some_same p g.answers come.answers (so_far p s f fs i vs) come.begun had in
            let before = feed vs (item_of p (here_of f fs) i) in
            let calmed : calm p.types (made_in s) f.variables before ≡ Asks (Calls Initially h.number (h.value ∷ h.arguments)) h.asks.0 =
            sym (feed_noted p.types (made_in s) f.variables before) ∙ sym (feed-append vs (noted p.types (made_in s) f.variables before) (item_of p (here_of f fs) i))
            ∙ (λ k. feed (sym ws k) (item_of p (same_here k) (sym j k))) ∙ come.is in
            let said = come_says p names n r Any (any_plainly p) (here_of f fs) i js vs before refl (inl tt) (subst (ItemsFine p n r) e fine) (all_give (ResultIs Any) any_result (i ∷ js)) (any_all vs) in
            let is = calm_pends p n (here_of f fs) (made_in s) f.variables said.0.0 before h.number (h.value ∷ h.arguments) h.asks.0 said.0.1 calmed in (
              record {
                number = h.number;
                value = h.value;
                arguments = h.arguments;
                asks = (h.asks.0, record { item = i; rest = js; items = e; answers = vs; begun = begun; is = is });
                is = h.is;
              },
              e ∙ sym at,
              refl,
            )

    -- one whose first item hasn't asked pends not
    pub fresh_not : (o : ℕ) (g : Frame) → ItemsFine p n r g.items → HasNotAsked g → Pends p o g fs → ⊥
    fresh_not o g fine' fresh h = by fresh
      where
        come : HasCome p g fs (Asks (Calls Initially h.number (h.value ∷ h.arguments)) h.asks.0)
        come = h.asks.1

        by : HasNotAsked g → ⊥
        by (inl none) = let no : None ≡ Some come.answers = sym none ∙ come.begun in cc no
        by (inr begins) =
            let here = here_of g fs in
            let none : [] ≡ come.answers = some_same p g.answers [] come.answers begins come.begun in
            let said = begins_says p names n r Any (any_plainly p) here come.item come.rest (inl tt) (subst (ItemsFine p n r) come.items fine') (all_give (ResultIs Any) any_result (come.item ∷ come.rest)) in
            none_initial p n here (made_in s) f.variables (item_of p here come.item) _ _ _ said (ap (λ vs. feed vs (item_of p here come.item)) none ∙ come.is)

-- How many objects there are.

pub number_with : (r : Root) (g : Content Value → Content Value) (s : Store) → new_number (store_with r g s) ≡ new_number s
number_with (FrameRoot d) g s = refl
number_with (ModuleRoot m) g s = refl
number_with (ObjectRoot o) g s = refl

module _ (p : Program) (names : HasNames p) (following : List ℕ) (s : Store) (f : Frame) (fs : List Frame) (t : Turned) where
  -- the numbers of the routines of the frames after a turn
  abbrev pub numbers_after : Kind p following s f fs t → ℕ → List ℕ → List ℕ
  numbers_after (Settled g st fresh x) n ns = n ∷ ns
  numbers_after (Stopped g number code st x) n ns = n ∷ ns
  numbers_after (Left g q work st asks leaves x) n ns = n ∷ ns
  numbers_after (Popped v left x) n ns = ns
  numbers_after (Told g q none absent st asks x) n ns = n ∷ ns
  numbers_after (Written g q bytes st asks w x) n ns = n ∷ ns
  numbers_after (Stored g q root change st asks stored x) n ns = n ∷ ns
  numbers_after (Created g type vs ks st asks are room x) n ns = n ∷ ns
  numbers_after (Called g how q vs y st asks there few x) n ns = q ∷ n ∷ ns

  abbrev More : Store → List Frame → Type 0
  More store frames = new_number s ≤ new_number store

  none_more : new_number s ≤ new_number s
  none_more = omega arith

  -- objects aren't taken back
  pub step_grows : Kind p following s f fs t → new_number s ≤ new_number t.store
  step_grows (Settled g st fresh x) = given p following s f fs More t s (g ∷ fs) _ _ x none_more
  step_grows (Stopped g number code st x) = given p following s f fs More t s (g ∷ fs) _ _ x none_more
  step_grows (Left g q work st asks leaves x) = given p following s f fs More t s (g ∷ fs) _ _ x none_more
  step_grows (Popped v left x) = given p following s f fs More t s _ _ _ x none_more
  step_grows (Told g q none absent st asks x) = given p following s f fs More t s _ _ _ x none_more
  step_grows (Written g q bytes st asks w x) = given p following s f fs More t s _ _ _ x none_more
  step_grows (Stored g q root change st asks stored x) =
      let e = number_with root change s in given p following s f fs More t (store_with root change s) _ _ _ x (omega (arith, e))
  step_grows (Created g type vs ks st asks are room x) =
      let m : Made = record { type = type; lengths = ks } in
      let c = first_content (first_value p) (made_shape p.types m) in
      let e = object_number s m c in given p following s f fs More t (with_object m c s) _ _ _ x (omega (arith, e))
  step_grows (Called g how q vs y st asks there few x) = given p following s f fs More t s _ _ _ x none_more

  -- what a question makes
  pub made_none : (q : Question) (v u : Value) → MakesNone q → made_by q v ≡ Some u → ⊥
  made_none (Makes ty vs) v u none e = none
  made_none (Reads ty a) v u none e = cc e
  made_none (Stores a w) v u none e = cc e
  made_none (Copies ty a b) v u none e = cc e
  made_none (PutsText strict a i b j) v u none e = cc e
  made_none (ComparesTexts c a i b j) v u none e = cc e
  made_none (Calls how q vs) v u none e = cc e
  made_none (Ends w) v u none e = cc e
  made_none (Starts w) v u none e = cc e
  made_none Enters v u none e = cc e
  made_none Leaves v u none e = cc e
  made_none (Awaits c) v u none e = cc e
  made_none (PutsInt w i) v u none e = cc e
  made_none (PutsChar w) v u none e = cc e
  made_none (PutsString a i) v u none e = cc e
  made_none PutsNothing v u none e = cc e
  made_none PutsLn v u none e = cc e
  made_none (Places a) v u none e = cc e
  made_none (Lengths a) v u none e = cc e
  made_none (Opens w) v u none e = cc e
  made_none (Sizes w d) v u none e = cc e
  made_none (Tests w ty) v u none e = cc e

  pub written_none : (x : _) (q : Question) (bytes : List ℕ) → written_by x q ≡ Some bytes → MakesNone q
  written_none x (Makes ty vs) bytes e = cc e
  written_none x (Reads ty a) bytes e = tt
  written_none x (Stores a w) bytes e = tt
  written_none x (Copies ty a b) bytes e = tt
  written_none x (PutsText strict a i b j) bytes e = tt
  written_none x (ComparesTexts c a i b j) bytes e = tt
  written_none x (Calls how q vs) bytes e = tt
  written_none x (Ends w) bytes e = tt
  written_none x (Starts w) bytes e = tt
  written_none x Enters bytes e = tt
  written_none x Leaves bytes e = tt
  written_none x (Awaits c) bytes e = tt
  written_none x (PutsInt w i) bytes e = tt
  written_none x (PutsChar w) bytes e = tt
  written_none x (PutsString a i) bytes e = tt
  written_none x PutsNothing bytes e = tt
  written_none x PutsLn bytes e = tt
  written_none x (Places a) bytes e = cc e
  written_none x (Lengths a) bytes e = cc e
  written_none x (Opens w) bytes e = cc e
  written_none x (Sizes w d) bytes e = cc e
  written_none x (Tests w ty) bytes e = cc e

  pub stored_none : (x : _) (q : Question) (root : Root) (change : Content Value → Content Value) → IsStored p x q root change → MakesNone q
  stored_none x _ _ _ (OneScalar a v) = tt
  stored_none x _ _ _ (OneWhole ty from to new old e e') = tt
  stored_none x _ _ _ (OneText strict from i to room cs old fits e) = tt

  -- A quiet initializer calls quiet ones, on the same object.

  pub quiet_called : (here : Here) (C : Value → Type 0) (n : ℕ) (m : Option Value) (how : Manner) (q : ℕ) (vs : List Value) → CallIs p n here C m how q vs → IsQuiet p n → IsQuiet p q × ((us : List Value) × (vs ≡ Object here.self ∷ us))
  quiet_called here C n m ByName q vs h quiet = absurd (h.0.1 quiet)
  quiet_called here C n m ByType q vs h quiet = absurd (h.0.1 quiet)
  quiet_called here C n m ByValue q vs h quiet = absurd (h.0.1 quiet)
  quiet_called here C n m Initially q vs h quiet = absurd (h.0 quiet)
  quiet_called here C n m ByCreator q vs h quiet = absurd (h.0.1 quiet)
  quiet_called here C n m Upward q vs h quiet = (h.0.1 quiet, (h.1.0, h.1.1))

  -- what is called on an object
  pub called_on : (q : ℕ) (y : Routine) (vs us : List Value) (u : Value) → by_number q (routines p) ≡ Some y → IsQuiet p q → vs ≡ u ∷ us → self_of (has_self y.own) vs ≡ object_in u
  called_on q y vs us u there quiet is = (λ k. self_of (names.selves q y there quiet k) (is k))

  module _ (n : ℕ) (ns : List ℕ) (are : AreOf p (n ∷ ns) (f ∷ fs)) where
    abbrev r : Routine
    r = let x = are.0 in x.routine

    fine : ItemsFine p n r f.items
    fine = let x = are.0 in x.items

    pub standing_fine : (g : Frame) → Stands p s f fs g → ItemsFine p n r g.items
    standing_fine g st = stands_fine p names n r Any (any_plainly p) s f fs fine (inl tt) (any_frame f) g st

    -- the frame as it stands
    standing_of : (g : Frame) → Stands p s f fs g → AreOf p (n ∷ ns) (g ∷ fs)
    standing_of g st =
        let x = are.0 in (
          record {
            routine = x.routine;
            there = x.there;
            home = ap (λ (y : Frame). y.home) st.same.is ∙ x.home;
            object = λ e. ap (λ (y : Frame). y.object) st.same.is ∙ x.object e;
            items = standing_fine g st;
          },
          (stands_above p n f g ns fs (sym (ap (λ (y : Frame). y.object) st.same.is)) are.1.0, are.1.1),
        )

    new_of : (g : Frame) (how : Manner) (q : ℕ) (vs : List Value) (y : Routine) → Stands p s f fs g → IsAsking p g fs (Calls how q vs) → by_number q (routines p) ≡ Some y → AreOf p (q ∷ n ∷ ns) (called_frame p following y vs (g ∷ fs) s ∷ g ∷ fs)
    new_of g how q vs y st asks there =
        let said = any_says p names n r g fs (Calls how q vs) asks (standing_fine g st) in (
          record { routine = y; there = there; home = refl; object = λ e. subst (λ b. self_of b vs ≡ 0) (sym e) refl; items = body_fine p q y there (names.texts q y there) },
          (
            record {
              how = how;
              arguments = vs;
              asks = asks;
              quiet = λ quiet. let c = quiet_called (here_of g fs) Any n said.0 how q vs said.1.0 quiet in (c.0, called_on q y vs c.1.0 (Object g.object) there c.0 c.1.1);
            },
            standing_of g st,
          ),
        )

    -- frames stay of their routines
    pub step_are : (kind : Kind p following s f fs t) → AreOf p (numbers_after kind n ns) t.frames.frames
    step_are (Settled g st fresh x) = given p following s f fs (λ store. AreOf p (n ∷ ns)) t s (g ∷ fs) _ _ x (standing_of g st)
    step_are (Stopped g number code st x) = given p following s f fs (λ store. AreOf p (n ∷ ns)) t s (g ∷ fs) _ _ x (standing_of g st)
    step_are (Left g q work st asks leaves x) = given p following s f fs (λ store. AreOf p (n ∷ ns)) t s (g ∷ fs) _ _ x (standing_of g st)
    step_are (Popped v left x) = given p following s f fs (λ store. AreOf p ns) t s _ _ _ x (below_of p following ns (answer_in v) fs are.1.1)
    step_are (Told g q none absent st asks x) = given p following s f fs (λ store. AreOf p (n ∷ ns)) t s _ _ _ x (answered_are p n ns _ g fs (standing_of g st))
    step_are (Written g q bytes st asks w x) = given p following s f fs (λ store. AreOf p (n ∷ ns)) t s _ _ _ x (answered_are p n ns done g fs (standing_of g st))
    step_are (Stored g q root change st asks stored x) =
        given p following s f fs (λ store. AreOf p (n ∷ ns)) t _ _ _ _ x
        (are_moved p (n ∷ ns) (answered done g ∷ fs) (frames_with root change (answered done g ∷ fs)) (texts_with root change (answered done g ∷ fs)) (answered_are p n ns done g fs (standing_of g st)))
    step_are (Created g type vs ks st asks are' room x) = given p following s f fs (λ store. AreOf p (n ∷ ns)) t _ _ _ _ x (answered_are p n ns _ g fs (standing_of g st))
    step_are (Called g how q vs y st asks there few x) = given p following s f fs (λ store. AreOf p (q ∷ n ∷ ns)) t s _ _ _ x (new_of g how q vs y st asks there)
