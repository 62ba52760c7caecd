-- A turn of frames that have only such values, over such a store, leaves such ones.
use Rattle.std.proofs.Common.{length-append, ◌<◌, ◌∙◌, ◌≤◌, arith, suc, ◌≡◌, ◌≢◌, ◌⊎◌, inl, inr, ℕ, List, [], ◌∷◌, length, Bool, true, false, Option, Some, None, refl, sym, ap, subst}
use Rattle.std.specs.Prelude.{if◌then◌else◌, nat_eq, nat_le, pos, ◌&&◌}
use Rattle.std.proofs.lemmas.Bool.{leb-true}
use Rattle.aos_typed.specs.Numbers.{procedure_number}
use Rattle.aos_base.specs.declared.kernel.Did.{Did}
use Rattle.aos_base.specs.declared.root.Root.{Root}
use Rattle.aos_base.specs.declared.root.Root.TheVariants.{Frame as FrameRoot, Module as ModuleRoot, Object as ObjectRoot}
use Rattle.aos_base.specs.Question.{Val, Asks, feed, Manner, ByName, ByType, Upward, Initially, ByCreator, ByValue, Reads, Stores, ComparesTexts, Copies, PutsText, Calls, Ends, Makes, Starts, Enters, Leaves, Awaits, PutsInt, PutsChar, PutsString, PutsNothing, PutsLn, Places, Lengths, Opens, Sizes, Tests}
use Rattle.aos_base.specs.Rooted.{Made, by_number, change_from_last}
use Rattle.aos_types.specs.Content.{Content, Scalar}
use Rattle.aos_typed.specs.Program.{Body, Program}
use Rattle.aos_typed.specs.Routines.{Routine, has_self, routines}
use Rattle.aos_typed.specs.Value.{Value, Int, Flag, Char, Set, Object, Callable, Place}
use Rattle.aos_typed.specs.Store.{with_object, Store, new_number, made_in, store_with}
use Rattle.aos_typed.specs.Meaning.{Question, Item, Round, Until, Gives as GivesItem, body_items, item_of, object_in, value_of}
use Rattle.aos_typed.specs.Source.{body_frame, Frame, Turned, here_of, all_rooted, answered, arguments_in, called_frame, done, first_value, frames_with, self_of, with_result}
use Rattle.aos_uses.specs.Guarded.{IsQuiet}
use Rattle.aos_uses.proofs.Largest.{quiet_are}
use Rattle.aos_handover.specs.Kinds.{told_as, answer_in, so_far, IsAsking, IsNext, Stood, Followed, AnotherRound, Repeated, Behind, HasHad, Rests, Begins, GoesOn, Tested, Stands, IsLeft, AtEnd, AtResult, Nowhere, IsStored, OneScalar, OneWhole, OneText, Gives, Kind, Settled, Stopped, Left, Popped, Told, Written, Stored, Created, Called}
use Rattle.aos_escape.specs.Items.{ItemsFine}
use Rattle.aos_escape.specs.Naming.{ContentIs, AllAre, AnswersAre, ResultIs, ItemsAre, StoreIs, FrameIs, FramesAre, VariablesAre, IsOther, SelvesOther, HideAll, IsLoud}
use Rattle.aos_handover.proofs.Items.{block_gives, follow_gives}
use Rattle.aos_escape.proofs.Items.{had_fine}
use Rattle.aos_escape.proofs.Names.{HasNames}
use Rattle.aos_escape.proofs.Telling.{Plainly}
use Rattle.aos_escape.proofs.Saying.{CallIs, AskIs, Says, come_says, asks_says}
use Rattle.aos_escape.proofs.Values.{simply, all_more, arguments_are, answered_is, placed_is, overlay_is, first_is, store_is, frames_are, object_added, read_is, found_same, value_is, text_is, sort_begins, noted_are, called_is, head_is, variables_are}

-- what holds of the store and the frames to which a turn has come
pub given : (p : Program) (following : List ℕ) (s : Store) (f : Frame) (fs : List Frame) (P : Store → List Frame → Type 0) (t : Turned) (store : Store) (frames : List Frame) (output : List ℕ) (work : Did) → Gives p following s f fs t store frames output work → P store frames → P t.store t.frames.frames
given p following s f fs P t store frames output work g h =
    subst (λ z. P z t.frames.frames) (sym g.store_is) (subst (λ z. P store z.frames) (sym g.frames_are) h)

-- one more object
pub object_number : (s : Store) (m : Made) (c : Content Value) → new_number (with_object m c s) ≡ suc (new_number s)
object_number s m c = let e = length-append s.made (m ∷ []) in ap suc (omega (arith, e))

-- Values of one kind.

-- no object but the one that isn't there yet
pub other_plainly : (p : Program) (o : ℕ) → 0 ≢ o → Plainly p (IsOther o)
other_plainly p o real = record {
  int = λ z. tt;
  flag = λ b. tt;
  char = λ c. tt;
  set = λ s. tt;
  place = λ s. tt;
  nil = real;
  none = real;
  procedure = λ m k q e. real;
  bound = λ d t k b q e is may c. c;
  instance = λ q b c. c;
}

and_first : (a b : Bool) → (a && b) ≡ true → a ≡ true
and_first true b e = refl
and_first false b e = e

none_below : (n : ℕ) → suc n ≤ 0 → ⊥
none_below n le = absurd (omega (arith, le))

-- nothing has the number 0
none_quiet : (p : Program) → IsQuiet p 0 → ⊥
none_quiet p q = let le = leb-true (procedure_number p (length p.modules) 0) 0 (and_first (nat_le (procedure_number p (length p.modules) 0) 0) _ ((quiet_are p).initial 0 q)) in none_below _ le

pub loud_plainly : (p : Program) → HasNames p → Plainly p (IsLoud p)
loud_plainly p names = record {
  int = λ z. tt;
  flag = λ b. tt;
  char = λ c. tt;
  set = λ s. tt;
  place = λ s. tt;
  nil = tt;
  none = none_quiet p;
  procedure = λ m k q e. names.plain m k q e;
  bound = λ d t k b q e is may c. may _ (names.named d t k q e is);
  instance = λ q b c. tt;
}

abbrev pub Any : Value → Type 0
Any v = Unit {0}

pub any_plainly : (p : Program) → Plainly p Any
any_plainly p = record {
  int = λ z. tt;
  flag = λ b. tt;
  char = λ c. tt;
  set = λ s. tt;
  place = λ s. tt;
  nil = tt;
  none = tt;
  procedure = λ m k q e. tt;
  bound = λ d t k b q e is may c. tt;
  instance = λ q b c. tt;
}

module _ (C : Value → Type 0) where
  pub body_are : (b : Body) → ItemsAre C (body_items b)
  body_are b = block_gives (ResultIs C) b.is_exclusive b.statements

  pub body_is : (home o : ℕ) (b : Body) → FrameIs C (body_frame home o b)
  body_is home o b = record { variables = tt; items = body_are b; answers = tt }

  pub below_are : (following : List ℕ) (v : Value) (fs : List Frame) → C v → FramesAre C fs → FramesAre C (with_result following v fs)
  below_are following v [] c h = tt
  below_are following v (f ∷ fs) c h = (answered_is C v f c h.0, h.1)

-- all arguments are such values where SELF is
pub call_all : (p : Program) (n : ℕ) (here : _) (C : Value → Type 0) (m : Option Value) (how : Manner) (q : ℕ) (vs : List Value) → CallIs p n here C m how q vs → C (Object here.self) → AllAre C vs
call_all p n here C m ByName q vs h c = h.1
call_all p n here C m ByType q vs h c = h.1
call_all p n here C m ByValue q vs h c = h.1
call_all p n here C m Upward q vs h c = subst (AllAre C) (sym h.1.1) (c, h.1.2)
call_all p n here C m Initially q vs h c = subst (AllAre C) (sym h.1.3) h.1.4
call_all p n here C m ByCreator q vs h c = h.1

module _ (p : Program) (names : HasNames p) (n : ℕ) (r : Routine) (C : Value → Type 0) (plainly : Plainly p C) where
  -- what is handed over behind SELF
  pub called_are : (here : _) (m : Option Value) (how : Manner) (q : ℕ) (vs : List Value) (x : Routine) → by_number q (routines p) ≡ Some x → CallIs p n here C m how q vs → C (Object here.self) ⊎ IsQuiet p n → AllAre C (arguments_in (has_self x.own) vs)
  called_are here m how q vs x there h (inl c) = arguments_are C (has_self x.own) vs (call_all p n here C m how q vs h c)
  called_are here m ByName q vs x there h (inr quiet) = arguments_are C (has_self x.own) vs h.1
  called_are here m ByType q vs x there h (inr quiet) = arguments_are C (has_self x.own) vs h.1
  called_are here m ByValue q vs x there h (inr quiet) = arguments_are C (has_self x.own) vs h.1
  called_are here m Initially q vs x there h (inr quiet) = absurd (h.0 quiet)
  called_are here m ByCreator q vs x there h (inr quiet) = arguments_are C (has_self x.own) vs h.1
  called_are here m Upward q vs x there h (inr quiet) =
      let self = names.selves q x there (h.0.1 quiet) in
      subst (λ b. AllAre C (arguments_in b vs)) (sym self) (subst (λ z. AllAre C (arguments_in true z)) (sym h.1.1) h.1.2)

  module _ (s : Store) (f : Frame) (fs : List Frame) (fine : ItemsFine p n r f.items) (self : C (Object f.object) ⊎ IsQuiet p n) (is : FrameIs C f) where
    told_so_far : (i : Item) (vs : List Value) → f.answers ≡ Some vs → AllAre C (so_far p s f fs i vs)
    told_so_far i vs e =
        all_more C vs _ (subst (AnswersAre C) e is.answers) (noted_are p C (simply p C plainly) (made_in s) f.variables is.variables plainly.place (feed vs (item_of p (here_of f fs) i)))

    pub next_are : (js : List Item) → IsNext p s f fs js → ItemsAre C js
    next_are _ (Stood none) = is.items
    next_are _ (Followed i js vs after e had come) =
        let all = come_says p names n r C plainly (here_of f fs) i js (so_far p s f fs i vs) (Val after) come self (subst (ItemsFine p n r) e fine) (subst (ItemsAre C) e is.items) (told_so_far i vs had) in
        follow_gives (ResultIs C) after js all.0.1 all.1
    next_are _ (AnotherRound st js next) = next_are (Round st ∷ js) next
    next_are _ (Repeated at b e js v next come t) = next_are (Until at b e ∷ js) next
    next_are _ (Behind at b e js v next come t) = next_are (Until at b e ∷ js) next

    had_are : (js : List Item) (a : Option (List Value)) → HasHad p s f fs js a → ItemsAre C js × AnswersAre C a
    had_are _ _ (Rests js next) = (next_are js next, tt)
    had_are _ _ (Begins i js next) = (next_are (i ∷ js) next, tt)
    had_are _ _ (GoesOn i js vs e had) = (subst (ItemsAre C) e is.items, told_so_far i vs had)
    had_are _ _ (Tested at b e js next) = (next_are (Until at b e ∷ js) next, noted_are p C (simply p C plainly) (made_in s) f.variables is.variables plainly.place (value_of p (here_of f fs) e))

    pub stands_is : (g : Frame) → Stands p s f fs g → FrameIs C g
    stands_is g st =
        let x = had_are g.items g.answers st.had in
        record { variables = subst (ContentIs C) (sym (ap (λ (y : Frame). y.variables) st.same.is)) is.variables; items = x.0; answers = x.1 }

    pub stands_fine : (g : Frame) → Stands p s f fs g → ItemsFine p n r g.items
    stands_fine g st = had_fine p n r s f fs g.items g.answers st.had fine

    pub stands_self : (g : Frame) → Stands p s f fs g → C (Object g.object) ⊎ IsQuiet p n
    stands_self g st = subst (λ o. C (Object o) ⊎ IsQuiet p n) (sym (ap (λ (x : Frame). x.object) st.same.is)) self

    -- what is asked
    pub asked_says : (g : Frame) (st : Stands p s f fs g) (q : Question) (asks : IsAsking p g fs q) → (m : Option Value) × Says p n (here_of g fs) C m (Asks q asks.0)
    asked_says g st q asks = asks_says p names n r C plainly g fs q asks (stands_self g st) (stands_fine g st) (stands_is g st)

    pub left_is : (v : Option Value) → IsLeft p s f fs v → C (answer_in v)
    left_is _ (AtEnd next e) = plainly.int (pos 0)
    left_is _ (Nowhere vs e e') = plainly.int (pos 0)
    left_is None (AtResult _ js next) = plainly.int (pos 0)
    left_is (Some v) (AtResult _ js next) = (next_are (GivesItem (Some v) ∷ js) next).0

    pub told_is : (x : Frame) (q : Question) → VariablesAre C (x ∷ fs) → StoreIs C s → C (told_as (all_rooted (x ∷ fs) s) q)
    told_is x (Reads t a) h k = value_is p C (simply p C plainly) a (x ∷ fs) s h k
    told_is x (ComparesTexts c a i b j) h k = plainly.flag _
    told_is x (Stores a v) h k = plainly.int (pos 0)
    told_is x (Copies t a b) h k = plainly.int (pos 0)
    told_is x (PutsText strict a i b j) h k = plainly.int (pos 0)
    told_is x (Calls how i vs) h k = plainly.int (pos 0)
    told_is x (Ends v) h k = plainly.int (pos 0)
    told_is x (Makes t vs) h k = plainly.int (pos 0)
    told_is x (Starts v) h k = plainly.int (pos 0)
    told_is x Enters h k = plainly.int (pos 0)
    told_is x Leaves h k = plainly.int (pos 0)
    told_is x (Awaits c) h k = plainly.int (pos 0)
    told_is x (PutsInt v i) h k = plainly.int (pos 0)
    told_is x (PutsChar v) h k = plainly.int (pos 0)
    told_is x (PutsString a i) h k = plainly.int (pos 0)
    told_is x PutsNothing h k = plainly.int (pos 0)
    told_is x PutsLn h k = plainly.int (pos 0)
    told_is x (Places a) h k = plainly.int (pos 0)
    told_is x (Lengths a) h k = plainly.int (pos 0)
    told_is x (Opens v) h k = plainly.int (pos 0)
    told_is x (Sizes v d) h k = plainly.int (pos 0)
    told_is x (Tests v t) h k = plainly.int (pos 0)

    pub changes_is : (g : Frame) (here : _) (q : Question) (root : Root) (change : Content Value → Content Value) (m : Option Value) → IsStored p (all_rooted (g ∷ fs) s) q root change → AskIs p n here C m q → VariablesAre C (g ∷ fs) → StoreIs C s → (d : Content Value) → ContentIs C d → ContentIs C (change d)
    changes_is g here _ _ _ m (OneScalar a v) ok h k d c = placed_is C a.path (Scalar v) d ok c
    changes_is g here _ _ _ m (OneWhole t from to new old e e') ok h k d c =
        let read_at = λ (a : _). read_is C a.root a.path (g ∷ fs) s h k in
        placed_is C to.path _ d (overlay_is C _ new old (found_same C _ new e (read_at from)) (found_same C _ old e' (read_at to))) c
    changes_is g here _ _ _ m (OneText strict from i to room cs old fits e) ok h k d c =
        placed_is C to.path _ d (text_is p C (simply p C plainly) cs old (found_same C _ old e (read_is C to.root to.path (g ∷ fs) s h k))) c

    abbrev Is : Store → List Frame → Type 0
    Is store frames = FramesAre C frames × StoreIs C store

    pub kind_values : (following : List ℕ) (t : Turned) → Kind p following s f fs t → FramesAre C fs → StoreIs C s → ((m : Made) (c : Content Value) → t.store ≡ with_object m c s → C (Object (new_number s))) → Is t.store t.frames.frames
    kind_values following t (Settled g st fresh x) h k new = given p following s f fs Is t s (g ∷ fs) _ _ x ((stands_is g st, h), k)
    kind_values following t (Stopped g number code st x) h k new = given p following s f fs Is t s (g ∷ fs) _ _ x ((stands_is g st, h), k)
    kind_values following t (Left g q work st asks leaves x) h k new = given p following s f fs Is t s (g ∷ fs) _ _ x ((stands_is g st, h), k)
    kind_values following t (Popped v left x) h k new =
        given p following s f fs Is t s (with_result following (answer_in v) fs) _ _ x (below_are C following (answer_in v) fs (left_is v left) h, k)
    kind_values following t (Told g q none absent st asks x) h k new =
        let is' = stands_is g st in
        let v = told_as (all_rooted (g ∷ fs) s) q in
        given p following s f fs Is t s (answered v g ∷ fs) _ _ x ((answered_is C v g (told_is g q (is'.variables, variables_are C fs h) k) is', h), k)
    kind_values following t (Written g q bytes st asks w x) h k new =
        given p following s f fs Is t s (answered done g ∷ fs) _ _ x ((answered_is C done g (plainly.int (pos 0)) (stands_is g st), h), k)
    kind_values following t (Stored g q root change st asks stored x) h k new =
        let is' = stands_is g st in
        let said = asked_says g st q asks in
        let ok = changes_is g (here_of g fs) q root change said.0 stored said.1.0 (is'.variables, variables_are C fs h) k in
        given p following s f fs Is t (store_with root change s) (frames_with root change (answered done g ∷ fs)) _ _ x
        (frames_are C change ok root (answered done g ∷ fs) (answered_is C done g (plainly.int (pos 0)) is', h), store_is C change ok root s k)
    kind_values following t (Created g type vs ns st asks are room x) h k new =
        let v = Object (new_number s) in
        given p following s f fs Is t _ (answered v g ∷ fs) _ _ x
        ((answered_is C v g (new _ _ x.store_is) (stands_is g st), h), record { modules = k.modules; objects = object_added C s.objects _ k.objects (first_is C (first_value p) _ (sort_begins p C (simply p C plainly))) })
    kind_values following t (Called g how q vs y st asks there few x) h k new =
        let is' = stands_is g st in
        let said = asked_says g st (Calls how q vs) asks in
        let args = called_are (here_of g fs) said.0 how q vs y there said.1.0 (stands_self g st) in
        given p following s f fs Is t s (called_frame p following y vs (g ∷ fs) s ∷ g ∷ fs) _ _ x
        ((record { variables = called_is p C (simply p C plainly) plainly.place following y vs (g ∷ fs) s args (is'.variables, variables_are C fs h) k; items = body_are C y.body; answers = tt }, (is', h)), k)

-- An object that isn't named.

pub selves_changed : (o d : ℕ) (g : Content Value → Content Value) (fs : List Frame) → SelvesOther o fs → SelvesOther o (change_from_last d (λ x. record x { variables = g x.variables }) fs)
selves_changed o d g [] h = tt
selves_changed o d g (x ∷ fs) h =
    elim (nat_eq d (length fs)) as (λ q. SelvesOther o (if q then record x { variables = g x.variables } ∷ fs else x ∷ change_from_last d (λ y. record y { variables = g y.variables }) fs)) [
      | true ↦ h
      | false ↦ (h.0, selves_changed o d g fs h.1)
    ]

pub selves_with : (o : ℕ) (r : Root) (g : Content Value → Content Value) (fs : List Frame) → SelvesOther o fs → SelvesOther o (frames_with r g fs)
selves_with o (FrameRoot d) g fs h = selves_changed o d g fs h
selves_with o (ModuleRoot m) g fs h = h
selves_with o (ObjectRoot b) g fs h = h

pub selves_below : (o : ℕ) (following : List ℕ) (v : Value) (fs : List Frame) → SelvesOther o fs → SelvesOther o (with_result following v fs)
selves_below o following v [] h = tt
selves_below o following v (f ∷ fs) h = h

object_other : (o : ℕ) (v : Value) → 0 ≢ o → IsOther o v → object_in v ≢ o
object_other o (Object m) z h = h
object_other o (Int i) z h = z
object_other o (Flag b) z h = z
object_other o (Char c) z h = z
object_other o (Set x) z h = z
object_other o (Callable q m) z h = z
object_other o (Place s) z h = z

pub self_other : (p : Program) (o : ℕ) (b : Bool) (vs : List Value) → 0 ≢ o → AllAre (IsOther o) vs → self_of b vs ≢ o
self_other p o true vs z h = object_other o _ z (head_is p (IsOther o) (simply p (IsOther o) (other_plainly p o z)) vs h)
self_other p o false vs z h = z

module _ (p : Program) (names : HasNames p) (n : ℕ) (r : Routine) (following : List ℕ) (s : Store) (f : Frame) (fs : List Frame) (t : Turned) (fine : ItemsFine p n r f.items) (kind : Kind p following s f fs t) where
  -- an object that was there already, or is still to be made
  abbrev pub IsOld : (o : ℕ) → Store → Type 0
  IsOld o store = (o < new_number s) ⊎ (new_number store ≤ o)

  not_new : (o : ℕ) → IsOld o t.store → (m : Made) (c : Content Value) → t.store ≡ with_object m c s → new_number s ≢ o
  not_new o (inl old) m c e same = absurd (omega (arith, old, same))
  not_new o (inr later) m c e same = let n = ap new_number e ∙ object_number s m c in absurd (omega (arith, later, same, n))

  -- a turn of one that doesn't name an object names it nowhere
  pub step_hides : (o : ℕ) → 0 ≢ o → IsOld o t.store → HideAll o (f ∷ fs) → StoreIs (IsOther o) s → HideAll o t.frames.frames × StoreIs (IsOther o) t.store
  step_hides o z old h k =
      let C = IsOther o in
      let plainly = other_plainly p o z in
      let all = kind_values p names n r C plainly s f fs fine (inl h.selves.0) h.values.0 following t kind h.values.1 k (not_new o old) in
      (record { selves = by kind; values = all.0 }, all.1)
    where
      Selves : Store → List Frame → Type 0
      Selves store frames = SelvesOther o frames

      same : (g : Frame) → Stands p s f fs g → SelvesOther o (g ∷ fs)
      same g st = (subst (λ b. b ≢ o) (sym (ap (λ (x : Frame). x.object) st.same.is)) h.selves.0, h.selves.1)

      by : Kind p following s f fs t → SelvesOther o t.frames.frames
      by (Settled g st fresh x) = given p following s f fs Selves t s (g ∷ fs) _ _ x (same g st)
      by (Stopped g number code st x) = given p following s f fs Selves t s (g ∷ fs) _ _ x (same g st)
      by (Left g q work st asks leaves x) = given p following s f fs Selves t s (g ∷ fs) _ _ x (same g st)
      by (Popped v left x) = given p following s f fs Selves t s (with_result following (answer_in v) fs) _ _ x (selves_below o following (answer_in v) fs h.selves.1)
      by (Told g q none absent st asks x) = given p following s f fs Selves t s (answered _ g ∷ fs) _ _ x (same g st)
      by (Written g q bytes st asks w x) = given p following s f fs Selves t s (answered done g ∷ fs) _ _ x (same g st)
      by (Stored g q root change st asks stored x) =
          given p following s f fs Selves t (store_with root change s) (frames_with root change (answered done g ∷ fs)) _ _ x (selves_with o root change (answered done g ∷ fs) (same g st))
      by (Created g type vs ns st asks are room x) = given p following s f fs Selves t _ (answered (Object (new_number s)) g ∷ fs) _ _ x (same g st)
      by (Called g how q vs y st asks there few x) =
          let C = IsOther o in
          let plainly = other_plainly p o z in
          let said = asked_says p names n r C plainly s f fs fine (inl h.selves.0) h.values.0 g st (Calls how q vs) asks in
          let me = same g st in
          given p following s f fs Selves t s (called_frame p following y vs (g ∷ fs) s ∷ g ∷ fs) _ _ x
          (self_other p o (has_self y.own) vs z (call_all p n (here_of g fs) C said.0 how q vs said.1.0 me.0), me)

  -- nor does any procedure value become a quiet initializer
  pub step_loud : FramesAre (IsLoud p) (f ∷ fs) → StoreIs (IsLoud p) s → FramesAre (IsLoud p) t.frames.frames × StoreIs (IsLoud p) t.store
  step_loud h k = kind_values p names n r (IsLoud p) (loud_plainly p names) s f fs fine (inl tt) h.0 following t kind h.1 k (λ m c e. tt)
