-- What a frame asks with that remains fine: told only values of which something holds, it asks only with such values, but for the object of NEW
-- behind which its initializer is called; and what follows has only such values.
use Rattle.std.proofs.Common.{◌≡◌, ◌⊎◌, inl, inr, ℕ, suc, List, [], ◌∷◌, ◌++◌, Bool, true, false, Option, Some, None, refl, sym, subst}
use Rattle.std.specs.Prelude.{◌||◌, if◌then◌else◌, is_some}
use Rattle.std.specs.List.{list_any}
use Rattle.aos_base.specs.Number.{holds}
use Rattle.aos_base.specs.Question.{Val, Asks, Traps, bind, ask, feed, Manner, ByName, ByType, Upward, Initially, ByCreator, ByValue, Reads, Stores, Copies, PutsText, ComparesTexts, Calls, Ends, Makes, Starts, Enters, Leaves, Awaits, PutsInt, PutsChar, PutsString, PutsNothing, PutsLn, Places, Lengths, Opens, Sizes, Tests}
use Rattle.aos_base.specs.declared.number.Width.TheVariants.{W64}
use Rattle.aos_base.specs.declared.operator.Binary.TheVariants as operator
use Rattle.aos_base.specs.Operators.{binary as binary_of}
use Rattle.aos_typed.specs.declared.tree.Change.{Change as Changing}
use Rattle.aos_typed.specs.declared.tree.Change.TheVariants as change
use Rattle.aos_typed.specs.declared.tree.TType.{TType}
use Rattle.aos_typed.specs.declared.tree.TType.TheVariants.{Integer, Boolean, Char, Named}
use Rattle.aos_typed.specs.Methods.{body_type, initializer, is_active}
use Rattle.aos_typed.specs.Numbers.{body_number}
use Rattle.aos_typed.specs.Program.{Place, Arguments, Expr, Read, Stat, Assign, Copy, PutText, If, Case, While, Repeat, Loop, Exit, For, Block, Await, Assert, Halt, Change, Perform, Return, New, Make, With, WithRecord, Out, Stats, Arms, Otherwise, Arm, Cases, NoElse, Else, OfLabels, Call, Open, Char as CharCall, Int as IntCall, String, Ln, Program}
use Rattle.aos_typed.specs.Routines.{Routine, result_of}
use Rattle.aos_typed.specs.Value.{Value, Object, number_of, is_true, given, binary_sort}
use Rattle.aos_typed.specs.WellTyped.{IsPlaceOf, IsOf, AreRows, IsInitialized, IsReturn, IsCall, IsStatement, AreArms, AreLengthsOf, amount_type}
use Rattle.aos_typed.specs.Meaning.{Here, Question, Doing, Item, Do, Rounds, Round, Until, Region, End, Gives, After, Into, Returns, items_of, block_items, is_in, place_of, rows_of, value_of, values_of, arguments_of, called, changed, case_of, arms_of, out_of, stat_of, item_of, initialized, carried_out, until, next_value}
use Rattle.aos_typed.specs.Source.{Frame, here_of}
use Rattle.aos_sim.proofs.Changes.{includes_itself}
use Rattle.aos_uses.specs.declared.uses.Use.{Use}
use Rattle.aos_uses.specs.declared.uses.Use.TheVariants as used
use Rattle.aos_uses.specs.Guarded.{Each, IsQuiet, Keeps}
use Rattle.aos_uses.specs.Uses.{arms_uses, arguments_uses, cases_uses, expr_uses, initial_number, is_begun, makes, out_uses, place_uses, rows_target, rows_uses, stat_uses, stats_uses, target, values_uses, written}
use Rattle.aos_handover.specs.Kinds.{IsAsking}
use Rattle.aos_escape.specs.Items.{has_mark, item_uses, IsText, AreFine, ItemsFine}
use Rattle.aos_escape.specs.Naming.{AllAre, AnswersAre, ResultIs, ItemsAre, FrameIs}
use Rattle.aos_handover.specs.Items.{AfterGives}
use Rattle.aos_handover.proofs.Items.{text_gives, items_give, block_gives, first_gives, rest_gives}
use Rattle.aos_escape.proofs.Items.{part}
use Rattle.aos_escape.proofs.Names.{HasNames}
use Rattle.aos_escape.proofs.Telling.{Plainly, Tells, MayCall, IsAsked, tells_bind, given_tells, place_tells, rows_tell, arguments_tell, call_tells, value_tells}

-- the object that a question makes
abbrev pub made_by : Question → Value → Option Value
made_by (Makes t vs) v = Some v
made_by q v = None

-- where an initializer is called next, its arguments behind the object are such values
abbrev pub ArgumentsAre : (C : Value → Type 0) → Doing After → Type 0
ArgumentsAre C (Asks (Calls Initially q (v ∷ vs)) k) = AllAre C vs
ArgumentsAre C d = Unit {0}

-- and so they are once an object is made
abbrev pub Behind : (C : Value → Type 0) → Question → (Value → Doing After) → Type 0
Behind C (Makes t vs) k = (v : Value) → ArgumentsAre C (k v)
Behind C q k = Unit {0}

abbrev pub AfterIs : (C : Value → Type 0) → After → Type 0
AfterIs C a = AfterGives (ResultIs C) a

module _ (p : Program) (n : ℕ) (here : Here) (C : Value → Type 0) where
  -- What a statement calls: an initializer on the object that was made just before, and no quiet one makes an object that has an initializer or
  -- a body.
  abbrev pub CallIs : Option Value → Manner → ℕ → List Value → Type 0
  CallIs m ByName q vs = MayCall p n here C ByName q vs
  CallIs m ByType q vs = MayCall p n here C ByType q vs
  CallIs m ByValue q vs = MayCall p n here C ByValue q vs
  CallIs m Upward q vs = MayCall p n here C Upward q vs
  CallIs m Initially q vs = (IsQuiet p n → ⊥) × ((u : Value) × (us : List Value) × (m ≡ Some u) × (vs ≡ u ∷ us) × (C u × AllAre C us))
  CallIs m ByCreator q vs = ((IsQuiet p q → ⊥) × (IsQuiet p n → ⊥)) × AllAre C vs

  abbrev pub AskIs : Option Value → Question → Type 0
  AskIs m (Reads t s) = Unit {0}
  AskIs m (Stores s v) = C v
  AskIs m (Copies t from to) = Unit {0}
  AskIs m (PutsText strict from k to room) = Unit {0}
  AskIs m (ComparesTexts r a k b j) = Unit {0}
  AskIs m (Calls how q vs) = CallIs m how q vs
  AskIs m (Ends r) = ⊥
  AskIs m (Makes t vs) = Unit {0}
  AskIs m (Starts v) = C v × (IsQuiet p n → ⊥)
  AskIs m Enters = ⊥
  AskIs m Leaves = ⊥
  AskIs m (Awaits c) = Unit {0}
  AskIs m (PutsInt v k) = Unit {0}
  AskIs m (PutsChar v) = Unit {0}
  AskIs m (PutsString a k) = Unit {0}
  AskIs m PutsNothing = Unit {0}
  AskIs m PutsLn = Unit {0}
  AskIs m (Places s) = Unit {0}
  AskIs m (Lengths s) = Unit {0}
  AskIs m (Opens v) = Unit {0}
  AskIs m (Sizes v d) = Unit {0}
  AskIs m (Tests v t) = Unit {0}

  -- m: the object made just before
  abbrev pub Says : Option Value → Doing After → Type 0
  Says m (Val a) = AfterIs C a
  Says m (Traps j c) = Unit {0}
  Says m (Asks q k) = AskIs m q × (Behind C q k × ((v : Value) → C v → Says (made_by q v) (k v)))

  -- after any such answers
  pub says_fed : (m : Option Value) (vs : List Value) (d : Doing After) → Says m d → AllAre C vs → (j : Option Value) × Says j (feed vs d)
  says_fed m [] d h cs = (m, h)
  says_fed m (v ∷ vs) (Val a) h cs = (None, tt)
  says_fed m (v ∷ vs) (Traps j c) h cs = (None, tt)
  says_fed m (v ∷ vs) (Asks q k) h cs = says_fed (made_by q v) vs (k v) (h.1.1 v cs.0) cs.1

  -- behind an expression, which makes nothing
  call_is : (how : Manner) (q : ℕ) (vs : List Value) → MayCall p n here C how q vs → CallIs None how q vs
  call_is ByName q vs h = h
  call_is ByType q vs h = h
  call_is ByValue q vs h = h
  call_is Upward q vs h = h
  call_is Initially q vs h = absurd h
  call_is ByCreator q vs h = absurd h

  then_says : {T : Type 0} (R : T → Type 0) (d : Doing T) (k : T → Doing After) → Tells C (IsAsked p n here C) R d → ((a : T) → R a → Says None (k a)) → Says None (bind d k)
  then_says R (Val a) k h f = f a h
  then_says R (Traps j c) k h f = tt
  then_says R (Asks (Reads t s) g) k h f = (tt, (tt, λ v c. then_says R (g v) k (h.1 v c) f))
  then_says R (Asks (ComparesTexts r a j b m) g) k h f = (tt, (tt, λ v c. then_says R (g v) k (h.1 v c) f))
  then_says R (Asks (Calls how q vs) g) k h f = (call_is how q vs h.0, (tt, λ v c. then_says R (g v) k (h.1 v c) f))
  then_says R (Asks (Places s) g) k h f = (tt, (tt, λ v c. then_says R (g v) k (h.1 v c) f))
  then_says R (Asks (Lengths s) g) k h f = (tt, (tt, λ v c. then_says R (g v) k (h.1 v c) f))
  then_says R (Asks (Opens u) g) k h f = (tt, (tt, λ v c. then_says R (g v) k (h.1 v c) f))
  then_says R (Asks (Sizes u d) g) k h f = (tt, (tt, λ v c. then_says R (g v) k (h.1 v c) f))
  then_says R (Asks (Tests u t) g) k h f = (tt, (tt, λ v c. then_says R (g v) k (h.1 v c) f))
  then_says R (Asks (Stores s v) g) k h f = absurd h.0
  then_says R (Asks (Copies t a b) g) k h f = absurd h.0
  then_says R (Asks (PutsText strict a j b room) g) k h f = absurd h.0
  then_says R (Asks (Ends r) g) k h f = absurd h.0
  then_says R (Asks (Makes t vs) g) k h f = absurd h.0
  then_says R (Asks (Starts v) g) k h f = absurd h.0
  then_says R (Asks Enters g) k h f = absurd h.0
  then_says R (Asks Leaves g) k h f = absurd h.0
  then_says R (Asks (Awaits c) g) k h f = absurd h.0
  then_says R (Asks (PutsInt v j) g) k h f = absurd h.0
  then_says R (Asks (PutsChar v) g) k h f = absurd h.0
  then_says R (Asks (PutsString a j) g) k h f = absurd h.0
  then_says R (Asks PutsNothing g) k h f = absurd h.0
  then_says R (Asks PutsLn g) k h f = absurd h.0

-- text has no values
pub text_are : (C : Value → Type 0) (ss : Stats) (is : List Item) → ItemsAre C is → ItemsAre C (items_of ss ++ is)
text_are C ss is h = text_gives (ResultIs C) ss is h

pub items_are : (C : Value → Type 0) (ss : Stats) → ItemsAre C (items_of ss)
items_are C ss = items_give (ResultIs C) ss

-- what fine uses keep
pub kept : (p : Program) (n : ℕ) (r : Routine) (us : List Use) → AreFine p n r us → Each (Keeps p (IsQuiet p) n) us
kept p n r [] h = tt
kept p n r (u ∷ us) h = (let f = h.0 in f.keeps, kept p n r us h.1)

module _ (p : Program) (names : HasNames p) (n : ℕ) (r : Routine) (here : Here) (C : Value → Type 0) (plainly : Plainly p C) (self : C (Object here.self) ⊎ IsQuiet p n) where
  abbrev K : Use → Type 0
  K u = Keeps p (IsQuiet p) n u

  abbrev AreUsed : List Use → Type 0
  AreUsed us = Each K us

  abbrev Ok : Doing After → Type 0
  Ok d = Says p n here C None d

  abbrev Any : {T : Type 0} → T → Type 0
  Any a = Unit {0}

  block_are : (exclusive : Bool) (ss : Stats) → ItemsAre C (block_items exclusive ss)
  block_are exclusive ss = block_gives (ResultIs C) exclusive ss

  -- an expression, a place and rows, with what is behind them
  value_then : (e : Expr) (t : TType) (k : Value → Doing After) → IsOf p r.own e t → AreUsed (expr_uses p e) → ((v : Value) → C v → Ok (k v)) → Ok (bind (value_of p here e) k)
  value_then e t k typed us f = then_says p n here C C (value_of p here e) k (value_tells p names n here C plainly self r.own e t typed us) f

  place_then : (q : Place) (t : TType) (k : _ → Doing After) → IsPlaceOf p r.own q t → AreUsed (place_uses p q) → ((s : _) → Ok (k s)) → Ok (bind (place_of p here q) k)
  place_then q t k typed us f = then_says p n here C Any (place_of p here q) k (place_tells p names n here C plainly self r.own q t typed us) (λ s h. f s)

  rows_then : (a : _) (k : _ → Doing After) → AreRows p r.own a 1 Char → AreUsed (rows_uses p a) → ((x : _) → Ok (k x)) → Ok (bind (rows_of p here a) k)
  rows_then a k typed us f = then_says p n here C _ (rows_of p here a) k (rows_tell p names n here C plainly self r.own a 1 Char typed us) (λ x h. f x)

  arms_say : (x : Bool) (arms : Arms) → AreUsed (arms_uses p x arms) → AreArms p r.own arms → Ok (arms_of p here arms)
  arms_say x (Otherwise ss) us k = items_are C ss
  arms_say x (Arm e ss arms) us k =
      let q = part K (expr_uses p e ++ stats_uses p x ss) (arms_uses p x arms) us in
      let j = part K (expr_uses p e) (stats_uses p x ss) q.0 in
      let others = arms_say x arms q.1 k.2 in
      value_then e Boolean _ k.0 j.0 (λ v c. by (is_true v) others)
    where
      by : (b : Bool) → Ok (arms_of p here arms) → Ok (if b then Val (Into (items_of ss)) else arms_of p here arms)
      by true more = items_are C ss
      by false more = more

  case_says : (z : _) (cases : Cases) → Ok (case_of z cases)
  case_says z NoElse = tt
  case_says z (Else ss) = items_are C ss
  case_says z (OfLabels rs ss cases) = by (list_any (is_in z) rs) (case_says z cases)
    where
      by : (b : Bool) → Ok (case_of z cases) → Ok (if b then Val (Into (items_of ss)) else case_of z cases)
      by true more = items_are C ss
      by false more = more

  -- what is asked last, and what doesn't make anything
  out_says : (call : Call) → IsCall p r.own call → AreUsed (out_uses p call) → Ok (out_of p here call)
  out_says Open k us = (tt, (tt, λ v c. tt))
  out_says (CharCall e) k us = value_then e Char _ k us.1 (λ x c. (tt, (tt, λ v d. tt)))
  out_says (IntCall e m) k us =
      let q = part K (used.Calls ∷ expr_uses p e) (expr_uses p m) us in
      value_then e (Integer W64) _ k.0 q.0.1 (λ x c. value_then m (Integer W64) _ k.1 q.1 (λ y d. (tt, (tt, λ v i. tt))))
  out_says (String a) k us =
      let q = part K (used.Calls ∷ used.Reads (rows_target p a) ∷ []) (rows_uses p a) us in
      rows_then a _ k q.1 (λ x. (tt, (tt, λ v d. tt)))
  out_says Ln k us = (tt, (tt, λ v c. tt))

  values_tell : (es : List Expr) → AreLengthsOf p r.own es → AreUsed (values_uses p es) → Tells C (IsAsked p n here C) Any (values_of p here es)
  values_tell [] k us = tt
  values_tell (e ∷ es) k us =
      let q = part K (expr_uses p e) (values_uses p es) us in
      tells_bind p names n here C plainly self C Any (value_of p here e) _ (value_tells p names n here C plainly self r.own e (Integer W64) k.0 q.0) (λ v c.
      tells_bind p names n here C plainly self Any Any (values_of p here es) _ (values_tell es k.1 q.1) (λ vs cs. tt))

  changed_tells : (c : Changing) (v m : Value) → Tells C (IsAsked p n here C) C (changed c v m)
  changed_tells (change.Add w) v m = given_tells p names n here C plainly self (binary_sort (operator.Add w)) (binary_of (operator.Add w) (number_of v) (number_of m))
  changed_tells (change.Subtract w) v m = given_tells p names n here C plainly self (binary_sort (operator.Sub w)) (binary_of (operator.Sub w) (number_of v) (number_of m))
  changed_tells change.Include v m =
      tells_bind p names n here C plainly self C C (given (binary_sort operator.SetSpan) (binary_of operator.SetSpan (number_of m) (number_of m))) (λ x. given (binary_sort operator.Union) (binary_of operator.Union (number_of v) (number_of x)))
      (given_tells p names n here C plainly self (binary_sort operator.SetSpan) (binary_of operator.SetSpan (number_of m) (number_of m)))
      (λ x d. given_tells p names n here C plainly self (binary_sort operator.Union) (binary_of operator.Union (number_of v) (number_of x)))
  changed_tells change.Exclude v m =
      tells_bind p names n here C plainly self C C (given (binary_sort operator.SetSpan) (binary_of operator.SetSpan (number_of m) (number_of m))) (λ x. given (binary_sort operator.Minus) (binary_of operator.Minus (number_of v) (number_of x)))
      (given_tells p names n here C plainly self (binary_sort operator.SetSpan) (binary_of operator.SetSpan (number_of m) (number_of m)))
      (λ x d. given_tells p names n here C plainly self (binary_sort operator.Minus) (binary_of operator.Minus (number_of v) (number_of x)))

  -- NEW

  -- a quiet initializer makes no object of a type that has an initializer or a body
  begun_loud : (t : ℕ) → is_begun p t ≡ true → AreUsed (makes p t) → IsQuiet p n → ⊥
  begun_loud t e us q = (subst (λ b. AreUsed (if b then used.Makes ∷ [] else [])) e us).0 q

  left_some : (a : Option ℕ) (k : ℕ) (b : Bool) → a ≡ Some k → is_some a || b ≡ true
  left_some a k b e = subst (λ z. is_some z || b ≡ true) (sym e) refl

  right_some : (a b : Option ℕ) (k : ℕ) → b ≡ Some k → is_some a || is_some b ≡ true
  right_some None b k e = subst (λ z. is_some z ≡ true) (sym e) refl
  right_some (Some j) b k e = refl

  carried_says : (t : ℕ) (o : Value) → C o → AreUsed (makes p t) → (body : Option ℕ) → body_type p t ≡ body → Ok (bind (carried_out p body o) (λ x. Val (Into [])))
  carried_says t o c us None e = tt
  carried_says t o c us (Some b) e = by (is_active p b)
    where
      by : (active : Bool) → Ok (bind (if active then ask (Starts o) else ask (Calls ByCreator (body_number p b) (o ∷ []))) (λ x. Val (Into [])))
      by true = ((c, begun_loud t (right_some (initializer p t) (body_type p t) b e) us), (tt, λ v d. tt))
      by false = (((names.bodies b (names.has_body t b e), begun_loud t (right_some (initializer p t) (body_type p t) b e) us), (c, tt)), (tt, λ v d. tt))

  -- behind the initializer's end the object is stored
  stored_says : (m : Option Value) (s : _) (t : ℕ) (o : Value) → C o → AreUsed (makes p t) → Says p n here C m (bind (ask (Stores s o)) (λ y. bind (carried_out p (body_type p t) o) (λ x. Val (Into []))))
  stored_says m s t o c us = (c, (tt, λ v d. carried_says t o c us (body_type p t) refl))

  new_arguments : (t : ℕ) (s : _) (slot : Option ℕ) (vs : List Value) (o : Value) → AllAre C vs →
      ArgumentsAre C (bind (initialized p slot t o vs) (λ x. bind (ask (Stores s o)) (λ y. bind (carried_out p (body_type p t) o) (λ z. Val (Into [])))))
  new_arguments t s None vs o cs = tt
  new_arguments t s (Some k) vs o cs = cs

  initialized_says : (t : ℕ) (s : _) (slot : Option ℕ) → initializer p t ≡ slot → AreUsed (makes p t) → (vs : List Value) → AllAre C vs → (o : Value) → C o →
      Says p n here C (Some o) (bind (initialized p slot t o vs) (λ x. bind (ask (Stores s o)) (λ y. bind (carried_out p (body_type p t) o) (λ z. Val (Into [])))))
  initialized_says t s None e us vs cs o c = stored_says (Some o) s t o c us
  initialized_says t s (Some k) e us vs cs o c =
      ((begun_loud t (left_some (initializer p t) k (is_some (body_type p t)) e) us, (o, vs, refl, refl, (c, cs))), (tt, λ x d. stored_says None s t o c us))

  made_says : (t : ℕ) (s : _) (vs : List Value) → AreUsed (makes p t) → AllAre C vs →
      Ok (bind (ask (Makes (suc t) [])) (λ o. bind (initialized p (initializer p t) t o vs) (λ x. bind (ask (Stores s o)) (λ y. bind (carried_out p (body_type p t) o) (λ z. Val (Into []))))))
  made_says t s vs us cs = (tt, (λ o. new_arguments t s (initializer p t) vs o cs, λ o c. initialized_says t s (initializer p t) refl us vs cs o c))

  new_tells : (t : ℕ) (slot : Option ℕ) (more : Arguments) (i : ℕ) → IsInitialized p r.own slot t more → AreUsed (arguments_uses p i 0 more) → Tells C (IsAsked p n here C) (AllAre C) (arguments_of p here more)
  new_tells t None more i k us = subst (λ z. Tells C (IsAsked p n here C) (AllAre C) (arguments_of p here z)) (sym k) tt
  new_tells t (Some j) more i k us = arguments_tell p names n here C plainly self r.own more (let q = k.0 in q.parameters) i 0 k.3 us

  stat_says : (x : Bool) (s : Stat) → AreUsed (stat_uses p x s) → IsStatement p r.own s → Ok (stat_of p here s)
  stat_says x (Assign at t q e) us k =
      let j = part K (written p x q) (expr_uses p e) us in
      place_then q t _ k.0 j.0.1 (λ s. value_then e t _ k.2 j.1 (λ v c. (c, (tt, λ y d. tt))))
  stat_says x (Copy at t q a) us k =
      let j = part K (written p x q) (used.Reads (target p a) ∷ place_uses p a) us in
      place_then q t _ k.0 j.0.1 (λ s. place_then a k.1.0 _ k.1.1 j.1.1 (λ y. (tt, (tt, λ v d. tt))))
  stat_says x (PutText at strict a b) us k =
      let j = part K (used.Writes (rows_target p b) x ∷ rows_uses p b) (used.Reads (rows_target p a) ∷ rows_uses p a) us in
      rows_then a _ k.0 j.1.1 (λ s. rows_then b _ k.1 j.0.1 (λ y. (tt, (tt, λ v d. tt))))
  stat_says x (If at arms) us k = arms_say x arms us k
  stat_says x (Case at e cases) us k =
      let j = part K (expr_uses p e) (cases_uses p x cases) us in
      elim k.0 [
        | inl i ↦ value_then e (Integer W64) _ i j.0 (λ v c. case_says (number_of v) cases)
        | inr i ↦ value_then e Char _ i j.0 (λ v c. case_says (number_of v) cases)
      ]
  stat_says x (While at e body) us k =
      let j = part K (expr_uses p e) (stats_uses p x body) us in value_then e Boolean _ k.0 j.0 (λ v c. by (is_true v))
    where
      by : (b : Bool) → ItemsAre C (if b then items_of body ++ Do (While at e body) ∷ [] else [])
      by true = text_are C body (Do (While at e body) ∷ []) tt
      by false = tt
  stat_says x (Repeat at body e) us k = text_are C body (Until at body e ∷ []) tt
  stat_says x (Loop at body) us k = text_are C body (Round (Loop at body) ∷ []) tt
  stat_says x (Exit at) us k = tt
  stat_says x (For at w q from to step body) us k =
      let i = part K (written p x q ++ (expr_uses p from ++ expr_uses p to)) (stats_uses p x body) us in
      let j = part K (written p x q) (expr_uses p from ++ expr_uses p to) i.0 in
      let m = part K (expr_uses p from) (expr_uses p to) j.1 in
      value_then to (Integer w) _ k.3 m.1 (λ v c. tt)
  stat_says x (Block at exclusive body) us k = block_are exclusive body
  stat_says x (Await at m e) us k = (tt, (tt, λ v d. tt))
  stat_says x (Assert at e code) us k = value_then e Boolean _ k.0 us (λ v c. by (is_true v))
    where
      by : (b : Bool) → Ok (if b then Val (Into []) else Traps 7 code)
      by true = tt
      by false = tt
  stat_says x (Halt at code) us k = tt
  stat_says x (Change at c q e) us k =
      let j = part K (written p x q) (expr_uses p e) us in
      place_then q _ _ k.0 j.0.1 (λ s. value_then e (amount_type c) _ k.1 j.1 (λ m d. (
        tt,
        (
          tt,
          λ v i.
              then_says p n here C C (changed c v m) _ (changed_tells c v m) (λ y l. (l, (tt, λ z f. tt))),
        ),
      )))
  stat_says x (Perform at c more) us k = then_says p n here C C (called p here c more) _ (call_tells p names n here C plainly self r.own c more k.0 k.1 k.3 us) (λ v d. tt)
  stat_says x (Return at None) us k = tt
  stat_says x (Return at (Some e)) us k = by (result_of r.own) k
    where
      by : (t : Option TType) → IsReturn p r.own (Some e) t → Ok (bind (value_of p here e) (λ v. Val (Returns (Some v))))
      by None j = absurd j
      by (Some t) j = value_then e t _ j us (λ v c. c)
  stat_says x (New at q t more) us k =
      let i = part K (written p x q ++ makes p t) (arguments_uses p (initial_number p (initializer p t) t) 0 more) us in
      let j = part K (written p x q) (makes p t) i.0 in
      place_then q (Named t) _ k.0 j.0.1 (λ s.
      then_says p n here C (AllAre C) (arguments_of p here more) _ (new_tells t (initializer p t) more (initial_number p (initializer p t) t) k.2 i.1) (λ vs cs. made_says t s vs j.1 cs))
  stat_says x (Make at q t ns) us k =
      let j = part K (written p x q) (values_uses p ns) us in
      place_then q k.0.0 _ k.0.1 j.0.1 (λ s.
      then_says p n here C Any (values_of p here ns) _ (values_tell ns k.3 j.1) (λ vs cs. (tt, (λ o. tt, λ o c. (c, (tt, λ v d. tt))))))
  stat_says x (With at e body) us k =
      let j = part K (expr_uses p e) (stats_uses p x body) us in value_then e k.0.0 _ k.0.1 j.0 (λ v c. items_are C body)
  stat_says x (WithRecord at a body) us k =
      let j = part K (place_uses p a) (stats_uses p x body) us in place_then a k.0.0 _ k.0.1 j.0 (λ v. items_are C body)
  stat_says x (Out at call) us k = out_says call k us

  item_says : (x : Bool) (i : Item) → AreUsed (item_uses p x i) → IsText p r i → ItemsAre C (i ∷ []) → Ok (item_of p here i)
  item_says x (Do s) us k is = stat_says x s us k.0
  item_says x (Rounds at w q last step b) us k is =
      let j = part K (written p x q) (stats_uses p x b) us in
      value_then (Read (Integer w) q) (Integer w) _ (k.0.0, refl, inl (includes_itself w)) (tt, j.0.1) (λ v c. by (holds (until step) (number_of v) last))
    where
      by : (d : Bool) → ItemsAre C (if d then items_of b ++ Do (next_value at w q step) ∷ Rounds at w q last step b ∷ [] else [])
      by true = text_are C b (Do (next_value at w q step) ∷ Rounds at w q last step b ∷ []) tt
      by false = tt
  item_says x (Round s) us k is = stat_says x s us k.0
  item_says x (Until at b e) us k is = value_then e Boolean _ k.0.1 (part K (expr_uses p e) (stats_uses p x b) us).0 (λ v c. by (is_true v))
    where
      by : (d : Bool) → ItemsAre C (if d then [] else Do (Repeat at b e) ∷ [])
      by true = tt
      by false = tt
  item_says x (Region ss) us k is = tt
  item_says x End us k is = tt
  item_says x (Gives v) us k is = is

-- what a frame's first item has come to
module _ (p : Program) (names : HasNames p) (n : ℕ) (r : Routine) (C : Value → Type 0) (plainly : Plainly p C) where
  -- as it begins
  pub begins_says : (here : Here) (i : Item) (is : List Item) → C (Object here.self) ⊎ IsQuiet p n → ItemsFine p n r (i ∷ is) → ItemsAre C (i ∷ is) → Says p n here C None (item_of p here i)
  begins_says here i is self fine items =
      let x = has_mark is in item_says p names n r here C plainly self x i (kept p n r (item_uses p x i) fine.0.0) fine.0.1 (first_gives (ResultIs C) i is items)

  pub come_says : (here : Here) (i : Item) (is : List Item) (vs : List Value) (left : Doing After) → feed vs (item_of p here i) ≡ left → C (Object here.self) ⊎ IsQuiet p n → ItemsFine p n r (i ∷ is) → ItemsAre C (i ∷ is) → AllAre C vs →
      ((m : Option Value) × Says p n here C m left) × ItemsAre C is
  come_says here i is vs left come self fine items had =
      let fed = says_fed p n here C None vs (item_of p here i) (begins_says here i is self fine items) had in
      ((fed.0, subst (Says p n here C fed.0) come fed.1), rest_gives (ResultIs C) i is items)

  -- what it asks next
  pub asks_says : (f : Frame) (fs : List Frame) (q : Question) (asks : IsAsking p f fs q) → C (Object f.object) ⊎ IsQuiet p n → ItemsFine p n r f.items → FrameIs C f → (m : Option Value) × Says p n (here_of f fs) C m (Asks q asks.0)
  asks_says f fs q asks self fine is =
      let c = asks.1 in
      (come_says (here_of f fs) c.item c.rest c.answers (Asks q asks.0) c.is self (subst (ItemsFine p n r) c.items fine) (subst (ItemsAre C) c.items is.items) (subst (AnswersAre C) c.begun is.answers)).0
