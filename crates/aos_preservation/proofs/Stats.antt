-- A well-typed statement is typed in a frame of its routine: what it asks is valid, and what it gives is of the routine's type.
use Rattle.std.proofs.Common.{◌≡◌, inl, inr, ℕ, suc, ◌+◌, List, [], ◌∷◌, ◌++◌, length, Bool, true, false, Option, Some, None, if◌then◌else◌, refl, sym, ap, ◌∙◌, subst}
use Rattle.std.specs.Prelude.{ℤ, is_some}
use Rattle.std.specs.List.{list_any}
use Rattle.aos_base.specs.declared.number.Width.TheVariants.{W64}
use Rattle.aos_base.specs.declared.operator.Binary.TheVariants.{Add, Minus, SetSpan, Sub, Union}
use Rattle.aos_base.specs.Number.{holds}
use Rattle.aos_base.specs.Operators.{binary as binary_of}
use Rattle.aos_base.specs.Question.{Val, Traps, bind, ask, ByCreator, Calls, Initially, Makes, Starts, Stores}
use Rattle.aos_base.specs.Rooted.{Made}
use Rattle.aos_types.specs.Content.{EachSort}
use Rattle.aos_types.specs.Extension.{comes_to}
use Rattle.aos_types.specs.Table.{is_object, row_of}
use Rattle.aos_types.specs.World.{World}
use Rattle.aos_types.proofs.Tables.{comes_on}
use Rattle.aos_typed.specs.declared.tree.Change.{Change as Changing}
use Rattle.aos_typed.specs.declared.tree.Change.TheVariants as change
use Rattle.aos_typed.specs.declared.tree.TType.{TType}
use Rattle.aos_typed.specs.declared.tree.TType.TheVariants as type
use Rattle.aos_typed.specs.Conditions.{IsLinked, conditions}
use Rattle.aos_typed.specs.Methods.{body_type, initializer, is_active, method_in, method_number}
use Rattle.aos_typed.specs.Numbers.{body_number, id_of, id_of_made}
use Rattle.aos_typed.specs.Program.{Arguments, Arm, Arms, Assert, Assign, Await, Block, Call, Case, Cases, Change, Char as CharCall, Copy, Else, Exit, Expr, For, Halt, If, Int as IntCall, Ln, Loop, Make, New, NoElse, OfLabels, Open, Otherwise, Out, Perform, Place, Procedure, Program, PutText, Read, Repeat, Return, Rows, Stat, Stats, String, While, With, WithRecord}
use Rattle.aos_typed.specs.Routines.{Routine, result_of}
use Rattle.aos_typed.specs.Sort.{Sort, Plain, variable_shape}
use Rattle.aos_typed.specs.Location.{Location}
use Rattle.aos_typed.specs.Typing.{Extends, HasLengths, Is, IsPlain}
use Rattle.aos_typed.specs.Value.{Value, Object, binary_sort, element, is_true, number_of}
use Rattle.aos_typed.specs.WellTyped.{AreArms, AreLengthsOf, AreRows, HaveLengths, IsCall, IsInitialized, IsOf, IsPlaceOf, IsReturn, IsStatement, NamesType, amount_type, is_any, is_basic, is_value, is_whole, target}
use Rattle.aos_typed.specs.Meaning.{After, Doing, Do, End, Found, Gives, Here, Into, Item, Region, Returns, Round, Rounds, Until, arguments_of, arms_of, called, carried_out, case_of, changed, changed_type, initialized, is_in, item_of, items_of, next_value, out_of, place_of, rows_of, stat_of, until, value_of, values_of}
use Rattle.aos_sim.proofs.Changes.{changed_basic, changed_value, includes_itself}
use Rattle.aos_sim.proofs.Designators.{holds_extension}
use Rattle.aos_sim.proofs.Does.{AreIntegers, Given, HasTypes, HasWhole, IsAnswer, IsObject, IsResult, IsSelf, Knows, Valid}
use Rattle.aos_sim.proofs.Making.{none_open, object_closed, or_second, target_made}
use Rattle.aos_sim.proofs.News.{object_below}
use Rattle.aos_sim.proofs.Objects.{object_target}
use Rattle.aos_sim.proofs.Operators.{binary_agrees}
use Rattle.aos_sim.proofs.Parts.{each_rest}
use Rattle.aos_sim.proofs.References.{comes_same, made_reference, reference_value, to_target}
use Rattle.aos_sim.proofs.Routines.{object_there}
use Rattle.aos_sim.proofs.Types.{IsValueOf, is_character, is_integer}
use Rattle.aos_sim.proofs.Variables.{value_from, value_to}
use Rattle.aos_escape.specs.Items.{IsText}
use Rattle.aos_handover.specs.Items.{ItemsGive as AllGive, AfterGives as FollowGives}
use Rattle.aos_handover.proofs.Items.{text_gives as text_give, items_give as text_items_give}
use Rattle.aos_preservation.proofs.Exprs.{arguments_typed, basic_typed, called_typed, place_typed, rows_typed, scalar_found, value_typed}
use Rattle.aos_preservation.proofs.Pieces.{asked_typed, given_typed, method_given, method_on}
use Rattle.aos_preservation.proofs.Places.{AreFound, IsFound, room_found, text_found}
use Rattle.aos_preservation.proofs.Trees.{IsTold, Typed, typed_bind, typed_more}

module _ (p : Program) (w : World Sort) (own : Option Procedure) where
  -- the results that items give are of the routine's type
  abbrev pub ItemsGive : List Item → Type 0
  ItemsGive is = AllGive (IsResult p w (result_of own)) is

  abbrev pub AfterGives : After → Type 0
  AfterGives a = FollowGives (IsResult p w (result_of own)) a

  pub text_gives : (ss : Stats) (is : List Item) → ItemsGive is → ItemsGive (items_of ss ++ is)
  text_gives ss is h = text_give (IsResult p w (result_of own)) ss is h

  pub items_give : (ss : Stats) → ItemsGive (items_of ss)
  items_give ss = text_items_give (IsResult p w (result_of own)) ss

module _ (p : Program) (typed : HasTypes p) (w : World Sort) (r : Routine) (here : Here) (known : Knows p r.own here w) where
  abbrev own : Option Procedure
  own = r.own

  abbrev Of : TType → Value → Type 0
  Of t v = Is p w (Plain (id_of t)) v

  abbrev Ok : Doing After → Type 0
  Ok d = Typed p w here (AfterGives p w own) d

  abbrev OkOf : {A : Type 0} → (A → Type 0) → Doing A → Type 0
  OkOf R d = Typed p w here R d

  abbrev Names : Place → TType → Type 0
  Names q t = NamesType p own q t

  value_then : (e : Expr) (t : TType) (k : Value → Doing After) → IsOf p own e t → ((v : Value) → Of t v → Ok (k v)) → Ok (bind (value_of p here e) k)
  value_then e t k h f = typed_bind p w here (Of t) (AfterGives p w own) (value_of p here e) k (value_typed p typed w own here known e t h) f

  place_then : (q : Place) (t : TType) (k : Location → Doing After) → IsPlaceOf p own q t → ((s : Location) → IsFound p w (Names q t) t s → Ok (k s)) → Ok (bind (place_of p here q) k)
  place_then q t k h f = typed_bind p w here (IsFound p w (Names q t) t) (AfterGives p w own) (place_of p here q) k (place_typed p typed w own here known q t h) f

  rows_then : (a : Rows) (k : Found → Doing After) → AreRows p own a 1 type.Char → ((x : Found) → AreFound p w (HaveLengths a) 1 type.Char x → Ok (k x)) → Ok (bind (rows_of p here a) k)
  rows_then a k h f = typed_bind p w here (AreFound p w (HaveLengths a) 1 type.Char) (AfterGives p w own) (rows_of p here a) k (rows_typed p typed w own here known a 1 type.Char h) f

  arms_typed : (arms : Arms) → AreArms p own arms → Ok (arms_of p here arms)
  arms_typed (Otherwise ss) h = items_give p w own ss
  arms_typed (Arm e ss arms) h =
      let others = arms_typed arms h.2 in value_then e type.Boolean _ h.0 (λ v c. by (is_true v) others)
    where
      by : (b : Bool) → Ok (arms_of p here arms) → Ok (if b then Val (Into (items_of ss)) else arms_of p here arms)
      by true more = items_give p w own ss
      by false more = more

  case_typed : (z : ℤ) (cases : Cases) → Ok (case_of z cases)
  case_typed z NoElse = tt
  case_typed z (Else ss) = items_give p w own ss
  case_typed z (OfLabels rs ss cases) = by (list_any (is_in z) rs) (case_typed z cases)
    where
      by : (b : Bool) → Ok (case_of z cases) → Ok (if b then Val (Into (items_of ss)) else case_of z cases)
      by true more = items_give p w own ss
      by false more = more

  -- what is copied begins with a variable of its type
  whole_found : (named : Type 0) (u t : TType) (s : Location) → is_whole (row_of p.types (id_of t)) ≡ true → comes_to p.types (id_of u) (id_of t) ≡ true → IsFound p w named u s → HasWhole p w s (id_of t)
  whole_found named u t s whole extends f =
      let r = holds_extension p typed (id_of u) (id_of t) f.shape whole extends f.holds in
      (r.0, f.there ∙ ap (λ z. Some z) r.1, each_rest IsPlain (variable_shape p.types (id_of t)) r.0 (subst (EachSort IsPlain) r.1 f.plain))

  out_typed : (call : Call) → IsCall p own call → Ok (out_of p here call)
  out_typed Open h = (tt, λ v c. tt)
  out_typed (CharCall e) h = value_then e type.Char _ h (λ x c. (is_character x (value_from p typed.predeclared type.Char w x refl c), λ v d. tt))
  out_typed (IntCall e n) h =
      let wide = type.Integer W64 in
      value_then e wide _ h.0 (λ x c.
      value_then n wide _ h.1 (λ y d. ((is_integer W64 x (value_from p typed.predeclared wide w x refl c), is_integer W64 y (value_from p typed.predeclared wide w y refl d)), λ v z. tt)))
  out_typed (String a) h = rows_then a _ h (λ x f. (text_found p w typed (HaveLengths a) x f, λ v c. tt))
  out_typed Ln h = (tt, λ v c. tt)

  -- lengths
  values_typed : (es : List Expr) → AreLengthsOf p own es → OkOf (λ vs. (length vs ≡ length es) × AreIntegers vs) (values_of p here es)
  values_typed [] h = (refl, tt)
  values_typed (e ∷ es) h =
      let wide = type.Integer W64 in
      typed_bind p w here (Of wide) (λ vs. (length vs ≡ suc (length es)) × AreIntegers vs) (value_of p here e) _ (value_typed p typed w own here known e wide h.0) (λ v c.
      typed_bind p w here (λ vs. (length vs ≡ length es) × AreIntegers vs) (λ vs. (length vs ≡ suc (length es)) × AreIntegers vs) (values_of p here es) _ (values_typed es h.1)
      (λ vs all. (ap (λ n. suc n) all.0, (is_integer W64 v (value_from p typed.predeclared wide w v refl c), all.1))))

  one_element : (n : Value) → IsValueOf (type.Integer W64) n → OkOf (IsValueOf type.Set) (element n)
  one_element n is = given_typed p typed w own here known type.Set (binary_sort SetSpan) (binary_of SetSpan (number_of n) (number_of n)) (binary_agrees SetSpan type.Set n n (is, is) refl)

  -- what is changed stays of its type
  changed_typed : (c : Changing) (v n : Value) → IsValueOf (changed_type c) v → IsValueOf (amount_type c) n → OkOf (IsValueOf (changed_type c)) (changed c v n)
  changed_typed (change.Add x) v n iv is = given_typed p typed w own here known (type.Integer x) (binary_sort (Add x)) (binary_of (Add x) (number_of v) (number_of n)) (binary_agrees (Add x) (type.Integer x) v n (iv, is) (includes_itself x))
  changed_typed (change.Subtract x) v n iv is = given_typed p typed w own here known (type.Integer x) (binary_sort (Sub x)) (binary_of (Sub x) (number_of v) (number_of n)) (binary_agrees (Sub x) (type.Integer x) v n (iv, is) (includes_itself x))
  changed_typed change.Include v n iv is =
      typed_bind p w here (IsValueOf type.Set) (IsValueOf type.Set) _ _ (one_element n is)
      (λ y iy. given_typed p typed w own here known type.Set (binary_sort Union) (binary_of Union (number_of v) (number_of y)) (binary_agrees Union type.Set v y (iv, iy) refl))
  changed_typed change.Exclude v n iv is =
      typed_bind p w here (IsValueOf type.Set) (IsValueOf type.Set) _ _ (one_element n is)
      (λ y iy. given_typed p typed w own here known type.Set (binary_sort Minus) (binary_of Minus (number_of v) (number_of y)) (binary_agrees Minus type.Set v y (iv, iy) refl))

  -- NEW

  -- an object of the type is made
  record IsNew (t : ℕ) (v : Value) : Type 0 where
    of : Made
    object : IsObject w v of
    type_is : of.type ≡ suc t
    lengths : HasLengths p (row_of p.types (id_of_made of.type)) of

  is_new : (t : ℕ) (vs : List Value) (v : Value) → IsTold p w (Makes (suc t) vs) v → IsNew t v
  is_new t vs v told = record { of = told.0; object = told.1; type_is = told.2; lengths = told.3 }

  new_extends : (t : ℕ) (v : Value) (n : IsNew t v) → comes_to p.types (id_of_made n.of.type) (id_of (type.Named t)) ≡ true
  new_extends t v n = subst (λ d. comes_to p.types (id_of_made d) (id_of (type.Named t)) ≡ true) (sym n.type_is) (comes_same p.types (id_of (type.Named t)))

  -- it is a value of what leads to the type
  new_value : (u : TType) (t : ℕ) (v : Value) → target p.types u ≡ Some (id_of (type.Named t)) → IsNew t v → Of u v
  new_value u t v to n =
      let id = id_of (type.Named t) in to_target p w u id v to (made_reference p w (Extends p id) v n.of n.object n.lengths (new_extends t v n))

  may_store : (named : Type 0) (u : TType) (s : Location) (v : Value) → is_value p.types u ≡ true → IsFound p w named u s → Of u v → Valid p here w (Stores s v)
  may_store named u s v value f is = (Plain (id_of u), tt, scalar_found p typed w own here known named u s value f, is)

  self_of : (t s : ℕ) (v : Value) (n : IsNew t v) → comes_to p.types (id_of (type.Named t)) (id_of (type.Named s)) ≡ true → (o : ℕ) → v ≡ Object (suc o) → IsSelf p w.made (Some s) (suc o)
  self_of t s v n extends o is =
      let object = n.object in
      let number : suc object.number ≡ suc o = (let both : Object (suc object.number) ≡ Object (suc o) = sym object.is ∙ is in cc both) in
      (o, n.of, refl, subst (λ z. w.made z ≡ Some n.of) number object.made, n.lengths, comes_on p.types typed.ranked (id_of_made n.of.type) (id_of (type.Named t)) (id_of (type.Named s)) (new_extends t v n) extends)

  carried_typed : (t : ℕ) (v : Value) → IsNew t v → (body : Option ℕ) → body_type p t ≡ body → Ok (bind (carried_out p body v) (λ _. Val (Into [])))
  carried_typed t v n None is = tt
  carried_typed t v n (Some b) is = by (is_active p b) refl
    where
      o : ℕ
      o = let object = n.object in object.number

      v_is : v ≡ Object (suc o)
      v_is = let object = n.object in object.is

      by : (c : Bool) → is_active p b ≡ c → Ok (bind (if c then ask (Starts v) else ask (Calls ByCreator (body_number p b) (v ∷ []))) (λ _. Val (Into [])))
      by true active = ((o, v_is, n.of, (let object = n.object in object.made), record { of = t; body = b; made = n.type_is; has = is; active = active }), λ x c. tt)
      by false calls =
          let has = typed.methods.bodies t b is in
          let its = has.object in
          let body = its.body in
          let none : Given p w body.parameters [] = subst (λ l. Given p w l []) (sym has.body.plain) refl in
          let asks = asked_typed p typed w own here known ByCreator (body_number p b) its.home body (object_there p b its has.there) (Object (suc o) ∷ [])
          (method_given p typed w own here known body b (suc o) has.body.own [] none) (method_on p typed w own here known body b (suc o) has.body.own [] (self_of t b v n has.extends o v_is)) in
          subst (λ z. Ok (bind (ask (Calls ByCreator (body_number p b) (z ∷ []))) (λ _. Val (Into [])))) (sym v_is) (asks.0, λ x c. tt)

  stored_typed : (named : Type 0) (t : ℕ) (s : Location) (v : Value) → is_object (row_of p.types (id_of (type.Named t))) ≡ true → IsFound p w named (type.Named t) s → IsNew t v → Ok (bind (ask (Stores s v)) (λ _. bind (carried_out p (body_type p t) v) (λ _. Val (Into []))))
  stored_typed named t s v object f n =
      let id = id_of (type.Named t) in
      let to = object_target p.types id (row_of p.types id) object in
      (may_store named (type.Named t) s v (reference_value p (type.Named t) (ap is_some to)) f (new_value (type.Named t) t v to n), λ x c. carried_typed t v n (body_type p t) refl)

  -- what an initializer is handed
  abbrev Handed : Option ℕ → ℕ → List Value → Type 0
  Handed slot t vs = (k : ℕ) → slot ≡ Some k → (q : Procedure) × (method_in p t k ≡ Some q) × Given p w q.parameters vs

  initialized_typed : (named : Type 0) (t : ℕ) (s : Location) (slot : Option ℕ) (vs : List Value) (v : Value) → is_object (row_of p.types (id_of (type.Named t))) ≡ true → IsFound p w named (type.Named t) s → IsNew t v → Handed slot t vs →
      Ok (bind (initialized p slot t v vs) (λ _. bind (ask (Stores s v)) (λ _. bind (carried_out p (body_type p t) v) (λ _. Val (Into [])))))
  initialized_typed named t s None vs v object f n args = stored_typed named t s v object f n
  initialized_typed named t s (Some k) vs v object f n args =
      let a = args k refl in
      let m = typed.methods.found t k a.0 a.1 in
      let its = n.object in
      let o = its.number in
      let asks = asked_typed p typed w own here known Initially (method_number p t k) m.home a.0 m.there (Object (suc o) ∷ vs)
      (method_given p typed w own here known a.0 m.self (suc o) m.is vs a.2) (method_on p typed w own here known a.0 m.self (suc o) m.is vs (self_of t m.self v n m.extends o its.is)) in (
        subst (λ z. Valid p here w (Calls Initially (method_number p t k) (z ∷ vs))) (sym its.is) asks.0,
        λ x c. stored_typed named t s v object f n,
      )

  new_arguments : (t : ℕ) (slot : Option ℕ) (more : Arguments) → IsInitialized p own slot t more → OkOf (Handed slot t) (arguments_of p here more)
  new_arguments t None more h = subst (λ z. OkOf (Handed None t) (arguments_of p here z)) (sym h) (λ k e. absurd (cc e))
  new_arguments t (Some j) more h =
      typed_more p w here (Given p w h.0.parameters) (Handed (Some j) t) (arguments_of p here more) (arguments_typed p typed w own here known more h.0.parameters h.3)
      (λ vs g k e. (h.0, (let same : j ≡ k = cc e in subst (λ z. method_in p t z ≡ Some h.0) same h.1), g))

  may_make : (t : ℕ) → is_object (row_of p.types (id_of (type.Named t))) ≡ true → Valid p here w (Makes (suc t) [])
  may_make t object =
      let id = id_of (type.Named t) in
      let to = object_target p.types id (row_of p.types id) object in
      (t, refl, object_below p typed t object, sym (none_open p.types id (length p.types) (object_closed (row_of p.types id) object)), tt, target_made p.types id id (row_of p.types id) refl to)

  stat_typed : (s : Stat) → IsStatement p own s → IsLinked (conditions p) r.home own s → Ok (stat_of p here s)
  stat_typed (Assign at t q e) h l = place_then q t _ h.0 (λ s f. value_then e t _ h.2 (λ v c. (may_store (Names q t) t s v h.1 f c, λ x d. tt)))
  stat_typed (Copy at t q y) h l =
      place_then q t _ h.0 (λ to f.
      place_then y h.1.0 _ h.1.1 (λ from g. ((whole_found (Names y h.1.0) h.1.0 t from h.2 h.1.2 g, whole_found (Names q t) t t to h.2 (comes_same p.types (id_of t)) f, h.2), λ x d. tt)))
  stat_typed (PutText at strict a b) h l =
      rows_then a _ h.0 (λ x f. rows_then b _ h.1 (λ y g. ((text_found p w typed (HaveLengths a) x f, room_found p w typed (HaveLengths b) y h.2 g), λ v c. tt)))
  stat_typed (If at arms) h l = arms_typed arms h
  stat_typed (Case at e cases) (inl h, apart, all) l = value_then e (type.Integer W64) _ h (λ v c. case_typed (number_of v) cases)
  stat_typed (Case at e cases) (inr h, apart, all) l = value_then e type.Char _ h (λ v c. case_typed (number_of v) cases)
  stat_typed (While at e body) h l = value_then e type.Boolean _ h.0 (λ v c. by (is_true v))
    where
      by : (b : Bool) → ItemsGive p w own (if b then items_of body ++ Do (While at e body) ∷ [] else [])
      by true = text_gives p w own body (Do (While at e body) ∷ []) tt
      by false = tt
  stat_typed (Repeat at body e) h l = text_gives p w own body (Until at body e ∷ []) tt
  stat_typed (Loop at body) h l = text_gives p w own body (Round (Loop at body) ∷ []) tt
  stat_typed (Exit at) h l = tt
  stat_typed (For at x q from to step body) h l = value_then to (type.Integer x) _ h.3 (λ v c. tt)
  stat_typed (Block at true body) h l = tt
  stat_typed (Block at false body) h l = items_give p w own body
  stat_typed (Await at n e) h l = ((record { home = r.home; own = own; at = at; expression = e }, l, h.0, h.1, known), λ v c. tt)
  stat_typed (Assert at e code) h l = value_then e type.Boolean _ h.0 (λ v c. by (is_true v))
    where
      by : (b : Bool) → Ok (if b then Val (Into []) else Traps 7 code)
      by true = tt
      by false = tt
  stat_typed (Halt at code) h l = tt
  stat_typed (Change at c q e) h l =
      let t = changed_type c in
      let basic = changed_basic c in
      let value = changed_value p c in
      place_then q t _ h.0 (λ s f.
      typed_bind p w here (IsValueOf (amount_type c)) (AfterGives p w own) (value_of p here e) _ (basic_typed p typed w own here known e (amount_type c) (amount_basic c) h.1) (λ n d. (
        (value, scalar_found p typed w own here known (Names q t) t s value f),
        λ v got.
            typed_bind p w here (IsValueOf t) (AfterGives p w own) (changed c v n) _ (changed_typed c v n (value_from p typed.predeclared t w v basic got) d)
            (λ y is. (may_store (Names q t) t s y value f (value_to p typed.predeclared t w y basic is), λ x z. tt)),
      )))
    where
      amount_basic : (c : Changing) → is_basic (amount_type c) ≡ true
      amount_basic (change.Add x) = refl
      amount_basic (change.Subtract x) = refl
      amount_basic change.Include = refl
      amount_basic change.Exclude = refl
  stat_typed (Perform at c more) h l =
      typed_bind p w here (IsAnswer p w h.0.result) (AfterGives p w own) (called p here c more) _ (called_typed p typed w own here known c h.0 h.1 more (arguments_typed p typed w own here known more h.0.parameters h.3)) (λ v d. tt)
  stat_typed (Return at None) h l = by (result_of own) h
    where
      by : (t : Option TType) → IsReturn p own None t → IsResult p w t None
      by None i = tt
      by (Some t) i = absurd i
  stat_typed (Return at (Some e)) h l = by (result_of own) refl h
    where
      by : (t : Option TType) → result_of own ≡ t → IsReturn p own (Some e) t → Ok (bind (value_of p here e) (λ v. Val (Returns (Some v))))
      by None same i = absurd i
      by (Some t) same i = value_then e t _ i (λ v c. subst (λ z. IsResult p w z (Some v)) (sym same) c)
  stat_typed (New at q t more) h l =
      place_then q (type.Named t) _ h.0 (λ s f.
      typed_bind p w here (Handed (initializer p t) t) (AfterGives p w own) (arguments_of p here more) _ (new_arguments t (initializer p t) more h.2)
      (λ vs args. (may_make t h.1, λ v told. initialized_typed (Names q (type.Named t)) t s (initializer p t) vs v h.1 f (is_new t [] v told) args)))
  stat_typed (Make at q t ns) h l =
      let u = h.0.0 in
      let id = id_of (type.Named t) in
      let value : is_value p.types u ≡ true = reference_value p u (or_second (is_any u) (ap is_some h.0.2)) in
      place_then q u _ h.0.1 (λ s f.
      typed_bind p w here (λ vs. (length vs ≡ length ns) × AreIntegers vs) (AfterGives p w own) (values_of p here ns) _ (values_typed ns h.3) (λ vs all. (
        (t, refl, h.1, all.0 ∙ h.4, all.1, target_made p.types (id_of u) id (row_of p.types (id_of u)) refl h.0.2),
        λ v told. (may_store (Names q u) u s v value f (new_value u t v h.0.2 (is_new t vs v told)), λ x c. tt),
      )))
  stat_typed (With at e body) h l = value_then e h.0.0 _ h.0.1 (λ v c. items_give p w own body)
  stat_typed (WithRecord at q body) h l = place_then q h.0.0 _ h.0.1 (λ s f. items_give p w own body)
  stat_typed (Out at call) h l = out_typed call h

  pub item_typed : (i : Item) → IsText p r i → ItemsGive p w own (i ∷ []) → Ok (item_of p here i)
  item_typed (Do s) h gives = stat_typed s h.0 h.1
  item_typed (Rounds at x q last step b) h gives = value_then (Read (type.Integer x) q) (type.Integer x) _ (h.0.0, refl, inl (includes_itself x)) (λ v c. by (holds (until step) (number_of v) last))
    where
      by : (d : Bool) → ItemsGive p w own (if d then items_of b ++ Do (next_value at x q step) ∷ Rounds at x q last step b ∷ [] else [])
      by true = text_gives p w own b (Do (next_value at x q step) ∷ Rounds at x q last step b ∷ []) tt
      by false = tt
  item_typed (Round s) h gives = stat_typed s h.0 h.1
  item_typed (Until at b e) h gives = value_then e type.Boolean _ h.0.1 (λ v c. by (is_true v))
    where
      by : (d : Bool) → ItemsGive p w own (if d then [] else Do (Repeat at b e) ∷ [])
      by true = tt
      by false = tt
  item_typed (Region ss) h gives = tt
  item_typed End h gives = tt
  item_typed (Gives r) h gives = gives
