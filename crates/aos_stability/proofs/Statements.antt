-- What a statement asks in a frame of a routine, with true answers: it writes only where its text may, and what it gives is of its procedure's
-- type.
use Rattle.std.proofs.Common.{◌∙◌, ◌≡◌, inl, inr, ℕ, List, [], ◌∷◌, ◌++◌, Bool, true, false, Option, Some, None, refl, sym, ap, subst}
use Rattle.std.specs.Prelude.{if◌then◌else◌}
use Rattle.std.specs.List.{list_any}
use Rattle.aos_base.specs.Number.{holds}
use Rattle.aos_base.specs.Question.{Val, Traps, bind, ask, ByCreator, Stores, Calls, Starts}
use Rattle.aos_base.specs.declared.number.Width.TheVariants.{W64}
use Rattle.aos_base.specs.declared.operator.Binary.{Binary as Operator}
use Rattle.aos_base.specs.declared.operator.Binary.TheVariants as operator
use Rattle.aos_base.specs.Operators.{binary as binary_of}
use Rattle.aos_typed.specs.declared.tree.Change.{Change as Changing}
use Rattle.aos_typed.specs.declared.tree.Change.TheVariants as change
use Rattle.aos_typed.specs.declared.tree.TType.{TType}
use Rattle.aos_typed.specs.declared.tree.TType.TheVariants.{Integer, Boolean, Char, Named}
use Rattle.aos_typed.specs.Conditions.{IsLinked, conditions}
use Rattle.aos_typed.specs.Methods.{method_number, method_in, body_type, initializer, is_active}
use Rattle.aos_typed.specs.Numbers.{body_number}
use Rattle.aos_typed.specs.Program.{Rows, Procedure, Place, Arguments, Expr, Read, Stat, Assign, Copy, PutText, If, Case, While, Repeat, Loop, Exit, For, Block, Await, Assert, Halt, Change, Perform, Return, New, Make, With, WithRecord, Out, Stats, Arms, Otherwise, Arm, Cases, NoElse, Else, OfLabels, Call, Open, Char as CharCall, Int as IntCall, String, Ln, Program}
use Rattle.aos_typed.specs.Routines.{has_self, self_type, Routine, result_of}
use Rattle.aos_typed.specs.Value.{Value, number_of, is_true, given, binary_sort}
use Rattle.aos_typed.specs.WellTyped.{IsPlaceOf, IsOf, AreRows, IsInitialized, IsReturn, IsCall, IsStatement, AreArms, AreLengthsOf, amount_type}
use Rattle.aos_typed.specs.Meaning.{Found, Here, Doing, Item, Do, Rounds, Round, Until, Region, End, Gives as GivesItem, After, Into, Returns, items_of, block_items, is_in, place_of, rows_of, value_of, values_of, arguments_of, called, changed, case_of, arms_of, out_of, stat_of, item_of, initialized, carried_out, until, next_value}
use Rattle.aos_typed.specs.Source.{arguments_in}
use Rattle.aos_sim.proofs.Changes.{includes_itself}
use Rattle.aos_uses.specs.declared.uses.Use.{Use}
use Rattle.aos_uses.specs.declared.uses.Use.TheVariants as used
use Rattle.aos_uses.specs.declared.uses.Variable.{Variable}
use Rattle.aos_uses.specs.Guarded.{Spares, IsGuarded, Each}
use Rattle.aos_uses.specs.Uses.{arms_uses, arguments_uses, cases_uses, expr_uses, initial_number, makes, out_uses, place_uses, rows_target, rows_uses, stat_uses, stats_uses, target, values_uses, written}
use Rattle.aos_stability.proofs.Law.{Law, law_bind, law_more, value_law, place_law, rows_law, arguments_law, call_law, AreSpared, IsWritten, RowsAt, Gives, given_law, handed_to, agree_same, method_stands, at_number, flags_of}
use Rattle.aos_stability.specs.Locations.{IsAt, IsFree, Serves, AreFreeFor}
use Rattle.aos_escape.specs.Items.{item_uses, IsText, AreFine}
use Rattle.aos_handover.specs.Items.{ItemsGive, AfterGives}
use Rattle.aos_handover.proofs.Items.{text_gives, items_give, block_gives}
use Rattle.aos_escape.proofs.Items.{part}
use Rattle.aos_sim.proofs.Does.{IsSelf, HasTypes}
use Rattle.aos_base.specs.Rooted.{Made}
use Rattle.aos_typed.specs.Location.{Location}
use Rattle.aos_sim.proofs.Routines.{object_there}

module _ (p : Program) (typed : HasTypes p) (made : ℕ → Option Made) (n : ℕ) (r : Routine) where
  -- a result is of the routine's type
  abbrev pub ResultServes : Option Value → Type 0
  ResultServes None = (t : TType) → result_of r.own ≡ Some t → ⊥
  ResultServes (Some v) = (t : TType) → result_of r.own ≡ Some t → Serves p made t v

  abbrev pub ItemsServe : List Item → Type 0
  ItemsServe is = ItemsGive ResultServes is

  abbrev pub AfterServes : After → Type 0
  AfterServes a = AfterGives ResultServes a

  pub text_serves : (ss : Stats) (is : List Item) → ItemsServe is → ItemsServe (items_of ss ++ is)
  text_serves ss is h = text_gives ResultServes ss is h

  pub items_serve : (ss : Stats) → ItemsServe (items_of ss)
  items_serve ss = items_give ResultServes ss

  pub block_serves : (exclusive : Bool) (ss : Stats) → ItemsServe (block_items exclusive ss)
  block_serves exclusive ss = block_gives ResultServes exclusive ss

  -- uses that are fine are spared
  pub spared : (us : List Use) → AreFine p n r us → Each (λ u. (v : Variable) → IsGuarded p v → Spares p v n r u) us
  spared [] h = tt
  spared (u ∷ us) h = (let f = h.0 in f.spares, spared us h.1)

  module _ (here : Here) (is_self_of : IsSelf p made (self_type r.own) here.self) (x : Bool) where
    abbrev S : Use → Type 0
    S u = (v : Variable) → IsGuarded p v → Spares p v n r u

    abbrev own : Option Procedure
    own = r.own

    abbrev Uses : List Use → Type 0
    Uses us = AreSpared p typed made n r here is_self_of x S (λ u h. h) us

    abbrev Ok : Doing After → Type 0
    Ok d = Law p typed made n r here is_self_of x S (λ u h. h) AfterServes d

    value_then : (e : Expr) (t : TType) (k : Value → Doing After) → IsOf p own e t → Uses (expr_uses p e) → ((v : Value) → Serves p made t v → Ok (k v)) → Ok (bind (value_of p here e) k)
    value_then e t k h us f = law_bind p typed made n r here is_self_of x S (λ u h. h) (Serves p made t) AfterServes (value_of p here e) k (value_law p typed made n r here is_self_of x S (λ u h. h) e t h us) f

    place_then : (q : Place) (t : TType) (k : Location → Doing After) → IsPlaceOf p own q t → Uses (place_uses p q) → ((s : Location) → IsAt p made own here.self s (target p q) → Ok (k s)) → Ok (bind (place_of p here q) k)
    place_then q t k h us f = law_bind p typed made n r here is_self_of x S (λ u h. h) (λ s. IsAt p made own here.self s (target p q)) AfterServes (place_of p here q) k (place_law p typed made n r here is_self_of x S (λ u h. h) q t h us) f

    rows_then : (a : Rows) (k : Found → Doing After) → AreRows p own a 1 Char → Uses (rows_uses p a) → ((y : Found) → IsAt p made own here.self y.place (rows_target p a) → Ok (k y)) → Ok (bind (rows_of p here a) k)
    rows_then a k h us f =
        law_bind p typed made n r here is_self_of x S (λ u h. h) (RowsAt p typed made n r here is_self_of x S (λ u h. h) (rows_target p a) 1) AfterServes (rows_of p here a) k (rows_law p typed made n r here is_self_of x S (λ u h. h) a 1 Char h us) (λ y at. f y at.0)

    arms_law : (arms : Arms) → Uses (arms_uses p x arms) → AreArms p own arms → Ok (arms_of p here arms)
    arms_law (Otherwise ss) us k = items_serve ss
    arms_law (Arm e ss arms) us k =
        let q = part S (expr_uses p e ++ stats_uses p x ss) (arms_uses p x arms) us in
        let j = part S (expr_uses p e) (stats_uses p x ss) q.0 in
        let others = arms_law arms q.1 k.2 in
        value_then e Boolean _ k.0 j.0 (λ v c. by (is_true v) others)
      where
        by : (b : Bool) → Ok (arms_of p here arms) → Ok (if b then Val (Into (items_of ss)) else arms_of p here arms)
        by true more = items_serve ss
        by false more = more

    case_law : (z : _) (cases : Cases) → Ok (case_of z cases)
    case_law z NoElse = tt
    case_law z (Else ss) = items_serve ss
    case_law z (OfLabels rs ss cases) = by (list_any (is_in z) rs) (case_law z cases)
      where
        by : (b : Bool) → Ok (case_of z cases) → Ok (if b then Val (Into (items_of ss)) else case_of z cases)
        by true more = items_serve ss
        by false more = more

    out_law : (call : Call) → IsCall p own call → Uses (out_uses p call) → Ok (out_of p here call)
    out_law Open k us = (tt, λ v c. tt)
    out_law (CharCall e) k us = value_then e Char _ k us.1 (λ y c. (tt, λ v d. tt))
    out_law (IntCall e m) k us =
        let q = part S (used.Calls ∷ expr_uses p e) (expr_uses p m) us in
        value_then e (Integer W64) _ k.0 q.0.1 (λ y c. value_then m (Integer W64) _ k.1 q.1 (λ z d. (tt, λ v i. tt)))
    out_law (String a) k us =
        let q = part S (used.Calls ∷ used.Reads (rows_target p a) ∷ []) (rows_uses p a) us in
        rows_then a _ k q.1 (λ y at. (tt, λ v d. tt))
    out_law Ln k us = (tt, λ v c. tt)

    values_law : (es : List Expr) → AreLengthsOf p own es → Uses (values_uses p es) → Law p typed made n r here is_self_of x S (λ u h. h) (λ vs. Unit {0}) (values_of p here es)
    values_law [] k us = tt
    values_law (e ∷ es) k us =
        let q = part S (expr_uses p e) (values_uses p es) us in
        law_bind p typed made n r here is_self_of x S (λ u h. h) (Serves p made (Integer W64)) (λ vs. Unit {0}) (value_of p here e) _ (value_law p typed made n r here is_self_of x S (λ u h. h) e (Integer W64) k.0 q.0) (λ v c.
        law_bind p typed made n r here is_self_of x S (λ u h. h) (λ vs. Unit {0}) (λ vs. Unit {0}) (values_of p here es) _ (values_law es k.1 q.1) (λ vs d. tt))

    changed_law : (c : Changing) (v m : Value) → Law p typed made n r here is_self_of x S (λ u h. h) (IsFree p made) (changed c v m)
    changed_law c v m = law_more p typed made n r here is_self_of x S (λ u h. h) (Serves p made Boolean) (IsFree p made) (changed c v m) (by c) (λ y s. s.free)
      where
        of : (op : Operator) (v m : Value) → Law p typed made n r here is_self_of x S (λ u h. h) (Serves p made Boolean) (given (binary_sort op) (binary_of op (number_of v) (number_of m)))
        of op v m = given_law p typed made n r here is_self_of x S (λ u h. h) Boolean (binary_sort op) (binary_of op (number_of v) (number_of m))

        by : (c : Changing) → Law p typed made n r here is_self_of x S (λ u h. h) (Serves p made Boolean) (changed c v m)
        by (change.Add w) = of (operator.Add w) v m
        by (change.Subtract w) = of (operator.Sub w) v m
        by change.Include =
            law_bind p typed made n r here is_self_of x S (λ u h. h) (Serves p made Boolean) (Serves p made Boolean) (given (binary_sort operator.SetSpan) (binary_of operator.SetSpan (number_of m) (number_of m)))
            (λ y. given (binary_sort operator.Union) (binary_of operator.Union (number_of v) (number_of y))) (of operator.SetSpan m m) (λ y d. of operator.Union v y)
        by change.Exclude =
            law_bind p typed made n r here is_self_of x S (λ u h. h) (Serves p made Boolean) (Serves p made Boolean) (given (binary_sort operator.SetSpan) (binary_of operator.SetSpan (number_of m) (number_of m)))
            (λ y. given (binary_sort operator.Minus) (binary_of operator.Minus (number_of v) (number_of y))) (of operator.SetSpan m m) (λ y d. of operator.Minus v y)

    -- NEW

    carried_law : (t : ℕ) (o : Value) (body : Option ℕ) → body_type p t ≡ body → Ok (bind (carried_out p body o) (λ y. Val (Into [])))
    carried_law t o None e = tt
    carried_law t o (Some b) e = by (is_active p b)
      where
        by : (active : Bool) → Ok (bind (if active then ask (Starts o) else ask (Calls ByCreator (body_number p b) (o ∷ []))) (λ y. Val (Into [])))
        by true = (tt, λ v d. tt)
        by false =
            let h = typed.methods.bodies t b e in (
              handed_to p typed made n r here is_self_of x S (λ u h. h) (body_number p b) h.object.home h.object.body h.object.body (o ∷ []) (arguments_in (has_self (Some h.object.body)) (o ∷ [])) (object_there p b h.object h.there) refl
                  (agree_same p typed made n r here is_self_of x S (λ u h. h) h.object.body.parameters) (subst (λ ps. AreFreeFor p made ps (arguments_in (has_self (Some h.object.body)) (o ∷ []))) (sym h.body.plain) tt),
              λ v d. tt,
            )

    stored_law : (s : Location) (t : ℕ) (o : Value) → IsWritten p typed made n r here is_self_of x S (λ u h. h) s → IsFree p made o → Ok (bind (ask (Stores s o)) (λ y. bind (carried_out p (body_type p t) o) (λ z. Val (Into []))))
    stored_law s t o written free = ((written, free), λ v d. carried_law t o (body_type p t) refl)

    initialized_law : (t : ℕ) (s : Location) (slot : Option ℕ) (vs : List Value) (o : Value) → IsWritten p typed made n r here is_self_of x S (λ u h. h) s → IsFree p made o → ((k : ℕ) → slot ≡ Some k → (q : Procedure) × (method_in p t k ≡ Some q) × AreFreeFor p made q.parameters vs) →
        Ok (bind (initialized p slot t o vs) (λ y. bind (ask (Stores s o)) (λ z. bind (carried_out p (body_type p t) o) (λ u. Val (Into [])))))
    initialized_law t s None vs o written free args = stored_law s t o written free
    initialized_law t s (Some k) vs o written free args =
        let a = args k refl in
        let m = method_stands p typed made n r here is_self_of x S (λ u h. h) t k a.0 a.1 in (
          handed_to p typed made n r here is_self_of x S (λ u h. h) (method_number p t k) m.0 a.0 a.0 (o ∷ vs) vs m.1 (ap (λ b. arguments_in b (o ∷ vs)) m.2) (agree_same p typed made n r here is_self_of x S (λ u h. h) a.0.parameters) a.2,
          λ v d. stored_law s t o written free,
        )

    -- what an initializer is handed
    abbrev Handed : Option ℕ → ℕ → List Value → Type 0
    Handed slot t vs = (k : ℕ) → slot ≡ Some k → (q : Procedure) × (method_in p t k ≡ Some q) × AreFreeFor p made q.parameters vs

    new_law : (t : ℕ) (slot : Option ℕ) (more : Arguments) → IsInitialized p own slot t more → Uses (arguments_uses p (initial_number p slot t) 0 more) → Law p typed made n r here is_self_of x S (λ u h. h) (Handed slot t) (arguments_of p here more)
    new_law t None more k us = subst (λ z. Law p typed made n r here is_self_of x S (λ u h. h) (Handed None t) (arguments_of p here z)) (sym k) (λ j e. absurd (cc e))
    new_law t (Some j) more k us =
        let q = k.0 in
        let m = method_stands p typed made n r here is_self_of x S (λ u h. h) t j q k.1 in
        let flags = flags_of p typed made n r here is_self_of x S (λ u h. h) (method_number p t j) q.parameters (at_number p typed made n r here is_self_of x S (λ u h. h) (method_number p t j) m.0 q m.1) in
        law_more p typed made n r here is_self_of x S (λ u h. h) (AreFreeFor p made q.parameters) (Handed (Some j) t) (arguments_of p here more)
        (arguments_law p typed made n r here is_self_of x S (λ u h. h) more q.parameters (method_number p t j) 0 k.3 flags us)
        (λ vs f i e. (q, (let same : j ≡ i = cc e in subst (λ z. method_in p t z ≡ Some q) same k.1), f))

    stat_law : (s : Stat) → Uses (stat_uses p x s) → IsStatement p own s → IsLinked (conditions p) r.home own s → Ok (stat_of p here s)
    stat_law (Assign at t q e) us k l =
        let j = part S (written p x q) (expr_uses p e) us in
        place_then q t _ k.0 j.0.1 (λ s a. value_then e t _ k.2 j.1 (λ v c. (((target p q, a, j.0.0), c.free), λ y d. tt)))
    stat_law (Copy at t q b) us k l =
        let j = part S (written p x q) (used.Reads (target p b) ∷ place_uses p b) us in
        place_then q t _ k.0 j.0.1 (λ s a. place_then b k.1.0 _ k.1.1 j.1.1 (λ y c. ((target p q, a, j.0.0), λ v d. tt)))
    stat_law (PutText at strict a b) us k l =
        let j = part S (used.Writes (rows_target p b) x ∷ rows_uses p b) (used.Reads (rows_target p a) ∷ rows_uses p a) us in
        rows_then a _ k.0 j.1.1 (λ y c. rows_then b _ k.1 j.0.1 (λ z d. ((rows_target p b, d, j.0.0), λ v i. tt)))
    stat_law (If at arms) us k l = arms_law arms us k
    stat_law (Case at e cases) us k l =
        let j = part S (expr_uses p e) (cases_uses p x cases) us in
        elim k.0 [
          | inl i ↦ value_then e (Integer W64) _ i j.0 (λ v c. case_law (number_of v) cases)
          | inr i ↦ value_then e Char _ i j.0 (λ v c. case_law (number_of v) cases)
        ]
    stat_law (While at e body) us k l =
        let j = part S (expr_uses p e) (stats_uses p x body) us in value_then e Boolean _ k.0 j.0 (λ v c. by (is_true v))
      where
        by : (b : Bool) → ItemsServe (if b then items_of body ++ Do (While at e body) ∷ [] else [])
        by true = text_serves body (Do (While at e body) ∷ []) tt
        by false = tt
    stat_law (Repeat at body e) us k l = text_serves body (Until at body e ∷ []) tt
    stat_law (Loop at body) us k l = text_serves body (Round (Loop at body) ∷ []) tt
    stat_law (Exit at) us k l = tt
    stat_law (For at w q from to step body) us k l =
        let i = part S (written p x q ++ (expr_uses p from ++ expr_uses p to)) (stats_uses p x body) us in
        let j = part S (written p x q) (expr_uses p from ++ expr_uses p to) i.0 in
        let m = part S (expr_uses p from) (expr_uses p to) j.1 in
        value_then to (Integer w) _ k.3 m.1 (λ v c. tt)
    stat_law (Block at exclusive body) us k l = block_serves exclusive body
    stat_law (Await at m e) us k l = ((record { home = r.home; own = own; at = at; expression = e }, l, refl, refl), λ v d. tt)
    stat_law (Assert at e code) us k l = value_then e Boolean _ k.0 us (λ v c. by (is_true v))
      where
        by : (b : Bool) → Ok (if b then Val (Into []) else Traps 7 code)
        by true = tt
        by false = tt
    stat_law (Halt at code) us k l = tt
    stat_law (Change at c q e) us k l =
        let j = part S (written p x q) (expr_uses p e) us in
        place_then q _ _ k.0 j.0.1 (λ s a. value_then e (amount_type c) _ k.1 j.1 (λ m d. (
          (target p q, a, λ v' g. tt),
          λ v i.
              law_bind p typed made n r here is_self_of x S (λ u h. h) (IsFree p made) AfterServes (changed c v m) _ (changed_law c v m) (λ y f. (((target p q, a, j.0.0), f), λ z g. tt)),
        )))
    stat_law (Perform at c more) us k l = law_bind p typed made n r here is_self_of x S (λ u h. h) (λ v. Gives p typed made n r here is_self_of x S (λ u h. h) k.0 v) AfterServes (called p here c more) _ (call_law p typed made n r here is_self_of x S (λ u h. h) c more k.0 k.1 k.3 us) (λ v d. tt)
    stat_law (Return at None) us k l = by (result_of own) refl k
      where
        by : (t : Option TType) → result_of own ≡ t → IsReturn p own None t → (u : TType) → result_of own ≡ Some u → ⊥
        by None same j u f = let no : None ≡ Some u = sym same ∙ f in cc no
        by (Some t) same j u f = j
    stat_law (Return at (Some e)) us k l = by (result_of own) refl k
      where
        by : (t : Option TType) → result_of own ≡ t → IsReturn p own (Some e) t → Ok (bind (value_of p here e) (λ v. Val (Returns (Some v))))
        by None same j = absurd j
        by (Some t) same j = value_then e t _ j us (λ v c u f. let both : Some t ≡ Some u = sym same ∙ f in let is : t ≡ u = cc both in subst (λ z. Serves p made z v) is c)
    stat_law (New at q t more) us k l =
        let i = part S (written p x q ++ makes p t) (arguments_uses p (initial_number p (initializer p t) t) 0 more) us in
        let j = part S (written p x q) (makes p t) i.0 in
        place_then q (Named t) _ k.0 j.0.1 (λ s a.
        law_bind p typed made n r here is_self_of x S (λ u h. h) (Handed (initializer p t) t) AfterServes (arguments_of p here more) _ (new_law t (initializer p t) more k.2 i.1)
        (λ vs f. (tt, λ o free. initialized_law t s (initializer p t) vs o (target p q, a, j.0.0) free f)))
    stat_law (Make at q t ns) us k l =
        let j = part S (written p x q) (values_uses p ns) us in
        place_then q k.0.0 _ k.0.1 j.0.1 (λ s a.
        law_bind p typed made n r here is_self_of x S (λ u h. h) (λ vs. Unit {0}) AfterServes (values_of p here ns) _ (values_law ns k.3 j.1) (λ vs c. (tt, λ o free. (((target p q, a, j.0.0), free), λ v d. tt))))
    stat_law (With at e body) us k l =
        let j = part S (expr_uses p e) (stats_uses p x body) us in value_then e k.0.0 _ k.0.1 j.0 (λ v c. items_serve body)
    stat_law (WithRecord at b body) us k l =
        let j = part S (place_uses p b) (stats_uses p x body) us in place_then b k.0.0 _ k.0.1 j.0 (λ v c. items_serve body)
    stat_law (Out at call) us k l = out_law call k us

    pub item_law : (i : Item) → Uses (item_uses p x i) → IsText p r i → ItemsServe (i ∷ []) → Ok (item_of p here i)
    item_law (Do s) us k is = stat_law s us k.0 k.1
    item_law (Rounds at w q last step b) us k is =
        let j = part S (written p x q) (stats_uses p x b) us in
        value_then (Read (Integer w) q) (Integer w) _ (k.0.0, refl, inl (includes_itself w)) ((λ v g. tt), j.0.1) (λ v c. by (holds (until step) (number_of v) last))
      where
        by : (d : Bool) → ItemsServe (if d then items_of b ++ Do (next_value at w q step) ∷ Rounds at w q last step b ∷ [] else [])
        by true = text_serves b (Do (next_value at w q step) ∷ Rounds at w q last step b ∷ []) tt
        by false = tt
    item_law (Round s) us k is = stat_law s us k.0 k.1
    item_law (Until at b e) us k is = value_then e Boolean _ k.0.1 (part S (expr_uses p e) (stats_uses p x b) us).0 (λ v c. by (is_true v))
      where
        by : (d : Bool) → ItemsServe (if d then [] else Do (Repeat at b e) ∷ [])
        by true = tt
        by false = tt
    item_law (Region ss) us k is = tt
    item_law End us k is = tt
    item_law (GivesItem v) us k is = is
