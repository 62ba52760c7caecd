-- To answer a designator's or an expression's reads is to replace them by values.
use Rattle.std.proofs.Common.{◌≡◌, ℕ, zero, suc, Option, Some, None, List, [], ◌∷◌, ◌++◌, map, Bool, true, false, refl, sym, ap, ◌∙◌}
use Rattle.std.specs.Prelude.{pos, unsigned_abs, ◌==◌, if◌then◌else◌}
use Rattle.aos_base.specs.declared.number.Relation.{Relation}
use Rattle.aos_base.specs.declared.operator.Unary.{Unary as UnaryOperator}
use Rattle.aos_base.specs.declared.operator.Unary.TheVariants.{Range}
use Rattle.aos_base.specs.declared.operator.Binary.{Binary as BinaryOperator}
use Rattle.aos_base.specs.declared.operator.Binary.TheVariants.{SetSpan}
use Rattle.aos_base.specs.declared.operator.Given.{Given}
use Rattle.aos_base.specs.declared.operator.Given.TheVariants.{Number, Trap, Undefined}
use Rattle.aos_base.specs.Operators.{natural, unary as unary_of, binary as binary_of}
use Rattle.aos_base.specs.Question.{Tree, Val, Asks, Traps, bind, feed, ask, Reads, Stores, Copies, PutsText, ComparesTexts, Calls, Ends, Makes, Starts, Enters, Leaves, Awaits, PutsInt, PutsChar, PutsString, PutsNothing, PutsLn, Places, Lengths, Opens, Sizes, Tests, ByName, ByType, ByValue, Upward}
use Rattle.aos_base.specs.Rooted.{Made}
use Rattle.aos_types.specs.Content.{Content}
use Rattle.aos_types.specs.Extension.{comes_to}
use Rattle.aos_typed.specs.Methods.{method_number}
use Rattle.aos_typed.specs.Numbers.{id_of, id_of_made, procedure_number}
use Rattle.aos_typed.specs.Program.{Place, ModuleVar, Local, Passed, Field, Index, Of, Deref, Typed, Guarded, Rows, Known, Opened, Row, Spread, Longer, Arguments, NoMore, Scalar, Whole, Opening, Plain, Dispatched, Upper, Expr, Lit, SelfRef, Read, Unary, Binary, And, Or, Element, Ord, Chr, CompareTexts, Len, LenBehind, Function, Same, Is, IsRecord, Guard, Had, Program, Callee, Through, ProcedureOf, MethodOf, SameProcedure}
use Rattle.aos_typed.specs.Location.{Location}
use Rattle.aos_typed.specs.Value.{Value, Int, Flag, Object, Place as PlaceValue, number_of, Sort, Character, given, unary_sort, binary_sort, unary, binary, element, ord, chr, is_true, Callable}
use Rattle.aos_typed.specs.Meaning.{Here, Question, Doing, Found, found, After, Into, place_in, own_place, part_of, field_of, dispatched, sent, element_of, row_at, length_at, text_length, object_in, by_number, dereferenced, sizes_from, spread, is_instance, guarded, has_type, record_guarded, lengths_from, place_of, rows_of, arguments_of, value_of, applied, are_one, bound, bound_to, instance_in, on_instance, procedure_in}
use Rattle.aos_typed.specs.Source.{known, length_in, object_place, has_type_in}
use Rattle.aos_sim.specs.Rewriting.{is_asking, are_asked, settled, with_first_index, with_first_row, with_first_argument, with_first, rewritten_place, rewritten, DesignatorRewrites, ExpressionRewrites, AssignedRewrites, AssignmentRewrites, StatementRewrites}

module _ {Q V A : Type 0} where
  -- the first of several answers
  first_fed : (v : V) (vs : List V) (t : Tree Q V A) → is_asking t ≡ true → feed (v ∷ vs) t ≡ feed vs (feed (v ∷ []) t)
  first_fed v vs (Val a) asks = absurd (cc asks)
  first_fed v vs (Asks q f) asks = refl
  first_fed v vs (Traps n c) asks = absurd (cc asks)

  asks_now : (v : V) (vs : List V) (t : Tree Q V A) → are_asked (v ∷ vs) t ≡ true → is_asking t ≡ true
  asks_now v vs (Val a) asked = absurd (cc asked)
  asks_now v vs (Asks q f) asked = refl
  asks_now v vs (Traps n c) asked = absurd (cc asked)

  asks_then : (v : V) (vs : List V) (t : Tree Q V A) → are_asked (v ∷ vs) t ≡ true → are_asked vs (feed (v ∷ []) t) ≡ true
  asks_then v vs (Val a) asked = absurd (cc asked)
  asks_then v vs (Asks q f) asked = asked
  asks_then v vs (Traps n c) asked = absurd (cc asked)

module _ {Q V A B : Type 0} where
  asks_before : (t : Tree Q V A) (k : A → Tree Q V B) → is_asking t ≡ true → is_asking (bind t k) ≡ true
  asks_before (Val a) k asks = absurd (cc asks)
  asks_before (Asks q f) k asks = refl
  asks_before (Traps n c) k asks = absurd (cc asks)

  -- what goes on without a question leaves the first piece to ask
  asks_first : (t : Tree Q V A) (k : A → Tree Q V B) → ((a : A) → is_asking (k a) ≡ false) → is_asking (bind t k) ≡ true → is_asking t ≡ true
  asks_first (Val a) k silent asks = absurd (let h = silent a in cc (h, asks))
  asks_first (Asks q f) k silent asks = refl
  asks_first (Traps n c) k silent asks = absurd (cc asks)

  -- an answer goes to the first piece, where that asks
  fed_before : (v : V) (t : Tree Q V A) (k : A → Tree Q V B) → is_asking t ≡ true → feed (v ∷ []) (bind t k) ≡ bind (feed (v ∷ []) t) k
  fed_before v (Val a) k asks = absurd (cc asks)
  fed_before v (Asks q f) k asks = refl
  fed_before v (Traps n c) k asks = absurd (cc asks)

  -- what asks behind what doesn't is behind a value
  asks_behind : (t : Tree Q V A) (k : A → Tree Q V B) → is_asking t ≡ false → is_asking (bind t k) ≡ true → (a : A) × (t ≡ Val a) × (is_asking (k a) ≡ true)
  asks_behind (Val a) k none asks = (a, refl, asks)
  asks_behind (Asks q f) k none asks = absurd (cc none)
  asks_behind (Traps n c) k none asks = absurd (cc asks)

  -- nothing is asked by pieces of which none asks
  none_asks : (t : Tree Q V A) (k : A → Tree Q V B) → is_asking t ≡ false → ((a : A) → is_asking (k a) ≡ false) → is_asking (bind t k) ≡ false
  none_asks (Val a) k none silent = silent a
  none_asks (Asks q f) k none silent = absurd (cc none)
  none_asks (Traps n c) k none silent = refl

-- Operators ask nothing

given_silent : (s : Sort) (g : Given) → is_asking {Q = Question} {V = Value} (given s g) ≡ false
given_silent s (Number z) = refl
given_silent s (Trap n) = refl
given_silent s Undefined = refl

abbrev on_operand : UnaryOperator → Value → Doing Value
on_operand op x = unary op x

abbrev on_operands : BinaryOperator → Value → Value → Doing Value
on_operands op x y = binary op x y

unary_silent : (op : UnaryOperator) (x : Value) → is_asking (on_operand op x) ≡ false
unary_silent op x = given_silent (unary_sort op) (unary_of op (number_of x))

binary_silent : (op : BinaryOperator) (x y : Value) → is_asking (on_operands op x y) ≡ false
binary_silent op x y = given_silent (binary_sort op) (binary_of op (number_of x) (number_of y))

chr_silent : (x : Value) → is_asking {Q = Question} {V = Value} (chr x) ≡ false
chr_silent x = given_silent Character (unary_of (Range (pos 0) (pos 255)) (number_of x))

element_silent : (n : ℕ) (x : Value) (s : Location) → is_asking (element_of n x s) ≡ false
element_silent n x s = by (natural n (number_of x)) refl
  where
    by : (o : Option ℕ) → natural n (number_of x) ≡ o → is_asking (element_of n x s) ≡ false
    by None e = rw e refl
    by (Some i) e = rw e refl

row_silent : (x : Found) (v : Value) → is_asking (row_at x v) ≡ false
row_silent x v = by x.lengths
  where
    by : (ns : List Value) → is_asking (row_at (record { place = x.place; lengths = ns }) v) ≡ false
    by [] = refl
    by (n ∷ ns) =
        let i = unsigned_abs (number_of n) in
        none_asks (element_of i v x.place) (λ s. found s ns) (element_silent i v x.place) (λ s. refl)

-- What is left where all is known that a frame's own variables and what objects were made as tell.

module _ (p : Program) (made : ℕ → Option Made) (c : Content Value) where
  abbrev S : {A : Type 0} → Doing A → Doing A
  S = settled p made c

  settled_bind : {A B : Type 0} (t : Doing A) (k : A → Doing B) → settled p made c (bind t k) ≡ bind (settled p made c t) (λ a. settled p made c (k a))
  settled_bind (Val a) k = refl
  settled_bind (Traps n code) k = refl
  settled_bind (Asks (Places s) f) k = settled_bind (f (known c s)) k
  settled_bind (Asks (Lengths s) f) k = settled_bind (f (known c s)) k
  settled_bind (Asks (Opens v) f) k = settled_bind (f (object_place (object_in v) (made (object_in v)))) k
  settled_bind (Asks (Sizes v d) f) k = settled_bind (f (length_in d (made (object_in v)))) k
  settled_bind (Asks (Tests v t) f) k = settled_bind (f (has_type_in p.types made c t (made (object_in v)))) k
  settled_bind (Asks (Reads t s) f) k = ap (Asks (Reads t s)) (λ i v. settled_bind (f v) k i)
  settled_bind (Asks (Stores s x) f) k = ap (Asks (Stores s x)) (λ i v. settled_bind (f v) k i)
  settled_bind (Asks (Copies t a b) f) k = ap (Asks (Copies t a b)) (λ i v. settled_bind (f v) k i)
  settled_bind (Asks (PutsText strict a n b m) f) k = ap (Asks (PutsText strict a n b m)) (λ i v. settled_bind (f v) k i)
  settled_bind (Asks (ComparesTexts r a n b m) f) k = ap (Asks (ComparesTexts r a n b m)) (λ i v. settled_bind (f v) k i)
  settled_bind (Asks (Calls how q vs) f) k = ap (Asks (Calls how q vs)) (λ i v. settled_bind (f v) k i)
  settled_bind (Asks (Ends r) f) k = ap (Asks (Ends r)) (λ i v. settled_bind (f v) k i)
  settled_bind (Asks (Makes t vs) f) k = ap (Asks (Makes t vs)) (λ i v. settled_bind (f v) k i)
  settled_bind (Asks (Starts o) f) k = ap (Asks (Starts o)) (λ i v. settled_bind (f v) k i)
  settled_bind (Asks Enters f) k = ap (Asks Enters) (λ i v. settled_bind (f v) k i)
  settled_bind (Asks Leaves f) k = ap (Asks Leaves) (λ i v. settled_bind (f v) k i)
  settled_bind (Asks (Awaits n) f) k = ap (Asks (Awaits n)) (λ i v. settled_bind (f v) k i)
  settled_bind (Asks (PutsInt x n) f) k = ap (Asks (PutsInt x n)) (λ i v. settled_bind (f v) k i)
  settled_bind (Asks (PutsChar x) f) k = ap (Asks (PutsChar x)) (λ i v. settled_bind (f v) k i)
  settled_bind (Asks (PutsString s n) f) k = ap (Asks (PutsString s n)) (λ i v. settled_bind (f v) k i)
  settled_bind (Asks PutsNothing f) k = ap (Asks PutsNothing) (λ i v. settled_bind (f v) k i)
  settled_bind (Asks PutsLn f) k = ap (Asks PutsLn) (λ i v. settled_bind (f v) k i)

  settled_silent : {A : Type 0} (t : Doing A) → is_asking t ≡ false → is_asking (settled p made c t) ≡ false
  settled_silent (Val a) none = refl
  settled_silent (Asks q f) none = absurd (cc none)
  settled_silent (Traps n code) none = refl

  -- One answer

  -- what is meant, of which this answer makes another
  abbrev Turns : {A : Type 0} → Value → Doing A → Doing A → Type 0
  Turns v t t' = is_asking (settled p made c t) ≡ true → feed (v ∷ []) (settled p made c t) ≡ settled p made c t'

  -- where the first of two pieces asks, it has the answer
  on_first : {A B : Type 0} (v : Value) (t t' : Doing A) (k : A → Doing B) → Turns v t t' → is_asking (settled p made c t) ≡ true → feed (v ∷ []) (settled p made c (bind t k)) ≡ settled p made c (bind t' k)
  on_first v t t' k one first =
      ap (feed (v ∷ [])) (settled_bind t k) ∙ fed_before v (S t) (λ a. S (k a)) first ∙ ap (λ r. bind r (λ a. S (k a))) (one first) ∙ sym (settled_bind t' k)

  -- an operand, and what goes on with its value without a question that stays
  on_calm : {A B : Type 0} (v : Value) (t t' : Doing A) (k : A → Doing B) → ((x : A) → is_asking (settled p made c (k x)) ≡ false) → Turns v t t' → Turns v (bind t k) (bind t' k)
  on_calm v t t' k silent one asks =
      on_first v t t' k one (asks_first (S t) (λ a. S (k a)) silent (ap is_asking (sym (settled_bind t k)) ∙ asks))

  on_one : {A B : Type 0} (v : Value) (t t' : Doing A) (k : A → Doing B) → ((x : A) → is_asking (k x) ≡ false) → Turns v t t' → Turns v (bind t k) (bind t' k)
  on_one v t t' k silent one asks = on_calm v t t' k (λ x. settled_silent (k x) (silent x)) one asks

  -- two operands, where the second one's answer makes this of what is done behind the value of the first
  module _ {A B X : Type 0} (of : X → Doing B) (v : Value) (t t' : Doing A) (k : A → Doing B) (x y : X) where
    on_two : of x ≡ bind t' k → Turns v t t' → ((a : A) → settled p made c t ≡ Val a → is_asking (settled p made c (k a)) ≡ true → feed (v ∷ []) (settled p made c (k a)) ≡ settled p made c (of y)) → (b : Bool) → is_asking (settled p made c t) ≡ b → Turns v (bind t k) (of (if b then x else y))
    on_two is_x one other true first asks = on_first v t t' k one first ∙ ap S (sym is_x)
    on_two is_x one other false none asks =
        let e = settled_bind t k in
        let a = asks_behind (S t) (λ a. S (k a)) none (ap is_asking (sym e) ∙ asks) in
        ap (feed (v ∷ [])) e ∙ ap (λ r. feed (v ∷ []) (bind r (λ a. S (k a)))) a.1 ∙ other a.0 a.1 a.2

  -- what goes on behind a value
  behind_value : {A B : Type 0} (t : Doing A) (k : A → Doing B) (a : A) → settled p made c t ≡ Val a → settled p made c (k a) ≡ settled p made c (bind t k)
  behind_value t k a e = sym (settled_bind t k ∙ ap (λ r. bind r (λ a. S (k a))) e)

  -- two operands of an operator
  module _ {A B X : Type 0} (of : X → Doing B) (v : Value) (t t' : Doing A) (k k' : A → Doing B) (x y : X) where
    on_both : of x ≡ bind t' k → of y ≡ bind t k' → Turns v t t' → ((a : A) → Turns v (k a) (k' a)) → Turns v (bind t k) (of (if is_asking (settled p made c t) then x else y))
    on_both is_x is_y one other =
        on_two of v t t' k x y is_x one (λ a e asks. other a asks ∙ behind_value t k' a e ∙ ap S (sym is_y)) (is_asking (S t)) refl

  -- a question that stands last is answered by a value
  module _ {A X : Type 0} (of : X → Doing Value) (v : Value) (t t' : Doing A) (q : A → Question) (x y : X) where
    on_last : ((a : A) → settled p made c (ask (q a)) ≡ ask (q a)) → of x ≡ bind t' (λ a. ask (q a)) → of y ≡ Val v → Turns v t t' → Turns v (bind t (λ a. ask (q a))) (of (if is_asking (settled p made c t) then x else y))
    on_last visible is_x is_y one =
        on_two of v t t' (λ a. ask (q a)) x y is_x one (λ a e asks. ap (feed (v ∷ [])) (visible a) ∙ ap S (sym is_y)) (is_asking (S t)) refl

  -- where the first operand of & is TRUE the second one tells, and where that of OR is FALSE
  if_true : (v : Value) (t t' : Doing Value) (b : Bool) → Turns v t t' → Turns v (if b then t else Val (Flag false)) (if b then t' else Val (Flag false))
  if_true v t t' true one asks = one asks
  if_true v t t' false one asks = absurd (cc asks)

  if_false : (v : Value) (t t' : Doing Value) (b : Bool) → Turns v t t' → Turns v (if b then Val (Flag true) else t) (if b then Val (Flag true) else t')
  if_false v t t' true one asks = absurd (cc asks)
  if_false v t t' false one asks = one asks

  -- What an object tells is no visible work

  nil_silent : {A : Type 0} (o : ℕ) (t u : Doing A) → is_asking (settled p made c t) ≡ false → is_asking (settled p made c u) ≡ false → is_asking (settled p made c (by_number o t u)) ≡ false
  nil_silent zero t u h k = h
  nil_silent (suc o) t u h k = k

  either_silent : {A : Type 0} (b : Bool) (t u : Doing A) → is_asking t ≡ false → is_asking u ≡ false → is_asking (if b then t else u) ≡ false
  either_silent true t u h k = h
  either_silent false t u h k = k

  dereferenced_silent : (v : Value) → is_asking (settled p made c (dereferenced v)) ≡ false
  dereferenced_silent v = nil_silent (object_in v) (Traps 1 0) _ refl refl

  sizes_silent : (v : Value) (d n : ℕ) → is_asking (settled p made c (sizes_from v d n)) ≡ false
  sizes_silent v d zero = refl
  sizes_silent v d (suc n) =
      let x = length_in d (made (object_in v)) in
      let more = sizes_from v (suc d) n in
      ap is_asking (settled_bind more (λ xs. Val (x ∷ xs))) ∙ none_asks (S more) (λ xs. Val (x ∷ xs)) (sizes_silent v (suc d) n) (λ xs. refl)

  spread_silent : (v : Value) (j : ℕ) → is_asking (settled p made c (spread v j)) ≡ false
  spread_silent v j =
      let s : Location = record (place_in (object_place (object_in v) (made (object_in v)))) { type = 0 } in
      let lengths = sizes_from v 0 j in
      nil_silent (object_in v) (Traps 1 0) _ refl
      (ap is_asking (settled_bind lengths (λ ns. found s ns)) ∙ none_asks (S lengths) (λ ns. found s ns) (sizes_silent v 0 j) (λ ns. refl))

  instance_silent : (v : Value) (t : ℕ) → is_asking (settled p made c (is_instance v t)) ≡ false
  instance_silent v t = nil_silent (object_in v) (Val (Flag false)) _ refl refl

  guarded_silent : (v : Value) (t : ℕ) → is_asking (settled p made c (guarded v t)) ≡ false
  guarded_silent v t =
      let b = is_true (has_type_in p.types made c (suc t) (made (object_in v))) in
      let d : Doing Value = if b then Val v else Traps 3 0 in
      nil_silent (object_in v) (Traps 3 0) _ refl (settled_silent d (either_silent b (Val v) (Traps 3 0) refl refl))

  -- a method that is called asks for the call alone
  sent_fed : (v o : Value) (t k : ℕ) (vs : List Value) → is_asking (settled p made c (sent p o t k vs)) ≡ true → feed (v ∷ []) (settled p made c (sent p o t k vs)) ≡ Val v
  sent_fed v o t k vs asks = by (object_in o) asks
    where
      at_type : (d : ℕ) → is_asking (settled p made c (dispatched p o t k vs d)) ≡ true → feed (v ∷ []) (settled p made c (dispatched p o t k vs d)) ≡ Val v
      at_type zero asks = absurd (cc asks)
      at_type (suc d) asks = at_test (comes_to p.types (id_of_made (suc d)) (id_of_made (suc t))) asks
        where
          at_test : (b : Bool) → is_asking (settled p made c (if b then ask (Calls ByType (method_number p d k) (o ∷ vs)) else Traps 1 0)) ≡ true → feed (v ∷ []) (settled p made c (if b then ask (Calls ByType (method_number p d k) (o ∷ vs)) else Traps 1 0)) ≡ Val v
          at_test true asks = refl
          at_test false asks = absurd (cc asks)

      by : (n : ℕ) → is_asking (settled p made c (by_number n (Traps 1 0) (bind (ask (Opens o)) (λ x. dispatched p o t k vs (place_in x).type)))) ≡ true → feed (v ∷ []) (settled p made c (by_number n (Traps 1 0) (bind (ask (Opens o)) (λ x. dispatched p o t k vs (place_in x).type)))) ≡ Val v
      by zero asks = absurd (cc asks)
      by (suc n) asks = at_type (place_in (object_place (object_in o) (made (object_in o)))).type asks

  -- so does what a procedure value stands for
  applied_fed : (v o : Value) (vs : List Value) → is_asking (settled p made c (applied o vs)) ≡ true → feed (v ∷ []) (settled p made c (applied o vs)) ≡ Val v
  applied_fed v o vs asks = by (procedure_in o) asks
    where
      by : (n : ℕ) → is_asking (settled p made c (by_number n (Traps 1 0) (ask (Calls ByValue n (on_instance (instance_in o) vs))))) ≡ true → feed (v ∷ []) (settled p made c (by_number n (Traps 1 0) (ask (Calls ByValue n (on_instance (instance_in o) vs))))) ≡ Val v
      by zero asks = absurd (cc asks)
      by (suc n) asks = refl

  bound_to_silent : (v : Value) (t k d : ℕ) → is_asking (bound_to p v t k d) ≡ false
  bound_to_silent v t k zero = refl
  bound_to_silent v t k (suc d) = either_silent (comes_to p.types (id_of_made (suc d)) (id_of_made (suc t))) (Val (Callable (method_number p d k) (object_in v))) (Traps 1 0) refl refl

  bound_silent : (v : Value) (t k : ℕ) → is_asking (settled p made c (bound p v t k)) ≡ false
  bound_silent v t k =
      let d = (place_in (object_place (object_in v) (made (object_in v)))).type in
      nil_silent (object_in v) (Traps 1 0) _ refl (settled_silent (bound_to p v t k d) (bound_to_silent v t k d))

  record_silent : (s : Location) (t : ℕ) → is_asking (record_guarded p.types s t) ≡ false
  record_silent s t = either_silent (has_type p.types s t) (Val s) (Traps 3 0) refl refl

  module _ (here : Here) where
    -- an open array parameter has no visible work
    lengths_silent : (k d n : ℕ) → is_asking (settled p made c (lengths_from p here k d n)) ≡ false
    lengths_silent k d zero = refl
    lengths_silent k d (suc n) =
        let v = known c (part_of (suc d) (own_place p here k)) in
        let more = lengths_from p here k (suc d) n in
        ap is_asking (settled_bind more (λ vs. Val (v ∷ vs))) ∙ none_asks (S more) (λ vs. Val (v ∷ vs)) (lengths_silent k (suc d) n) (λ vs. refl)

    opened_silent : (k j : ℕ) → is_asking (settled p made c (rows_of p here (Opened k j))) ≡ false
    opened_silent k j =
        let s = place_in (known c (part_of 0 (own_place p here k))) in
        let lengths = lengths_from p here k 0 j in
        ap is_asking (settled_bind lengths (λ ns. found s ns)) ∙ none_asks (S lengths) (λ ns. found s ns) (lengths_silent k 0 j) (λ ns. refl)

    module _ (v : Value) where
      abbrev place : Place → Doing Location
      place = place_of p here

      abbrev rows : Rows → Doing Found
      rows = rows_of p here

      abbrev arguments : Arguments → Doing (List Value)
      arguments = arguments_of p here

      abbrev value : Expr → Doing Value
      value = value_of p here

      abbrev first_place : Place → Place
      first_place = with_first_index p here made c v

      abbrev first_row : Rows → Rows
      first_row = with_first_row p here made c v

      abbrev first_argument : Arguments → Arguments
      first_argument = with_first_argument p here made c v

      abbrev first_value : Expr → Expr
      first_value = with_first p here made c v

      -- two texts compared, of which the places are asked for first
      module _ (r : Relation) (a b : Rows) where
        abbrev compared : Found → Found → Question
        compared x y = ComparesTexts r x.place (text_length x) y.place (text_length y)

        abbrev second : Rows → Found → Doing Value
        second z x = bind (rows z) (λ y. ask (compared x y))

        compare_turns : Turns v (rows a) (rows (first_row a)) → Turns v (rows b) (rows (first_row b)) → Turns v (value (CompareTexts r a b)) (value (first_value (CompareTexts r a b)))
        compare_turns one other =
            on_two value v (rows a) (rows (first_row a)) (second b) (CompareTexts r (first_row a) b) (if is_asking (S (rows b)) then CompareTexts r a (first_row b) else Had v) refl one
            (λ x e asks. by x e asks (is_asking (S (rows b))) refl) (is_asking (S (rows a))) refl
          where
            by : (x : Found) → settled p made c (rows a) ≡ Val x → is_asking (settled p made c (second b x)) ≡ true → (d : Bool) → is_asking (settled p made c (rows b)) ≡ d → feed (v ∷ []) (settled p made c (second b x)) ≡ settled p made c (value (if d then CompareTexts r a (first_row b) else Had v))
            by x e asks true first =
                on_first v (rows b) (rows (first_row b)) (λ y. ask (compared x y)) other first ∙ behind_value (rows a) (second (first_row b)) x e
            by x e asks false none =
                let at = settled_bind (rows b) (λ y. ask (compared x y)) in
                let y = asks_behind (S (rows b)) (λ y. S (ask (compared x y))) none (ap is_asking (sym at) ∙ asks) in
                ap (feed (v ∷ [])) at ∙ ap (λ r. feed (v ∷ []) (bind r (λ y. S (ask (compared x y))))) y.1

      -- what is called where something is evaluated first, a method's receiver or a procedure value
      module _ (e : Expr) (more : Arguments) (callee : Expr → Callee) (on : Value → List Value → Doing Value) (meant : (e' : Expr) (us : Arguments) → value (Function (callee e') us) ≡ bind (value e') (λ o. bind (arguments us) (λ vs. on o vs))) (fed : (o : Value) (vs : List Value) → is_asking (settled p made c (on o vs)) ≡ true → feed (v ∷ []) (settled p made c (on o vs)) ≡ Val v) where
        abbrev called_with : Arguments → Value → Doing Value
        called_with us o = bind (arguments us) (λ vs. on o vs)

        abbrev called_first : Expr
        called_first =
            if is_asking (S (value e)) then Function (callee (first_value e)) more
            else if is_asking (S (arguments more)) then Function (callee e) (first_argument more)
            else Had v

        called_turns : Turns v (value e) (value (first_value e)) → Turns v (arguments more) (arguments (first_argument more)) → Turns v (bind (value e) (called_with more)) (value called_first)
        called_turns one other =
            on_two value v (value e) (value (first_value e)) (called_with more) (Function (callee (first_value e)) more)
            (if is_asking (S (arguments more)) then Function (callee e) (first_argument more) else Had v) (meant (first_value e) more) one
            (λ o at asks. by o at asks (is_asking (S (arguments more))) refl) (is_asking (S (value e))) refl
          where
            by : (o : Value) → settled p made c (value e) ≡ Val o → is_asking (settled p made c (called_with more o)) ≡ true → (d : Bool) → is_asking (settled p made c (arguments more)) ≡ d → feed (v ∷ []) (settled p made c (called_with more o)) ≡ settled p made c (value (if d then Function (callee e) (first_argument more) else Had v))
            by o is asks true first =
                on_first v (arguments more) (arguments (first_argument more)) (λ vs. on o vs) other first
                ∙ behind_value (value e) (called_with (first_argument more)) o is ∙ ap S (sym (meant e (first_argument more)))
            by o is asks false none =
                let at = settled_bind (arguments more) (λ vs. on o vs) in
                let us = asks_behind (S (arguments more)) (λ vs. S (on o vs)) none (ap is_asking (sym at) ∙ asks) in
                ap (feed (v ∷ [])) at ∙ ap (λ r. feed (v ∷ []) (bind r (λ vs. S (on o vs)))) us.1 ∙ fed o us.0 us.2

      mutual
        one_index : (q : Place) → Turns v (place q) (place (first_place q))
        one_index (ModuleVar m k) asks = absurd (cc asks)
        one_index (Local k) asks = absurd (cc asks)
        one_index (Passed k) asks = absurd (cc asks)
        one_index (Field q t k) asks = on_one v (place q) (place (first_place q)) (λ s. Val (field_of p.types (id_of t) k s)) (λ s. refl) (one_index q) asks
        one_index (Index q n t e) asks =
            let at : Expr → Location → Doing Location = λ d s. bind (value d) (λ x. element_of n x s) in
            on_both place v (place q) (place (first_place q)) (at e) (at (first_value e)) (Index (first_place q) n t e) (Index q n t (first_value e)) refl refl (one_index q)
            (λ s. on_one v (value e) (value (first_value e)) (λ x. element_of n x s) (λ x. element_silent n x s) (one_read e)) asks
        one_index (Of r) asks = on_one v (rows r) (rows (first_row r)) (λ x. Val x.place) (λ x. refl) (one_row r) asks
        one_index (Deref e t) asks = on_calm v (value e) (value (first_value e)) (λ x. dereferenced x) dereferenced_silent (one_read e) asks
        one_index (Typed q t) asks = on_one v (place q) (place (first_place q)) (λ s. Val (record s { type = suc t })) (λ s. refl) (one_index q) asks
        one_index (Guarded q t) asks =
            on_one v (place q) (place (first_place q)) (λ s. record_guarded p.types s t) (λ s. record_silent s t) (one_index q) asks

        one_row : (r : Rows) → Turns v (rows r) (rows (first_row r))
        one_row (Known q ns) asks = on_one v (place q) (place (first_place q)) (λ s. found s (map (λ n. Int (pos n)) ns)) (λ s. refl) (one_index q) asks
        one_row (Opened k j) asks = absurd (let h = opened_silent k j in cc (h, asks))
        one_row (Row r t e) asks =
            let at : Expr → Found → Doing Found = λ d x. bind (value d) (λ i. row_at x i) in
            on_both rows v (rows r) (rows (first_row r)) (at e) (at (first_value e)) (Row (first_row r) t e) (Row r t (first_value e)) refl refl (one_row r)
            (λ x. on_one v (value e) (value (first_value e)) (λ i. row_at x i) (λ i. row_silent x i) (one_read e)) asks
        one_row (Spread e j) asks = on_calm v (value e) (value (first_value e)) (λ x. spread x j) (λ x. spread_silent x j) (one_read e) asks
        one_row (Longer r ns) asks =
            on_one v (rows r) (rows (first_row r)) (λ x. found x.place (x.lengths ++ map (λ n. Int (pos n)) ns)) (λ x. refl) (one_row r) asks

        one_argument : (us : Arguments) → Turns v (arguments us) (arguments (first_argument us))
        one_argument NoMore asks = absurd (cc asks)
        one_argument (Scalar e more) asks =
            let after : Arguments → Value → Doing (List Value) = λ us x. bind (arguments us) (λ vs. Val (x ∷ vs)) in
            on_both arguments v (value e) (value (first_value e)) (after more) (after (first_argument more)) (Scalar (first_value e) more) (Scalar e (first_argument more)) refl refl (one_read e)
            (λ x. on_one v (arguments more) (arguments (first_argument more)) (λ vs. Val (x ∷ vs)) (λ vs. refl) (one_argument more)) asks
        one_argument (Whole q more) asks =
            let after : Arguments → Location → Doing (List Value) = λ us s. bind (arguments us) (λ vs. Val (PlaceValue s ∷ vs)) in
            on_both arguments v (place q) (place (first_place q)) (after more) (after (first_argument more)) (Whole (first_place q) more) (Whole q (first_argument more)) refl refl (one_index q)
            (λ s. on_one v (arguments more) (arguments (first_argument more)) (λ vs. Val (PlaceValue s ∷ vs)) (λ vs. refl) (one_argument more)) asks
        one_argument (Opening r more) asks =
            let after : Arguments → Found → Doing (List Value) = λ us x. bind (arguments us) (λ vs. Val (PlaceValue x.place ∷ (x.lengths ++ vs))) in
            on_both arguments v (rows r) (rows (first_row r)) (after more) (after (first_argument more)) (Opening (first_row r) more) (Opening r (first_argument more)) refl refl (one_row r)
            (λ x. on_one v (arguments more) (arguments (first_argument more)) (λ vs. Val (PlaceValue x.place ∷ (x.lengths ++ vs))) (λ vs. refl) (one_argument more)) asks

        one_read : (e : Expr) → Turns v (value e) (value (first_value e))
        one_read (Lit m) asks = absurd (cc asks)
        one_read SelfRef asks = absurd (cc asks)
        one_read (Read t q) asks = on_last value v (place q) (place (first_place q)) (λ s. Reads t s) (Read t (first_place q)) (Had v) (λ s. refl) refl refl (one_index q) asks
        one_read (Unary op a) asks = on_one v (value a) (value (first_value a)) (on_operand op) (unary_silent op) (one_read a) asks
        one_read (Binary op a b) asks =
            let after : Expr → Value → Doing Value = λ d x. bind (value d) (on_operands op x) in
            on_both value v (value a) (value (first_value a)) (after b) (after (first_value b)) (Binary op (first_value a) b) (Binary op a (first_value b)) refl refl (one_read a)
            (λ x. on_one v (value b) (value (first_value b)) (on_operands op x) (binary_silent op x) (one_read b)) asks
        one_read (And a b) asks =
            let after : Expr → Value → Doing Value = λ d x. if is_true x then value d else Val (Flag false) in
            on_both value v (value a) (value (first_value a)) (after b) (after (first_value b)) (And (first_value a) b) (And a (first_value b)) refl refl (one_read a)
            (λ x. if_true v (value b) (value (first_value b)) (is_true x) (one_read b)) asks
        one_read (Or a b) asks =
            let after : Expr → Value → Doing Value = λ d x. if is_true x then Val (Flag true) else value d in
            on_both value v (value a) (value (first_value a)) (after b) (after (first_value b)) (Or (first_value a) b) (Or a (first_value b)) refl refl (one_read a)
            (λ x. if_false v (value b) (value (first_value b)) (is_true x) (one_read b)) asks
        one_read (Element a) asks = on_one v (value a) (value (first_value a)) (λ x. element x) (λ x. binary_silent SetSpan x x) (one_read a) asks
        one_read (Ord a) asks = on_one v (value a) (value (first_value a)) (λ x. Val (ord x)) (λ x. refl) (one_read a) asks
        one_read (Chr a) asks = on_one v (value a) (value (first_value a)) (λ x. chr x) chr_silent (one_read a) asks
        one_read (CompareTexts r a b) asks = compare_turns r a b (one_row a) (one_row b) asks
        one_read (Len r d) asks = on_one v (rows r) (rows (first_row r)) (λ x. Val (length_at d x)) (λ x. refl) (one_row r) asks
        one_read (LenBehind r n) asks = on_one v (rows r) (rows (first_row r)) (λ x. Val (Int (pos n))) (λ x. refl) (one_row r) asks
        one_read (Function (Plain m k) more) asks =
            on_last value v (arguments more) (arguments (first_argument more)) (λ vs. Calls ByName (procedure_number p m k) vs) (Function (Plain m k) (first_argument more)) (Had v) (λ vs. refl) refl refl (one_argument more) asks
        one_read (Function (Dispatched e t k) more) asks =
            called_turns e more (λ d. Dispatched d t k) (λ o vs. sent p o t k vs) (λ d us. refl) (λ o vs. sent_fed v o t k vs) (one_read e) (one_argument more) asks
        one_read (Function (Through e t) more) asks =
            called_turns e more (λ d. Through d t) (λ o vs. applied o vs) (λ d us. refl) (λ o vs. applied_fed v o vs) (one_read e) (one_argument more) asks
        one_read (Function (Upper t k) more) asks =
            on_last value v (arguments more) (arguments (first_argument more)) (λ vs. Calls Upward (method_number p t k) (Object here.self ∷ vs)) (Function (Upper t k) (first_argument more)) (Had v) (λ vs. refl) refl refl (one_argument more) asks
        one_read (Same a b) asks =
            let after : Expr → Value → Doing Value = λ d x. bind (value d) (λ y. Val (Flag (object_in x == object_in y))) in
            on_both value v (value a) (value (first_value a)) (after b) (after (first_value b)) (Same (first_value a) b) (Same a (first_value b)) refl refl (one_read a)
            (λ x. on_one v (value b) (value (first_value b)) (λ y. Val (Flag (object_in x == object_in y))) (λ y. refl) (one_read b)) asks
        one_read (Is a t) asks = on_calm v (value a) (value (first_value a)) (λ x. is_instance x t) (λ x. instance_silent x t) (one_read a) asks
        one_read (IsRecord q t) asks =
            on_one v (place q) (place (first_place q)) (λ s. Val (Flag (has_type p.types s t))) (λ s. refl) (one_index q) asks
        one_read (Guard a t) asks = on_calm v (value a) (value (first_value a)) (λ x. guarded x t) (λ x. guarded_silent x t) (one_read a) asks
        one_read (ProcedureOf m k) asks = absurd (cc asks)
        one_read (MethodOf a t k) asks = on_calm v (value a) (value (first_value a)) (λ x. bound p x t k) (λ x. bound_silent x t k) (one_read a) asks
        one_read (SameProcedure a b) asks =
            let after : Expr → Value → Doing Value = λ d x. bind (value d) (λ y. Val (Flag (are_one x y))) in
            on_both value v (value a) (value (first_value a)) (after b) (after (first_value b)) (SameProcedure (first_value a) b) (SameProcedure a (first_value b)) refl refl (one_read a)
            (λ x. on_one v (value b) (value (first_value b)) (λ y. Val (Flag (are_one x y))) (λ y. refl) (one_read b)) asks
        one_read (Had x) asks = absurd (cc asks)

  -- One answer after another

  -- what is meant by x, and what `first` makes of x with one answer and `all` with some; `onto` goes on with what is meant
  module _ {A B X : Type 0} (of : X → Doing A) (first : Value → X → X) (all : List Value → X → X) (none : (x : X) → all [] x ≡ x) (more : (l : Value) (ls : List Value) (x : X) → all (l ∷ ls) x ≡ all ls (first l x)) (one : (l : Value) (x : X) → Turns l (of x) (of (first l x))) (onto : Doing A → Doing B) (asks_on : (t : Doing A) → is_asking t ≡ true → is_asking (onto t) ≡ true) (fed_on : (v : Value) (t : Doing A) → is_asking t ≡ true → feed (v ∷ []) (onto t) ≡ onto (feed (v ∷ []) t)) where
    all_fed : (x : X) (ls : List Value) → are_asked ls (settled p made c (of x)) ≡ true → feed ls (onto (settled p made c (of x))) ≡ onto (settled p made c (of (all ls x)))
    all_fed x [] asked = ap (λ y. onto (S (of y))) (sym (none x))
    all_fed x (l ∷ ls) asked =
        let t = S (of x) in
        let asks = asks_now l ls t asked in
        let rest : are_asked ls (S (of (first l x))) ≡ true = ap (are_asked ls) (sym (one l x asks)) ∙ asks_then l ls t asked in
        first_fed l ls (onto t) (asks_on t asks) ∙ ap (feed ls) (fed_on l t asks ∙ ap onto (one l x asks))
        ∙ all_fed (first l x) ls rest ∙ ap (λ y. onto (S (of y))) (sym (more l ls x))

pub designator_rewrites : DesignatorRewrites
designator_rewrites p here made c q ls asked =
    all_fed p made c (place_of p here) (with_first_index p here made c) (rewritten_place p here made c) (λ x. refl) (λ l ls x. refl) (one_index p made c here) (λ t. t) (λ t a. a) (λ v t a. refl) q ls asked

pub expression_rewrites : ExpressionRewrites
expression_rewrites p here made c e ls asked =
    all_fed p made c (value_of p here) (with_first p here made c) (rewritten p here made c) (λ x. refl) (λ l ls x. refl) (one_read p made c here) (λ t. t) (λ t a. a) (λ v t a. refl) e ls asked

pub statement_rewrites : StatementRewrites
statement_rewrites p here made c e onward ls asked =
    all_fed p made c (value_of p here) (with_first p here made c) (rewritten p here made c) (λ x. refl) (λ l ls x. refl) (one_read p made c here) (λ t. bind t onward) (λ t a. asks_before t onward a) (λ v t a. fed_before v t onward a) e ls asked

-- what an assignment goes on with behind its designator
abbrev stored : Program → Here → Expr → Location → Doing After
stored p here e s = bind (value_of p here e) (λ v. bind (ask (Stores s v)) (λ _. Val (Into [])))

pub assigned_rewrites : AssignedRewrites
assigned_rewrites p here made c at t q e ls asked =
    let next : Location → Doing After = λ s. settled p made c (stored p here e s) in
    ap (feed ls) (settled_bind p made c (place_of p here q) (stored p here e))
    ∙ all_fed p made c (place_of p here) (with_first_index p here made c) (rewritten_place p here made c) (λ x. refl) (λ l ls x. refl) (one_index p made c here) (λ r. bind r next) (λ r a. asks_before r next a) (λ v r a. fed_before v r next a) q ls asked
    ∙ sym (settled_bind p made c (place_of p here (rewritten_place p here made c ls q)) (stored p here e))

pub assignment_rewrites : AssignmentRewrites
assignment_rewrites p here made c at t q s e ls is asked =
    let onward : Value → Doing After = λ v. bind (ask (Stores s v)) (λ _. Val (Into [])) in
    ap (feed ls) (sym (behind_value p made c (place_of p here q) (stored p here e) s is) ∙ settled_bind p made c (value_of p here e) onward)
    ∙ statement_rewrites p here made c e (λ v. settled p made c (onward v)) ls asked
    ∙ sym (settled_bind p made c (value_of p here (rewritten p here made c ls e)) onward)
    ∙ behind_value p made c (place_of p here q) (stored p here (rewritten p here made c ls e)) s is
