-- The code of INC, DEC, INCL and EXCL does what these do.
use Rattle.std.proofs.Common.{◌≡◌, ℕ, suc, ◌+◌, true, Option, List, [], ◌∷◌, ◌++◌, length, drop, refl, sym, ap, ◌∙◌, subst, arith, append_assoc, length-append}
use Rattle.aos_base.specs.declared.number.Width.{Width}
use Rattle.aos_base.specs.declared.number.Width.TheVariants.{W8, W16, W32, W64}
use Rattle.aos_base.specs.declared.operator.Binary.{Binary}
use Rattle.aos_base.specs.declared.operator.Binary.TheVariants.{Add, Sub, Union, Minus, SetSpan}
use Rattle.aos_base.specs.declared.text.Pos.{Pos}
use Rattle.aos_base.specs.Question.{Val, bind, ask, Reads, Stores}
use Rattle.aos_types.specs.World.{World}
use Rattle.aos_typed.specs.declared.tree.Change.{Change as Changing}
use Rattle.aos_typed.specs.declared.tree.Change.TheVariants as change
use Rattle.aos_typed.specs.declared.tree.TType.TheVariants as type
use Rattle.aos_typed.specs.Program.{Place, Expr, Change, Procedure, Program}
use Rattle.aos_typed.specs.Numbers.{id_of}
use Rattle.aos_typed.specs.Sort.{Sort, Plain}
use Rattle.aos_typed.specs.Location.{Location}
use Rattle.aos_typed.specs.Value.{Value, number_of, binary, element}
use Rattle.aos_typed.specs.Meaning.{Here, Doing, Item, After, Into, place_of, value_of, changed_type, changed}
use Rattle.aos_typed.specs.declared.tree.TType.{TType}
use Rattle.aos_typed.specs.WellTyped.{is_basic, is_value, Includes, NamesType, amount_type}
use Rattle.aos_code.specs.declared.instr.Cell.TheVariants.{Num}
use Rattle.aos_code.specs.declared.instr.Instr.{Instr}
use Rattle.aos_code.specs.declared.instr.Instr.TheVariants as i
use Rattle.aos_code.specs.declared.instr.Kind.TheVariants.{N}
use Rattle.aos_code.specs.Silent.{Keeps, Stack}
use Rattle.aos_sim.specs.Cells.{place_in}
use Rattle.aos_sim.specs.Code.{Ways, begin, kind_of, place_code, value_code, change_code}
use Rattle.aos_sim.proofs.Runs.{Run, Onward, Tables, runs, drop_next, drop_past}
use Rattle.aos_sim.proofs.Types.{IsValueOf, number_cell}
use Rattle.aos_sim.proofs.Does.{HasTypes, HasShapes, Does, along, does_bind, Knows, knows_grows}
use Rattle.aos_sim.proofs.Variables.{value_from, value_to}
use Rattle.aos_sim.proofs.Evaluates.{Pushed, piece_does, operand_does}
use Rattle.aos_sim.proofs.Designators.{IsFound, places_stay}
use Rattle.aos_sim.proofs.Exprs.{on_numbers_does, scalar_found, place_does, value_does}
use Rattle.aos_sim.proofs.Carries.{Carries, Behind, StatementDoes}
use Rattle.aos_sim.proofs.Stats.{from_here, last_asks, store_asks}
use Rattle.aos_types.specs.declared.row.TypeRow.{TypeRow}

-- what is changed is of a basic type
pub changed_basic : (c : Changing) → is_basic (changed_type c) ≡ true
changed_basic (change.Add w) = refl
changed_basic (change.Subtract w) = refl
changed_basic change.Include = refl
changed_basic change.Exclude = refl

-- and what it is changed by
amount_basic : (c : Changing) → is_basic (amount_type c) ≡ true
amount_basic (change.Add w) = refl
amount_basic (change.Subtract w) = refl
amount_basic change.Include = refl
amount_basic change.Exclude = refl

pub changed_value : (program : Program) (c : Changing) → is_value program.types (changed_type c) ≡ true
changed_value program (change.Add w) = refl
changed_value program (change.Subtract w) = refl
changed_value program change.Include = refl
changed_value program change.Exclude = refl

pub basic_kind : (rows : List TypeRow) (t : TType) → is_basic t ≡ true → kind_of rows t ≡ N
basic_kind rows (type.Integer w) e = refl
basic_kind rows type.Boolean e = refl
basic_kind rows type.Char e = refl
basic_kind rows type.Set e = refl
basic_kind rows type.Any e = absurd (cc)
basic_kind rows (type.Named t) e = absurd (cc)

pub includes_itself : (w : Width) → Includes (type.Integer w) (type.Integer w)
includes_itself W8 = refl
includes_itself W16 = refl
includes_itself W32 = refl
includes_itself W64 = refl

module _ (program : Program) (own : Option Procedure) (tables : Tables) (number : ℕ) (here : Here) (code : List Instr) where
  abbrev onward : List Instr → Onward
  onward = runs tables number here code

  -- the value lies below what it is changed by
  abbrev Changes : Changing → Type 0
  Changes c = (v n : Value) → IsValueOf (changed_type c) v → IsValueOf (amount_type c) n → (rest : List Instr) (p : ℕ) (k : Keeps) (s : Stack) (w : World Sort) (m : Run) → m ≡ onward (change_code c ++ rest) 0 p k (Num (number_of n) ∷ (Num (number_of v) ∷ s)) → Does program here (Pushed tables number here code (changed_type c) rest (p + length (change_code c)) k s) w m (changed c v n)

  -- a set of one element, and an operator on it
  element_does : (op : Binary) (v n : Value) → IsValueOf (type.Integer W64) n → ((y : Value) → IsValueOf type.Set y → (rest : List Instr) (p : ℕ) (k : Keeps) (s : Stack) (w : World Sort) (m : Run) → m ≡ onward (i.Binary op ∷ rest) 0 p k (Num (number_of y) ∷ (Num (number_of v) ∷ s)) → Does program here (Pushed tables number here code type.Set rest (p + 1) k s) w m (binary op v y)) → (rest : List Instr) (p : ℕ) (k : Keeps) (s : Stack) (w : World Sort) (m : Run) → m ≡ onward (i.Dup ∷ (i.Binary SetSpan ∷ (i.Binary op ∷ rest))) 0 p k (Num (number_of n) ∷ (Num (number_of v) ∷ s)) → Does program here (Pushed tables number here code type.Set rest (p + 3) k s) w m (bind (element n) (λ y. binary op v y))
  element_does op v n is on rest p k s w m e =
      let last = i.Binary op ∷ rest in
      let z : p + 1 + 1 + 1 ≡ p + 3 = omega arith in
      let R = Pushed tables number here code type.Set rest (p + 3) k s in
      does_bind program here (Pushed tables number here code type.Set last (p + 1 + 1) k (Num (number_of v) ∷ s)) R w m (element n) (λ y. binary op v y)
      (on_numbers_does program own tables number here code SetSpan type.Set n n (is, is) refl last (p + 1) k (Num (number_of v) ∷ s) w m e)
      (λ w' up y m' h. subst (λ q. Does program here (Pushed tables number here code type.Set rest q k s) w' m' (binary op v y)) z (on y h.is rest (p + 1 + 1) k s w' m' h.run))

  change_does : (c : Changing) → Changes c
  change_does (change.Add w1) v n iv is rest p k s w m e = on_numbers_does program own tables number here code (Add w1) (type.Integer w1) v n (iv, is) (includes_itself w1) rest p k s w m e
  change_does (change.Subtract w1) v n iv is rest p k s w m e = on_numbers_does program own tables number here code (Sub w1) (type.Integer w1) v n (iv, is) (includes_itself w1) rest p k s w m e
  change_does change.Include v n iv is rest p k s w m e =
      element_does Union v n is (λ y iy. on_numbers_does program own tables number here code Union type.Set v y (iv, iy) refl) rest p k s w m e
  change_does change.Exclude v n iv is rest p k s w m e =
      element_does Minus v n is (λ y iy. on_numbers_does program own tables number here code Minus type.Set v y (iv, iy) refl) rest p k s w m e

  module _ (x : Ways) (d : ℕ) (k : Keeps) (after : List Item) (typed : HasTypes program) (shaped : HasShapes program tables) where
    abbrev Leaves : World Sort → After → Run → Type 0
    Leaves = Behind program own tables number here code after

    -- behind what it is changed by, below which its place lies twice: it is read, changed and stored
    read_changed : (c : Changing) (w : World Sort) (a : Location) (n : Value) (p : ℕ) (rest : List Instr) (m : Run) → Knows program own here w → (named : Type 0) → IsFound program named (changed_type c) w a → IsValueOf (amount_type c) n → m ≡ onward (i.Swap ∷ (i.Load N ∷ (i.Swap ∷ (change_code c ++ (i.Store N ∷ rest))))) 0 p k (Num (number_of n) ∷ (place_in w a ∷ (place_in w a ∷ []))) → drop (p + 3 + length (change_code c) + 1) code ≡ rest → Carries program own tables number here code after (p + 3 + length (change_code c) + 1) x d k → Does program here Leaves w m (bind (ask (Reads (changed_type c) a)) (λ v. bind (changed c v n) (λ y. bind (ask (Stores a y)) (λ _. Val (Into [])))))
    read_changed c w a n p rest m known named found is e there after_it =
        let t = changed_type c in
        let basic = changed_basic c in
        let q = p + 3 + length (change_code c) in
        let tail = change_code c ++ (i.Store N ∷ rest) in
        let z : p + 1 + 1 + 1 ≡ p + 3 = omega arith in
        let kind = sym (basic_kind program.types t basic) in
        let value = changed_value program c in (
          (λ y. onward (i.Swap ∷ tail) 0 (p + 1 + 1) k (y ∷ (Num (number_of n) ∷ (place_in w a ∷ [])))),
          e ∙ ap (λ kind. onward (i.Load kind ∷ (i.Swap ∷ tail)) 0 (p + 1) k (place_in w a ∷ (Num (number_of n) ∷ (place_in w a ∷ [])))) (sym (basic_kind program.types t basic)),
          (value, scalar_found program own tables number here code typed t value w a named found),
          λ w1 up v got.
              let iv = value_from program typed.predeclared t w1 v basic got in
              let stays = places_stay program own tables number here code named t w w1 up a found in
              let start : onward (i.Swap ∷ tail) 0 (p + 1 + 1) k (_ ∷ (Num (number_of n) ∷ (place_in w a ∷ []))) ≡ onward tail 0 (p + 3) k (Num (number_of n) ∷ (Num (number_of v) ∷ (place_in w1 a ∷ []))) = (λ j. onward (i.Swap ∷ tail) 0 (p + 1 + 1) k (number_cell w1 t v iv j ∷ (Num (number_of n) ∷ (stays.1 j ∷ [])))) ∙ ap (λ b. onward tail 0 b k (Num (number_of n) ∷ (Num (number_of v) ∷ (place_in w1 a ∷ [])))) z in
              does_bind program here (Pushed tables number here code t (i.Store N ∷ rest) q k (place_in w1 a ∷ [])) Leaves w1 _ (changed c v n) (λ y. bind (ask (Stores a y)) (λ _. Val (Into [])))
              (change_does c v n iv is (i.Store N ∷ rest) (p + 3) k (place_in w1 a ∷ []) w1 _ start)
              (λ w2 up2 y m' h.
              let again = places_stay program own tables number here code named t w1 w2 up2 a stays.0 in
              last_asks program own tables number here code x d k after (Stores a y) w2 m' q rest
              (h.run ∙ (λ j. onward (i.Store (kind j) ∷ rest) 0 q k (sym (number_cell w2 t y h.is) j ∷ (again.1 j ∷ []))) ∙ store_asks program own tables number here code x d k after typed t w2 a rest q y value (value_to program typed.predeclared t w2 y basic h.is))
              (Plain (id_of t), tt, scalar_found program own tables number here code typed t value w2 a named again.0, value_to program typed.predeclared t w2 y basic h.is)
              there after_it),
        )

    pub changed_does : (there : Pos) (c : Changing) (pl : Place) (e : Expr) → StatementDoes program own tables number here code x d k after (Change there c pl e)
    changed_does there c pl e w at known has cont =
        let t = changed_type c in
        let named = NamesType program own pl t in
        let rest = has.stands.rest in
        let cp = place_code program own pl (at + 1) in
        let pd = at + 1 + length cp in
        let ce = value_code program own e (pd + 1) in
        let p = pd + 1 + length ce in
        let end = change_code c ++ i.Store N ∷ [] in
        let tail = i.Swap ∷ (i.Load N ∷ (i.Swap ∷ end)) in
        let does : Location → Value → Doing After = λ a n. bind (ask (Reads t a)) (λ v. bind (changed c v n) (λ y. bind (ask (Stores a y)) (λ _. Val (Into [])))) in
        let xs = cp ++ (i.Dup ∷ (ce ++ tail)) in
        let flat : xs ++ rest ≡ cp ++ (i.Dup ∷ (ce ++ (tail ++ rest))) = append_assoc cp (i.Dup ∷ (ce ++ tail)) rest ∙ ap (λ l. cp ++ (i.Dup ∷ l)) (append_assoc ce tail rest) in
        let h1 : drop (at + 1) code ≡ xs ++ rest = drop_next at code (begin there) (xs ++ rest) has.stands.here in
        let h2 : drop (pd + 1) code ≡ ce ++ (tail ++ rest) = drop_next pd code i.Dup (ce ++ (tail ++ rest)) (drop_past cp (at + 1) code (i.Dup ∷ (ce ++ (tail ++ rest))) (h1 ∙ flat)) in
        let h3 : drop (p + length tail) code ≡ rest = drop_past tail p code rest (drop_past ce (pd + 1) code (tail ++ rest) h2) in
        let size : length tail ≡ 3 + length (change_code c) + 1 = omega (arith, length-append (change_code c) (i.Store N ∷ [])) in
        let len : p + length tail ≡ p + 3 + length (change_code c) + 1 = omega (arith, size) in
        let all : at + suc (length xs) ≡ p + 3 + length (change_code c) + 1 = omega (arith, size, length-append cp (i.Dup ∷ (ce ++ tail)), length-append ce tail) in
        along program here Leaves w _ _ (bind (place_of program here pl) (λ a. bind (value_of program here e) (λ n. does a n))) (from_here program own tables number here code (at + 1) (xs ++ rest) k [] h1)
        (piece_does program own tables number here code (IsFound program named t) place_in Leaves (λ a. bind (value_of program here e) (λ n. does a n)) cp (i.Dup ∷ (ce ++ tail)) (place_of program here pl) (at + 1) rest k []
        (place_does program own tables number here code typed shaped pl t has.typed.0 (at + 1)) w known
        (λ w1 up a m found e1. along program here Leaves w1 m _ (bind (value_of program here e) (λ n. does a n)) e1
        (operand_does program own tables number here code Leaves (amount_type c) (λ n. does a n) ce tail (value_of program here e) (pd + 1) rest k (place_in w1 a ∷ (place_in w1 a ∷ []))
        (value_does program own tables number here code typed shaped e (amount_type c) (amount_basic c) has.typed.1 (pd + 1)) w1 (knows_grows program own here w w1 up known)
        (λ w2 up2 n m' is e2.
        let stays = places_stay program own tables number here code named t w1 w2 up2 a found in
        read_changed c w2 a n p rest m' (knows_grows program own here w1 w2 up2 (knows_grows program own here w w1 up known)) named stays.0 is
        (e2 ∙ (λ j. onward (tail ++ rest) 0 p k (Num (number_of n) ∷ (stays.1 j ∷ (stays.1 j ∷ [])))) ∙ ap (λ l. onward (i.Swap ∷ (i.Load N ∷ (i.Swap ∷ l))) 0 p k (Num (number_of n) ∷ (place_in w2 a ∷ (place_in w2 a ∷ [])))) (append_assoc (change_code c) (i.Store N ∷ []) rest))
        (ap (λ b. drop b code) (sym len) ∙ h3) (subst (λ b. Carries program own tables number here code after b x d k) all cont)))))
