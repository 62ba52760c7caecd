-- The code of a well-typed designator, array, row of arguments or expression does what this does, for all answers of the right types.
use Rattle.std.proofs.Common.{◌≡◌, ℕ, zero, suc, ℤ, pos, true, false, Bool, Option, Some, None, ◌+◌, ◌<◌, List, [], ◌∷◌, ◌++◌, length, map, if◌then◌else◌, refl, sym, ap, ◌∙◌, subst, arith, append_assoc, append-nil, length-append}
use Rattle.std.proofs.Common.{◌⊎◌, inl, inr}
use Rattle.std.specs.Prelude.{All, slice_get, option_map}
use Rattle.std.specs.Option.{unwrap_or}
use Rattle.std.proofs.lemmas.Int.{ints}
use Rattle.std.proofs.lemmas.List.{length-map, map-append}
use Rattle.std.proofs.lemmas.Option.{slice_get-map}
use Rattle.aos_base.specs.declared.number.Width.{Width}
use Rattle.aos_base.specs.declared.number.Width.TheVariants.{W16, W32, W64}
use Rattle.aos_base.specs.declared.number.Relation.{Relation}
use Rattle.aos_base.specs.declared.root.Root.TheVariants.{Module as ModuleRoot}
use Rattle.aos_base.specs.Number.{IsWithin}
use Rattle.aos_base.specs.declared.operator.Unary.{Unary as UnaryOperator}
use Rattle.aos_base.specs.declared.operator.Unary.TheVariants.{Neg, Abs, Not, Odd, Cap, Compl, Range}
use Rattle.aos_base.specs.declared.operator.Binary.{Binary as BinaryOperator}
use Rattle.aos_base.specs.declared.operator.Binary.TheVariants.{Add, Sub, Mul, Div, Mod, Ash, Cmp, Union, Minus, Meet, Xor, SetSpan, In}
use Rattle.aos_base.specs.declared.operator.Given.{Given as Gives}
use Rattle.aos_base.specs.declared.operator.Given.TheVariants.{Number, Trap, Undefined}
use Rattle.aos_base.specs.Operators.{unary as unary_of, binary as binary_of}
use Rattle.aos_base.specs.Question.{Val, Asks, bind, ask, Reads, ComparesTexts}
use Rattle.aos_types.specs.declared.row.TypeId.{TypeId}
use Rattle.aos_types.specs.declared.row.TypeRow.{TypeRow}
use Rattle.aos_types.specs.declared.row.TypeRow.TheVariants as row
use Rattle.aos_types.specs.Table.{row_of, is_open, is_record, is_object, is_scalar}
use Rattle.aos_types.specs.Shape.{Shape, join}
use Rattle.aos_types.proofs.Tables.{comes_on}
use Rattle.aos_types.specs.World.{World}
use Rattle.aos_typed.specs.declared.tree.Literal.{Literal}
use Rattle.aos_typed.specs.declared.tree.Literal.TheVariants as literal
use Rattle.aos_typed.specs.declared.tree.TType.{TType}
use Rattle.aos_typed.specs.declared.tree.TType.TheVariants as type
use Rattle.aos_typed.specs.Program.{Place as Designator, ModuleVar, Local, Passed, Field, Index, Of, Deref, Typed, Guarded, Rows, Known, Opened, Row, Spread, Longer, Arguments, NoMore, Scalar, Whole, Opening, Callee, Plain as PlainCall, Dispatched, Upper, Through, Expr, Lit, SelfRef, Read, Unary, Binary, And, Or, Element, Ord, Chr, CompareTexts, Len, LenBehind, Function, Same, Is as IsOfType, IsRecord, Guard, ProcedureOf, MethodOf, SameProcedure, Had, Parameter, Procedure, Program}
use Rattle.aos_typed.specs.Numbers.{id_of, id_of_made}
use Rattle.aos_typed.specs.Routines.{self_type}
use Rattle.aos_typed.specs.Open.{open_dimensions}
use Rattle.aos_typed.specs.Sort.{Sort, Plain, Variable, Alias, variable_shape}
use Rattle.aos_types.specs.Content.{EachSort}
use Rattle.aos_typed.specs.Typing.{nested, Is, IsPlain, Extends}
use Rattle.aos_sim.proofs.Parts.{each_rest}
use Rattle.aos_typed.specs.Value.{Value, Int, Object, Place, Sort as Kind, Character, literal_value, number_of, given as given_value, unary_sort, binary_sort, binary, element, ord}
use Rattle.aos_typed.specs.Meaning.{Here, Doing, Found, length_at, text_length, place_of, rows_of, arguments_of, value_of, called as called_of}
use Rattle.aos_typed.specs.Location.{Location}
use Rattle.aos_typed.specs.WellTyped.{is_basic, is_procedural, is_value, is_reference, is_whole, Includes, Fits, IsLiteral, HasRange, taken, Gives as GivenOf, GivesOfTwo, NamesType, IsGiven, IsFilled, IsConstantText, IsOpening, IsByValue, IsLength, HaveLengths, IsPlaceOf, IsObjectAt, AreRows, AreArguments, IsCalled, IsOf, IsNamed}
use Rattle.aos_code.specs.declared.instr.Cell.{Cell}
use Rattle.aos_code.specs.declared.instr.Cell.TheVariants.{Num, Ref, Place as AsPlace}
use Rattle.aos_code.specs.declared.instr.Instr.{Instr}
use Rattle.aos_code.specs.declared.instr.Instr.TheVariants as i
use Rattle.aos_code.specs.Silent.{Stack, Keeps, Act, on_place, counted_on, gives_picked, gives, gives_self, given}
use Rattle.aos_sim.specs.Cells.{place_in, cell_of}
use Rattle.aos_sim.specs.Code.{literal_code, kind_of, cells_of, dimensions, drops, place_code, rows_code, arguments_code, operands_code, value_code, called_code}
use Rattle.aos_sim.proofs.Runs.{Run, Onward, Tables, on_run, runs}
use Rattle.aos_sim.proofs.Types.{IsValueOf, number_cell, flag_is, included, literal_is}
use Rattle.aos_sim.proofs.Operators.{unary_agrees, Suit, operands_suit, binary_agrees}
use Rattle.aos_sim.proofs.First.{all_get}
use Rattle.aos_sim.proofs.Extended.{record_base, open_some}
use Rattle.aos_sim.proofs.References.{nil_value, no_procedure, made_reference, to_target, fitting_value, value_is_one, value_no_record, value_scalar}
use Rattle.aos_sim.proofs.Objects.{object_target, deref_does, object_does, spread_does, is_does, guard_does, same_does, is_record_does, guard_place_does, typed_does}
use Rattle.aos_sim.proofs.Does.{HasPredeclared, HasTypes, HasShapes, IsObject, IsSelf, alias_sort, HasScalar, HasWhole, Handles, HandlesFor, Given, addr_of, lengths_are, location_cell, Does, place_grows, knows_grows, along, does_bind, does_more}
use Rattle.aos_sim.proofs.Variables.{constant_there, constant_cell}
use Rattle.aos_sim.proofs.Evaluates.{OfType, number_in, pushed, pushed-append, Pushed, OnTop, OnStack, OfSort, Brings, ComesTo, Remain, Evaluates, Yields, yields, evaluates, sorts_stay, front_does, piece_does, pieces_do, two_do, values_stay, operand_does, ends_at}
use Rattle.aos_sim.proofs.Designators.{IsFound, HasFields, has_record, RowsHold, holds_exactly, holds_extension, filled_begins, longer_rows, AreFound, rows_cells, IsText, text_cells, counted_taken, Finds, FindsRows, Hands, FindsText, FindsRoom, places_stay, rows_remain, texts_remain, variable_does, local_does, passed_does, field_does, index_does, array_rows, constant_rows, opened_does, row_does, of_does, rows_text, rows_room}
use Rattle.aos_sim.proofs.Sends.{Answers, Answered, plain_does, upper_does, dispatched_does, through_does}
use Rattle.aos_sim.proofs.Callables.{IsProcedureValue, procedure_does, bound_yields, named_comes, none_comes, bound_comes, any_comes, one_does}
use Rattle.aos_sim.proofs.Results.{Agrees, chr_agrees}
use Rattle.aos_sim.proofs.Shortcuts.{and_does, or_does}

-- what is copied as a whole is no scalar
pub no_scalar : (o : Option TypeRow) → is_whole o ≡ true → is_scalar o ≡ false
no_scalar None e = refl
no_scalar (Some (row.Basic b)) e = absurd (cc)
no_scalar (Some (row.Array n of)) e = refl
no_scalar (Some (row.Open of)) e = refl
no_scalar (Some (row.Record base fields)) e = refl
no_scalar (Some (row.Pointer to)) e = absurd (cc)
no_scalar (Some (row.Object base fields)) e = absurd (cc)
no_scalar (Some (row.Procedure formals r)) e = absurd (cc)
no_scalar (Some row.Any) e = absurd (cc)

-- Types of which basic values are given.

pub included_basic : (t : TType) (w : Width) → Includes t (type.Integer w) → is_basic t ≡ true
included_basic (type.Integer v) w e = refl
included_basic type.Boolean w e = absurd (cc)
included_basic type.Char w e = absurd (cc)
included_basic type.Set w e = absurd (cc)
included_basic type.Any w e = absurd (cc)
included_basic (type.Named k) w e = absurd (cc)

pub literal_basic : (l : Literal) (t : TType) → IsLiteral l t → is_basic t ≡ true
literal_basic l (type.Integer w) h = refl
literal_basic l type.Boolean h = refl
literal_basic l type.Char h = refl
literal_basic l type.Set h = refl
literal_basic (literal.Int n) type.Any h = absurd h
literal_basic (literal.Bool b) type.Any h = absurd h
literal_basic (literal.Char c) type.Any h = absurd h
literal_basic (literal.Set s) type.Any h = absurd h
literal_basic (literal.Text c) type.Any h = absurd h
literal_basic literal.Nil type.Any h = absurd h
literal_basic literal.NoProcedure type.Any h = absurd h
literal_basic (literal.Int n) (type.Named k) h = absurd h
literal_basic (literal.Bool b) (type.Named k) h = absurd h
literal_basic (literal.Char c) (type.Named k) h = absurd h
literal_basic (literal.Set s) (type.Named k) h = absurd h
literal_basic (literal.Text c) (type.Named k) h = absurd h
literal_basic literal.Nil (type.Named k) h = absurd h
literal_basic literal.NoProcedure (type.Named k) h = absurd h

range_basic : (t : TType) (low high : ℤ) → HasRange t low high → is_basic t ≡ true
range_basic (type.Integer w) low high h = refl
range_basic type.Boolean low high h = absurd h
range_basic type.Char low high h = absurd h
range_basic type.Set low high h = absurd h
range_basic type.Any low high h = absurd h
range_basic (type.Named k) low high h = absurd h

pub taken_basic : (op : UnaryOperator) → is_basic (taken op) ≡ true
taken_basic (Neg w) = refl
taken_basic (Abs w) = refl
taken_basic Not = refl
taken_basic Odd = refl
taken_basic Cap = refl
taken_basic Compl = refl
taken_basic (Range low high) = refl

pub given_basic : (op : UnaryOperator) (t : TType) → GivenOf op t → is_basic t ≡ true
given_basic (Neg w) t g = included_basic t w g
given_basic (Abs w) t g = included_basic t w g
given_basic Not t g = ap is_basic g
given_basic Odd t g = ap is_basic g
given_basic Cap t g = ap is_basic g
given_basic Compl t g = ap is_basic g
given_basic (Range low high) t g = range_basic t low high g

pub two_basic : (op : BinaryOperator) (t : TType) → GivesOfTwo op t → is_basic t ≡ true
two_basic (Add w) t g = included_basic t w g
two_basic (Sub w) t g = included_basic t w g
two_basic (Mul w) t g = included_basic t w g
two_basic (Div w) t g = included_basic t w g
two_basic (Mod w) t g = included_basic t w g
two_basic (Ash w) t g = included_basic t w g
two_basic (Cmp r) t g = ap is_basic g
two_basic Union t g = ap is_basic g
two_basic Minus t g = ap is_basic g
two_basic Meet t g = ap is_basic g
two_basic Xor t g = ap is_basic g
two_basic SetSpan t g = ap is_basic g
two_basic In t g = ap is_basic g

-- the code of a character is an integer
pub ord_is : (v : Value) → IsValueOf type.Char v → IsValueOf (type.Integer W16) (ord v)
ord_is v h = subst (λ x. IsValueOf (type.Integer W16) (ord x)) (sym h.1) (pos h.0, refl, record { low = omega (arith, ints, h.2); high = omega (arith, ints, h.2) })

module _ (program : Program) (own : Option Procedure) (tables : Tables) (number : ℕ) (here : Here) (code : List Instr) where
  abbrev onward : List Instr → Onward
  onward = runs tables number here code

  abbrev With : TType → List Instr → ℕ → Keeps → Stack → World Sort → Value → Run → Type 0
  With = Pushed tables number here code

  abbrev Comes : TType → List Instr → Doing Value → ℕ → Type 0
  Comes = Evaluates program own tables number here code

  abbrev Yield : TType → List Instr → Doing Value → ℕ → Type 0
  Yield = Yields program own tables number here code

  abbrev Yielded : TType → List Instr → ℕ → Keeps → Stack → World Sort → Value → Run → Type 0
  Yielded t = OnStack tables number here code (OfSort program own tables number here code t) cell_of

  -- a variable of a scalar is one
  pub scalar_found : HasTypes program → (t : TType) → is_value program.types t ≡ true → (w : World Sort) (p : Location) (named : Type 0) → IsFound program named t w p → HasScalar program w p (Plain (id_of t))
  scalar_found typed t value w p named found =
      found.there
      ∙ ap (λ z. Some z) (holds_exactly program typed (id_of t) found.shape (value_no_record program typed.predeclared t value) found.holds ∙ value_is_one program typed.predeclared t value)

  -- what an operator gives
  given_does : (t : TType) (z : Kind) (g : Gives) → Agrees t z g → (rest : List Instr) (at : ℕ) (k : Keeps) (s : Stack) (w : World Sort) (m : Run) → m ≡ on_run tables (given g s) (onward rest) at k → Does program here (With t rest (at + 1) k s) w m (given_value z g)
  given_does t z (Number n) a rest at k s w m e = record { is = a.0; run = e ∙ ap (λ c. onward rest 0 (at + 1) k (Num c ∷ s)) (sym a.1) }
  given_does t z (Trap n) a rest at k s w m e = (e, a)
  given_does t z Undefined a rest at k s w m e = absurd a

  pub on_numbers_does : (op : BinaryOperator) (t : TType) (a b : Value) → Suit op a b → GivesOfTwo op t → (rest : List Instr) (at : ℕ) (k : Keeps) (s : Stack) (w : World Sort) (m : Run) → m ≡ onward (i.Binary op ∷ rest) 0 at k (Num (number_of b) ∷ (Num (number_of a) ∷ s)) → Does program here (With t rest (at + 1) k s) w m (binary op a b)
  on_numbers_does op t a b h g rest at k s w m e =
      given_does t (binary_sort op) (binary_of op (number_of a) (number_of b)) (binary_agrees op t a b h g) rest at k s w m e

  literal_does : (t : TType) (l : Literal) (at : ℕ) → IsLiteral l t → Comes t (value_code program own (Lit l) at) (value_of program here (Lit l)) at
  literal_does t l at ok w known rest k s = record { is = literal_is l t ok; run = loaded l ok }
    where
      loaded : (l : Literal) → IsLiteral l t → onward (literal_code l ∷ rest) 0 at k s ≡ onward rest 0 (at + 1) k (Num (number_of (literal_value l)) ∷ s)
      loaded (literal.Int n) ok = refl
      loaded (literal.Bool b) ok = refl
      loaded (literal.Char c) ok = refl
      loaded (literal.Set n) ok = refl
      loaded (literal.Text c) ok = refl
      loaded literal.Nil ok = absurd ok
      loaded literal.NoProcedure ok = absurd ok

  -- NIL
  nil_does : HasPredeclared program → (t : TType) (at : ℕ) → is_reference program.types t ≡ true → Yield t (value_code program own (Lit literal.Nil) at) (value_of program here (Lit literal.Nil)) at
  nil_does predeclared t at ref w known rest k s = record { is = nil_value program w predeclared t ref; run = refl }

  no_procedure_does : (t : TType) (at : ℕ) → is_procedural program.types t ≡ true → Yield t (value_code program own (Lit literal.NoProcedure) at) (value_of program here (Lit literal.NoProcedure)) at
  no_procedure_does t at is w known rest k s = record { is = no_procedure program w t is; run = refl }

  unary_does : (t u : TType) (op : UnaryOperator) (z : Kind) (xs : List Instr) (r : Doing Value) (at : ℕ) → ((v : Value) → IsValueOf u v → Agrees t z (unary_of op (number_of v))) → Comes u xs r at → Comes t (xs ++ i.Unary op ∷ []) (bind r (λ v. given_value z (unary_of op (number_of v)))) at
  unary_does t u op z xs r at of h w known rest k s =
      let f : Value → Doing Value = λ v. given_value z (unary_of op (number_of v)) in
      let n : at + length xs + 1 ≡ at + length (xs ++ i.Unary op ∷ []) = omega (arith, length-append xs (i.Unary op ∷ [])) in
      operand_does program own tables number here code (With t rest (at + length (xs ++ i.Unary op ∷ [])) k s) u f xs (i.Unary op ∷ []) r at rest k s h w known
      (λ w' up v m is e. ends_at program own tables number here code t rest (at + length xs + 1) (at + length (xs ++ i.Unary op ∷ [])) k s w' m (f v) n
      (given_does t z (unary_of op (number_of v)) (of v is) rest (at + length xs) k s w' m e))

  binary_does : (t u v : TType) (op : BinaryOperator) (ca cb : List Instr) (ra rb : Doing Value) (at : ℕ) → ((a b : Value) → IsValueOf u a → IsValueOf v b → Suit op a b) → GivesOfTwo op t → Comes u ca ra at → Comes v cb rb (at + length ca) → Comes t (operands_code ca cb (i.Binary op)) (bind ra (λ a. bind rb (λ b. binary op a b))) at
  binary_does t u v op ca cb ra rb at suit g ha hb w known rest k s =
      let x = i.Binary op in
      let n : at + length ca + length cb + 1 ≡ at + length (operands_code ca cb x) = omega (arith, length-append ca (cb ++ x ∷ []), length-append cb (x ∷ [])) in
      pieces_do program own tables number here code (OfType u) number_in (OfType v) number_in (With t rest (at + length (operands_code ca cb x)) k s) x (λ a b. binary op a b) ca cb ra rb at rest k s
      (values_stay program own tables number here code u) ha hb w known
      (λ w' a b m p q e. ends_at program own tables number here code t rest (at + length ca + length cb + 1) (at + length (operands_code ca cb x)) k s w' m (binary op a b) n
      (on_numbers_does op t a b (suit a b p q) g rest (at + length ca + length cb) k s w' m e))

  element_does : (xs : List Instr) (r : Doing Value) (at : ℕ) → Comes (type.Integer W64) xs r at → Comes type.Set (xs ++ (i.Dup ∷ (i.Binary SetSpan ∷ []))) (bind r (λ v. element v)) at
  element_does xs r at h w known rest k s =
      let tail = i.Dup ∷ (i.Binary SetSpan ∷ []) in
      let n : at + length xs + 1 + 1 ≡ at + length (xs ++ tail) = omega (arith, length-append xs tail) in
      operand_does program own tables number here code (With type.Set rest (at + length (xs ++ tail)) k s) (type.Integer W64) (λ v. element v) xs tail r at rest k s h w known
      (λ w' up v m is e. ends_at program own tables number here code type.Set rest (at + length xs + 1 + 1) (at + length (xs ++ tail)) k s w' m (element v) n
      (on_numbers_does SetSpan type.Set v v (is, is) refl rest (at + length xs + 1) k s w' m e))

  ord_does : (t : TType) (xs : List Instr) (r : Doing Value) (at : ℕ) → ((v : Value) → IsValueOf (type.Integer W16) v → IsValueOf t v) → Comes type.Char xs r at → Comes t xs (bind r (λ v. Val (ord v))) at
  ord_does t xs r at more h w known rest k s =
      does_bind program here (With type.Char rest (at + length xs) k s) (With t rest (at + length xs) k s) w (onward (xs ++ rest) 0 at k s) r (λ v. Val (ord v)) (h w known rest k s)
      (λ w' up v m p. record { is = more (ord v) (ord_is v p.is); run = p.run })

  -- a place of a scalar is read
  read_does : HasTypes program → (named : Type 0) (t u : TType) (xs : List Instr) (r : Doing Location) (at : ℕ) → is_value program.types u ≡ true → Fits program t u → Finds program own tables number here code named u xs r at → Yield t (xs ++ i.Load (kind_of program.types u) ∷ []) (bind r (λ p. ask (Reads u p))) at
  read_does typed named t u xs r at value fits h w known rest k s =
      let q = at + length (xs ++ i.Load (kind_of program.types u) ∷ []) in
      let n : at + length xs + 1 ≡ q = omega (arith, length-append xs (i.Load (kind_of program.types u) ∷ [])) in
      piece_does program own tables number here code (IsFound program named u) place_in (Yielded t rest q k s) (λ p. ask (Reads u p)) xs (i.Load (kind_of program.types u) ∷ []) r at rest k s h w known
      (λ w1 up p m found e. (
        (λ x. onward rest 0 (at + length xs + 1) k (x ∷ s)),
        e,
        (value, scalar_found typed u value w1 p named found),
        λ w2 up' v c. record {
          is = fitting_value program w2 typed t u v fits c;
          run = ap (λ j. onward rest 0 j k (cell_of w2 v ∷ s)) n;
        },
      ))

  -- two texts are compared
  compare_does : (r : Relation) (ca cb : List Instr) (ra rb : Doing Found) (at : ℕ) → FindsText program own tables number here code ca ra at → FindsText program own tables number here code cb rb (at + length ca) → Comes type.Boolean (operands_code ca cb (i.CmpText r)) (bind ra (λ a. bind rb (λ b. ask (ComparesTexts r a.place (text_length a) b.place (text_length b))))) at
  compare_does r ca cb ra rb at ha hb w known rest k s =
      let x = i.CmpText r in
      let p = at + length ca + length cb in
      let q = at + length (operands_code ca cb x) in
      let behind : p + 1 ≡ q = omega (arith, length-append ca (cb ++ x ∷ []), length-append cb (x ∷ [])) in
      let go : Cell → Run = λ c. onward rest 0 (p + 1) k (c ∷ s) in
      two_do program own tables number here code IsText text_cells IsText text_cells (With type.Boolean rest q k s) x (λ a b. ask (ComparesTexts r a.place (text_length a) b.place (text_length b))) ca cb ra rb at rest k s (texts_remain program own tables number here code) ha hb w known
      (λ w1 a b m first second e.
      let found : Cell → Cell → Run = λ c d. onward (x ∷ rest) 0 p k (d ∷ (place_in w1 b.place ∷ (c ∷ (place_in w1 a.place ∷ s)))) in
      let asked : Cell → Cell → Run = λ c d. Asks (ComparesTexts r (addr_of w1 a.place) c (addr_of w1 b.place) d) go in
      let left : cell_of w1 (text_length a) ≡ Num (pos first.0) = ap (cell_of w1) first.1 in
      let right : cell_of w1 (text_length b) ≡ Num (pos second.0) = ap (cell_of w1) second.1 in (
        go,
        e ∙ (λ j. found (left j) (right j)) ∙ sym (λ j. asked (left j) (right j)),
        (first, second),
        λ w2 up v flag.
            let is = flag_is v flag in
            ends_at program own tables number here code type.Boolean rest (p + 1) q k s w2 _ (Val v) behind
            (record { is = is; run = ap go (number_cell w2 type.Boolean v is) }),
      ))

  -- the length of a dimension of an array whose place is found
  length_there : (ls : List ℕ) (d : ℕ) → d < length ls → (n : ℕ) × (slice_get ls d ≡ Some n)
  length_there [] d l = absurd (omega (arith, l))
  length_there (n ∷ ls) zero l = (n, refl)
  length_there (n ∷ ls) (suc d) l = length_there ls d (omega (arith, l))

  length_does : (t u : TType) (bounded : Type 0) (n j d : ℕ) (xs : List Instr) (r : Doing Found) (at : ℕ) → bounded → d < n → j ≡ n → Includes t (type.Integer W32) → FindsRows program own tables number here code bounded n u xs r at → Comes t (xs ++ i.PickLen d j ∷ []) (bind r (λ x. Val (length_at d x))) at
  length_does t u bounded n j d xs r at b less many more h w known rest k s =
      let tail = i.PickLen d j ∷ [] in
      let q = at + length (xs ++ tail) in
      let behind : at + length xs + 1 ≡ q = omega (arith, length-append xs tail) in
      front_does program own tables number here code (AreFound program bounded n u) rows_cells (With t rest q k s) (λ x. Val (length_at d x)) xs tail r at rest k s h w known
      (λ w' up x m found e.
      let ls = found.lengths in
      let get = length_there ls d (let c = found.many in omega (arith, c, less)) in
      let is : length_at d x ≡ Int (pos get.0) = ap (λ vs. unwrap_or (slice_get vs d) (Int (pos 0))) found.are
      ∙ ap (λ o. unwrap_or o (Int (pos 0))) (slice_get-map (λ (n : ℕ). Int (pos n)) ls d ∙ ap (option_map (λ (n : ℕ). Int (pos n))) get.1) in
      let place = place_in w' x.place in
      let f : List ℤ → Stack → Act = λ zs s1. on_place (λ a y s2. gives_picked (slice_get zs d) s2) s1 in
      let all : j ≡ length ls = many ∙ sym found.many in
      let numbers = map (λ (n : ℕ). Num (pos n)) ls in
      let cells : map (cell_of w') x.lengths ≡ numbers = ap (map (cell_of w')) found.are ∙ lengths_are w' ls in
      let zs : slice_get (map (λ n. pos n) ls ++ []) d ≡ Some (pos get.0) = ap (λ l. slice_get l d) (append-nil (map (λ n. pos n) ls)) ∙ slice_get-map (λ n. pos n) ls d ∙ ap (option_map (λ n. pos n)) get.1 in
      let acts : counted_on j [] f (pushed (map (cell_of w') x.lengths) (place ∷ s)) ≡ gives (Num (pos get.0)) s = (λ z. counted_on (all z) [] f (pushed (cells z) (place ∷ s))) ∙ counted_taken ls [] f (place ∷ s) ∙ ap (λ o. gives_picked o s) zs in
      record {
        is = subst (IsValueOf t) (sym is) (included t (type.Integer W32) (Int (pos get.0)) more (pos get.0, refl, (all_get IsLength ls d get.0 (found.bound b) get.1).1));
        run = e ∙ ap (λ a. on_run tables a (onward rest) (at + length xs) k) acts ∙ ap (λ z. onward rest 0 z k (Num (pos get.0) ∷ s)) behind
            ∙ ap (λ v. onward rest 0 q k (Num (number_of v) ∷ s)) (sym is);
      })

  -- operands are dropped
  drops_last : (n : ℕ) (rest : List Instr) → drops n ++ (i.Drop ∷ rest) ≡ i.Drop ∷ (drops n ++ rest)
  drops_last zero rest = refl
  drops_last (suc n) rest = ap (λ l. i.Drop ∷ l) (drops_last n rest)

  dropped : (cs : List Cell) (rest : List Instr) (at : ℕ) (k : Keeps) (s : Stack) → onward (drops (length cs) ++ rest) 0 at k (pushed cs s) ≡ onward rest 0 (at + length cs) k s
  dropped [] rest at k s = let e : at ≡ at + 0 = omega arith in ap (λ z. onward rest 0 z k s) e
  dropped (c ∷ cs) rest at k s =
      let e : at + length cs + 1 ≡ at + suc (length cs) = omega arith in
      ap (λ l. onward l 0 at k (pushed cs (c ∷ s))) (sym (drops_last (length cs) rest)) ∙ dropped cs (i.Drop ∷ rest) at k (c ∷ s) ∙ ap (λ z. onward rest 0 z k s) e

  length-drops : (n : ℕ) → length (drops n) ≡ n
  length-drops zero = refl
  length-drops (suc n) = ap (λ m. suc m) (length-drops n)

  behind_does : (t u : TType) (bounded : Type 0) (n j l : ℕ) (xs : List Instr) (r : Doing Found) (at : ℕ) → j ≡ n → IsWithin W32 (pos l) → Includes t (type.Integer W32) → FindsRows program own tables number here code bounded n u xs r at → Comes t (xs ++ (drops (suc j) ++ i.Num (pos l) ∷ [])) (bind r (λ x. Val (Int (pos l)))) at
  behind_does t u bounded n j l xs r at many within more h w known rest k s =
      let last = i.Num (pos l) ∷ [] in
      let tail = drops (suc j) ++ last in
      let q = at + length (xs ++ tail) in
      let behind : at + length xs + suc j + 1 ≡ q = let a = length-append xs tail in let b = length-append (drops (suc j)) last in let c = length-drops (suc j) in omega (arith, a, b, c) in
      front_does program own tables number here code (AreFound program bounded n u) rows_cells (With t rest q k s) (λ x. Val (Int (pos l))) xs tail r at rest k s h w known
      (λ w' up x m found e.
      let cells = rows_cells w' x in
      let many' : suc j ≡ length cells = let a = found.many in let b = ap length found.are in let c = length-map found.lengths (λ (n : ℕ). Int (pos n)) in let d = length-map x.lengths (cell_of w') in omega (arith, many, a, b, c, d) in
      let p = at + length xs in
      record {
        is = included t (type.Integer W32) (Int (pos l)) more (pos l, refl, within);
        run = e ∙ ap (λ z. onward z 0 p k (pushed cells s)) (append_assoc (drops (suc j)) last rest)
            ∙ ap (λ z. onward (drops z ++ (last ++ rest)) 0 p k (pushed cells s)) many' ∙ dropped cells (last ++ rest) p k s
            ∙ ap (λ z. onward (last ++ rest) 0 (p + z) k s) (sym many') ∙ ap (λ z. onward rest 0 z k (Num (pos l) ∷ s)) behind;
      })

  -- What is handed over

  -- where a place names the type of a record there is one
  names_record : (p : Designator) (t : TType) → NamesType program own p t → is_record (row_of program.types (id_of t)) ≡ true
  names_record (ModuleVar m k) t h = absurd h
  names_record (Local k) t h = absurd h
  names_record (Passed k) t h = h
  names_record (Field p u k) t h = absurd h
  names_record (Index p n u e) t h = absurd h
  names_record (Of r) t h = absurd h
  names_record (Deref e u) t h = h
  names_record (Typed p k) t h = h
  names_record (Guarded p k) t h = h

  -- the first of it, and the rest
  handed_does : {A : Type 0} (P : World Sort → A → Type 0) (cells : World Sort → A → List Cell) (both : A → List Value → List Value) (as' rest' : List Parameter) (ca cb : List Instr) (ra : Doing A) (rb : Doing (List Value)) (at : ℕ) → Remain program own tables number here code P cells → ((w : World Sort) (a : A) (vs : List Value) → P w a → Given program w rest' vs → Given program w as' (both a vs)) → ((w : World Sort) (a : A) (vs : List Value) → P w a → map (cell_of w) (both a vs) ≡ cells w a ++ map (cell_of w) vs) → Brings program own tables number here code P cells ca ra at → Hands program own tables number here code rest' cb rb (at + length ca) → Hands program own tables number here code as' (ca ++ cb) (bind ra (λ a. bind rb (λ vs. Val (both a vs)))) at
  handed_does P cells both as' rest' ca cb ra rb at stays given same ha hb w known rest k s =
      let q = at + length (ca ++ cb) in
      let n : at + length ca + length cb ≡ q = omega (arith, length-append ca cb) in
      front_does program own tables number here code P cells (Handing as' rest q k s) (λ a. bind rb (λ vs. Val (both a vs))) ca cb ra at rest k s ha w known
      (λ w1 up a m p e. along program here (Handing as' rest q k s) w1 m _ (bind rb (λ vs. Val (both a vs))) e
      (does_bind program here (Handing rest' rest (at + length ca + length cb) k (pushed (cells w1 a) s)) (Handing as' rest q k s) w1 _ rb (λ vs. Val (both a vs))
      (hb w1 (knows_grows program own here w w1 up known) rest k (pushed (cells w1 a) s))
      (λ w2 up' vs m' h.
      let st = stays w1 w2 up' a p in
      record {
        is = given w2 a vs st.0 h.is;
        run = h.run ∙ ap (λ z. onward rest 0 z k (pushed (map (cell_of w2) vs) (pushed (cells w1 a) s))) n
            ∙ ap (λ z. onward rest 0 q k (pushed (map (cell_of w2) vs) (pushed z s))) st.1
            ∙ ap (λ z. onward rest 0 q k z) (sym (pushed-append (cells w2 a) (map (cell_of w2) vs) s))
            ∙ ap (λ z. onward rest 0 q k (pushed z s)) (sym (same w2 a vs st.0));
      })))
    where
      Handing : List Parameter → List Instr → ℕ → Keeps → Stack → World Sort → List Value → Run → Type 0
      Handing as' = OnTop tables number here code (λ w vs. Given program w as' vs) (λ w vs. map (cell_of w) vs)

  -- what each parameter takes
  abbrev Handled : (opens by_reference scalar : Bool) → World Sort → TypeId → List Value → Type 0
  Handled = Handles program

  is_handled : (o b c : Bool) (o' b' c' : Bool) (w : World Sort) (t : TypeId) (us : List Value) → o ≡ o' → b ≡ b' → c ≡ c' → Handled o' b' c' w t us → Handled o b c w t us
  is_handled o b c o' b' c' w t us e f g h = subst (λ x. Handled x b c w t us) (sym e) (subst (λ x. Handled o' x c w t us) (sym f) (subst (λ x. Handled o' b' x w t us) (sym g) h))

  handled_one : (a : Parameter) (rest as' : List Parameter) → as' ≡ a ∷ rest → (w : World Sort) (us vs : List Value) → HandlesFor program w a us → Given program w rest vs → Given program w as' (us ++ vs)
  handled_one a rest as' e w us vs h more = subst (λ x. Given program w x (us ++ vs)) (sym e) (us, vs, refl, h, more)

  -- a value
  scalar_does : HasPredeclared program → (a : Parameter) (rest as' : List Parameter) (ca cb : List Instr) (ra : Doing Value) (rb : Doing (List Value)) (at : ℕ) → as' ≡ a ∷ rest → IsByValue program a a.of → is_value program.types a.of ≡ true → Yield a.of ca ra at → Hands program own tables number here code rest cb rb (at + length ca) → Hands program own tables number here code as' (ca ++ cb) (bind ra (λ v. bind rb (λ vs. Val (v ∷ vs)))) at
  scalar_does predeclared a rest as' ca cb ra rb at e by_value value ha hb =
      let t = id_of a.of in
      let one : is_scalar (row_of program.types t) ≡ true = value_scalar program predeclared a.of value in
      handed_does (OfSort program own tables number here code a.of) (λ w v. cell_of w v ∷ []) (λ v vs. v ∷ vs) as' rest ca cb ra rb at
      (λ w w' g v h. let x = sorts_stay program own tables number here code a.of w w' g v h in (x.0, ap (λ c. c ∷ []) x.1))
      (λ w v vs is more. handled_one a rest as' e w (v ∷ []) vs
      (is_handled (is_open (row_of program.types t)) a.by_reference (is_scalar (row_of program.types t)) false false true w t (v ∷ []) by_value.0 by_value.1 one (v, refl, is)) more)
      (λ w v vs is. refl) ha hb

  -- a variable, by its place
  whole_does : HasTypes program → (p : Designator) (u : TType) (a : Parameter) (rest as' : List Parameter) (ca cb : List Instr) (ra : Doing Location) (rb : Doing (List Value)) (at : ℕ) → as' ≡ a ∷ rest → IsGiven program own a p u → Finds program own tables number here code (NamesType program own p u) u ca ra at → Hands program own tables number here code rest cb rb (at + length ca) → Hands program own tables number here code as' (ca ++ cb) (bind ra (λ p. bind rb (λ vs. Val (Place p ∷ vs)))) at
  whole_does typed d u a rest as' ca cb ra rb at e given ha hb =
      let named = NamesType program own d u in
      let stays = places_stay program own tables number here code named u in
      handed_does (IsFound program named u) (λ w p. place_in w p ∷ []) (λ p vs. Place p ∷ vs) as' rest ca cb ra rb at
      (λ w w' g p h. let x = stays w w' g p h in (x.0, ap (λ c. c ∷ []) x.1))
      (λ w p vs is more. handled_one a rest as' e w (Place p ∷ []) vs (handles w p is given) more)
      (λ w p vs is. refl) ha hb
    where
      alias : (w : World Sort) (p : Location) (b : Bool) → is_record (row_of program.types (id_of a.of)) ≡ b → Is program w (if b then Variable (id_of a.of) else Alias (id_of a.of)) (Place p) → Is program w (alias_sort program.types (id_of a.of)) (Place p)
      alias w p b is h = subst (λ c. Is program w (if c then Variable (id_of a.of) else Alias (id_of a.of)) (Place p)) (sym is) h

      handles : (w : World Sort) (p : Location) → IsFound program (NamesType program own d u) u w p → IsGiven program own a d u → HandlesFor program w a (Place p ∷ [])
      handles w p is (inl (h, isnt)) =
          let t = id_of a.of in
          let one = is_scalar (row_of program.types t) in
          let isnt' : is_record (row_of program.types t) ≡ false = ap (λ z. is_record (row_of program.types (id_of z))) h.2 ∙ isnt in
          let exact : is.shape ≡ variable_shape program.types t = holds_exactly program typed (id_of u) is.shape isnt is.holds ∙ ap (λ z. variable_shape program.types (id_of z)) (sym h.2) in
          is_handled (is_open (row_of program.types t)) a.by_reference one false true one w t (Place p ∷ []) h.0 h.1 refl (Place p, refl, alias w p false isnt' (is.there ∙ ap (λ z. Some z) exact))
      handles w p is (inr (inl h)) =
          let t = id_of a.of in
          let one = is_scalar (row_of program.types t) in
          let n = is.names h.2 in
          let rec = record_base program typed (id_of u) t (names_record d u h.2) h.3 in
          is_handled (is_open (row_of program.types t)) a.by_reference one false true one w t (Place p ∷ []) h.0 h.1 refl
          (Place p, refl, alias w p true rec (record { extends = comes_on program.types typed.ranked (id_of_made p.type) (id_of u) t n.extends h.3; more = n.more; plain = n.plain; there = n.there }))
      handles w p is (inr (inr h)) =
          let t = id_of a.of in
          let r = holds_extension program typed (id_of u) t is.shape h.1 h.2 is.holds in
          is_handled (is_open (row_of program.types t)) a.by_reference (is_scalar (row_of program.types t)) false false false w t (Place p ∷ []) h.0.0 h.0.1 (no_scalar (row_of program.types t) h.1) (p, refl, (r.0, is.there ∙ ap (λ z. Some z) r.1, each_rest IsPlain (variable_shape program.types t) r.0 (subst (EachSort IsPlain) r.1 is.plain)))

  -- a string constant, by its place
  filled_does : HasTypes program → (d : Designator) (a : Parameter) (rest as' : List Parameter) (cb : List Instr) (rb : Doing (List Value)) (at : ℕ) → as' ≡ a ∷ rest → IsFilled program own a d → Hands program own tables number here code rest cb rb (at + length (place_code program own d at)) → Hands program own tables number here code as' (place_code program own d at ++ cb) (bind (place_of program here d) (λ p. bind rb (λ vs. Val (Place p ∷ vs)))) at
  filled_does typed (ModuleVar m l) a rest as' cb rb at e f hb =
      let t = id_of a.of in
      let one = is_scalar (row_of program.types t) in
      let begins = filled_begins program typed t f.0 f.1 f.3 f.4 in
      handed_does (λ w p. HasWhole program w p t) (λ w p. place_in w p ∷ []) (λ p vs. Place p ∷ vs) as' rest (place_code program own (ModuleVar m l) at) cb (place_of program here (ModuleVar m l)) rb at
      (λ w w' g p h.
      let all = join (variable_shape program.types t) h.0 in
      ((h.0, place_grows program here w w' g p all h.1, h.2), ap (λ c. c ∷ []) (location_cell w w' g p all h.1)))
      (λ w p vs h more.
      handled_one a rest as' e w (Place p ∷ []) vs
      (is_handled (is_open (row_of program.types t)) a.by_reference one false false false w t (Place p ∷ []) f.2.0 f.2.1 (no_scalar (row_of program.types t) (ap is_whole f.3)) (p, refl, h)) more)
      (λ w p vs h. refl)
      (λ w known rest k s. record {
        is = (begins.0, constant_there program w known.modules m l f.1 f.5 ∙ ap (λ z. Some z) begins.1, begins.2);
        run = ap (λ c. onward rest 0 (at + 1) k (AsPlace (ModuleRoot m) c 0 ∷ s)) (sym (constant_cell program w known.modules m l f.1 f.5 own));
      }) hb
  filled_does typed (Local k) a rest as' cb rb at e f hb = absurd f.5
  filled_does typed (Passed k) a rest as' cb rb at e f hb = absurd f.5
  filled_does typed (Field p u k) a rest as' cb rb at e f hb = absurd f.5
  filled_does typed (Index p l u x) a rest as' cb rb at e f hb = absurd f.5
  filled_does typed (Of r) a rest as' cb rb at e f hb = absurd f.5
  filled_does typed (Deref x u) a rest as' cb rb at e f hb = absurd f.5
  filled_does typed (Typed p u) a rest as' cb rb at e f hb = absurd f.5
  filled_does typed (Guarded p u) a rest as' cb rb at e f hb = absurd f.5

  -- an array for an open one
  opening_does : (a : Parameter) (rest as' : List Parameter) (bounded : Type 0) (n : ℕ) (t : TType) (ca cb : List Instr) (ra : Doing Found) (rb : Doing (List Value)) (at : ℕ) → as' ≡ a ∷ rest → IsOpening program a n t → bounded → FindsRows program own tables number here code bounded n t ca ra at → Hands program own tables number here code rest cb rb (at + length ca) → Hands program own tables number here code as' (ca ++ cb) (bind ra (λ x. bind rb (λ vs. Val (Place x.place ∷ (x.lengths ++ vs))))) at
  opening_does a rest as' bounded n t ca cb ra rb at e opening b ha hb =
      handed_does (AreFound program bounded n t) rows_cells (λ x vs. Place x.place ∷ (x.lengths ++ vs)) as' rest ca cb ra rb at (rows_remain program own tables number here code bounded n t)
      (λ w x vs is more. handled_one a rest as' e w (Place x.place ∷ x.lengths) vs (handles w x is) more)
      (λ w x vs is. ap (λ l. place_in w x.place ∷ l) (map-append (cell_of w) x.lengths vs)) ha hb
    where
      opened : (ls : List ℕ) → length ls ≡ open_dimensions program.types (id_of a.of) → (s : Shape Sort) → RowsHold program ls (id_of t) s → s ≡ nested ls (variable_shape program.types (id_of t))
      opened [] l s h = let some = open_some program.types (id_of a.of) opening.0 in absurd (omega (arith, l, some))
      opened (l ∷ ls) n s h = h

      handles : (w : World Sort) (x : Found) → AreFound program bounded n t w x → HandlesFor program w a (Place x.place ∷ x.lengths)
      handles w x is =
          let u = id_of a.of in
          let by = a.by_reference in
          let one = is_scalar (row_of program.types u) in
          is_handled (is_open (row_of program.types u)) by one true by one w u (Place x.place ∷ x.lengths) opening.0 refl refl (
            x.place,
            is.lengths,
            ap (λ l. Place x.place ∷ l) is.are,
            is.many ∙ opening.1,
            is.at.there ∙ ap (λ s. Some s) (opened is.lengths (is.many ∙ opening.1) is.at.shape is.at.holds) ∙ ap (λ v. Some (nested is.lengths (variable_shape program.types v))) (sym opening.2),
            is.bound b,
          )

  -- what a function gives
  function_does : HasTypes program → (q : Procedure) (t u : TType) (xs : List Instr) (r : Doing Value) (at : ℕ) → q.result ≡ Some u → Fits program t u → Answers program own tables number here code q.result xs r at → Yield t xs r at
  function_does typed q t u xs r at result fits h w known rest k s =
      let z = at + length xs in
      does_more program here (Answered program own tables number here code q.result rest z k s) (Yielded t rest z k s) w (onward (xs ++ rest) 0 at k s) r (h w known rest k s)
      (λ w' up v m p.
      subst (λ o. Answered program own tables number here code o rest z k s w' v m → Yielded t rest z k s w' v m) (sym result)
      (λ p. record { is = fitting_value program w' typed t u v fits p.is; run = p.run }) p)

  -- the object whose method or body it is
  self_does : HasTypes program → (t : TType) (a at : ℕ) → self_type own ≡ Some a → is_object (row_of program.types (id_of (type.Named a))) ≡ true → Fits program t (type.Named a) → Yield t (value_code program own SelfRef at) (value_of program here SelfRef) at
  self_does typed t a at of is fits w known rest k s =
      let self = subst (λ o. IsSelf program w.made o here.self) of known.self in
      let id = id_of (type.Named a) in
      let v = Object here.self in
      let object : IsObject w v self.1 = record { number = self.0; is = ap (λ o. Object o) self.2; made = self.3 } in
      record {
        is = fitting_value program w typed t (type.Named a) v fits
            (to_target program w (type.Named a) id v (object_target program.types id (row_of program.types id) is) (made_reference program w (Extends program id) v self.1 object self.4 self.5));
        run = ap (λ o. on_run tables (gives_self o s) (onward rest) at k) self.2 ∙ ap (λ o. onward rest 0 (at + 1) k (Ref o ∷ s)) (sym self.2);
      }

  -- how many dimensions of an array have their lengths behind its place
  pub dimensions_are : (r : Rows) (n : ℕ) (t : TType) → AreRows program own r n t → dimensions r ≡ n
  dimensions_are (Known p ns) n t ok = sym ok.0
  dimensions_are (Opened k j) n t ok = sym ok.0
  dimensions_are (Spread e j) n t ok = sym ok.0
  dimensions_are (Longer r ns) n t ok = let h = dimensions_are r ok.0 ok.1 ok.3 in let l = ok.2 in omega (arith, h, l)
  dimensions_are (Row r u e) n t ok = let h = dimensions_are r (suc n) t ok.0 in omega (arith, h)

  module _ (typed : HasTypes program) (shaped : HasShapes program tables) where
    abbrev RowsFound : Rows → ℕ → TType → ℕ → Type 0
    RowsFound r n t at = FindsRows program own tables number here code (HaveLengths r) n t (rows_code program own r at) (rows_of program here r) at

    constant_known : (p : Designator) (m at : ℕ) → IsConstantText program p m → RowsFound (Known p (m ∷ [])) 1 type.Char at
    constant_known (ModuleVar h k) m at of = constant_rows program own tables number here code typed shaped.few (All IsLength (m ∷ [])) h k m at (λ b. b) of
    constant_known (Local k) m at of = absurd of
    constant_known (Passed k) m at of = absurd of
    constant_known (Field p u k) m at of = absurd of
    constant_known (Index p l u e) m at of = absurd of
    constant_known (Of r) m at of = absurd of
    constant_known (Deref e u) m at of = absurd of
    constant_known (Typed p u) m at of = absurd of
    constant_known (Guarded p u) m at of = absurd of

    known_rows : (p : Designator) (ns : List ℕ) (n : ℕ) (t : TType) (at : ℕ) → ((u : TType) → IsPlaceOf program own p u → Finds program own tables number here code (NamesType program own p u) u (place_code program own p at) (place_of program here p) at) → AreRows program own (Known p ns) n t → RowsFound (Known p ns) n t at
    known_rows p ns n t at found (e, inl h) =
        subst (λ m. RowsFound (Known p ns) m t at) (sym e)
        (array_rows program own tables number here code typed (NamesType program own p h.0) (All IsLength ns) h.0 t ns (place_code program own p at) (place_of program here p) at (λ b. b) h.2 (found h.0 h.1))
    known_rows p ns n t at found (e, inr h) =
        let c = constant_known p h.0 at h.2 in
        let one : n ≡ 1 = e ∙ ap length h.1 in
        subst (λ m. RowsFound (Known p ns) m t at) (sym one)
        (subst (λ u. RowsFound (Known p ns) 1 u at) (sym h.3) (subst (λ ms. RowsFound (Known p ms) 1 type.Char at) (sym h.1) c))

    -- an expression of a basic type whose values may be known as any
    basic_value : (t : TType) → is_basic t ≡ true → (e : Expr) (at : ℕ) → Yield t (value_code program own e at) (value_of program here e) at → Comes t (value_code program own e at) (value_of program here e) at
    basic_value t basic e at h = evaluates program own tables number here code typed.predeclared t (value_code program own e at) (value_of program here e) at basic h

    told_value : (t : TType) → is_basic t ≡ true → (e : Expr) (at : ℕ) → Comes t (value_code program own e at) (value_of program here e) at → Yield t (value_code program own e at) (value_of program here e) at
    told_value t basic e at h = yields program own tables number here code typed.predeclared t (value_code program own e at) (value_of program here e) at basic h

    -- a truth value
    truth : (e : Expr) (t : TType) (at : ℕ) → t ≡ type.Boolean → Comes type.Boolean (value_code program own e at) (value_of program here e) at → Yield t (value_code program own e at) (value_of program here e) at
    truth e t at is h = subst (λ x. Yield x (value_code program own e at) (value_of program here e) at) (sym is) (told_value type.Boolean refl e at h)

    literal_yields : (l : Literal) (t : TType) (at : ℕ) → IsOf program own (Lit l) t → Yield t (value_code program own (Lit l) at) (value_of program here (Lit l)) at
    literal_yields l t at (inl ok) = told_value t (literal_basic l t ok) (Lit l) at (literal_does t l at ok)
    literal_yields l t at (inr (inr ok)) =
        subst (λ x. Yield t (value_code program own (Lit x) at) (value_of program here (Lit x)) at) (sym ok.0) (no_procedure_does t at ok.1)
    literal_yields l t at (inr (inl ok)) = subst (λ x. Yield t (value_code program own (Lit x) at) (value_of program here (Lit x)) at) (sym ok.0) (nil_does typed.predeclared t at ok.1)

    -- a procedure value, of a procedure type or named
    one_comes : (e : Expr) (at : ℕ) → ((u : TType) → IsOf program own e u → Yield u (value_code program own e at) (value_of program here e) at) → (IsNamed program own e → ComesTo program own tables number here code IsProcedureValue cell_of (value_code program own e at) (value_of program here e) at) → ((u : TType) × IsOf program own e u × (is_procedural program.types u ≡ true)) ⊎ IsNamed program own e → ComesTo program own tables number here code IsProcedureValue cell_of (value_code program own e at) (value_of program here e) at
    one_comes e at by_type by_name (inl h) = any_comes program own tables number here code h.0 (value_code program own e at) (value_of program here e) at h.2 (by_type h.0 h.1)
    one_comes e at by_type by_name (inr h) = by_name h

    mutual
      -- a designator's place, with a variable of its type
      pub place_does : (p : Designator) (t : TType) → IsPlaceOf program own p t → (at : ℕ) → Finds program own tables number here code (NamesType program own p t) t (place_code program own p at) (place_of program here p) at
      place_does (ModuleVar m k) t ok at = variable_does program own tables number here code typed shaped.few m k t at ok
      place_does (Local k) t ok at = local_does program own tables number here code typed k t at ok
      place_does (Passed k) t ok at = passed_does program own tables number here code typed k t at ok.0 ok.1 ok.2
      place_does (Field p u k) t (inl h, of) at =
          field_does program own tables number here code typed (IsFound program (NamesType program own p u) u) u t (λ w s f. has_record program own tables number here code typed (NamesType program own p u) u h.1 w s f) k
          (place_code program own p at) (place_of program here p) at of (place_does p u h.0 at)
      place_does (Field p u k) t (inr h, of) at =
          field_does program own tables number here code typed (HasFields program (id_of u)) u t (λ w s f. f) k (place_code program own p at) (place_of program here p) at of (object_at_does p u h at)
      place_does (Index p n u e) t ok at =
          let ca = place_code program own p at in
          let pb = at + length ca in
          subst (λ x. Finds program own tables number here code ⊥ x (place_code program own (Index p n u e) at) (place_of program here (Index p n u e)) at) (sym ok.4)
          (index_does program own tables number here code typed (NamesType program own p ok.0) ok.0 u n ca (value_code program own e pb) (place_of program here p) (value_of program here e) at ok.2 (place_does p ok.0 ok.1 at) (basic_value (type.Integer W64) refl e pb (yields_do e (type.Integer W64) ok.3 pb)))
      place_does (Of r) t ok at = of_does program own tables number here code (HaveLengths r) t (rows_code program own r at) (rows_of program here r) at (rows_does r 0 t ok.0 at)
      place_does (Deref e u) t ok at =
          subst (λ x. Finds program own tables number here code (NamesType program own (Deref e u) x) x (place_code program own (Deref e u) at) (place_of program here (Deref e u)) at) (sym ok.4)
          (deref_does program own tables number here code typed ok.0 u (value_code program own e at) (value_of program here e) at ok.2 ok.3 (yields_do e ok.0 ok.1 at))
      place_does (Typed p k) t ok at =
          subst (λ x. Finds program own tables number here code (NamesType program own (Typed p k) x) x (place_code program own (Typed p k) at) (place_of program here (Typed p k)) at) (sym ok.2)
          (typed_does program own tables number here code typed (NamesType program own p (type.Named k)) k (k + 1) (place_code program own p at) (place_of program here p) at (omega arith) ok.1 (place_does p (type.Named k) ok.0 at))
      place_does (Guarded p k) t ok at =
          subst (λ x. Finds program own tables number here code (NamesType program own (Guarded p k) x) x (place_code program own (Guarded p k) at) (place_of program here (Guarded p k)) at) (sym ok.4)
          (guard_place_does program own tables number here code shaped typed (NamesType program own p ok.0) ok.0 k (k + 1) (place_code program own p at) (place_of program here p) at (omega arith) ok.2 ok.3 (place_does p ok.0 ok.1 at))

      -- the fields of an object
      object_at_does : (p : Designator) (u : TType) → IsObjectAt program own p u → (at : ℕ) → ComesTo program own tables number here code (HasFields program (id_of u)) place_in (place_code program own p at) (place_of program here p) at
      object_at_does (Deref e v) u ok at =
          subst (λ x. ComesTo program own tables number here code (HasFields program (id_of x)) place_in (place_code program own (Deref e v) at) (place_of program here (Deref e v)) at) (sym ok.2)
          (object_does program own tables number here code typed v (value_code program own e at) (value_of program here e) at ok.1 (yields_do e v ok.0 at))
      object_at_does (ModuleVar m k) u ok at = absurd ok
      object_at_does (Local k) u ok at = absurd ok
      object_at_does (Passed k) u ok at = absurd ok
      object_at_does (Field p v k) u ok at = absurd ok
      object_at_does (Index p n v e) u ok at = absurd ok
      object_at_does (Of r) u ok at = absurd ok
      object_at_does (Typed p k) u ok at = absurd ok
      object_at_does (Guarded p k) u ok at = absurd ok

      -- an array's place, and the lengths of its dimensions
      pub rows_does : (r : Rows) (n : ℕ) (t : TType) → AreRows program own r n t → (at : ℕ) → FindsRows program own tables number here code (HaveLengths r) n t (rows_code program own r at) (rows_of program here r) at
      rows_does (Known p ns) n t ok at = known_rows p ns n t at (λ u h. place_does p u h at) ok
      rows_does (Opened k j) n t ok at = subst (λ m. RowsFound (Opened k j) m t at) (sym ok.0) (opened_does program own tables number here code typed k j t at ok.1.0 ok.1.1 ok.1.2)
      rows_does (Row r u e) n t ok at =
          let ca = rows_code program own r at in
          let pb = at + length ca in
          subst (λ v. FindsRows program own tables number here code (HaveLengths r) n t (operands_code ca (value_code program own e pb) (i.IndexOpen (dimensions r) (cells_of program own v))) (rows_of program here (Row r u e)) at) ok.2
          (row_does program own tables number here code typed (HaveLengths r) n (dimensions r) t ca (value_code program own e pb) (rows_of program here r) (value_of program here e) at (dimensions_are r (suc n) t ok.0) (rows_does r (suc n) t ok.0 at) (basic_value (type.Integer W64) refl e pb (yields_do e (type.Integer W64) ok.1 pb)))
      rows_does (Spread e j) n t ok at =
          subst (λ m. RowsFound (Spread e j) m t at) (sym ok.0)
          (spread_does program own tables number here code typed shaped ok.1.0 t ok.1.1 j (value_code program own e at) (value_of program here e) at ok.1.3 ok.1.4 ok.1.5 ok.1.6 (yields_do e ok.1.0 ok.1.2 at))
      rows_does (Longer r ns) n t ok at =
          subst (λ m. RowsFound (Longer r ns) m t at) (sym ok.2)
          (longer_rows program own tables number here code typed (HaveLengths r) (All IsLength ns) ok.0 ok.1 t ns (rows_code program own r at) (rows_of program here r) at (λ b. b) ok.4 (rows_does r ok.0 ok.1 ok.3 at))

      -- what is handed over for parameters
      pub arguments_do : (us : Arguments) (as' : List Parameter) → AreArguments program own us as' → (at : ℕ) → Hands program own tables number here code as' (arguments_code program own us at) (arguments_of program here us) at
      arguments_do NoMore as' ok at =
          λ w known rest k s.
          record {
            is = subst (λ x. Given program w x []) (sym ok) refl;
            run = let e : at ≡ at + 0 = omega arith in ap (λ z. onward rest 0 z k s) e;
          }
      arguments_do (Scalar e more) as' ok at =
          let ca = value_code program own e at in
          let pb = at + length ca in
          scalar_does typed.predeclared ok.0 ok.1 as' ca (arguments_code program own more pb) (value_of program here e) (arguments_of program here more) at ok.2 ok.3 ok.4 (yields_do e ok.0.of ok.5 at) (arguments_do more ok.1 ok.6 pb)
      arguments_do (Whole p more) as' ok at =
          let ca = place_code program own p at in
          let pb = at + length ca in
          let cb = arguments_code program own more pb in
          let rb = arguments_of program here more in
          let behind = arguments_do more ok.1 ok.4 pb in
          elim ok.3 [
            | inl h ↦ whole_does typed p h.0 ok.0 ok.1 as' ca cb (place_of program here p) rb at ok.2 h.2 (place_does p h.0 h.1 at) behind
            | inr f ↦ filled_does typed p ok.0 ok.1 as' cb rb at ok.2 f behind
          ]
      arguments_do (Opening r more) as' ok at =
          let ca = rows_code program own r at in
          let pb = at + length ca in
          opening_does ok.0 ok.1 as' (HaveLengths r) ok.2 ok.3 ca (arguments_code program own more pb) (rows_of program here r) (arguments_of program here more) at ok.4 ok.5 ok.7 (rows_does r ok.2 ok.3 ok.6 at) (arguments_do more ok.1 ok.8 pb)

      -- an expression's value
      pub yields_do : (e : Expr) (t : TType) → IsOf program own e t → (at : ℕ) → Yields program own tables number here code t (value_code program own e at) (value_of program here e) at
      yields_do (Lit l) t ok at = literal_yields l t at ok
      yields_do SelfRef t ok at = self_does typed t ok.0 at ok.1 ok.2 ok.3
      yields_do (Read u p) t ok at = read_does typed (NamesType program own p u) t u (place_code program own p at) (place_of program here p) at ok.1 ok.2 (place_does p u ok.0 at)
      yields_do (Unary op a) t ok at =
          told_value t (given_basic op t ok.1) (Unary op a) at
          (unary_does t (taken op) op (unary_sort op) (value_code program own a at) (value_of program here a) at (λ v h. unary_agrees op t v h ok.1) (basic_value (taken op) (taken_basic op) a at (yields_do a (taken op) ok.0 at)))
      yields_do (Binary op a b) t ok at =
          let o = operands_suit op (IsOf program own a) (IsOf program own b) ok.0 in
          let pb = at + length (value_code program own a at) in
          told_value t (two_basic op t ok.1) (Binary op a b) at
          (binary_does t o.0 o.1 op (value_code program own a at) (value_code program own b pb) (value_of program here a) (value_of program here b) at o.4 ok.1 (basic_value o.0 o.5 a at (yields_do a o.0 o.2 at)) (basic_value o.1 o.6 b pb (yields_do b o.1 o.3 pb)))
      yields_do (And a b) t ok at =
          let ca = value_code program own a at in
          let pb = at + length ca + 1 in
          truth (And a b) t at ok.2
          (and_does program own tables number here code ca (value_code program own b pb) (value_of program here a) (value_of program here b) at (basic_value type.Boolean refl a at (yields_do a type.Boolean ok.0 at)) (basic_value type.Boolean refl b pb (yields_do b type.Boolean ok.1 pb)))
      yields_do (Or a b) t ok at =
          let ca = value_code program own a at in
          let pb = at + length ca + 3 in
          truth (Or a b) t at ok.2
          (or_does program own tables number here code ca (value_code program own b pb) (value_of program here a) (value_of program here b) at (basic_value type.Boolean refl a at (yields_do a type.Boolean ok.0 at)) (basic_value type.Boolean refl b pb (yields_do b type.Boolean ok.1 pb)))
      yields_do (Element a) t ok at =
          subst (λ x. Yield x (value_code program own (Element a) at) (value_of program here (Element a)) at) (sym ok.1)
          (told_value type.Set refl (Element a) at (element_does (value_code program own a at) (value_of program here a) at (basic_value (type.Integer W64) refl a at (yields_do a (type.Integer W64) ok.0 at))))
      yields_do (Ord a) t ok at =
          told_value t (included_basic t W16 ok.1) (Ord a) at
          (ord_does t (value_code program own a at) (value_of program here a) at (λ v. included t (type.Integer W16) v ok.1) (basic_value type.Char refl a at (yields_do a type.Char ok.0 at)))
      yields_do (Chr a) t ok at =
          subst (λ x. Yield x (value_code program own (Chr a) at) (value_of program here (Chr a)) at) (sym ok.1)
          (told_value type.Char refl (Chr a) at (unary_does type.Char (type.Integer W64) (Range (pos 0) (pos 255)) Character (value_code program own a at) (value_of program here a) at (λ v h. chr_agrees (number_of v)) (basic_value (type.Integer W64) refl a at (yields_do a (type.Integer W64) ok.0 at))))
      yields_do (CompareTexts r a b) t ok at =
          let ca = rows_code program own a at in
          let pb = at + length ca in
          let text = rows_text program own tables number here code typed.predeclared in
          truth (CompareTexts r a b) t at ok.2
          (compare_does r ca (rows_code program own b pb) (rows_of program here a) (rows_of program here b) at
          (text (HaveLengths a) ca (rows_of program here a) at (rows_does a 1 type.Char ok.0 at)) (text (HaveLengths b) (rows_code program own b pb) (rows_of program here b) pb (rows_does b 1 type.Char ok.1 pb)))
      yields_do (Len r d) t ok at =
          told_value t (included_basic t W32 ok.5) (Len r d) at
          (length_does t ok.1 (HaveLengths r) ok.0 (dimensions r) d (rows_code program own r at) (rows_of program here r) at ok.3 ok.4 (dimensions_are r ok.0 ok.1 ok.2) ok.5 (rows_does r ok.0 ok.1 ok.2 at))
      yields_do (LenBehind r l) t ok at =
          told_value t (included_basic t W32 ok.4) (LenBehind r l) at
          (behind_does t ok.1 (HaveLengths r) ok.0 (dimensions r) l (rows_code program own r at) (rows_of program here r) at (dimensions_are r ok.0 ok.1 ok.2) ok.3 ok.4 (rows_does r ok.0 ok.1 ok.2 at))
      yields_do (Function c more) t ok at =
          function_does typed ok.0 t ok.1 (value_code program own (Function c more) at) (value_of program here (Function c more)) at ok.3 ok.5
          (called_do c ok.0 ok.2 more (λ at'. arguments_do more ok.0.parameters ok.6 at') at)
      yields_do (Same a b) t ok at =
          let ca = value_code program own a at in
          let pb = at + length ca in
          truth (Same a b) t at ok.2
          (same_does program own tables number here code typed ok.0.0 ok.1.0 ca (value_code program own b pb) (value_of program here a) (value_of program here b) at ok.0.2 ok.1.2 (yields_do a ok.0.0 ok.0.1 at) (yields_do b ok.1.0 ok.1.1 pb))
      yields_do (IsOfType a k) t ok at =
          truth (IsOfType a k) t at ok.2
          (is_does program own tables number here code typed shaped ok.0.0 k (k + 1) (value_code program own a at) (value_of program here a) at (omega arith) ok.0.2 (yields_do a ok.0.0 ok.0.1 at))
      yields_do (IsRecord p k) t ok at =
          truth (IsRecord p k) t at ok.4
          (is_record_does program own tables number here code shaped (NamesType program own p ok.0) ok.0 k (k + 1) (place_code program own p at) (place_of program here p) at (omega arith) (place_does p ok.0 ok.1 at))
      yields_do (Guard a k) t ok at =
          guard_does program own tables number here code typed shaped ok.0.0 t k (k + 1) (value_code program own a at) (value_of program here a) at (omega arith) ok.0.2 ok.2 (yields_do a ok.0.0 ok.0.1 at)
      yields_do (ProcedureOf m k) t ok at = procedure_does program own tables number here code typed t m k ok.0 at ok.1 ok.2
      yields_do (MethodOf a j k) t ok at =
          bound_yields program own tables number here code typed shaped j k ok.2.0 ok.2.1 t ok.2.2 (value_code program own a at) (value_of program here a) at ok.1 (yields_do a (type.Named j) ok.0 at)
      yields_do (SameProcedure a b) t ok at =
          let ca = value_code program own a at in
          let pb = at + length ca in
          truth (SameProcedure a b) t at ok.2
          (one_does program own tables number here code ca (value_code program own b pb) (value_of program here a) (value_of program here b) at
          (one_comes a at (λ u h. yields_do a u h at) (λ h. named_does a h at) ok.0)
          (one_comes b pb (λ u h. yields_do b u h pb) (λ h. named_does b h pb) ok.1))
      yields_do (Had v) t ok at = absurd ok

      -- a procedure that is named
      named_does : (e : Expr) → IsNamed program own e → (at : ℕ) → ComesTo program own tables number here code IsProcedureValue cell_of (value_code program own e at) (value_of program here e) at
      named_does (Lit l) h at = subst (λ x. ComesTo program own tables number here code IsProcedureValue cell_of (value_code program own (Lit x) at) (value_of program here (Lit x)) at) (sym h) (none_comes program own tables number here code at)
      named_does (ProcedureOf m k) h at = named_comes program own tables number here code m k at
      named_does (MethodOf a j k) h at =
          bound_comes program own tables number here code typed shaped j k h.2.0 h.2.1 (value_code program own a at) (value_of program here a) at h.1 (yields_do a (type.Named j) h.0 at)
      named_does _ h at = absurd h

      -- a call, for whose arguments the code hands over what the procedure takes
      pub called_do : (c : Callee) (q : Procedure) → IsCalled program own c q → (more : Arguments) → ((at : ℕ) → Hands program own tables number here code q.parameters (arguments_code program own more at) (arguments_of program here more) at) → (at : ℕ) → Answers program own tables number here code q.result (called_code program own c more at) (called_of program here c more) at
      called_do (PlainCall m k) q ok more hands at =
          let none : at + 0 ≡ at = omega arith in
          let ca = arguments_code program own more (at + 0) in
          plain_does program own tables number here code typed shaped m k q ca (arguments_of program here more) at ok
          (subst (λ z. Hands program own tables number here code q.parameters ca (arguments_of program here more) z) none (hands (at + 0)))
      called_do (Dispatched e t k) q ok more hands at =
          let cr = value_code program own e at in
          let pa = at + length cr in
          dispatched_does program own tables number here code typed shaped t k q ok.2 cr (value_of program here e) (arguments_code program own more pa) (arguments_of program here more) at ok.1 (yields_do e (type.Named t) ok.0 at) (hands pa)
      called_do (Through e t) q ok more hands at =
          let cr = value_code program own e at in
          let pa = at + length cr in
          through_does program own tables number here code typed shaped t q ok.1 cr (value_of program here e) (arguments_code program own more pa) (arguments_of program here more) at (yields_do e (type.Named t) ok.0 at) (hands pa)
      called_do (Upper t k) q ok more hands at =
          upper_does program own tables number here code typed shaped t k q ok.0 (arguments_code program own more (at + 1)) (arguments_of program here more) at ok.1 ok.2 ok.3 (hands (at + 1))

    -- one of a basic type
    pub value_does : (e : Expr) (t : TType) → is_basic t ≡ true → IsOf program own e t → (at : ℕ) → Evaluates program own tables number here code t (value_code program own e at) (value_of program here e) at
    value_does e t basic ok at = basic_value t basic e at (yields_do e t ok at)

    -- a text, and an array of characters that has room for one
    pub text_found : (r : Rows) → AreRows program own r 1 type.Char → (at : ℕ) → FindsText program own tables number here code (rows_code program own r at) (rows_of program here r) at
    text_found r ok at = rows_text program own tables number here code typed.predeclared (HaveLengths r) (rows_code program own r at) (rows_of program here r) at (rows_does r 1 type.Char ok at)

    pub room_found : (r : Rows) → AreRows program own r 1 type.Char → HaveLengths r → (at : ℕ) → FindsRoom program own tables number here code (rows_code program own r at) (rows_of program here r) at
    room_found r ok long at = rows_room program own tables number here code typed.predeclared (HaveLengths r) (rows_code program own r at) (rows_of program here r) at long (rows_does r 1 type.Char ok at)
