-- The kinds of the values of types: what an operator takes and gives are numbers, objects are references, and procedures have a kind of
-- their own.
use Rattle.std.proofs.Common.{◌≡◌, ◌⊎◌, inl, inr, ℕ, ℤ, Bool, true, false, Some, if◌then◌else◌, refl, sym, ap, ◌∙◌, subst}
use Rattle.std.specs.Prelude.{◌||◌, is_some, List, Option, None, option_map, slice_get}
use Rattle.std.proofs.lemmas.Bool.{eqb-true}
use Rattle.std.proofs.Math.Bool.{or-true}
use Rattle.aos_base.specs.declared.operator.Unary.{Unary as UnaryOperator}
use Rattle.aos_base.specs.declared.operator.Unary.TheVariants.{Neg, Abs, Range}
use Rattle.aos_base.specs.declared.operator.Binary.{Binary as BinaryOperator}
use Rattle.aos_base.specs.declared.operator.Binary.TheVariants.{Add, Sub, Mul, Div, Mod, Ash, Cmp, Union, Minus, Meet, Xor, SetSpan, In}
use Rattle.aos_base.specs.declared.number.Relation.{Relation}
use Rattle.aos_base.specs.declared.number.Relation.TheVariants as relation
use Rattle.aos_base.specs.declared.number.Width.TheVariants.{W8, W16, W32, W64}
use Rattle.aos_types.specs.declared.row.TypeId.{TypeId}
use Rattle.aos_types.specs.declared.row.TypeRow.{TypeRow}
use Rattle.aos_types.specs.declared.row.TypeRow.TheVariants as row
use Rattle.aos_types.specs.Table.{row_of, is_object, is_procedure}
use Rattle.aos_types.specs.Extension.{comes_to}
use Rattle.aos_code.specs.declared.instr.Kind.TheVariants.{N, R, C}
use Rattle.aos_layout.specs.Layout.{kind_in, kind_of as cell_kind}
use Rattle.aos_typed.specs.declared.tree.Literal.{Literal}
use Rattle.aos_typed.specs.declared.tree.Literal.TheVariants as literal
use Rattle.aos_typed.specs.declared.tree.TType.{TType}
use Rattle.aos_typed.specs.declared.tree.TType.TheVariants.{Integer, Boolean, Char, Set, Any, Named}
use Rattle.aos_typed.specs.Numbers.{id_of}
use Rattle.aos_typed.specs.Formals.{pattern_in, pattern_of}
use Rattle.aos_typed.specs.Program.{ObjectType, Procedure, Program}
use Rattle.aos_typed.specs.WellTyped.{Includes, target_in, target, is_any, is_reference, is_procedural, Fits, IsLiteral, HasRange, taken, Gives, is_basic, is_compared, is_value, Takes, GivesOfTwo}
use Rattle.aos_sim.specs.Code.{kind_of}
use Rattle.aos_sim.proofs.Types.{basic_of}
use Rattle.aos_sim.proofs.Does.{HasPredeclared}
use Rattle.aos_sim.proofs.Variables.{basic_row}
use Rattle.aos_sim.proofs.References.{by_reference, by_procedure, one_of_three}
use Rattle.aos_sim.proofs.Changes.{basic_kind}

-- a type has the kind of each type that it includes
pub included_kind : (rows : List TypeRow) (t u : TType) → Includes t u → kind_of rows t ≡ kind_of rows u
included_kind rows (Integer w) (Named u) e = absurd (cc)
included_kind rows Boolean (Named u) e = absurd (cc)
included_kind rows Char (Named u) e = absurd (cc)
included_kind rows Set (Named u) e = absurd (cc)
included_kind rows (Integer w) Any e = absurd (cc)
included_kind rows Boolean Any e = absurd (cc)
included_kind rows Char Any e = absurd (cc)
included_kind rows Set Any e = absurd (cc)
included_kind rows Any u e = absurd (cc)
included_kind rows (Named t) (Integer w) e = absurd (cc)
included_kind rows (Named t) Boolean e = absurd (cc)
included_kind rows (Named t) Char e = absurd (cc)
included_kind rows (Named t) Set e = absurd (cc)
included_kind rows (Named t) Any e = absurd (cc)
included_kind rows (Named t) (Named u) e = ap (λ k. kind_of rows (Named k)) (eqb-true t u e)
included_kind rows t u e = refl

-- a literal is a number
pub literal_kind : (rows : List TypeRow) (l : Literal) (t : TType) → IsLiteral l t → kind_of rows t ≡ N
literal_kind rows (literal.Int n) (Named t) h = absurd h
literal_kind rows (literal.Bool b) (Named t) h = absurd h
literal_kind rows (literal.Char c) (Named t) h = absurd h
literal_kind rows (literal.Set s) (Named t) h = absurd h
literal_kind rows (literal.Text c) (Named t) h = absurd h
literal_kind rows (literal.Int n) Any h = absurd h
literal_kind rows (literal.Bool b) Any h = absurd h
literal_kind rows (literal.Char c) Any h = absurd h
literal_kind rows (literal.Set s) Any h = absurd h
literal_kind rows (literal.Text c) Any h = absurd h
literal_kind rows literal.Nil t h = absurd h
literal_kind rows literal.NoProcedure t h = absurd h
literal_kind rows l t h = refl

-- a type of which some integers are has numbers
range_kind : (rows : List TypeRow) (t : TType) (low high : ℤ) → HasRange t low high → kind_of rows t ≡ N
range_kind rows (Named t) low high h = absurd h
range_kind rows Any low high h = absurd h
range_kind rows t low high h = refl

-- what an operator on one operand takes is a number
pub taken_kind : (rows : List TypeRow) (op : UnaryOperator) → kind_of rows (taken op) ≡ N
taken_kind rows (Neg w) = refl
taken_kind rows op = refl

-- and what it gives
pub given_kind : (rows : List TypeRow) (op : UnaryOperator) (t : TType) → Gives op t → kind_of rows t ≡ N
given_kind rows (Neg w) t h = included_kind rows t (Integer w) h
given_kind rows (Abs w) t h = included_kind rows t (Integer w) h
given_kind rows (Range low high) t h = range_kind rows t low high h
given_kind rows op t h = ap (kind_of rows) h

-- what an operator on two operands gives is a number
pub given_of_two_kind : (rows : List TypeRow) (op : BinaryOperator) (t : TType) → GivesOfTwo op t → kind_of rows t ≡ N
given_of_two_kind rows (Add w) t h = included_kind rows t (Integer w) h
given_of_two_kind rows (Sub w) t h = included_kind rows t (Integer w) h
given_of_two_kind rows (Mul w) t h = included_kind rows t (Integer w) h
given_of_two_kind rows (Div w) t h = included_kind rows t (Integer w) h
given_of_two_kind rows (Mod w) t h = included_kind rows t (Integer w) h
given_of_two_kind rows (Ash w) t h = included_kind rows t (Integer w) h
given_of_two_kind rows op t h = ap (kind_of rows) h

-- what is compared are numbers
compared_kind : (rows : List TypeRow) (r : Relation) (t : TType) → is_compared r t ≡ true → kind_of rows t ≡ N
compared_kind rows relation.Equal (Named t) e = absurd (cc)
compared_kind rows relation.NotEqual (Named t) e = absurd (cc)
compared_kind rows r (Named t) e = absurd (cc)
compared_kind rows relation.Equal Any e = absurd (cc)
compared_kind rows relation.NotEqual Any e = absurd (cc)
compared_kind rows r Any e = absurd (cc)
compared_kind rows r t e = refl

-- and what it takes are two
pub taken_kinds : (rows : List TypeRow) (op : BinaryOperator) (P Q : TType → Type 0) → Takes op P Q → (u : TType) × (v : TType) × P u × Q v × (kind_of rows u ≡ N) × (kind_of rows v ≡ N)
taken_kinds rows (Add w) P Q h = (Integer w, Integer w, h.0, h.1, refl, refl)
taken_kinds rows (Sub w) P Q h = (Integer w, Integer w, h.0, h.1, refl, refl)
taken_kinds rows (Mul w) P Q h = (Integer w, Integer w, h.0, h.1, refl, refl)
taken_kinds rows (Div w) P Q h = (Integer w, Integer w, h.0, h.1, refl, refl)
taken_kinds rows (Mod w) P Q h = (Integer w, Integer w, h.0, h.1, refl, refl)
taken_kinds rows (Ash w) P Q h = (Integer w, Integer W64, h.0, h.1, refl, refl)
taken_kinds rows (Cmp r) P Q h = let k = compared_kind rows r h.0 h.1 in (h.0, h.0, h.2, h.3, k, k)
taken_kinds rows Union P Q h = (Set, Set, h.0, h.1, refl, refl)
taken_kinds rows Minus P Q h = (Set, Set, h.0, h.1, refl, refl)
taken_kinds rows Meet P Q h = (Set, Set, h.0, h.1, refl, refl)
taken_kinds rows Xor P Q h = (Set, Set, h.0, h.1, refl, refl)
taken_kinds rows SetSpan P Q h = (Integer W64, Integer W64, h.0, h.1, refl, refl)
taken_kinds rows In P Q h = (Integer W64, Set, h.0, h.1, refl, refl)

-- a type of numbers is one of scalars that are built
pub number_value : (p : Program) (t : TType) → kind_of p.types t ≡ N → is_value p.types t ≡ true
number_value p Any e = absurd (cc)
number_value p (Named k) e = by (is_procedure (row_of p.types (id_of (Named k)))) e
  where
    by : (b : Bool) → (if b then C else R) ≡ N → is_value p.types (Named k) ≡ true
    by true e = absurd (cc)
    by false e = absurd (cc)
number_value p t e = refl

-- an object type is one of objects
pub object_reference : (rows : List TypeRow) (t : TType) → is_object (row_of rows (id_of t)) ≡ true → is_reference rows t ≡ true
object_reference rows t e = ap (λ b. is_any t || b) (by (row_of rows (id_of t)) e) ∙ or-true (is_any t)
  where
    by : (o : Option TypeRow) → is_object o ≡ true → is_some (target_in rows (id_of t) o) ≡ true
    by None e = absurd (cc)
    by (Some (row.Basic b)) e = absurd (cc)
    by (Some (row.Array n of)) e = absurd (cc)
    by (Some (row.Open of)) e = absurd (cc)
    by (Some (row.Record base fields)) e = absurd (cc)
    by (Some (row.Pointer to)) e = absurd (cc)
    by (Some (row.Object base fields)) e = refl
    by (Some (row.Procedure formals r)) e = absurd (cc)
    by (Some row.Any) e = absurd (cc)

module _ (p : Program) where
  -- and so is a type of objects
  pub reference_value : (t : TType) → is_reference p.types t ≡ true → is_value p.types t ≡ true
  reference_value t is = ap (λ b. is_basic t || (b || is_procedural p.types t)) is ∙ or-true (is_basic t)

  -- or of procedures
  pub procedural_value : (t : TType) → is_procedural p.types t ≡ true → is_value p.types t ≡ true
  procedural_value t is =
      ap (λ b. is_basic t || (is_reference p.types t || b)) is ∙ ap (λ b. is_basic t || b) (or-true (is_reference p.types t)) ∙ or-true (is_basic t)

  -- a type for whose values a procedure stands is one of procedures
  pub pattern_procedural : (t : TType) (q : Procedure) → pattern_of p t ≡ Some q → is_procedural p.types t ≡ true
  pattern_procedural (Integer w) q e = absurd (cc)
  pattern_procedural Boolean q e = absurd (cc)
  pattern_procedural Char q e = absurd (cc)
  pattern_procedural Set q e = absurd (cc)
  pattern_procedural Any q e = absurd (cc)
  pattern_procedural (Named t) q e = by (row_of p.types (id_of (Named t))) e
    where
      by : (o : Option TypeRow) → pattern_in p o t ≡ Some q → is_procedure o ≡ true
      by None e = absurd (cc)
      by (Some (row.Basic b)) e = absurd (cc)
      by (Some (row.Array n of)) e = absurd (cc)
      by (Some (row.Open of)) e = absurd (cc)
      by (Some (row.Record base fields)) e = absurd (cc)
      by (Some (row.Pointer to)) e = absurd (cc)
      by (Some (row.Object base fields)) e = absurd (cc)
      by (Some (row.Procedure formals r)) e = refl
      by (Some row.Any) e = absurd (cc)

  -- it is the body beside that type
  pub pattern_there : (t : ℕ) (q : Procedure) → pattern_of p (Named t) ≡ Some q → (o : ObjectType) × (slice_get p.objects t ≡ Some o) × (o.body ≡ q)
  pattern_there t q e = by (row_of p.types (id_of (Named t))) e
    where
      at : (x : Option ObjectType) → slice_get p.objects t ≡ x → option_map (λ o. o.body) x ≡ Some q → (o : ObjectType) × (slice_get p.objects t ≡ Some o) × (o.body ≡ q)
      at None f e = absurd (cc)
      at (Some o) f e = let same : o.body ≡ q = cc in (o, f, same)

      by : (o : Option TypeRow) → pattern_in p o t ≡ Some q → (o : ObjectType) × (slice_get p.objects t ≡ Some o) × (o.body ≡ q)
      by None e = absurd (cc)
      by (Some (row.Basic b)) e = absurd (cc)
      by (Some (row.Array n of)) e = absurd (cc)
      by (Some (row.Open of)) e = absurd (cc)
      by (Some (row.Record base fields)) e = absurd (cc)
      by (Some (row.Pointer to)) e = absurd (cc)
      by (Some (row.Object base fields)) e = absurd (cc)
      by (Some (row.Procedure formals r)) e = at (slice_get p.objects t) refl e
      by (Some row.Any) e = absurd (cc)

  -- a type that says what its values are made as is one of objects
  target_reference : (t : TType) (b : TypeId) → target p.types t ≡ Some b → is_reference p.types t ≡ true
  target_reference t b e = ap (λ o. is_any t || is_some o) e ∙ or-true (is_any t)

  pub any_or_target : (t : TType) (P : TypeId → Type 0) → (t ≡ Any) ⊎ ((b : TypeId) × (target p.types t ≡ Some b) × P b) → is_reference p.types t ≡ true
  any_or_target t P (inl any) = subst (λ x. is_reference p.types x ≡ true) (sym any) refl
  any_or_target t P (inr h) = target_reference t h.0 h.1

  -- a type that includes one of scalars is one
  included_value : (t u : TType) → Includes t u → is_value p.types u ≡ true → is_value p.types t ≡ true
  included_value (Named k) (Named j) i e = let same = eqb-true k j i in subst (λ x. is_value p.types (Named x) ≡ true) (sym same) e
  included_value (Named k) (Integer w) i e = absurd (cc)
  included_value (Named k) Boolean i e = absurd (cc)
  included_value (Named k) Char i e = absurd (cc)
  included_value (Named k) Set i e = absurd (cc)
  included_value (Named k) Any i e = absurd (cc)
  included_value t u i e = refl

  fitted_reference : (t u : TType) → (t ≡ Any) ⊎ ((a : TypeId) × (b : TypeId) × (target p.types t ≡ Some a) × (target p.types u ≡ Some b) × (comes_to p.types b a ≡ true)) → is_reference p.types t ≡ true
  fitted_reference t u (inl any) = subst (λ x. is_reference p.types x ≡ true) (sym any) refl
  fitted_reference t u (inr f) = target_reference t f.0 f.2

  -- and so is one that values of a type of scalars fit
  pub fitted_value : (t u : TType) → Fits p t u → is_value p.types u ≡ true → is_value p.types t ≡ true
  fitted_value t u (inl i) e = included_value t u i e
  fitted_value t u (inr (inl o)) e = reference_value t (fitted_reference t u o.1)
  fitted_value t u (inr (inr f)) e = procedural_value t (pattern_procedural t f.0 f.2)

  module _ (predeclared : HasPredeclared p) where
    basic_cell : (t : TType) → is_basic t ≡ true → cell_kind p.types (id_of t) ≡ N
    basic_cell t e = ap kind_in (basic_row p predeclared t e) ∙ by t e
      where
        by : (t : TType) → is_basic t ≡ true → kind_in (Some (row.Basic (basic_of t))) ≡ N
        by (Integer W8) e = refl
        by (Integer W16) e = refl
        by (Integer W32) e = refl
        by (Integer W64) e = refl
        by Boolean e = refl
        by Char e = refl
        by Set e = refl
        by Any e = absurd (cc)
        by (Named t) e = absurd (cc)

    reference_cell : (t : TType) → is_reference p.types t ≡ true → cell_kind p.types (id_of t) ≡ R
    reference_cell t is = by_reference p predeclared (λ o. kind_in o ≡ R) (λ u. refl) (λ b f. refl) refl t is

    -- the value of a type of objects is a reference
    pub reference_kind : (t : TType) → is_reference p.types t ≡ true → kind_of p.types t ≡ R
    reference_kind Any is = refl
    reference_kind (Named k) is =
        ap (λ b. if b then C else R) (by_reference p predeclared (λ o. is_procedure o ≡ false) (λ u. refl) (λ b f. refl) refl (Named k) is)
    reference_kind (Integer w) is = let n = basic_cell (Integer w) refl in let r = reference_cell (Integer w) is in absurd (cc)
    reference_kind Boolean is = let n = basic_cell Boolean refl in let r = reference_cell Boolean is in absurd (cc)
    reference_kind Char is = let n = basic_cell Char refl in let r = reference_cell Char is in absurd (cc)
    reference_kind Set is = let n = basic_cell Set refl in let r = reference_cell Set is in absurd (cc)

    pub target_kind : (t : TType) (b : TypeId) → target p.types t ≡ Some b → kind_of p.types t ≡ R
    target_kind t b e = reference_kind t (target_reference t b e)

    procedural_cell : (t : TType) → is_procedural p.types t ≡ true → cell_kind p.types (id_of t) ≡ C
    procedural_cell t is = by_procedure p (λ o. kind_in o ≡ C) (λ f r. refl) t is

    -- the value of a procedure type is a procedure value
    pub procedural_kind : (t : TType) → is_procedural p.types t ≡ true → kind_of p.types t ≡ C
    procedural_kind (Named k) is = ap (λ b. if b then C else R) is
    procedural_kind Any is = let n = reference_cell Any refl in let r = procedural_cell Any is in absurd (cc)
    procedural_kind (Integer w) is = let n = basic_cell (Integer w) refl in let r = procedural_cell (Integer w) is in absurd (cc)
    procedural_kind Boolean is = let n = basic_cell Boolean refl in let r = procedural_cell Boolean is in absurd (cc)
    procedural_kind Char is = let n = basic_cell Char refl in let r = procedural_cell Char is in absurd (cc)
    procedural_kind Set is = let n = basic_cell Set refl in let r = procedural_cell Set is in absurd (cc)

    pub pattern_kind : (t : TType) (q : Procedure) → pattern_of p t ≡ Some q → kind_of p.types t ≡ C
    pattern_kind t q e = procedural_kind t (pattern_procedural t q e)

    -- a scalar's cell has the kind that code for its type takes
    pub value_kind : (t : TType) → is_value p.types t ≡ true → cell_kind p.types (id_of t) ≡ kind_of p.types t
    value_kind t e = by (one_of_three p t e)
      where
        by : (is_basic t ≡ true) ⊎ ((is_reference p.types t ≡ true) ⊎ (is_procedural p.types t ≡ true)) → cell_kind p.types (id_of t) ≡ kind_of p.types t
        by (inl basic) = basic_cell t basic ∙ sym (basic_kind p.types t basic)
        by (inr (inl is)) = reference_cell t is ∙ sym (reference_kind t is)
        by (inr (inr is)) = procedural_cell t is ∙ sym (procedural_kind t is)

    -- and so has a value that fits
    pub fitted_kind : (t u : TType) → Fits p t u → kind_of p.types t ≡ kind_of p.types u
    fitted_kind t u (inl i) = included_kind p.types t u i
    fitted_kind t u (inr (inl o)) = reference_kind t (fitted_reference t u o.1) ∙ sym (reference_kind u o.0)
    fitted_kind t u (inr (inr f)) = pattern_kind t f.0 f.2 ∙ sym (pattern_kind u f.1 f.3)
