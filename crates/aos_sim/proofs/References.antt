-- Values that are objects or procedures, or NIL, and those of types that include others.
use Rattle.std.proofs.Common.{◌≡◌, ◌∙◌, if◌then◌else◌, ℕ, zero, suc, ◌+◌, ◌-◌, List, length, Bool, true, false, Option, Some, None, refl, sym, ap, subst, arith}
use Rattle.std.proofs.Common.{◌⊎◌, inl, inr}
use Rattle.std.specs.Prelude.{◌||◌, is_some, slice_get, option_map}
use Rattle.std.proofs.lemmas.Bool.{false≢true, eq-eqb, eqb-true}
use Rattle.aos_base.specs.Rooted.{Made}
use Rattle.aos_types.specs.declared.row.TypeId.{TypeId}
use Rattle.aos_types.specs.declared.row.TypeRow.{TypeRow}
use Rattle.aos_types.specs.declared.row.TypeRow.TheVariants as row
use Rattle.aos_types.specs.Table.{row_of, base_of, is_object, is_procedure, is_record, is_scalar}
use Rattle.aos_types.specs.Chain.{IsRanked}
use Rattle.aos_types.specs.Extension.{on_base, comes_by, comes_to}
use Rattle.aos_types.specs.World.{World}
use Rattle.aos_types.proofs.Tables.{comes_on}
use Rattle.aos_typed.specs.declared.tree.TType.{TType}
use Rattle.aos_typed.specs.declared.tree.TType.TheVariants as type
use Rattle.aos_typed.specs.Numbers.{id_of, id_of_made, predeclared_types}
use Rattle.aos_typed.specs.Open.{first_same}
use Rattle.aos_typed.specs.Formals.{HasFormals, pattern_in, pattern_of}
use Rattle.aos_typed.specs.Program.{Procedure, ObjectType, Program}
use Rattle.aos_typed.specs.Sort.{Sort, Plain}
use Rattle.aos_typed.specs.Typing.{HasLengths, IsReference, IsCalledBy, IsCallable, pattern_at, Extends, IsPlainly, Is}
use Rattle.aos_typed.specs.Value.{Value, Int, Flag, Char, Set, Object, Callable, Place}
use Rattle.aos_typed.specs.WellTyped.{Includes, target_in, target, is_reference, Fits, is_basic, is_procedural, is_value}
use Rattle.aos_code.specs.declared.instr.Kind.{Kind}
use Rattle.aos_code.specs.declared.instr.Kind.TheVariants.{N, R, C}
use Rattle.aos_code.specs.Silent.{is_of}
use Rattle.aos_sim.specs.Cells.{cell_of}
use Rattle.aos_sim.specs.Code.{kind_of}
use Rattle.aos_sim.proofs.Types.{number_cell, included}
use Rattle.aos_sim.proofs.Does.{HasPredeclared, HasTypes, IsObject}
use Rattle.aos_sim.proofs.Methods.{formals_twice}
use Rattle.aos_sim.proofs.Variables.{pointer_variable, any_variable, procedure_variable, object_variable, IsOne, basic_row, basic_is_one, value_from, value_to}

-- each type comes to itself
comes_same_by : (rows : List TypeRow) (n : ℕ) (t : TypeId) → comes_by n rows t t ≡ true
comes_same_by rows zero t = eq-eqb t.0 t.0 refl
comes_same_by rows (suc n) t = ap (λ x. x || on_base (λ c. comes_by n rows c t) (base_of (row_of rows t))) (eq-eqb t.0 t.0 refl)

pub comes_same : (rows : List TypeRow) (t : TypeId) → comes_to rows t t ≡ true
comes_same rows t = comes_same_by rows (length rows) t

-- where more is known of an object
module _ (program : Program) (w : World Sort) (P Q : Made → Type 0) (more : (m : Made) → P m → Q m) where
  pub reference_more : (v : Value) → IsReference program w P v → IsReference program w Q v
  reference_more (Object zero) h = tt
  reference_more (Object (suc o)) h = (h.0, h.1, h.2, more h.0 h.3)
  reference_more (Int z) h = absurd h
  reference_more (Flag b) h = absurd h
  reference_more (Char c) h = absurd h
  reference_more (Set s) h = absurd h
  reference_more (Callable p o) h = absurd h
  reference_more (Place p) h = absurd h

-- NIL, or an object that is made as this
pub record IsMadeAs (program : Program) (w : World Sort) (P : Made → Type 0) (v : Value) : Type 0 where
  pub made : Made
  pub object : IsObject w v made
  pub lengths : HasLengths program (row_of program.types (id_of_made made.type)) made
  pub is : P made

pub nil_or : (program : Program) (w : World Sort) (P : Made → Type 0) (v : Value) → IsReference program w P v → (v ≡ Object 0) ⊎ IsMadeAs program w P v
nil_or program w P (Object zero) h = inl refl
nil_or program w P (Object (suc o)) h = inr (record { made = h.0; object = record { number = o; is = refl; made = h.1 }; lengths = h.2; is = h.3 })
nil_or program w P (Int z) h = absurd h
nil_or program w P (Flag b) h = absurd h
nil_or program w P (Char c) h = absurd h
nil_or program w P (Set s) h = absurd h
nil_or program w P (Callable p o) h = absurd h
nil_or program w P (Place p) h = absurd h

pub made_reference : (program : Program) (w : World Sort) (P : Made → Type 0) (v : Value) (m : Made) → IsObject w v m → HasLengths program (row_of program.types (id_of_made m.type)) m → P m → IsReference program w P v
made_reference program w P v m h l is = subst (IsReference program w P) (sym h.is) (m, h.made, l, is)

-- an object is in a cell that refers to it
pub reference_kind : (program : Program) (w : World Sort) (P : Made → Type 0) (v : Value) → IsReference program w P v → is_of R (cell_of w v) ≡ true
reference_kind program w P (Object o) h = refl
reference_kind program w P (Int z) h = absurd h
reference_kind program w P (Flag b) h = absurd h
reference_kind program w P (Char c) h = absurd h
reference_kind program w P (Set s) h = absurd h
reference_kind program w P (Callable p o) h = absurd h
reference_kind program w P (Place p) h = absurd h

-- a procedure is in a cell of its own kind
pub callable_kind : (program : Program) (w : World Sort) (q : Option Procedure) (v : Value) → IsCallable program w q v → is_of C (cell_of w v) ≡ true
callable_kind program w q (Callable p o) h = refl
callable_kind program w q (Int z) h = absurd h
callable_kind program w q (Flag b) h = absurd h
callable_kind program w q (Char c) h = absurd h
callable_kind program w q (Set s) h = absurd h
callable_kind program w q (Object o) h = absurd h
callable_kind program w q (Place p) h = absurd h

-- a procedure, or NIL
pub record IsProcedureOf (program : Program) (w : World Sort) (q : Option Procedure) (v : Value) : Type 0 where
  pub number : ℕ
  pub object : ℕ
  pub is : v ≡ Callable number object
  pub called : IsCalledBy program w q number object

pub a_callable : (program : Program) (w : World Sort) (q : Option Procedure) (v : Value) → IsCallable program w q v → IsProcedureOf program w q v
a_callable program w q (Callable p o) h = record { number = p; object = o; is = refl; called = h }
a_callable program w q (Int z) h = absurd h
a_callable program w q (Flag b) h = absurd h
a_callable program w q (Char c) h = absurd h
a_callable program w q (Set s) h = absurd h
a_callable program w q (Object o) h = absurd h
a_callable program w q (Place p) h = absurd h

-- what has these formals has all that they have
module _ (program : Program) (w : World Sort) (r q : Procedure) (formals : HasFormals program.types r q) where
  called_more : (n o : ℕ) → IsCalledBy program w (Some r) n o → IsCalledBy program w (Some q) n o
  called_more zero o h = h
  called_more (suc n) o h =
      record {
        home = h.home;
        procedure = h.procedure;
        there = h.there;
        formals = λ x e.
            let same : q ≡ x = cc in
            subst (HasFormals program.types h.procedure) same (formals_twice program h.procedure r q (h.formals r refl) formals);
        instance = h.instance;
      }

  pub callable_more : (v : Value) → IsCallable program w (Some r) v → IsCallable program w (Some q) v
  callable_more (Callable n o) h = called_more n o h
  callable_more (Int z) h = absurd h
  callable_more (Flag b) h = absurd h
  callable_more (Char c) h = absurd h
  callable_more (Set s) h = absurd h
  callable_more (Object o) h = absurd h
  callable_more (Place p) h = absurd h

module _ (program : Program) where
  -- the row of a type whose values are procedures, or NIL
  pub by_procedure : (P : Option TypeRow → Type 0) → ((formals : List (Bool × TypeId)) (r : Option TypeId) → P (Some (row.Procedure formals r))) → (t : TType) → is_procedural program.types t ≡ true → P (row_of program.types (id_of t))
  by_procedure P procedure t e = by (row_of program.types (id_of t)) e
    where
      by : (o : Option TypeRow) → is_procedure o ≡ true → P o
      by None e = absurd (cc)
      by (Some (row.Basic b)) e = absurd (cc)
      by (Some (row.Array n of)) e = absurd (cc)
      by (Some (row.Open of)) e = absurd (cc)
      by (Some (row.Record base fields)) e = absurd (cc)
      by (Some (row.Pointer u)) e = absurd (cc)
      by (Some (row.Object base fields)) e = absurd (cc)
      by (Some (row.Procedure formals r)) e = procedure formals r
      by (Some row.Any) e = absurd (cc)

  -- a type has a procedure that stands for its values
  pub record HasPattern (t : TType) (q : Procedure) : Type 0 where
    pub formals : List (Bool × TypeId)
    pub result : Option TypeId
    pub is : row_of program.types (id_of t) ≡ Some (row.Procedure formals result)
    pub at : pattern_at program (id_of t) ≡ Some q

  pub has_pattern : (t : TType) (q : Procedure) → pattern_of program t ≡ Some q → HasPattern t q
  has_pattern (type.Integer w) q e = absurd (cc)
  has_pattern type.Boolean q e = absurd (cc)
  has_pattern type.Char q e = absurd (cc)
  has_pattern type.Set q e = absurd (cc)
  has_pattern type.Any q e = absurd (cc)
  has_pattern (type.Named t) q e = by (row_of program.types (id_of (type.Named t))) refl e
    where
      by : (o : Option TypeRow) → row_of program.types (id_of (type.Named t)) ≡ o → pattern_in program o t ≡ Some q → HasPattern (type.Named t) q
      by None f e = absurd (cc)
      by (Some (row.Basic b)) f e = absurd (cc)
      by (Some (row.Array n of)) f e = absurd (cc)
      by (Some (row.Open of)) f e = absurd (cc)
      by (Some (row.Record base fields)) f e = absurd (cc)
      by (Some (row.Pointer u)) f e = absurd (cc)
      by (Some (row.Object base fields)) f e = absurd (cc)
      by (Some (row.Procedure formals r)) f e =
          let back : t + predeclared_types - predeclared_types ≡ t = omega arith in
          record { formals = formals; result = r; is = f; at = (λ j. pattern_in program (f j) (back j)) ∙ e }
      by (Some row.Any) f e = absurd (cc)

  -- and that procedure stands beside the type
  pub pattern_object : (t : ℕ) (q : Procedure) → pattern_of program (type.Named t) ≡ Some q → (o : ObjectType) × (slice_get program.objects t ≡ Some o) × (o.body ≡ q)
  pattern_object t q e = by (row_of program.types (id_of (type.Named t))) e
    where
      beside : (x : Option ObjectType) → slice_get program.objects t ≡ x → option_map (λ o. o.body) x ≡ Some q → (o : ObjectType) × (slice_get program.objects t ≡ Some o) × (o.body ≡ q)
      beside None f e = absurd (cc)
      beside (Some o) f e = let same : o.body ≡ q = cc in (o, f, same)

      by : (o : Option TypeRow) → pattern_in program o t ≡ Some q → (o : ObjectType) × (slice_get program.objects t ≡ Some o) × (o.body ≡ q)
      by None e = absurd (cc)
      by (Some (row.Basic b)) e = absurd (cc)
      by (Some (row.Array n of)) e = absurd (cc)
      by (Some (row.Open of)) e = absurd (cc)
      by (Some (row.Record base fields)) e = absurd (cc)
      by (Some (row.Pointer u)) e = absurd (cc)
      by (Some (row.Object base fields)) e = absurd (cc)
      by (Some (row.Procedure formals r)) e = beside (slice_get program.objects t) refl e
      by (Some row.Any) e = absurd (cc)

  -- its values are those that have its formals
  module _ (w : World Sort) (t : TType) (q : Procedure) (v : Value) (e : pattern_of program t ≡ Some q) where
    pub from_pattern : Is program w (Plain (id_of t)) v → IsCallable program w (Some q) v
    from_pattern h =
        let p = has_pattern t q e in
        subst (λ o. IsCallable program w o v) p.at (subst (λ o. IsPlainly program w (id_of t) o v) p.is h)

    pub to_pattern : IsCallable program w (Some q) v → Is program w (Plain (id_of t)) v
    to_pattern h =
        let p = has_pattern t q e in
        subst (λ o. IsPlainly program w (id_of t) o v) (sym p.is) (subst (λ o. IsCallable program w o v) (sym p.at) h)

  -- NIL is of each of them
  pub no_procedure : (w : World Sort) (t : TType) → is_procedural program.types t ≡ true → Is program w (Plain (id_of t)) (Callable 0 0)
  no_procedure w t e = by_procedure (λ o. IsPlainly program w (id_of t) o (Callable 0 0)) (λ f r. refl) t e

  -- and each value a procedure, or NIL
  pub some_callable : (w : World Sort) (t : TType) (v : Value) → is_procedural program.types t ≡ true → Is program w (Plain (id_of t)) v → IsCallable program w (pattern_at program (id_of t)) v
  some_callable w t v e h = by_procedure (λ o. IsPlainly program w (id_of t) o v → IsCallable program w (pattern_at program (id_of t)) v) (λ f r i. i) t e h

  -- the rows of types whose values are objects, or NIL
  pub by_reference : HasPredeclared program → (P : Option TypeRow → Type 0) → ((u : TypeId) → P (Some (row.Pointer u))) → ((base : Option TypeId) (fields : List TypeId) → P (Some (row.Object base fields))) → P (Some row.Any) → (t : TType) → is_reference program.types t ≡ true → P (row_of program.types (id_of t))
  by_reference predeclared P pointer object any t e = by t e
    where
      other : (k : TypeId) (o : Option TypeRow) → is_some (target_in program.types k o) ≡ true → P o
      other k None e = absurd (cc)
      other k (Some (row.Basic b)) e = absurd (cc)
      other k (Some (row.Array n of)) e = absurd (cc)
      other k (Some (row.Open of)) e = absurd (cc)
      other k (Some (row.Record base fields)) e = absurd (cc)
      other k (Some (row.Pointer u)) e = pointer u
      other k (Some (row.Object base fields)) e = object base fields
      other k (Some (row.Procedure formals r)) e = absurd (cc)
      other k (Some row.Any) e = absurd (cc)

      by : (t : TType) → is_reference program.types t ≡ true → P (row_of program.types (id_of t))
      by type.Any e = subst P (sym (predeclared 8 (omega arith))) any
      by (type.Integer w) e = other (id_of (type.Integer w)) (row_of program.types (id_of (type.Integer w))) e
      by type.Boolean e = other (id_of type.Boolean) (row_of program.types (id_of type.Boolean)) e
      by type.Char e = other (id_of type.Char) (row_of program.types (id_of type.Char)) e
      by type.Set e = other (id_of type.Set) (row_of program.types (id_of type.Set)) e
      by (type.Named k) e = other (id_of (type.Named k)) (row_of program.types (id_of (type.Named k))) e

  module _ (w : World Sort) where
    -- NIL is of each of them
    pub nil_value : HasPredeclared program → (t : TType) → is_reference program.types t ≡ true → Is program w (Plain (id_of t)) (Object 0)
    nil_value predeclared t e = by_reference predeclared (λ o. IsPlainly program w (id_of t) o (Object 0)) (λ u. tt) (λ b f. tt) tt t e

    -- and each value an object, or NIL
    pub some_object : HasPredeclared program → (t : TType) (v : Value) → is_reference program.types t ≡ true → Is program w (Plain (id_of t)) v → IsReference program w (λ m. Unit {0}) v
    some_object predeclared t v e h =
        by_reference predeclared (λ o. IsPlainly program w (id_of t) o v → IsReference program w (λ m. Unit {0}) v)
        (λ u. reference_more program w (Extends program (first_same program.types u)) (λ m. Unit {0}) (λ m i. tt) v)
        (λ b f. reference_more program w (Extends program (id_of t)) (λ m. Unit {0}) (λ m i. tt) v) (λ i. i) t e h

    -- the type that its type extends
    pub of_target : (t : TType) (b : TypeId) (v : Value) → target program.types t ≡ Some b → Is program w (Plain (id_of t)) v → IsReference program w (Extends program b) v
    of_target t b v e h = by (row_of program.types (id_of t)) e h
      where
        by : (o : Option TypeRow) → target_in program.types (id_of t) o ≡ Some b → IsPlainly program w (id_of t) o v → IsReference program w (Extends program b) v
        by None e h = absurd (cc)
        by (Some (row.Basic k)) e h = absurd (cc)
        by (Some (row.Array n of)) e h = absurd (cc)
        by (Some (row.Open of)) e h = absurd (cc)
        by (Some (row.Record base fields)) e h = absurd (cc)
        by (Some (row.Pointer u)) e h = let q : first_same program.types u ≡ b = cc in subst (λ x. IsReference program w (Extends program x) v) q h
        by (Some (row.Object base fields)) e h = let q : id_of t ≡ b = cc in subst (λ x. IsReference program w (Extends program x) v) q h
        by (Some (row.Procedure formals r)) e h = absurd (cc)
        by (Some row.Any) e h = absurd (cc)

    pub to_target : (t : TType) (b : TypeId) (v : Value) → target program.types t ≡ Some b → IsReference program w (Extends program b) v → Is program w (Plain (id_of t)) v
    to_target t b v e h = by (row_of program.types (id_of t)) e
      where
        by : (o : Option TypeRow) → target_in program.types (id_of t) o ≡ Some b → IsPlainly program w (id_of t) o v
        by None e = absurd (cc)
        by (Some (row.Basic k)) e = absurd (cc)
        by (Some (row.Array n of)) e = absurd (cc)
        by (Some (row.Open of)) e = absurd (cc)
        by (Some (row.Record base fields)) e = absurd (cc)
        by (Some (row.Pointer u)) e = let q : first_same program.types u ≡ b = cc in subst (λ x. IsReference program w (Extends program x) v) (sym q) h
        by (Some (row.Object base fields)) e = let q : id_of t ≡ b = cc in subst (λ x. IsReference program w (Extends program x) v) (sym q) h
        by (Some (row.Procedure formals r)) e = absurd (cc)
        by (Some row.Any) e = absurd (cc)

    -- any object
    pub to_any : HasPredeclared program → (t : TType) (v : Value) → t ≡ type.Any → IsReference program w (λ m. Unit {0}) v → Is program w (Plain (id_of t)) v
    to_any predeclared t v e h =
        subst (λ u. Is program w (Plain (id_of u)) v) (sym e)
        (subst (λ o. IsPlainly program w (id_of type.Any) o v) (sym (predeclared 8 (omega arith))) h)

    -- a type with all values of another
    pub included_value : HasPredeclared program → (t u : TType) (v : Value) → Includes t u → Is program w (Plain (id_of u)) v → Is program w (Plain (id_of t)) v
    included_value predeclared t u v e h = by t u e h
      where
        basic : (t u : TType) → is_basic t ≡ true → is_basic u ≡ true → Includes t u → Is program w (Plain (id_of u)) v → Is program w (Plain (id_of t)) v
        basic t u bt bu e h = value_to program predeclared t w v bt (included t u v e (value_from program predeclared u w v bu h))

        by : (t u : TType) → Includes t u → Is program w (Plain (id_of u)) v → Is program w (Plain (id_of t)) v
        by (type.Integer x) (type.Integer y) e h = basic (type.Integer x) (type.Integer y) refl refl e h
        by type.Boolean type.Boolean e h = h
        by type.Char type.Char e h = h
        by type.Set type.Set e h = h
        by (type.Named k) (type.Named j) e h = let q = eqb-true k j e in subst (λ i. Is program w (Plain (id_of (type.Named i))) v) (sym q) h
        by (type.Integer x) type.Boolean e h = absurd (cc)
        by (type.Integer x) type.Char e h = absurd (cc)
        by (type.Integer x) type.Set e h = absurd (cc)
        by (type.Integer x) type.Any e h = absurd (cc)
        by (type.Integer x) (type.Named j) e h = absurd (cc)
        by type.Boolean (type.Integer y) e h = absurd (cc)
        by type.Boolean type.Char e h = absurd (cc)
        by type.Boolean type.Set e h = absurd (cc)
        by type.Boolean type.Any e h = absurd (cc)
        by type.Boolean (type.Named j) e h = absurd (cc)
        by type.Char (type.Integer y) e h = absurd (cc)
        by type.Char type.Boolean e h = absurd (cc)
        by type.Char type.Set e h = absurd (cc)
        by type.Char type.Any e h = absurd (cc)
        by type.Char (type.Named j) e h = absurd (cc)
        by type.Set (type.Integer y) e h = absurd (cc)
        by type.Set type.Boolean e h = absurd (cc)
        by type.Set type.Char e h = absurd (cc)
        by type.Set type.Any e h = absurd (cc)
        by type.Set (type.Named j) e h = absurd (cc)
        by type.Any u e h = absurd (cc)
        by (type.Named k) (type.Integer y) e h = absurd (cc)
        by (type.Named k) type.Boolean e h = absurd (cc)
        by (type.Named k) type.Char e h = absurd (cc)
        by (type.Named k) type.Set e h = absurd (cc)
        by (type.Named k) type.Any e h = absurd (cc)

    -- an object of an extension is one of what it extends
    pub extended_value : IsRanked program.types → (b a : TypeId) (v : Value) → comes_to program.types b a ≡ true → IsReference program w (Extends program b) v → IsReference program w (Extends program a) v
    extended_value ranked b a v e h =
        reference_more program w (Extends program b) (Extends program a) (λ m i. comes_on program.types ranked (id_of_made m.type) b a i e) v h

    -- a value fits a variable
    pub fitting_value : HasTypes program → (t u : TType) (v : Value) → Fits program t u → Is program w (Plain (id_of u)) v → Is program w (Plain (id_of t)) v
    fitting_value typed t u v (inl e) h = included_value typed.predeclared t u v e h
    fitting_value typed t u v (inr (inl (is, inl any))) h = to_any typed.predeclared t v any (some_object typed.predeclared u v is h)
    fitting_value typed t u v (inr (inl (is, inr f))) h =
        to_target t f.0 v f.2 (extended_value typed.ranked f.1 f.0 v f.4 (of_target u f.1 v f.3 h))
    fitting_value typed t u v (inr (inr f)) h =
        to_pattern w t f.0 v f.2 (callable_more program w f.1 f.0 f.4 v (from_pattern w u f.1 v f.3 h))

  -- Types whose values are scalars that are built

  either : (b c : Bool) → (b || c) ≡ true → (b ≡ true) ⊎ (c ≡ true)
  either true c e = inl refl
  either false c e = inr e

  abbrev pub IsOfThree : TType → Type 0
  IsOfThree t = (is_basic t ≡ true) ⊎ ((is_reference program.types t ≡ true) ⊎ (is_procedural program.types t ≡ true))

  pub one_of_three : (t : TType) → is_value program.types t ≡ true → IsOfThree t
  one_of_three t e = by (either (is_basic t) (is_reference program.types t || is_procedural program.types t) e)
    where
      by : (is_basic t ≡ true) ⊎ ((is_reference program.types t || is_procedural program.types t) ≡ true) → IsOfThree t
      by (inl basic) = inl basic
      by (inr other) = inr (either (is_reference program.types t) (is_procedural program.types t) other)

  -- a type of objects is one
  pub reference_value : (t : TType) → is_reference program.types t ≡ true → is_value program.types t ≡ true
  reference_value t e = by (is_basic t) (is_reference program.types t) (is_procedural program.types t) e
    where
      by : (a b c : Bool) → b ≡ true → (a || (b || c)) ≡ true
      by true b c e = refl
      by false true c e = refl
      by false false c e = absurd (cc)

  -- a variable of one is a scalar
  pub value_is_one : HasPredeclared program → (t : TType) → is_value program.types t ≡ true → IsOne program t
  value_is_one predeclared t e = by (one_of_three t e)
    where
      by : IsOfThree t → IsOne program t
      by (inl basic) = basic_is_one program predeclared t basic
      by (inr (inr is)) =
          by_procedure (λ o. row_of program.types (id_of t) ≡ o → IsOne program t) (λ fs r f. procedure_variable program.types (id_of t) fs r f) t is refl
      by (inr (inl is)) =
          by_reference predeclared (λ o. row_of program.types (id_of t) ≡ o → IsOne program t)
          (λ u f. pointer_variable program.types (id_of t) u f)
          (λ b fs f. object_variable program.types (id_of t) (ap is_object f))
          (λ f. any_variable program.types (id_of t) f) t is refl

  -- and it is no record
  pub value_no_record : HasPredeclared program → (t : TType) → is_value program.types t ≡ true → is_record (row_of program.types (id_of t)) ≡ false
  value_no_record predeclared t e = by (one_of_three t e)
    where
      by : IsOfThree t → is_record (row_of program.types (id_of t)) ≡ false
      by (inl basic) = ap is_record (basic_row program predeclared t basic)
      by (inr (inr is)) = by_procedure (λ o. is_record o ≡ false) (λ f r. refl) t is
      by (inr (inl is)) = by_reference predeclared (λ o. is_record o ≡ false) (λ u. refl) (λ b f. refl) refl t is

  -- values of it are scalars
  pub value_scalar : HasPredeclared program → (t : TType) → is_value program.types t ≡ true → is_scalar (row_of program.types (id_of t)) ≡ true
  value_scalar predeclared t e = by (one_of_three t e)
    where
      by : IsOfThree t → is_scalar (row_of program.types (id_of t)) ≡ true
      by (inl basic) = ap is_scalar (basic_row program predeclared t basic)
      by (inr (inr is)) = by_procedure (λ o. is_scalar o ≡ true) (λ f r. refl) t is
      by (inr (inl is)) = by_reference predeclared (λ o. is_scalar o ≡ true) (λ u. refl) (λ b f. refl) refl t is

  -- a value of a type is in a cell of the kind that its code takes
  pub stored_kind : HasPredeclared program → (t : TType) → is_value program.types t ≡ true → (w : World Sort) (v : Value) → Is program w (Plain (id_of t)) v → is_of (kind_of program.types t) (cell_of w v) ≡ true
  stored_kind predeclared (type.Integer x) e w v h = ap (is_of N) (number_cell w (type.Integer x) v (value_from program predeclared (type.Integer x) w v refl h))
  stored_kind predeclared type.Boolean e w v h = ap (is_of N) (number_cell w type.Boolean v (value_from program predeclared type.Boolean w v refl h))
  stored_kind predeclared type.Char e w v h = ap (is_of N) (number_cell w type.Char v (value_from program predeclared type.Char w v refl h))
  stored_kind predeclared type.Set e w v h = ap (is_of N) (number_cell w type.Set v (value_from program predeclared type.Set w v refl h))
  stored_kind predeclared type.Any e w v h = reference_kind program w (λ m. Unit {0}) v (some_object w predeclared type.Any v e h)
  stored_kind predeclared (type.Named k) e w v h = by (is_procedural program.types (type.Named k)) refl
    where
      kind : Bool → Kind
      kind b = if b then C else R

      refers : is_procedural program.types (type.Named k) ≡ false → (is_reference program.types (type.Named k) ≡ true) ⊎ (is_procedural program.types (type.Named k) ≡ true) → is_reference program.types (type.Named k) ≡ true
      refers isnt (inl is) = is
      refers isnt (inr is) = absurd (false≢true (sym isnt ∙ is))

      by : (b : Bool) → is_procedural program.types (type.Named k) ≡ b → is_of (kind_of program.types (type.Named k)) (cell_of w v) ≡ true
      by true is =
          ap (λ b. is_of (kind b) (cell_of w v)) is
          ∙ callable_kind program w (pattern_at program (id_of (type.Named k))) v (some_callable w (type.Named k) v is h)
      by false isnt =
          ap (λ b. is_of (kind b) (cell_of w v)) isnt
          ∙ reference_kind program w (λ m. Unit {0}) v
          (some_object w predeclared (type.Named k) v (refers isnt (either (is_reference program.types (type.Named k)) (is_procedural program.types (type.Named k)) e)) h)
