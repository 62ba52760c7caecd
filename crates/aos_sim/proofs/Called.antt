-- A call: the shape of the procedure says what the code takes from the stack and gives, and a method is called on the object below.
use Rattle.std.proofs.Common.{◌≡◌, ℕ, zero, suc, ℤ, pos, List, [], ◌∷◌, ◌++◌, length, map, Bool, true, false, Option, Some, None, if◌then◌else◌, refl, sym, ap, ◌∙◌, subst, arith, append-nil}
use Rattle.std.specs.Prelude.{option_map, reverse, replicate, is_some, not}
use Rattle.std.proofs.lemmas.List.{map-append}
use Rattle.std.proofs.lemmas.Grind.{reverse_onto}
use Rattle.aos_base.specs.declared.number.Width.TheVariants.{W8, W16, W32, W64}
use Rattle.aos_base.specs.Question.{ByName, Asks, Traps, Calls, Opens}
use Rattle.aos_types.specs.declared.row.Basic.{Basic}
use Rattle.aos_types.specs.declared.row.Basic.TheVariants as basic
use Rattle.aos_types.specs.declared.row.TypeId.{TypeId}
use Rattle.aos_types.specs.declared.row.TypeRow.{TypeRow}
use Rattle.aos_types.specs.declared.row.TypeRow.TheVariants as row
use Rattle.aos_types.specs.Shape.{size}
use Rattle.aos_types.specs.Table.{row_of, is_open, is_record, is_scalar}
use Rattle.aos_types.specs.World.{World}
use Rattle.aos_typed.specs.declared.tree.TType.{TType}
use Rattle.aos_typed.specs.declared.tree.TType.TheVariants as type
use Rattle.aos_typed.specs.Program.{Parameter, Procedure, Program}
use Rattle.aos_typed.specs.Numbers.{id_of}
use Rattle.aos_typed.specs.Open.{open_dimensions, open_element, first_same}
use Rattle.aos_typed.specs.Sort.{Sort, Variable, Alias}
use Rattle.aos_typed.specs.Value.{Value, Int, Flag, Char, Set, Object, Callable, Place}
use Rattle.aos_typed.specs.Typing.{IsBasic, pattern_at, IsPlainly, Extends, Is}
use Rattle.aos_typed.specs.WellTyped.{is_basic}
use Rattle.aos_typed.specs.Meaning.{Here}
use Rattle.aos_layout.specs.Frame.{parameter_kind}
use Rattle.aos_layout.specs.Layout.{kind_in, kind_of, cells}
use Rattle.aos_layout.specs.Seen.{seen_shape}
use Rattle.aos_code.specs.declared.image.ParamKind.{ParamKind}
use Rattle.aos_code.specs.declared.image.ParamKind.TheVariants as param
use Rattle.aos_code.specs.declared.image.ProcShape.{ProcShape}
use Rattle.aos_base.specs.Rooted.{by_number}
use Rattle.aos_typed.specs.Routines.{routine_of, routines}
use Rattle.aos_code.specs.declared.instr.Cell.{Cell}
use Rattle.aos_code.specs.declared.instr.Cell.TheVariants.{Ref, Call as CallCell}
use Rattle.aos_code.specs.declared.instr.Instr.{Instr}
use Rattle.aos_code.specs.declared.instr.Instr.TheVariants as i
use Rattle.aos_code.specs.declared.instr.Kind.{Kind}
use Rattle.aos_code.specs.declared.instr.Kind.TheVariants.{N, R, A}
use Rattle.aos_code.specs.Numbered.{numbered}
use Rattle.aos_code.specs.Silent.{Stack, Keeps, Act, Looks, AtSlot, Stops, lost, is_of, kinds_of, on_kind, on_kinds, on_arguments, on_receiver, on_callable, applies, applies_as, calls_value, called as called_on, calls, sends, invoked, method_at}
use Rattle.aos_sim.specs.Cells.{cell_of}
use Rattle.aos_sim.specs.Shows.{shape_of}
use Rattle.aos_sim.proofs.Runs.{Run, Tables, gives_result, type_at, invokes, on_run, at_work, runs}
use Rattle.aos_sim.proofs.Types.{basic_of, number_cell, from_basic}
use Rattle.aos_sim.proofs.Does.{HasShapes, Handles, Given}
use Rattle.aos_sim.proofs.References.{reference_kind, callable_kind}
use Rattle.aos_sim.proofs.Evaluates.{pushed}

-- What lies on the stack for a call.

-- cells are of these kinds
abbrev pub AreOf : List Kind → List Cell → Type 0
AreOf [] [] = Unit {0}
AreOf [] (v ∷ vs) = ⊥
AreOf (k ∷ ks) [] = ⊥
AreOf (k ∷ ks) (v ∷ vs) = (is_of k v ≡ true) × AreOf ks vs

pub are_both : (ks js : List Kind) (vs us : List Cell) → AreOf ks vs → AreOf js us → AreOf (ks ++ js) (vs ++ us)
are_both [] js [] us h g = g
are_both [] js (v ∷ vs) us h g = absurd h
are_both (k ∷ ks) js [] us h g = absurd h
are_both (k ∷ ks) js (v ∷ vs) us h g = (h.0, are_both ks js vs us h.1 g)

pub are_reversed : (ks : List Kind) (vs : List Cell) → AreOf ks vs → AreOf (reverse ks) (reverse vs)
are_reversed [] [] h = tt
are_reversed [] (v ∷ vs) h = absurd h
are_reversed (k ∷ ks) [] h = absurd h
are_reversed (k ∷ ks) (v ∷ vs) h =
    subst (λ l. AreOf l (reverse (v ∷ vs))) (sym (reverse_onto ks k []))
    (subst (λ l. AreOf (reverse ks ++ k ∷ []) l) (sym (reverse_onto vs v [])) (are_both (reverse ks) (k ∷ []) (reverse vs) (v ∷ []) (are_reversed ks vs h.1) (h.0, tt)))

-- as many as the kinds
pub are_many : (ks : List Kind) (vs : List Cell) → AreOf ks vs → length vs ≡ length ks
are_many [] [] h = refl
are_many [] (v ∷ vs) h = absurd h
are_many (k ∷ ks) [] h = absurd h
are_many (k ∷ ks) (v ∷ vs) h = ap (λ n. suc n) (are_many ks vs h.1)

-- the last of these operands are taken first
on_both : (ks js : List Kind) (vs : List Cell) (f : List Cell → Stack → Act) (s : Stack) → on_kinds (ks ++ js) vs f s ≡ on_kinds ks vs (λ us s'. on_kinds js us f s') s
on_both [] js vs f s = refl
on_both (k ∷ ks) js vs f [] = refl
on_both (k ∷ ks) js vs f (v ∷ s) = ap (λ a. if is_of k v then a else Stops lost) (on_both ks js (v ∷ vs) f s)

pub on_pushed : (ks : List Kind) (vs us : List Cell) (f : List Cell → Stack → Act) (s : Stack) → AreOf ks vs → on_kinds (reverse ks) us f (pushed vs s) ≡ f (vs ++ us) s
on_pushed [] [] us f s h = refl
on_pushed [] (v ∷ vs) us f s h = absurd h
on_pushed (k ∷ ks) [] us f s h = absurd h
on_pushed (k ∷ ks) (v ∷ vs) us f s h =
    ap (λ l. on_kinds l us f (pushed vs (v ∷ s))) (reverse_onto ks k [])
    ∙ on_both (reverse ks) (k ∷ []) us f (pushed vs (v ∷ s))
    ∙ on_pushed ks vs us (λ us' s'. on_kind k (λ x s2. f (x ∷ us') s2) s') (v ∷ s) h.1
    ∙ rw h.0 refl

-- a value of a type is in a cell of the type's kind
module _ (program : Program) (w : World Sort) where
  is_number : (v : Value) (z : ℤ) → v ≡ Int z → is_of N (cell_of w v) ≡ true
  is_number v z e = subst (λ x. is_of N (cell_of w x) ≡ true) (sym e) refl

  is_reference : (v : Value) (o : ℕ) → v ≡ Object o → is_of R (cell_of w v) ≡ true
  is_reference v o e = subst (λ x. is_of R (cell_of w x) ≡ true) (sym e) refl

  of_type : (t : TType) (v : Value) → is_basic t ≡ true → IsBasic (basic_of t) v → is_of N (cell_of w v) ≡ true
  of_type t v e h = ap (is_of N) (number_cell w t v (from_basic t v e h))

  of_basic : (b : Basic) (v : Value) → IsBasic b v → is_of (kind_in (Some (row.Basic b))) (cell_of w v) ≡ true
  of_basic basic.ShortInt v h = of_type (type.Integer W8) v refl h
  of_basic basic.Integer v h = of_type (type.Integer W16) v refl h
  of_basic basic.LongInt v h = of_type (type.Integer W32) v refl h
  of_basic basic.HugeInt v h = of_type (type.Integer W64) v refl h
  of_basic basic.Boolean v h = of_type type.Boolean v refl h
  of_basic basic.Char v h = of_type type.Char v refl h
  of_basic basic.Set v h = of_type type.Set v refl h
  of_basic basic.Nil v h = is_reference v 0 h
  of_basic (basic.Text n) v h = is_number v (pos 0) h

  pub kind_of_value : (t : TypeId) (o : Option TypeRow) (v : Value) → IsPlainly program w t o v → is_of (kind_in o) (cell_of w v) ≡ true
  kind_of_value t None v h = is_number v (pos 0) h
  kind_of_value t (Some (row.Basic b)) v h = of_basic b v h
  kind_of_value t (Some (row.Array n of)) v h = is_number v (pos 0) h
  kind_of_value t (Some (row.Open of)) v h = is_number v (pos 0) h
  kind_of_value t (Some (row.Record base fields)) v h = is_number v (pos 0) h
  kind_of_value t (Some (row.Pointer to)) v h = reference_kind program w (Extends program (first_same program.types to)) v h
  kind_of_value t (Some (row.Object base fields)) v h = reference_kind program w (Extends program t) v h
  kind_of_value t (Some (row.Procedure formals r)) v h = callable_kind program w (pattern_at program t) v h
  kind_of_value t (Some row.Any) v h = reference_kind program w (λ m. Unit {0}) v h

module _ (program : Program) where
  -- the kinds of what is handed over for a parameter
  abbrev pub kinds_for : (opens by_reference one : Bool) → TypeId → List Kind
  kinds_for true b c t = A ∷ replicate (open_dimensions program.types t) N
  kinds_for false true c t = A ∷ []
  kinds_for false false true t = kind_of program.types t ∷ []
  kinds_for false false false t = A ∷ []

  kinds_behind : (o b c : Bool) (t : TypeId) (d n m : ℕ) (v : Bool) (ps : List ParamKind) → d ≡ open_dimensions program.types t → kinds_of ((if o then param.Open d v n else if b then param.Place else if c then param.Scalar (kind_of program.types t) else param.Whole m) ∷ ps) ≡ kinds_for o b c t ++ kinds_of ps
  kinds_behind true b c t d n m v ps e = ap (λ d. A ∷ (replicate d N ++ kinds_of ps)) e
  kinds_behind false true c t d n m v ps e = refl
  kinds_behind false false true t d n m v ps e = refl
  kinds_behind false false false t d n m v ps e = refl

  pub kinds_first : (a : Parameter) (ps : List ParamKind) → let t = id_of a.of in kinds_of (parameter_kind program.types a ∷ ps) ≡ kinds_for (is_open (row_of program.types t)) a.by_reference (is_scalar (row_of program.types t)) t ++ kinds_of ps
  kinds_first a ps =
      let t = id_of a.of in
      kinds_behind (is_open (row_of program.types t)) a.by_reference (is_scalar (row_of program.types t)) t (open_dimensions program.types t) (size (cells program.types (open_element program.types t))) (size (cells program.types t)) (not a.by_reference) ps refl

  module _ (w : World Sort) where
    lengths_are : (ns : List ℕ) (d : ℕ) → length ns ≡ d → AreOf (replicate d N) (map (cell_of w) (map (λ n. Int (pos n)) ns))
    lengths_are [] zero e = tt
    lengths_are [] (suc d) e = absurd (cc)
    lengths_are (n ∷ ns) zero e = absurd (cc)
    lengths_are (n ∷ ns) (suc d) e = (refl, lengths_are ns d (omega (arith, e)))

    -- what a VAR parameter stands for is a place
    alias_kind : (b : Bool) (t : TypeId) (v : Value) → Is program w (if b then Variable t else Alias t) v → is_of A (cell_of w v) ≡ true
    alias_kind b t (Place p) h = refl
    alias_kind true t (Int z) h = absurd h
    alias_kind true t (Flag b) h = absurd h
    alias_kind true t (Char c) h = absurd h
    alias_kind true t (Set s) h = absurd h
    alias_kind true t (Object o) h = absurd h
    alias_kind true t (Callable p o) h = absurd h
    alias_kind false t (Int z) h = absurd h
    alias_kind false t (Flag b) h = absurd h
    alias_kind false t (Char c) h = absurd h
    alias_kind false t (Set s) h = absurd h
    alias_kind false t (Object o) h = absurd h
    alias_kind false t (Callable p o) h = absurd h

    handled : (o b c : Bool) (t : TypeId) (us : List Value) → Handles program o b c w t us → AreOf (kinds_for o b c t) (map (cell_of w) us)
    handled true b c t us h =
        subst (λ us. AreOf (kinds_for true b c t) (map (cell_of w) us)) (sym h.2) (refl, lengths_are h.1 (open_dimensions program.types t) h.3)
    handled false true c t us h = subst (λ us. AreOf (A ∷ []) (map (cell_of w) us)) (sym h.1) (alias_kind (is_record (row_of program.types t)) t h.0 h.2, tt)
    handled false false true t us h =
        subst (λ us. AreOf (kind_of program.types t ∷ []) (map (cell_of w) us)) (sym h.1) (kind_of_value program w t (row_of program.types t) h.0 h.2, tt)
    handled false false false t us h = subst (λ us. AreOf (A ∷ []) (map (cell_of w) us)) (sym h.1) (refl, tt)

    pub given_are : (as' : List Parameter) (vs : List Value) → Given program w as' vs → AreOf (kinds_of (map (parameter_kind program.types) as')) (map (cell_of w) vs)
    given_are [] vs h = subst (λ vs. AreOf [] (map (cell_of w) vs)) (sym h) tt
    given_are (a ∷ as') vs h =
        let t = id_of a.of in
        let o = is_open (row_of program.types t) in
        let c = is_scalar (row_of program.types t) in
        let ps = map (parameter_kind program.types) as' in
        let both = are_both (kinds_for o a.by_reference c t) (kinds_of ps) (map (cell_of w) h.0) (map (cell_of w) h.1) (handled o a.by_reference c t h.0 h.3) (given_are as' h.1 h.4) in
        subst (λ ks. AreOf ks (map (cell_of w) vs)) (sym (kinds_first a ps))
        (subst (λ us. AreOf (kinds_for o a.by_reference c t ++ kinds_of ps) us) (sym (map-append (cell_of w) h.0 h.1) ∙ ap (map (cell_of w)) (sym h.2)) both)

  -- a routine of this number, and what it is called with
  module _ (tables : Tables) (shaped : HasShapes program tables) (n home : ℕ) (q : Procedure) (there : by_number n (routines program) ≡ Some (routine_of home q)) where
    abbrev pub known : (x : ProcShape) × (numbered tables.procedures n ≡ Some x) × (seen_shape x ≡ shape_of program.types (routine_of home q))
    known = shaped.shapes n (routine_of home q) there

    abbrev pub shape : ProcShape
    shape = known.0

    pub method_is : shape.method ≡ is_some q.of
    method_is = ap (λ z. z.method) known.2

    -- behind a call the code goes on with a function's result, and without one behind a procedure
    pub call_gives : gives_result (numbered tables.procedures n) ≡ is_some q.result
    call_gives = ap gives_result known.1 ∙ ap (λ z. is_some z.result) known.2 ∙ of_result q.result
      where
        of_result : (r : Option TType) → is_some (option_map (λ t. kind_of program.types (id_of t)) r) ≡ is_some r
        of_result None = refl
        of_result (Some t) = refl

    module _ (here : Here) (w : World Sort) (vs : List Value) (given : Given program w q.parameters vs) where
      abbrev cells_given : List Cell
      cells_given = map (cell_of w) vs

      -- what is given lies on the stack
      taken : (g : List Cell → Stack → Act) (s : Stack) → on_arguments shape g (pushed cells_given s) ≡ g cells_given s
      taken g s =
          let params : shape.params.items ≡ map (parameter_kind program.types) q.parameters = ap (λ z. z.params) known.2 in
          ap (λ ps. on_kinds (reverse (kinds_of ps)) [] g (pushed cells_given s)) params
          ∙ on_pushed (kinds_of (map (parameter_kind program.types) q.parameters)) cells_given [] g s (given_are w q.parameters vs given)
          ∙ ap (λ us. g us s) (append-nil cells_given)

      abbrev arguments_called : Bool → List Cell → Stack → Act
      arguments_called b us s' = called_on b n us s'

      module _ (number : ℕ) (code rest : List Instr) (p : ℕ) (ks : Keeps) (s : Stack) where
        abbrev goes : Act → Run
        goes a = on_run tables a (runs tables number here code rest) p ks

        abbrev work : List Cell → Run
        work us = at_work tables (Calls ByName n us) p ks s (runs tables number here code rest)

        -- the code asks for the call of a procedure
        pub plain_asks : q.of ≡ None → runs tables number here code (i.Call n ∷ rest) 0 p ks (pushed cells_given s) ≡ work cells_given
        plain_asks none =
            ap (λ f. goes (calls f n (pushed cells_given s))) known.1 ∙ ap goes (taken (arguments_called shape.method) s)
            ∙ ap (λ b. goes (called_on b n cells_given s)) (method_is ∙ ap is_some none)

        -- of a method on an object
        pub method_asks : (t o : ℕ) → q.of ≡ Some t → runs tables number here code (i.Call n ∷ rest) 0 p ks (pushed cells_given (Ref (suc o) ∷ s)) ≡ work (Ref (suc o) ∷ cells_given)
        method_asks t o some =
            ap (λ f. goes (calls f n (pushed cells_given (Ref (suc o) ∷ s)))) known.1 ∙ ap goes (taken (arguments_called shape.method) (Ref (suc o) ∷ s))
            ∙ ap (λ b. goes (called_on b n cells_given (Ref (suc o) ∷ s))) (method_is ∙ ap is_some some)

        abbrev sent : ℕ → List Cell → Stack → Act
        sent k us s' = on_receiver (λ o s''. Looks (AtSlot k n us) o s'') s'

        -- of what an object has in a slot; at NIL it is a trap
        pub nil_fails : (k : ℕ) → runs tables number here code (i.Virtual k n ∷ rest) 0 p ks (pushed cells_given (Ref 0 ∷ s)) ≡ Traps 1 0
        nil_fails k = ap (λ f. goes (sends f k n (pushed cells_given (Ref 0 ∷ s)))) known.1 ∙ ap goes (taken (sent k) (Ref 0 ∷ s))

        pub slot_asks : (k o : ℕ) → runs tables number here code (i.Virtual k n ∷ rest) 0 p ks (pushed cells_given (Ref (suc o) ∷ s)) ≡ Asks (Opens (Ref (suc o))) (λ x. invokes (invoked tables.procedures n (method_at tables.types (type_at x) k) (suc o) cells_given) (λ z. at_work tables z p ks s (runs tables number here code rest)))
        slot_asks k o = ap (λ f. goes (sends f k n (pushed cells_given (Ref (suc o) ∷ s)))) known.1 ∙ ap goes (taken (sent k) (Ref (suc o) ∷ s))

        abbrev applied_to : List Cell → Stack → Act
        applied_to us s' = on_callable (λ a o s''. applies tables.procedures shape a o us s'') s'

        -- of what a procedure value stands for; at NIL it is a trap
        pub none_applied : (o : ℕ) → runs tables number here code (i.CallValue n ∷ rest) 0 p ks (pushed cells_given (CallCell 0 o ∷ s)) ≡ Traps 1 0
        none_applied o = ap (λ f. goes (calls_value tables.procedures f (pushed cells_given (CallCell 0 o ∷ s)))) known.1 ∙ ap goes (taken applied_to (CallCell 0 o ∷ s))

        pub value_asks : (a o : ℕ) → runs tables number here code (i.CallValue n ∷ rest) 0 p ks (pushed cells_given (CallCell (suc a) o ∷ s)) ≡ goes (applies_as (numbered tables.procedures (suc a)) shape (suc a) o cells_given s)
        value_asks a o = ap (λ f. goes (calls_value tables.procedures f (pushed cells_given (CallCell (suc a) o ∷ s)))) known.1 ∙ ap goes (taken applied_to (CallCell (suc a) o ∷ s))
