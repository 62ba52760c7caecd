-- The code of a designator and of an expression, from its last instruction to its first.
use Rattle.std.specs.Prelude.{ℕ, suc, pos, ◌+◌, ◌-◌, Option, None, Some, List, [], ◌∷◌, ◌++◌, length, map, reverse}
use Rattle.aos_base.specs.declared.operator.Unary.TheVariants.{Range}
use Rattle.aos_base.specs.declared.operator.Binary.TheVariants.{SetSpan}
use Rattle.aos_typed.specs.Program.{Place, ModuleVar, Local, Passed, Field, Index, Of, Deref, Typed, Guarded, Rows, Known, Opened, Row, Spread, Longer, Arguments, NoMore, Scalar, Whole, Opening, Callee, Plain, Dispatched, Upper, Through, Expr, Lit, SelfRef, Read, Unary, Binary, And, Or, Element, Ord, Chr, CompareTexts, Len, LenBehind, Function, Same, Is, IsRecord, Guard, ProcedureOf, MethodOf, SameProcedure, Had, Procedure, Program}
use Rattle.aos_code.specs.declared.instr.Instr.{Instr}
use Rattle.aos_code.specs.declared.instr.Instr.TheVariants.{Num, Proc, Bind, EqCall, SelfRef as SelfOf, Deref as DerefOf, OpenRef, EqRef, Is as IsOf, IsPlace, Guard as GuardOf, GuardPlace, Dup, Frame as FrameOf, Param, Module, Offset, Index as IndexOf, IndexOpen, PickLen, Unary as OnOne, Binary as OnTwo, Jump, JumpFalse, Load, CmpText}
use Rattle.aos_typed.specs.Numbers.{procedure_number}
use Rattle.aos_typed.specs.Seen.{seen_place, seen_rows, seen_list, seen_callee, seen_expr}
use Rattle.aos_dispatch.specs.declared.prefixes.Prefix.{Prefix}
use Rattle.aos_dispatch.specs.declared.prefixes.Prefix.TheVariants.{Value, Place as Located, Rows as Spanned}
use Rattle.aos_emit_expr.specs.declared.sources.Source.{Source}
use Rattle.aos_emit_expr.specs.declared.sources.Source.TheVariants as sources
use Rattle.aos_emit_expr.specs.declared.forms.Form.{Form}
use Rattle.aos_emit_expr.specs.declared.forms.Form.TheVariants as forms
use Rattle.aos_sim.specs.Code.{literal_code, call_instr, kind_of, variable_cell, own_cell, field_cell, cells_of, dimensions, lengths_code, drops}

-- what stands first of a form
abbrev pub first_of : Form → Option Source
first_of (forms.Part f) = Some (sources.Prefix f)
first_of (forms.Alone i) = None
first_of (forms.One f i) = Some (sources.Prefix f)
first_of (forms.Two f g i) = Some (sources.Prefix f)
first_of (forms.And a b) = Some (sources.Prefix (Value a))
first_of (forms.Or a b) = Some (sources.Prefix (Value a))
first_of (forms.Element a) = Some (sources.Prefix (Value a))
first_of (forms.Length r d n) = Some (sources.Prefix (Spanned r))
first_of (forms.Lengths f ns) = Some (sources.Prefix f)
first_of (forms.Opened k j) = None
first_of (forms.Call s i as') = s
first_of (forms.Handed as') = None

-- in a program, whose variables have their cells, in the body of this procedure or of none
module _ (program : Program) (own : Option Procedure) where
  -- These instructions and those of a designator or an expression before them, from the last one to the first. A jump has the
  -- number of instructions from its target to the end.
  abbrev mutual
    pub back_place : Place → List Instr → List Instr
    back_place (ModuleVar m i) behind = behind ++ Module m (variable_cell program own m i) ∷ []
    back_place (Local k) behind = behind ++ FrameOf (own_cell program own k) ∷ []
    back_place (Passed k) behind = behind ++ Param (own_cell program own k) ∷ []
    back_place (Of r) behind = back_rows r behind
    back_place (Deref e t) behind = back_code e (behind ++ DerefOf 0 ∷ [])
    back_place (Typed p t) behind = back_place p (behind ++ Offset 0 (t + 1) ∷ [])
    back_place (Guarded p t) behind = back_place p (behind ++ GuardPlace (t + 1) ∷ [])
    back_place (Field p t k) behind = back_place p (behind ++ Offset (field_cell program own t k) 0 ∷ [])
    back_place (Index p n t e) behind = back_place p (back_code e (behind ++ IndexOf n (cells_of program own t) ∷ []))

    pub back_rows : Rows → List Instr → List Instr
    back_rows (Known p ns) behind = back_place p (behind ++ reverse (map (λ n. Num (pos n)) ns))
    back_rows (Opened k j) behind =
        behind ++ reverse (Param (own_cell program own k) ∷ lengths_code (suc (own_cell program own k)) j)
    back_rows (Row r t e) behind = back_rows r (back_code e (behind ++ IndexOpen (dimensions r) (cells_of program own t) ∷ []))
    back_rows (Spread e j) behind = back_code e (behind ++ OpenRef j ∷ [])
    back_rows (Longer r ns) behind = back_rows r (behind ++ reverse (map (λ n. Num (pos n)) ns))

    -- the last argument comes first
    pub back_arguments : Arguments → List Instr → List Instr
    back_arguments NoMore behind = behind
    back_arguments (Scalar e more) behind = back_code e (back_arguments more behind)
    back_arguments (Whole p more) behind = back_place p (back_arguments more behind)
    back_arguments (Opening r more) behind = back_rows r (back_arguments more behind)

    pub back_receiver : Callee → List Instr → List Instr
    back_receiver (Plain m k) behind = behind
    back_receiver (Dispatched e t k) behind = back_code e behind
    back_receiver (Upper t k) behind = behind ++ SelfOf ∷ []
    back_receiver (Through e t) behind = back_code e behind

    pub back_code : Expr → List Instr → List Instr
    back_code (Lit l) behind = behind ++ literal_code l ∷ []
    back_code SelfRef behind = behind ++ SelfOf ∷ []
    back_code (Read t p) behind = back_place p (behind ++ Load (kind_of program.types t) ∷ [])
    back_code (Unary op a) behind = back_code a (behind ++ OnOne op ∷ [])
    back_code (Binary op a b) behind = back_code a (back_code b (behind ++ OnTwo op ∷ []))
    back_code (And a b) behind =
        let second = back_code b (behind ++ Num (pos 0) ∷ Jump (length behind) ∷ []) in
        back_code a (second ++ JumpFalse (length behind + 1) ∷ [])
    back_code (Or a b) behind =
        let second = back_code b behind in
        back_code a (second ++ Jump (length behind) ∷ Num (pos 1) ∷ JumpFalse (length second) ∷ [])
    back_code (Element a) behind = back_code a (behind ++ OnTwo SetSpan ∷ Dup ∷ [])
    back_code (Ord a) behind = back_code a behind
    back_code (Chr a) behind = back_code a (behind ++ OnOne (Range (pos 0) (pos 255)) ∷ [])
    back_code (CompareTexts r a b) behind = back_rows a (back_rows b (behind ++ CmpText r ∷ []))
    back_code (Len r d) behind = back_rows r (behind ++ PickLen d (dimensions r) ∷ [])
    back_code (LenBehind r n) behind = back_rows r (behind ++ Num (pos n) ∷ drops (suc (dimensions r)))
    back_code (Function c more) behind = back_receiver c (back_arguments more (behind ++ call_instr program c ∷ []))
    back_code (Same a b) behind = back_code a (back_code b (behind ++ EqRef ∷ []))
    back_code (Is a t) behind = back_code a (behind ++ IsOf (t + 1) ∷ [])
    back_code (IsRecord p t) behind = back_place p (behind ++ IsPlace (t + 1) ∷ [])
    back_code (Guard a t) behind = back_code a (behind ++ GuardOf (t + 1) ∷ [])
    back_code (ProcedureOf m k) behind = behind ++ Proc (procedure_number program m k) ∷ []
    back_code (MethodOf a t k) behind = back_code a (behind ++ Bind k ∷ [])
    back_code (SameProcedure a b) behind = back_code a (back_code b (behind ++ EqCall ∷ []))
    back_code (Had v) behind = behind

  -- the second operand of `&` with what stands around it, and that of OR with what stands before it
  abbrev pub back_and : Expr → List Instr → List Instr
  back_and b behind = back_code b (behind ++ Num (pos 0) ∷ Jump (length behind) ∷ []) ++ JumpFalse (length behind + 1) ∷ []

  abbrev pub back_or : Expr → List Instr → List Instr
  back_or b behind =
      let second = back_code b behind in second ++ Jump (length behind) ∷ Num (pos 1) ∷ JumpFalse (length second) ∷ []

  -- what code is emitted of, if anything is left
  abbrev pub back_front : Prefix → List Instr → List Instr
  back_front (Value e) behind = back_code (seen_expr e.now) behind
  back_front (Located p) behind = back_place (seen_place p.now) behind
  back_front (Spanned r) behind = back_rows (seen_rows r.now) behind

  abbrev pub back_source : Source → List Instr → List Instr
  back_source (sources.Prefix f) behind = back_front f behind
  back_source (sources.Call c as') behind = back_code (Function (seen_callee c.now) (seen_list as'.now)) behind
  back_source (sources.Handed as') behind = back_arguments (seen_list as'.now) behind
  back_source sources.SelfRef behind = back_code SelfRef behind

  abbrev pub back_first : Option Source → List Instr → List Instr
  back_first None behind = behind
  back_first (Some s) behind = back_source s behind

  -- what a form has behind what stands first of it, and all of it
  abbrev pub back_last : Form → List Instr → List Instr
  back_last (forms.Part f) behind = behind
  back_last (forms.Alone i) behind = behind ++ i ∷ []
  back_last (forms.One f i) behind = behind ++ i ∷ []
  back_last (forms.Two f g i) behind = back_front g (behind ++ i ∷ [])
  back_last (forms.And a b) behind = back_and (seen_expr b.now) behind
  back_last (forms.Or a b) behind = back_or (seen_expr b.now) behind
  back_last (forms.Element a) behind = behind ++ OnTwo SetSpan ∷ Dup ∷ []
  back_last (forms.Length r d n) behind = behind ++ Num (pos n) ∷ drops (suc d)
  back_last (forms.Lengths f ns) behind = behind ++ reverse (map (λ n. Num (pos n)) ns.now)
  back_last (forms.Opened k j) behind = behind ++ reverse (Param k ∷ lengths_code (suc k) j)
  back_last (forms.Call s i as') behind = back_arguments (seen_list as'.now) (behind ++ i ∷ [])
  back_last (forms.Handed as') behind = back_arguments (seen_list as'.now) behind

  abbrev pub back_form : Form → List Instr → List Instr
  back_form form behind = back_first (first_of form) (back_last form behind)

-- the same instruction, where the code ends at this place: a jump has its target's place
abbrev pub placed : ℕ → Instr → Instr
placed end (Jump behind) = Jump (end - behind)
placed end (JumpFalse behind) = JumpFalse (end - behind)
placed end instr = instr
