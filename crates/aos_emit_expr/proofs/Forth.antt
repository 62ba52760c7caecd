-- The code of a designator and of an expression from its last instruction to its first, read from its end, is its code.
use Rattle.std.proofs.Common.{◌≡◌, ℕ, pos, ◌+◌, ◌-◌, List, [], ◌∷◌, ◌++◌, length, map, refl, sym, ap, ◌∙◌, arith, append_assoc, append-nil, length-append}
use Rattle.std.specs.Prelude.{zero, suc, ℤ, Option, reverse}
use Rattle.std.proofs.lemmas.List.{reverse-append, reverse-reverse, map-append, length-reverse, length-map}
use Rattle.aos_base.specs.declared.operator.Unary.TheVariants.{Range}
use Rattle.aos_base.specs.declared.operator.Binary.TheVariants.{SetSpan}
use Rattle.aos_typed.specs.declared.tree.Literal.{Literal}
use Rattle.aos_typed.specs.declared.tree.Literal.TheVariants as literal
use Rattle.aos_typed.specs.Numbers.{procedure_number}
use Rattle.aos_typed.specs.Program.{Place, ModuleVar, Local, Passed, Field, Index, Of, Deref, Typed, Guarded, Rows, Known, Opened, Row, Spread, Longer, Arguments, NoMore, Scalar, Whole, Opening, Callee, Plain, Dispatched, Upper, Through, Expr, Lit, SelfRef, Read, Unary, Binary, And, Or, Element, Ord, Chr, CompareTexts, Len, LenBehind, Function, Same, Is, IsRecord, Guard, ProcedureOf, MethodOf, SameProcedure, Had, Procedure, Program}
use Rattle.aos_typed.specs.Seen.{seen_place, seen_rows, seen_list, seen_callee, seen_expr}
use Rattle.aos_code.specs.declared.instr.Instr.{Instr}
use Rattle.aos_code.specs.declared.instr.Instr.TheVariants.{Num, Proc, Bind, EqCall, SelfRef as SelfOf, Deref as DerefOf, OpenRef, EqRef, Is as IsOf, IsPlace, Guard as GuardOf, GuardPlace, Dup, Drop, Frame as FrameOf, Param, Length, Module, Offset, Index as IndexOf, IndexOpen, PickLen, Unary as OnOne, Binary as OnTwo, Jump, JumpFalse, Load, CmpText}
use Rattle.aos_sim.specs.Code.{literal_code, call_instr, kind_of, variable_cell, own_cell, field_cell, cells_of, dimensions, lengths_code, drops, place_code, rows_code, arguments_code, receiver_code, value_code}
use Rattle.aos_dispatch.specs.declared.prefixes.Prefix.{Prefix}
use Rattle.aos_dispatch.specs.declared.prefixes.Prefix.TheVariants as prefixes
use Rattle.aos_emit_expr.specs.declared.sources.Source.{Source}
use Rattle.aos_emit_expr.specs.declared.sources.Source.TheVariants as sources
use Rattle.aos_emit_expr.specs.Adds.{front_code, source_code}
use Rattle.aos_emit_expr.specs.Back.{back_place, back_rows, back_arguments, back_receiver, back_code, back_front, back_source, placed}
use Rattle.aos_emit_expr.specs.Forwards.{forwards}

-- more instructions are placed before those
more : (end : ℕ) (behind xs : List Instr) → forwards end (behind ++ xs) ≡ forwards end xs ++ forwards end behind
more end behind xs = ap (map (placed end)) (reverse-append behind xs) ∙ map-append (placed end) (reverse xs) (reverse behind)

-- the last of a list is placed first
pub last_first : (end : ℕ) (front : List Instr) (x : Instr) → forwards end (front ++ x ∷ []) ≡ placed end x ∷ forwards end front
last_first end front x = more end front (x ∷ [])

-- code before what is placed
before : (end : ℕ) (code ops all some behind : List Instr) → forwards end all ≡ code ++ forwards end some → forwards end some ≡ ops ++ forwards end behind → forwards end all ≡ (code ++ ops) ++ forwards end behind
before end code ops all some behind first second = first ∙ ap (λ l. code ++ l) second ∙ sym (append_assoc code ops (forwards end behind))

-- as many instructions as are placed
count : (end : ℕ) (ops some behind : List Instr) → forwards end some ≡ ops ++ forwards end behind → length some ≡ length ops + length behind
count end ops some behind is =
    let counted : (l : List Instr) → length (forwards end l) ≡ length l = λ l. length-map (reverse l) (placed end) ∙ length-reverse l in
    sym (counted some) ∙ ap length is ∙ length-append ops (forwards end behind) ∙ ap (λ n. length ops + n) (counted behind)

literal_placed : (end : ℕ) (l : Literal) → placed end (literal_code l) ≡ literal_code l
literal_placed end (literal.Int n) = refl
literal_placed end (literal.Bool b) = refl
literal_placed end (literal.Char c) = refl
literal_placed end (literal.Set s) = refl
literal_placed end (literal.Text t) = refl
literal_placed end literal.Nil = refl
literal_placed end literal.NoProcedure = refl

-- where code ends at a place, so it is placed from its last instruction to its first
abbrev pub IsPlaced : (ℕ → List Instr) → (List Instr → List Instr) → Type 0
IsPlaced code back =
    (at : ℕ) (behind : List Instr) (end : ℕ)
    → at + length (code at) + length behind ≡ end
    → forwards end (back behind) ≡ code at ++ forwards end behind

-- an operand before what is placed
operand : (code : ℕ → List Instr) (back : List Instr → List Instr) (at end : ℕ) (ops some behind : List Instr) → IsPlaced code back → forwards end some ≡ ops ++ forwards end behind → at + length (code at ++ ops) + length behind ≡ end → forwards end (back some) ≡ (code at ++ ops) ++ forwards end behind
operand code back at end ops some behind is_placed is ends =
    let counted = count end ops some behind is in
    let both = length-append (code at) ops in
    before end (code at) ops (back some) some behind (is_placed at some end (omega arith)) is

-- the whole of code, where it ends behind it
pub whole : (code : ℕ → List Instr) (back : List Instr → List Instr) (at end : ℕ) → IsPlaced code back → end ≡ at + length (back []) → forwards end (back []) ≡ code at
whole code back at end is_placed ends =
    let first = at + length (code at) + 0 in
    let counted = count first (code at) (back []) [] (is_placed at [] first refl) in
    is_placed at [] end (omega arith) ∙ append-nil (code at)

-- instructions that are no jumps, from the last to the first, are placed as they are
turned : (end : ℕ) (behind xs : List Instr) → map (placed end) xs ≡ xs → forwards end (behind ++ reverse xs) ≡ xs ++ forwards end behind
turned end behind xs same =
    more end behind (reverse xs) ∙ ap (λ l. map (placed end) l ++ forwards end behind) (reverse-reverse xs) ∙ ap (λ l. l ++ forwards end behind) same

numbers_placed : (end : ℕ) (ns : List ℕ) → map (placed end) (map (λ n. Num (pos n)) ns) ≡ map (λ n. Num (pos n)) ns
numbers_placed end [] = refl
numbers_placed end (n ∷ ns) = ap (λ l. Num (pos n) ∷ l) (numbers_placed end ns)

lengths_placed : (end c n : ℕ) → map (placed end) (lengths_code c n) ≡ lengths_code c n
lengths_placed end c zero = refl
lengths_placed end c (suc n) = ap (λ l. Length c ∷ l) (lengths_placed end (suc c) n)

-- each operand is taken by the same instruction
drops_last : (n : ℕ) → drops n ++ Drop ∷ [] ≡ Drop ∷ drops n
drops_last zero = refl
drops_last (suc n) = ap (λ l. Drop ∷ l) (drops_last n)

drops_placed : (end n : ℕ) → forwards end (drops n) ≡ drops n
drops_placed end zero = refl
drops_placed end (suc n) = more end (Drop ∷ []) (drops n) ∙ ap (λ l. l ++ Drop ∷ []) (drops_placed end n) ∙ drops_last n

-- a number behind operands that are taken
behind_drops : (end n : ℕ) (behind : List Instr) (z : ℤ) → forwards end (behind ++ Num z ∷ drops n) ≡ (drops n ++ Num z ∷ []) ++ forwards end behind
behind_drops end n behind z =
    more end behind (Num z ∷ drops n)
    ∙ ap (λ l. l ++ forwards end behind) (more end (Num z ∷ []) (drops n) ∙ ap (λ l. l ++ Num z ∷ []) (drops_placed end n))

module _ (p : Program) (own : Option Procedure) where
  call_placed : (end : ℕ) (c : Callee) → placed end (call_instr p c) ≡ call_instr p c
  call_placed end (Plain m k) = refl
  call_placed end (Dispatched e t k) = refl
  call_placed end (Upper t k) = refl
  call_placed end (Through e t) = refl

  mutual
    pub place_forth : (x : Place) → IsPlaced (place_code p own x) (back_place p own x)
    place_forth (ModuleVar m k) at behind end ends = last_first end behind (Module m (variable_cell p own m k))
    place_forth (Local k) at behind end ends = last_first end behind (FrameOf (own_cell p own k))
    place_forth (Passed k) at behind end ends = last_first end behind (Param (own_cell p own k))
    place_forth (Of r) at behind end ends = rows_forth r at behind end ends
    place_forth (Deref e t) at behind end ends =
        operand (value_code p own e) (back_code p own e) at end (DerefOf 0 ∷ []) (behind ++ DerefOf 0 ∷ []) behind (forth e) (last_first end behind (DerefOf 0)) ends
    place_forth (Typed x t) at behind end ends =
        let type = Offset 0 (t + 1) in
        operand (place_code p own x) (back_place p own x) at end (type ∷ []) (behind ++ type ∷ []) behind (place_forth x) (last_first end behind type) ends
    place_forth (Guarded x t) at behind end ends =
        let guard = GuardPlace (t + 1) in
        operand (place_code p own x) (back_place p own x) at end (guard ∷ []) (behind ++ guard ∷ []) behind (place_forth x) (last_first end behind guard) ends
    place_forth (Field x t k) at behind end ends =
        let offset = Offset (field_cell p own t k) 0 in
        operand (place_code p own x) (back_place p own x) at end (offset ∷ []) (behind ++ offset ∷ []) behind (place_forth x) (last_first end behind offset) ends
    place_forth (Index x n t e) at behind end ends =
        let cx = place_code p own x at in
        let ce = value_code p own e (at + length cx) in
        let index = IndexOf n (cells_of p own t) in
        let both = length-append cx (ce ++ index ∷ []) in
        let second = operand (value_code p own e) (back_code p own e) (at + length cx) end (index ∷ []) (behind ++ index ∷ []) behind (forth e) (last_first end behind index) (omega arith) in
        operand (place_code p own x) (back_place p own x) at end (ce ++ index ∷ []) (back_code p own e (behind ++ index ∷ [])) behind (place_forth x) second ends

    pub rows_forth : (r : Rows) → IsPlaced (rows_code p own r) (back_rows p own r)
    rows_forth (Known x ns) at behind end ends =
        let lengths = map (λ n. Num (pos n)) ns in
        operand (place_code p own x) (back_place p own x) at end lengths (behind ++ reverse lengths) behind (place_forth x) (turned end behind lengths (numbers_placed end ns)) ends
    rows_forth (Opened k j) at behind end ends =
        let c = own_cell p own k in
        turned end behind (Param c ∷ lengths_code (suc c) j) (ap (λ l. Param c ∷ l) (lengths_placed end (suc c) j))
    rows_forth (Row r t e) at behind end ends =
        let cr = rows_code p own r at in
        let ce = value_code p own e (at + length cr) in
        let index = IndexOpen (dimensions r) (cells_of p own t) in
        let both = length-append cr (ce ++ index ∷ []) in
        let second = operand (value_code p own e) (back_code p own e) (at + length cr) end (index ∷ []) (behind ++ index ∷ []) behind (forth e) (last_first end behind index) (omega arith) in
        operand (rows_code p own r) (back_rows p own r) at end (ce ++ index ∷ []) (back_code p own e (behind ++ index ∷ [])) behind (rows_forth r) second ends
    rows_forth (Spread e j) at behind end ends =
        operand (value_code p own e) (back_code p own e) at end (OpenRef j ∷ []) (behind ++ OpenRef j ∷ []) behind (forth e) (last_first end behind (OpenRef j)) ends
    rows_forth (Longer r ns) at behind end ends =
        let lengths = map (λ n. Num (pos n)) ns in
        operand (rows_code p own r) (back_rows p own r) at end lengths (behind ++ reverse lengths) behind (rows_forth r) (turned end behind lengths (numbers_placed end ns)) ends

    pub arguments_forth : (as' : Arguments) → IsPlaced (arguments_code p own as') (back_arguments p own as')
    arguments_forth NoMore at behind end ends = refl
    arguments_forth (Scalar e more) at behind end ends =
        let c = value_code p own e at in
        let rest = arguments_code p own more (at + length c) in
        let both = length-append c rest in
        operand (value_code p own e) (back_code p own e) at end rest (back_arguments p own more behind) behind (forth e) (arguments_forth more (at + length c) behind end (omega arith)) ends
    arguments_forth (Whole x more) at behind end ends =
        let c = place_code p own x at in
        let rest = arguments_code p own more (at + length c) in
        let both = length-append c rest in
        operand (place_code p own x) (back_place p own x) at end rest (back_arguments p own more behind) behind (place_forth x) (arguments_forth more (at + length c) behind end (omega arith)) ends
    arguments_forth (Opening r more) at behind end ends =
        let c = rows_code p own r at in
        let rest = arguments_code p own more (at + length c) in
        let both = length-append c rest in
        operand (rows_code p own r) (back_rows p own r) at end rest (back_arguments p own more behind) behind (rows_forth r) (arguments_forth more (at + length c) behind end (omega arith)) ends

    receiver_forth : (c : Callee) → IsPlaced (receiver_code p own c) (back_receiver p own c)
    receiver_forth (Plain m k) at behind end ends = refl
    receiver_forth (Dispatched e t k) at behind end ends = forth e at behind end ends
    receiver_forth (Upper t k) at behind end ends = last_first end behind SelfOf
    receiver_forth (Through e t) at behind end ends = forth e at behind end ends

    pub forth : (e : Expr) → IsPlaced (value_code p own e) (back_code p own e)
    forth (Lit l) at behind end ends = last_first end behind (literal_code l) ∙ ap (λ i. i ∷ forwards end behind) (literal_placed end l)
    forth SelfRef at behind end ends = last_first end behind SelfOf
    forth (Read t x) at behind end ends =
        let load = Load (kind_of p.types t) in
        operand (place_code p own x) (back_place p own x) at end (load ∷ []) (behind ++ load ∷ []) behind (place_forth x) (last_first end behind load) ends
    forth (Unary op a) at behind end ends =
        operand (value_code p own a) (back_code p own a) at end (OnOne op ∷ []) (behind ++ OnOne op ∷ []) behind (forth a) (last_first end behind (OnOne op)) ends
    forth (Binary op a b) at behind end ends =
        let ca = value_code p own a at in
        let cb = value_code p own b (at + length ca) in
        let both = length-append ca (cb ++ OnTwo op ∷ []) in
        let second = operand (value_code p own b) (back_code p own b) (at + length ca) end (OnTwo op ∷ []) (behind ++ OnTwo op ∷ []) behind (forth b) (last_first end behind (OnTwo op)) (omega arith) in
        operand (value_code p own a) (back_code p own a) at end (cb ++ OnTwo op ∷ []) (back_code p own b (behind ++ OnTwo op ∷ [])) behind (forth a) second ends
    forth (And a b) at behind end ends =
        let ca = value_code p own a at in
        let cb = value_code p own b (at + length ca + 1) in
        let from_false = at + length ca + 1 + length cb + 1 in
        let past = at + length ca + 1 + length cb + 2 in
        let ops = Jump past ∷ (Num (pos 0) ∷ []) in
        let some = behind ++ Num (pos 0) ∷ Jump (length behind) ∷ [] in
        let both = length-append ca (JumpFalse from_false ∷ (cb ++ ops)) in
        let last = length-append cb ops in
        let to_past : end - length behind ≡ past = omega arith in
        let to_false : end - (length behind + 1) ≡ from_false = omega arith in
        let placed_ops = more end behind (Num (pos 0) ∷ Jump (length behind) ∷ []) ∙ ap (λ n. Jump n ∷ (Num (pos 0) ∷ forwards end behind)) to_past in
        let second = operand (value_code p own b) (back_code p own b) (at + length ca + 1) end ops some behind (forth b) placed_ops (omega arith) in
        let jump = last_first end (back_code p own b some) (JumpFalse (length behind + 1)) ∙ (λ j. JumpFalse (to_false j) ∷ second j) in
        operand (value_code p own a) (back_code p own a) at end (JumpFalse from_false ∷ (cb ++ ops)) (back_code p own b some ++ JumpFalse (length behind + 1) ∷ []) behind (forth a) jump ends
    forth (Or a b) at behind end ends =
        let ca = value_code p own a at in
        let from_second = at + length ca + 3 in
        let cb = value_code p own b from_second in
        let ops = JumpFalse from_second ∷ (Num (pos 1) ∷ (Jump (from_second + length cb) ∷ cb)) in
        let some = back_code p own b behind in
        let both = length-append ca ops in
        let second = forth b from_second behind end (omega arith) in
        let counted = count end cb some behind second in
        let to_past : end - length behind ≡ from_second + length cb = omega arith in
        let to_second : end - length some ≡ from_second = omega arith in
        let jumps = Jump (length behind) ∷ Num (pos 1) ∷ JumpFalse (length some) ∷ [] in
        let placed_ops = more end some jumps ∙ (λ j. JumpFalse (to_second j) ∷ (Num (pos 1) ∷ (Jump (to_past j) ∷ second j))) in
        operand (value_code p own a) (back_code p own a) at end ops (some ++ jumps) behind (forth a) placed_ops ends
    forth (Element a) at behind end ends =
        operand (value_code p own a) (back_code p own a) at end (Dup ∷ (OnTwo SetSpan ∷ [])) (behind ++ OnTwo SetSpan ∷ Dup ∷ []) behind (forth a) (more end behind (OnTwo SetSpan ∷ Dup ∷ [])) ends
    forth (Ord a) at behind end ends = forth a at behind end ends
    forth (Chr a) at behind end ends =
        let range = OnOne (Range (pos 0) (pos 255)) in
        operand (value_code p own a) (back_code p own a) at end (range ∷ []) (behind ++ range ∷ []) behind (forth a) (last_first end behind range) ends
    forth (CompareTexts r a b) at behind end ends =
        let ca = rows_code p own a at in
        let cb = rows_code p own b (at + length ca) in
        let compare = CmpText r in
        let both = length-append ca (cb ++ compare ∷ []) in
        let second = operand (rows_code p own b) (back_rows p own b) (at + length ca) end (compare ∷ []) (behind ++ compare ∷ []) behind (rows_forth b) (last_first end behind compare) (omega arith) in
        operand (rows_code p own a) (back_rows p own a) at end (cb ++ compare ∷ []) (back_rows p own b (behind ++ compare ∷ [])) behind (rows_forth a) second ends
    forth (Len r d) at behind end ends =
        let pick = PickLen d (dimensions r) in
        operand (rows_code p own r) (back_rows p own r) at end (pick ∷ []) (behind ++ pick ∷ []) behind (rows_forth r) (last_first end behind pick) ends
    forth (LenBehind r n) at behind end ends =
        let some = suc (dimensions r) in
        operand (rows_code p own r) (back_rows p own r) at end (drops some ++ Num (pos n) ∷ []) (behind ++ Num (pos n) ∷ drops some) behind (rows_forth r) (behind_drops end some behind (pos n)) ends
    forth (Function c more) at behind end ends =
        let call = call_instr p c in
        let cr = receiver_code p own c at in
        let ca = arguments_code p own more (at + length cr) in
        let both = length-append cr (ca ++ call ∷ []) in
        let last = last_first end behind call ∙ ap (λ i. i ∷ forwards end behind) (call_placed end c) in
        let second = operand (arguments_code p own more) (back_arguments p own more) (at + length cr) end (call ∷ []) (behind ++ call ∷ []) behind (arguments_forth more) last (omega arith) in
        operand (receiver_code p own c) (back_receiver p own c) at end (ca ++ call ∷ []) (back_arguments p own more (behind ++ call ∷ [])) behind (receiver_forth c) second ends
    forth (Same a b) at behind end ends =
        let ca = value_code p own a at in
        let cb = value_code p own b (at + length ca) in
        let both = length-append ca (cb ++ EqRef ∷ []) in
        let second = operand (value_code p own b) (back_code p own b) (at + length ca) end (EqRef ∷ []) (behind ++ EqRef ∷ []) behind (forth b) (last_first end behind EqRef) (omega arith) in
        operand (value_code p own a) (back_code p own a) at end (cb ++ EqRef ∷ []) (back_code p own b (behind ++ EqRef ∷ [])) behind (forth a) second ends
    forth (Is a t) at behind end ends =
        operand (value_code p own a) (back_code p own a) at end (IsOf (t + 1) ∷ []) (behind ++ IsOf (t + 1) ∷ []) behind (forth a) (last_first end behind (IsOf (t + 1))) ends
    forth (IsRecord x t) at behind end ends =
        operand (place_code p own x) (back_place p own x) at end (IsPlace (t + 1) ∷ []) (behind ++ IsPlace (t + 1) ∷ []) behind (place_forth x) (last_first end behind (IsPlace (t + 1))) ends
    forth (Guard a t) at behind end ends =
        operand (value_code p own a) (back_code p own a) at end (GuardOf (t + 1) ∷ []) (behind ++ GuardOf (t + 1) ∷ []) behind (forth a) (last_first end behind (GuardOf (t + 1))) ends
    forth (ProcedureOf m k) at behind end ends = last_first end behind (Proc (procedure_number p m k))
    forth (MethodOf a t k) at behind end ends =
        operand (value_code p own a) (back_code p own a) at end (Bind k ∷ []) (behind ++ Bind k ∷ []) behind (forth a) (last_first end behind (Bind k)) ends
    forth (SameProcedure a b) at behind end ends =
        let ca = value_code p own a at in
        let cb = value_code p own b (at + length ca) in
        let both = length-append ca (cb ++ EqCall ∷ []) in
        let second = operand (value_code p own b) (back_code p own b) (at + length ca) end (EqCall ∷ []) (behind ++ EqCall ∷ []) behind (forth b) (last_first end behind EqCall) (omega arith) in
        operand (value_code p own a) (back_code p own a) at end (cb ++ EqCall ∷ []) (back_code p own b (behind ++ EqCall ∷ [])) behind (forth a) second ends
    forth (Had v) at behind end ends = refl

  -- that of what code is emitted of
  front_forth : (f : Prefix) → IsPlaced (front_code p own f) (back_front p own f)
  front_forth (prefixes.Value e) = forth (seen_expr e.now)
  front_forth (prefixes.Place x) = place_forth (seen_place x.now)
  front_forth (prefixes.Rows r) = rows_forth (seen_rows r.now)

  pub source_forth : (s : Source) → IsPlaced (source_code p own s) (back_source p own s)
  source_forth (sources.Prefix f) = front_forth f
  source_forth (sources.Call c as') = forth (Function (seen_callee c.now) (seen_list as'.now))
  source_forth (sources.Handed as') = arguments_forth (seen_list as'.now)
  source_forth sources.SelfRef = forth SelfRef
