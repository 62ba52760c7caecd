-- Code whose jumps forward have a pending number, which no instruction has, and that is redirected once they are known, is the code
-- with the right ones.
use Rattle.std.proofs.Common.{◌≡◌, ℕ, zero, suc, Option, Some, None, ◌+◌, ◌<◌, ◌≤◌, ℤ, pos, Bool, true, false, List, [], ◌∷◌, ◌++◌, length, map, refl, ap, ◌∙◌, arith, length-append}
use Rattle.std.specs.Prelude.{nat_eq, if◌then◌else◌}
use Rattle.std.specs.Ordering.{int_eq}
use Rattle.aos_typed.specs.declared.tree.LabelRange.{LabelRange}
use Rattle.std.proofs.lemmas.Bool.{eq-eqb, eqb-true}
use Rattle.std.proofs.lemmas.List.{map-append}
use Rattle.aos_base.specs.declared.text.Pos.{Pos}
use Rattle.aos_base.specs.declared.number.Width.{Width}
use Rattle.aos_base.specs.declared.operator.Binary.TheVariants.{Cmp, Add}
use Rattle.aos_typed.specs.declared.tree.Literal.{Literal}
use Rattle.aos_typed.specs.declared.tree.Literal.TheVariants as literal
use Rattle.aos_typed.specs.declared.tree.Change.{Change as Changing}
use Rattle.aos_typed.specs.declared.tree.Change.TheVariants as change
use Rattle.aos_typed.specs.declared.tree.TType.{TType}
use Rattle.aos_typed.specs.declared.tree.TType.TheVariants.{Integer}
use Rattle.aos_typed.specs.Meaning.{until}
use Rattle.aos_typed.specs.Program.{Place, ModuleVar, Local, Passed, Field, Index, Of, Deref, Typed, Guarded, Rows, Known, Opened, Row, Spread, Longer, Arguments, NoMore, Scalar, Whole, Opening, Callee, Plain, Dispatched, Upper, Through, Expr, Lit, SelfRef, Read, Unary, Binary, And, Or, Element, Ord, Chr, CompareTexts, Len, LenBehind, Function, Same, Is, IsRecord, Guard, ProcedureOf, MethodOf, SameProcedure, Had, Call, Open, Char, Int, String, Ln, Stat, Assign, Copy, PutText, If, Case, While, Repeat, Loop, Exit, For, Block, Await, Assert, Halt, Change, Perform, Return, New, Make, With, WithRecord, Out, Stats, Nothing, Then, Arms, Otherwise, Arm, Cases, NoElse, Else, OfLabels, Procedure, Program}
use Rattle.aos_code.specs.declared.instr.Instr.{Instr}
use Rattle.aos_code.specs.declared.instr.Instr.TheVariants as i
use Rattle.aos_code.specs.declared.instr.Kind.{Kind}
use Rattle.aos_code.specs.declared.instr.Kind.TheVariants.{N}
use Rattle.aos_typed.specs.Methods.{is_active, body_type, initializer}
use Rattle.aos_typed.specs.Numbers.{body_number}
use Rattle.aos_sim.specs.Code.{Within, NoRegion, AroundLoop, InLoop, Ways, block_within, block_at, block_code, loop_within, exit_code, return_code, begin, literal_code, lengths_code, drops, dimensions, make_instr, call_instr, own_cell, place_code, rows_code, arguments_code, receiver_code, value_code, values_code, make_code, out_code, stash, unstash, initial_kinds, initialize_code, carry_out_instr, store_code, new_code, change_code, changed_code, assign_code, for_head, step_code, body_place, rounds_with, stat_code, stats_code, arms_code, cases_code, arm_place}
use Rattle.aos_sim.specs.Search.{Search, Nowhere, At, Split, arms_in, search_of, one_code, range_code, label_code, search_size, search_code}
use Rattle.aos_sim.proofs.Sizes.{way, search_length, stat_length, stats_length, arms_length, cases_length}
use Rattle.aos_emit_stat.specs.Redirect.{redirected, redirect}

-- what leads to the pending number is redirected
pub comes : (p x : ℕ) → redirected p x p ≡ x
comes p x = go (nat_eq p p) (eq-eqb p p refl)
  where
    go : (b : Bool) → b ≡ true → (if b then x else p) ≡ x
    go true e = refl
    go false e = absurd (cc)

module _ (p x : ℕ) where
  -- what leads to an instruction is not
  known : (t : ℕ) → t < p → redirected p x t ≡ t
  known t lt = go (nat_eq t p) refl
    where
      go : (b : Bool) → nat_eq t p ≡ b → (if b then x else t) ≡ t
      go true e = let h : t ≡ p = eqb-true t p e in absurd (omega arith)
      go false e = refl

  -- code at a place, which ends below the pending number, is redirected to other code
  record Turns (at : ℕ) (code other : List Instr) : Type 0 where
    pub is : at + length code < p → map (redirect p x) code ≡ other

  nothing : {at : ℕ} → Turns at [] []
  nothing = record { is = λ lt. refl }

  turn : {at : ℕ} {a b : Instr} {c d : List Instr} → redirect p x a ≡ b → Turns (at + 1) c d → Turns at (a ∷ c) (b ∷ d)
  turn {at} {c = c} e h = record { is = λ lt. (λ j. e j ∷ h.is (omega (arith, lt)) j) }

  both : {at : ℕ} {c d c' d' : List Instr} → Turns at c c' → Turns (at + length c) d d' → Turns at (c ++ d) (c' ++ d')
  both {at} {c} {d} h k =
      record { is = λ lt. (let l = length-append c d in map-append (redirect p x) c d ∙ (λ j. h.is (omega (arith, lt, l)) j ++ k.is (omega (arith, lt, l)) j)) }

  -- where it is known that it ends below
  ends : {at : ℕ} {c d : List Instr} → (at + length c < p → Turns at c d) → Turns at c d
  ends f = record { is = λ lt. (f lt).is lt }

  -- the other code said otherwise, and the place
  said : {at : ℕ} {c d e : List Instr} → d ≡ e → Turns at c d → Turns at c e
  said e h = record { is = λ lt. h.is lt ∙ e }

  moved : {at to : ℕ} {c d : List Instr} → at ≡ to → Turns at c d → Turns to c d
  moved e h = record { is = λ lt. h.is (omega (arith, lt, e)) }

  -- instructions behind code that are no jumps
  behind : {at : ℕ} {c d c' : List Instr} → Turns at c c' → map (redirect p x) d ≡ d → Turns at (c ++ d) (c' ++ d)
  behind {at} {c} h e = both h (record { is = λ lt. e })

  jump : {at : ℕ} (t : ℕ) → t < p → Turns at (i.Jump t ∷ []) (i.Jump t ∷ [])
  jump t lt = turn (ap (λ n. i.Jump n) (known t lt)) nothing

  literal_same : (l : Literal) → redirect p x (literal_code l) ≡ literal_code l
  literal_same (literal.Int n) = refl
  literal_same (literal.Bool b) = refl
  literal_same (literal.Char c) = refl
  literal_same (literal.Set s) = refl
  literal_same (literal.Text t) = refl
  literal_same literal.Nil = refl
  literal_same literal.NoProcedure = refl

  numbers_same : (ns : List ℕ) → map (redirect p x) (map (λ n. i.Num (pos n)) ns) ≡ map (λ n. i.Num (pos n)) ns
  numbers_same [] = refl
  numbers_same (n ∷ ns) = ap (λ l. i.Num (pos n) ∷ l) (numbers_same ns)

  lengths_turn : {at : ℕ} (c n : ℕ) → Turns at (lengths_code c n) (lengths_code c n)
  lengths_turn {at = at} c zero = nothing
  lengths_turn {at = at} c (suc n) = turn refl (lengths_turn {at = at + 1} (suc c) n)

  drops_same : (k n : ℕ) → map (redirect p x) (drops k ++ i.Num (pos n) ∷ []) ≡ drops k ++ i.Num (pos n) ∷ []
  drops_same zero n = refl
  drops_same (suc k) n = ap (λ l. i.Drop ∷ l) (drops_same k n)

  kept_turn : {at : ℕ} (ks : List Kind) (d : ℕ) → Turns at (stash ks d) (stash ks d)
  kept_turn {at = at} [] d = nothing
  kept_turn {at = at} (k ∷ ks) d = turn refl (kept_turn {at = at + 1} ks (suc d))

  again_turns : {at : ℕ} (ks : List Kind) (d : ℕ) → Turns at (unstash ks d) (unstash ks d)
  again_turns {at = at} [] d = nothing
  again_turns {at = at} (k ∷ ks) d = behind (again_turns {at = at} ks (suc d)) refl

  made_same : (t n : ℕ) → redirect p x (make_instr t n) ≡ make_instr t n
  made_same t zero = refl
  made_same t (suc n) = refl

  module _ (program : Program) (own : Option Procedure) where
    call_same : (c : Callee) → redirect p x (call_instr program c) ≡ call_instr program c
    call_same (Plain m k) = refl
    call_same (Dispatched e t k) = refl
    call_same (Upper t k) = refl
    call_same (Through e t) = refl

    mutual
      place_turns : (q : Place) (at : ℕ) → Turns at (place_code program own q at) (place_code program own q at)
      place_turns (ModuleVar m k) at = turn refl nothing
      place_turns (Local k) at = turn refl nothing
      place_turns (Passed k) at = turn refl nothing
      place_turns (Of r) at = rows_turn r at
      place_turns (Deref e t) at = behind (value_turns e at) refl
      place_turns (Typed q t) at = behind (place_turns q at) refl
      place_turns (Guarded q t) at = behind (place_turns q at) refl
      place_turns (Field q t k) at = behind (place_turns q at) refl
      place_turns (Index q n t e) at = both (place_turns q at) (behind (value_turns e (at + length (place_code program own q at))) refl)

      rows_turn : (r : Rows) (at : ℕ) → Turns at (rows_code program own r at) (rows_code program own r at)
      rows_turn (Known q ns) at = behind (place_turns q at) (numbers_same ns)
      rows_turn (Opened k j) at = turn refl (lengths_turn (suc (own_cell program own k)) j)
      rows_turn (Row r t e) at = both (rows_turn r at) (behind (value_turns e (at + length (rows_code program own r at))) refl)
      rows_turn (Spread e j) at = behind (value_turns e at) refl
      rows_turn (Longer r ns) at = behind (rows_turn r at) (numbers_same ns)

      arguments_turn : (as' : Arguments) (at : ℕ) → Turns at (arguments_code program own as' at) (arguments_code program own as' at)
      arguments_turn NoMore at = nothing
      arguments_turn (Scalar e more) at = both (value_turns e at) (arguments_turn more (at + length (value_code program own e at)))
      arguments_turn (Whole q more) at = both (place_turns q at) (arguments_turn more (at + length (place_code program own q at)))
      arguments_turn (Opening r more) at = both (rows_turn r at) (arguments_turn more (at + length (rows_code program own r at)))

      receiver_turns : (c : Callee) (at : ℕ) → Turns at (receiver_code program own c at) (receiver_code program own c at)
      receiver_turns (Plain m k) at = nothing
      receiver_turns (Dispatched e t k) at = value_turns e at
      receiver_turns (Upper t k) at = turn refl nothing
      receiver_turns (Through e t) at = value_turns e at

      value_turns : (e : Expr) (at : ℕ) → Turns at (value_code program own e at) (value_code program own e at)
      value_turns (Lit l) at = turn (literal_same l) nothing
      value_turns SelfRef at = turn refl nothing
      value_turns (Read t q) at = behind (place_turns q at) refl
      value_turns (Unary op a) at = behind (value_turns a at) refl
      value_turns (Binary op a b) at = both (value_turns a at) (behind (value_turns b (at + length (value_code program own a at))) refl)
      value_turns (And a b) at =
          let ca = value_code program own a at in
          let cb = value_code program own b (at + length ca + 1) in
          let past = at + length ca + 1 + length cb + 2 in
          let last = i.Jump past ∷ (i.Num (pos 0) ∷ []) in
          let test = i.JumpFalse (at + length ca + 1 + length cb + 1) in
          ends (λ lt. both (value_turns a at) (turn refl (both (value_turns b (at + length ca + 1))
          (turn (ap (λ n. i.Jump n) (known past (omega (arith, lt, length-append ca (test ∷ (cb ++ last)), length-append cb last)))) (turn refl nothing)))))
      value_turns (Or a b) at =
          let ca = value_code program own a at in
          let cb = value_code program own b (at + length ca + 3) in
          let past = at + length ca + 3 + length cb in
          let rest = i.JumpFalse (at + length ca + 3) ∷ (i.Num (pos 1) ∷ (i.Jump past ∷ cb)) in
          ends (λ lt. both (value_turns a at) (turn refl (turn refl
          (turn (ap (λ n. i.Jump n) (known past (omega (arith, lt, length-append ca rest)))) (moved (omega arith) (value_turns b (at + length ca + 3)))))))
      value_turns (Element a) at = behind (value_turns a at) refl
      value_turns (Ord a) at = value_turns a at
      value_turns (Chr a) at = behind (value_turns a at) refl
      value_turns (CompareTexts r a b) at = both (rows_turn a at) (behind (rows_turn b (at + length (rows_code program own a at))) refl)
      value_turns (Len r d) at = behind (rows_turn r at) refl
      value_turns (LenBehind r n) at = behind (rows_turn r at) (drops_same (suc (dimensions r)) n)
      value_turns (Function c more) at =
          both (receiver_turns c at) (both (arguments_turn more (at + length (receiver_code program own c at))) (turn (call_same c) nothing))
      value_turns (Same a b) at = both (value_turns a at) (behind (value_turns b (at + length (value_code program own a at))) refl)
      value_turns (Is a t) at = behind (value_turns a at) refl
      value_turns (IsRecord q t) at = behind (place_turns q at) refl
      value_turns (Guard a t) at = behind (value_turns a at) refl
      value_turns (ProcedureOf m k) at = turn refl nothing
      value_turns (MethodOf a t k) at = behind (value_turns a at) refl
      value_turns (SameProcedure a b) at = both (value_turns a at) (behind (value_turns b (at + length (value_code program own a at))) refl)
      value_turns (Had v) at = nothing

    values_turn : (es : List Expr) (at : ℕ) → Turns at (values_code program own es at) (values_code program own es at)
    values_turn [] at = nothing
    values_turn (e ∷ es) at = both (value_turns e at) (values_turn es (at + length (value_code program own e at)))

    make_turns : (q : Place) (t : ℕ) (es : List Expr) (at : ℕ) → Turns at (make_code program own q t es at) (make_code program own q t es at)
    make_turns q t es at =
        both (place_turns q at) (both (values_turn es (at + length (place_code program own q at))) (turn (made_same t (length es)) (turn refl nothing)))

    out_turns : (call : Call) (at : ℕ) → Turns at (out_code program own call at) (out_code program own call at)
    out_turns Open at = turn refl nothing
    out_turns (Char e) at = behind (value_turns e at) refl
    out_turns (Int e n) at = both (value_turns e at) (behind (value_turns n (at + length (value_code program own e at))) refl)
    out_turns (String r) at = behind (rows_turn r at) refl
    out_turns Ln at = turn refl nothing

    initialize_turns : {at : ℕ} (slot : Option ℕ) (t : ℕ) (ks : List Kind) (d : ℕ) → Turns at (initialize_code program own slot t ks d) (initialize_code program own slot t ks d)
    initialize_turns None t ks d = nothing
    initialize_turns (Some k) t ks d = turn refl (behind (again_turns ks d) refl)

    carry_out_same : (b : ℕ) → redirect p x (carry_out_instr program own b) ≡ carry_out_instr program own b
    carry_out_same b = by (is_active program b)
      where
        by : (active : Bool) → redirect p x (if active then i.Start else i.Call (body_number program b)) ≡ (if active then i.Start else i.Call (body_number program b))
        by true = refl
        by false = refl

    store_turns : {at : ℕ} (body_of : Option ℕ) (d : ℕ) → Turns at (store_code program own body_of d) (store_code program own body_of d)
    store_turns None d = turn refl nothing
    store_turns (Some b) d = turn refl (turn refl (turn refl (turn refl (turn (carry_out_same b) nothing))))

    new_turns : (q : Place) (t : ℕ) (more : Arguments) (at d : ℕ) → Turns at (new_code program own q t more at d) (new_code program own q t more at d)
    new_turns q t more at d =
        let ks = initial_kinds program own (initializer program t) t in
        both (place_turns q at) (both (arguments_turn more (at + length (place_code program own q at)))
        (both (kept_turn ks d) (turn refl (both (initialize_turns (initializer program t) t ks d) (store_turns (body_type program t) d)))))

    assign_turns : (here : Pos) (t : TType) (q : Place) (e : Expr) (at : ℕ) → Turns at (assign_code program own here t q e at) (assign_code program own here t q e at)
    assign_turns here t q e at = turn refl (both (place_turns q (at + 1)) (behind (value_turns e (at + 1 + length (place_code program own q (at + 1)))) refl))

    change_same : (c : Changing) → map (redirect p x) (i.Swap ∷ (i.Load N ∷ (i.Swap ∷ (change_code c ++ i.Store N ∷ [])))) ≡ i.Swap ∷ (i.Load N ∷ (i.Swap ∷ (change_code c ++ i.Store N ∷ [])))
    change_same (change.Add w) = refl
    change_same (change.Subtract w) = refl
    change_same change.Include = refl
    change_same change.Exclude = refl

    changed_turns : (here : Pos) (c : Changing) (q : Place) (e : Expr) (at : ℕ) → Turns at (changed_code program own here c q e at) (changed_code program own here c q e at)
    changed_turns here c q e at =
        turn refl (both (place_turns q (at + 1)) (turn refl (behind (value_turns e (at + 1 + length (place_code program own q (at + 1)) + 1)) (change_same c))))

    head_turns : (here : Pos) (w : Width) (q : Place) (from to : Expr) (at d : ℕ) → Turns at (for_head program own here w q from to at d) (for_head program own here w q from to at d)
    head_turns here w q from to at d =
        turn refl (both (value_turns to (at + 1)) (turn refl (assign_turns here (Integer w) q from (at + 1 + length (value_code program own to (at + 1)) + 1))))

    rounds_turn : (here : Pos) (w : Width) (q : Place) (step : ℤ) (b other : List Instr) (t d : ℕ) → length b ≡ length other → Turns (body_place program own w q t) b other → Turns t (rounds_with program own here w q step b t d) (rounds_with program own here w q step other t d)
    rounds_turn here w q step b other t d same inside =
        let v = value_code program own (Read (Integer w) q) (t + 1) in
        let kept = i.Kept d N ∷ (i.Binary (Cmp (until step)) ∷ []) in
        let test = v ++ kept in
        let counted = length-append v kept in
        let next : ℕ → List Instr = λ m. step_code program own here w q step (body_place program own w q t + m) in
        let end : ℕ → ℕ = λ m. t + 1 + length test + 1 + m + length (next m) + 1 in
        let round : ℕ → List Instr = λ m. begin here ∷ (test ++ (i.JumpFalse (end m) ∷ (other ++ (next m ++ i.Jump t ∷ [])))) in
        ends (λ lt. said (ap round same)
        (turn refl (both (behind (value_turns (Read (Integer w) q) (t + 1)) refl) (turn refl
        (both (moved (omega (arith, counted)) inside)
        (both (moved (omega (arith, counted)) (assign_turns here (Integer w) q (Binary (Add w) (Read (Integer w) q) (Lit (literal.Int step))) (body_place program own w q t + length b)))
        (jump t (omega (arith, lt)))))))))

    label_turns : (at d hit : ℕ) (r : LabelRange) → hit < p → Turns at (label_code r d at hit) (label_code r d at hit)
    label_turns at d hit r lt = by (int_eq r.low r.high)
      where
        by : (b : Bool) → Turns at (if b then one_code r.low d at hit else range_code r d at hit) (if b then one_code r.low d at hit else range_code r d at hit)
        by true = turn refl (turn refl (turn refl (turn refl (jump hit lt))))
        by false = turn refl (turn refl (turn refl (turn refl (turn refl (turn refl (turn refl (turn refl (jump hit lt))))))))

    search_turns : (place : ℕ → ℕ) (other : ℕ) → ((n : ℕ) → place n < p) → (t : Search) (d at : ℕ) → Turns at (search_code place other t d at) (search_code place other t d at)
    search_turns place other lt Nowhere d at = jump (place other) (lt other)
    search_turns place other lt (At r) d at = both (label_turns at d (place r.arm) r.labels (lt r.arm)) (jump (place other) (lt other))
    search_turns place other lt (Split middle below above) d at =
        turn refl (turn refl (turn refl (turn refl
        (both (moved (omega arith) (search_turns place other lt below d (at + 4)))
        (moved (omega (arith, search_length place other below d (at + 4))) (search_turns place other lt above d (at + 4 + search_size below)))))))

    -- the arms begin where they do whatever their exit is, and none behind their end
    arm_same : (cases : Cases) (at : ℕ) (u : Within) (y z d n : ℕ) → arm_place program own cases at (way u y) d n ≡ arm_place program own cases at (way u z) d n
    arm_same NoElse at u y z d n = refl
    arm_same (Else ss) at u y z d n = refl
    arm_same (OfLabels rs ss cases) at u y z d zero = refl
    arm_same (OfLabels rs ss cases) at u y z d (suc n) =
        arm_same cases (at + length (stats_code program own ss at (way u y) d) + 1) u y z d n
        ∙ ap (λ m. arm_place program own cases (at + m + 1) (way u z) d n) (stats_length program own ss at u y z d)

    arm_within : (cases : Cases) (at end : ℕ) (w : Ways) (d n : ℕ) → arm_place program own cases at w d n ≤ at + length (cases_code program own cases at end w d)
    arm_within NoElse at end w d n = omega arith
    arm_within (Else ss) at end w d n = omega arith
    arm_within (OfLabels rs ss cases) at end w d zero = omega arith
    arm_within (OfLabels rs ss cases) at end w d (suc n) =
        let b = stats_code program own ss at w d in
        let next = at + length b + 1 in
        omega (arith, arm_within cases next end w d n, length-append b (i.Jump end ∷ cases_code program own cases next end w d))

    exit_turns : {at : ℕ} (u : Within) (y : ℕ) → Turns at (exit_code u y) (exit_code u (redirected p x y))
    exit_turns NoRegion y = turn refl nothing
    exit_turns AroundLoop y = turn refl nothing
    exit_turns InLoop y = turn refl (turn refl nothing)

    return_same : (u : Within) → map (redirect p x) (return_code u) ≡ return_code u
    return_same NoRegion = refl
    return_same AroundLoop = refl
    return_same InLoop = refl

    -- a block, whose statements stand behind its beginning
    block_turns : (at : ℕ) (exclusive : Bool) (b c : List Instr) → Turns (block_at exclusive at) b c → Turns at (block_code exclusive b) (block_code exclusive c)
    block_turns at true b c h = turn refl (behind h refl)
    block_turns at false b c h = h

    mutual
      stat_turns : (s : Stat) (at : ℕ) (u : Within) (y d : ℕ) → Turns at (stat_code program own s at (way u y) d) (stat_code program own s at (way u (redirected p x y)) d)
      stat_turns (Assign here t q e) at u y d = assign_turns here t q e at
      stat_turns (Copy here t q r) at u y d = turn refl (both (place_turns q (at + 1)) (behind (place_turns r (at + 1 + length (place_code program own q (at + 1)))) refl))
      stat_turns (PutText here strict a b) at u y d =
          turn refl (both (rows_turn a (at + 1)) (behind (rows_turn b (at + 1 + length (rows_code program own a (at + 1)))) refl))
      stat_turns (If here arms) at u y d =
          let z = redirected p x y in
          let end = at + 1 + length (arms_code program own arms (at + 1) 0 (way u y) d) in
          ends (λ lt. (let here = known end (omega (arith, lt, arms_length program own arms (at + 1) end 0 u y y d)) in
          turn refl (said (ap (λ n. arms_code program own arms (at + 1) n (way u z) d) (here ∙ ap (λ n. at + 1 + n) (arms_length program own arms (at + 1) 0 0 u y z d))) (arms_turn arms (at + 1) end u y d))))
      stat_turns (Case here e cases) at u y d =
          let z = redirected p x y in
          let t = search_of cases in
          let other = arms_in cases in
          let c = value_code program own e (at + 1) in
          let from = at + 1 + length c + 1 in
          let first = from + search_size t in
          let end = first + length (cases_code program own cases first 0 (way u y) d) in
          let place : ℕ → ℕ = arm_place program own cases first (way u y) d in
          let search = search_code place other t d from in
          let arms = cases_code program own cases first end (way u y) d in
          let size = search_length place other t d from in
          let whole = length-append c (i.Keep d N ∷ (search ++ arms)) in
          let ending = cases_length program own cases first end 0 u y y d in
          ends (λ lt. (let here = known end (omega (arith, lt, whole, length-append search arms, size, ending)) in
          let below : (n : ℕ) → place n < p = λ n. omega (arith, lt, whole, length-append search arms, size, arm_within cases first end (way u y) d n) in
          turn refl (both (value_turns e (at + 1)) (turn refl
          (both (said (λ j. search_code (λ n. arm_same cases first u y z d n j) other t d from) (search_turns place other below t d from))
          (moved (omega (arith, size)) (said (ap (λ n. cases_code program own cases first n (way u z) d) (here ∙ ap (λ n. first + n) (cases_length program own cases first 0 0 u y z d))) (cases_turn cases first end u y d))))))))
      stat_turns (While here e body) at u y d =
          let z = redirected p x y in
          let first = at + 1 + length (value_code program own e (at + 1)) + 1 in
          ends (λ lt. turn refl (both (value_turns e (at + 1)) (turn (ap (λ n. i.JumpFalse (first + n + 1)) (stats_length program own body first u y z d)) (both (stats_turn body first u y d) (jump at (omega (arith, lt)))))))
      stat_turns (Repeat here body e) at u y d =
          let z = redirected p x y in
          turn refl (both (stats_turn body (at + 1) u y d)
          (said (ap (λ n. value_code program own e (at + 1 + n) ++ i.JumpFalse at ∷ []) (stats_length program own body (at + 1) u y z d)) (behind (value_turns e (at + 1 + length (stats_code program own body (at + 1) (way u y) d))) refl)))
      stat_turns (Loop here body) at u y d =
          let v = loop_within u in
          let out = at + 1 + length (stats_code program own body (at + 1) (way v 0) d) + 1 in
          let b = stats_code program own body (at + 1) (way v out) d in
          ends (λ lt. (let here = known out (omega (arith, lt, length-append b (i.Jump at ∷ []), stats_length program own body (at + 1) v out 0 d)) in
          turn refl (both (said (ap (λ n. stats_code program own body (at + 1) (way v n) d) here) (stats_turn body (at + 1) v out d)) (jump at (omega (arith, lt))))))
      stat_turns (Exit here) at u y d = turn refl (exit_turns u y)
      stat_turns (For here w q from to step body) at u y d =
          let first = at + length (for_head program own here w q from to at d) in
          both (head_turns here w q from to at d)
          (rounds_turn here w q step _ _ first d (stats_length program own body (body_place program own w q first) u y (redirected p x y) (suc d)) (stats_turn body (body_place program own w q first) u y (suc d)))
      stat_turns (Block here exclusive body) at u y d =
          turn refl (block_turns (at + 1) exclusive _ _ (stats_turn body (block_at exclusive (at + 1)) (block_within exclusive u) y d))
      stat_turns (Await here n e) at u y d = turn refl (turn refl nothing)
      stat_turns (Assert here e code) at u y d = turn refl (behind (value_turns e (at + 1)) refl)
      stat_turns (Halt here code) at u y d = turn refl (turn refl nothing)
      stat_turns (Change here c q e) at u y d = changed_turns here c q e at
      stat_turns (Perform here c more) at u y d = turn refl (value_turns (Function c more) (at + 1))
      stat_turns (Return here None) at u y d = turn refl (record { is = λ lt. return_same u })
      stat_turns (Return here (Some e)) at u y d = turn refl (behind (value_turns e (at + 1)) (return_same u))
      stat_turns (New here q t more) at u y d = turn refl (new_turns q t more (at + 1) d)
      stat_turns (Make here q t es) at u y d = turn refl (make_turns q t es (at + 1))
      stat_turns (With here e body) at u y d =
          turn refl (both (value_turns e (at + 1)) (turn refl (stats_turn body (at + 1 + length (value_code program own e (at + 1)) + 1) u y d)))
      stat_turns (WithRecord here q body) at u y d =
          turn refl (both (place_turns q (at + 1)) (turn refl (stats_turn body (at + 1 + length (place_code program own q (at + 1)) + 1) u y d)))
      stat_turns (Out here call) at u y d = turn refl (out_turns call (at + 1))

      stats_turn : (ss : Stats) (at : ℕ) (u : Within) (y d : ℕ) → Turns at (stats_code program own ss at (way u y) d) (stats_code program own ss at (way u (redirected p x y)) d)
      stats_turn Nothing at u y d = nothing
      stats_turn (Then s ss) at u y d =
          let z = redirected p x y in
          both (stat_turns s at u y d) (said (ap (λ n. stats_code program own ss (at + n) (way u z) d) (stat_length program own s at u y z d)) (stats_turn ss (at + length (stat_code program own s at (way u y) d)) u y d))

      arms_turn : (arms : Arms) (at end : ℕ) (u : Within) (y d : ℕ) → Turns at (arms_code program own arms at end (way u y) d) (arms_code program own arms at (redirected p x end) (way u (redirected p x y)) d)
      arms_turn (Otherwise ss) at end u y d = stats_turn ss at u y d
      arms_turn (Arm e ss arms) at end u y d =
          let z = redirected p x y in
          let to = redirected p x end in
          let first = at + length (value_code program own e at) + 1 in
          let b = stats_code program own ss first (way u y) d in
          let same = stats_length program own ss first u y z d in
          both (value_turns e at) (turn (ap (λ n. i.JumpFalse (first + n + 1)) same) (both (stats_turn ss first u y d) (turn refl (said (ap (λ n. arms_code program own arms (first + n + 1) to (way u z) d) same) (arms_turn arms (first + length b + 1) end u y d)))))

      cases_turn : (cases : Cases) (at end : ℕ) (u : Within) (y d : ℕ) → Turns at (cases_code program own cases at end (way u y) d) (cases_code program own cases at (redirected p x end) (way u (redirected p x y)) d)
      cases_turn NoElse at end u y d = turn refl nothing
      cases_turn (Else ss) at end u y d = stats_turn ss at u y d
      cases_turn (OfLabels rs ss cases) at end u y d =
          let z = redirected p x y in
          let to = redirected p x end in
          both (stats_turn ss at u y d) (turn refl
          (said (ap (λ n. cases_code program own cases (at + n + 1) to (way u z) d) (stats_length program own ss at u y z d)) (cases_turn cases (at + length (stats_code program own ss at (way u y) d) + 1) end u y d)))

module _ (program : Program) (own : Option Procedure) (p x : ℕ) where
  -- statements whose exit was pending
  pub exit_known : (ss : Stats) (at : ℕ) (u : Within) (d : ℕ) → at + length (stats_code program own ss at (way u p) d) < p → map (redirect p x) (stats_code program own ss at (way u p) d) ≡ stats_code program own ss at (way u x) d
  exit_known ss at u d lt = (stats_turn p x program own ss at u p d).is lt ∙ ap (λ n. stats_code program own ss at (way u n) d) (comes p x)

  -- arms whose end was pending, while an exit has another number
  pub arms_known : (arms : Arms) (at : ℕ) (u : Within) (y d : ℕ) → redirected p x y ≡ y → at + length (arms_code program own arms at p (way u y) d) < p → map (redirect p x) (arms_code program own arms at p (way u y) d) ≡ arms_code program own arms at x (way u y) d
  arms_known arms at u y d other lt = (arms_turn p x program own arms at p u y d).is lt ∙ (λ j. arms_code program own arms at (comes p x j) (way u (other j)) d)

  pub cases_known : (cases : Cases) (at : ℕ) (u : Within) (y d : ℕ) → redirected p x y ≡ y → at + length (cases_code program own cases at p (way u y) d) < p → map (redirect p x) (cases_code program own cases at p (way u y) d) ≡ cases_code program own cases at x (way u y) d
  cases_known cases at u y d other lt = (cases_turn p x program own cases at p u y d).is lt ∙ (λ j. cases_code program own cases at (comes p x j) (way u (other j)) d)
