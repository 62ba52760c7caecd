-- The code of a program. A jump names its target, so each piece of code is told where it stands. Code of statements is told too how they
-- are left, and how many FORs and CASEs are around it: what one of them keeps has this number, so that what is in it keeps nothing there.
use Rattle.std.specs.Prelude.{ℕ, zero, suc, ℤ, pos, ◌+◌, Bool, true, false, Option, Some, None, option_map, List, [], ◌∷◌, ◌++◌, length, map, reverse, slice_get, if◌then◌else◌}
use Rattle.aos_base.specs.declared.text.Pos.{Pos}
use Rattle.aos_base.specs.declared.operator.Unary.TheVariants.{Range}
use Rattle.aos_base.specs.declared.number.Width.{Width}
use Rattle.aos_base.specs.declared.operator.Binary.TheVariants.{SetSpan, Cmp, Add, Sub, Union, Minus}
use Rattle.aos_base.specs.Operators.{flag}
use Rattle.aos_types.specs.Shape.{number_of, offset}
use Rattle.aos_types.specs.Contents.{contents, variable_scalars}
use Rattle.aos_typed.specs.declared.tree.Literal.{Literal}
use Rattle.aos_typed.specs.declared.tree.Literal.TheVariants as literal
use Rattle.aos_typed.specs.declared.tree.Change.{Change as Changing}
use Rattle.aos_typed.specs.declared.tree.Change.TheVariants as change
use Rattle.aos_typed.specs.Meaning.{until}
use Rattle.aos_typed.specs.Methods.{method_number, is_active, body_type, initializer}
use Rattle.aos_typed.specs.Numbers.{id_of, body_number, procedure_number}
pub use Rattle.aos_typed.specs.Operands.{dimensions}
use Rattle.aos_typed.specs.Routines.{parameters_at, result_of}
use Rattle.aos_layout.specs.Frame.{frame, parameter_kind}
use Rattle.aos_code.specs.Silent.{kinds_of}
use Rattle.aos_types.specs.declared.row.TypeRow.{TypeRow}
use Rattle.aos_types.specs.Table.{row_of, is_procedure}
use Rattle.aos_typed.specs.Program.{Place, ModuleVar, Local, Passed, Field, Index, Of, Deref, Typed, Guarded, Rows, Known, Opened, Row, Spread, Longer, Arguments, NoMore, Scalar, Whole, Opening, Callee, Plain, Dispatched, Upper, Through, Expr, Lit, SelfRef, Read, Unary, Binary, And, Or, Element, Ord, Chr, CompareTexts, Len, LenBehind, Function, Same, Is, IsRecord, Guard, ProcedureOf, MethodOf, SameProcedure, Had, Call, Open, Char, Int, String, Ln, Stat, Assign, Copy, PutText, If, Case, While, Repeat, Loop, Exit, For, Block, Await, Assert, Halt, Change, Perform, Return, New, Make, With, WithRecord, Out, Stats, Nothing, Then, Arms, Otherwise, Arm, Cases, NoElse, Else, OfLabels, Parameter, Body, Procedure, Program}
use Rattle.aos_typed.specs.Source.{module_shape}
use Rattle.aos_sim.specs.Search.{arms_in, search_of, search_size, search_code}
use Rattle.aos_typed.specs.declared.tree.TType.{TType}
use Rattle.aos_typed.specs.declared.tree.TType.TheVariants as type
use Rattle.aos_typed.specs.declared.tree.TType.TheVariants.{Integer}
use Rattle.aos_code.specs.declared.instr.Kind.{Kind}
use Rattle.aos_code.specs.declared.instr.Kind.TheVariants.{N, R, C}
use Rattle.aos_code.specs.declared.instr.Instr.{Instr}
use Rattle.aos_code.specs.declared.instr.Instr.TheVariants.{Num, Nil, NilCall, Proc, Bind, EqCall, CallValue, SelfRef as SelfOf, Virtual, Deref as DerefOf, OpenRef, EqRef, Is as IsOf, IsPlace, Guard as GuardOf, GuardPlace, NewArray, Dup, Drop, Swap, Frame as FrameOf, Param, Length, IndexOpen, PickLen, Call as CallOf, Keep, Kept, Fail, Assert as AssertOf, Halt as HaltOf, Module, Offset, Index as IndexOf, Unary as OnOne, Binary as OnTwo, Jump, JumpFalse, Begin, Load, Store, Copy as CopyOf, PutText as PutTextOf, CmpText, NewObject, Start, Enter, Leave, Await as AwaitOf, Verdict, Return as ReturnOf, OutChar, OutInt, OutString, OutLn, OutOpen}

abbrev pub begin : Pos → Instr
begin at = Begin at.line at.col

-- Regions. A frame has one open region at most, since its lock's owner traps where it asks for it again.

-- whether statements stand in a region of their body: in none; in one around the innermost LOOP that is around them, which RETURN leaves;
-- or in one within that, which EXIT leaves too
pub data Within : Type 0 where
  NoRegion : Within
  AroundLoop : Within
  InLoop : Within

-- how statements are left: where EXIT leads, and what they stand in
pub record Ways : Type 0 where
  pub exit : ℕ
  pub within : Within

-- the statements of a block, those of a LOOP behind which this is, and those of a body
abbrev pub block_within : (exclusive : Bool) → Within → Within
block_within true w = InLoop
block_within false w = w

abbrev pub block_ways : (exclusive : Bool) → Ways → Ways
block_ways exclusive w = record { exit = w.exit; within = block_within exclusive w.within }

abbrev pub loop_within : Within → Within
loop_within NoRegion = NoRegion
loop_within AroundLoop = AroundLoop
loop_within InLoop = AroundLoop

abbrev pub loop_ways : (exit : ℕ) → Ways → Ways
loop_ways exit w = record { exit = exit; within = loop_within w.within }

abbrev pub body_ways : (exclusive : Bool) → (exit : ℕ) → Ways
body_ways exclusive exit = record { exit = exit; within = block_within exclusive NoRegion }

-- where the statements of a block stand that begins here, and the block with these statements
abbrev pub block_at : (exclusive : Bool) → ℕ → ℕ
block_at true at = at + 1
block_at false at = at

abbrev pub block_code : (exclusive : Bool) → List Instr → List Instr
block_code true b = Enter ∷ (b ++ Leave ∷ [])
block_code false b = b

-- EXIT leaves a region within the LOOP, and RETURN each
abbrev pub exit_code : Within → ℕ → List Instr
exit_code NoRegion exit = Jump exit ∷ []
exit_code AroundLoop exit = Jump exit ∷ []
exit_code InLoop exit = Leave ∷ (Jump exit ∷ [])

abbrev pub return_code : Within → List Instr
return_code NoRegion = ReturnOf ∷ []
return_code AroundLoop = Leave ∷ (ReturnOf ∷ [])
return_code InLoop = Leave ∷ (ReturnOf ∷ [])

-- a value is given as a number: TRUE as 1, FALSE as 0, a character as its code, and a set by its bits
abbrev pub literal_code : Literal → Instr
literal_code (literal.Int n) = Num n
literal_code (literal.Bool b) = Num (flag b)
literal_code (literal.Char c) = Num (pos c)
literal_code (literal.Set s) = Num (pos s)
literal_code (literal.Text t) = Num (pos t.first)
literal_code literal.Nil = Nil
literal_code literal.NoProcedure = NilCall

-- the cell of a procedure variable has a procedure value, an object variable's a reference, and each other one's a number
abbrev pub kind_of : List TypeRow → TType → Kind
kind_of rows (type.Integer w) = N
kind_of rows type.Boolean = N
kind_of rows type.Char = N
kind_of rows type.Set = N
kind_of rows type.Any = R
kind_of rows (type.Named t) = if is_procedure (row_of rows (id_of (type.Named t))) then C else R

-- two operands and their operator
abbrev pub operands_code : List Instr → List Instr → Instr → List Instr
operands_code a b operator = a ++ (b ++ operator ∷ [])

-- a first operand that may tell, at this place: where it is FALSE so is the whole, which the code goes on with behind the
-- second operand
abbrev pub and_code : List Instr → List Instr → ℕ → List Instr
and_code a b at =
    a ++ (JumpFalse (at + length a + 1 + length b + 1) ∷ (b ++ (Jump (at + length a + 1 + length b + 2) ∷ (Num (pos 0) ∷ []))))

-- where it is TRUE so is the whole, and else the second operand is
abbrev pub or_code : List Instr → List Instr → ℕ → List Instr
or_code a b at =
    a ++ (JumpFalse (at + length a + 3) ∷ (Num (pos 1) ∷ (Jump (at + length a + 3 + length b) ∷ b)))

-- a loop: where its condition is false the code goes on behind it, else its body and then the loop again
abbrev pub while_code : Pos → List Instr → List Instr → ℕ → List Instr
while_code here c b at =
    begin here ∷ (c ++ (JumpFalse (at + 1 + length c + 1 + length b + 1) ∷ (b ++ Jump at ∷ [])))

-- the statements of a REPEAT, and then its condition: where that is false the code goes on at its beginning
abbrev pub repeat_code : Pos → List Instr → List Instr → ℕ → List Instr
repeat_code here b c at = begin here ∷ (b ++ (c ++ JumpFalse at ∷ []))

abbrev pub loop_code : Pos → List Instr → ℕ → List Instr
loop_code here b at = begin here ∷ (b ++ Jump at ∷ [])

-- an arm with a test, and the arms behind it
abbrev pub arm_code : (test body : List Instr) → (at end : ℕ) → List Instr → List Instr
arm_code c b at end more = c ++ (JumpFalse (at + length c + 1 + length b + 1) ∷ (b ++ (Jump end ∷ more)))

-- a round of a FOR: its test, which takes what is kept under a number, and where that holds its statements and the step
abbrev pub round_code : Pos → (value : List Instr) → ℤ → (level : ℕ) → (body next : List Instr) → (at : ℕ) → List Instr
round_code here v step level b n at =
    let test = v ++ (Kept level N ∷ (OnTwo (Cmp (until step)) ∷ [])) in
    begin here ∷ (test ++ (JumpFalse (at + 1 + length test + 1 + length b + length n + 1) ∷ (b ++ (n ++ Jump at ∷ []))))

-- how many instructions stand before the statements of a round
abbrev pub round_head : (value : List Instr) → ℕ
round_head v = 1 + length v + 2 + 1

-- how INC, DEC, INCL and EXCL change a value that lies below what it's changed by
abbrev pub change_code : Changing → List Instr
change_code (change.Add w) = OnTwo (Add w) ∷ []
change_code (change.Subtract w) = OnTwo (Sub w) ∷ []
change_code change.Include = Dup ∷ OnTwo SetSpan ∷ OnTwo Union ∷ []
change_code change.Exclude = Dup ∷ OnTwo SetSpan ∷ OnTwo Minus ∷ []

-- so many lengths of an open array parameter, in cells of the frame from this one on
abbrev pub lengths_code : (cell many : ℕ) → List Instr
lengths_code c zero = []
lengths_code c (suc n) = Length c ∷ lengths_code (suc c) n

abbrev pub drops : ℕ → List Instr
drops zero = []
drops (suc n) = Drop ∷ drops n

-- a record, or an array, of a type; an open one is made with its lengths
abbrev pub make_instr : ℕ → (lengths : ℕ) → Instr
make_instr t zero = NewObject (t + 1)
make_instr t (suc n) = NewArray (t + 1) (suc n)

-- what calls a procedure; of a method the type that is known of the object says what is handed over
abbrev pub call_instr : Program → Callee → Instr
call_instr program (Plain m k) = CallOf (procedure_number program m k)
call_instr program (Dispatched e t k) = Virtual k (method_number program t k)
call_instr program (Upper t k) = CallOf (method_number program t k)
call_instr program (Through e t) = CallValue (body_number program t)

-- the kinds of what a call hands over for parameters
abbrev pub handed_kinds : List TypeRow → List Parameter → List Kind
handed_kinds rows ps = kinds_of (map (parameter_kind rows) ps)

-- operands of these kinds, of which the first is the topmost, are kept under numbers from this one on, and are there again
abbrev pub stash : List Kind → (level : ℕ) → List Instr
stash [] c = []
stash (k ∷ ks) c = Keep c k ∷ stash ks (suc c)

abbrev pub unstash : List Kind → (level : ℕ) → List Instr
unstash [] c = []
unstash (k ∷ ks) c = unstash ks (suc c) ++ Kept c k ∷ []

-- in a program, whose variables have their cells, in the body of this procedure or of none
module _ (program : Program) (own : Option Procedure) where
  -- the first cell of a module's variable, or of a string constant, by the numbers of both
  abbrev pub variable_cell : (home number : ℕ) → ℕ
  variable_cell m i = number_of (offset (i ∷ [])) (slice_get (map (module_shape program) program.modules) m)

  -- the first cell of a parameter or a local of the procedure
  abbrev pub own_cell : ℕ → ℕ
  own_cell k = number_of (offset (k ∷ [])) (option_map (frame program.types) own)

  -- how many cells stand before a field in its record, and how many a variable of a type has
  abbrev pub field_cell : TType → ℕ → ℕ
  field_cell t k = offset (k ∷ []) (contents program.types (id_of t))

  abbrev pub cells_of : TType → ℕ
  cells_of t = variable_scalars program.types (id_of t)

  abbrev mutual
    pub place_code : Place → ℕ → List Instr
    place_code (ModuleVar m i) at = Module m (variable_cell m i) ∷ []
    place_code (Local k) at = FrameOf (own_cell k) ∷ []
    place_code (Passed k) at = Param (own_cell k) ∷ []
    place_code (Of r) at = rows_code r at
    place_code (Deref e t) at = value_code e at ++ DerefOf 0 ∷ []
    place_code (Typed q t) at = place_code q at ++ Offset 0 (t + 1) ∷ []
    place_code (Guarded q t) at = place_code q at ++ GuardPlace (t + 1) ∷ []
    place_code (Field p t k) at = place_code p at ++ Offset (field_cell t k) 0 ∷ []
    place_code (Index p n t e) at =
        operands_code (place_code p at) (value_code e (at + length (place_code p at))) (IndexOf n (cells_of t))

    -- the place of an array, and behind it the lengths of its dimensions
    pub rows_code : Rows → ℕ → List Instr
    rows_code (Known p ns) at = place_code p at ++ map (λ n. Num (pos n)) ns
    rows_code (Opened k j) at = Param (own_cell k) ∷ lengths_code (suc (own_cell k)) j
    rows_code (Row r t e) at =
        operands_code (rows_code r at) (value_code e (at + length (rows_code r at))) (IndexOpen (dimensions r) (cells_of t))
    rows_code (Spread e j) at = value_code e at ++ OpenRef j ∷ []
    rows_code (Longer r ns) at = rows_code r at ++ map (λ n. Num (pos n)) ns

    pub arguments_code : Arguments → ℕ → List Instr
    arguments_code NoMore at = []
    arguments_code (Scalar e more) at = value_code e at ++ arguments_code more (at + length (value_code e at))
    arguments_code (Whole p more) at = place_code p at ++ arguments_code more (at + length (place_code p at))
    arguments_code (Opening r more) at = rows_code r at ++ arguments_code more (at + length (rows_code r at))

    -- an object on which something is called, or a procedure value, lies below the arguments
    pub receiver_code : Callee → ℕ → List Instr
    receiver_code (Plain m k) at = []
    receiver_code (Dispatched e t k) at = value_code e at
    receiver_code (Upper t k) at = SelfOf ∷ []
    receiver_code (Through e t) at = value_code e at

    pub value_code : Expr → ℕ → List Instr
    value_code (Lit l) at = literal_code l ∷ []
    value_code SelfRef at = SelfOf ∷ []
    value_code (Read t p) at = place_code p at ++ Load (kind_of program.types t) ∷ []
    value_code (Unary op a) at = value_code a at ++ OnOne op ∷ []
    value_code (Binary op a b) at =
        operands_code (value_code a at) (value_code b (at + length (value_code a at))) (OnTwo op)
    value_code (And a b) at = and_code (value_code a at) (value_code b (at + length (value_code a at) + 1)) at
    value_code (Or a b) at = or_code (value_code a at) (value_code b (at + length (value_code a at) + 3)) at
    value_code (Element a) at = value_code a at ++ (Dup ∷ (OnTwo SetSpan ∷ []))
    value_code (Ord a) at = value_code a at
    value_code (Chr a) at = value_code a at ++ OnOne (Range (pos 0) (pos 255)) ∷ []
    value_code (CompareTexts r a b) at =
        operands_code (rows_code a at) (rows_code b (at + length (rows_code a at))) (CmpText r)
    value_code (Len r d) at = rows_code r at ++ PickLen d (dimensions r) ∷ []
    value_code (LenBehind r n) at = rows_code r at ++ (drops (suc (dimensions r)) ++ Num (pos n) ∷ [])
    value_code (Function c more) at =
        let receiver = receiver_code c at in receiver ++ (arguments_code more (at + length receiver) ++ call_instr program c ∷ [])
    value_code (Same a b) at = operands_code (value_code a at) (value_code b (at + length (value_code a at))) EqRef
    value_code (Is a t) at = value_code a at ++ IsOf (t + 1) ∷ []
    value_code (IsRecord q t) at = place_code q at ++ IsPlace (t + 1) ∷ []
    value_code (Guard a t) at = value_code a at ++ GuardOf (t + 1) ∷ []
    value_code (ProcedureOf m k) at = Proc (procedure_number program m k) ∷ []
    value_code (MethodOf a t k) at = value_code a at ++ Bind k ∷ []
    value_code (SameProcedure a b) at = operands_code (value_code a at) (value_code b (at + length (value_code a at))) EqCall
    value_code (Had v) at = []

  abbrev pub called_code : Callee → Arguments → ℕ → List Instr
  called_code c more at =
      let receiver = receiver_code c at in receiver ++ (arguments_code more (at + length receiver) ++ call_instr program c ∷ [])

  -- values one above the other
  abbrev pub values_code : List Expr → ℕ → List Instr
  values_code [] at = []
  values_code (e ∷ es) at = value_code e at ++ values_code es (at + length (value_code e at))

  -- the place that it is stored at lies below it
  abbrev pub make_code : Place → ℕ → List Expr → ℕ → List Instr
  make_code p t ns at =
      let place = place_code p at in
      place ++ (values_code ns (at + length place) ++ (make_instr t (length ns) ∷ (Store R ∷ [])))

  abbrev pub out_code : Call → ℕ → List Instr
  out_code Open at = OutOpen ∷ []
  out_code (Char e) at = value_code e at ++ OutChar ∷ []
  out_code (Int e n) at = operands_code (value_code e at) (value_code n (at + length (value_code e at))) OutInt
  out_code (String r) at = rows_code r at ++ OutString ∷ []
  out_code Ln at = OutLn ∷ []

  -- The initializer is called on a new object, which stays below it, with what was kept. The object is kept while it is stored, where
  -- its body is carried out behind that.
  abbrev pub initialize_code : (slot : Option ℕ) → (type : ℕ) → List Kind → (level : ℕ) → List Instr
  initialize_code None t ks level = []
  initialize_code (Some k) t ks level = Dup ∷ (unstash ks level ++ CallOf (method_number program t k) ∷ [])

  abbrev pub carry_out_instr : (type : ℕ) → Instr
  carry_out_instr b = if is_active program b then Start else CallOf (body_number program b)

  abbrev pub store_code : (body_of : Option ℕ) → (level : ℕ) → List Instr
  store_code None level = Store R ∷ []
  store_code (Some b) level = Dup ∷ Keep level R ∷ Store R ∷ Kept level R ∷ carry_out_instr b ∷ []

  -- what the initializer is handed, where there is one
  abbrev pub initial_kinds : (slot : Option ℕ) → (type : ℕ) → List Kind
  initial_kinds None t = []
  initial_kinds (Some k) t = reverse (handed_kinds program.types (parameters_at program (method_number program t k)))

  -- The place lies below all. What the initializer is handed is found before the object is made, and kept till it is called.
  abbrev pub new_code : Place → ℕ → Arguments → (at level : ℕ) → List Instr
  new_code p t more at level =
      let place = place_code p at in
      let slot = initializer program t in
      let ks = initial_kinds slot t in
      place
      ++ (arguments_code more (at + length place)
      ++ (stash ks level ++ (NewObject (t + 1) ∷ (initialize_code slot t ks level ++ store_code (body_type program t) level))))

  -- a value for a variable of a type
  abbrev pub assign_code : Pos → TType → Place → Expr → ℕ → List Instr
  assign_code here t p e at =
      begin here
      ∷ operands_code (place_code p (at + 1)) (value_code e (at + 1 + length (place_code p (at + 1)))) (Store (kind_of program.types t))

  -- a variable that is changed by a value, which is evaluated before it is read
  abbrev pub changed_code : Pos → Changing → Place → Expr → ℕ → List Instr
  changed_code here c p e at =
      let place = place_code p (at + 1) in
      begin here
      ∷ (place ++ (Dup ∷ (value_code e (at + 1 + length place + 1) ++ (Swap ∷ (Load N ∷ (Swap ∷ (change_code c ++ Store N ∷ [])))))))

  -- FOR before its rounds: its last value is kept, and its variable is assigned
  abbrev pub for_head : Pos → Width → Place → (from to : Expr) → (at level : ℕ) → List Instr
  for_head here w p from to at level =
      let last = value_code to (at + 1) in
      begin here ∷ (last ++ (Keep level N ∷ assign_code here (Integer w) p from (at + 1 + length last + 1)))

  abbrev pub step_code : Pos → Width → Place → ℤ → ℕ → List Instr
  step_code here w p step at =
      assign_code here (Integer w) p (Binary (Add w) (Read (Integer w) p) (Lit (literal.Int step))) at

  -- where the statements of a round stand, and the rounds of a FOR with these statements
  abbrev pub body_place : Width → Place → ℕ → ℕ
  body_place w p at = at + round_head (value_code (Read (Integer w) p) (at + 1))

  abbrev pub rounds_with : Pos → Width → Place → ℤ → (body : List Instr) → (at level : ℕ) → List Instr
  rounds_with here w p step b at level =
      round_code here (value_code (Read (Integer w) p) (at + 1)) step level b (step_code here w p step (body_place w p at + length b)) at

  abbrev mutual
    pub stat_code : Stat → (at : ℕ) → Ways → (level : ℕ) → List Instr
    stat_code (Assign here t p e) at ways level = assign_code here t p e at
    stat_code (Copy here t p q) at ways level =
        begin here
        ∷ operands_code (place_code p (at + 1)) (place_code q (at + 1 + length (place_code p (at + 1)))) (CopyOf (cells_of t))
    stat_code (PutText here strict a b) at ways level =
        begin here
        ∷ operands_code (rows_code a (at + 1)) (rows_code b (at + 1 + length (rows_code a (at + 1)))) (PutTextOf strict)
    stat_code (If here arms) at ways level =
        begin here ∷ arms_code arms (at + 1) (at + 1 + length (arms_code arms (at + 1) 0 ways level)) ways level
    stat_code (Case here e cases) at ways level =
        let c = value_code e (at + 1) in
        let search = search_of cases in
        let from = at + 1 + length c + 1 in
        let first = from + search_size search in
        let end = first + length (cases_code cases first 0 ways level) in
        begin here ∷ (c ++ (Keep level N ∷ (search_code (arm_place cases first ways level) (arms_in cases) search level from ++ cases_code cases first end ways level)))
    stat_code (While here e body) at ways level =
        let c = value_code e (at + 1) in while_code here c (stats_code body (at + 1 + length c + 1) ways level) at
    stat_code (Repeat here body e) at ways level =
        let b = stats_code body (at + 1) ways level in repeat_code here b (value_code e (at + 1 + length b)) at
    stat_code (Loop here body) at ways level =
        let out = at + 1 + length (stats_code body (at + 1) (loop_ways 0 ways) level) + 1 in
        loop_code here (stats_code body (at + 1) (loop_ways out ways) level) at
    stat_code (Exit here) at ways level = begin here ∷ exit_code ways.within ways.exit
    stat_code (For here w p from to step body) at ways level =
        let head = for_head here w p from to at level in
        let first = at + length head in
        head ++ rounds_with here w p step (stats_code body (body_place w p first) ways (suc level)) first level
    stat_code (Block here exclusive body) at ways level =
        begin here ∷ block_code exclusive (stats_code body (block_at exclusive (at + 1)) (block_ways exclusive ways) level)
    stat_code (Await here n e) at ways level = begin here ∷ (AwaitOf n ∷ [])
    stat_code (Assert here e code) at ways level = begin here ∷ (value_code e (at + 1) ++ AssertOf code ∷ [])
    stat_code (Halt here code) at ways level = begin here ∷ (HaltOf code ∷ [])
    stat_code (Change here c p e) at ways level = changed_code here c p e at
    stat_code (Perform here c more) at ways level = begin here ∷ called_code c more (at + 1)
    stat_code (Return here None) at ways level = begin here ∷ return_code ways.within
    stat_code (Return here (Some e)) at ways level = begin here ∷ (value_code e (at + 1) ++ return_code ways.within)
    stat_code (New here p t more) at ways level = begin here ∷ new_code p t more (at + 1) level
    stat_code (Make here p t ns) at ways level = begin here ∷ make_code p t ns (at + 1)
    stat_code (With here e body) at ways level =
        let c = value_code e (at + 1) in begin here ∷ (c ++ (Drop ∷ stats_code body (at + 1 + length c + 1) ways level))
    stat_code (WithRecord here p body) at ways level =
        let c = place_code p (at + 1) in begin here ∷ (c ++ (Drop ∷ stats_code body (at + 1 + length c + 1) ways level))
    stat_code (Out here call) at ways level = begin here ∷ out_code call (at + 1)

    pub stats_code : Stats → (at : ℕ) → Ways → (level : ℕ) → List Instr
    stats_code Nothing at ways level = []
    stats_code (Then s ss) at ways level =
        stat_code s at ways level ++ stats_code ss (at + length (stat_code s at ways level)) ways level

    pub arms_code : Arms → (at end : ℕ) → Ways → (level : ℕ) → List Instr
    arms_code (Otherwise ss) at end ways level = stats_code ss at ways level
    arms_code (Arm e ss arms) at end ways level =
        let c = value_code e at in
        let b = stats_code ss (at + length c + 1) ways level in
        arm_code c b at end (arms_code arms (at + length c + 1 + length b + 1) end ways level)

    -- the arms of CASE, one behind another
    pub cases_code : Cases → (at end : ℕ) → Ways → (level : ℕ) → List Instr
    cases_code NoElse at end ways level = Fail 4 ∷ []
    cases_code (Else ss) at end ways level = stats_code ss at ways level
    cases_code (OfLabels rs ss cases) at end ways level =
        let b = stats_code ss at ways level in
        b ++ (Jump end ∷ cases_code cases (at + length b + 1) end ways level)

    -- where the arm of this number begins
    pub arm_place : Cases → (at : ℕ) → Ways → (level : ℕ) → ℕ → ℕ
    arm_place NoElse at ways level k = at
    arm_place (Else ss) at ways level k = at
    arm_place (OfLabels rs ss cases) at ways level zero = at
    arm_place (OfLabels rs ss cases) at ways level (suc k) = arm_place cases (at + length (stats_code ss at ways level) + 1) ways level k

  -- the rounds of a FOR, in which more is kept
  abbrev pub rounds_code : Pos → Width → Place → ℤ → Stats → (at : ℕ) → Ways → (level : ℕ) → List Instr
  rounds_code here w p step body at ways level =
      rounds_with here w p step (stats_code body (body_place w p at) ways (suc level)) at level

  -- what a body ends with: the end of its frame, or of a function's trap 10
  abbrev pub end_code : List Instr
  end_code = by (result_of own)
    where
      by : Option TType → List Instr
      by None = ReturnOf ∷ []
      by (Some t) = Fail 10 ∷ []

  -- a body: its statements, which are a region where it is exclusive, and its end, to which an EXIT leads that stands in no LOOP
  abbrev pub statements_code : Body → (exit : ℕ) → List Instr
  statements_code b exit =
      block_code b.is_exclusive (stats_code b.statements (block_at b.is_exclusive 0) (body_ways b.is_exclusive exit) 0)

  abbrev pub body_code : Body → List Instr
  body_code b = statements_code b (length (statements_code b 0)) ++ end_code

  -- a condition, which is evaluated over a frame of the procedure: its value, and the end that takes it
  abbrev pub condition_code : Expr → List Instr
  condition_code e = value_code e 0 ++ Verdict ∷ []
