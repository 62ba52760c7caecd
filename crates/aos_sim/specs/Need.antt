-- How many operands code has at most, beyond those that are there where it begins.
use Rattle.std.specs.Prelude.{◌≡◌, ℕ, suc, ◌+◌, List, [], ◌∷◌, map, max, length, Some, None}
pub use Rattle.aos_typed.specs.Operands.{dimensions, operands}
use Rattle.aos_typed.specs.Program.{Place, ModuleVar, Local, Passed, Field, Index, Of, Deref, Typed, Guarded, Rows, Known, Opened, Row, Spread, Longer, Arguments, NoMore, Scalar, Whole, Opening, Callee, Plain, Dispatched, Upper, Through, Expr, Lit, SelfRef, Read, Unary, Binary, And, Or, Element, Ord, Chr, CompareTexts, Len, LenBehind, Function, Same, Is, IsRecord, Guard, ProcedureOf, MethodOf, SameProcedure, Had, Call, Open, Char, Int, String, Ln, Stat, Assign, Copy, PutText, If, Case, While, Repeat, Loop, Exit, For, Block, Await, Assert, Halt, Change, Perform, Return, New, Make, With, WithRecord, Out, Stats, Nothing, Then, Arms, Otherwise, Arm, Cases, NoElse, Else, OfLabels, Program}
use Rattle.aos_typed.specs.declared.tree.Change.{Change as Changing}
use Rattle.aos_typed.specs.declared.tree.Change.TheVariants as change
use Rattle.aos_typed.specs.Conditions.{conditions}
use Rattle.aos_typed.specs.Routines.{routines}
use Rattle.aos_code.specs.declared.image.Image.{Image}

-- two texts: the first lies below the second, with its length
abbrev pub texts_need : (left right : ℕ) → ℕ
texts_need left right = max left (2 + right)

-- how many operands what something is called on takes
abbrev pub receivers : Callee → ℕ
receivers (Plain m k) = 0
receivers (Dispatched e t k) = 1
receivers (Upper t k) = 1
receivers (Through e t) = 1

abbrev mutual
  -- a designator; the place of an array lies below its index
  pub place_need : Place → ℕ
  place_need (ModuleVar m i) = 1
  place_need (Local k) = 1
  place_need (Passed k) = 1
  place_need (Of r) = rows_need r
  place_need (Deref e t) = value_need e
  place_need (Typed q t) = place_need q
  place_need (Guarded q t) = place_need q
  place_need (Field p t k) = place_need p
  place_need (Index p n t e) = max (place_need p) (1 + value_need e)

  -- an array, with the lengths of its dimensions above its place
  pub rows_need : Rows → ℕ
  rows_need (Known p ns) = max (place_need p) (1 + length ns)
  rows_need (Opened k j) = 1 + j
  rows_need (Row r t e) = max (rows_need r) (1 + dimensions r + value_need e)
  rows_need (Spread e j) = max (value_need e) (1 + j)
  rows_need (Longer r ns) = max (rows_need r) (1 + dimensions r + length ns)

  -- what is handed over: all that was before lies below
  pub arguments_need : Arguments → ℕ
  arguments_need NoMore = 0
  arguments_need (Scalar e more) = max (value_need e) (1 + arguments_need more)
  arguments_need (Whole p more) = max (place_need p) (1 + arguments_need more)
  arguments_need (Opening r more) = max (rows_need r) (1 + dimensions r + arguments_need more)

  -- what something is called on, which lies below the arguments
  pub receiver_need : Callee → ℕ
  receiver_need (Plain m k) = 0
  receiver_need (Dispatched e t k) = value_need e
  receiver_need (Upper t k) = 1
  receiver_need (Through e t) = value_need e

  -- an expression; what its left operand gives lies below its right one
  pub value_need : Expr → ℕ
  value_need (Lit l) = 1
  value_need SelfRef = 1
  value_need (Read t p) = place_need p
  value_need (Unary op a) = value_need a
  value_need (Binary op a b) = max (value_need a) (1 + value_need b)
  value_need (And a b) = max (value_need a) (value_need b)
  value_need (Or a b) = max (value_need a) (value_need b)
  value_need (Element a) = max (value_need a) 2
  value_need (Ord a) = value_need a
  value_need (Chr a) = value_need a
  value_need (CompareTexts r a b) = texts_need (rows_need a) (rows_need b)
  value_need (Len r d) = rows_need r
  value_need (LenBehind r n) = rows_need r
  value_need (Function c more) = max 1 (max (receiver_need c) (receivers c + arguments_need more))
  value_need (Same a b) = max (value_need a) (1 + value_need b)
  value_need (Is a t) = value_need a
  value_need (IsRecord q t) = place_need q
  value_need (Guard a t) = value_need a
  value_need (ProcedureOf m k) = 1
  value_need (MethodOf a t k) = value_need a
  value_need (SameProcedure a b) = max (value_need a) (1 + value_need b)
  value_need (Had v) = 1

-- values one above the other
abbrev pub values_need : List Expr → ℕ
values_need [] = 0
values_need (e ∷ es) = max (value_need e) (1 + values_need es)

-- a call of a procedure of module Out
abbrev pub out_need : Call → ℕ
out_need Open = 0
out_need (Char e) = value_need e
out_need (Int e n) = max (value_need e) (1 + value_need n)
out_need (String r) = rows_need r
out_need Ln = 0

-- a value above the place that it's stored at
abbrev pub assign_need : (place value : ℕ) → ℕ
assign_need place value = max place (1 + value)

-- what a variable is changed by lies above two places, and an element is there twice
abbrev pub changed_need : Changing → (place value : ℕ) → ℕ
changed_need (change.Add w) place value = max place (2 + value)
changed_need (change.Subtract w) place value = max place (2 + value)
changed_need change.Include place value = max place (max (2 + value) 4)
changed_need change.Exclude place value = max place (max (2 + value) 4)

-- a statement, and a sequence of them; a new object lies twice above the place that it is stored at, below what its initializer is handed
abbrev mutual
  pub stat_need : Stat → ℕ
  stat_need (Assign here t p e) = assign_need (place_need p) (value_need e)
  stat_need (Copy here t p q) = max (place_need p) (1 + place_need q)
  stat_need (PutText here strict a b) = texts_need (rows_need a) (rows_need b)
  stat_need (If here arms) = arms_need arms
  stat_need (Case here e cases) = max (value_need e) (cases_need cases)
  stat_need (While here e body) = max (value_need e) (stats_need body)
  stat_need (Repeat here body e) = max (stats_need body) (value_need e)
  stat_need (Loop here body) = stats_need body
  stat_need (Exit here) = 0
  stat_need (For here w p from to step body) =
      max (max (value_need to) (assign_need (place_need p) (value_need from)))
      (max (assign_need (place_need p) (max (place_need p) 2)) (stats_need body))
  stat_need (Block here exclusive body) = stats_need body
  stat_need (Await here n e) = 0
  stat_need (Assert here e code) = value_need e
  stat_need (Halt here code) = 0
  stat_need (Change here c p e) = changed_need c (place_need p) (value_need e)
  stat_need (Perform here c more) = max (receiver_need c) (receivers c + arguments_need more)
  stat_need (Return here None) = 0
  stat_need (Return here (Some e)) = value_need e
  stat_need (New here p t more) = max (place_need p) (1 + max (arguments_need more) (2 + operands more))
  stat_need (Make here p t ns) = max (place_need p) (1 + max 1 (values_need ns))
  stat_need (With here e body) = max (value_need e) (stats_need body)
  stat_need (WithRecord here p body) = max (place_need p) (stats_need body)
  stat_need (Out here call) = out_need call

  pub stats_need : Stats → ℕ
  stats_need Nothing = 0
  stats_need (Then s ss) = max (stat_need s) (stats_need ss)

  pub arms_need : Arms → ℕ
  arms_need (Otherwise ss) = stats_need ss
  arms_need (Arm e ss arms) = max (max (value_need e) (stats_need ss)) (arms_need arms)

  -- a label lies above the selector's value
  pub cases_need : Cases → ℕ
  cases_need NoElse = 0
  cases_need (Else ss) = stats_need ss
  cases_need (OfLabels rs ss cases) = max (max 2 (stats_need ss)) (cases_need cases)

-- How many numbers statements keep something under that have so many around them.
abbrev mutual
  pub stat_level : Stat → ℕ → ℕ
  stat_level (Assign here t p e) d = d
  stat_level (Copy here t p q) d = d
  stat_level (PutText here strict a b) d = d
  stat_level (If here arms) d = arms_level arms d
  stat_level (Case here e cases) d = max (suc d) (cases_level cases d)
  stat_level (While here e body) d = stats_level body d
  stat_level (Repeat here body e) d = stats_level body d
  stat_level (Loop here body) d = stats_level body d
  stat_level (Exit here) d = d
  stat_level (For here w p from to step body) d = stats_level body (suc d)
  stat_level (Block here exclusive body) d = stats_level body d
  stat_level (Await here n e) d = d
  stat_level (Assert here e code) d = d
  stat_level (Halt here code) d = d
  stat_level (Change here c p e) d = d
  stat_level (Perform here c more) d = d
  stat_level (Return here e) d = d
  stat_level (New here p t more) d = max (suc d) (d + operands more)
  stat_level (Make here p t ns) d = d
  stat_level (With here e body) d = stats_level body d
  stat_level (WithRecord here p body) d = stats_level body d
  stat_level (Out here call) d = d

  pub stats_level : Stats → ℕ → ℕ
  stats_level Nothing d = d
  stats_level (Then s ss) d = max (stat_level s d) (stats_level ss d)

  pub arms_level : Arms → ℕ → ℕ
  arms_level (Otherwise ss) d = stats_level ss d
  arms_level (Arm e ss arms) d = max (stats_level ss d) (arms_level arms d)

  pub cases_level : Cases → ℕ → ℕ
  cases_level NoElse d = d
  cases_level (Else ss) d = stats_level ss d
  cases_level (OfLabels rs ss cases) d = max (stats_level ss d) (cases_level cases d)

-- a body with these statements: the entry and the end of its region take nothing, nor does its own end
abbrev pub body_need : Stats → ℕ
body_need ss = stats_need ss

-- how many numbers a body with these statements keeps something under
abbrev pub keeps_of : Stats → ℕ
keeps_of ss = stats_level ss 0

-- each body of an image of the program has as many operands at most as its statements need, and that of a condition as its expression
-- needs
pub record HasDepthsOf (p : Program) (image : Image) : Type 0 where
  pub bodies : map (λ b. b.depth) image.bodies.items ≡ map (λ r. body_need r.body.statements) (routines p)
  pub conditions : map (λ b. b.depth) image.conds.items ≡ map (λ c. value_need c.expression) (conditions p)
