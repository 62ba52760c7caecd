-- The conditions that the statements of a program await, in the order of their numbers from 0: those of each routine in the order of its
-- text, one routine behind the other.
use Rattle.std.specs.Prelude.{◌≡◌, ℕ, ◌+◌, Option, List, [], ◌∷◌, ◌++◌, length, map, sum_by, slice_get, Some}
use Rattle.std.specs.List.{flat_map}
use Rattle.aos_base.specs.declared.text.Pos.{Pos}
use Rattle.aos_typed.specs.Program.{Place, ModuleVar, Local, Passed, Field, Index, Of, Deref, Typed, Guarded, Rows, Known, Opened, Row, Spread, Longer, Expr, Lit, SelfRef, Read, Unary, Binary, And, Or, Element, Ord, Chr, CompareTexts, Len, LenBehind, Function, Same, Is, IsRecord, Guard, ProcedureOf, MethodOf, SameProcedure, Had, Stat, Assign, Copy, PutText, If, Case, While, Repeat, Loop, Exit, For, Block, Await, Assert, Halt, Change, Perform, Return, New, Make, With, WithRecord, Out, Stats, Nothing, Then, Arms, Otherwise, Arm, Cases, NoElse, Else, OfLabels, Body, Procedure, Method, ObjectType, Module, Program}
use Rattle.aos_typed.specs.Routines.{Routine, routines}

-- what an AWAIT awaits, and its place in the text
pub record Awaited : Type 0 where
  pub at : Pos
  pub expression : Expr

abbrev mutual
  pub awaited : Stat → List Awaited
  awaited (If at arms) = awaited_in_arms arms
  awaited (Case at e cases) = awaited_in_cases cases
  awaited (While at e body) = awaited_in body
  awaited (Repeat at body e) = awaited_in body
  awaited (Loop at body) = awaited_in body
  awaited (For at w p from to step body) = awaited_in body
  awaited (Block at exclusive body) = awaited_in body
  awaited (Await at n e) = record { at = at; expression = e } ∷ []
  awaited (With at e body) = awaited_in body
  awaited (WithRecord at p body) = awaited_in body
  awaited _ = []

  pub awaited_in : Stats → List Awaited
  awaited_in Nothing = []
  awaited_in (Then s ss) = awaited s ++ awaited_in ss

  pub awaited_in_arms : Arms → List Awaited
  awaited_in_arms (Otherwise ss) = awaited_in ss
  awaited_in_arms (Arm e ss arms) = awaited_in ss ++ awaited_in_arms arms

  pub awaited_in_cases : Cases → List Awaited
  awaited_in_cases NoElse = []
  awaited_in_cases (Else ss) = awaited_in ss
  awaited_in_cases (OfLabels rs ss cases) = awaited_in ss ++ awaited_in_cases cases

-- a condition: the module of its text, and the procedure, the method or the object's body over whose frame it is evaluated, which is none
-- for a module's body
pub record Condition : Type 0 where
  pub home : ℕ
  pub own : Option Procedure
  pub at : Pos
  pub expression : Expr

abbrev pub condition_in : (home : ℕ) → Option Procedure → Awaited → Condition
condition_in home own a = record { home = home; own = own; at = a.at; expression = a.expression }

abbrev pub conditions_of : Routine → List Condition
conditions_of r = map (condition_in r.home r.own) (awaited_in r.body.statements)

abbrev pub conditions : Program → List Condition
conditions p = flat_map conditions_of (routines p)

-- Numbers.

-- how many AWAITs there are
abbrev pub awaits : Body → ℕ
awaits b = length (awaited_in b.statements)

-- those of statements are numbered on from this number
abbrev mutual
  pub IsNumbered : ℕ → Stat → Type 0
  IsNumbered n (If at arms) = AreArmsNumbered n arms
  IsNumbered n (Case at e cases) = AreCasesNumbered n cases
  IsNumbered n (While at e body) = AreNumbered n body
  IsNumbered n (Repeat at body e) = AreNumbered n body
  IsNumbered n (Loop at body) = AreNumbered n body
  IsNumbered n (For at w p from to step body) = AreNumbered n body
  IsNumbered n (Block at exclusive body) = AreNumbered n body
  IsNumbered n (Await at k e) = k ≡ n
  IsNumbered n (With at e body) = AreNumbered n body
  IsNumbered n (WithRecord at p body) = AreNumbered n body
  IsNumbered n _ = Unit {0}

  pub AreNumbered : ℕ → Stats → Type 0
  AreNumbered n Nothing = Unit {0}
  AreNumbered n (Then s ss) = IsNumbered n s × AreNumbered (n + length (awaited s)) ss

  pub AreArmsNumbered : ℕ → Arms → Type 0
  AreArmsNumbered n (Otherwise ss) = AreNumbered n ss
  AreArmsNumbered n (Arm e ss arms) = AreNumbered n ss × AreArmsNumbered (n + length (awaited_in ss)) arms

  pub AreCasesNumbered : ℕ → Cases → Type 0
  AreCasesNumbered n NoElse = Unit {0}
  AreCasesNumbered n (Else ss) = AreNumbered n ss
  AreCasesNumbered n (OfLabels rs ss cases) = AreNumbered n ss × AreCasesNumbered (n + length (awaited_in ss)) cases

-- those of routines
abbrev pub AreAllNumbered : ℕ → List Routine → Type 0
AreAllNumbered n [] = Unit {0}
AreAllNumbered n (r ∷ rs) = AreNumbered n r.body.statements × AreAllNumbered (n + awaits r.body) rs

abbrev pub HasNumbers : Program → Type 0
HasNumbers p = AreAllNumbered 0 (routines p)

-- each number of an AWAIT in such a routine leads to its condition among these
module _ (cs : List Condition) (home : ℕ) (own : Option Procedure) where
  abbrev mutual
    pub IsLinked : Stat → Type 0
    IsLinked (If at arms) = AreArmsLinked arms
    IsLinked (Case at e cases) = AreCasesLinked cases
    IsLinked (While at e body) = AreLinked body
    IsLinked (Repeat at body e) = AreLinked body
    IsLinked (Loop at body) = AreLinked body
    IsLinked (For at w p from to step body) = AreLinked body
    IsLinked (Block at exclusive body) = AreLinked body
    IsLinked (Await at n e) = slice_get cs n ≡ Some (record { home = home; own = own; at = at; expression = e })
    IsLinked (With at e body) = AreLinked body
    IsLinked (WithRecord at p body) = AreLinked body
    IsLinked _ = Unit {0}

    pub AreLinked : Stats → Type 0
    AreLinked Nothing = Unit {0}
    AreLinked (Then s ss) = IsLinked s × AreLinked ss

    pub AreArmsLinked : Arms → Type 0
    AreArmsLinked (Otherwise ss) = AreLinked ss
    AreArmsLinked (Arm e ss arms) = AreLinked ss × AreArmsLinked arms

    pub AreCasesLinked : Cases → Type 0
    AreCasesLinked NoElse = Unit {0}
    AreCasesLinked (Else ss) = AreLinked ss
    AreCasesLinked (OfLabels rs ss cases) = AreLinked ss × AreCasesLinked cases

abbrev pub IsLinkedIn : Program → Routine → Type 0
IsLinkedIn p r = AreLinked (conditions p) r.home r.own r.body.statements

-- The walk that gives all AWAITs their numbers, those of statements from this number on.

abbrev mutual
  pub renumbered : ℕ → Stat → Stat
  renumbered n (If at arms) = If at (arms_renumbered n arms)
  renumbered n (Case at e cases) = Case at e (cases_renumbered n cases)
  renumbered n (While at e body) = While at e (stats_renumbered n body)
  renumbered n (Repeat at body e) = Repeat at (stats_renumbered n body) e
  renumbered n (Loop at body) = Loop at (stats_renumbered n body)
  renumbered n (For at w p from to step body) = For at w p from to step (stats_renumbered n body)
  renumbered n (Block at exclusive body) = Block at exclusive (stats_renumbered n body)
  renumbered n (Await at k e) = Await at n e
  renumbered n (With at e body) = With at e (stats_renumbered n body)
  renumbered n (WithRecord at p body) = WithRecord at p (stats_renumbered n body)
  renumbered n (Assign at t p e) = Assign at t p e
  renumbered n (Copy at t p q) = Copy at t p q
  renumbered n (PutText at strict a b) = PutText at strict a b
  renumbered n (Exit at) = Exit at
  renumbered n (Assert at e code) = Assert at e code
  renumbered n (Halt at code) = Halt at code
  renumbered n (Change at c p e) = Change at c p e
  renumbered n (Perform at c more) = Perform at c more
  renumbered n (Return at e) = Return at e
  renumbered n (New at p t more) = New at p t more
  renumbered n (Make at p t ns) = Make at p t ns
  renumbered n (Out at call) = Out at call

  pub stats_renumbered : ℕ → Stats → Stats
  stats_renumbered n Nothing = Nothing
  stats_renumbered n (Then s ss) = Then (renumbered n s) (stats_renumbered (n + length (awaited s)) ss)

  pub arms_renumbered : ℕ → Arms → Arms
  arms_renumbered n (Otherwise ss) = Otherwise (stats_renumbered n ss)
  arms_renumbered n (Arm e ss arms) = Arm e (stats_renumbered n ss) (arms_renumbered (n + length (awaited_in ss)) arms)

  pub cases_renumbered : ℕ → Cases → Cases
  cases_renumbered n NoElse = NoElse
  cases_renumbered n (Else ss) = Else (stats_renumbered n ss)
  cases_renumbered n (OfLabels rs ss cases) = OfLabels rs (stats_renumbered n ss) (cases_renumbered (n + length (awaited_in ss)) cases)

abbrev pub body_renumbered : ℕ → Body → Body
body_renumbered n b = record b { statements = stats_renumbered n b.statements }

abbrev pub procedure_renumbered : ℕ → Procedure → Procedure
procedure_renumbered n q = record q { body = body_renumbered n q.body }

abbrev pub procedures_renumbered : ℕ → List Procedure → List Procedure
procedures_renumbered n [] = []
procedures_renumbered n (q ∷ qs) = procedure_renumbered n q ∷ procedures_renumbered (n + awaits q.body) qs

abbrev pub methods_renumbered : ℕ → List Method → List Method
methods_renumbered n [] = []
methods_renumbered n (m ∷ ms) =
    record m { procedure = procedure_renumbered n m.procedure } ∷ methods_renumbered (n + awaits m.procedure.body) ms

-- how many AWAITs the procedures of a module have, and the methods of a type
abbrev pub awaits_in_procedures : Module → ℕ
awaits_in_procedures x = sum_by (λ q. awaits q.body) x.procedures

abbrev pub awaits_in_methods : ObjectType → ℕ
awaits_in_methods o = sum_by (λ m. awaits m.procedure.body) o.methods

-- those of bodies from the first of two numbers on, those of procedures and methods from the second one on
abbrev pub modules_renumbered : (n k : ℕ) → List Module → List Module
modules_renumbered n k [] = []
modules_renumbered n k (x ∷ xs) =
    record x { procedures = procedures_renumbered k x.procedures; body = body_renumbered n x.body }
    ∷ modules_renumbered (n + awaits x.body) (k + awaits_in_procedures x) xs

abbrev pub objects_renumbered : (n k : ℕ) → List ObjectType → List ObjectType
objects_renumbered n k [] = []
objects_renumbered n k (o ∷ os) =
    record o { body = procedure_renumbered n o.body; methods = methods_renumbered k o.methods }
    ∷ objects_renumbered (n + awaits o.body.body) (k + awaits_in_methods o) os

abbrev pub numbered : Program → Program
numbered p =
    let beside = sum_by (λ x. awaits x.body) p.modules in
    let procedures = beside + sum_by (λ o. awaits o.body.body) p.objects in
    let methods = procedures + sum_by awaits_in_procedures p.modules in
    record p { modules = modules_renumbered 0 procedures p.modules; objects = objects_renumbered beside methods p.objects }

-- Expressions without calls. Predeclared functions are no calls, and neither is a procedure that is named as a value.

abbrev mutual
  pub HasNoCalls : Expr → Type 0
  HasNoCalls (Lit l) = Unit {0}
  HasNoCalls SelfRef = Unit {0}
  HasNoCalls (Read t p) = HasNoCallsInPlace p
  HasNoCalls (Unary op a) = HasNoCalls a
  HasNoCalls (Binary op a b) = HasNoCalls a × HasNoCalls b
  HasNoCalls (And a b) = HasNoCalls a × HasNoCalls b
  HasNoCalls (Or a b) = HasNoCalls a × HasNoCalls b
  HasNoCalls (Element a) = HasNoCalls a
  HasNoCalls (Ord a) = HasNoCalls a
  HasNoCalls (Chr a) = HasNoCalls a
  HasNoCalls (CompareTexts r a b) = HasNoCallsInRows a × HasNoCallsInRows b
  HasNoCalls (Len r d) = HasNoCallsInRows r
  HasNoCalls (LenBehind r n) = HasNoCallsInRows r
  HasNoCalls (Function c more) = ⊥
  HasNoCalls (Same a b) = HasNoCalls a × HasNoCalls b
  HasNoCalls (Is a t) = HasNoCalls a
  HasNoCalls (IsRecord p t) = HasNoCallsInPlace p
  HasNoCalls (Guard a t) = HasNoCalls a
  HasNoCalls (ProcedureOf m k) = Unit {0}
  HasNoCalls (MethodOf a t k) = HasNoCalls a
  HasNoCalls (SameProcedure a b) = HasNoCalls a × HasNoCalls b
  HasNoCalls (Had v) = Unit {0}

  pub HasNoCallsInPlace : Place → Type 0
  HasNoCallsInPlace (ModuleVar m k) = Unit {0}
  HasNoCallsInPlace (Local k) = Unit {0}
  HasNoCallsInPlace (Passed k) = Unit {0}
  HasNoCallsInPlace (Field p t k) = HasNoCallsInPlace p
  HasNoCallsInPlace (Index p n t e) = HasNoCallsInPlace p × HasNoCalls e
  HasNoCallsInPlace (Of r) = HasNoCallsInRows r
  HasNoCallsInPlace (Deref e t) = HasNoCalls e
  HasNoCallsInPlace (Typed p t) = HasNoCallsInPlace p
  HasNoCallsInPlace (Guarded p t) = HasNoCallsInPlace p

  pub HasNoCallsInRows : Rows → Type 0
  HasNoCallsInRows (Known p ns) = HasNoCallsInPlace p
  HasNoCallsInRows (Opened k j) = Unit {0}
  HasNoCallsInRows (Row r t e) = HasNoCallsInRows r × HasNoCalls e
  HasNoCallsInRows (Spread e j) = HasNoCalls e
  HasNoCallsInRows (Longer r ns) = HasNoCallsInRows r
