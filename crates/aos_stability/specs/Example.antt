-- A program whose waiter is given its lock, and an execution of it up to that:
--
--     MODULE Gates;
--     TYPE
--       Gate = OBJECT
--         VAR up: BOOLEAN;
--         PROCEDURE & Init;
--         BEGIN up := FALSE END Init;
--         PROCEDURE Open;
--         BEGIN {EXCLUSIVE} up := TRUE END Open;
--       BEGIN {ACTIVE, EXCLUSIVE} AWAIT(up)
--       END Gate;
--     VAR gate: Gate;
--     BEGIN NEW(gate); gate.Open
--     END Gates.
use Rattle.std.specs.Prelude.{◌≡◌, ℕ, List, [], ◌∷◌, ◌++◌, Bool, true, false, Some, None, codes}
use Rattle.aos_base.specs.declared.priority.Priority.TheVariants.{Normal}
use Rattle.aos_base.specs.declared.text.Pos.{Pos}
use Rattle.aos_base.specs.Machine.{Choice, Step, State, happens, execution}
use Rattle.aos_base.specs.Rooted.{by_number}
use Rattle.aos_types.specs.declared.row.TypeRow.{TypeRow}
use Rattle.aos_types.specs.declared.row.TypeRow.TheVariants as row
use Rattle.aos_typed.specs.declared.tree.Literal.TheVariants as literal
use Rattle.aos_typed.specs.declared.tree.TType.{TType}
use Rattle.aos_typed.specs.declared.tree.TType.TheVariants.{Boolean, Named}
use Rattle.aos_typed.specs.Conditions.{Condition}
use Rattle.aos_typed.specs.Meaning.{body_items}
use Rattle.aos_typed.specs.Numbers.{id_of, predeclared_rows}
use Rattle.aos_typed.specs.Program.{Place, ModuleVar, Field, Deref, NoMore, Dispatched, Expr, Lit, SelfRef, Read, Assign, Await, Perform, New, Stats, Nothing, Then, Body, Procedure, Method, ObjectType, Variable, Module, Program}
use Rattle.aos_typed.specs.Routines.{Routine, routines}
use Rattle.aos_typed.specs.Source.{Frame, Frames, first_state, source}
use Rattle.aos_typed.specs.Store.{Store}

abbrev pub at : (line col : ℕ) → Pos
at l c = record { line = l; col = c }

abbrev pub gate_type : TType
gate_type = Named 0

-- the field of SELF
abbrev pub up : Place
up = Field (Deref SelfRef gate_type) gate_type 0

abbrev pub is_up : Expr
is_up = Read Boolean up

abbrev pub set_up : Pos → Bool → Stats
set_up p b = Then (Assign p Boolean up (Lit (literal.Bool b))) Nothing

abbrev pub text_of : (is_exclusive : Bool) → Stats → Body
text_of x ss = record { is_exclusive = x; statements = ss }

-- a method of a gate, or its body
abbrev pub procedure_with : (name : List ℕ) → Pos → (is_initializer : Bool) → Body → Procedure
procedure_with name place initial body =
    record {
      name = name;
      at = place;
      of = Some 0;
      is_initializer = initial;
      parameters = [];
      locals = [];
      result = None;
      body = body;
    }

abbrev pub init : Procedure
init = procedure_with (codes "Init") (at 5 17) true (text_of false (set_up (at 6 11) false))

abbrev pub opens : Procedure
opens = procedure_with (codes "Open") (at 7 15) false (text_of true (set_up (at 8 23) true))

abbrev pub waits : Procedure
waits = procedure_with [] (at 0 0) false (text_of true (Then (Await (at 9 29) 0 is_up) Nothing))

abbrev pub init_method : Method
init_method = record { slot = 0; procedure = init }

abbrev pub opens_method : Method
opens_method = record { slot = 1; procedure = opens }

abbrev pub beside_gate : ObjectType
beside_gate =
    record {
      name = codes "Gate";
      at = at 3 3;
      fields = codes "up" ∷ [];
      home = 0;
      has_body = true;
      is_active = true;
      priority = Normal;
      body = waits;
      methods = init_method ∷ opens_method ∷ [];
    }

abbrev pub gate : Place
gate = ModuleVar 0 0

abbrev pub gate_variable : Variable
gate_variable = record { name = codes "gate"; of = gate_type }

abbrev pub gates_module : Module
gates_module =
    record {
      name = codes "Gates";
      variables = gate_variable ∷ [];
      texts = [];
      procedures = [];
      body =
          text_of false
          (Then (New (at 12 7) gate 0 NoMore) (Then (Perform (at 12 18) (Dispatched (Read gate_type gate) 0 1) NoMore) Nothing));
    }

-- the row of its type: a field, and no base
abbrev pub gate_row : TypeRow
gate_row = row.Object None (id_of Boolean ∷ [])

-- what runs in it: the module's body by the number 1, a gate's by 2, its initializer by 3, and Open by 4
abbrev pub gates : Program
gates =
    record {
      modules = gates_module ∷ [];
      types = predeclared_rows ++ gate_row ∷ [];
      objects = beside_gate ∷ [];
    }

-- what is awaited
abbrev pub condition : Condition
condition = record { home = 0; own = Some waits; at = at 9 29; expression = is_up }

-- Worker 0 carries out the module's body, which makes a gate, up to the call of its initializer.
abbrev pub up_to_the_call : List Choice
up_to_the_call = Step 0 ∷ Step 0 ∷ Step 0 ∷ Step 0 ∷ []

-- The initializer is carried out, and the gate's activity is begun.
abbrev pub up_to_the_start : List Choice
up_to_the_start = Step 0 ∷ Step 0 ∷ Step 0 ∷ Step 0 ∷ Step 0 ∷ []

-- Worker 1 carries out the gate's body, which enters its region, and waits there.
abbrev pub up_to_the_wait : List Choice
up_to_the_wait = Step 1 ∷ Step 1 ∷ Step 1 ∷ Step 1 ∷ []

-- Worker 0 opens the gate, up to where it gives up the gate's lock.
abbrev pub up_to_the_release : List Choice
up_to_the_release = Step 0 ∷ Step 0 ∷ Step 0 ∷ Step 0 ∷ Step 0 ∷ Step 0 ∷ []

-- Then the module's body ends, while the gate's has been taken by worker 1, which is to go on with it.
abbrev pub up_to_the_end : List Choice
up_to_the_end = Step 0 ∷ Step 1 ∷ Step 0 ∷ Step 0 ∷ []

abbrev pub Running : Type 0
Running = State Store Frames

abbrev pub run : List Choice → Running → Running
run choices st = execution (source gates) choices st

abbrev pub at_the_call : Running
at_the_call = run up_to_the_call (first_state gates 100)

abbrev pub at_the_release : Running
at_the_release = run (up_to_the_call ++ (up_to_the_start ++ (up_to_the_wait ++ up_to_the_release))) (first_state gates 100)

-- the entry that passes the lock to the gate's activity
abbrev pub at_the_handover : Running
at_the_handover = happens (source gates) (Step 0) at_the_release

abbrev pub at_the_end : Running
at_the_end = run up_to_the_end at_the_handover

-- the topmost frame of an activity, on this object, is to begin with what the routine of this number carries out
pub record IsCalled (st : Running) (a number object : ℕ) : Type 0 where
  pub routine : Routine
  pub there : by_number number (routines gates) ≡ Some routine
  pub top : Frame
  pub below : List Frame
  pub frames : (st.frames a).frames ≡ top ∷ below
  pub items : top.items ≡ body_items routine.body
  pub answers : top.answers ≡ None
  pub on : top.object ≡ object
