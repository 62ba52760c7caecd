-- What emitters promise: what code they add to the code that is there, and how code is parted in what stands first and the rest.
use Rattle.std.specs.Prelude.{◌≡◌, ℕ, Option, List, ◌++◌, length}
use Rattle.aos_code.specs.declared.instr.Instr.{Instr}
use Rattle.aos_typed.specs.Program.{Callee, SelfRef, Function, Procedure, Program}
use Rattle.aos_typed.specs.Seen.{seen_place, seen_rows, seen_list, seen_callee, seen_expr}
use Rattle.aos_dispatch.specs.declared.prefixes.Prefix.{Prefix}
use Rattle.aos_dispatch.specs.declared.prefixes.Prefix.TheVariants as prefixes
use Rattle.aos_sim.specs.Code.{place_code, rows_code, arguments_code, value_code}
use Rattle.aos_emit_expr.specs.declared.sources.Source.{Source}
use Rattle.aos_emit_expr.specs.declared.sources.Source.TheVariants as sources
use Rattle.aos_emit_expr.specs.declared.forms.Form.{Form}
use Rattle.aos_emit_expr.specs.Back.{back_receiver, back_first, back_form}
use Rattle.aos_emit_expr.specs.Scope.{Inside, program_of, own_of}

-- the code of what code is emitted of
abbrev pub front_code : Program → Option Procedure → Prefix → ℕ → List Instr
front_code p own (prefixes.Value e) at = value_code p own (seen_expr e.now) at
front_code p own (prefixes.Place x) at = place_code p own (seen_place x.now) at
front_code p own (prefixes.Rows r) at = rows_code p own (seen_rows r.now) at

abbrev pub source_code : Program → Option Procedure → Source → ℕ → List Instr
source_code p own (sources.Prefix f) at = front_code p own f at
source_code p own (sources.Call c as') at = value_code p own (Function (seen_callee c.now) (seen_list as'.now)) at
source_code p own (sources.Handed as') at = arguments_code p own (seen_list as'.now) at
source_code p own sources.SelfRef at = value_code p own SelfRef at

-- to the old code the code of something is added, which stands behind it,
abbrev pub Adds : {A : Type 0} → (Program → Option Procedure → A → ℕ → List Instr) → Inside → (old new : List Instr) → A → Type 0
Adds code s old new x = new ≡ old ++ code (program_of s) (own_of s) x (length old)

-- or it stands before it, where both are from the last instruction to the first
abbrev pub AddsBack : {A : Type 0} → (Program → Option Procedure → A → List Instr → List Instr) → Inside → (old new : List Instr) → A → Type 0
AddsBack back s old new x = new ≡ back (program_of s) (own_of s) x old

-- a form has the code of something, behind whatever code
abbrev pub IsForm : {A : Type 0} → (Program → Option Procedure → A → List Instr → List Instr) → Inside → A → Form → Type 0
IsForm back s x form = (behind : List Instr) → back_form (program_of s) (own_of s) form behind ≡ back (program_of s) (own_of s) x behind

-- and this is what something is called on
abbrev pub IsReceiver : Callee → Option Source → Type 0
IsReceiver c first = (p : Program) (own : Option Procedure) (behind : List Instr) → back_first p own first behind ≡ back_receiver p own c behind
