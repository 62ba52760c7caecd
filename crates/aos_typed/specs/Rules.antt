-- What is asked of a program beside the types of its parts (Oberon-2 report, 6.2, 6.4, 9.8 to 9.10 and 10.1; Reali 2002, sections on
-- arrays, on objects and on AWAIT): where EXIT and AWAIT stand, and the steps of FOR; of which types arrays, records and pointers are;
-- initializers, and which bodies are active.
use Rattle.std.specs.Prelude.{◌≡◌, ◌≢◌, ℕ, pos, ◌≤◌, List, count_by, All, Bool, true, false, ◌||◌, Option, Some, slice_get}
use Rattle.aos_base.specs.declared.limits.TheConstants.{MOST_SCALARS}
use Rattle.aos_base.specs.declared.priority.Priority.TheVariants.{Normal}
use Rattle.aos_types.specs.declared.row.TypeId.{TypeId}
use Rattle.aos_types.specs.declared.row.TypeRow.{TypeRow}
use Rattle.aos_types.specs.declared.row.TypeRow.TheVariants as row
use Rattle.aos_types.specs.Table.{row_of, is_open}
use Rattle.aos_typed.specs.Program.{Stat, If, Case, While, Repeat, Loop, Exit, For, Block, Await, With, WithRecord, Stats, Nothing, Then, Arms, Otherwise, Arm, Cases, NoElse, Else, OfLabels, Body, ObjectType, Module}

-- Statements, in a region of their own body or in none, and in a LOOP or in none: EXIT stands in a LOOP, AWAIT in a region, and the step
-- of a FOR isn't 0.
abbrev mutual
  pub KeepsRules : (in_region in_loop : Bool) → Stat → Type 0
  KeepsRules r l (If at arms) = ArmsKeepRules r l arms
  KeepsRules r l (Case at e cases) = CasesKeepRules r l cases
  KeepsRules r l (While at e body) = AllKeepRules r l body
  KeepsRules r l (Repeat at body e) = AllKeepRules r l body
  KeepsRules r l (Loop at body) = AllKeepRules r true body
  KeepsRules r l (Exit at) = l ≡ true
  KeepsRules r l (For at w place from to step body) = (step ≢ pos 0) × AllKeepRules r l body
  KeepsRules r l (Block at exclusive body) = AllKeepRules (r || exclusive) l body
  KeepsRules r l (Await at n e) = r ≡ true
  KeepsRules r l (With at e body) = AllKeepRules r l body
  KeepsRules r l (WithRecord at place body) = AllKeepRules r l body
  KeepsRules r l _ = Unit {0}

  pub AllKeepRules : (in_region in_loop : Bool) → Stats → Type 0
  AllKeepRules r l Nothing = Unit {0}
  AllKeepRules r l (Then s ss) = KeepsRules r l s × AllKeepRules r l ss

  pub ArmsKeepRules : (in_region in_loop : Bool) → Arms → Type 0
  ArmsKeepRules r l (Otherwise ss) = AllKeepRules r l ss
  ArmsKeepRules r l (Arm e ss arms) = AllKeepRules r l ss × ArmsKeepRules r l arms

  pub CasesKeepRules : (in_region in_loop : Bool) → Cases → Type 0
  CasesKeepRules r l NoElse = Unit {0}
  CasesKeepRules r l (Else ss) = AllKeepRules r l ss
  CasesKeepRules r l (OfLabels rs ss cases) = AllKeepRules r l ss × CasesKeepRules r l cases

-- those of a whole body, which may be a region
abbrev pub BodyKeepsRules : Body → Type 0
BodyKeepsRules b = AllKeepRules b.is_exclusive false b.statements

-- Types.

abbrev pub IsClosed : List TypeRow → TypeId → Type 0
IsClosed rows t = is_open (row_of rows t) ≡ false

-- a record or an array
abbrev pub is_led_to : Option TypeRow → Bool
is_led_to (Some (row.Array n t)) = true
is_led_to (Some (row.Open t)) = true
is_led_to (Some (row.Record base fields)) = true
is_led_to _ = false

-- an array has 1 to 2^24 elements; these, and the fields of a record or an object, are no open arrays; and a pointer leads to a record or
-- an array
abbrev pub RowKeepsRules : List TypeRow → TypeRow → Type 0
RowKeepsRules rows (row.Array n t) = (1 ≤ n) × (n ≤ MOST_SCALARS) × IsClosed rows t
RowKeepsRules rows (row.Record base fields) = All (IsClosed rows) fields
RowKeepsRules rows (row.Object base fields) = All (IsClosed rows) fields
RowKeepsRules rows (row.Pointer t) = is_led_to (row_of rows t) ≡ true
RowKeepsRules rows _ = Unit {0}

abbrev pub RowsKeepRules : List TypeRow → Type 0
RowsKeepRules rows = (k : ℕ) (r : TypeRow) → slice_get rows k ≡ Some r → RowKeepsRules rows r

-- Declarations.

-- no procedure of a module is an initializer
pub record ModuleKeepsRules (m : Module) : Type 0 where
  pub body : BodyKeepsRules m.body
  pub procedures : All (λ q. BodyKeepsRules q.body) m.procedures
  pub initializers : All (λ q. q.is_initializer ≡ false) m.procedures

-- one of a type's methods at most is one; what is active is a body, and what isn't has no priority but the normal one
pub record ObjectKeepsRules (o : ObjectType) : Type 0 where
  pub body : BodyKeepsRules o.body.body
  pub methods : All (λ m. BodyKeepsRules m.procedure.body) o.methods
  pub initializers : count_by (λ m. m.procedure.is_initializer) o.methods ≤ 1
  pub active : o.is_active ≡ true → o.has_body ≡ true
  pub priority : o.is_active ≡ false → o.priority ≡ Normal
