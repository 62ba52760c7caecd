-- The lines that the program writes beside a run's output, and those of `check` and `list`. Each ends with the byte 10; numbers are decimal.
use Rattle.std.specs.Prelude.{ℕ, ◌+◌, List, [], ◌∷◌, ◌++◌, codes, decimal, slice_get, unwrap_or, Bool, true, false, ◌==◌, ◌||◌, if◌then◌else◌}
use Rattle.std.specs.List.{flat_map}
use Rattle.aos_base.specs.declared.text.Pos.{Pos}
use Rattle.aos_base.specs.declared.kernel.LockName.{LockName}
use Rattle.aos_base.specs.declared.kernel.LockName.TheVariants.{Module, Object}
use Rattle.aos_base.specs.Book.{TrapRow, Where}
use Rattle.aos_base.specs.Observation.{WaitRow}
use Rattle.aos_code.specs.declared.report.AwaitRec.{AwaitRec}
use Rattle.aos_code.specs.Lines.{Line}

-- a module's name, by its number
abbrev pub name_of : List (List ℕ) → ℕ → List ℕ
name_of names m = unwrap_or (slice_get names m) []

-- NAME:LINE:COL
abbrev pub place_text : List ℕ → Pos → List ℕ
place_text name at = name ++ codes ":" ++ decimal at.line ++ codes ":" ++ decimal at.col

-- what the rules are called, by their numbers from 0
abbrev pub rule_texts : List (List ℕ)
rule_texts =
    codes "not built yet"
    ∷ codes "file not found"
    ∷ codes "character not allowed"
    ∷ codes "comment not closed"
    ∷ codes "string not closed"
    ∷ codes "number too large"
    ∷ codes "syntax"
    ∷ codes "nesting too deep"
    ∷ codes "module given twice"
    ∷ codes "imported module not given"
    ∷ codes "import cycle"
    ∷ codes "module named Out"
    ∷ codes "end name differs"
    ∷ codes "name declared twice"
    ∷ codes "unknown name"
    ∷ codes "name not exported"
    ∷ codes "name of another kind"
    ∷ codes "wrong base type"
    ∷ codes "type contains itself"
    ∷ codes "too many scalars"
    ∷ codes "constant expression refused"
    ∷ codes "open array not allowed"
    ∷ codes "override differs"
    ∷ codes "name stands in the base type"
    ∷ codes "wrong initializer"
    ∷ codes "type not allowed"
    ∷ codes "object type not at module level"
    ∷ codes "not built yet"
    ∷ codes "not built yet"
    ∷ codes "not built yet"
    ∷ codes "operand types"
    ∷ codes "value doesn't fit"
    ∷ codes "not a variable"
    ∷ codes "read only"
    ∷ codes "number of arguments"
    ∷ codes "argument type"
    ∷ codes "wrong call"
    ∷ codes "condition not BOOLEAN"
    ∷ codes "wrong case"
    ∷ codes "EXIT outside LOOP"
    ∷ codes "wrong RETURN"
    ∷ codes "wrong type test"
    ∷ codes "wrong selector"
    ∷ codes "AWAIT outside a region"
    ∷ codes "call in AWAIT"
    ∷ codes "wrong modifier"
    ∷ codes "wrong SELF or ^"
    ∷ codes "wrong NEW"
    ∷ codes "wrong FOR"
    ∷ codes "wrong WITH"
    ∷ []

-- what a rule is called; each that has no other text is of what isn't built
abbrev pub rule_text : ℕ → List ℕ
rule_text rule = unwrap_or (slice_get rule_texts rule) (codes "not built yet")

-- FILE:LINE:COL: rule N: TEXT
abbrev pub refusal_text : List ℕ → ℕ → Pos → List ℕ
refusal_text file rule at =
    place_text file at ++ codes ": rule " ++ decimal rule ++ codes ": " ++ rule_text rule ++ codes "\n"

abbrev pub usage_text : List ℕ
usage_text = codes "usage: aos run|replay|check|list|gen\n"

abbrev pub unread_text : List ℕ → List ℕ
unread_text file = file ++ codes ": cannot be read\n"

abbrev pub too_long_text : List ℕ → ℕ → List ℕ
too_long_text file limit = file ++ codes ": longer than " ++ decimal limit ++ codes " bytes\n"

-- trap N CODE activity A at MODULE:LINE:COL
abbrev pub trap_text : List (List ℕ) → (number code activity : ℕ) → Where → List ℕ
trap_text names number code activity at =
    codes "trap " ++ decimal number ++ codes " " ++ decimal code ++ codes " activity " ++ decimal activity ++ codes " at " ++ place_text (name_of names at.module_) at.pos ++ codes "\n"

abbrev pub row_text : List (List ℕ) → TrapRow → List ℕ
row_text names row = trap_text names row.number row.code row.activity row.at

-- the lines of all traps, in their order
abbrev pub rows_text : List (List ℕ) → List TrapRow → List ℕ
rows_text names [] = []
rows_text names (row ∷ rows) = row_text names row ++ rows_text names rows

-- object N, or module NAME
abbrev pub lock_text : List (List ℕ) → LockName → List ℕ
lock_text names (Object n) = codes "object " ++ decimal n
lock_text names (Module m) = codes "module " ++ name_of names m

-- what is waited for: a condition, or else the lock itself
abbrev pub wait_word : Bool → List ℕ
wait_word true = codes "await "
wait_word false = codes "enter "

-- waiting A enter LOCK at MODULE:LINE:COL, or await in the place of enter
abbrev pub wait_text : List (List ℕ) → WaitRow → List ℕ
wait_text names row =
    codes "waiting " ++ decimal row.activity ++ codes " " ++ wait_word row.awaits ++ lock_text names row.lock ++ codes " at " ++ place_text (name_of names row.at.module_) row.at.pos ++ codes "\n"

-- the lines of all who wait, in their order
abbrev pub waits_text : List (List ℕ) → List WaitRow → List ℕ
waits_text names [] = []
waits_text names (row ∷ rows) = wait_text names row ++ waits_text names rows

-- activity A began B statements
abbrev pub budget_text : (activity budget : ℕ) → List ℕ
budget_text activity budget = codes "activity " ++ decimal activity ++ codes " began " ++ decimal budget ++ codes " statements\n"

-- a script came to its end while the run was going on
abbrev pub script_ended_text : (steps : ℕ) → List ℕ
script_ended_text steps = codes "script ended after " ++ decimal steps ++ codes " steps\n"

-- probe I T
abbrev pub probe_text : (number total : ℕ) → List ℕ
probe_text number total = codes "probe " ++ decimal number ++ codes " " ++ decimal total ++ codes "\n"

-- the lines of probes with these totals, numbered from the first
abbrev pub probes_text : (first : ℕ) → (totals : List ℕ) → List ℕ
probes_text first [] = []
probes_text first (total ∷ totals) = probe_text first total ++ probes_text (first + 1) totals

-- this line of a script isn't what may stand there
abbrev pub script_refused_text : (line : ℕ) → List ℕ
script_refused_text line = codes "script line " ++ decimal line ++ codes " refused\n"

-- this line of a script names a worker that there isn't
abbrev pub no_worker_text : (line : ℕ) → List ℕ
no_worker_text line = codes "script line " ++ decimal line ++ codes ": no such worker\n"

-- What `list` writes.

-- what a line is of, by its number from 0
abbrev pub part_texts : List (List ℕ)
part_texts =
    codes "module "
    ∷ codes "var "
    ∷ codes "type "
    ∷ codes "field "
    ∷ codes "method "
    ∷ codes "procedure "
    ∷ []

abbrev pub part_text : ℕ → List ℕ
part_text part = unwrap_or (slice_get part_texts part) []

-- a variable and a field stand at a cell
abbrev pub is_placed : ℕ → Bool
is_placed part = part == 1 || part == 3

-- at C, slot K for a method, or nothing
abbrev pub offset_text : (part at : ℕ) → List ℕ
offset_text part at =
    if part == 4 then codes " slot " ++ decimal at
    else if is_placed part then codes " at " ++ decimal at
    else []

-- cells N, which a method has not
abbrev pub size_text : (part cells : ℕ) → List ℕ
size_text part cells = if part == 4 then [] else codes " cells " ++ decimal cells

abbrev pub line_text : Line → List ℕ
line_text l = part_text l.word ++ l.name ++ offset_text l.word l.at ++ size_text l.word l.cells ++ codes "\n"

abbrev pub lines_text : List Line → List ℕ
lines_text ls = flat_map line_text ls

-- What `check` writes.

abbrev pub local_word : Bool → List ℕ
local_word true = codes " local"
local_word false = codes " not local"

-- await MODULE:LINE:COL local, or not local
abbrev pub await_text : (names : List (List ℕ)) → AwaitRec → List ℕ
await_text names a = codes "await " ++ place_text (name_of names a.module) a.pos ++ local_word a.is_local ++ codes "\n"

abbrev pub awaits_text : (names : List (List ℕ)) → List AwaitRec → List ℕ
awaits_text names rows = flat_map (await_text names) rows
