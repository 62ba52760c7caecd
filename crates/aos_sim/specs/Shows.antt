-- When an image has a program's code, and when it shows the program.
use Rattle.std.specs.Prelude.{◌≡◌, ◌<◌, ◌^◌, ℕ, suc, pos, Bool, false, Option, Some, None, All, List, [], ◌∷◌, ◌++◌, map, length, drop}
use Rattle.std.specs.List.{flat_map, range_with_len}
use Rattle.std.specs.String.{string_bytes}
use Rattle.aos_base.specs.Machine.{Choice, execution}
use Rattle.aos_base.specs.Observation.{observation}
use Rattle.aos_base.specs.Priority.{number_of}
use Rattle.aos_types.specs.declared.row.TypeRow.{TypeRow}
use Rattle.aos_types.specs.Table.{base_of}
use Rattle.aos_types.specs.Shape.{leaves, row, size}
use Rattle.aos_typed.specs.Program.{Procedure, Module, Program}
use Rattle.aos_typed.specs.Methods.{body_type, initializer, is_active, method_number, priority_by, slots, own_numbers}
use Rattle.aos_typed.specs.Numbers.{body_number, predeclared_types}
use Rattle.aos_typed.specs.Conditions.{conditions}
use Rattle.aos_typed.specs.Routines.{Routine, routines}
use Rattle.aos_typed.specs.Source.{source, first_state}
use Rattle.aos_code.specs.declared.instr.Cell.{Cell}
use Rattle.aos_code.specs.declared.instr.Cell.TheVariants.{Num}
use Rattle.aos_code.specs.declared.image.Body.{Body}
use Rattle.aos_code.specs.declared.image.ProcShape.{ProcShape}
use Rattle.aos_code.specs.declared.image.ModuleDesc.{ModuleDesc}
use Rattle.aos_code.specs.declared.image.TypeDesc.{TypeDesc}
use Rattle.aos_code.specs.declared.image.Image.{Image}
use Rattle.aos_code.specs.Machine.{machine, first_cell, first_state as first_of}
use Rattle.aos_layout.specs.Layout.{variable_cells, block}
pub use Rattle.aos_layout.specs.Layout.{type_kinds, made_kinds, base_number}
use Rattle.aos_layout.specs.Frame.{Known, known}
use Rattle.aos_layout.specs.Seen.{seen_shape}
use Rattle.aos_sim.specs.Code.{body_code, condition_code}
use Rattle.aos_sim.specs.Need.{keeps_of}

-- as many numbers as the list has elements, from this one on
abbrev pub numbers_from : {A : Type 0} → ℕ → List A → List ℕ
numbers_from k [] = []
numbers_from k (x ∷ xs) = k ∷ numbers_from (suc k) xs

-- the number of the body that the objects of a type have, 0 where they have none
abbrev pub body_in : Program → (body_of : Option ℕ) → ℕ
body_in p None = 0
body_in p (Some b) = body_number p b

abbrev pub body_numbers : Program → List ℕ
body_numbers p = map (λ k. body_in p (body_type p k)) (range_with_len 0 (length p.objects))

-- whether it is active
abbrev pub active_in : Program → (body_of : Option ℕ) → Bool
active_in p None = false
active_in p (Some b) = is_active p b

-- the number of the initializer that the objects of a type have in this slot, 0 where they have none
abbrev pub initial_in : Program → (type : ℕ) → (slot : Option ℕ) → ℕ
initial_in p t None = 0
initial_in p t (Some k) = method_number p t k

-- what the cells of a string constant hold: its characters, and a 0X
abbrev pub text_cells : List ℕ → List Cell
text_cells cs = map (λ c. Num (pos c)) cs ++ Num (pos 0) ∷ []

-- what a module's cells begin with: those of its variables with 0 or NIL, and behind them its string constants
abbrev pub first_cells : List TypeRow → Module → List Cell
first_cells rows m = map first_cell (leaves (row (variable_cells rows m.variables))) ++ flat_map text_cells m.texts

-- what code knows of a routine; the frame of a body has no cells, and it gives nothing
abbrev pub shape_of : List TypeRow → Routine → Known
shape_of rows r = by r.own
  where
    by : Option Procedure → Known
    by None =
        record {
          module_ = r.home;
          params = [];
          cells = 0;
          counted = 0;
          keeps = keeps_of r.body.statements;
          result = None;
          method = false;
          kinds = [];
        }
    by (Some q) = known rows r.home (keeps_of r.body.statements) q

-- These bodies, conditions, shapes and descriptions are the code of a program: each routine has a body and a shape, those of modules
-- first, and each condition has its code. What describes a type says of its objects' activities what the body's own type does, and that
-- none begins anew. The cells of a module have numbers of 32 bits.
pub record IsCode (p : Program) (bs cs : List Body) (ss : List ProcShape) (ds : List ModuleDesc) (ts : List TypeDesc) : Type 0 where
  pub bodies : map (λ b. b.code.items) bs ≡ map (λ r. body_code p r.own r.body) (routines p)
  pub conditions : map (λ b. b.code.items) cs ≡ map (λ c. condition_code p c.own c.expression) (conditions p)
  pub shapes : map seen_shape ss ≡ map (shape_of p.types) (routines p)
  pub starts : map (λ d. d.body) ds ≡ numbers_from 1 p.modules
  pub types : map (λ t. t.body) ts ≡ body_numbers p
  pub actives : map (λ t. t.active) ts ≡ map (λ k. active_in p (body_type p k)) (range_with_len 0 (length p.objects))
  pub priorities : map (λ t. t.priority) ts ≡ map (λ k. number_of (priority_by p (body_type p k))) (range_with_len 0 (length p.objects))
  pub safes : map (λ t. t.safe) ts ≡ map (λ t. false) ts
  pub initials : map (λ t. t.init) ts ≡ map (λ k. initial_in p k (initializer p k)) (range_with_len 0 (length p.objects))
  pub methods : map (λ t. t.methods.items) ts ≡ map (λ k. slots p (own_numbers p) k) (range_with_len 0 (length p.objects))
  pub bases : map (λ t. t.base) ts ≡ map (λ r. base_number (base_of (Some r))) (drop predeclared_types p.types)
  pub kinds : map (λ t. t.kinds.items) ts ≡ map (λ k. made_kinds p.types (record { 0 = k })) (range_with_len predeclared_types (length p.objects))
  pub counts : map (λ t. t.cells) ts ≡ map (λ t. length t.kinds.items) ts
  pub cells : map (λ d. d.cells.items) ds ≡ map (first_cells p.types) p.modules
  pub names : map (λ d. string_bytes d.name) ds ≡ map (λ m. m.name) p.modules
  pub few : All (λ m. size (block p.types m) < 2 ^ 32) p.modules

-- the image has the program's code
abbrev pub IsCodeOf : Program → Image → Type 0
IsCodeOf p image = IsCode p image.bodies.items image.conds.items image.shapes.items image.modules.items image.types.items

-- for every budget and schedule both executions have the same observation, the same events and the same book: who stands where,
-- who owns which lock, and how far each activity is
pub record Shows (p : Program) (image : Image) : Type 0 where
  pub observation : (budget : ℕ) (choices : List Choice) → observation (machine image) (execution (machine image) choices (first_of image budget)) ≡ observation (source p) (execution (source p) choices (first_state p budget))
  pub events : (budget : ℕ) (choices : List Choice) → (execution (machine image) choices (first_of image budget)).book.events ≡ (execution (source p) choices (first_state p budget)).book.events
  pub books : (budget : ℕ) (choices : List Choice) → (execution (machine image) choices (first_of image budget)).book ≡ (execution (source p) choices (first_state p budget)).book

-- no execution has a trap of code that finds another operand than it takes, or a place that isn't there: that is trap 16, and
-- those of the language are below it
abbrev pub NeverLost : Image → Type 0
NeverLost image =
    (budget : ℕ) (choices : List Choice)
    → All (λ t. t.number < 16) (observation (machine image) (execution (machine image) choices (first_of image budget))).traps
