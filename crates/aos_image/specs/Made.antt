-- What describes some of a program's modules and object types.
use Rattle.std.specs.Prelude.{◌≡◌, ℕ, Bool, false, List, length, map}
use Rattle.std.specs.List.{range_with_len}
use Rattle.std.specs.String.{string_bytes}
use Rattle.aos_base.specs.Priority.{number_of}
use Rattle.aos_types.specs.declared.row.TypeRow.{TypeRow}
use Rattle.aos_types.specs.Table.{row_of, base_of}
use Rattle.aos_typed.specs.Methods.{body_type, initializer, priority_by, slots, own_numbers}
use Rattle.aos_typed.specs.Numbers.{predeclared_types}
use Rattle.aos_typed.specs.Program.{Module, Program}
use Rattle.aos_code.specs.declared.instr.Kind.{Kind}
use Rattle.aos_code.specs.declared.image.ModuleDesc.{ModuleDesc}
use Rattle.aos_code.specs.declared.image.TypeDesc.{TypeDesc}
use Rattle.aos_sim.specs.Shows.{numbers_from, first_cells, initial_in, body_in, active_in, made_kinds, base_number}

-- these describe these modules, whose bodies are numbered from 1
pub record AreModules (p : Program) (ms : List Module) (ds : List ModuleDesc) : Type 0 where
  pub starts : map (λ d. d.body) ds ≡ numbers_from 1 ms
  pub cells : map (λ d. d.cells.items) ds ≡ map (first_cells p.types) ms
  pub names : map (λ d. string_bytes d.name) ds ≡ map (λ m. m.name) ms

-- the base and the cells of the type with this number in the table, and the methods of the type with this number in the program
abbrev pub base_at : Program → ℕ → ℕ
base_at p k = base_number (base_of (row_of p.types (record { 0 = k })))

abbrev pub kinds_at : Program → ℕ → List Kind
kinds_at p k = made_kinds p.types (record { 0 = k })

abbrev pub methods_at : Program → ℕ → List ℕ
methods_at p k = slots p (own_numbers p) k

-- the initializer and the body that the objects of the type with this number in the program have, whether that is active, and at which
-- priority
abbrev pub initial_at : Program → ℕ → ℕ
initial_at p k = initial_in p k (initializer p k)

abbrev pub body_at : Program → ℕ → ℕ
body_at p k = body_in p (body_type p k)

abbrev pub active_at : Program → ℕ → Bool
active_at p k = active_in p (body_type p k)

abbrev pub priority_at : Program → ℕ → ℕ
priority_at p k = number_of (priority_by p (body_type p k))

-- what describes the type with this number in the program, whose number in the table is j
pub record IsTypeOf (p : Program) (k j : ℕ) (t : TypeDesc) : Type 0 where
  pub base : t.base ≡ base_at p j
  pub cells : t.cells ≡ length t.kinds.items
  pub kinds : t.kinds.items ≡ kinds_at p j
  pub methods : t.methods.items ≡ methods_at p k
  pub initial : t.init ≡ initial_at p k
  pub body : t.body ≡ body_at p k
  pub active : t.active ≡ active_at p k
  pub priority : t.priority ≡ priority_at p k
  pub safe : t.safe ≡ false

-- these have the kinds of the first types that a program names, so many of them
abbrev pub AreKindsOf : List TypeRow → ℕ → List TypeDesc → Type 0
AreKindsOf rows count ts =
    map (λ t. t.kinds.items) ts ≡ map (λ k. made_kinds rows (record { 0 = k })) (range_with_len predeclared_types count)

-- these describe the first types that a program names, so many of them
pub record AreTypesOf (p : Program) (count : ℕ) (ts : List TypeDesc) : Type 0 where
  pub bases : map (λ t. t.base) ts ≡ map (base_at p) (range_with_len predeclared_types count)
  pub counts : map (λ t. t.cells) ts ≡ map (λ t. length t.kinds.items) ts
  pub kinds : map (λ t. t.kinds.items) ts ≡ map (kinds_at p) (range_with_len predeclared_types count)
  pub methods : map (λ t. t.methods.items) ts ≡ map (methods_at p) (range_with_len 0 count)
  pub initials : map (λ t. t.init) ts ≡ map (initial_at p) (range_with_len 0 count)
  pub bodies : map (λ t. t.body) ts ≡ map (body_at p) (range_with_len 0 count)
  pub actives : map (λ t. t.active) ts ≡ map (active_at p) (range_with_len 0 count)
  pub priorities : map (λ t. t.priority) ts ≡ map (priority_at p) (range_with_len 0 count)
  pub safes : map (λ t. t.safe) ts ≡ map (λ t. false) ts
