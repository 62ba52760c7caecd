-- How the kinds of a type's cells are put into a list: by tasks, of which the last comes first, and what they come to.
use Rattle.std.specs.Prelude.{ℕ, zero, suc, ◌+◌, ◌*◌, List, [], ◌∷◌, ◌++◌, length, map, drop, Option, Some, None}
use Rattle.std.specs.List.{flat_map}
use Rattle.aos_types.specs.declared.row.TypeId.{TypeId}
use Rattle.aos_types.specs.declared.row.TypeRow.{TypeRow}
use Rattle.aos_types.specs.declared.row.TypeRow.TheVariants as row
use Rattle.aos_types.specs.Table.{row_of}
use Rattle.aos_types.specs.Chain.{held, parts_of}
use Rattle.aos_types.specs.Contents.{levels}
use Rattle.aos_code.specs.declared.instr.Kind.{Kind}
use Rattle.aos_layout.specs.declared.work.Task.{Task}
use Rattle.aos_layout.specs.declared.work.Task.TheVariants.{Contents, Fields, Again}
use Rattle.aos_layout.specs.declared.work.Work.{Work}
use Rattle.aos_layout.specs.Layout.{leaves, kind_of, kinds}
use Rattle.aos_layout.specs.TypeParts.{variable}

-- the kinds of a variable, an element or a field of a type
abbrev pub variable_kinds : List TypeRow → TypeId → List Kind
variable_kinds rows t = map (kind_of rows) (leaves (variable rows t))

abbrev pub field_kinds : List TypeRow → List TypeId → List Kind
field_kinds rows ts = flat_map (variable_kinds rows) ts

abbrev pub base_kinds : List TypeRow → Option TypeId → List Kind
base_kinds rows None = []
base_kinds rows (Some b) = kinds rows b

abbrev pub again : ℕ → List Kind → List Kind
again zero ks = []
again (suc n) ks = ks ++ again n ks

abbrev pub fields_of : Option TypeRow → List TypeId
fields_of (Some (row.Record base ts)) = ts
fields_of (Some (row.Object base ts)) = ts
fields_of _ = []

-- what a task makes of the kinds that are there
abbrev pub done : List TypeRow → Task → List Kind → List Kind
done rows (Contents t) ks = ks ++ kinds rows t
done rows (Fields t number) ks = ks ++ field_kinds rows (drop number (fields_of (row_of rows t)))
done rows (Again from times) ks = ks ++ again times (drop from ks)

abbrev pub all_done : List TypeRow → List Task → List Kind → List Kind
all_done rows [] ks = ks
all_done rows (x ∷ xs) ks = done rows x (all_done rows xs ks)

-- what all tasks come to
abbrev pub outcome : List TypeRow → Work → List Kind
outcome rows w = all_done rows w.tasks.items w.kinds.items

-- how many steps a type takes, where its parts take so many
abbrev pub sum_of : (TypeId → ℕ) → List TypeId → ℕ
sum_of f [] = 0
sum_of f (t ∷ ts) = f t + sum_of f ts

unfoldable pub steps_by : ℕ → List TypeRow → TypeId → ℕ
steps_by zero rows t = 0
steps_by (suc n) rows t =
    3 + 2 * length (fields_of (row_of rows t)) + sum_of (steps_by n rows) (parts_of rows (row_of rows t))

unfoldable pub steps : List TypeRow → TypeId → ℕ
steps rows t = steps_by (levels rows) rows t

abbrev pub variable_steps : List TypeRow → TypeId → ℕ
variable_steps rows t = sum_of (steps rows) (held rows t)

abbrev pub field_steps : List TypeRow → List TypeId → ℕ
field_steps rows [] = 0
field_steps rows (t ∷ ts) = 2 + variable_steps rows t + field_steps rows ts

-- how many steps a task takes, at most
abbrev pub task_steps : List TypeRow → Task → ℕ
task_steps rows (Contents t) = steps rows t
task_steps rows (Fields t number) = suc (field_steps rows (drop number (fields_of (row_of rows t))))
task_steps rows (Again from times) = 1

abbrev pub all_steps : List TypeRow → List Task → ℕ
all_steps rows [] = 0
all_steps rows (x ∷ xs) = task_steps rows x + all_steps rows xs
