use Rattle.std.proofs.Common.{◌≡◌, ◌<◌, ◌≤◌, ◌+◌, ℕ, List, length, get_or, take, arith, sym, ap, add-one}
use Rattle.std.proofs.lemmas.List.{get_or-take, length-take}
use Rattle.aos_types.specs.declared.row.TypeId.{TypeId}
use Rattle.aos_types.specs.declared.row.TypeRow.{TypeRow}
use Rattle.aos_types.specs.Shape.{size, before}
use Rattle.aos_layout.specs.TypeParts.{variable, fields}
use Rattle.aos_layout.proofs.Joins.{before_first_part, before_row, within_row}
use Rattle.aos_layout.proofs.type_parts.cells_before.Goals as goal

-- one of the first so many fields
module _ (rows : List TypeRow) (ts : List TypeId) (n i : ℕ) (d : TypeId) (l : i < length (take n ts)) where
  below : i < n
  below = let h = length-take n ts in omega (arith, h, l)

  there : i < length ts
  there = let h = length-take n ts in omega (arith, h, l)

  field_size : size (variable rows (get_or (take n ts) i d)) ≡ size (variable rows (get_or ts i d))
  field_size = ap (λ t. size (variable rows t)) (get_or-take n ts i d below)

  within : before i (fields rows ts) + size (variable rows (get_or (take n ts) i d)) ≤ size (fields rows ts)
  within = let h = within_row (variable rows) ts i d there in let f = field_size in omega (arith, h, f)

  next : before (i + 1) (fields rows ts) ≡ before i (fields rows ts) + size (variable rows (get_or (take n ts) i d))
  next = rw add-one (let h = before_row (variable rows) ts i d there in let f = field_size in omega (arith, h, f))

pub loop-field-init : goal.loop-field-init
loop-field-init c = sym (before_first_part (fields c.args.types.now c.args.fields.now))

pub variable_scalars-cells-requires-clause-sizes :
    goal.variable_scalars-cells-requires-clause-sizes
variable_scalars-cells-requires-clause-sizes c =
    let w = within c.args.types.now c.args.fields.now c.args.number c.loop-field.field-index (record { 0 = 0 }) c.loop-field-test.true in
    let s = c.requires.sizes in
    omega (arith, w, s)

pub overflow_add-cells : goal.overflow_add-cells
overflow_add-cells c =
    let w = within c.args.types.now c.args.fields.now c.args.number c.loop-field.field-index (record { 0 = 0 }) c.loop-field-test.true in
    let s = c.requires.sizes in
    let v = c.variable_scalars-cells.ensures in
    let i = c.loop-field.invariant in
    omega (arith, w, s, v, i)

pub loop-field-preserved : goal.loop-field-preserved
loop-field-preserved c =
    let n = next c.args.types.now c.args.fields.now c.args.number c.loop-field.field-index (record { 0 = 0 }) c.loop-field-test.true in
    let v = c.variable_scalars-cells.ensures in
    let i = c.loop-field.invariant in
    omega (arith, n, v, i)
