use Rattle.std.proofs.Common.{◌∙◌, ◌*◌, Some, length, sym, ap, arith}
use Rattle.aos_layout.specs.TypeParts.{own, variable}
use Rattle.aos_layout.proofs.Joins.{before_within}
use Rattle.aos_layout.proofs.Parts.{array_part, array_before, record_width, object_width}
use Rattle.aos_layout.proofs.type_parts.own_part.Goals as goal

pub overflow_mul-result : goal.overflow_mul-result
overflow_mul-result c =
    let rows = c.args.types.now in
    let e = sym c.in-Some-Array.ensures ∙ ap (λ r. Some r) c.in-Some-Array.field-0-is in
    let p = array_part rows c.args.own.by c.in-Some-Array.field-0-0 c.in-Some-Array.element e c.args.own.number c.requires.there in
    let b = array_before rows c.args.own.by c.in-Some-Array.field-0-0 c.in-Some-Array.element e c.args.own.number c.requires.there in
    let w = before_within c.args.own.number (own rows c.args.own.by) (variable rows c.in-Some-Array.element) p in
    let v = ap (λ n. c.args.own.number * n) c.variable_scalars.ensures in
    let s = c.requires.sizes in
    omega (arith, b, w, v, s)

pub field_of-requires-clause-there : goal.field_of-requires-clause-there
field_of-requires-clause-there c =
    let w = record_width c.args.types.now c.args.own.by _ _ (sym c.in-Some-Record.ensures ∙ ap (λ r. Some r) c.in-Some-Record.field-0-is) in
    let t = c.requires.there in
    let s = ap length c.as_slice.ensures in
    omega (arith, w, t, s)

pub field_of-requires-in-Some-Object-clause-there :
    goal.field_of-requires-in-Some-Object-clause-there
field_of-requires-in-Some-Object-clause-there c =
    let w = object_width c.args.types.now c.args.own.by _ _ (sym c.in-Some-Object.ensures ∙ ap (λ r. Some r) c.in-Some-Object.field-0-is) in
    let t = c.requires.there in
    let s = ap length c.as_slice-in-Some-Object.ensures in
    omega (arith, w, t, s)

pub returns-in-Some-Array-clause-before : goal.returns-in-Some-Array-clause-before
returns-in-Some-Array-clause-before c =
    ap (λ n. c.args.own.number * n) c.variable_scalars.ensures ∙ sym (array_before c.args.types.now c.args.own.by c.in-Some-Array.field-0-0 c.in-Some-Array.element (sym c.in-Some-Array.ensures ∙ ap (λ r. Some r) c.in-Some-Array.field-0-is) c.args.own.number c.requires.there)

pub returns-in-Some-Array-clause-of : goal.returns-in-Some-Array-clause-of
returns-in-Some-Array-clause-of c =
    array_part c.args.types.now c.args.own.by c.in-Some-Array.field-0-0 c.in-Some-Array.element (sym c.in-Some-Array.ensures ∙ ap (λ r. Some r) c.in-Some-Array.field-0-is) c.args.own.number c.requires.there
