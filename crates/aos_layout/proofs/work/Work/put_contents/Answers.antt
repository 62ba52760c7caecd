use Rattle.std.proofs.Common.{◌++◌, append-nil, eqb-true, Some, sym, ap, ◌∙◌, arith}
use Rattle.std.proofs.lemmas.Result.{on_ok_weaker}
use Rattle.aos_types.specs.Contents.{scalars}
use Rattle.aos_layout.specs.Work.{all_done, base_kinds, field_kinds, field_steps, fields_of}
use Rattle.aos_layout.proofs.Outcomes.{no_kinds, some_steps, array_kinds, array_steps, record_kinds, record_steps, object_type_kinds, object_type_steps}
use Rattle.aos_layout.proofs.work.Work.put_contents.Goals as goal

pub returns-then-is_empty-clause-kinds : goal.returns-then-is_empty-clause-kinds
returns-then-is_empty-clause-kinds c =
    let rows = c.args.types.now in
    let s = c.args.self.now in
    let e = no_kinds rows c.args.t (eqb-true (scalars rows c.args.t) 0 (sym c.if-is_empty.ensures)) in
    ap (all_done rows s.tasks.items) (sym (ap (λ z. s.kinds.items ++ z) e ∙ append-nil s.kinds.items))

pub returns-then-is_empty-clause-steps : goal.returns-then-is_empty-clause-steps
returns-then-is_empty-clause-steps c = let s = some_steps c.args.types.now c.requires c.args.t in omega (arith, s)

pub returns-in-None-clause-steps : goal.returns-in-None-clause-steps
returns-in-None-clause-steps c = let s = some_steps c.args.types.now c.requires c.args.t in omega (arith, s)

pub returns-in-Some-Open-clause-steps : goal.returns-in-Some-Open-clause-steps
returns-in-Some-Open-clause-steps c = let s = some_steps c.args.types.now c.requires c.args.t in omega (arith, s)

pub returns-in_ok-push-in_default-clause-steps : goal.returns-in_ok-push-in_default-clause-steps
returns-in_ok-push-in_default-clause-steps c = let s = some_steps c.args.types.now c.requires c.args.t in omega (arith, s)

pub returns-in-Some-Array-clause-kinds : goal.returns-in-Some-Array-clause-kinds
returns-in-Some-Array-clause-kinds c =
    let e = sym c.in-Some-Array.ensures ∙ ap (λ r. Some r) c.in-Some-Array.field-0-is in
    let k = array_kinds c.args.types.now c.requires c.args.t _ _ e in
    on_ok_weaker c.put_array.result (λ p. p ∙ ap (λ z. all_done c.args.types.now c.args.self.now.tasks.items (c.args.self.now.kinds.items ++ z)) (sym k)) c.put_array.ensures.kinds

pub returns-in-Some-Array-clause-steps : goal.returns-in-Some-Array-clause-steps
returns-in-Some-Array-clause-steps c =
    let e = sym c.in-Some-Array.ensures ∙ ap (λ r. Some r) c.in-Some-Array.field-0-is in
    let s = array_steps c.args.types.now c.requires c.args.t _ _ e in
    on_ok_weaker c.put_array.result (λ p. omega (arith, p, s)) c.put_array.ensures.steps

pub returns-in-Some-Record-clause-kinds : goal.returns-in-Some-Record-clause-kinds
returns-in-Some-Record-clause-kinds c =
    let rows = c.args.types.now in
    let e = sym c.in-Some-Record.ensures ∙ ap (λ r. Some r) c.in-Some-Record.field-0-is in
    let k = record_kinds rows c.requires c.args.t _ _ e in
    let fs = ap (λ o. base_kinds rows c.in-Some-Record.base ++ field_kinds rows (fields_of o)) e in
    on_ok_weaker c.put_record.result (λ p. p ∙ ap (λ z. all_done rows c.args.self.now.tasks.items (c.args.self.now.kinds.items ++ z)) (fs ∙ sym k)) (c.put_record.ensures.kinds rows)

pub returns-in-Some-Record-clause-steps : goal.returns-in-Some-Record-clause-steps
returns-in-Some-Record-clause-steps c =
    let rows = c.args.types.now in
    let e = sym c.in-Some-Record.ensures ∙ ap (λ r. Some r) c.in-Some-Record.field-0-is in
    let s = record_steps rows c.requires c.args.t _ _ e in
    let fs = ap (λ o. field_steps rows (fields_of o)) e in
    on_ok_weaker c.put_record.result (λ p. omega (arith, p, s, fs)) (c.put_record.ensures.steps rows)

pub returns-in-Some-Object-clause-kinds : goal.returns-in-Some-Object-clause-kinds
returns-in-Some-Object-clause-kinds c =
    let rows = c.args.types.now in
    let e = sym c.in-Some-Object.ensures ∙ ap (λ r. Some r) c.in-Some-Object.field-0-is in
    let k = object_type_kinds rows c.requires c.args.t _ _ e in
    let fs = ap (λ o. base_kinds rows c.in-Some-Object.base ++ field_kinds rows (fields_of o)) e in
    on_ok_weaker c.put_record-in-Some-Object.result (λ p. p ∙ ap (λ z. all_done rows c.args.self.now.tasks.items (c.args.self.now.kinds.items ++ z)) (fs ∙ sym k)) (c.put_record-in-Some-Object.ensures.kinds rows)

pub returns-in-Some-Object-clause-steps : goal.returns-in-Some-Object-clause-steps
returns-in-Some-Object-clause-steps c =
    let rows = c.args.types.now in
    let e = sym c.in-Some-Object.ensures ∙ ap (λ r. Some r) c.in-Some-Object.field-0-is in
    let s = object_type_steps rows c.requires c.args.t _ _ e in
    let fs = ap (λ o. field_steps rows (fields_of o)) e in
    on_ok_weaker c.put_record-in-Some-Object.result (λ p. omega (arith, p, s, fs)) (c.put_record-in-Some-Object.ensures.steps rows)
