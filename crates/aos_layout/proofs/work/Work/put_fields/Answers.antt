use Rattle.std.proofs.Common.{◌≡◌, ◌≤◌, ◌<◌, ◌+◌, ℕ, suc, List, [], ◌∷◌, ◌++◌, length, drop, get_or, sym, ap, ◌∙◌, arith, append_assoc, add-one, drop-cons}
use Rattle.aos_types.specs.declared.row.TypeId.{TypeId}
use Rattle.aos_types.specs.declared.row.TypeRow.{TypeRow}
use Rattle.aos_types.specs.Table.{row_of}
use Rattle.aos_code.specs.declared.instr.Kind.{Kind}
use Rattle.aos_layout.specs.declared.work.Task.{Task}
use Rattle.aos_layout.specs.declared.work.Task.TheVariants.{Fields}
use Rattle.aos_layout.specs.Work.{variable_kinds, field_kinds, fields_of, all_done, variable_steps, field_steps, all_steps}
use Rattle.aos_layout.proofs.Outcomes.{all_done_push, all_steps_push}
use Rattle.aos_layout.proofs.work.Work.put_fields.Goals as goal

-- one field, before those behind it
module _ (rows : List TypeRow) (t : TypeId) (fs : List TypeId) (n : ℕ) (d : TypeId) (is : fs ≡ fields_of (row_of rows t)) (l : n < length fs) where
  rest : drop n (fields_of (row_of rows t)) ≡ get_or fs n d ∷ drop (n + 1) (fields_of (row_of rows t))
  rest = rw add-one (ap (drop n) (sym is) ∙ drop-cons fs n d l ∙ ap (λ z. get_or fs n d ∷ drop (suc n) z) is)

  module _ (xs ys : List Task) (pushed : ys ≡ xs ++ Fields t (n + 1) ∷ []) where
    done_field : (ks : List Kind) → all_done rows ys (ks ++ variable_kinds rows (get_or fs n d)) ≡ all_done rows xs (ks ++ field_kinds rows (drop n (fields_of (row_of rows t))))
    done_field ks =
        let vs = variable_kinds rows (get_or fs n d) in
        ap (λ z. all_done rows z (ks ++ vs)) pushed ∙ all_done_push rows xs (Fields t (n + 1)) (ks ++ vs) ∙ ap (all_done rows xs) (append_assoc ks vs (field_kinds rows (drop (n + 1) (fields_of (row_of rows t)))) ∙ ap (λ z. ks ++ field_kinds rows z) (sym rest))

    steps_field : all_steps rows ys + variable_steps rows (get_or fs n d) ≤ all_steps rows xs + field_steps rows (drop n (fields_of (row_of rows t)))
    steps_field =
        let e = ap (all_steps rows) pushed in
        let a = all_steps_push rows xs (Fields t (n + 1)) in
        let r = ap (field_steps rows) rest in
        omega (arith, e, a, r)

pub returns-in_ok-put_variable-clause-kinds : goal.returns-in_ok-put_variable-clause-kinds
returns-in_ok-put_variable-clause-kinds c =
    c.in_ok-put_variable.ensures.kinds ∙ done_field c.args.types.now c.args.t c.fields_of-fields.result.now c.args.number (record { 0 = 0 }) c.fields_of-fields.ensures c.if-number-fields.true c.args.self.now.tasks.items c.push.new.self.items c.in_ok-push.ensures.items c.args.self.now.kinds.items

pub returns-in_ok-put_variable-clause-steps : goal.returns-in_ok-put_variable-clause-steps
returns-in_ok-put_variable-clause-steps c =
    let f = steps_field c.args.types.now c.args.t c.fields_of-fields.result.now c.args.number (record { 0 = 0 }) c.fields_of-fields.ensures c.if-number-fields.true c.args.self.now.tasks.items c.push.new.self.items c.in_ok-push.ensures.items in
    let v = c.in_ok-put_variable.ensures.steps in
    omega (arith, f, v)
