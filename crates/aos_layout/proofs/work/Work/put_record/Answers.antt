use Rattle.std.proofs.Common.{◌≡◌, ◌≤◌, ◌+◌, List, [], ◌∷◌, ◌++◌, Option, Some, sym, ap, ◌∙◌, arith, append_assoc}
use Rattle.aos_types.specs.declared.row.TypeId.{TypeId}
use Rattle.aos_types.specs.declared.row.TypeRow.{TypeRow}
use Rattle.aos_types.specs.Table.{row_of}
use Rattle.aos_types.specs.Chain.{base_list}
use Rattle.aos_code.specs.declared.instr.Kind.{Kind}
use Rattle.aos_layout.specs.declared.work.Task.{Task}
use Rattle.aos_layout.specs.declared.work.Task.TheVariants.{Contents, Fields}
use Rattle.aos_layout.specs.Layout.{kinds}
use Rattle.aos_layout.specs.Work.{base_kinds, field_kinds, fields_of, all_done, sum_of, steps, field_steps, all_steps}
use Rattle.aos_layout.proofs.Outcomes.{all_done_push, all_steps_push}
use Rattle.aos_layout.proofs.work.Work.put_record.Goals as goal

module _ (rows : List TypeRow) (t : TypeId) (xs ys zs : List Task) (first : ys ≡ xs ++ Fields t 0 ∷ []) where
  done_fields : (ks : List Kind) → all_done rows ys ks ≡ all_done rows xs (ks ++ field_kinds rows (fields_of (row_of rows t)))
  done_fields ks = ap (λ z. all_done rows z ks) first ∙ all_done_push rows xs (Fields t 0) ks

  steps_fields : all_steps rows ys ≡ all_steps rows xs + 1 + field_steps rows (fields_of (row_of rows t))
  steps_fields = let e = ap (all_steps rows) first in let a = all_steps_push rows xs (Fields t 0) in omega (arith, e, a)

  module _ (o : Option TypeId) (b : TypeId) (is : o ≡ Some b) (second : zs ≡ ys ++ Contents b ∷ []) where
    done_both : (ks : List Kind) → all_done rows zs ks ≡ all_done rows xs (ks ++ (base_kinds rows o ++ field_kinds rows (fields_of (row_of rows t))))
    done_both ks =
        ap (λ z. all_done rows z ks) second ∙ all_done_push rows ys (Contents b) ks ∙ done_fields (ks ++ kinds rows b) ∙ ap (all_done rows xs) (append_assoc ks (kinds rows b) (field_kinds rows (fields_of (row_of rows t)))) ∙ ap (λ z. all_done rows xs (ks ++ (base_kinds rows z ++ field_kinds rows (fields_of (row_of rows t))))) (sym is)

    steps_both : all_steps rows zs ≤ all_steps rows xs + 1 + field_steps rows (fields_of (row_of rows t)) + sum_of (steps rows) (base_list o)
    steps_both =
        let e = ap (all_steps rows) second in
        let a = all_steps_push rows ys (Contents b) in
        let f = steps_fields in
        let s = ap (λ z. sum_of (steps rows) (base_list z)) is in
        omega (arith, e, a, f, s)

pub returns-in_ok-push-2-clause-kinds : goal.returns-in_ok-push-2-clause-kinds
returns-in_ok-push-2-clause-kinds c =
    λ rows. done_both rows c.args.t c.args.self.now.tasks.items c.push.new.self.items c.push-in-Some.new.self.items c.in_ok-push.ensures.items c.args.base c.in-Some.base c.in-Some.is c.in_ok-push-2.ensures.items c.args.self.now.kinds.items

pub returns-in_ok-push-2-clause-steps : goal.returns-in_ok-push-2-clause-steps
returns-in_ok-push-2-clause-steps c =
    λ rows. steps_both rows c.args.t c.args.self.now.tasks.items c.push.new.self.items c.push-in-Some.new.self.items c.in_ok-push.ensures.items c.args.base c.in-Some.base c.in-Some.is c.in_ok-push-2.ensures.items

pub returns-in_default-clause-kinds : goal.returns-in_default-clause-kinds
returns-in_default-clause-kinds c =
    let ks = c.args.self.now.kinds.items in
    let xs = c.args.self.now.tasks.items in
    λ rows. done_fields rows c.args.t xs c.push.new.self.items [] c.in_ok-push.ensures.items ks ∙ ap (λ b. all_done rows xs (ks ++ (base_kinds rows b ++ field_kinds rows (fields_of (row_of rows c.args.t))))) (sym c.in_default.is)

pub returns-in_default-clause-steps : goal.returns-in_default-clause-steps
returns-in_default-clause-steps c =
    λ rows.
    let f = steps_fields rows c.args.t c.args.self.now.tasks.items c.push.new.self.items [] c.in_ok-push.ensures.items in
    omega (arith, f)
