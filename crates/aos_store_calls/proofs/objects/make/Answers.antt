use Rattle.std.proofs.Common.{◌≤◌, ◌+◌, List, sym, ◌∙◌, subst}
use Rattle.std.specs.Prelude.{sum_by}
use Rattle.std.proofs.lemmas.Result.{IfOk-weaker}
use Rattle.aos_base.specs.declared.limits.TheConstants.{MOST_SCALARS}
use Rattle.aos_code.specs.declared.instr.Cell.{Cell}
use Rattle.aos_code.specs.Memory.{counted, with_object}
use Rattle.aos_store.specs.Store.{memory_in}
use Rattle.aos_store_calls.proofs.objects.make.Goals as goal

pub new_object-requires : goal.new_object-requires
new_object-requires c =
    let mem = memory_in c.args.store.now in
    subst (λ (cs : List Cell). counted cs + sum_by counted mem.objects ≤ MOST_SCALARS) (sym c.in_ok-cells.ensures) c.requires

pub returns-clause-ok : goal.returns-clause-ok
returns-clause-ok c =
    let mem = memory_in c.args.store.now in
    let lengths = c.in_ok-lengths.ensures.items in
    let cells = c.in_ok-cells.ensures in
    IfOk-weaker c.new_object.result _ _
    (λ o e. (e.0, e.1 ∙ (λ i. with_object (record { type = c.args.of_type; lengths = lengths i }) (cells i) mem)))
    c.new_object.ensures.ok
