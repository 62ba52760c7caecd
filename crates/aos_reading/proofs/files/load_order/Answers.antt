use Rattle.std.proofs.Common.{◌<◌, ◌≤◌, length, Err, sym, ap, ◌∙◌, subst, arith}
use Rattle.std.specs.Prelude.{unwrap_or}
use Rattle.aos_tree.specs.declared.module.Module.{Module as Tree}
use Rattle.aos_order.specs.Files.{files}
use Rattle.aos_order.specs.Order.{Gives, NamesFiles, answer}
use Rattle.aos_order.proofs.Reading.{length-files}
use Rattle.aos_reading.specs.Files.{named_out}
use Rattle.aos_reading.specs.Sources.{sources}
use Rattle.aos_reading.proofs.Orders.{refused_at, files_are, order_at_most, told_out, twice_said, absent_said, cycle_said, out_said, order_said}
use Rattle.aos_reading.proofs.files.load_order.Goals as goal

pub returns-in-Some-clause-refused : goal.returns-in-Some-clause-refused
returns-in-Some-clause-refused c =
    let ts = c.args.texts.now in
    let ms = c.args.trees.now in
    out_said (sources ts ms) c.in-Some.e c.in-Ok.order.items (ap answer (sym (files_are ts ms)) ∙ c.in-Ok.ensures.exact) (sym c.named_out-out.ensures ∙ c.in-Some.is)

pub returns-in-None-clause-went : goal.returns-in-None-clause-went
returns-in-None-clause-went c =
    let ts = c.args.texts.now in
    let ms = c.args.trees.now in
    order_said (sources ts ms) c.in-Ok.order.items (ap answer (sym (files_are ts ms)) ∙ c.in-Ok.ensures.exact) (sym c.named_out-out.ensures ∙ c.in-None.is)

pub returns-in-None-clause-few : goal.returns-in-None-clause-few
returns-in-None-clause-few c =
    let ts = c.args.texts.now in
    let ms = c.args.trees.now in
    let all = files ms ts in
    let size = length-files ms ts c.requires.same in
    let few : length c.in-Ok.order.items ≤ length ms = omega (arith, order_at_most all c.in-Ok.order.items c.in-Ok.ensures.exact, size) in
    few

pub returns-in-Err-Twice-clause-refused : goal.returns-in-Err-Twice-clause-refused
returns-in-Err-Twice-clause-refused c =
    let ts = c.args.texts.now in
    let ms = c.args.trees.now in
    let why = c.in-Err-Twice in
    let m = c.index-trees-file.result in
    let exact = subst (λ e. Gives (answer (files ms ts)) (Err e)) why.field-0-is why.ensures.exact in
    let within = subst (λ e. NamesFiles (length ms) (Err e)) why.field-0-is why.ensures.within in
    twice_said (sources ts ms) why.field-0-0 why.file c.refused.result (ap answer (sym (files_are ts ms)) ∙ exact)
    (refused_at ts ms c.requires.same 8 why.file m _ c.refused.result within.1 c.index-trees-file.is (ap (λ (x : Tree). x.name.pos) (sym c.index-trees-file.is)) c.refused.ensures)

pub returns-in-Err-Absent-clause-refused : goal.returns-in-Err-Absent-clause-refused
returns-in-Err-Absent-clause-refused c =
    let ts = c.args.texts.now in
    let ms = c.args.trees.now in
    let ss = sources ts ms in
    let why = c.in-Err-Absent in
    let exact = subst (λ e. Gives (answer (files ms ts)) (Err e)) why.field-0-is why.ensures.exact in
    absent_said ss why.file why.pos c.unwrap_or.result (ap answer (sym (files_are ts ms)) ∙ exact)
    (c.unwrap_or.ensures ∙ ap (λ o. unwrap_or o c.refused-in-Err-Absent.result) c.named_out-out.ensures
    ∙ ap (unwrap_or (told_out ss (named_out ss))) c.refused-in-Err-Absent.ensures)

pub returns-in-Err-Cycle-clause-refused : goal.returns-in-Err-Cycle-clause-refused
returns-in-Err-Cycle-clause-refused c =
    let ts = c.args.texts.now in
    let ms = c.args.trees.now in
    let ss = sources ts ms in
    let why = c.in-Err-Cycle in
    let k = c.index-file.result.now in
    let m = c.index-trees-file-in-Err-Cycle.result in
    let said = c.refused-in-Err-Cycle.result in
    let exact = subst (λ e. Gives (answer (files ms ts)) (Err e)) why.field-0-is why.ensures.exact in
    let within = subst (λ e. NamesFiles (length ms) (Err e)) why.field-0-is why.ensures.within in
    let lt : k < length ms = subst (λ j. j < length ms) (sym c.index-file.ensures) (within.1 0 k within.0) in
    cycle_said ss k why.left.items c.unwrap_or-in-Err-Cycle.result (ap answer (sym (files_are ts ms)) ∙ exact) within.0 c.index-file.ensures
    (c.unwrap_or-in-Err-Cycle.ensures ∙ ap (λ o. unwrap_or o said) c.named_out-out.ensures
    ∙ ap (unwrap_or (told_out ss (named_out ss)))
    (refused_at ts ms c.requires.same 10 k m _ said lt c.index-trees-file-in-Err-Cycle.is (ap (λ (x : Tree). x.name.pos) (sym c.index-trees-file-in-Err-Cycle.is)) c.refused-in-Err-Cycle.ensures))
