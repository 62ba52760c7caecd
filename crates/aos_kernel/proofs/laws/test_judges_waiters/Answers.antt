use Rattle.std.proofs.Common.{ap, sym, ◌∙◌}
use Rattle.aos_code.specs.declared.image.Image.{Image}
use Rattle.aos_store.specs.declared.memory.Store.{Store}
use Rattle.aos_store.specs.Store.{memory_in}
use Rattle.aos_kernel.specs.Conditions.{all_known, verdict_known}
use Rattle.aos_kernel.proofs.Handing.{told_at}
use Rattle.aos_kernel.proofs.laws.test_judges_waiters.Goals as goal

pub returns : goal.returns
returns c = λ image earlier d st t shown over lock a condition there.
    ap (λ (i : Image). verdict_known i (memory_in t.store.now) (all_known t.activities.items a)) over.program
    ∙ ap (λ (s : Store). verdict_known image (memory_in s) (all_known t.activities.items a)) over.store
    ∙ ap (verdict_known image (memory_in d.store)) (over.activities.known a)
    ∙ sym (told_at image earlier d st a lock shown a condition there)
