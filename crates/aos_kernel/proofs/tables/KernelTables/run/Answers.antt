use Rattle.std.proofs.Common.{sym, subst}
use Rattle.std.proofs.lemmas.Result.{on_ok_weaker}
use Rattle.aos_base.specs.declared.kernel.Did.{Did}
use Rattle.aos_base.specs.Machine.{serve, turned}
use Rattle.aos_base.specs.Book.{counted}
use Rattle.aos_code.specs.Machine.{Frames, machine, turn}
use Rattle.aos_cpu.specs.Turns.{StandsAtWork}
use Rattle.aos_cpu.proofs.Turns.{turn_stands}
use Rattle.aos_kernel.specs.Conditions.{HasRooms}
use Rattle.aos_kernel.specs.Shows.{Shows, ShowsSame}
use Rattle.aos_kernel.proofs.Rows.{put_same}
use Rattle.aos_kernel.proofs.TablesShown.{where_left, on_err_both}
use Rattle.aos_kernel.proofs.tables.KernelTables.run.Goals as goal

pub returns-clause-ok : goal.returns-clause-ok
unfolding turned counted
returns-clause-ok c =
    let image = c.args.image.now in
    let a = c.args.activity in
    let left = c.in_ok-left.left in
    on_ok_weaker c.serve.result
    (λ done earlier st h none.
    let t = turn image st.store (st.frames a) in
    let r = c.in_ok-left.ensures.ok earlier st h none in
    subst (λ (x : Did). Shows image earlier c.serve.new.self (serve (machine image) a x (turned (machine image) a t st))) r.0
    (done earlier (turned (machine image) a t st) r.1
    (subst (λ (fs : Frames). StandsAtWork image left fs.frames) (sym (put_same st.frames a t.frames)) (turn_stands image st.store (st.frames a) left (sym r.0)))))
    c.serve.ensures.ok

pub returns-clause-err : goal.returns-clause-err
returns-clause-err c =
    on_err_both c.serve.result (λ same ne earlier st h. same earlier st (where_left c.in_ok-left.left (ShowsSame c.args.image.now c.args.self.now c.turned.new.self) ne c.in_ok-left.ensures.left earlier st h))
    c.serve.ensures.err c.serve.ensures.left

pub serve-requires-clause-stack : goal.serve-requires-clause-stack
serve-requires-clause-stack c = subst (λ s. HasRooms c.args.image.now s) (sym c.turned.ensures.stack) c.requires.stack
