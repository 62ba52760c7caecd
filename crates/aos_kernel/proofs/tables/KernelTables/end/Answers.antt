use Rattle.aos_kernel.proofs.TablesShown.{shows_ended, here_turns}
use Rattle.aos_kernel.proofs.tables.KernelTables.end.Goals as goal

pub returns : goal.returns
returns c image earlier st h =
    let d = c.args.self.now in
    let a = c.args.activity in
    let r = here_turns image earlier d st a h c.requires.turn in
    let e = c.drop_frames.ensures r.0 r.1 in
    shows_ended image earlier d st a h c.requires.turn c.leave.new.self c.push_reserved.new.self c.drop_frames.new.activities r.0 e.0 (c.leave.ensures.stands st.book.line st.book.owner h.stands) c.leave.ensures.started c.push_reserved.ensures.items r.1 e.2 e.1.0 e.1.1
