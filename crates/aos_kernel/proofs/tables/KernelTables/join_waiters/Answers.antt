use Rattle.aos_kernel.proofs.TablesShown.{shows_line, on_err}
use Rattle.aos_kernel.proofs.Handing.{shows_awaits}
use Rattle.aos_kernel.proofs.tables.KernelTables.join_waiters.Goals as goal

pub returns-in_err-wait-clause-err : goal.returns-in_err-wait-clause-err
returns-in_err-wait-clause-err c =
    on_err c.from_residual.result (λ earlier st h.
    let d = c.args.self.now in
    shows_line c.args.image.now earlier d st h c.wait.new.self d.events st.book.line st.book.owner st.book.events (c.in_err-wait.ensures.err st.book.line st.book.owner h.stands) c.wait.ensures.started h.events h.waiting)

pub returns-clause-ok : goal.returns-clause-ok
returns-clause-ok c condition awaits before earlier st h work =
    shows_awaits c.args.image.now earlier c.args.self.now st c.args.activity c.args.lock condition h c.wait.new.self c.push_reserved.new.self
    (c.in_ok-wait.ensures.stands st.book.line st.book.owner h.stands condition) c.wait.ensures.started c.push_reserved.ensures.items before work awaits

pub returns-clause-stood : goal.returns-clause-stood
returns-clause-stood c = let s = c.requires.turn.on.stood in record { line = _; owner = s.owner; stands = c.in_ok-wait.ensures.stands s.line s.owner s.stands 0 }
