use Rattle.std.proofs.lemmas.Option.{IfSome_then}
use Rattle.aos_kernel.proofs.TablesShown.{shows_stands, shows_line}
use Rattle.aos_kernel.proofs.tables.KernelTables.dispatch.Goals as goal

pub returns-clause-first : goal.returns-clause-first
returns-clause-first c image earlier st h = c.dispatch.ensures.first st.book.line st.book.owner h.stands

pub returns-clause-some : goal.returns-clause-some
returns-clause-some c image earlier st h =
    IfSome_then c.dispatch.result (c.dispatch.ensures.stands st.book.line st.book.owner h.stands) (λ a stood. shows_stands image earlier c.args.self.now st h a c.args.worker c.dispatch.new.self stood c.dispatch.ensures.started)

pub returns-clause-none : goal.returns-clause-none
returns-clause-none c image none earlier st h =
    shows_line image earlier c.args.self.now st h c.dispatch.new.self c.args.self.now.events st.book.line st.book.owner st.book.events (c.dispatch.ensures.none none st.book.line st.book.owner h.stands) c.dispatch.ensures.started h.events h.waiting
