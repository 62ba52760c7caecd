use Rattle.aos_kernel.proofs.tables.KernelTables.on.Goals as goal

pub returns-clause-on : goal.returns-clause-on
returns-clause-on c image earlier st h = c.on.ensures.on st.book.line st.book.owner h.stands
