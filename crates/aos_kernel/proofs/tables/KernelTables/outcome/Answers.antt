use Rattle.std.proofs.Common.{◌∙◌, ap, sym}
use Rattle.aos_base.specs.Book.{outcome_of}
use Rattle.aos_kernel.proofs.tables.KernelTables.outcome.Goals as goal

pub returns : goal.returns
returns c image earlier st h = c.outcome.ensures st.book.line st.book.owner h.stands ∙ ap (outcome_of st.book.line) (sym h.spent)
