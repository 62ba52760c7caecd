use Rattle.aos_cpu.proofs.calls.called_frame_cells.Goals as goal

pub returns-clause-kept : goal.returns-clause-kept
returns-clause-kept c = (c.hand_copied.new.cells.items, c.in_ok-add_zeros.ensures)
