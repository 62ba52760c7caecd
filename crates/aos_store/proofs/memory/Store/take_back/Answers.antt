use Rattle.aos_store.proofs.Views.{heap_before}
use Rattle.aos_store.proofs.memory.Store.take_back.Goals as goal

pub returns : goal.returns
returns c made cells before e = heap_before c.args.self.now c.forget_last.new.self made cells before c.forget_last.ensures e
