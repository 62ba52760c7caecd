use Rattle.std.proofs.Common.{◌≡◌, length, ap, arith}
use Rattle.aos_store.proofs.Views.{heap_long}
use Rattle.aos_store.proofs.heap.Heap.add.Goals as goal

pub overflow_cast-result : goal.overflow_cast-result
overflow_cast-result c =
    let same : length c.self.inside.list.items ≡ length c.args.self.now = ap length c.self.view_is in
    omega (arith, heap_long c.args.self.now, same, ap length c.reserve.ensures.items, ap length c.push_reserved.ensures.items, c.requires)
