use Rattle.std.proofs.Common.{arith}
use Rattle.std.specs.Prelude.{true, false}
use Rattle.aos_bench.proofs.Holders.{holds_joined}
use Rattle.aos_bench.proofs.lock.wait_again.Goals as goal

pub loop-init : goal.loop-init
loop-init c =
    let e = c.join.ensures in
    holds_joined c.args.links.now c.join.new.links c.args.locks.now c.join.new.self c.args.lock c.args.other 0 false true c.requires.holds e.others e.belong e.marks.room e.owner
    e.entrants e.waiters (λ q. absurd (omega (arith, q, c.requires.apart)))
