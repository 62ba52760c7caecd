use Rattle.aos_store.specs.Store.{memory_in}
use Rattle.aos_silent_steps.specs.Acts.{addr_in}
use Rattle.aos_cpu.proofs.Behind.{copy_made}
use Rattle.aos_cpu.proofs.answers.copy.Goals as goal

pub returns-clause-answered : goal.returns-clause-answered
returns-clause-answered c out =
    let copied = c.if-not-copy_at.ensures in
    copy_made c.args.frames.now c.copy_at.new.frames c.go_behind.new.frames (memory_in c.args.store.now) (memory_in c.copy_at.new.store) c.args.count (addr_in c.args.from) (addr_in c.args.to) c.args.at out
    copied.there copied.frames copied.memory c.go_behind.ensures.behind

pub returns-clause-room : goal.returns-clause-room
returns-clause-room c depths keeps roomy = c.go_behind.ensures.room depths keeps (c.if-not-copy_at.ensures.room depths keeps roomy)
