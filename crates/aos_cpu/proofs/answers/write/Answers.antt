use Rattle.aos_store.specs.Store.{memory_in}
use Rattle.aos_silent_steps.specs.Acts.{addr_in}
use Rattle.aos_cpu.proofs.Behind.{write_made}
use Rattle.aos_cpu.proofs.answers.write.Goals as goal

pub returns-clause-answered : goal.returns-clause-answered
returns-clause-answered c out =
    let stored = c.if-not-store_at.ensures in
    write_made c.args.frames.now c.store_at.new.frames c.go_behind.new.frames (memory_in c.args.store.now) (memory_in c.store_at.new.store) (addr_in c.args.address) c.args.value c.args.at out
    stored.there stored.frames stored.memory c.go_behind.ensures.behind

pub returns-clause-room : goal.returns-clause-room
returns-clause-room c depths keeps roomy = c.go_behind.ensures.room depths keeps (c.if-not-store_at.ensures.room depths keeps roomy)
