use Rattle.std.proofs.Common.{◌≡◌, ◌-◌, [], length, reverse, arith}
use Rattle.aos_code.specs.Machine.{Frames}
use Rattle.aos_store.proofs.Rooms.{roomy_set}
use Rattle.aos_cpu.proofs.Turns.{last_read, behind_put}
use Rattle.aos_cpu.proofs.answers.go_behind.Goals as goal

pub returns-in-Some-clause-behind : goal.returns-in-Some-clause-behind
returns-in-Some-clause-behind c f fs is =
    let frames = c.args.frames.now in
    let all : frames.list.len ≡ length frames.list.items = omega arith in
    let here = last_read frames.list.items frames.list.len c.in-Some.frame.now all c.in-Some.ensures.item.3.0 c.in-Some.ensures.item.1 in
    let p = behind_put c.args.at c.args.taken [] frames.list.items frames.list.len c.in-Some.frame.now c.go_on.new.frame f fs all here is c.go_on.ensures.behind in
    λ j. (let x : Frames = record { following = reverse frames.following.items; frames = p j } in x)

pub returns-in-Some-clause-room : goal.returns-in-Some-clause-room
returns-in-Some-clause-room c depths keeps roomy =
    let frames = c.args.frames.now.list in
    let f = c.in-Some.frame.now in
    let all : frames.len ≡ length frames.items = omega arith in
    let here = last_read frames.items frames.len f all c.in-Some.ensures.item.3.0 c.in-Some.ensures.item.1 in
    roomy_set depths keeps frames.items (frames.len - 1) f c.go_on.new.frame here c.go_on.ensures.room roomy
