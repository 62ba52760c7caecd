use Rattle.std.proofs.Common.{◌≡◌, ◌<◌, ◌+◌, ◌^◌, ◌∷◌, length, sym, ap, ◌∙◌, subst, arith}
use Rattle.aos_code.specs.Machine.{Frames}
use Rattle.aos_store.specs.Store.{list_in, frame_in}
use Rattle.aos_store.specs.Room.{AreRoomyFor}
use Rattle.aos_store.proofs.Views.{list_more}
use Rattle.aos_store.proofs.Rooms.{roomy_more}
use Rattle.aos_cpu.proofs.calls.enter.Goals as goal

pub returns-clause-ok : goal.returns-clause-ok
returns-clause-ok c f fs is =
    let h = c.go_behind.ensures.behind f fs (ap list_in c.in_ok-reserve.ensures.items ∙ is) in
    let same = ap (λ (x : Frames). x.following) h in
    let frames = ap list_in c.push_reserved.ensures.items ∙ list_more c.go_behind.new.frames.list.items c.args.frame ∙ ap (λ (x : Frames). frame_in c.args.frame ∷ x.frames) h in
    λ i. (let x : Frames = record { following = same i; frames = frames i } in x)

pub returns-in_err-reserve-clause-room : goal.returns-in_err-reserve-clause-room
returns-in_err-reserve-clause-room c depths keeps one few roomy = subst (AreRoomyFor depths keeps) (sym c.in_err-reserve.ensures.items) roomy

pub returns-clause-room : goal.returns-clause-room
returns-clause-room c depths keeps one few roomy =
    let was = c.reserve.new.self in
    let mid = c.go_behind.new.frames.list in
    let same : length was.items ≡ length c.args.frames.now.list.items = ap length c.in_ok-reserve.ensures.items in
    let less : length mid.items + 1 < 2 ^ 32 = omega (arith, few, same, c.go_behind.ensures.len, mid.ok.0, was.ok.0) in
    subst (AreRoomyFor depths keeps) (sym c.push_reserved.ensures.items)
    (roomy_more depths keeps mid.items c.args.frame (c.go_behind.ensures.room depths keeps (subst (AreRoomyFor depths keeps) (sym c.in_ok-reserve.ensures.items) roomy)) one less)
