use Rattle.std.proofs.Common.{[], ◌∷◌, refl}
use Rattle.aos_report.specs.Texts.{refusal_text, too_long_text, unread_text}
use Rattle.aos.specs.Call.{shelf_use}
use Rattle.aos.specs.Wanted.{Wanted}
use Rattle.aos.specs.Cause.{whole}
use Rattle.aos.proofs.Fetching.{stops_along, fails_alone, lacks_it, exceeds_it}
use Rattle.aos.proofs.fetch.fetch_file.Goals as goal

pub returns-in_ok-refuse-in-Absent-clause-fetched : goal.returns-in_ok-refuse-in-Absent-clause-fetched
returns-in_ok-refuse-in-Absent-clause-fetched g c =
    let file = c.args.file.now in
    let w : Wanted = record { file = file; most = c.args.most } in
    let shelf = shelf_use g.F.Shelf c.args.shelf.now c.fetch.new.self in
    stops_along shelf (w ∷ []) c.in_ok-refuse-in-Absent.field-0 1 [] (refusal_text file 1 whole) (refusal_text file 1 whole) c.in_ok-refuse-in-Absent.ensures refl
    (lacks_it shelf w c.in-Absent.ensures.told)

pub returns-in_ok-too_long-in-TooLong-clause-fetched : goal.returns-in_ok-too_long-in-TooLong-clause-fetched
returns-in_ok-too_long-in-TooLong-clause-fetched g c =
    let file = c.args.file.now in
    let w : Wanted = record { file = file; most = c.args.most } in
    let shelf = shelf_use g.F.Shelf c.args.shelf.now c.fetch.new.self in
    stops_along shelf (w ∷ []) c.message.result 6 [] c.in_ok-too_long-in-TooLong.field-0.items (too_long_text file c.args.most) c.message.ensures c.in_ok-too_long-in-TooLong.ensures
    (exceeds_it shelf w c.in-TooLong.ensures.told)

pub returns-in_ok-unread-in-Failed-clause-fetched : goal.returns-in_ok-unread-in-Failed-clause-fetched
returns-in_ok-unread-in-Failed-clause-fetched g c =
    let file = c.args.file.now in
    let w : Wanted = record { file = file; most = c.args.most } in
    let shelf = shelf_use g.F.Shelf c.args.shelf.now c.fetch.new.self in
    stops_along shelf (w ∷ []) c.message-in-Failed.result 6 [] c.in_ok-unread-in-Failed.field-0.items (unread_text file) c.message-in-Failed.ensures c.in_ok-unread-in-Failed.ensures
    (fails_alone shelf w c.in-Failed.ensures.failed)
