use Rattle.std.proofs.Common.{◌≡◌, ◌<◌, length, refl, sym, ap, ◌∙◌, arith, subst}
use Rattle.std.proofs.lemmas.Option.{slice_get_within, slice_get-get_or}
use Rattle.std.specs.Prelude.{pos, vec_len}
use Rattle.aos_code.specs.declared.instr.Instr.TheVariants.{Begin, Num}
use Rattle.aos_code.specs.Machine.{Frame}
use Rattle.aos_code.specs.Numbered.{numbered}
use Rattle.aos_code.specs.Silent.{keeps_in}
use Rattle.aos_sound.specs.Fits.{KeepsToPaths}
use Rattle.aos_store.specs.Store.{frame_in}
use Rattle.aos_store.proofs.Rooms.{more_room}
use Rattle.aos_silent_steps.specs.declared.act.Act.TheVariants.{Begins as BeginsAt}
use Rattle.aos_silent_steps.specs.Acts.{IsBeginOf, WhereStays}
use Rattle.aos_silent_steps.specs.Known.{known}
use Rattle.aos_silent_steps.specs.Silent.{Seen}
use Rattle.aos_silent_steps.proofs.Roomy.{never_refused, room_on, room_begin, room_stay}
use Rattle.aos_silent_steps.proofs.Walks.{seen_on, seen_begin}
use Rattle.aos_silent_steps.proofs.Evaluating.{moved_on, moved_to_begin, moved_further, moved_same, stays_in_room, never_full}
use Rattle.aos_silent_steps.proofs.silent.walk_from.Goals as goal

pub loop-frame-preserved : goal.loop-frame-preserved
loop-frame-preserved c =
    let image = c.args.image.now in
    let f = c.loop-frame.frame in
    let g = c.do_one.new.frame in
    record {
      seen = λ all knows.
          seen_on image all c.args.here (frame_in f) (frame_in g) c.args.code.now c.in_ok-over.field-0 (omega arith) (c.in_ok-over.ensures.ok.more all knows) c.in_ok-over.ensures.ok.same c.in-Goes.over c.saturating_add-frame.result
          c.in-Goes.is c.saturating_add-frame.ensures (omega arith)
          ∙ c.loop-frame.invariant.seen all knows;
      room = λ depth paths stands.
          room_on image (known c.args.heap.now) c.args.here depth c.args.keeps c.args.code.now f g c.in_ok-over.field-0 (omega arith) c.in_ok-over.ensures.ok c.do_one.ensures.room c.do_one.ensures.keeps
          (subst (λ p. KeepsToPaths image p c.args.code.now depth) (sym (ap (λ (x : Seen). x.procedure) (c.loop-frame.invariant.seen (known c.args.heap.now) (λ o m e. e)))) paths) (c.loop-frame.invariant.room depth paths stands) c.in-Goes.over c.saturating_add-frame.result c.in-Goes.is
          c.saturating_add-frame.ensures (omega arith);
      more = more_room c.args.frame.now f (record g { next = c.saturating_add-frame.result }) c.loop-frame.invariant.more
          (record { procedure = ap (λ (x : Frame). x.procedure) c.in_ok-over.ensures.ok.same; operands = c.do_one.ensures.room; kept = c.do_one.ensures.keeps });
      moves = λ all room.
          let before = c.loop-frame.invariant.moves all room in
          let now =
          moved_on image (known c.args.heap.now) c.args.here c.args.code.now f g c.in_ok-over.field-0 (omega arith) c.in_ok-over.ensures.ok all c.in-Goes.over c.saturating_add-frame.result c.in-Goes.is
          c.saturating_add-frame.ensures (omega arith) c.do_one.ensures.room before.1 in
          (moved_further (frame_in c.args.frame.now) (frame_in f) (frame_in (record g { next = c.saturating_add-frame.result })) before.0 now.0, now.1);
    }

pub returns-in-Begins-clause-place : goal.returns-in-Begins-clause-place
returns-in-Begins-clause-place c =
    let code = c.args.code.now in
    let begins : IsBeginOf code (BeginsAt c.in-Begins.to c.in-Begins.pos) = subst (IsBeginOf code) c.in-Begins.is c.in_ok-over.ensures.begins in
    let lt : c.in-Begins.to < length code = slice_get_within code c.in-Begins.to (Begin c.in-Begins.pos.line c.in-Begins.pos.col) begins in
    omega arith

pub returns-in-Begins-clause-alike : goal.returns-in-Begins-clause-alike
returns-in-Begins-clause-alike c all knows =
    let image = c.args.image.now in
    let f = frame_in c.loop-frame.frame in
    seen_begin image all c.args.here f (frame_in c.do_one.new.frame) c.args.code.now c.in_ok-over.field-0 (omega arith) (c.in_ok-over.ensures.ok.more all knows) c.in_ok-over.ensures.ok.same c.in-Begins.to c.in-Begins.pos
    c.in-Begins.is c.in_ok-over.ensures.begins
    ∙ c.loop-frame.invariant.seen all knows

pub returns-in-Begins-clause-room : goal.returns-in-Begins-clause-room
returns-in-Begins-clause-room c depth paths stands = (
  refl,
  room_begin c.args.image.now (known c.args.heap.now) c.args.here depth c.args.keeps c.args.code.now c.loop-frame.frame c.do_one.new.frame c.in_ok-over.field-0 (omega arith) c.in_ok-over.ensures.ok
      c.do_one.ensures.room c.do_one.ensures.keeps
      (subst (λ p. KeepsToPaths c.args.image.now p c.args.code.now depth) (sym (ap (λ (x : Seen). x.procedure) (c.loop-frame.invariant.seen (known c.args.heap.now) (λ o m e. e)))) paths) (c.loop-frame.invariant.room depth paths stands) c.in-Begins.to
      c.in-Begins.pos c.in-Begins.is,
)

pub returns-in-Sees-clause-room : goal.returns-in-Sees-clause-room
returns-in-Sees-clause-room c depth paths stands = (
  refl,
  room_stay c.args.image.now (known c.args.heap.now) c.args.here depth c.args.keeps c.args.code.now c.loop-frame.frame c.do_one.new.frame c.in_ok-over.field-0 (omega arith) c.in_ok-over.ensures.ok
      c.do_one.ensures.room c.do_one.ensures.keeps
      (subst (λ p. KeepsToPaths c.args.image.now p c.args.code.now depth) (sym (ap (λ (x : Seen). x.procedure) (c.loop-frame.invariant.seen (known c.args.heap.now) (λ o m e. e)))) paths) (c.loop-frame.invariant.room depth paths stands)
      (subst (λ d. WhereStays d (frame_in c.do_one.new.frame ≡ frame_in c.loop-frame.frame)) c.in-Sees.is c.in_ok-over.ensures.stays),
)

pub returns-in-Fails-clause-room : goal.returns-in-Fails-clause-room
returns-in-Fails-clause-room c depth paths stands = (
  refl,
  room_stay c.args.image.now (known c.args.heap.now) c.args.here depth c.args.keeps c.args.code.now c.loop-frame.frame c.do_one.new.frame c.in_ok-over.field-0 (omega arith) c.in_ok-over.ensures.ok
      c.do_one.ensures.room c.do_one.ensures.keeps
      (subst (λ p. KeepsToPaths c.args.image.now p c.args.code.now depth) (sym (ap (λ (x : Seen). x.procedure) (c.loop-frame.invariant.seen (known c.args.heap.now) (λ o m e. e)))) paths) (c.loop-frame.invariant.room depth paths stands)
      (subst (λ d. WhereStays d (frame_in c.do_one.new.frame ≡ frame_in c.loop-frame.frame)) c.in-Fails.is c.in_ok-over.ensures.stays),
)

pub returns-in-Decides-clause-room : goal.returns-in-Decides-clause-room
returns-in-Decides-clause-room c depth paths stands = (
  refl,
  room_stay c.args.image.now (known c.args.heap.now) c.args.here depth c.args.keeps c.args.code.now c.loop-frame.frame c.do_one.new.frame c.in_ok-over.field-0 (omega arith) c.in_ok-over.ensures.ok
      c.do_one.ensures.room c.do_one.ensures.keeps
      (subst (λ p. KeepsToPaths c.args.image.now p c.args.code.now depth) (sym (ap (λ (x : Seen). x.procedure) (c.loop-frame.invariant.seen (known c.args.heap.now) (λ o m e. e)))) paths) (c.loop-frame.invariant.room depth paths stands)
      (subst (λ d. WhereStays d (frame_in c.do_one.new.frame ≡ frame_in c.loop-frame.frame)) c.in-Decides.is c.in_ok-over.ensures.stays),
)

pub returns-in-Sees-clause-moves : goal.returns-in-Sees-clause-moves
returns-in-Sees-clause-moves c all room =
    let same = subst (λ d. WhereStays d (frame_in c.do_one.new.frame ≡ frame_in c.loop-frame.frame)) c.in-Sees.is c.in_ok-over.ensures.stays in (
      refl,
      moved_further (frame_in c.args.frame.now) (frame_in c.loop-frame.frame) (frame_in c.do_one.new.frame) (c.loop-frame.invariant.moves all room).0 (moved_same (frame_in c.loop-frame.frame) (frame_in c.do_one.new.frame) same),
    )

pub returns-in-Fails-clause-moves : goal.returns-in-Fails-clause-moves
returns-in-Fails-clause-moves c all room =
    let same = subst (λ d. WhereStays d (frame_in c.do_one.new.frame ≡ frame_in c.loop-frame.frame)) c.in-Fails.is c.in_ok-over.ensures.stays in (
      refl,
      moved_further (frame_in c.args.frame.now) (frame_in c.loop-frame.frame) (frame_in c.do_one.new.frame) (c.loop-frame.invariant.moves all room).0 (moved_same (frame_in c.loop-frame.frame) (frame_in c.do_one.new.frame) same),
    )

pub returns-in-Decides-clause-moves : goal.returns-in-Decides-clause-moves
returns-in-Decides-clause-moves c all room =
    let same = subst (λ d. WhereStays d (frame_in c.do_one.new.frame ≡ frame_in c.loop-frame.frame)) c.in-Decides.is c.in_ok-over.ensures.stays in (
      refl,
      moved_further (frame_in c.args.frame.now) (frame_in c.loop-frame.frame) (frame_in c.do_one.new.frame) (c.loop-frame.invariant.moves all room).0 (moved_same (frame_in c.loop-frame.frame) (frame_in c.do_one.new.frame) same),
    )

pub returns-in-Begins-clause-moves : goal.returns-in-Begins-clause-moves
returns-in-Begins-clause-moves c all room =
    let f = c.loop-frame.frame in
    let g = c.do_one.new.frame in (
      refl,
      moved_further (frame_in c.args.frame.now) (frame_in f) (frame_in (record g { next = c.in-Begins.to })) (c.loop-frame.invariant.moves all room).0
          (moved_to_begin c.args.image.now (known c.args.heap.now) c.args.here c.args.code.now f g c.in_ok-over.field-0 (omega arith) c.in_ok-over.ensures.ok all c.in-Begins.to c.in-Begins.pos c.in-Begins.is),
    )

-- a question's operands lie there still
pub returns-in-Sees-clause-asks : goal.returns-in-Sees-clause-asks
returns-in-Sees-clause-asks c all room =
    let f = c.loop-frame.frame in
    let g = c.do_one.new.frame in
    let same = subst (λ d. WhereStays d (frame_in g ≡ frame_in f)) c.in-Sees.is c.in_ok-over.ensures.stays in
    (omega arith, stays_in_room c.args.code.now f g same c.do_one.ensures.room (c.loop-frame.invariant.moves all room).1)

pub returns-in_err-over-clause-moves : goal.returns-in_err-over-clause-moves
returns-in_err-over-clause-moves c all room =
    let f = c.loop-frame.frame in
    let len : vec_len f.operands ≡ length f.operands.items = omega arith in
    absurd (never_full c.args.keeps c.args.code.now f all (c.loop-frame.invariant.moves all room).1 len (omega arith) c.in_err-over.ensures.full)

pub returns-clause-moves : goal.returns-clause-moves
returns-clause-moves c all room = (refl, (c.loop-frame.invariant.moves all room).0)

pub returns-in_err-over-clause-room : goal.returns-in_err-over-clause-room
returns-in_err-over-clause-room c depth paths stands =
    let image = c.args.image.now in
    let code = c.args.code.now in
    let f = c.loop-frame.frame in
    let len : vec_len f.operands ≡ length f.operands.items = omega arith in
    absurd (never_refused image depth c.args.keeps code f (subst (λ p. KeepsToPaths image p code depth) (sym (ap (λ (x : Seen). x.procedure) (c.loop-frame.invariant.seen (known c.args.heap.now) (λ o m e. e)))) paths) (c.loop-frame.invariant.room depth paths stands) len
    _ (slice_get-get_or code f.next (Num (pos 0)) (omega arith)) c.in_err-over.ensures.full)

pub returns-clause-room : goal.returns-clause-room
returns-clause-room c depth paths stands = (refl, c.loop-frame.invariant.room depth paths stands)

pub do_one-requires-clause-keeps : goal.do_one-requires-clause-keeps
do_one-requires-clause-keeps c =
    c.requires.keeps ∙ ap (λ (x : Seen). keeps_in (numbered c.args.image.now.shapes.items x.procedure)) (sym (c.loop-frame.invariant.seen (known c.args.heap.now) (λ o m e. e)))

-- no room is lost

pub returns-in-Sees-clause-more : goal.returns-in-Sees-clause-more
returns-in-Sees-clause-more c =
    let g = c.do_one.new.frame in
    more_room c.args.frame.now c.loop-frame.frame g c.loop-frame.invariant.more
    (record { procedure = ap (λ (x : Frame). x.procedure) c.in_ok-over.ensures.ok.same; operands = c.do_one.ensures.room; kept = c.do_one.ensures.keeps })

pub returns-in-Begins-clause-more : goal.returns-in-Begins-clause-more
returns-in-Begins-clause-more c =
    let g = c.do_one.new.frame in
    more_room c.args.frame.now c.loop-frame.frame (record g { next = c.in-Begins.to }) c.loop-frame.invariant.more
    (record { procedure = ap (λ (x : Frame). x.procedure) c.in_ok-over.ensures.ok.same; operands = c.do_one.ensures.room; kept = c.do_one.ensures.keeps })

pub returns-in-Fails-clause-more : goal.returns-in-Fails-clause-more
returns-in-Fails-clause-more c =
    let g = c.do_one.new.frame in
    more_room c.args.frame.now c.loop-frame.frame g c.loop-frame.invariant.more
    (record { procedure = ap (λ (x : Frame). x.procedure) c.in_ok-over.ensures.ok.same; operands = c.do_one.ensures.room; kept = c.do_one.ensures.keeps })

pub returns-in-Decides-clause-more : goal.returns-in-Decides-clause-more
returns-in-Decides-clause-more c =
    let g = c.do_one.new.frame in
    more_room c.args.frame.now c.loop-frame.frame g c.loop-frame.invariant.more
    (record { procedure = ap (λ (x : Frame). x.procedure) c.in_ok-over.ensures.ok.same; operands = c.do_one.ensures.room; kept = c.do_one.ensures.keeps })

pub returns-in_err-over-clause-more : goal.returns-in_err-over-clause-more
returns-in_err-over-clause-more c =
    more_room c.args.frame.now c.loop-frame.frame c.do_one.new.frame c.loop-frame.invariant.more
    (record { procedure = ap (λ (x : Frame). x.procedure) c.in_err-over.ensures.err; operands = c.do_one.ensures.room; kept = c.do_one.ensures.keeps })
