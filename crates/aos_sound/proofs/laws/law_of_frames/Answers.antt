use Rattle.std.specs.Prelude.{None}
use Rattle.aos_sound.proofs.FitsFrames.{first_fit, body_fits, turn_fits, past_fits, opened_fits, have_room}
use Rattle.aos_sound.proofs.laws.law_of_frames.Goals as goal

pub returns : goal.returns
returns c = record {
  first = λ image whole. first_fit image whole;
  body = λ image whole mem o. body_fits image whole mem o;
  turn = λ image whole mem fs h. turn_fits image whole mem fs h;
  past = λ image whole mem fs h e. past_fits image whole mem fs h e;
  opened = λ image whole fs h. opened_fits image whole fs h;
  room = λ image whole fs h. have_room image whole None fs.frames h.0;
}
