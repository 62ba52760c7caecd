use Rattle.aos_sound.proofs.FitsCells.{first_has, body_has, turn_has, past_has}
use Rattle.aos_sound.proofs.laws.law_of_cells.Goals as goal

pub returns : goal.returns
returns c = record {
  first = λ image laid. first_has image laid;
  body = λ image laid mem o. body_has image laid mem o;
  turn = λ image laid mem fs h. turn_has image laid mem fs h;
  past = λ image laid fs h. past_has image laid fs h;
}
