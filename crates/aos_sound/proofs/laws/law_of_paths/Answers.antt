use Rattle.aos_sound.proofs.FitsLost.{lost_undecided}
use Rattle.aos_sound.proofs.FitsWalks.{keeps_to_paths}
use Rattle.aos_sound.proofs.laws.law_of_paths.Goals as goal

pub returns : goal.returns
returns c = record {
  paths = λ image own code depth paths. keeps_to_paths image own code depth paths;
  found = λ image own role code depth sound here at i stack is st. lost_undecided image own role code here at depth sound i stack is st;
}
