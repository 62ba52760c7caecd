use Rattle.aos_escape.proofs.Hiding.{new_are_hidden}
use Rattle.aos_escape.proofs.new_objects_are_hidden.Goals as goal

pub returns : goal.returns
returns c = new_are_hidden
