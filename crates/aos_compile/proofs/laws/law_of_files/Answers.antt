use Rattle.aos_compile.proofs.FileNumbers.{file_within}
use Rattle.aos_compile.proofs.laws.law_of_files.Goals as goal

pub returns : goal.returns
returns c = file_within
