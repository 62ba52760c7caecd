use Rattle.aos_types.specs.Contents.{contents}
use Rattle.aos_types.proofs.Offsets.{apart}
use Rattle.aos_layout.specs.Layout.{kind_of, shaped}
use Rattle.aos_layout.proofs.laws.law_of_records.Goals as goal

pub returns : goal.returns
returns c = λ rows t p q a b. apart (shaped (kind_of rows) (contents rows t)) p q a b
