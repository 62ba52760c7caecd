use Rattle.aos_layout.specs.TypeParts.{variable}
use Rattle.aos_layout.proofs.Joins.{part_row}
use Rattle.aos_layout.proofs.type_parts.field_of.Goals as goal

pub returns-clause-of : goal.returns-clause-of
returns-clause-of c = part_row (variable c.args.types.now) c.args.fields.now c.args.number _ c.requires.there
