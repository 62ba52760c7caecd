-- What the code's methods and parts of designators are seen as.
use Rattle.aos_typed.specs.Seen.{seen_callee}
use Rattle.aos_known.specs.Seen.{seen_entity}
use Rattle.aos_bound.specs.declared.methods.Bound.{Bound as CodeBound}
use Rattle.aos_bound.specs.declared.methods.Part.{Part as CodePart}
use Rattle.aos_bound.specs.declared.methods.Part.TheVariants as code_part
use Rattle.aos_bound.specs.Methods.{Bound, Part, Begun, Meant, Waits}

abbrev pub seen_bound : CodeBound → Bound
seen_bound b = record { callee = seen_callee b.callee; heading = b.heading; first = b.first }

abbrev pub seen_part : CodePart → Part
seen_part (code_part.Begun h) = Begun h
seen_part (code_part.Meant a) = Meant (seen_entity a)
seen_part (code_part.Waits b) = Waits (seen_bound b)
