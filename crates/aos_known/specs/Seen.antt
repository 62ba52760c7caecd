-- What the code's answers and designators are seen as.
use Rattle.aos_typed.specs.Seen.{seen_place, seen_expr}
use Rattle.aos_known.specs.declared.known.Answer.{Answer as CodeAnswer}
use Rattle.aos_known.specs.declared.known.Held.{Held as CodeHeld}
use Rattle.aos_known.specs.declared.known.Held.TheVariants as held
use Rattle.aos_known.specs.declared.known.Entity.{Entity as CodeEntity}
use Rattle.aos_known.specs.Known.{Answer, Entity, Held, Stands, Value}

abbrev pub seen_answer : CodeAnswer → Answer
seen_answer a = record { known = a.known; typed = seen_expr a.typed }

abbrev pub seen_held : CodeHeld → Held
seen_held (held.Stands p) = Stands (seen_place p)
seen_held (held.Value e) = Value (seen_expr e)

abbrev pub seen_entity : CodeEntity → Entity
seen_entity a = record { known = a.known; held = seen_held a.held; at = a.at }
