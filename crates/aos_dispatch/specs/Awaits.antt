-- What the code's list of AWAITs is seen as.
use Rattle.aos_typed.specs.Conditions.{Awaited}
use Rattle.aos_typed.specs.Seen.{seen_expr}
use Rattle.aos_dispatch.specs.declared.awaits.Await.{Await}

abbrev pub seen_await : Await → Awaited
seen_await a = record { at = a.at; expression = seen_expr a.condition.now }
