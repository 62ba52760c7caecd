-- A type that is met without being known.
use Rattle.std.proofs.Common.{◌≡◌, Option, None, ap}
use Rattle.aos_types.specs.declared.row.TypeId.{TypeId}
use Rattle.aos_symbols.specs.declared.env.Env.{Env}
use Rattle.aos_made_types.specs.Met.{Met, met}

-- a type of which nothing is known
pub untyped_met : (e : Env) (of : Option TypeId) (m : Met) → met e of ≡ m → met e None ≡ met m.env None
untyped_met e of m is = ap (λ (m : Met). met m.env None) is
