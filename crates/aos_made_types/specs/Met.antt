-- What is met of a type: the environment behind it, and its number, none where it breaks a rule; and what is asked of types that are
-- named.
use Rattle.std.specs.Prelude.{ℕ, List, [], ◌∷◌, ◌++◌, length, Option, Some, None, slice_set}
use Rattle.aos_base.specs.declared.text.Pos.{Pos}
use Rattle.aos_types.specs.declared.row.TypeId.{TypeId}
use Rattle.aos_types.specs.declared.row.TypeRow.{TypeRow}
use Rattle.aos_symbols.specs.declared.env.Claim.{Claim}
use Rattle.aos_symbols.specs.declared.env.Env.{Env}
use Rattle.aos_symbols.specs.Breaches.{breach}
use Rattle.aos_symbols.specs.Judged.{Judged, judged}

pub record Met : Type 0 where
  pub env : Env
  pub of : Option TypeId

abbrev pub met : Env → Option TypeId → Met
met e of = record { env = e; of = of }

-- a rule that a type breaks; nothing of it is known
abbrev pub refused_type : ℕ → Pos → Env → Judged Met
refused_type rule at e = judged (breach rule at) (met e None)

-- A type's row: that of a definition has its number already, another one the next number. Where it stands is told with it.
abbrev pub placed : Option TypeId → Pos → TypeRow → Env → Met
placed (Some t) at r e = met (record e { types = slice_set e.types t.0 r }) (Some t)
placed None at r e =
    met (record e { types = e.types ++ r ∷ []; places = e.places ++ at ∷ [] }) (Some (record { 0 = length e.types }))

-- what is asked of the types that are named, once all are met
abbrev pub claiming : List Claim → Env → Env
claiming cs e = record e { claims = e.claims ++ cs }
