-- Names for other types: `A = B` makes A stand for what B stands for. Each definition of a type has a number; that of a name
-- for another type leads to the other's, which may be such a name again. A name that leads back to itself stands for nothing.
use Rattle.std.specs.Prelude.{ℕ, zero, suc, ◌+◌, ◌-◌, ◌==◌, nat_lt, List, [], ◌∷◌, ◌++◌, length, map, Option, Some, None, slice_get, if◌then◌else◌}
use Rattle.std.specs.List.{range_with_len}
use Rattle.aos_tree.specs.declared.decl.TypeDef.{TypeDef}
use Rattle.aos_tree.specs.declared.decl.Decl.{Decl}
use Rattle.aos_tree.specs.declared.decl.TypeExpr.{TypeExpr}
use Rattle.aos_tree.specs.declared.decl.TypeExpr.TheVariants as type
use Rattle.aos_types.specs.declared.row.TypeId.{TypeId}
use Rattle.aos_types.specs.declared.row.TypeRow.{TypeRow}
use Rattle.aos_types.specs.declared.row.TypeRow.TheVariants as row
use Rattle.aos_symbols.specs.declared.env.Env.{Env}
use Rattle.aos_symbols.specs.declared.breach.Breach.{Breach}
use Rattle.aos_symbols.specs.Breaches.{first, not_built}
use Rattle.aos_symbols.specs.Judged.{Judged, judged, kept, bind, walk}
use Rattle.aos_symbols.specs.Declarations.{type_defs, inner_parts}
use Rattle.aos_symbols.specs.Env as env
use Rattle.aos_symbols.specs.Env.{nil}
use Rattle.aos_check_types.specs.declared.aliases.Target.{Target}
use Rattle.aos_check_types.specs.declared.aliases.Target.TheVariants.{Own, Of, Nothing}
use Rattle.aos_values.specs.TypeNames.{named_type}

abbrev pub target_of : Option TypeId → Target
target_of None = Nothing
target_of (Some t) = Of t

-- A name for another type is judged again where its definition is met, in all scopes of that place, and which rule it breaks is told
-- there. Here it is refused at the same place by a number that stands behind those of all other rules.
abbrev pub later : Option Breach → List Breach
later None = []
later (Some b) = not_built b.pos

-- what a definition's number leads to
abbrev pub led_by : Env → TypeExpr → Judged Target
led_by e (type.Named q) = let j = named_type e q in judged (later (first j.breaches)) (target_of j.answer)
led_by e (type.Array' p lengths shape row) = kept Own
led_by e (type.Record' p base shape row) = kept Own
led_by e (type.Pointer' p shape row) = kept Own
led_by e (type.Proc p flag formals) = kept Own
led_by e (type.Object' p base shape row body end) = kept Own

abbrev pub with_target : Env → List Target → TypeDef → Judged (List Target)
with_target e ts d = bind (led_by e d.value) (λ t. kept (ts ++ t ∷ []))

-- of the types that are defined within a module's declarations, in scopes that have the numbers from k on
abbrev pub inner_targets : Env → ℕ → List Target → List (List Decl) → Judged (List Target)
inner_targets e k ts [] = kept ts
inner_targets e k ts (ds ∷ dss) =
    bind (walk (with_target (env.within e k)) ts (type_defs ds)) (λ us. inner_targets e (suc k) us dss)

-- of all types that a module's declarations define
abbrev pub targets : Env → List Decl → Judged (List Target)
targets e ds = bind (walk (with_target e) [] (type_defs ds)) (λ ts. inner_targets e 1 ts (inner_parts ds))

module _ (first : ℕ) (ts : List Target) where
  -- the target of a type of the module, of which the first has the number `first`
  abbrev pub target_at : TypeId → Option Target
  target_at t = if nat_lt t.0 first then None else slice_get ts (t.0 - first)

  -- one name further
  abbrev pub step : TypeId → TypeId
  step t = led (target_at t)
    where
      led : Option Target → TypeId
      led None = t
      led (Some Own) = t
      led (Some (Of u)) = u
      led (Some Nothing) = nil

  -- so many names further
  abbrev pub follow : ℕ → TypeId → TypeId
  follow zero t = t
  follow (suc n) t = follow n (step t)

  -- a type that isn't a name for another one
  abbrev pub proper : TypeId → Option TypeId
  proper t = if t.0 == nil.0 then None else at (target_at t)
    where
      at : Option Target → Option TypeId
      at None = Some t
      at (Some Own) = Some t
      at (Some (Of u)) = None
      at (Some Nothing) = None

  -- What still leads on behind as many names as there are types leads back to itself.
  abbrev pub stands_for : TypeId → Option TypeId
  stands_for t = proper (follow (length ts) t)

  -- what each definition's name stands for
  abbrev pub numbers : List (Option TypeId)
  numbers = map (λ k. stands_for (record { 0 = first + k })) (range_with_len 0 (length ts))

-- The row of a definition's number before any definition is met: an array of itself is yet to come. A name for another type
-- holds it, as an array of one would, so that a circle of names is a type that contains itself.
abbrev pub first_row : ℕ → Target → TypeRow
first_row k Own = row.Array 1 (record { 0 = k })
first_row k (Of t) = row.Array 1 t
first_row k Nothing = row.Open nil

abbrev pub first_rows : ℕ → List Target → List TypeRow
first_rows k [] = []
first_rows k (t ∷ ts) = first_row k t ∷ first_rows (suc k) ts
