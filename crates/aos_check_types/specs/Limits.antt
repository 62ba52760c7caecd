-- What is judged of all types of a module together, once they are met: what is asked of those that are named, 17, 23 and 25, types
-- that contain themselves, 18, and then numbers of scalars, 19, and results, 25. A type that breaks a rule counts no scalars, and
-- keeps all rules of what is made of it.
use Rattle.std.specs.Prelude.{ℕ, suc, ◌+◌, nat_le, List, [], ◌∷◌, ◌++◌, map, sum_by, Bool, true, false, not, ◌&&◌, ◌||◌, Option, Some, None, slice_get, slice_set, unwrap_or, fold, if◌then◌else◌}
use Rattle.std.specs.List.{zip, flat_map}
use Rattle.std.specs.Option.{is_none}
use Rattle.aos_base.specs.declared.limits.TheConstants.{MOST_SCALARS}
use Rattle.aos_base.specs.declared.text.Pos.{Pos}
use Rattle.aos_tree.specs.declared.name.Qualident.{Qualident}
use Rattle.aos_tree.specs.declared.decl.Def.{Def}
use Rattle.aos_tree.specs.declared.decl.Decl.{Decl}
use Rattle.aos_tree.specs.declared.decl.TypeDef.{TypeDef}
use Rattle.aos_tree.specs.declared.decl.Formals.{Formals}
use Rattle.aos_types.specs.declared.row.TypeId.{TypeId}
use Rattle.aos_types.specs.declared.row.TypeRow.{TypeRow}
use Rattle.aos_types.specs.declared.row.TypeRow.TheVariants as row
use Rattle.aos_types.specs.Table.{row_of, is_record, is_object, is_open}
use Rattle.aos_types.specs.Contents.{at_most, variable_scalars}
use Rattle.aos_typed.specs.WellTyped.{is_whole}
use Rattle.aos_types.specs.Chain.{circles, cut}
use Rattle.aos_types.specs.Limit.{is_past, is_first_past}
use Rattle.aos_symbols.specs.declared.breach.Breach.{Breach}
use Rattle.aos_types.specs.declared.signature.Gives.{Gives}
use Rattle.aos_types.specs.declared.signature.Gives.TheVariants as gives
use Rattle.aos_types.specs.declared.signature.Signature.{Signature}
use Rattle.aos_symbols.specs.declared.env.Claim.{Claim}
use Rattle.aos_symbols.specs.declared.env.Claim.TheVariants as claim
use Rattle.aos_symbols.specs.declared.env.Env.{Env}
use Rattle.aos_symbols.specs.Breaches.{breach_unless}
use Rattle.aos_symbols.specs.Judged.{Judged, judged, bind}
use Rattle.aos_symbols.specs.Declarations.{Procedure, all_procedures, all_type_defs, single_variables}
use Rattle.aos_symbols.specs.Scope.{Scope}
use Rattle.aos_symbols.specs.Home.{Home}
use Rattle.aos_members.specs.Members as members
use Rattle.aos_check_types.specs.Places.{type_place}
use Rattle.aos_symbols.specs.Env.{nil}

-- where a type's name stands in its definition, and where the type itself begins; a type without a name has one place
pub record Written : Type 0 where
  pub named : Pos
  pub at : Pos

abbrev pub defined_at : TypeDef → Written
defined_at d = record { named = d.def.name.pos; at = type_place d.value }

abbrev pub unnamed_at : Pos → Written
unnamed_at p = record { named = p; at = p }

-- all types of a module, in the order of their numbers
abbrev pub written : Env → List Decl → List Written
written e ds = map defined_at (all_type_defs ds) ++ map unnamed_at e.places

-- What is asked of types that are named: a definition that breaks a rule has given an open array.

abbrev pub may_be_base : Option TypeRow → Bool
may_be_base r = is_record r || is_open r

abbrev pub may_be_object_base : Option TypeRow → Bool
may_be_object_base r = is_object r || is_open r

abbrev pub may_be_target : Option TypeRow → Bool
may_be_target r = is_whole r || is_open r

abbrev pub claim_breaches : Env → Claim → List Breach
claim_breaches e (claim.Target at t) = breach_unless (may_be_target (row_of e.types t)) 25 at
claim_breaches e (claim.Result at t) = []
claim_breaches e (claim.Base at b t) = breach_unless (may_be_base (row_of e.types b)) 17 at
claim_breaches e (claim.ObjectBase at b t) = breach_unless (may_be_object_base (row_of e.types b)) 17 at
claim_breaches e (claim.Field n b) = breach_unless (is_none (members.field e b n) && is_none (members.method e b n)) 23 n.pos
claim_breaches e (claim.Method n b) = breach_unless (is_none (members.field e b n)) 23 n.pos

-- a record whose base is no record stands like a definition that breaks a rule, and an object type whose base is none has no contents
abbrev pub without_base : List TypeRow → Claim → List TypeRow
without_base rows (claim.Base at b t) = if is_record (row_of rows b) then rows else slice_set rows t.0 (row.Open nil)
without_base rows (claim.ObjectBase at b t) = if is_object (row_of rows b) then rows else slice_set rows t.0 (row.Object None [])
without_base rows c = rows

abbrev pub with_bases : Env → Env
with_bases e = record e { types = fold without_base e.types e.claims }

-- what is known of the table once types that contain themselves are out of it
module _ (flags : List Bool) (rows : List TypeRow) where
  abbrev pub is_circular : TypeId → Bool
  is_circular t = unwrap_or (slice_get flags t.0) false

  abbrev pub type_breaches : TypeId → Written → List Breach
  type_breaches t w =
      breach_unless (not (is_circular t)) 18 w.named ++ breach_unless (not (is_first_past rows t)) 19 w.at

  -- the first of these has the number k
  abbrev pub types_from : ℕ → List Written → List Breach
  types_from k [] = []
  types_from k (w ∷ ws) = type_breaches (record { 0 = k }) w ++ types_from (suc k) ws

  -- Results: a function gives a scalar.

  abbrev pub has_parts : Option TypeRow → Bool
  has_parts (Some (row.Array n t)) = true
  has_parts (Some (row.Record base fields)) = true
  has_parts _ = false

  abbrev pub is_wrong_result : TypeId → Bool
  is_wrong_result t = has_parts (row_of rows t) && (not (is_circular t) && not (is_past rows t))

  abbrev pub result_breaches : Option Qualident → Gives → List Breach
  result_breaches (Some q) (gives.Value (Some t)) = breach_unless (not (is_wrong_result t)) 25 q.first.pos
  result_breaches _ _ = []

  abbrev pub result_of : Option Formals → Option Qualident
  result_of None = None
  result_of (Some f) = f.result

  -- of procedures and methods, and their signatures
  abbrev pub results_from : List Procedure → List Signature → List Breach
  results_from [] ss = []
  results_from (p ∷ ps) [] = []
  results_from (p ∷ ps) (s ∷ ss) = result_breaches (result_of p.formals) s.gives ++ results_from ps ss

  -- and of procedure types
  abbrev pub asked_result : Claim → List Breach
  asked_result (claim.Result at t) = breach_unless (not (is_wrong_result t)) 25 at
  asked_result (claim.Target at t) = []
  asked_result (claim.Base at b t) = []
  asked_result (claim.ObjectBase at b t) = []
  asked_result (claim.Field n b) = []
  asked_result (claim.Method n b) = []

  -- Variables of modules.

  abbrev pub counted : Option TypeId → ℕ
  counted None = 0
  counted (Some t) = unwrap_or (at_most MOST_SCALARS (variable_scalars rows t)) 0

  abbrev pub variables_of : Option Scope → List (Option TypeId)
  variables_of None = []
  variables_of (Some s) = s.variables

  -- the scalars of a module's variables
  abbrev pub scalars_of : Home → ℕ
  scalars_of h = sum_by counted (variables_of (slice_get h.scopes 0))

  -- a variable's type is known to keep its rules, so that its scalars count
  abbrev pub is_counted : Option TypeId → Bool
  is_counted None = false
  is_counted (Some t) = not (is_open (row_of rows t) || is_past rows t)

  -- of a variable that may not be declared
  abbrev pub counted_in : Option (Option TypeId) → Option ℕ
  counted_in None = None
  counted_in (Some of) = if is_counted of then Some (counted of) else None

  -- the first variable with which all variables so far are past the limit; behind one whose type breaks a rule none is known to be
  abbrev pub variables_past : ℕ → List (Def × Option TypeId) → List Breach
  variables_past sum [] = []
  variables_past sum (v ∷ vs) =
      let n = sum + counted v.1 in
      if is_counted v.1 then breach_unless (nat_le n MOST_SCALARS) 19 v.0.name.pos ++ variables_past n vs else []

  -- of a module, whose first type has the number `first`
  abbrev pub all_breaches : Env → ℕ → List Decl → List Breach
  all_breaches e first ds =
      types_from first (written e ds) ++ results_from (all_procedures ds) e.here.signatures
      ++ variables_past (sum_by scalars_of e.before) (zip (single_variables ds) (variables_of (slice_get e.here.scopes 0)))
      ++ flat_map asked_result e.claims

-- the environment without types that contain themselves
abbrev pub cut_off : Env → ℕ → List Decl → Judged Env
cut_off e first ds =
    let flags = circles e.types in
    let rows = cut flags e.types in
    judged (all_breaches flags rows e first ds) (record e { types = rows })

abbrev pub limits : Env → ℕ → List Decl → Judged Env
limits e first ds = bind (judged (flat_map (claim_breaches e) e.claims) (with_bases e)) (λ e. cut_off e first ds)
