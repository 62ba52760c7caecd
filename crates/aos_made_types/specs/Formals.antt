-- Formals of procedures and of procedure types: the types of parameters and results are those of the scope round them. A procedure
-- type has a row where the types of all its parameters and of its result are known.
use Rattle.std.specs.Prelude.{codes, List, [], ◌∷◌, ◌++◌, length, replicate, fold, Bool, false, Option, Some, None, if◌then◌else◌}
use Rattle.aos_base.specs.declared.text.Pos.{Pos}
use Rattle.aos_tree.specs.declared.name.Name.{Name}
use Rattle.aos_tree.specs.declared.name.Qualident.{Qualident}
use Rattle.aos_tree.specs.declared.decl.Formals.{Formals}
use Rattle.aos_tree.specs.declared.decl.Section.{Section}
use Rattle.aos_types.specs.declared.row.TypeId.{TypeId}
use Rattle.aos_types.specs.declared.row.TypeRow.{TypeRow}
use Rattle.aos_types.specs.declared.row.TypeRow.TheVariants as row
use Rattle.aos_symbols.specs.declared.env.Claim.{Claim}
use Rattle.aos_symbols.specs.declared.env.Claim.TheVariants as claim
use Rattle.aos_symbols.specs.declared.env.Env.{Env}
use Rattle.aos_types.specs.declared.signature.Parameter.{Parameter}
use Rattle.aos_types.specs.declared.signature.Gives.{Gives}
use Rattle.aos_types.specs.declared.signature.Gives.TheVariants as gives
use Rattle.aos_types.specs.declared.signature.Signature.{Signature}
use Rattle.aos_symbols.specs.Judged.{Judged, kept, bind, walk}
use Rattle.aos_symbols.specs.Spelling.{is_word}
use Rattle.aos_values.specs.TypeNames.{named_type}
use Rattle.aos_made_types.specs.Met.{Met, met, refused_type, placed, claiming}

-- open arrays within one another, as many as there are places of ARRAY
abbrev pub opened : List Pos → Met → Met
opened [] m = m
opened (at ∷ ats) m = open_of at (opened ats m)
  where
    on_element : Pos → Met → Option TypeId → Met
    on_element at m None = m
    on_element at m (Some t) = placed None at (row.Open t) m.env

    open_of : Pos → Met → Met
    open_of at m = on_element at m m.of

pub record FormalsMet : Type 0 where
  pub env : Env
  pub parameters : List Parameter

abbrev pub formals_met : Env → List Parameter → FormalsMet
formals_met e ps = record { env = e; parameters = ps }

abbrev pub with_section : FormalsMet → Section → Judged FormalsMet
with_section f s =
    bind (named_type f.env s.of) (λ of.
    let m = opened s.arrays (met f.env of) in
    kept (formals_met m.env (f.parameters ++ replicate (length s.names) (record { by_reference = s.by_reference; of = m.of }))))

abbrev pub given : Env → Option Qualident → Judged Gives
given e None = kept gives.Nothing
given e (Some q) = bind (named_type e q) (λ of. kept (gives.Value of))

-- the environment behind a heading, and the procedure's signature
pub record HeadingMet : Type 0 where
  pub env : Env
  pub signature : Signature

abbrev pub heading_met : Env → Signature → HeadingMet
heading_met e s = record { env = e; signature = s }

abbrev pub formals_in : Env → Option Formals → Judged HeadingMet
formals_in e None = kept (heading_met e (record { parameters = []; gives = gives.Nothing; is_initializer = false }))
formals_in e (Some f) =
    bind (walk with_section (formals_met e []) f.sections) (λ s.
    bind (given s.env f.result) (λ g.
    kept (heading_met s.env (record { parameters = s.parameters; gives = g; is_initializer = false }))))

-- the name of a result
abbrev pub result_in : Option Formals → Option Qualident
result_in None = None
result_in (Some f) = f.result

-- Procedure types.

-- one formal more, where its type is known
abbrev pub with_formal : Option (List (Bool × TypeId)) → Parameter → Option (List (Bool × TypeId))
with_formal fs p = by fs p.of
  where
    by : Option (List (Bool × TypeId)) → Option TypeId → Option (List (Bool × TypeId))
    by (Some fs) (Some t) = Some (fs ++ (p.by_reference, t) ∷ [])
    by (Some fs) None = None
    by None of = None

abbrev pub known_formals : List Parameter → Option (List (Bool × TypeId))
known_formals ps = fold with_formal (Some []) ps

abbrev pub known_result : Gives → Option (Option TypeId)
known_result gives.Nothing = Some None
known_result (gives.Value (Some t)) = Some (Some t)
known_result (gives.Value None) = None

abbrev pub procedure_row : Option (List (Bool × TypeId)) → Option (Option TypeId) → Option TypeRow
procedure_row (Some fs) (Some r) = Some (row.Procedure fs r)
procedure_row (Some fs) None = None
procedure_row None r = None

abbrev pub row_of_formals : Signature → Option TypeRow
row_of_formals s = procedure_row (known_formals s.parameters) (known_result s.gives)

abbrev pub placed_row : Option TypeId → Pos → Option TypeRow → Env → Met
placed_row slot at None e = met e None
placed_row slot at (Some r) e = placed slot at r e

-- its result is a scalar; of a type that is named this is asked later
abbrev pub result_claims : Option Qualident → Gives → List Claim
result_claims (Some q) (gives.Value (Some t)) = claim.Result q.first.pos t ∷ []
result_claims (Some q) (gives.Value None) = []
result_claims (Some q) gives.Nothing = []
result_claims None g = []

abbrev pub procedure_met : Option TypeId → Pos → Option Formals → HeadingMet → Met
procedure_met slot at formals h =
    placed_row slot at (row_of_formals h.signature) (claiming (result_claims (result_in formals) h.signature.gives) h.env)

abbrev pub with_formals : Option TypeId → Env → Pos → Option Formals → Judged Met
with_formals slot e at formals = bind (formals_in e formals) (λ h. kept (procedure_met slot at formals h))

-- a procedure type has no flag but DELEGATE
abbrev pub procedure_in : Option TypeId → Env → Pos → Option Name → Option Formals → Judged Met
procedure_in slot e at None formals = with_formals slot e at formals
procedure_in slot e at (Some n) formals =
    if is_word e.here.text (codes "DELEGATE") n then with_formals slot e at formals else refused_type 45 n.pos e
