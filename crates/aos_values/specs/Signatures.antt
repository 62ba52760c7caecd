-- The signature of a procedure type, which is that of those procedures that its values stand for.
use Rattle.std.specs.Prelude.{map, Bool, false, Option, Some, None}
use Rattle.aos_types.specs.declared.row.TypeId.{TypeId}
use Rattle.aos_types.specs.declared.row.TypeRow.{TypeRow}
use Rattle.aos_types.specs.declared.row.TypeRow.TheVariants as row
use Rattle.aos_types.specs.declared.signature.Parameter.{Parameter}
use Rattle.aos_types.specs.declared.signature.Gives.{Gives}
use Rattle.aos_types.specs.declared.signature.Gives.TheVariants as gives
use Rattle.aos_types.specs.declared.signature.Signature.{Signature}
use Rattle.aos_symbols.specs.declared.env.Env.{Env}
use Rattle.aos_symbols.specs.Env as env

abbrev pub formal : Bool × TypeId → Parameter
formal f = record { by_reference = f.0; of = Some f.1 }

abbrev pub given_by : Option TypeId → Gives
given_by None = gives.Nothing
given_by (Some t) = gives.Value (Some t)

abbrev pub row_signature : Option TypeRow → Option Signature
row_signature (Some (row.Procedure formals r)) =
    Some (record { parameters = map formal formals; gives = given_by r; is_initializer = false })
row_signature r = None

abbrev pub type_signature : Env → TypeId → Option Signature
type_signature e t = row_signature (env.row_of e (Some t))
