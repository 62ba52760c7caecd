-- What may be assigned to a variable of a type, and what it is there in the typed program.
use Rattle.std.specs.Prelude.{ℕ, Bool, true, false, not, ◌&&◌, ◌||◌, Option, Some, None, if◌then◌else◌}
use Rattle.aos_types.specs.declared.row.TypeId.{TypeId}
use Rattle.aos_types.specs.Fit.{fits as fits_of}
use Rattle.aos_types.specs.declared.signature.Signature.{Signature}
use Rattle.aos_types.specs.Signature.{same_signature}
use Rattle.aos_typed.specs.Program.{Expr}
use Rattle.aos_symbols.specs.declared.env.Env.{Env}
use Rattle.aos_symbols.specs.Env as env
use Rattle.aos_known.specs.declared.known.Class.{Class}
use Rattle.aos_known.specs.declared.known.Class.TheVariants.{Procedure}
use Rattle.aos_known.specs.declared.known.Known.{Known as KnownPart}
use Rattle.aos_known.specs.Known.{Answer, is_basic, is_long_text, fits_type, as_procedure}
use Rattle.aos_known.specs.Kinds.{is_procedural}
use Rattle.aos_values.specs.Signatures.{type_signature}

-- a value of one type may be assigned to a variable of another (Oberon-2 report, appendix A); of string constants it is told
-- otherwise
abbrev pub is_compatible : Env → Option TypeId → Option TypeId → Bool
is_compatible e (Some from) (Some to) =
    if is_basic from || is_basic to then fits_type from to else not (is_long_text from) && fits_of e.types from to
is_compatible e _ _ = true

-- a procedure that is named fits a procedure type whose signature is the same
abbrev pub is_signed_as : Env → TypeId → (home number : ℕ) → Bool
is_signed_as e t m n = by (env.signature e m n) (type_signature e t)
  where
    by : Option Signature → Option Signature → Bool
    by (Some s) (Some r) = same_signature e.types s r
    by s r = false

-- what is known of a value lets it be assigned to a variable of a type
abbrev pub is_assignable : Env → KnownPart → Option TypeId → Bool
is_assignable e k None = true
is_assignable e k (Some t) = by k.class
  where
    by : Class → Bool
    by (Procedure m n) = is_signed_as e t m n
    by c = is_compatible e k.of (Some t)

-- and what it is there in the typed program
abbrev pub typed_for : Env → Option TypeId → Answer → Expr
typed_for e None a = a.typed
typed_for e (Some t) a = if is_procedural e t then as_procedure a else a.typed
