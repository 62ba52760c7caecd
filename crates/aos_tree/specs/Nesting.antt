-- The nesting of a token: how many of the productions Expr, Factor, Stat and Type it stands in. The grammar's relations
-- take a rule that says at which nesting a token may stand, so that they serve with the limit and without it.
use Rattle.std.specs.Prelude.{ℕ, List, length, Bool, true, nat_le, if◌then◌else◌}
use Rattle.aos_scan.specs.declared.token.Token.{Token}

-- whether a token may stand at a nesting, where these tokens come after it
abbrev pub Rule : Type 0
Rule = ℕ → List Token → Bool

-- no limit
abbrev pub anywhere : Rule
anywhere nesting after = true

-- no token is nested deeper than 200
abbrev pub shallow : Rule
shallow nesting after = nat_le nesting 200

-- no token is nested deeper than 200 but those that have fewer than `free` others after them
abbrev pub shallow_before : ℕ → Rule
shallow_before free nesting after = if nat_le free (length after) then nat_le nesting 200 else true
