-- A grammar as a machine with a stack of what is still to come, which goes on by one token at a time. The parsers are
-- proved by it; no public clause speaks of it. It is stated over symbols of any kind, so that the parser of modules has
-- the same machine over more symbols.
use Rattle.std.specs.Prelude.{◌≡◌, ℕ, ◌++◌, List, [], ◌∷◌, length, Option, Some, None, if◌then◌else◌, ⊤, Result, Ok, Err}
use Rattle.aos_scan.specs.declared.token.Token.{Token}
use Rattle.aos_scan.specs.declared.token.TokenKind.{TokenKind}
use Rattle.aos_tree.specs.Nesting.{Rule, shallow}
use Rattle.aos_parse_expr.specs.declared.error.ParseErr.{ParseErr}
use Rattle.aos_parse_expr.specs.declared.error.ParseErr.TheVariants as e

-- how symbols take tokens
pub record Table (S : Type 0) : Type 0 where
  -- where a token comes in a symbol's place: the nesting at which it stands, and what is to come after it
  pub after : S → TokenKind → Option (ℕ × List S)
  -- the least nesting of what must come in a symbol's place; None where nothing must come
  pub needs : S → Option ℕ

-- A token moves the stack on, or is refused. Each is at a nesting: where it is refused, the least one that a token there
-- may have.
pub data Step (S : Type 0) : Type 0 where
  shifts : ℕ → List S → Step S
  refuses : ℕ → Step S

-- what comes after a symbol that may be left out may come in its place
abbrev pub without : {S : Type 0} → Option ℕ → Step S → Step S
without None other = other
without (Some n) other = refuses n

abbrev pub or_else : {S : Type 0} → Option (ℕ × List S) → List S → Step S → Step S
or_else (Some p) xs other = shifts p.0 (p.1 ++ xs)
or_else None xs other = other

abbrev pub step : {S : Type 0} → Table S → List S → TokenKind → Step S
step g [] c = refuses 0
step g (x ∷ xs) c = or_else (g.after x c) xs (without (g.needs x) (step g xs c))

pub data Outcome (S : Type 0) : Type 0 where
  going : List S → Outcome S
  -- the error, and how many tokens come after the one that is refused
  fault : ParseErr → ℕ → Outcome S

abbrev pub act : {S : Type 0} → Rule → Token → List Token → Step S → (List S → Outcome S) → Outcome S
act may t ts (refuses d) go = if may d ts then fault (e.Expected t.pos) (length ts) else fault (e.Deep t.pos) (length ts)
act may t ts (shifts d xs) go = if may d ts then go xs else fault (e.Deep t.pos) (length ts)

unfoldable pub run : {S : Type 0} → Table S → Rule → List Token → List S → Outcome S
run g may [] xs = going xs
run g may (t ∷ ts) xs = act may t ts (step g xs t.kind) (run g may ts)

abbrev pub Faults : {S : Type 0} → Table S → List S → List Token → ParseErr → Type 0
Faults {S} g xs ts e.NoMemory = ⊤
Faults {S} g xs ts (e.Expected p) = (left : ℕ) × ((ys : List S) → run g shallow ts (xs ++ ys) ≡ fault (e.Expected p) left)
Faults {S} g xs ts (e.Deep p) = (left : ℕ) × ((ys : List S) → run g shallow ts (xs ++ ys) ≡ fault (e.Deep p) left)

-- xs are refused, whatever comes after them
pub record Refuses {S : Type 0} (g : Table S) (xs : List S) (ts : List Token) (err : ParseErr) : Type 0 where
  pub refused : Faults g xs ts err

-- xs are read up to what is left, or refused with the error, whatever comes after them
abbrev pub Moves : {S A : Type 0} → Table S → (A → List Token) → List S → List Token → Result A ParseErr → Type 0
Moves {S} g left xs ts (Ok a) = (ys : List S) → run g shallow ts (xs ++ ys) ≡ run g shallow (left a) ys
Moves g left xs ts (Err err) = Refuses g xs ts err
