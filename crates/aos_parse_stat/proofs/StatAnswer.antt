-- What the parser of blocks answers, in the grammar's words.
use Rattle.std.proofs.Common.{◌≡◌, ℕ, ◌++◌, List, [], ◌∷◌, subst}
use Rattle.std.specs.Prelude.{IsErrAnd, Result, Err}
use Rattle.aos_base.specs.declared.text.Pos.{Pos}
use Rattle.aos_scan.specs.declared.token.Token.{Token}
use Rattle.aos_tree.specs.declared.stat.Block.{Block}
use Rattle.aos_tree.specs.Nesting.{Rule, shallow}
use Rattle.aos_tree.specs.Ended.{IsEnded}
use Rattle.aos_tree.specs.Begins.{CeasesAt, ExpectsAt, TooDeepAt}
use Rattle.aos_parse_expr.specs.declared.error.ParseErr.{ParseErr}
use Rattle.aos_parse_expr.specs.declared.error.ParseErr.TheVariants as e
use Rattle.aos_parse_expr.specs.Machine.{Refuses, run}
use Rattle.aos_parse_expr.proofs.Answer.{exit_error}
use Rattle.aos_parse_expr.proofs.Places as places
use Rattle.aos_parse_expr.proofs.Walk as w
use Rattle.aos_parse_expr.proofs.Yields.{All, next, done}
use Rattle.aos_parse_stat.specs.Grammar.{block_at}
use Rattle.aos_parse_stat.specs.Symbols as m
use Rattle.aos_parse_stat.specs.Symbols.{Stack}
use Rattle.aos_parse_stat.proofs.StatWalk.{joins, read_block}
use Rattle.aos_parse_stat.proofs.StatYields as y
use Rattle.aos_parse_stat.proofs.StatYields.{Yields}

pub a_block : (d : ℕ) (may : Rule) (ts rest : List Token) → All (Yields may) (m.block d ∷ []) ts rest → (a : Block) × block_at d may a ts rest
a_block d may ts rest (next (y.a_block h) done) = (_, h)

pub walk_block : (d : ℕ) (may : Rule) (a : Block) (ts rest : List Token) → block_at d may a ts rest → w.Reads m.table joins may 1 (m.block d ∷ []) ts rest
walk_block d may a ts rest h = read_block may h

pub block_ceases : (d : ℕ) (a : Block) (ts rest : List Token) → IsEnded rest → block_at d shallow a ts rest → ((k : Stack) → run m.table shallow ts (m.block d ∷ k) ≡ run m.table shallow rest k) → CeasesAt (block_at d) ts rest
block_ceases d a ts rest ended h f = places.ceases m.table joins Yields y.sound y.empty y.sample (λ c. m.tok 0 c) y.only_takes (m.block d) (block_at d) (a_block d) 1 (walk_block d) a ts rest ended h f

pub block_expects : (d : ℕ) (ts : List Token) (p : Pos) → Refuses m.table (m.block d ∷ []) ts (e.Expected p) → ExpectsAt (block_at d) ts p
block_expects d ts p h = places.expects m.table joins Yields y.sound y.empty y.sample (λ c. m.tok 0 c) y.only_takes (m.block d) (block_at d) (a_block d) 1 (walk_block d) ts p h

pub block_deep : (d : ℕ) (ts : List Token) (p : Pos) → Refuses m.table (m.block d ∷ []) ts (e.Deep p) → TooDeepAt (block_at d) ts p
block_deep d ts p h = places.deep m.table joins Yields y.sound y.empty y.sample (λ c. m.tok 0 c) y.only_takes (m.block d) (block_at d) (a_block d) 1 (walk_block d) y.depth_of y.low y.floor y.falls ts p h

-- the tokens that are left stand behind those that were taken
pub block_front : (d : ℕ) (a : Block) (ts rest : List Token) → block_at d shallow a ts rest → (front : List Token) × (ts ≡ front ++ rest)
block_front d a ts rest h = let r = walk_block d shallow a ts rest h in (r.front, r.whole)

-- the exit of a `?`
pub exit_expects : {A : Type 0} (d : ℕ) (ts : List Token) (r : Result A ParseErr) (err : ParseErr) → IsErrAnd r (λ q. q ≡ err) → Refuses m.table (m.block d ∷ []) ts err → (p : Pos) → r ≡ Err (e.Expected p) → ExpectsAt (block_at d) ts p
exit_expects d ts r err is h p at = block_expects d ts p (subst (λ q. Refuses m.table (m.block d ∷ []) ts q) (exit_error r err (e.Expected p) is at) h)

pub exit_deep : {A : Type 0} (d : ℕ) (ts : List Token) (r : Result A ParseErr) (err : ParseErr) → IsErrAnd r (λ q. q ≡ err) → Refuses m.table (m.block d ∷ []) ts err → (p : Pos) → r ≡ Err (e.Deep p) → TooDeepAt (block_at d) ts p
exit_deep d ts r err is h p at = block_deep d ts p (subst (λ q. Refuses m.table (m.block d ∷ []) ts q) (exit_error r err (e.Deep p) is at) h)
