-- What the descent of a production shows, in the grammar's words.
use Rattle.std.proofs.Common.{◌≡◌, ℕ, zero, suc, ◌-◌, ◌≤◌, ◌<◌, ◌++◌, List, [], ◌∷◌, length, take, drop, sym, ap, ◌∙◌, subst, arith, length-append, append_assoc}
use Rattle.std.proofs.lemmas.List.{take-append-drop, drop_at}
use Rattle.std.specs.Prelude.{IsErrAnd, Result, Ok, Err}
use Rattle.aos_base.specs.declared.text.Pos.{Pos}
use Rattle.aos_scan.specs.declared.token.Token.{Token}
use Rattle.aos_tree.specs.declared.expr.Expr.{Expr}
use Rattle.aos_tree.specs.declared.expr.Desig.{Desig}
use Rattle.aos_tree.specs.Nesting.{Rule, shallow}
use Rattle.aos_tree.specs.Ended.{IsEnded}
use Rattle.aos_tree.specs.ExprGrammar.{expr_at, desig_at}
use Rattle.aos_tree.specs.Begins.{CeasesAt, ExpectsAt, TooDeepAt}
use Rattle.aos_parse_expr.specs.declared.error.ParseErr.{ParseErr}
use Rattle.aos_parse_expr.specs.declared.error.ParseErr.TheVariants as e
use Rattle.aos_parse_expr.specs.Machine.{Refuses, run}
use Rattle.aos_parse_expr.specs.Symbols as m
use Rattle.aos_parse_expr.specs.Symbols.{Sym, Stack}
use Rattle.aos_parse_expr.proofs.Walk as w
use Rattle.aos_parse_expr.proofs.Places as places
use Rattle.aos_parse_expr.proofs.Yields.{All, next, done}
use Rattle.aos_parse_expr.proofs.ExprWalk.{joins, read_expr, read_desig}
use Rattle.aos_parse_expr.proofs.ExprYields as y
use Rattle.aos_parse_expr.proofs.ExprYields.{Yields}

pub an_expr : (d : ℕ) (may : Rule) (ts rest : List Token) → All (Yields may) (m.expr d ∷ []) ts rest → (a : Expr) × expr_at d may a ts rest
an_expr d may ts rest (next (y.an_expr x) done) = (_, x)

pub a_desig : (d : ℕ) (may : Rule) (ts rest : List Token) → All (Yields may) (m.desig d ∷ []) ts rest → (a : Desig) × desig_at d may a ts rest
a_desig d may ts rest (next (y.a_desig x) done) = (_, x)

pub walk_expr : (d : ℕ) (may : Rule) (a : Expr) (ts rest : List Token) → expr_at d may a ts rest → w.Reads m.table joins may 4 (m.expr d ∷ []) ts rest
walk_expr d may a ts rest h = (read_expr may h).0

pub walk_desig : (d : ℕ) (may : Rule) (a : Desig) (ts rest : List Token) → desig_at d may a ts rest → w.Reads m.table joins may 1 (m.desig d ∷ []) ts rest
walk_desig d may a ts rest h = read_desig may h

pub expr_ceases : (d : ℕ) (a : Expr) (ts rest : List Token) → IsEnded rest → expr_at d shallow a ts rest → ((k : Stack) → run m.table shallow ts (m.expr d ∷ k) ≡ run m.table shallow rest k) → CeasesAt (expr_at d) ts rest
expr_ceases d a ts rest ended h f = places.ceases m.table joins Yields y.sound y.empty y.sample (λ c. m.tok 0 c) y.only_takes (m.expr d) (expr_at d) (an_expr d) 4 (walk_expr d) a ts rest ended h f

pub expr_expects : (d : ℕ) (ts : List Token) (p : Pos) → Refuses m.table (m.expr d ∷ []) ts (e.Expected p) → ExpectsAt (expr_at d) ts p
expr_expects d ts p h = places.expects m.table joins Yields y.sound y.empty y.sample (λ c. m.tok 0 c) y.only_takes (m.expr d) (expr_at d) (an_expr d) 4 (walk_expr d) ts p h

pub expr_deep : (d : ℕ) (ts : List Token) (p : Pos) → Refuses m.table (m.expr d ∷ []) ts (e.Deep p) → TooDeepAt (expr_at d) ts p
expr_deep d ts p h = places.deep m.table joins Yields y.sound y.empty y.sample (λ c. m.tok 0 c) y.only_takes (m.expr d) (expr_at d) (an_expr d) 4 (walk_expr d) y.depth_of y.low y.floor y.falls ts p h

pub desig_ceases : (d : ℕ) (a : Desig) (ts rest : List Token) → IsEnded rest → desig_at d shallow a ts rest → ((k : Stack) → run m.table shallow ts (m.desig d ∷ k) ≡ run m.table shallow rest k) → CeasesAt (desig_at d) ts rest
desig_ceases d a ts rest ended h f = places.ceases m.table joins Yields y.sound y.empty y.sample (λ c. m.tok 0 c) y.only_takes (m.desig d) (desig_at d) (a_desig d) 1 (walk_desig d) a ts rest ended h f

pub desig_expects : (d : ℕ) (ts : List Token) (p : Pos) → Refuses m.table (m.desig d ∷ []) ts (e.Expected p) → ExpectsAt (desig_at d) ts p
desig_expects d ts p h = places.expects m.table joins Yields y.sound y.empty y.sample (λ c. m.tok 0 c) y.only_takes (m.desig d) (desig_at d) (a_desig d) 1 (walk_desig d) ts p h

pub desig_deep : (d : ℕ) (ts : List Token) (p : Pos) → Refuses m.table (m.desig d ∷ []) ts (e.Deep p) → TooDeepAt (desig_at d) ts p
desig_deep d ts p h = places.deep m.table joins Yields y.sound y.empty y.sample (λ c. m.tok 0 c) y.only_takes (m.desig d) (desig_at d) (a_desig d) 1 (walk_desig d) y.depth_of y.low y.floor y.falls ts p h

-- the tokens that are left stand behind those that were taken
pub expr_front : (d : ℕ) (a : Expr) (ts rest : List Token) → expr_at d shallow a ts rest → (front : List Token) × (ts ≡ front ++ rest)
expr_front d a ts rest h = let r = walk_expr d shallow a ts rest h in (r.front, r.whole)

pub desig_front : (d : ℕ) (a : Desig) (ts rest : List Token) → desig_at d shallow a ts rest → (front : List Token) × (ts ≡ front ++ rest)
desig_front d a ts rest h = let r = walk_desig d shallow a ts rest h in (r.front, r.whole)

-- the tokens from a place on are ended too
pub ended_drop : (ts : List Token) (at : ℕ) → IsEnded ts → at < length ts → IsEnded (drop at ts)
ended_drop [] at h lt = absurd h
ended_drop (t ∷ ts) zero h lt = h
ended_drop (t ∷ []) (suc n) h lt = absurd (omega arith)
ended_drop (t ∷ u ∷ us) (suc n) h lt = ended_drop (u ∷ us) n h.1 (omega arith)

-- the place of what is left
pub left_at : (ts rest : List Token) (at : ℕ) → at ≤ length ts → ((front : List Token) × (drop at ts ≡ front ++ rest)) → drop (length ts - length rest) ts ≡ rest
left_at ts rest at le f =
    let a : (take at ts ++ f.0) ++ rest ≡ ts = append_assoc (take at ts) f.0 rest ∙ ap (λ q. take at ts ++ q) (sym f.1) ∙ take-append-drop at ts in
    let n : length (take at ts ++ f.0) ≡ length ts - length rest = omega (arith, length-append (take at ts ++ f.0) rest, ap length a) in
    ap (drop (length ts - length rest)) (sym a) ∙ drop_at (take at ts ++ f.0) rest (length ts - length rest) n

-- the exit of a `?`, in the grammar's words
pub exit_error : {A : Type 0} (r : Result A ParseErr) (err other : ParseErr) → IsErrAnd r (λ q. q ≡ err) → r ≡ Err other → err ≡ other
exit_error (Ok a) err other is at = absurd is
exit_error (Err x) err other is at = let a : x ≡ other = cc in sym is ∙ a

pub exit_expects : {A : Type 0} (d : ℕ) (ts : List Token) (r : Result A ParseErr) (err : ParseErr) → IsErrAnd r (λ q. q ≡ err) → Refuses m.table (m.expr d ∷ []) ts err → (p : Pos) → r ≡ Err (e.Expected p) → ExpectsAt (expr_at d) ts p
exit_expects d ts r err is h p at = expr_expects d ts p (subst (λ q. Refuses m.table (m.expr d ∷ []) ts q) (exit_error r err (e.Expected p) is at) h)

pub exit_deep : {A : Type 0} (d : ℕ) (ts : List Token) (r : Result A ParseErr) (err : ParseErr) → IsErrAnd r (λ q. q ≡ err) → Refuses m.table (m.expr d ∷ []) ts err → (p : Pos) → r ≡ Err (e.Deep p) → TooDeepAt (expr_at d) ts p
exit_deep d ts r err is h p at = expr_deep d ts p (subst (λ q. Refuses m.table (m.expr d ∷ []) ts q) (exit_error r err (e.Deep p) is at) h)

pub desig_exit_expects : {A : Type 0} (d : ℕ) (ts : List Token) (r : Result A ParseErr) (err : ParseErr) → IsErrAnd r (λ q. q ≡ err) → Refuses m.table (m.desig d ∷ []) ts err → (p : Pos) → r ≡ Err (e.Expected p) → ExpectsAt (desig_at d) ts p
desig_exit_expects d ts r err is h p at = desig_expects d ts p (subst (λ q. Refuses m.table (m.desig d ∷ []) ts q) (exit_error r err (e.Expected p) is at) h)

pub desig_exit_deep : {A : Type 0} (d : ℕ) (ts : List Token) (r : Result A ParseErr) (err : ParseErr) → IsErrAnd r (λ q. q ≡ err) → Refuses m.table (m.desig d ∷ []) ts err → (p : Pos) → r ≡ Err (e.Deep p) → TooDeepAt (desig_at d) ts p
desig_exit_deep d ts r err is h p at = desig_deep d ts p (subst (λ q. Refuses m.table (m.desig d ∷ []) ts q) (exit_error r err (e.Deep p) is at) h)
