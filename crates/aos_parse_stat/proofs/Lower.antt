-- What `expr` and `desig` of the crate below ensure, as steps of the machine of statements.
use Rattle.std.proofs.Common.{◌≡◌, ℕ, ◌<◌, List, [], ◌∷◌, length, arith}
use Rattle.std.specs.Prelude.{Result, Err}
use Rattle.aos_base.specs.declared.text.Pos.{Pos}
use Rattle.aos_scan.specs.declared.token.Token.{Token}
use Rattle.aos_tree.specs.Ended.{IsEnded}
use Rattle.aos_tree.specs.ExprGrammar.{expr_at, desig_at}
use Rattle.aos_tree.specs.Begins.{ExpectsAt, TooDeepAt}
use Rattle.aos_parse_expr.specs.declared.error.ParseErr.{ParseErr}
use Rattle.aos_parse_expr.specs.declared.error.ParseErr.TheVariants as e
use Rattle.aos_parse_expr.specs.Machine.{Refuses}
use Rattle.aos_parse_expr.proofs.Above as above
use Rattle.aos_parse_expr.proofs.Steps.{no_memory}
use Rattle.aos_parse_stat.specs.Symbols as m
use Rattle.aos_parse_stat.proofs.StatProductions.{exprs_in}

pub expr_refused : {A : Type 0} (d : ℕ) (ts : List Token) (r : Result A ParseErr) (err : ParseErr) → r ≡ Err err → ((p : Pos) → r ≡ Err (e.Expected p) → ExpectsAt (expr_at d) ts p) →
    ((p : Pos) → r ≡ Err (e.Deep p) → TooDeepAt (expr_at d) ts p) → Refuses m.table (m.expr d ∷ []) ts err
expr_refused d ts r e.NoMemory is expected deep = no_memory
expr_refused d ts r (e.Expected p) is expected deep = above.expr_expected m.table m.part exprs_in d ts p (expected p is)
expr_refused d ts r (e.Deep p) is expected deep = above.expr_deep m.table m.part exprs_in d ts p (deep p is)

pub desig_refused : {A : Type 0} (d : ℕ) (ts : List Token) (r : Result A ParseErr) (err : ParseErr) → r ≡ Err err → ((p : Pos) → r ≡ Err (e.Expected p) → ExpectsAt (desig_at d) ts p) →
    ((p : Pos) → r ≡ Err (e.Deep p) → TooDeepAt (desig_at d) ts p) → Refuses m.table (m.desig d ∷ []) ts err
desig_refused d ts r e.NoMemory is expected deep = no_memory
desig_refused d ts r (e.Expected p) is expected deep = above.desig_expected m.table m.part exprs_in d ts p (expected p is)
desig_refused d ts r (e.Deep p) is expected deep = above.desig_deep m.table m.part exprs_in d ts p (deep p is)

pub some_token : (ts : List Token) → IsEnded ts → 0 < length ts
some_token [] ended = absurd ended
some_token (t ∷ ts) ended = omega arith
