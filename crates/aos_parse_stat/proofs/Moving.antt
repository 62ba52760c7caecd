-- Steps of any machine that the parser of statements takes besides those of expressions.
use Rattle.std.proofs.Common.{◌≡◌, ℕ, ◌<◌, ◌++◌, List, [], ◌∷◌, length, Some, ap, ◌∙◌, if◌then◌else◌}
use Rattle.std.specs.Prelude.{Result, Ok, Err}
use Rattle.aos_scan.specs.declared.token.Token.{Token}
use Rattle.aos_tree.specs.Nesting.{shallow}
use Rattle.aos_parse_expr.specs.declared.error.ParseErr.{ParseErr}
use Rattle.aos_parse_expr.specs.declared.error.ParseErr.TheVariants as e
use Rattle.aos_parse_expr.specs.Machine as m
use Rattle.aos_parse_expr.specs.Machine.{Table, run, step, act, without, or_else, Refuses, Moves}
use Rattle.aos_parse_expr.proofs.Steps.{deep_shallow, pass_on}

-- a token that would go on, too deep
pub goes_too_deep : {S : Type 0} {g : Table S} {ts rest : List Token} {t : Token} (x : S) (n : ℕ) (xs : List S) → ts ≡ t ∷ rest → g.after x t.kind ≡ Some (n, xs) → 200 < n → Refuses g (x ∷ []) ts (e.Deep t.pos)
unfolding run
goes_too_deep {g = g} {ts} {rest} {t} x n xs whole is deep = record {
  refused = (
    length rest,
    λ j.
        ap (λ s. run g shallow s (x ∷ j)) whole
        ∙ ap (λ move. act shallow t rest (or_else move j (without (g.needs x) (step g j t.kind))) (run g shallow rest)) is
        ∙ ap (λ b. if b then run g shallow rest (xs ++ j) else m.fault (e.Deep t.pos) (length rest)) (deep_shallow n deep),
  );
}

-- what another call answers, passed on
pub hands_on : {S A : Type 0} (g : Table S) (left : A → List Token) (r : Result A ParseErr) (xs ys : List S) (ts us : List Token) → Moves g left xs us r →
    ((k : List S) → run g shallow ts (ys ++ k) ≡ run g shallow us (xs ++ k)) → Moves g left ys ts r
hands_on g left (Ok a) xs ys ts us h go = λ k. go k ∙ h k
hands_on g left (Err err) xs ys ts us h go = pass_on [] h go
