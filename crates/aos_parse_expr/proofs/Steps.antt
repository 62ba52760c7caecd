-- The machine, a step at a time, over symbols of any kind.
use Rattle.std.proofs.Common.{◌≡◌, ℕ, ◌≤◌, ◌<◌, ◌++◌, List, [], ◌∷◌, length, true, false, Option, Some, None, refl, sym, ap, ◌∙◌, subst, arith, nat_le, if◌then◌else◌}
use Rattle.std.proofs.lemmas.Bool.{le-leb, lt-leb}
use Rattle.std.specs.Prelude.{IsErrAnd, IfOk, Result, Ok, Err}
use Rattle.aos_scan.specs.declared.token.Token.{Token}
use Rattle.aos_scan.specs.declared.token.TokenKind.{TokenKind}
use Rattle.aos_tree.specs.Nesting.{Rule, shallow}
use Rattle.aos_tree.specs.Ended.{IsEnded}
use Rattle.aos_parse_expr.specs.declared.error.ParseErr.{ParseErr}
use Rattle.aos_parse_expr.specs.declared.error.ParseErr.TheVariants as e
use Rattle.aos_parse_expr.specs.Machine as m
use Rattle.aos_parse_expr.specs.Machine.{Table, Step, run, step, act, without, or_else, Refuses, Moves}

pub fits_shallow : (n : ℕ) → n ≤ 200 → nat_le n 200 ≡ true
fits_shallow n h = le-leb n 200 h

pub deep_shallow : (n : ℕ) → 200 < n → nat_le n 200 ≡ false
deep_shallow n h = lt-leb n 200 h

module _ {S : Type 0} (g : Table S) (may : Rule) {t : Token} {ts rest : List Token} (whole : ts ≡ t ∷ rest) where
  -- the token goes into x
  pub shifts : (x : S) (n : ℕ) (xs : List S) → g.after x t.kind ≡ Some (n, xs) → may n rest ≡ true → (k : List S) → run g may ts (x ∷ k) ≡ run g may rest (xs ++ k)
  unfolding run
  shifts x n xs is fits k =
      ap (λ s. run g may s (x ∷ k)) whole
      ∙ ap (λ move. act may t rest (or_else move k (without (g.needs x) (step g k t.kind))) (run g may rest)) is
      ∙ ap (λ b. if b then run g may rest (xs ++ k) else m.fault (e.Deep t.pos) (length rest)) fits

  -- nothing goes into x
  pub skips : (x : S) → g.after x t.kind ≡ None → g.needs x ≡ None → (k : List S) → run g may ts (x ∷ k) ≡ run g may ts k
  unfolding run
  skips x is free k =
      ap (λ s. run g may s (x ∷ k)) whole
      ∙ ap (λ move. act may t rest (or_else move k (without (g.needs x) (step g k t.kind))) (run g may rest)) is
      ∙ ap (λ n. act may t rest (without n (step g k t.kind)) (run g may rest)) free
      ∙ sym (ap (λ s. run g may s k) whole)

  pub refuses : (x : S) (n : ℕ) → g.after x t.kind ≡ None → g.needs x ≡ Some n → may n rest ≡ true → (k : List S) → run g may ts (x ∷ k) ≡ m.fault (e.Expected t.pos) (length rest)
  unfolding run
  refuses x n is wanted fits k =
      ap (λ s. run g may s (x ∷ k)) whole
      ∙ ap (λ move. act may t rest (or_else move k (without (g.needs x) (step g k t.kind))) (run g may rest)) is
      ∙ ap (λ n. act may t rest (without n (step g k t.kind)) (run g may rest)) wanted
      ∙ ap (λ b. if b then m.fault (e.Expected t.pos) (length rest) else m.fault (e.Deep t.pos) (length rest)) fits

  -- x begins by as much as y and xs at this token
  pub becomes : (x y : S) (xs : List S) → ((j : List S) → step g (x ∷ j) t.kind ≡ step g (y ∷ (xs ++ j)) t.kind) → (j : List S) → run g may ts (x ∷ j) ≡ run g may ts (y ∷ (xs ++ j))
  unfolding run
  becomes x y xs same j =
      ap (λ s. run g may s (x ∷ j)) whole ∙ ap (λ s. act may t rest s (run g may rest)) (same j) ∙ sym (ap (λ s. run g may s (y ∷ (xs ++ j))) whole)

-- x begins by as much as y and xs at any token
pub expands : {S : Type 0} (g : Table S) (may : Rule) (ts : List Token) → IsEnded ts → (x y : S) (xs : List S) →
    ((c : TokenKind) (k : List S) → step g (x ∷ k) c ≡ step g (y ∷ (xs ++ k)) c) → (k : List S) → run g may ts (x ∷ k) ≡ run g may ts (y ∷ (xs ++ k))
unfolding run
expands g may [] ended x y xs same k = absurd ended
expands g may (t ∷ ts) ended x y xs same k = ap (λ s. act may t ts s (run g may ts)) (same t.kind k)

-- an error is passed on
passes : {S : Type 0} (g : Table S) (xs ys : List S) (ts us : List Token) (err : ParseErr) (zs : List S) → m.Faults g xs ts err →
    ((k : List S) → run g shallow us (ys ++ k) ≡ run g shallow ts (xs ++ (zs ++ k))) → m.Faults g ys us err
passes g xs ys ts us e.NoMemory zs h go = tt
passes g xs ys ts us (e.Expected p) zs h go = (h.0, λ k. go k ∙ h.1 (zs ++ k))
passes g xs ys ts us (e.Deep p) zs h go = (h.0, λ k. go k ∙ h.1 (zs ++ k))

pub pass_on : {S : Type 0} {g : Table S} {err : ParseErr} {xs ys : List S} {ts us : List Token} (zs : List S) →
    Refuses g xs ts err → ((k : List S) → run g shallow us (ys ++ k) ≡ run g shallow ts (xs ++ (zs ++ k))) → Refuses g ys us err
pass_on zs h go = record { refused = passes _ _ _ _ _ _ zs h.refused go }

pub no_memory : {S : Type 0} {g : Table S} {xs : List S} {ts : List Token} → Refuses g xs ts e.NoMemory
no_memory = record { refused = tt }

-- the exit of a `?`
pub exits : {S A : Type 0} {g : Table S} (left : A → List Token) (r : Result A ParseErr) {err : ParseErr} (ys : List S) {us : List Token} →
    IsErrAnd r (λ y. y ≡ err) → Refuses g ys us err → Moves g left ys us r
exits left (Ok a) ys is h = absurd is
exits {g = g} left (Err y) ys {us} is h = subst (λ x. Refuses g ys us x) (sym is) h

pub exit_ok : {A : Type 0} (P : A → Type 0) (r : Result A ParseErr) (err : ParseErr) → IsErrAnd r (λ y. y ≡ err) → IfOk r P
exit_ok P (Ok a) err is = absurd is
exit_ok P (Err y) err is = tt

deep_move : {S : Type 0} (g : Table S) (t : Token) (ts : List Token) (n : ℕ) (move : Option (ℕ × List S)) (j : List S) → 200 < n →
    ((p : ℕ × List S) → move ≡ Some p → n ≤ p.0) → act shallow t ts (or_else move j (m.refuses n)) (run g shallow ts) ≡ m.fault (e.Deep t.pos) (length ts)
deep_move g t ts n None j deep low = ap (λ b. if b then m.fault (e.Expected t.pos) (length ts) else m.fault (e.Deep t.pos) (length ts)) (deep_shallow n deep)
deep_move g t ts n (Some p) j deep low =
    let h : n ≤ p.0 = low p refl in
    ap (λ b. if b then run g shallow ts (p.1 ++ j) else m.fault (e.Deep t.pos) (length ts)) (deep_shallow p.0 (omega arith))

-- what must come in x's place is too deep
pub too_deep : {S : Type 0} {g : Table S} {ts rest : List Token} {t : Token} (x : S) (n : ℕ) → ts ≡ t ∷ rest → g.needs x ≡ Some n → 200 < n →
    ((c : TokenKind) (p : ℕ × List S) → g.after x c ≡ Some p → n ≤ p.0) → Refuses g (x ∷ []) ts (e.Deep t.pos)
unfolding run
too_deep {g = g} {ts} {rest} {t} x n whole is deep low = record {
  refused = (
    length rest,
    λ j.
        ap (λ s. run g shallow s (x ∷ j)) whole
        ∙ ap (λ q. act shallow t rest (or_else (g.after x t.kind) j (without q (step g j t.kind))) (run g shallow rest)) is
        ∙ deep_move g t rest n (g.after x t.kind) j deep (low t.kind),
  );
}
