-- The outcomes exclude one another: each makes the machine stop in its own way. Over symbols of any kind, for a symbol `x`
-- whose production is `reads`.
use Rattle.std.proofs.Common.{◌≡◌, ℕ, List, [], ◌∷◌, length, Some, sym, ap, ◌∙◌, arith}
use Rattle.aos_base.specs.declared.text.Pos.{Pos}
use Rattle.aos_scan.specs.declared.token.Token.{Token}
use Rattle.aos_scan.specs.declared.token.TokenKind.{TokenKind}
use Rattle.aos_tree.specs.Begins.{CeasesAt, ExpectsAt, TooDeepAt}
use Rattle.aos_tree.specs.Nesting.{Rule, shallow}
use Rattle.aos_parse_expr.specs.declared.error.ParseErr.{ParseErr}
use Rattle.aos_parse_expr.specs.declared.error.ParseErr.TheVariants as e
use Rattle.aos_parse_expr.specs.Machine as machine
use Rattle.aos_parse_expr.specs.Machine.{Table, Outcome, Refuses, run, step, shifts, or_else, without, refuses}
use Rattle.aos_parse_expr.proofs.Places.{same_split, run_step, run_end, ended_run}
use Rattle.aos_parse_expr.specs.Outcomes.{EndsAt, ExcludeOneAnother}

module _ {S A : Type 0} (g : Table S) (x : S) (reads : Rule → A → List Token → List Token → Type 0) (only : TokenKind → S) (only_takes : (c : TokenKind) → g.after (only c) c ≡ Some (0, []))
    (reads_on : (a : A) (ts rest : List Token) → reads shallow a ts rest → CeasesAt reads ts rest → (k : List S) → run g shallow ts (x ∷ k) ≡ run g shallow rest k)
    (expected : (ts : List Token) (p : Pos) → ExpectsAt reads ts p → Refuses g (x ∷ []) ts (e.Expected p))
    (deep : (ts : List Token) (p : Pos) → TooDeepAt reads ts p → Refuses g (x ∷ []) ts (e.Deep p)) where
  ends : (ts rest : List Token) → EndsAt reads ts rest → (k : List S) → run g shallow ts (x ∷ k) ≡ run g shallow rest k
  ends ts rest h k = reads_on h.tree ts rest h.whole h.longest k

  -- what is refused whatever comes after it has not ended
  never : (ts rest : List Token) (err : ParseErr) (left : ℕ) → EndsAt reads ts rest → ((k : List S) → run g shallow ts (x ∷ k) ≡ machine.fault err left) → ⊥
  never ts rest err left h f =
      let c : TokenKind = h.longest.next.kind in
      let k : List S = only c ∷ [] in
      let after : List Token = h.longest.after in
      let a : run g shallow rest [] ≡ machine.fault (e.Expected h.longest.next.pos) (length after) = ap (λ q. run g shallow q []) h.longest.rest_is ∙ run_end g h.longest.next after in
      let b : (let o : Outcome S = machine.fault err left in o ≡ machine.fault (e.Expected h.longest.next.pos) (length after)) = sym (f []) ∙ ends ts rest h [] ∙ a in
      let n : length after ≡ left = cc in
      let s : step g k c ≡ shifts 0 [] = ap (λ mv. or_else mv [] (without (g.needs (only c)) (refuses 0))) (only_takes c) in
      let t : run g shallow rest k ≡ run g shallow after [] = ap (λ q. run g shallow q k) h.longest.rest_is ∙ run_step g h.longest.next after k (shifts 0 []) s in
      ended_run g after err left (sym t ∙ sym (ends ts rest h k) ∙ f k) n

  same_end : (ts rest rest' : List Token) → EndsAt reads ts rest → EndsAt reads ts rest' → rest ≡ rest'
  same_end ts rest rest' h h' =
      let a : run g shallow rest [] ≡ machine.fault (e.Expected h.longest.next.pos) (length h.longest.after) = ap (λ q. run g shallow q []) h.longest.rest_is ∙ run_end g h.longest.next h.longest.after in
      let a' : run g shallow rest' [] ≡ machine.fault (e.Expected h'.longest.next.pos) (length h'.longest.after) = ap (λ q. run g shallow q []) h'.longest.rest_is ∙ run_end g h'.longest.next h'.longest.after in
      let b : (let o : Outcome S = machine.fault (e.Expected h.longest.next.pos) (length h.longest.after) in o ≡ machine.fault (e.Expected h'.longest.next.pos) (length h'.longest.after)) = sym a ∙ sym (ends ts rest h []) ∙ ends ts rest' h' [] ∙ a' in
      let n : length h.longest.after ≡ length h'.longest.after = cc in
      (same_split h.longest.front h'.longest.front rest rest' (sym h.longest.whole ∙ h'.longest.whole) (omega (arith, ap length h.longest.rest_is, ap length h'.longest.rest_is))).1

  -- two refusals are one
  same_fault : (ts : List Token) (err err' : ParseErr) (left left' : ℕ) → ((k : List S) → run g shallow ts (x ∷ k) ≡ machine.fault err left) → ((k : List S) → run g shallow ts (x ∷ k) ≡ machine.fault err' left') → err ≡ err'
  same_fault ts err err' left left' f f' =
      let a : run g shallow ts (x ∷ []) ≡ machine.fault err left = f [] in
      let a' : run g shallow ts (x ∷ []) ≡ machine.fault err' left' = f' [] in
      cc

  pub exclude : (ts : List Token) → ExcludeOneAnother reads ts
  exclude ts = record {
    one_end = λ rest rest' h h'. same_end ts rest rest' h h';
    one_expected = λ p q h h'. (
        let a = (expected ts p h).refused in let b = (expected ts q h').refused in
        let c : e.Expected p ≡ e.Expected q = same_fault ts (e.Expected p) (e.Expected q) a.0 b.0 a.1 b.1 in cc);
    one_deep = λ p q h h'. (
        let a = (deep ts p h).refused in let b = (deep ts q h').refused in
        let c : e.Deep p ≡ e.Deep q = same_fault ts (e.Deep p) (e.Deep q) a.0 b.0 a.1 b.1 in cc);
    end_or_expected = λ rest p h h'. (let a = (expected ts p h').refused in never ts rest (e.Expected p) a.0 h a.1);
    end_or_deep = λ rest p h h'. (let a = (deep ts p h').refused in never ts rest (e.Deep p) a.0 h a.1);
    expected_or_deep = λ p q h h'. (
        let a = (expected ts p h).refused in let b = (deep ts q h').refused in
        let c : e.Expected p ≡ e.Deep q = same_fault ts (e.Expected p) (e.Deep q) a.0 b.0 a.1 b.1 in absurd (cc));
  }
