-- The outcomes exclude one another: each makes the machine stop in its own way.
use Rattle.std.proofs.Common.{◌≡◌, ℕ, ◌++◌, List, [], ◌∷◌, Some, None, refl, sym, ap, ◌∙◌}
use Rattle.aos_base.specs.declared.text.Pos.{Pos}
use Rattle.aos_scan.specs.declared.token.Token.{Token}
use Rattle.aos_tree.specs.declared.module.Module.{Module}
use Rattle.aos_tree.specs.Begins.{ExpectsAt, TooDeepAt}
use Rattle.aos_tree.specs.ModuleGrammar.{Reads}
use Rattle.aos_tree.specs.Nesting.{shallow}
use Rattle.aos_tree.specs.Words as g
use Rattle.aos_parse_expr.specs.declared.error.ParseErr.{ParseErr}
use Rattle.aos_parse_expr.specs.declared.error.ParseErr.TheVariants as e
use Rattle.aos_parse_expr.specs.Machine.{Refuses, run, going, fault}
use Rattle.aos_parse_expr.proofs.Compose as compose
use Rattle.aos_parse_expr.proofs.Compose.{itself}
use Rattle.aos_parse_expr.proofs.Walk.{walk_runs}
use Rattle.aos_parse_mod.specs.Outcomes.{ExcludeOneAnother}
use Rattle.aos_parse_mod.specs.Symbols as m
use Rattle.aos_parse_mod.specs.Symbols.{Sym, Stack, Move}
use Rattle.aos_parse_mod.specs.Text.{module_at}
use Rattle.aos_parse_mod.proofs.Joins.{joins}
use Rattle.aos_parse_mod.proofs.ModAnswer.{a_text}
use Rattle.aos_parse_mod.proofs.ModFalls as f
use Rattle.aos_parse_mod.proofs.ModWalk.{walk_text}
use Rattle.aos_parse_mod.proofs.ModYields as y
use Rattle.aos_parse_mod.proofs.ModYields.{Yields}

expected : (ts : List Token) (p : Pos) → ExpectsAt module_at ts p → Refuses m.table (m.text 0 ∷ []) ts (e.Expected p)
expected ts p h = compose.expected_on m.table m.table (λ (x : Sym). x) (itself m.table) joins Yields y.sound y.empty f.sample (λ c. m.tok 0 c) f.only_takes (m.text 0) module_at a_text 0 walk_text f.depth_of f.low f.floor f.falls ts p h

deep : (ts : List Token) (p : Pos) → TooDeepAt module_at ts p → Refuses m.table (m.text 0 ∷ []) ts (e.Deep p)
deep ts p h = compose.deep_on m.table m.table (λ (x : Sym). x) (itself m.table) joins Yields y.sound y.empty f.sample (λ c. m.tok 0 c) f.only_takes (m.text 0) module_at a_text 0 walk_text f.depth_of f.low f.floor f.falls ts p h

-- what is read is taken to its end
taken : (ts : List Token) (a : Module) → Reads a ts → (tails : Stack) × (run m.table shallow ts (m.text 0 ∷ []) ≡ going tails)
unfolding run
taken ts a h =
    let r = walk_text shallow a ts [] (record { mid = h.end ∷ []; place = h.end.pos; reads = h.reads; end = g.word h.is_end refl }) in
    (r.tails ++ [], ap (λ z. run m.table shallow z (m.text 0 ∷ [])) r.whole ∙ walk_runs m.table shallow r.front [] (m.text 0 ∷ []) (r.tails ++ []) (r.walk []))

never : (ts : List Token) (a : Module) (err : ParseErr) (left : ℕ) → Reads a ts → run m.table shallow ts (m.text 0 ∷ []) ≡ fault err left → ⊥
never ts a err left h f = let t = taken ts a h in let c = sym t.1 ∙ f in absurd (cc)

-- two refusals are one
same_fault : (ts : List Token) (err err' : ParseErr) (left left' : ℕ) → run m.table shallow ts (m.text 0 ∷ []) ≡ fault err left → run m.table shallow ts (m.text 0 ∷ []) ≡ fault err' left' → err ≡ err'
same_fault ts err err' left left' f f' = let c = sym f ∙ f' in cc

pub exclude : (ts : List Token) → ExcludeOneAnother ts
exclude ts = record {
  one_expected = λ p q h h'. (
      let a = (expected ts p h).refused in let b = (expected ts q h').refused in
      let c : e.Expected p ≡ e.Expected q = same_fault ts (e.Expected p) (e.Expected q) a.0 b.0 (a.1 []) (b.1 []) in cc);
  one_deep = λ p q h h'. (
      let a = (deep ts p h).refused in let b = (deep ts q h').refused in
      let c : e.Deep p ≡ e.Deep q = same_fault ts (e.Deep p) (e.Deep q) a.0 b.0 (a.1 []) (b.1 []) in cc);
  read_or_expected = λ tree p h h'. (let a = (expected ts p h').refused in never ts tree (e.Expected p) a.0 h (a.1 []));
  read_or_deep = λ tree p h h'. (let a = (deep ts p h').refused in never ts tree (e.Deep p) a.0 h (a.1 []));
  expected_or_deep = λ p q h h'. (
      let a = (expected ts p h).refused in let b = (deep ts q h').refused in
      let c : e.Expected p ≡ e.Deep q = same_fault ts (e.Expected p) (e.Deep q) a.0 b.0 (a.1 []) (b.1 []) in absurd (cc));
}
