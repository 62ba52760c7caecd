-- What the descent shows of a text, in the grammar's words.
use Rattle.std.proofs.Common.{◌≡◌, List, [], ◌∷◌, subst}
use Rattle.std.specs.Prelude.{Result, Ok, Err}
use Rattle.aos_base.specs.declared.text.Pos.{Pos}
use Rattle.aos_scan.specs.declared.token.Token.{Token}
use Rattle.aos_tree.specs.declared.module.Module.{Module}
use Rattle.aos_tree.specs.Begins.{ExpectsAt, TooDeepAt}
use Rattle.aos_tree.specs.Nesting.{Rule}
use Rattle.aos_parse_expr.specs.declared.error.ParseErr.{ParseErr}
use Rattle.aos_parse_expr.specs.declared.error.ParseErr.TheVariants as e
use Rattle.aos_parse_expr.specs.Machine.{Refuses, Moves}
use Rattle.aos_parse_expr.proofs.Places as places
use Rattle.aos_parse_expr.proofs.Yields.{All, next, done}
use Rattle.aos_parse_mod.specs.Symbols as m
use Rattle.aos_parse_mod.specs.Text.{module_at}
use Rattle.aos_parse_mod.proofs.Joins.{joins}
use Rattle.aos_parse_mod.proofs.ModFalls as f
use Rattle.aos_parse_mod.proofs.ModWalk.{walk_text}
use Rattle.aos_parse_mod.proofs.ModYields as y
use Rattle.aos_parse_mod.proofs.ModYields.{Yields}

pub a_text : (may : Rule) (ts rest : List Token) → All (Yields may) (m.text 0 ∷ []) ts rest → (a : Module) × module_at may a ts rest
a_text may ts rest (next h done) = h

text_expects : (ts : List Token) (p : Pos) → Refuses m.table (m.text 0 ∷ []) ts (e.Expected p) → ExpectsAt module_at ts p
text_expects ts p h = places.expects m.table joins Yields y.sound y.empty f.sample (λ c. m.tok 0 c) f.only_takes (m.text 0) module_at a_text 0 walk_text ts p h

text_deep : (ts : List Token) (p : Pos) → Refuses m.table (m.text 0 ∷ []) ts (e.Deep p) → TooDeepAt module_at ts p
text_deep ts p h = places.deep m.table joins Yields y.sound y.empty f.sample (λ c. m.tok 0 c) f.only_takes (m.text 0) module_at a_text 0 walk_text f.depth_of f.low f.floor f.falls ts p h

refused : {A : Type 0} (ts : List Token) (r : Result A ParseErr) (err : ParseErr) → Moves m.table (λ _. []) (m.text 0 ∷ []) ts r → r ≡ Err err → Refuses m.table (m.text 0 ∷ []) ts err
refused ts (Ok a) err moves is = absurd (cc)
refused ts (Err x) err moves is = let a : x ≡ err = cc in subst (λ z. Refuses m.table (m.text 0 ∷ []) ts z) a moves

-- where another token is expected
pub expects : {A : Type 0} (ts : List Token) (r : Result A ParseErr) (p : Pos) → Moves m.table (λ _. []) (m.text 0 ∷ []) ts r → r ≡ Err (e.Expected p) → ExpectsAt module_at ts p
expects ts r p moves is = text_expects ts p (refused ts r (e.Expected p) moves is)

-- where the nesting passes the limit
pub deep : {A : Type 0} (ts : List Token) (r : Result A ParseErr) (p : Pos) → Moves m.table (λ _. []) (m.text 0 ∷ []) ts r → r ≡ Err (e.Deep p) → TooDeepAt module_at ts p
deep ts r p moves is = text_deep ts p (refused ts r (e.Deep p) moves is)
