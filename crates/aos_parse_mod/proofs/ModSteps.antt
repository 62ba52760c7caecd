-- Each production of a module at its first token, and what the crates below ensure, as steps of the machine.
use Rattle.std.proofs.Common.{◌≡◌, ℕ, ◌+◌, ◌<◌, ◌++◌, List, [], ◌∷◌, length, Bool, true, false, Some, None, refl, sym, ap, ◌∙◌, arith, append_assoc, if◌then◌else◌}
use Rattle.std.specs.Prelude.{◌≢◌, Result, Ok, Err, nat_eq}
use Rattle.aos_base.specs.declared.text.Pos.{Pos}
use Rattle.aos_scan.specs.declared.token.Token.{Token}
use Rattle.aos_scan.specs.declared.token.TokenKind.{TokenKind}
use Rattle.aos_scan.specs.declared.token.TokenKind.TheVariants as k
use Rattle.aos_tree.specs.Begins.{ExpectsAt, TooDeepAt}
use Rattle.aos_tree.specs.Ended.{IsEnded}
use Rattle.aos_tree.specs.ExprGrammar.{expr_at}
use Rattle.aos_tree.specs.Nesting.{shallow}
use Rattle.aos_parse_expr.specs.declared.error.ParseErr.{ParseErr}
use Rattle.aos_parse_expr.specs.declared.error.ParseErr.TheVariants as e
use Rattle.aos_parse_expr.specs.Machine.{shifts, refuses, step, or_else, without, run, Refuses, Moves}
use Rattle.aos_parse_expr.specs.Symbols as x
use Rattle.aos_parse_expr.specs.Symbols.{code}
use Rattle.aos_parse_expr.proofs.Above as above
use Rattle.aos_parse_expr.proofs.Productions as low
use Rattle.aos_parse_expr.proofs.Steps as by
use Rattle.aos_parse_stat.specs.Grammar.{block_at}
use Rattle.aos_parse_stat.specs.Symbols as s
use Rattle.aos_parse_stat.proofs.Above as blocks
use Rattle.aos_parse_mod.specs.Symbols as m
use Rattle.aos_parse_mod.specs.Symbols.{Sym, Stack, Move, onward, below}
use Rattle.aos_parse_mod.proofs.Embedding.{with_exprs, with_stats}
use Rattle.aos_parse_mod.proofs.Joins.{word_is}

-- a symbol that a word begins, at that word
pub word_at : (z : Sym) (d n : ℕ) (want : TokenKind) (xs : Stack) → m.after z want ≡ Some (d, xs) → (c : TokenKind) → c ≡ want → (j : Stack) → step m.table (z ∷ j) c ≡ step m.table (m.tok d want ∷ (xs ++ j)) c
word_at z d n want xs at c is j =
    ap (λ mv. or_else mv j (without (m.needs z) (step m.table j c))) (ap (m.after z) is ∙ at)
    ∙ sym (ap (λ mv. or_else mv (xs ++ j) (refuses d)) (ap (m.after (m.tok d want)) is ∙ word_is d want []))

onward_or : (move : Move) (xs j : Stack) (d : ℕ) → or_else (onward move xs) j (refuses d) ≡ or_else move (xs ++ j) (refuses d)
onward_or None xs j d = refl
onward_or (Some p) xs j d = ap (λ q. shifts p.0 q) (append_assoc p.1 xs j)

pub section_at : (d : ℕ) (c : TokenKind) (j : Stack) → step m.table (m.section d ∷ j) c ≡ step m.table (m.option d k.KwVar ∷ (m.tok d k.Ident ∷ m.section_rest d j)) c
section_at d k.KwVar j = refl
section_at d k.Ident j = refl
section_at d _ j = refl

sections_other : (d : ℕ) (c : TokenKind) → c ≢ k.CloseParen → m.after_sections d c ≡ onward (m.after_section d c) (m.more_sections d ∷ [])
sections_other d k.CloseParen isnt = absurd (isnt refl)
sections_other d _ isnt = refl

pub sections_at : (d : ℕ) (c : TokenKind) → c ≢ k.CloseParen → (j : Stack) → step m.table (m.sections d ∷ j) c ≡ step m.table (m.section d ∷ (m.more_sections d ∷ j)) c
sections_at d c isnt j = ap (λ mv. or_else mv j (refuses d)) (sections_other d c isnt) ∙ onward_or (m.after_section d c) (m.more_sections d ∷ []) j d

pub sections_end : (d : ℕ) (c : TokenKind) → c ≢ k.Semicolon → (j : Stack) → step m.table (m.more_sections d ∷ j) c ≡ step m.table (m.tok d k.CloseParen ∷ j) c
sections_end d k.Semicolon isnt j = absurd (isnt refl)
sections_end d k.CloseParen isnt j = refl
sections_end d _ isnt j = refl

pub imports_end : (d : ℕ) (c : TokenKind) → c ≢ k.Comma → (j : Stack) → step m.table (m.more_imports d ∷ j) c ≡ step m.table (m.tok d k.Semicolon ∷ j) c
imports_end d k.Comma isnt j = absurd (isnt refl)
imports_end d k.Semicolon isnt j = refl
imports_end d _ isnt j = refl

pub body_at : (d : ℕ) (c : TokenKind) → c ≢ k.KwEnd → (j : Stack) → step m.table (m.body d ∷ j) c ≡ step m.table (m.of_stat (s.block d) ∷ j) c
body_at d k.KwEnd isnt j = absurd (isnt refl)
body_at d _ isnt j = refl

decl_starts : (local : Bool) (d : ℕ) (c : TokenKind) → m.starts_decl local c ≡ true → (p : ℕ × Stack) × (m.after_decl local d c ≡ Some p)
decl_starts local d k.KwConst h = (_, refl)
decl_starts local d k.KwType h = (_, refl)
decl_starts local d k.KwVar h = (_, refl)
decl_starts true d k.KwProcedure h = absurd (cc)
decl_starts false d k.KwProcedure h = (_, refl)
decl_starts local d _ h = absurd (cc)

pub decls_at : (local : Bool) (d : ℕ) (c : TokenKind) → m.starts_decl local c ≡ true → (j : Stack) → step m.table (m.decls local d ∷ j) c ≡ step m.table (m.decl local d ∷ (m.decls local d ∷ j)) c
decls_at local d c h j =
    let p = decl_starts local d c h in
    ap (λ mv. or_else (onward mv (m.decls local d ∷ [])) j (step m.table j c)) p.1 ∙ ap (λ q. shifts p.0.0 q) (append_assoc p.0.1 (m.decls local d ∷ []) j)
    ∙ sym (ap (λ mv. or_else mv (m.decls local d ∷ j) (refuses d)) p.1)

no_decl : (local : Bool) (d : ℕ) (c : TokenKind) → m.starts_decl local c ≡ false → m.after_decl local d c ≡ None
no_decl local d k.KwConst h = absurd (cc)
no_decl local d k.KwType h = absurd (cc)
no_decl local d k.KwVar h = absurd (cc)
no_decl true d k.KwProcedure h = refl
no_decl false d k.KwProcedure h = absurd (cc)
no_decl local d _ h = refl

pub no_decls : (local : Bool) (d : ℕ) (c : TokenKind) → m.starts_decl local c ≡ false → m.after (m.decls local d) c ≡ None
no_decls local d c h = ap (λ mv. onward mv (m.decls local d ∷ [])) (no_decl local d c h)

pub local_proc : (local : Bool) (d : ℕ) (c : TokenKind) → local ≡ true → c ≡ k.KwProcedure → m.after (m.decl local d) c ≡ None
local_proc local d c at is = ap (m.after (m.decl local d)) is ∙ ap (λ b. if b then None else Some (d, m.proc_rest d (m.tok d k.Semicolon ∷ []))) at

pub proc_at : (local : Bool) (d : ℕ) (c : TokenKind) → local ≡ false → c ≡ k.KwProcedure → (j : Stack) → step m.table (m.decl local d ∷ j) c ≡ step m.table (m.tok d k.KwProcedure ∷ m.proc_rest d (m.tok d k.Semicolon ∷ j)) c
proc_at local d c at is j =
    word_at (m.decl local d) d 0 k.KwProcedure (m.proc_rest d (m.tok d k.Semicolon ∷ [])) (ap (λ b. if b then None else Some (d, m.proc_rest d (m.tok d k.Semicolon ∷ []))) at) c is j

pub none_decl : (local : Bool) (d : ℕ) (c : TokenKind) → c ≢ k.KwConst → c ≢ k.KwType → c ≢ k.KwVar → c ≢ k.KwProcedure → m.after_decl local d c ≡ None
none_decl local d k.KwConst a b f g = absurd (a refl)
none_decl local d k.KwType a b f g = absurd (b refl)
none_decl local d k.KwVar a b f g = absurd (f refl)
none_decl local d k.KwProcedure a b f g = absurd (g refl)
none_decl local d _ a b f g = refl

pub none_type : (d : ℕ) (c : TokenKind) → c ≢ k.Ident → c ≢ k.KwArray → c ≢ k.KwRecord → c ≢ k.KwPointer → c ≢ k.KwProcedure → c ≢ k.KwObject → m.after_type d c ≡ None
none_type d k.Ident a b f g h i = absurd (a refl)
none_type d k.KwArray a b f g h i = absurd (b refl)
none_type d k.KwRecord a b f g h i = absurd (f refl)
none_type d k.KwPointer a b f g h i = absurd (g refl)
none_type d k.KwProcedure a b f g h i = absurd (h refl)
none_type d k.KwObject a b f g h i = absurd (i refl)
none_type d _ a b f g h i = refl

below_onward : (move : x.Move) (xs : x.Stack) (j : Stack) (d : ℕ) → or_else (below m.of_expr (x.onward move xs)) j (refuses d) ≡ or_else (below m.of_expr move) (m.lifted m.of_expr xs ++ j) (refuses d)
below_onward None xs j d = refl
below_onward (Some p) xs j d = ap (λ q. shifts p.0 q) (lifted_append p.1 xs j)
  where
    lifted_append : (xs ys : x.Stack) (j : Stack) → m.lifted m.of_expr (xs ++ ys) ++ j ≡ m.lifted m.of_expr xs ++ (m.lifted m.of_expr ys ++ j)
    lifted_append [] ys j = refl
    lifted_append (z ∷ xs) ys j = ap (λ q. m.of_expr z ∷ q) (lifted_append xs ys j)

exprs_at : (d : ℕ) (c : TokenKind) (j : Stack) → step m.table (m.of_expr (x.exprs d) ∷ j) c ≡ step m.table (m.of_expr (x.expr d) ∷ (m.of_expr (x.more_exprs d) ∷ j)) c
exprs_at d c j = below_onward (x.after_expr d c) (x.more_exprs d ∷ []) j (d + 1)

pub to_exprs : (ts : List Token) → IsEnded ts → (d : ℕ) (j : Stack) → run m.table shallow ts (m.of_expr (x.exprs d) ∷ j) ≡ run m.table shallow ts (m.of_expr (x.expr d) ∷ (m.of_expr (x.more_exprs d) ∷ j))
to_exprs ts ended d = by.expands m.table shallow ts ended (m.of_expr (x.exprs d)) (m.of_expr (x.expr d)) (m.of_expr (x.more_exprs d) ∷ []) (exprs_at d)

pub to_section : (ts : List Token) → IsEnded ts → (d : ℕ) (j : Stack) → run m.table shallow ts (m.section d ∷ j) ≡ run m.table shallow ts (m.option d k.KwVar ∷ (m.tok d k.Ident ∷ m.section_rest d j))
to_section ts ended d = by.expands m.table shallow ts ended (m.section d) (m.option d k.KwVar) (m.tok d k.Ident ∷ m.section_rest d []) (section_at d)

pub no_more_exprs : (d : ℕ) (c : TokenKind) → c ≢ k.Comma → m.after (m.of_expr (x.more_exprs d)) c ≡ None
no_more_exprs d c isnt = ap (below m.of_expr) (low.no_more_exprs d c isnt)

pub no_lengths : (d : ℕ) (c : TokenKind) → x.starts_expr c ≡ false → m.after (m.lengths d) c ≡ None
no_lengths d c h = ap (λ mv. below m.of_expr (x.onward mv (x.more_exprs d ∷ []))) (low.no_expr d c h)

exprs_starts : (d : ℕ) (c : TokenKind) → x.starts_expr c ≡ true → (p : ℕ × x.Stack) × (x.after_exprs d c ≡ Some p)
exprs_starts d k.Plus h = (_, refl)
exprs_starts d k.Minus h = (_, refl)
exprs_starts d k.Ident h = (_, refl)
exprs_starts d k.Number h = (_, refl)
exprs_starts d k.Char h = (_, refl)
exprs_starts d k.Text h = (_, refl)
exprs_starts d k.KwNil h = (_, refl)
exprs_starts d k.OpenBrace h = (_, refl)
exprs_starts d k.OpenParen h = (_, refl)
exprs_starts d k.Tilde h = (_, refl)
exprs_starts d _ h = absurd (cc)

pub lengths_at : (d : ℕ) (c : TokenKind) → x.starts_expr c ≡ true → (j : Stack) → step m.table (m.lengths d ∷ j) c ≡ step m.table (m.of_expr (x.exprs d) ∷ j) c
lengths_at d c h j =
    let p = exprs_starts d c h in
    ap (λ mv. or_else (below m.of_expr mv) j (step m.table j c)) p.1 ∙ sym (ap (λ mv. or_else (below m.of_expr mv) j (refuses (d + 1))) p.1)

text_at : (c : TokenKind) (j : Stack) → step m.table (m.text 0 ∷ j) c ≡ step m.table (m.tok 0 k.KwModule ∷ m.text_rest 0 j) c
text_at c j = by_test (nat_eq (code k.KwModule) (code c))
  where
    by_test : (b : Bool) → or_else (if b then Some (0, m.text_rest 0 []) else None) j (refuses 0) ≡ or_else (if b then Some (0, []) else None) (m.text_rest 0 j) (refuses 0)
    by_test true = refl
    by_test false = refl

pub to_text : (ts : List Token) → IsEnded ts → (j : Stack) → run m.table shallow ts (m.text 0 ∷ j) ≡ run m.table shallow ts (m.tok 0 k.KwModule ∷ m.text_rest 0 j)
to_text ts ended = by.expands m.table shallow ts ended (m.text 0) (m.tok 0 k.KwModule) (m.text_rest 0 []) text_at

-- what another call answers, handed on
pub hands_on : {A : Type 0} (left : A → List Token) (r : Result A ParseErr) (xs ys : Stack) (ts us : List Token) → Moves m.table left xs us r →
    ((k : Stack) → run m.table shallow ts (ys ++ k) ≡ run m.table shallow us (xs ++ k)) → Moves m.table left ys ts r
hands_on left (Ok a) xs ys ts us h go = λ k. go k ∙ h k
hands_on left (Err err) xs ys ts us h go = by.pass_on [] h go

-- what the crates below refuse
pub expr_refused : {A : Type 0} (d : ℕ) (ts : List Token) (r : Result A ParseErr) (err : ParseErr) → r ≡ Err err → ((p : Pos) → r ≡ Err (e.Expected p) → ExpectsAt (expr_at d) ts p) →
    ((p : Pos) → r ≡ Err (e.Deep p) → TooDeepAt (expr_at d) ts p) → Refuses m.table (m.of_expr (x.expr d) ∷ []) ts err
expr_refused d ts r e.NoMemory is expected deep = by.no_memory
expr_refused d ts r (e.Expected p) is expected deep = above.expr_expected m.table m.of_expr with_exprs d ts p (expected p is)
expr_refused d ts r (e.Deep p) is expected deep = above.expr_deep m.table m.of_expr with_exprs d ts p (deep p is)

pub block_refused : {A : Type 0} (d : ℕ) (ts : List Token) (r : Result A ParseErr) (err : ParseErr) → r ≡ Err err → ((p : Pos) → r ≡ Err (e.Expected p) → ExpectsAt (block_at d) ts p) →
    ((p : Pos) → r ≡ Err (e.Deep p) → TooDeepAt (block_at d) ts p) → Refuses m.table (m.of_stat (s.block d) ∷ []) ts err
block_refused d ts r e.NoMemory is expected deep = by.no_memory
block_refused d ts r (e.Expected p) is expected deep = blocks.block_expected m.table m.of_stat with_stats d ts p (expected p is)
block_refused d ts r (e.Deep p) is expected deep = blocks.block_deep m.table m.of_stat with_stats d ts p (deep p is)

pub some_token : (ts : List Token) → IsEnded ts → 0 < length ts
some_token [] ended = absurd ended
some_token (t ∷ ts) ended = omega arith

-- after the end comes nothing
pub ended_end : (ts : List Token) (t : Token) (rest : List Token) → IsEnded ts → ts ≡ t ∷ rest → t.kind ≡ k.End → rest ≡ []
ended_end [] t rest ended at is = absurd ended
ended_end (u ∷ []) t rest ended at is = let a : [] ≡ rest = cc in sym a
ended_end (u ∷ v ∷ us) t rest ended at is = let a : u ≡ t = cc in absurd (ended.0 (ap (λ q. q.kind) a ∙ is))
