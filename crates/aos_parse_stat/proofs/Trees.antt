-- Trees of statements from those of their parts.
use Rattle.std.proofs.Common.{◌≡◌, ℕ, ◌+◌, ◌≤◌, List, [], ◌∷◌, Option, Some, None, subst, sym}
use Rattle.std.specs.Prelude.{IfOk, Result, Ok, Err}
use Rattle.aos_base.specs.declared.text.Pos.{Pos}
use Rattle.aos_scan.specs.declared.token.Token.{Token}
use Rattle.aos_scan.specs.declared.token.TokenKind.{TokenKind}
use Rattle.aos_scan.specs.declared.token.TokenKind.TheVariants as k
use Rattle.aos_tree.specs.declared.expr.Desig.{Desig}
use Rattle.aos_tree.specs.declared.expr.Expr.{Expr}
use Rattle.aos_tree.specs.declared.stat.Stat.{Stat}
use Rattle.aos_tree.specs.declared.stat.Stat.TheVariants as s
use Rattle.aos_tree.specs.declared.stat.StatSeq.{StatSeq}
use Rattle.aos_tree.specs.declared.stat.Case.{Case}
use Rattle.aos_tree.specs.declared.stat.Block.{roll-Block}
use Rattle.aos_tree.specs.declared.stat.Modifier.{Modifier}
use Rattle.aos_tree.specs.Nesting.{Rule, shallow}
use Rattle.aos_tree.specs.ExprGrammar.{IsDesig, IsExpr}
use Rattle.aos_tree.specs.StatGrammar as g
use Rattle.aos_tree.specs.StatGrammar.{IsOption, IsStat, IsStatSeq, IsElse, IsBlock, IsModifiers}
use Rattle.aos_tree.specs.Words as words
use Rattle.aos_tree.specs.Words.{IsWord}
use Rattle.aos_parse_expr.specs.declared.error.ParseErr.{ParseErr}
use Rattle.aos_parse_expr.proofs.Steps.{fits_shallow}
use Rattle.aos_parse_stat.specs.Grammar as v
use Rattle.aos_parse_stat.specs.Grammar.{IsCases, IsMarking}

-- a word that is the first token
pub word_at : (d : ℕ) {c : TokenKind} {t : Token} {ts us : List Token} → ts ≡ t ∷ us → t.kind ≡ c → d ≤ 200 → IsWord shallow d c t.pos ts us
word_at d {c} {t} {us = us} whole is le = subst (λ z. IsWord shallow d c t.pos z us) (sym whole) (words.word is (fits_shallow d le))

-- a word, by its token
pub word_here : {may : Rule} {d : ℕ} {c : TokenKind} {p : Pos} {t : Token} {us ts rest : List Token} → ts ≡ t ∷ us → IsWord may d c p ts rest → IsWord may d c t.pos ts rest
word_here {may} {d} {c} {t = t} {rest = rest} whole (words.word {t = u} is fits) =
    subst (λ z. IsWord may d c z.pos (u ∷ rest) rest) (let a : u ≡ t = cc in a) (words.word is fits)

-- an assignment, and a call
pub assign_by : {may : Rule} {d : ℕ} {a : Desig} {value : Option Expr} {v : Expr} {t : Token} {us ts mid rest : List Token} → IsDesig may (d + 1) a ts mid → mid ≡ t ∷ us →
    IsOption may (d + 1) k.Becomes value mid rest → value ≡ Some v → IsStat may d (s.Assign a t.pos v) ts rest
assign_by a whole g.no_option is = absurd (cc)
assign_by {may} {d} {a = b} {v = v} {t = t} {ts = ts} {rest = rest} a whole (g.option {a = x} w y) is =
    subst (λ z. IsStat may d (s.Assign b t.pos z) ts rest) (let e : x ≡ v = cc in e) (g.assign a (word_here whole w) y)

pub call_by : {may : Rule} {d : ℕ} {a : Desig} {value : Option Expr} {ts mid rest : List Token} → IsDesig may (d + 1) a ts mid →
    IsOption may (d + 1) k.Becomes value mid rest → value ≡ None → IsStat may d (s.Call a) ts rest
call_by a g.no_option is = g.call a
call_by a (g.option w y) is = absurd (cc)

-- a statement, after the word that begins it
pub stat_after : {A : Type 0} (stat : A → Stat) (left : A → List Token) (r : Result A ParseErr) (d : ℕ) {c : TokenKind} {p : Pos} {ts us : List Token} → IsWord shallow (d + 1) c p ts us →
    IfOk r (λ a. (before : List Token) → IsWord shallow (d + 1) c p before us → IsStat shallow d (stat a) before (left a)) → IfOk r (λ a. IsStat shallow d (stat a) ts (left a))
stat_after stat left (Ok a) d {ts = ts} w h = h ts w
stat_after stat left (Err err) d w h = tt

-- an expression, after a word
pub word_then : {A : Type 0} (tree : A → Expr) (left : A → List Token) (r : Result A ParseErr) {d : ℕ} {c : TokenKind} {p : Pos} {ts us : List Token} → IsWord shallow d c p ts us →
    IfOk r (λ a. IsExpr shallow d (tree a) us (left a)) → IfOk r (λ a. (q : Pos) × (mid : List Token) × IsWord shallow d c q ts mid × IsExpr shallow d (tree a) mid (left a))
word_then tree left (Ok a) w h = (_, _, w, h)
word_then tree left (Err err) w h = tt

-- modifiers, after `{`
pub marked_by : {A : Type 0} (all : A → List Modifier) (left : A → List Token) (r : Result A ParseErr) {d : ℕ} {p : Pos} {ts us : List Token} → IsWord shallow d k.OpenBrace p ts us →
    IfOk r (λ a. IsModifiers shallow d (all a) us (left a)) → IfOk r (λ a. IsMarking shallow d (all a) ts (left a))
marked_by all left (Ok a) w h = v.marked w h
marked_by all left (Err err) w h = tt

-- a case statement and a block
pub case_by : {may : Rule} {d : ℕ} {p q r : Pos} {a : Expr} {arms : List Case} {other : Option StatSeq} {ts t1 t2 t3 t4 t5 rest : List Token} →
    IsWord may (d + 1) k.KwCase p ts t1 → IsExpr may (d + 1) a t1 t2 → IsWord may (d + 1) k.KwOf q t2 t3 → IsCases may (d + 1) arms t3 t4 → IsElse may (d + 1) other t4 t5 → IsWord may (d + 1) k.KwEnd r t5 rest →
    IsStat may d (s.Case p a arms other) ts rest
case_by w a of' (v.cases first more) other end = g.case w a of' first more other end

pub block_by : {may : Rule} {d : ℕ} {p q : Pos} {all : List Modifier} {body : StatSeq} {t : Token} {us ts t1 t2 t3 rest : List Token} → ts ≡ t ∷ us →
    IsWord may d k.KwBegin p ts t1 → IsMarking may d all t1 t2 → IsStatSeq may d body t2 t3 → IsWord may d k.KwEnd q t3 rest →
    IsBlock may d (roll-Block (record { pos = t.pos; modifiers = all; body = body })) ts rest
block_by {may = may} {d} {all = all} {body} {t = t} {ts = ts} {rest = rest} whole (words.word {t = u} is fits) v.unmarked b end =
    subst (λ z. IsBlock may d (roll-Block (record { pos = z.pos; modifiers = []; body = body })) ts rest) (let a : u ≡ t = cc in a) (g.unmodified (words.word is fits) b end)
block_by {may = may} {d} {all = all} {body} {t = t} {ts = ts} {rest = rest} whole (words.word {t = u} is fits) (v.marked start mods) b end =
    subst (λ z. IsBlock may d (roll-Block (record { pos = z.pos; modifiers = all; body = body })) ts rest) (let a : u ≡ t = cc in a) (g.modified (words.word is fits) start mods b end)
