-- What the machine reads of a statement, the grammar reads; what can come in each symbol's place; and how nestings fall.
use Rattle.std.proofs.Common.{◌≡◌, ℕ, ◌+◌, ◌≤◌, ◌++◌, List, [], ◌∷◌, length, Bool, true, false, Option, Some, None, refl, sym, ap, subst, arith}
use Rattle.std.specs.Prelude.{⊤, IfSome, unwrap_or, if◌then◌else◌}
use Rattle.aos_base.specs.declared.text.Pos.{Pos}
use Rattle.aos_scan.specs.declared.token.Token.{Token}
use Rattle.aos_scan.specs.declared.token.TokenKind.{TokenKind}
use Rattle.aos_scan.specs.declared.token.TokenKind.TheVariants as k
use Rattle.aos_tree.specs.declared.name.Name.{Name}
use Rattle.aos_tree.specs.declared.name.Qualident.{Qualident}
use Rattle.aos_tree.specs.declared.expr.Expr.{Expr}
use Rattle.aos_tree.specs.declared.stat.Stat.{Stat}
use Rattle.aos_tree.specs.declared.stat.StatSeq.{StatSeq}
use Rattle.aos_tree.specs.declared.stat.Elsif.{Elsif}
use Rattle.aos_tree.specs.declared.stat.Case.{Case}
use Rattle.aos_tree.specs.declared.stat.Label.{Label}
use Rattle.aos_tree.specs.declared.stat.Block.{Block}
use Rattle.aos_tree.specs.declared.stat.Modifier.{Modifier}
use Rattle.aos_tree.specs.Nesting.{Rule}
use Rattle.aos_tree.specs.ExprGrammar as x
use Rattle.aos_tree.specs.ExprGrammar.{IsExpr}
use Rattle.aos_tree.specs.StatGrammar as g
use Rattle.aos_tree.specs.StatGrammar.{IsOption, IsMoreLabels, IsMoreModifiers, IsMoreStats, IsStat, IsElsifs, IsElse, IsCase, IsMoreCases, IsBlock}
use Rattle.aos_tree.specs.Words as words
use Rattle.aos_tree.specs.Words.{IsWord, IsName}
use Rattle.aos_parse_expr.specs.Symbols as e
use Rattle.aos_parse_expr.proofs.ExprYields as expr
use Rattle.aos_parse_expr.proofs.Falling as falling
use Rattle.aos_parse_expr.proofs.Words.{same_code}
use Rattle.aos_parse_expr.proofs.Yields as y
use Rattle.aos_parse_expr.proofs.Yields.{split, next, done}
use Rattle.aos_parse_stat.specs.Grammar as v
use Rattle.aos_parse_stat.specs.Grammar.{IsMarking}
use Rattle.aos_parse_stat.specs.Symbols as m
use Rattle.aos_parse_stat.specs.Symbols.{Sym, Stack, Move, onward, by_part}
use Rattle.aos_parse_stat.proofs.Embedding.{sound_up, sample_up, falls_up}
use Rattle.aos_parse_stat.proofs.StatProductions.{exprs_in, lifted}

pub data Yields (may : Rule) : Sym → List Token → List Token → Type 0 where
  a_part : {z : e.Sym} {ts rest : List Token} → expr.Yields may z ts rest → Yields may (m.part z) ts rest
  a_word_expr : {d : ℕ} {c : TokenKind} {p : Pos} {a : Expr} {ts mid rest : List Token} → IsWord may d c p ts mid → IsExpr may d a mid rest → Yields may (m.word_expr d c) ts rest
  an_option : {d : ℕ} {c : TokenKind} {a : Option Expr} {ts rest : List Token} → IsOption may d c a ts rest → Yields may (m.option d c) ts rest
  none_returned : {d : ℕ} {ts : List Token} → Yields may (m.returned d) ts ts
  an_expr_returned : {d : ℕ} {a : Expr} {ts rest : List Token} → IsExpr may d a ts rest → Yields may (m.returned d) ts rest
  no_second : {d : ℕ} {ts : List Token} → Yields may (m.second d) ts ts
  a_second : {d : ℕ} {p : Pos} {a : Name} {ts mid rest : List Token} → IsWord may d k.Period p ts mid → IsName may d a mid rest → Yields may (m.second d) ts rest
  some_more_labels : {d : ℕ} {a : List Label} {ts rest : List Token} → IsMoreLabels may d a ts rest → Yields may (m.more_labels d) ts rest
  no_argument : {d : ℕ} {ts : List Token} → Yields may (m.argument d) ts ts
  an_argument : {d : ℕ} {p q : Pos} {a : Expr} {ts mid to rest : List Token} → IsWord may d k.OpenParen p ts mid → IsExpr may d a mid to → IsWord may d k.CloseParen q to rest → Yields may (m.argument d) ts rest
  some_more_modifiers : {d : ℕ} {a : List Modifier} {ts rest : List Token} → IsMoreModifiers may d a ts rest → Yields may (m.more_modifiers d) ts rest
  a_marking : {d : ℕ} {a : List Modifier} {ts rest : List Token} → IsMarking may d a ts rest → Yields may (m.marking d) ts rest
  a_stat : {d : ℕ} {a : Stat} {ts rest : List Token} → IsStat may d a ts rest → Yields may (m.stat d) ts rest
  some_more_stats : {d : ℕ} {a : List Stat} {ts rest : List Token} → IsMoreStats may d a ts rest → Yields may (m.more_stats d) ts rest
  some_elsifs : {d : ℕ} {a : List Elsif} {ts rest : List Token} → IsElsifs may d a ts rest → Yields may (m.elsifs d) ts rest
  an_else : {d : ℕ} {a : Option StatSeq} {ts rest : List Token} → IsElse may d a ts rest → Yields may (m.otherwise d) ts rest
  a_case : {d : ℕ} {a : Case} {ts rest : List Token} → IsCase may d a ts rest → Yields may (m.case d) ts rest
  some_more_cases : {d : ℕ} {a : List Case} {ts rest : List Token} → IsMoreCases may d a ts rest → Yields may (m.more_cases d) ts rest
  a_block : {d : ℕ} {a : Block} {ts rest : List Token} → IsBlock may d a ts rest → Yields may (m.block d) ts rest

up : (may : Rule) (z : e.Sym) (ts rest : List Token) → expr.Yields may z ts rest → Yields may (m.part z) ts rest
up may z ts rest h = a_part h

down : (may : Rule) (z : e.Sym) (ts rest : List Token) → Yields may (m.part z) ts rest → expr.Yields may z ts rest
down may z ts rest (a_part h) = h

module _ (may : Rule) where
  abbrev All : Stack → List Token → List Token → Type 0
  All xs ts rest = y.All (Yields may) xs ts rest

  -- a move from a symbol is by its production
  abbrev Sound : Sym → Token → List Token → List Token → Move → Type 0
  Sound z t ts rest move = IfSome move (λ p. may p.0 ts ≡ true → y.All (Yields may) p.1 ts rest → Yields may z (t ∷ ts) rest)

  -- a word and a name, from what the machine read
  word_of : {d : ℕ} {c : TokenKind} {ts rest : List Token} → Yields may (m.tok d c) ts rest → (p : Pos) × IsWord may d c p ts rest
  word_of (a_part (expr.a_tok is fits)) = (_, words.word is fits)

  name_of : {d : ℕ} {ts rest : List Token} → Yields may (m.tok d k.Ident) ts rest → (a : Name) × IsName may d a ts rest
  name_of (a_part (expr.a_tok is fits)) = (_, words.ident is fits)

  word_expr_on : {d : ℕ} {c : TokenKind} {t : Token} {ts rest : List Token} → t.kind ≡ c → may d ts ≡ true → All (m.expr d ∷ []) ts rest → Yields may (m.word_expr d c) (t ∷ ts) rest
  word_expr_on is fits (next (a_part (expr.an_expr a)) done) = a_word_expr (words.word is fits) a

  option_from : {d : ℕ} {c : TokenKind} {ts rest : List Token} → Yields may (m.word_expr d c) ts rest → Yields may (m.option d c) ts rest
  option_from (a_word_expr is a) = an_option (g.option is a)

  sound_word_expr : (d : ℕ) (want : TokenKind) (t : Token) (ts rest : List Token) (move : e.Move) → ((p : ℕ × e.Stack) → move ≡ Some p → (t.kind ≡ want) × (p ≡ (d, []))) → (z : Sym) → (Yields may (m.word_expr d want) (t ∷ ts) rest → Yields may z (t ∷ ts) rest) →
      Sound z t ts rest (onward (by_part move) (m.expr d ∷ []))
  sound_word_expr d want t ts rest None known z from = tt
  sound_word_expr d want t ts rest (Some p) known z from =
      let a = known p refl in
      subst (λ q. may q.0 ts ≡ true → y.All (Yields may) (m.parts q.1 ++ m.expr d ∷ []) ts rest → Yields may z (t ∷ ts) rest) (sym a.1) (λ fits all. from (word_expr_on a.0 fits all))

  returned_by : (d : ℕ) (t : Token) (ts rest : List Token) (p : ℕ × Stack) → m.after (m.expr d) t.kind ≡ Some p → may p.0 ts ≡ true → All p.1 ts rest → Yields may (m.returned d) (t ∷ ts) rest
  returned_by d t ts rest p is fits all = from (sound_up e.table m.table m.part exprs_in expr.Yields Yields up down expr.sound may (e.expr d) t ts rest p is fits all)
    where
      from : {d : ℕ} {ts rest : List Token} → Yields may (m.expr d) ts rest → Yields may (m.returned d) ts rest
      from (a_part (expr.an_expr a)) = an_expr_returned a

  case_from : {d : ℕ} {ts mid rest : List Token} → Yields may (m.expr d) ts mid → All (m.option d k.Range ∷ m.more_labels d ∷ m.tok d k.Colon ∷ m.stats d) mid rest → Yields may (m.case d) ts rest
  case_from (a_part (expr.an_expr a)) (next (an_option last) (next (some_more_labels more) (next colon (next (a_stat s) (next (some_more_stats ss) done))))) =
      a_case (g.arm (g.labels (g.label a last) more) (word_of colon).1 (g.stats s ss))

  case_by : (d : ℕ) (t : Token) (ts rest : List Token) (move : Move) → m.after (m.expr d) t.kind ≡ move → Sound (m.case d) t ts rest (onward move (m.option d k.Range ∷ m.more_labels d ∷ m.tok d k.Colon ∷ m.stats d))
  case_by d t ts rest None is = tt
  case_by d t ts rest (Some p) is = λ fits all.
      let s = split p.1 all in
      case_from (sound_up e.table m.table m.part exprs_in expr.Yields Yields up down expr.sound may (e.expr d) t ts s.0 p is fits s.1) s.2

  second_on : {d : ℕ} {t : Token} {ts rest : List Token} → t.kind ≡ k.Period → may d ts ≡ true → All (m.tok d k.Ident ∷ []) ts rest → Yields may (m.second d) (t ∷ ts) rest
  second_on is fits (next a done) = a_second (words.word is fits) (name_of a).1

  more_labels_on : {d : ℕ} {t : Token} {ts rest : List Token} → t.kind ≡ k.Comma → may d ts ≡ true → All (m.labels d) ts rest → Yields may (m.more_labels d) (t ∷ ts) rest
  more_labels_on is fits (next (a_part (expr.an_expr a)) (next (an_option last) (next (some_more_labels more) done))) = some_more_labels (g.another_label (words.word is fits) (g.label a last) more)

  argument_on : {d : ℕ} {t : Token} {ts rest : List Token} → t.kind ≡ k.OpenParen → may d ts ≡ true → All (m.expr d ∷ m.tok d k.CloseParen ∷ []) ts rest → Yields may (m.argument d) (t ∷ ts) rest
  argument_on is fits (next (a_part (expr.an_expr a)) (next end done)) = an_argument (words.word is fits) a (word_of end).1

  modifier_from : {d : ℕ} {a : Name} {ts mid rest : List Token} → IsName may d a ts mid → Yields may (m.argument d) mid rest → (b : Modifier) × g.IsModifier may d b ts rest
  modifier_from a no_argument = (_, g.flag a)
  modifier_from a (an_argument start b end) = (_, g.valued a start b end)

  more_modifiers_on : {d : ℕ} {t : Token} {ts rest : List Token} → t.kind ≡ k.Comma → may d ts ≡ true → All (m.modifiers d) ts rest → Yields may (m.more_modifiers d) (t ∷ ts) rest
  more_modifiers_on is fits (next a (next b (next (some_more_modifiers more) done))) = some_more_modifiers (g.another_modifier (words.word is fits) (modifier_from (name_of a).1 b).1 more)

  no_more_modifiers_on : {d : ℕ} {t : Token} {ts rest : List Token} → t.kind ≡ k.CloseBrace → may d ts ≡ true → All [] ts rest → Yields may (m.more_modifiers d) (t ∷ ts) rest
  no_more_modifiers_on is fits done = some_more_modifiers (g.no_more_modifiers (words.word is fits))

  marking_on : {d : ℕ} {t : Token} {ts rest : List Token} → t.kind ≡ k.OpenBrace → may d ts ≡ true → All (m.modifiers d) ts rest → Yields may (m.marking d) (t ∷ ts) rest
  marking_on is fits (next a (next b (next (some_more_modifiers more) done))) = a_marking (v.marked (words.word is fits) (g.modifiers (modifier_from (name_of a).1 b).1 more))

  qualident_from : {d : ℕ} {a : Name} {ts mid rest : List Token} → IsName may d a ts mid → Yields may (m.second d) mid rest → (b : Qualident) × words.IsQualident may d b ts rest
  qualident_from a no_second = (_, words.plain a)
  qualident_from a (a_second dot b) = (_, words.qualified a dot b)

  block_from : {d : ℕ} {t : Token} {a : List Modifier} {b : StatSeq} {q : Pos} {ts mid to rest : List Token} → t.kind ≡ k.KwBegin → may d ts ≡ true → IsMarking may d a ts mid → g.IsStatSeq may d b mid to → IsWord may d k.KwEnd q to rest → (c : Block) × IsBlock may d c (t ∷ ts) rest
  block_from is fits v.unmarked body end = (_, g.unmodified (words.word is fits) body end)
  block_from is fits (v.marked start all) body end = (_, g.modified (words.word is fits) start all body end)

  block_on : {d : ℕ} {t : Token} {ts rest : List Token} → t.kind ≡ k.KwBegin → may d ts ≡ true → All (m.block_rest d) ts rest → Yields may (m.block d) (t ∷ ts) rest
  block_on is fits (next (a_marking a) (next (a_stat s) (next (some_more_stats ss) (next end done)))) = a_block (block_from is fits a (g.stats s ss) (word_of end).1).1

  -- statements, each by the word that begins it
  stat_desig : {d : ℕ} {t : Token} {ts rest : List Token} → t.kind ≡ k.Ident → may (d + 1) ts ≡ true → All (m.part (e.selectors (d + 1)) ∷ m.option (d + 1) k.Becomes ∷ []) ts rest → Yields may (m.stat d) (t ∷ ts) rest
  stat_desig is fits (next (a_part (expr.some_selectors a)) (next (an_option (g.option set b)) done)) = a_stat (g.assign (x.named is fits a) set b)
  stat_desig is fits (next (a_part (expr.some_selectors a)) (next (an_option g.no_option) done)) = a_stat (g.call (x.named is fits a))

  stat_block : {d : ℕ} {t : Token} {ts rest : List Token} → t.kind ≡ k.KwBegin → may (d + 1) ts ≡ true → All (m.block_rest (d + 1)) ts rest → Yields may (m.stat d) (t ∷ ts) rest
  stat_block is fits (next (a_marking a) (next (a_stat s) (next (some_more_stats ss) (next end done)))) = a_stat (g.block (block_from is fits a (g.stats s ss) (word_of end).1).1)

  stat_exit : {d : ℕ} {t : Token} {ts rest : List Token} → t.kind ≡ k.KwExit → may (d + 1) ts ≡ true → All [] ts rest → Yields may (m.stat d) (t ∷ ts) rest
  stat_exit is fits done = a_stat (g.exit (words.word is fits))

  stat_return : {d : ℕ} {t : Token} {ts rest : List Token} → t.kind ≡ k.KwReturn → may (d + 1) ts ≡ true → All (m.returned (d + 1) ∷ []) ts rest → Yields may (m.stat d) (t ∷ ts) rest
  stat_return is fits (next none_returned done) = a_stat (g.return (words.word is fits))
  stat_return is fits (next (an_expr_returned a) done) = a_stat (g.return_of (words.word is fits) a)

  stat_await : {d : ℕ} {t : Token} {ts rest : List Token} → t.kind ≡ k.KwAwait → may (d + 1) ts ≡ true → All (m.await_rest (d + 1)) ts rest → Yields may (m.stat d) (t ∷ ts) rest
  stat_await is fits (next (a_word_expr start a) (next end done)) = a_stat (g.await (words.word is fits) start a (word_of end).1)

  stat_if : {d : ℕ} {t : Token} {ts rest : List Token} → t.kind ≡ k.KwIf → may (d + 1) ts ≡ true → All (m.if_rest (d + 1)) ts rest → Yields may (m.stat d) (t ∷ ts) rest
  stat_if is fits (next (a_part (expr.an_expr a)) (next thn (next (a_stat s) (next (some_more_stats ss) (next (some_elsifs es) (next (an_else o) (next end done))))))) =
      a_stat (g.if_then (words.word is fits) a (word_of thn).1 (g.stats s ss) es o (word_of end).1)

  stat_case : {d : ℕ} {t : Token} {ts rest : List Token} → t.kind ≡ k.KwCase → may (d + 1) ts ≡ true → All (m.case_rest (d + 1)) ts rest → Yields may (m.stat d) (t ∷ ts) rest
  stat_case is fits (next (a_part (expr.an_expr a)) (next of' (next (a_case b) (next (some_more_cases bs) (next (an_else o) (next end done)))))) =
      a_stat (g.case (words.word is fits) a (word_of of').1 b bs o (word_of end).1)

  stat_while : {d : ℕ} {t : Token} {ts rest : List Token} → t.kind ≡ k.KwWhile → may (d + 1) ts ≡ true → All (m.while_rest (d + 1)) ts rest → Yields may (m.stat d) (t ∷ ts) rest
  stat_while is fits (next (a_part (expr.an_expr a)) (next do' (next (a_stat s) (next (some_more_stats ss) (next end done))))) =
      a_stat (g.while (words.word is fits) a (word_of do').1 (g.stats s ss) (word_of end).1)

  stat_repeat : {d : ℕ} {t : Token} {ts rest : List Token} → t.kind ≡ k.KwRepeat → may (d + 1) ts ≡ true → All (m.repeat_rest (d + 1)) ts rest → Yields may (m.stat d) (t ∷ ts) rest
  stat_repeat is fits (next (a_stat s) (next (some_more_stats ss) (next (a_word_expr till a) done))) = a_stat (g.repeat (words.word is fits) (g.stats s ss) till a)

  stat_loop : {d : ℕ} {t : Token} {ts rest : List Token} → t.kind ≡ k.KwLoop → may (d + 1) ts ≡ true → All (m.body_rest (d + 1)) ts rest → Yields may (m.stat d) (t ∷ ts) rest
  stat_loop is fits (next (a_stat s) (next (some_more_stats ss) (next end done))) = a_stat (g.loop (words.word is fits) (g.stats s ss) (word_of end).1)

  stat_for : {d : ℕ} {t : Token} {ts rest : List Token} → t.kind ≡ k.KwFor → may (d + 1) ts ≡ true → All (m.for_rest (d + 1)) ts rest → Yields may (m.stat d) (t ∷ ts) rest
  stat_for is fits (next name (next (a_word_expr set a) (next (a_word_expr to b) (next (an_option c) (next do' (next (a_stat s) (next (some_more_stats ss) (next end done)))))))) =
      a_stat (g.for (words.word is fits) (name_of name).1 set a to b c (word_of do').1 (g.stats s ss) (word_of end).1)

  stat_with : {d : ℕ} {t : Token} {ts rest : List Token} → t.kind ≡ k.KwWith → may (d + 1) ts ≡ true → All (m.with_rest (d + 1)) ts rest → Yields may (m.stat d) (t ∷ ts) rest
  stat_with is fits (next a (next b (next colon (next c (next f (next do' (next (a_stat s) (next (some_more_stats ss) (next end done))))))))) =
      a_stat (g.with (words.word is fits) (qualident_from (name_of a).1 b).1 (word_of colon).1 (qualident_from (name_of c).1 f).1 (word_of do').1 (g.stats s ss) (word_of end).1)

  sound_stat : (d : ℕ) (t : Token) (ts rest : List Token) (c : TokenKind) → t.kind ≡ c → Sound (m.stat d) t ts rest (m.after_stat d c)
  sound_stat d t ts rest k.Ident is = stat_desig is
  sound_stat d t ts rest k.KwBegin is = stat_block is
  sound_stat d t ts rest k.KwExit is = stat_exit is
  sound_stat d t ts rest k.KwReturn is = stat_return is
  sound_stat d t ts rest k.KwAwait is = stat_await is
  sound_stat d t ts rest k.KwIf is = stat_if is
  sound_stat d t ts rest k.KwCase is = stat_case is
  sound_stat d t ts rest k.KwWhile is = stat_while is
  sound_stat d t ts rest k.KwRepeat is = stat_repeat is
  sound_stat d t ts rest k.KwLoop is = stat_loop is
  sound_stat d t ts rest k.KwFor is = stat_for is
  sound_stat d t ts rest k.KwWith is = stat_with is
  sound_stat d t ts rest _ is = tt

  more_stats_on : {d : ℕ} {t : Token} {ts rest : List Token} → t.kind ≡ k.Semicolon → may d ts ≡ true → All (m.stats d) ts rest → Yields may (m.more_stats d) (t ∷ ts) rest
  more_stats_on is fits (next (a_stat s) (next (some_more_stats ss) done)) = some_more_stats (g.another_stat (words.word is fits) s ss)

  elsifs_on : {d : ℕ} {t : Token} {ts rest : List Token} → t.kind ≡ k.KwElsif → may d ts ≡ true → All (m.branch d ++ m.elsifs d ∷ []) ts rest → Yields may (m.elsifs d) (t ∷ ts) rest
  elsifs_on is fits (next (a_part (expr.an_expr a)) (next thn (next (a_stat s) (next (some_more_stats ss) (next (some_elsifs es) done))))) =
      some_elsifs (g.elsif (words.word is fits) a (word_of thn).1 (g.stats s ss) es)

  else_on : {d : ℕ} {t : Token} {ts rest : List Token} → t.kind ≡ k.KwElse → may d ts ≡ true → All (m.stats d) ts rest → Yields may (m.otherwise d) (t ∷ ts) rest
  else_on is fits (next (a_stat s) (next (some_more_stats ss) done)) = an_else (g.else (words.word is fits) (g.stats s ss))

  more_cases_on : {d : ℕ} {t : Token} {ts rest : List Token} → t.kind ≡ k.Bar → may d ts ≡ true → All (m.cases d) ts rest → Yields may (m.more_cases d) (t ∷ ts) rest
  more_cases_on is fits (next (a_case a) (next (some_more_cases more) done)) = some_more_cases (g.another_case (words.word is fits) a more)

  sound_second : (d : ℕ) (t : Token) (ts rest : List Token) (c : TokenKind) → t.kind ≡ c → Sound (m.second d) t ts rest (m.after_second d c)
  sound_second d t ts rest k.Period is = second_on is
  sound_second d t ts rest _ is = tt

  sound_more_labels : (d : ℕ) (t : Token) (ts rest : List Token) (c : TokenKind) → t.kind ≡ c → Sound (m.more_labels d) t ts rest (m.after_more_labels d c)
  sound_more_labels d t ts rest k.Comma is = more_labels_on is
  sound_more_labels d t ts rest _ is = tt

  sound_argument : (d : ℕ) (t : Token) (ts rest : List Token) (c : TokenKind) → t.kind ≡ c → Sound (m.argument d) t ts rest (m.after_argument d c)
  sound_argument d t ts rest k.OpenParen is = argument_on is
  sound_argument d t ts rest _ is = tt

  sound_more_modifiers : (d : ℕ) (t : Token) (ts rest : List Token) (c : TokenKind) → t.kind ≡ c → Sound (m.more_modifiers d) t ts rest (m.after_more_modifiers d c)
  sound_more_modifiers d t ts rest k.Comma is = more_modifiers_on is
  sound_more_modifiers d t ts rest k.CloseBrace is = no_more_modifiers_on is
  sound_more_modifiers d t ts rest _ is = tt

  sound_marking : (d : ℕ) (t : Token) (ts rest : List Token) (c : TokenKind) → t.kind ≡ c → Sound (m.marking d) t ts rest (m.after_marking d c)
  sound_marking d t ts rest k.OpenBrace is = marking_on is
  sound_marking d t ts rest _ is = tt

  sound_more_stats : (d : ℕ) (t : Token) (ts rest : List Token) (c : TokenKind) → t.kind ≡ c → Sound (m.more_stats d) t ts rest (m.after_more_stats d c)
  sound_more_stats d t ts rest k.Semicolon is = more_stats_on is
  sound_more_stats d t ts rest _ is = tt

  sound_elsifs : (d : ℕ) (t : Token) (ts rest : List Token) (c : TokenKind) → t.kind ≡ c → Sound (m.elsifs d) t ts rest (m.after_elsifs d c)
  sound_elsifs d t ts rest k.KwElsif is = elsifs_on is
  sound_elsifs d t ts rest _ is = tt

  sound_else : (d : ℕ) (t : Token) (ts rest : List Token) (c : TokenKind) → t.kind ≡ c → Sound (m.otherwise d) t ts rest (m.after_otherwise d c)
  sound_else d t ts rest k.KwElse is = else_on is
  sound_else d t ts rest _ is = tt

  sound_more_cases : (d : ℕ) (t : Token) (ts rest : List Token) (c : TokenKind) → t.kind ≡ c → Sound (m.more_cases d) t ts rest (m.after_more_cases d c)
  sound_more_cases d t ts rest k.Bar is = more_cases_on is
  sound_more_cases d t ts rest _ is = tt

  sound_block : (d : ℕ) (t : Token) (ts rest : List Token) (c : TokenKind) → t.kind ≡ c → Sound (m.block d) t ts rest (m.after_block d c)
  sound_block d t ts rest k.KwBegin is = block_on is
  sound_block d t ts rest _ is = tt

  -- a move that is by its production, whatever it is
  by_move : (z : Sym) (t : Token) (ts rest : List Token) (move : Move) → ((p : ℕ × Stack) → move ≡ Some p → may p.0 ts ≡ true → All p.1 ts rest → Yields may z (t ∷ ts) rest) → Sound z t ts rest move
  by_move z t ts rest None known = tt
  by_move z t ts rest (Some p) known = known p refl

  tok_move : (d : ℕ) (want c : TokenKind) (same : Bool) → (same ≡ true → c ≡ want) → (p : ℕ × e.Stack) → (if same then Some (d, []) else None) ≡ Some p → (c ≡ want) × (p ≡ (d, []))
  tok_move d want c true is p at = (is refl, cc)
  tok_move d want c false is p at = absurd (cc)

  sound_at : (z : Sym) (t : Token) (ts rest : List Token) → Sound z t ts rest (m.after z t.kind)
  sound_at (m.part z) t ts rest = by_move (m.part z) t ts rest _ (λ p is fits all. sound_up e.table m.table m.part exprs_in expr.Yields Yields up down expr.sound may z t ts rest p is fits all)
  sound_at (m.word_expr d want) t ts rest = sound_word_expr d want t ts rest (e.after_tok d want t.kind) (λ p is. tok_move d want t.kind _ (λ h. sym (same_code want t.kind h)) p is) (m.word_expr d want) (λ h. h)
  sound_at (m.option d want) t ts rest = sound_word_expr d want t ts rest (e.after_tok d want t.kind) (λ p is. tok_move d want t.kind _ (λ h. sym (same_code want t.kind h)) p is) (m.option d want) (λ h. option_from h)
  sound_at (m.returned d) t ts rest = by_move (m.returned d) t ts rest _ (λ p is fits all. returned_by d t ts rest p is fits all)
  sound_at (m.second d) t ts rest = sound_second d t ts rest t.kind refl
  sound_at (m.more_labels d) t ts rest = sound_more_labels d t ts rest t.kind refl
  sound_at (m.argument d) t ts rest = sound_argument d t ts rest t.kind refl
  sound_at (m.more_modifiers d) t ts rest = sound_more_modifiers d t ts rest t.kind refl
  sound_at (m.marking d) t ts rest = sound_marking d t ts rest t.kind refl
  sound_at (m.stat d) t ts rest = sound_stat d t ts rest t.kind refl
  sound_at (m.more_stats d) t ts rest = sound_more_stats d t ts rest t.kind refl
  sound_at (m.elsifs d) t ts rest = sound_elsifs d t ts rest t.kind refl
  sound_at (m.otherwise d) t ts rest = sound_else d t ts rest t.kind refl
  sound_at (m.case d) t ts rest = case_by d t ts rest (m.after (m.expr d) t.kind) refl
  sound_at (m.more_cases d) t ts rest = sound_more_cases d t ts rest t.kind refl
  sound_at (m.block d) t ts rest = sound_block d t ts rest t.kind refl

pub sound : y.Sound m.table Yields
sound may z t ts rest p is fits all =
    let s : IfSome (Some p) (λ q. may q.0 ts ≡ true → y.All (Yields may) q.1 ts rest → Yields may z (t ∷ ts) rest) =
    subst (λ move. IfSome move (λ q. may q.0 ts ≡ true → y.All (Yields may) q.1 ts rest → Yields may z (t ∷ ts) rest)) is (sound_at may z t ts rest) in
    s fits all

pub empty : y.Empty m.table Yields
empty may (m.part z) need us = a_part (expr.empty may z need us)
empty may (m.option d want) need us = an_option g.no_option
empty may (m.returned d) need us = none_returned
empty may (m.second d) need us = no_second
empty may (m.more_labels d) need us = some_more_labels g.no_more_labels
empty may (m.argument d) need us = no_argument
empty may (m.marking d) need us = a_marking v.unmarked
empty may (m.stat d) need us = a_stat g.empty
empty may (m.more_stats d) need us = some_more_stats g.no_more_stats
empty may (m.elsifs d) need us = some_elsifs g.no_elsifs
empty may (m.otherwise d) need us = an_else g.no_else
empty may (m.case d) need us = a_case g.no_arm
empty may (m.more_cases d) need us = some_more_cases g.no_more_cases
empty may (m.word_expr d want) need us = absurd (cc)
empty may (m.more_modifiers d) need us = absurd (cc)
empty may (m.block d) need us = absurd (cc)

-- what can come in a symbol's place, with the least nesting first
abbrev token : TokenKind → Token
token c = record { kind = c; start = 0; end = 0; pos = record { line = 0; col = 0 }; value = Rattle.std.specs.Prelude.pos 0 }

an_expr : (may : Rule) (d : ℕ) (rest : List Token) → y.Free may (length (token k.Minus ∷ (token k.Number ∷ rest))) → (a : Expr) × IsExpr may d a (token k.Minus ∷ (token k.Number ∷ rest)) rest
an_expr may d rest free = (_, x.alone (x.signed refl (free (d + 1) (token k.Number ∷ rest) (omega arith)) (x.term (x.number refl (free (d + 1 + 1) rest (omega arith))) x.no_products) x.no_additions))

pub sample : (z : Sym) (n : ℕ) → m.needs z ≡ Some n → y.Sample m.table Yields z n
sample (m.part z) n need = sample_up e.table m.table m.part exprs_in expr.Yields Yields up down z n (expr.sample z n need)
sample (m.word_expr d want) n need = (
  token want,
  token k.Minus ∷ token k.Number ∷ [],
  λ may rest fits free.
      a_word_expr (words.word refl (subst (λ q. may q (token k.Minus ∷ token k.Number ∷ rest) ≡ true) (let a : n ≡ d = cc in a) fits)) (an_expr may d rest (λ i vs h. free i vs (omega arith))).1,
)
sample (m.more_modifiers d) n need = (token k.CloseBrace, [], λ may rest fits free. some_more_modifiers (g.no_more_modifiers (words.word refl (subst (λ q. may q rest ≡ true) (let a : n ≡ d = cc in a) fits))))
sample (m.block d) n need = (
  token k.KwBegin,
  token k.KwEnd ∷ [],
  λ may rest fits free.
      a_block (g.unmodified (words.word refl (subst (λ q. may q (token k.KwEnd ∷ rest) ≡ true) (let a : n ≡ d = cc in a) fits)) (g.stats g.empty g.no_more_stats) (words.word refl (free d rest (omega arith)))),
)
sample (m.option d want) n need = absurd (cc)
sample (m.returned d) n need = absurd (cc)
sample (m.second d) n need = absurd (cc)
sample (m.more_labels d) n need = absurd (cc)
sample (m.argument d) n need = absurd (cc)
sample (m.marking d) n need = absurd (cc)
sample (m.stat d) n need = absurd (cc)
sample (m.more_stats d) n need = absurd (cc)
sample (m.elsifs d) n need = absurd (cc)
sample (m.otherwise d) n need = absurd (cc)
sample (m.case d) n need = absurd (cc)
sample (m.more_cases d) n need = absurd (cc)

pub only_takes : (c : TokenKind) → m.after (m.tok 0 c) c ≡ Some (0, [])
only_takes c = ap by_part (expr.only_takes c)

-- the nesting that is open round a symbol
abbrev pub depth_of : Sym → ℕ
depth_of (m.part z) = expr.depth_of z
depth_of (m.word_expr d want) = d
depth_of (m.option d want) = d
depth_of (m.returned d) = d
depth_of (m.second d) = d
depth_of (m.more_labels d) = d
depth_of (m.argument d) = d
depth_of (m.more_modifiers d) = d
depth_of (m.marking d) = d
depth_of (m.stat d) = d
depth_of (m.more_stats d) = d
depth_of (m.elsifs d) = d
depth_of (m.otherwise d) = d
depth_of (m.case d) = d
depth_of (m.more_cases d) = d
depth_of (m.block d) = d

abbrev FallsTo : ℕ → Stack → Type 0
FallsTo d xs = falling.FallsTo m.table depth_of d xs

-- a move at n or deeper, whose symbols fall to d
abbrev Falls : ℕ → ℕ → Move → Type 0
Falls n d move = IfSome move (λ p. (n ≤ p.0) × FallsTo d p.1)

falls_onward : (n d l : ℕ) (move : Move) (xs : Stack) → l ≤ n → Falls n d move → FallsTo l xs → falling.first_or m.table depth_of l xs ≤ d → Falls l l (onward move xs)
falls_onward n d l None xs le f h less = tt
falls_onward n d l (Some p) xs le f h less = let a : n ≤ p.0 = f.0 in (omega arith, falling.falls_on m.table depth_of l d p.1 xs f.1 h less)

-- the moves of a symbol of expressions
falls_part : (z : e.Sym) (move : e.Move) (n : ℕ) → ((p : ℕ × e.Stack) → move ≡ Some p → n ≤ p.0) → ((p : ℕ × e.Stack) → move ≡ Some p → falling.FallsTo e.table expr.depth_of (expr.depth_of z) p.1) → Falls n (expr.depth_of z) (by_part move)
falls_part z None n least falls = tt
falls_part z (Some p) n least falls =
    (least p refl, subst (λ q. FallsTo (expr.depth_of z) q) (sym (lifted p.1)) (falls_up e.table m.table m.part exprs_in expr.depth_of depth_of (λ q. refl) (expr.depth_of z) p.1 (falls p refl)))

falls_low : (z : e.Sym) (c : TokenKind) → Falls (expr.depth_of z) (expr.depth_of z) (by_part (e.after z c))
falls_low z c = falls_part z (e.after z c) (expr.depth_of z) (λ p is. expr.low z c p is) (λ p is. expr.falls z c p is)

falls_needed : (z : e.Sym) (c : TokenKind) (n : ℕ) → e.needs z ≡ Some n → Falls n (expr.depth_of z) (by_part (e.after z c))
falls_needed z c n need = falls_part z (e.after z c) n (λ p is. expr.floor z c p n is need) (λ p is. expr.falls z c p is)

falls_expr : (d : ℕ) (c : TokenKind) → Falls (d + 1) d (by_part (e.after_expr d c))
falls_expr d c = falls_needed (e.expr d) c (d + 1) refl

tok_falls : (d : ℕ) (same : Bool) (p : ℕ × e.Stack) → (if same then Some (d, []) else None) ≡ Some p → p ≡ (d, [])
tok_falls d true p at = cc
tok_falls d false p at = absurd (cc)

falls_word_expr : (d : ℕ) (move : e.Move) → ((p : ℕ × e.Stack) → move ≡ Some p → p ≡ (d, [])) → Falls d d (onward (by_part move) (m.expr d ∷ []))
falls_word_expr d None known = tt
falls_word_expr d (Some p) known = subst (λ q. (d ≤ q.0) × FallsTo d (m.parts q.1 ++ m.expr d ∷ [])) (sym (known p refl)) (omega arith, (omega arith, tt))

falls_second : (d : ℕ) (c : TokenKind) → Falls d d (m.after_second d c)
falls_second d k.Period = (omega arith, (omega arith, tt))
falls_second d _ = tt

falls_more_labels : (d : ℕ) (c : TokenKind) → Falls d d (m.after_more_labels d c)
falls_more_labels d k.Comma = (omega arith, (omega arith, (omega arith, (omega arith, tt))))
falls_more_labels d _ = tt

falls_argument : (d : ℕ) (c : TokenKind) → Falls d d (m.after_argument d c)
falls_argument d k.OpenParen = (omega arith, (omega arith, (omega arith, tt)))
falls_argument d _ = tt

falls_more_modifiers : (d : ℕ) (c : TokenKind) → Falls d d (m.after_more_modifiers d c)
falls_more_modifiers d k.Comma = (omega arith, (omega arith, (omega arith, (omega arith, tt))))
falls_more_modifiers d k.CloseBrace = (omega arith, tt)
falls_more_modifiers d _ = tt

falls_marking : (d : ℕ) (c : TokenKind) → Falls d d (m.after_marking d c)
falls_marking d k.OpenBrace = (omega arith, (omega arith, (omega arith, (omega arith, tt))))
falls_marking d _ = tt

falls_stat : (d : ℕ) (c : TokenKind) → Falls d d (m.after_stat d c)
falls_stat d k.Ident = (omega arith, (omega arith, (omega arith, tt)))
falls_stat d k.KwBegin = (omega arith, (omega arith, (omega arith, (omega arith, (omega arith, tt)))))
falls_stat d k.KwExit = (omega arith, tt)
falls_stat d k.KwReturn = (omega arith, (omega arith, tt))
falls_stat d k.KwAwait = (omega arith, (omega arith, (omega arith, tt)))
falls_stat d k.KwIf = (omega arith, (omega arith, (omega arith, (omega arith, (omega arith, (omega arith, (omega arith, (omega arith, tt))))))))
falls_stat d k.KwCase = (omega arith, (omega arith, (omega arith, (omega arith, (omega arith, (omega arith, (omega arith, tt)))))))
falls_stat d k.KwWhile = (omega arith, (omega arith, (omega arith, (omega arith, (omega arith, (omega arith, tt))))))
falls_stat d k.KwRepeat = (omega arith, (omega arith, (omega arith, (omega arith, tt))))
falls_stat d k.KwLoop = (omega arith, (omega arith, (omega arith, (omega arith, tt))))
falls_stat d k.KwFor = (omega arith, (omega arith, (omega arith, (omega arith, (omega arith, (omega arith, (omega arith, (omega arith, (omega arith, tt)))))))))
falls_stat d k.KwWith = (omega arith, (omega arith, (omega arith, (omega arith, (omega arith, (omega arith, (omega arith, (omega arith, (omega arith, (omega arith, tt))))))))))
falls_stat d _ = tt

falls_more_stats : (d : ℕ) (c : TokenKind) → Falls d d (m.after_more_stats d c)
falls_more_stats d k.Semicolon = (omega arith, (omega arith, (omega arith, tt)))
falls_more_stats d _ = tt

falls_elsifs : (d : ℕ) (c : TokenKind) → Falls d d (m.after_elsifs d c)
falls_elsifs d k.KwElsif = (omega arith, (omega arith, (omega arith, (omega arith, (omega arith, (omega arith, tt))))))
falls_elsifs d _ = tt

falls_else : (d : ℕ) (c : TokenKind) → Falls d d (m.after_otherwise d c)
falls_else d k.KwElse = (omega arith, (omega arith, (omega arith, tt)))
falls_else d _ = tt

falls_more_cases : (d : ℕ) (c : TokenKind) → Falls d d (m.after_more_cases d c)
falls_more_cases d k.Bar = (omega arith, (omega arith, (omega arith, tt)))
falls_more_cases d _ = tt

falls_block : (d : ℕ) (c : TokenKind) → Falls d d (m.after_block d c)
falls_block d k.KwBegin = (omega arith, (omega arith, (omega arith, (omega arith, (omega arith, tt)))))
falls_block d _ = tt

falls_returned : (d : ℕ) (move : Move) → Falls (d + 1) d move → Falls d d move
falls_returned d None f = tt
falls_returned d (Some p) f = let a : d + 1 ≤ p.0 = f.0 in (omega arith, f.1)

-- the least nesting of a token in a symbol's place
abbrev least : Sym → ℕ
least z = unwrap_or (m.needs z) (depth_of z)

part_by : (z : e.Sym) (c : TokenKind) (q : Option ℕ) → e.needs z ≡ q → Falls (unwrap_or q (expr.depth_of z)) (expr.depth_of z) (by_part (e.after z c))
part_by z c None need = falls_low z c
part_by z c (Some n) need = falls_needed z c n need

falls_at : (z : Sym) (c : TokenKind) → Falls (least z) (depth_of z) (m.after z c)
falls_at (m.part z) c = part_by z c (e.needs z) refl
falls_at (m.word_expr d want) c = falls_word_expr d (e.after_tok d want c) (λ p is. tok_falls d _ p is)
falls_at (m.option d want) c = falls_word_expr d (e.after_tok d want c) (λ p is. tok_falls d _ p is)
falls_at (m.returned d) c = falls_returned d (by_part (e.after_expr d c)) (falls_expr d c)
falls_at (m.second d) c = falls_second d c
falls_at (m.more_labels d) c = falls_more_labels d c
falls_at (m.argument d) c = falls_argument d c
falls_at (m.more_modifiers d) c = falls_more_modifiers d c
falls_at (m.marking d) c = falls_marking d c
falls_at (m.stat d) c = falls_stat d c
falls_at (m.more_stats d) c = falls_more_stats d c
falls_at (m.elsifs d) c = falls_elsifs d c
falls_at (m.otherwise d) c = falls_else d c
falls_at (m.case d) c = falls_onward (d + 1) d d (by_part (e.after_expr d c)) (m.option d k.Range ∷ m.more_labels d ∷ m.tok d k.Colon ∷ m.stats d) (omega arith) (falls_expr d c)
    (omega arith, (omega arith, (omega arith, (omega arith, (omega arith, tt))))) (omega arith)
falls_at (m.more_cases d) c = falls_more_cases d c
falls_at (m.block d) c = falls_block d c

low_at : (z : Sym) (c : TokenKind) → Falls (depth_of z) (depth_of z) (m.after z c)
low_at (m.part z) c = falls_low z c
low_at (m.word_expr d want) c = falls_at (m.word_expr d want) c
low_at (m.option d want) c = falls_at (m.option d want) c
low_at (m.returned d) c = falls_at (m.returned d) c
low_at (m.second d) c = falls_at (m.second d) c
low_at (m.more_labels d) c = falls_at (m.more_labels d) c
low_at (m.argument d) c = falls_at (m.argument d) c
low_at (m.more_modifiers d) c = falls_at (m.more_modifiers d) c
low_at (m.marking d) c = falls_at (m.marking d) c
low_at (m.stat d) c = falls_at (m.stat d) c
low_at (m.more_stats d) c = falls_at (m.more_stats d) c
low_at (m.elsifs d) c = falls_at (m.elsifs d) c
low_at (m.otherwise d) c = falls_at (m.otherwise d) c
low_at (m.case d) c = falls_at (m.case d) c
low_at (m.more_cases d) c = falls_at (m.more_cases d) c
low_at (m.block d) c = falls_at (m.block d) c

falls_for : (z : Sym) (c : TokenKind) (p : ℕ × Stack) → m.after z c ≡ Some p → (least z ≤ p.0) × FallsTo (depth_of z) p.1
falls_for z c p is = subst (λ move. Falls (least z) (depth_of z) move) is (falls_at z c)

pub low : (z : Sym) (c : TokenKind) (p : ℕ × Stack) → m.after z c ≡ Some p → depth_of z ≤ p.0
low z c p is = (subst (λ move. Falls (depth_of z) (depth_of z) move) is (low_at z c)).0

pub floor : (z : Sym) (c : TokenKind) (p : ℕ × Stack) (n : ℕ) → m.after z c ≡ Some p → m.needs z ≡ Some n → n ≤ p.0
floor z c p n is need = subst (λ q. unwrap_or q (depth_of z) ≤ p.0) need (falls_for z c p is).0

pub falls : (z : Sym) (c : TokenKind) (p : ℕ × Stack) → m.after z c ≡ Some p → FallsTo (depth_of z) p.1
falls z c p is = (falls_for z c p is).1
