-- Each production of a statement at its first token.
use Rattle.std.proofs.Common.{◌≡◌, ℕ, ◌+◌, ◌++◌, List, [], ◌∷◌, true, false, Some, None, refl, sym, ap, ◌∙◌, append_assoc}
use Rattle.std.specs.Prelude.{◌≢◌}
use Rattle.aos_scan.specs.declared.token.Token.{Token}
use Rattle.aos_scan.specs.declared.token.TokenKind.{TokenKind}
use Rattle.aos_scan.specs.declared.token.TokenKind.TheVariants as k
use Rattle.aos_tree.specs.Nesting.{shallow}
use Rattle.aos_tree.specs.Ended.{IsEnded}
use Rattle.aos_parse_expr.specs.Machine.{Step, refuses, shifts, or_else, run}
use Rattle.aos_parse_expr.specs.Machine as machine
use Rattle.aos_parse_expr.specs.Symbols as e
use Rattle.aos_parse_expr.proofs.Compose.{Embeds, lift, lift_move}
use Rattle.aos_parse_expr.proofs.Productions as q
use Rattle.aos_parse_expr.proofs.Steps as by
use Rattle.aos_parse_expr.proofs.Words.{tok_is, tok_not}
use Rattle.aos_parse_stat.specs.Symbols as m
use Rattle.aos_parse_stat.specs.Symbols.{Sym, Stack, Move, onward, parts, by_part}

abbrev pub step : Stack → TokenKind → Step Sym
step xs c = machine.step m.table xs c

pub lifted : (xs : e.Stack) → parts xs ≡ lift m.part xs
lifted [] = refl
lifted (x ∷ xs) = ap (λ q. m.part x ∷ q) (lifted xs)

lifted_move : (move : e.Move) → by_part move ≡ lift_move m.part move
lifted_move None = refl
lifted_move (Some p) = ap (λ q. Some (p.0, q)) (lifted p.1)

-- the table of expressions stands in that of statements
pub exprs_in : Embeds e.table m.table m.part
exprs_in = record { after_is = λ x c. lifted_move (e.after x c); needs_is = λ x. refl }

onward_or : (move : Move) (xs j : Stack) (other : Step Sym) → or_else (onward move xs) j other ≡ or_else move (xs ++ j) other
onward_or None xs j other = refl
onward_or (Some p) xs j other = ap (λ s. shifts p.0 s) (append_assoc p.1 xs j)

-- a word of a kind, alone and with an expression after it
pub word_expr_is : (d : ℕ) (want c : TokenKind) → c ≡ want → m.after_word_expr d want c ≡ Some (d, m.expr d ∷ [])
word_expr_is d want c is = ap (λ z. onward (by_part z) (m.expr d ∷ [])) (tok_is d want c is)

pub word_expr_not : (d : ℕ) (want c : TokenKind) → c ≢ want → m.after_word_expr d want c ≡ None
word_expr_not d want c isnt = ap (λ z. onward (by_part z) (m.expr d ∷ [])) (tok_not d want c isnt)

pub word_is : (d : ℕ) (want c : TokenKind) → c ≡ want → m.after (m.tok d want) c ≡ Some (d, [])
word_is d want c is = ap by_part (tok_is d want c is)

pub word_not : (d : ℕ) (want c : TokenKind) → c ≢ want → m.after (m.tok d want) c ≡ None
word_not d want c isnt = ap by_part (tok_not d want c isnt)

-- where an expression begins
expr_starts : (d : ℕ) (c : TokenKind) → e.starts_expr c ≡ true → (p : ℕ × e.Stack) × (e.after_expr d c ≡ Some p)
expr_starts d k.Plus h = (_, refl)
expr_starts d k.Minus h = (_, refl)
expr_starts d k.Ident h = (_, refl)
expr_starts d k.Number h = (_, refl)
expr_starts d k.Char h = (_, refl)
expr_starts d k.Text h = (_, refl)
expr_starts d k.KwNil h = (_, refl)
expr_starts d k.OpenBrace h = (_, refl)
expr_starts d k.OpenParen h = (_, refl)
expr_starts d k.Tilde h = (_, refl)
expr_starts d _ h = absurd (cc)

-- a move that is there doesn't ask what comes after it
or_there : (move : Move) (p : ℕ × Stack) (j : Stack) (other another : Step Sym) → move ≡ Some p → or_else move j other ≡ or_else move j another
or_there move p j other another is = ap (λ z. or_else z j other) is ∙ sym (ap (λ z. or_else z j another) is)

pub returned_at : (d : ℕ) (c : TokenKind) (j : Stack) → e.starts_expr c ≡ true → step (m.returned d ∷ j) c ≡ step (m.expr d ∷ j) c
returned_at d c j h =
    let s = expr_starts d c h in
    or_there (by_part (e.after_expr d c)) (s.0.0, parts s.0.1) j (step j c) (refuses (d + 1)) (ap by_part s.1)

pub case_at : (d : ℕ) (c : TokenKind) (j : Stack) → e.starts_expr c ≡ true → step (m.case d ∷ j) c ≡ step (m.expr d ∷ m.option d k.Range ∷ m.more_labels d ∷ m.tok d k.Colon ∷ m.stat d ∷ m.more_stats d ∷ j) c
case_at d c j h =
    let s = expr_starts d c h in
    onward_or (by_part (e.after_expr d c)) (m.option d k.Range ∷ m.more_labels d ∷ m.tok d k.Colon ∷ m.stats d) j (step j c)
    ∙ or_there (by_part (e.after_expr d c)) (s.0.0, parts s.0.1) (m.option d k.Range ∷ m.more_labels d ∷ m.tok d k.Colon ∷ m.stat d ∷ m.more_stats d ∷ j) (step j c) (refuses (d + 1)) (ap by_part s.1)

pub no_returned : (d : ℕ) (c : TokenKind) → e.starts_expr c ≡ false → m.after (m.returned d) c ≡ None
no_returned d c h = ap by_part (q.no_expr d c h)

pub no_case : (d : ℕ) (c : TokenKind) → e.starts_expr c ≡ false → m.after_case d c ≡ None
no_case d c h = ap (λ z. onward (by_part z) (m.option d k.Range ∷ m.more_labels d ∷ m.tok d k.Colon ∷ m.stats d)) (q.no_expr d c h)

-- where a statement begins
pub stat_starts : (d : ℕ) (c : TokenKind) → m.starts_stat c ≡ true → (xs : Stack) × (m.after_stat d c ≡ Some (d + 1, xs))
stat_starts d k.Ident h = (_, refl)
stat_starts d k.KwBegin h = (_, refl)
stat_starts d k.KwExit h = (_, refl)
stat_starts d k.KwReturn h = (_, refl)
stat_starts d k.KwAwait h = (_, refl)
stat_starts d k.KwIf h = (_, refl)
stat_starts d k.KwCase h = (_, refl)
stat_starts d k.KwWhile h = (_, refl)
stat_starts d k.KwRepeat h = (_, refl)
stat_starts d k.KwLoop h = (_, refl)
stat_starts d k.KwFor h = (_, refl)
stat_starts d k.KwWith h = (_, refl)
stat_starts d _ h = absurd (cc)

pub no_stat : (d : ℕ) (c : TokenKind) → m.starts_stat c ≡ false → m.after_stat d c ≡ None
no_stat d k.Ident h = absurd (cc)
no_stat d k.KwBegin h = absurd (cc)
no_stat d k.KwExit h = absurd (cc)
no_stat d k.KwReturn h = absurd (cc)
no_stat d k.KwAwait h = absurd (cc)
no_stat d k.KwIf h = absurd (cc)
no_stat d k.KwCase h = absurd (cc)
no_stat d k.KwWhile h = absurd (cc)
no_stat d k.KwRepeat h = absurd (cc)
no_stat d k.KwLoop h = absurd (cc)
no_stat d k.KwFor h = absurd (cc)
no_stat d k.KwWith h = absurd (cc)
no_stat d _ h = refl

pub none_stat : (d : ℕ) (c : TokenKind) → c ≢ k.Ident → c ≢ k.KwBegin → c ≢ k.KwExit → c ≢ k.KwReturn → c ≢ k.KwAwait → c ≢ k.KwIf → c ≢ k.KwCase → c ≢ k.KwWhile → c ≢ k.KwRepeat → c ≢ k.KwLoop → c ≢ k.KwFor → c ≢ k.KwWith → m.after_stat d c ≡ None
none_stat d k.Ident h0 h1 h2 h3 h4 h5 h6 h7 h8 h9 h10 h11 = absurd (h0 refl)
none_stat d k.KwBegin h0 h1 h2 h3 h4 h5 h6 h7 h8 h9 h10 h11 = absurd (h1 refl)
none_stat d k.KwExit h0 h1 h2 h3 h4 h5 h6 h7 h8 h9 h10 h11 = absurd (h2 refl)
none_stat d k.KwReturn h0 h1 h2 h3 h4 h5 h6 h7 h8 h9 h10 h11 = absurd (h3 refl)
none_stat d k.KwAwait h0 h1 h2 h3 h4 h5 h6 h7 h8 h9 h10 h11 = absurd (h4 refl)
none_stat d k.KwIf h0 h1 h2 h3 h4 h5 h6 h7 h8 h9 h10 h11 = absurd (h5 refl)
none_stat d k.KwCase h0 h1 h2 h3 h4 h5 h6 h7 h8 h9 h10 h11 = absurd (h6 refl)
none_stat d k.KwWhile h0 h1 h2 h3 h4 h5 h6 h7 h8 h9 h10 h11 = absurd (h7 refl)
none_stat d k.KwRepeat h0 h1 h2 h3 h4 h5 h6 h7 h8 h9 h10 h11 = absurd (h8 refl)
none_stat d k.KwLoop h0 h1 h2 h3 h4 h5 h6 h7 h8 h9 h10 h11 = absurd (h9 refl)
none_stat d k.KwFor h0 h1 h2 h3 h4 h5 h6 h7 h8 h9 h10 h11 = absurd (h10 refl)
none_stat d k.KwWith h0 h1 h2 h3 h4 h5 h6 h7 h8 h9 h10 h11 = absurd (h11 refl)
none_stat d _ h0 h1 h2 h3 h4 h5 h6 h7 h8 h9 h10 h11 = refl

pub stat_ident : (d : ℕ) (c : TokenKind) → c ≡ k.Ident → (j : Stack) → step (m.stat d ∷ j) c ≡ step (m.desig (d + 1) ∷ m.option (d + 1) k.Becomes ∷ j) c
stat_ident d k.Ident is j = refl
stat_ident d _ is j = absurd (cc)

pub stat_block : (d : ℕ) (c : TokenKind) → c ≡ k.KwBegin → (j : Stack) → step (m.stat d ∷ j) c ≡ step (m.block (d + 1) ∷ j) c
stat_block d k.KwBegin is j = refl
stat_block d _ is j = absurd (cc)

-- what a token can't go on with
pub no_second : (d : ℕ) (c : TokenKind) → c ≢ k.Period → m.after_second d c ≡ None
no_second d k.Period h = absurd (h refl)
no_second d _ h = refl

pub no_more_labels : (d : ℕ) (c : TokenKind) → c ≢ k.Comma → m.after_more_labels d c ≡ None
no_more_labels d k.Comma h = absurd (h refl)
no_more_labels d _ h = refl

pub no_argument : (d : ℕ) (c : TokenKind) → c ≢ k.OpenParen → m.after_argument d c ≡ None
no_argument d k.OpenParen h = absurd (h refl)
no_argument d _ h = refl

pub no_more_modifiers : (d : ℕ) (c : TokenKind) → c ≢ k.Comma → c ≢ k.CloseBrace → m.after_more_modifiers d c ≡ None
no_more_modifiers d k.Comma a b = absurd (a refl)
no_more_modifiers d k.CloseBrace a b = absurd (b refl)
no_more_modifiers d _ a b = refl

pub no_marking : (d : ℕ) (c : TokenKind) → c ≢ k.OpenBrace → m.after_marking d c ≡ None
no_marking d k.OpenBrace h = absurd (h refl)
no_marking d _ h = refl

pub unmarked_at : (d : ℕ) (c : TokenKind) (j : Stack) → c ≢ k.OpenBrace → step (m.marking d ∷ j) c ≡ step j c
unmarked_at d c j h = ap (λ z. or_else z j (step j c)) (no_marking d c h)

pub no_more_stats : (d : ℕ) (c : TokenKind) → c ≢ k.Semicolon → m.after_more_stats d c ≡ None
no_more_stats d k.Semicolon h = absurd (h refl)
no_more_stats d _ h = refl

pub no_elsifs : (d : ℕ) (c : TokenKind) → c ≢ k.KwElsif → m.after_elsifs d c ≡ None
no_elsifs d k.KwElsif h = absurd (h refl)
no_elsifs d _ h = refl

pub no_otherwise : (d : ℕ) (c : TokenKind) → c ≢ k.KwElse → m.after_otherwise d c ≡ None
no_otherwise d k.KwElse h = absurd (h refl)
no_otherwise d _ h = refl

pub no_more_cases : (d : ℕ) (c : TokenKind) → c ≢ k.Bar → m.after_more_cases d c ≡ None
no_more_cases d k.Bar h = absurd (h refl)
no_more_cases d _ h = refl

block_at : (d : ℕ) (c : TokenKind) (j : Stack) → step (m.block d ∷ j) c ≡ step (m.tok d k.KwBegin ∷ (m.block_rest d ++ j)) c
block_at d k.KwBegin j = refl
block_at d _ j = refl

pub to_block : (ts : List Token) → IsEnded ts → (d : ℕ) (j : Stack) → run m.table shallow ts (m.block d ∷ j) ≡ run m.table shallow ts (m.tok d k.KwBegin ∷ (m.block_rest d ++ j))
to_block ts ended d = by.expands m.table shallow ts ended (m.block d) (m.tok d k.KwBegin) (m.block_rest d) (block_at d)
